-- A plan of files comes to one answer at most.
use Rattle.std.proofs.Common.{◌≡◌, ◌∙◌, ℕ, List, Option, sym, ap, subst, refl}
use Rattle.base_io.specs.Files.{Files}
use Rattle.base_io.specs.declared.place.Place.{Place}
use Rattle.board_table.specs.declared.board.Board.{Board}
use Rattle.flow_graph.specs.declared.graph.Graph.{Graph}
use Rattle.lowered_graphs.specs.GraphOf.{graph_of}
use Rattle.program_texts.specs.Front.{IsGraphOfText}
use Rattle.job_files.specs.Answers.{Answer, IsDecided, done, refused}
use Rattle.job_files.specs.Boards.{IsNoBoard}
use Rattle.job_files.specs.Reads.{AreHad, two_texts}
use Rattle.job_files.specs.Refusals.{Refusal, board_refused, program_refused}
use Rattle.job_files.specs.Text.{Text}
use Rattle.job_files.specs.declared.refusal.BoardRefusal.{BoardRefusal}
use Rattle.job_files.specs.declared.refusal.ProgramRefusal.{ProgramRefusal}
use Rattle.job_files.proofs.OneBoard.{board_or, no_board_same, one_board_with}
use Rattle.job_files.proofs.OneFinding.{Finding, found, one_finding, reading_found}
use Rattle.program_files.specs.Programs.{IsNoProgram}
use Rattle.program_files.proofs.OneProgram.{no_program_same, program_or, same_program}
use Rattle.plan_job.specs.Graphs.{Fits, RefusesGraph}
use Rattle.plan_job.specs.Plan.{Plan, plan_files}
use Rattle.plan_job.specs.Planning.{AreGiven, PlanCauses, RefusesPlanFiles}
use Rattle.plan_job.proofs.OneGraph.{one_refusal, refused_or_planned}

-- a text has one graph
one_graph : (text : Text) (g h : Graph) → IsGraphOfText text g → IsGraphOfText text h → g ≡ h
one_graph text g h is also = is.graph ∙ ap graph_of (same_program text is.program also.program is.is_text also.is_text) ∙ sym also.graph

-- ---- Two texts come to one answer

-- what two texts come to
data Verdict (wanted : Option ℕ) (text bytes : Text) : Answer → Type 0 where
  no_text : (f : ProgramRefusal) (at : Place) → IsNoProgram text f at → Verdict wanted text bytes (refused (program_refused f at))
  board : (g : Graph) (kind : BoardRefusal) (key : Text) → IsGraphOfText text g → IsNoBoard bytes kind key → Verdict wanted text bytes (refused (board_refused kind key))
  lacks : (g : Graph) (b : Board) (r : Refusal) → AreGiven wanted text bytes g b → RefusesGraph b g r → Verdict wanted text bytes (refused r)
  fits : (g : Graph) (b : Board) → AreGiven wanted text bytes g b → Fits b g → Verdict wanted text bytes done

module _ (wanted : Option ℕ) (text bytes : Text) where
  -- a text with a graph has no fault
  graph_or : (g : Graph) (f : ProgramRefusal) (at : Place) → IsGraphOfText text g → IsNoProgram text f at → ⊥
  graph_or g f at is h = program_or text is.program f at is.is_text h

  fault_verdict : (f : ProgramRefusal) (at : Place) → IsNoProgram text f at → (a : Answer) → Verdict wanted text bytes a → refused (program_refused f at) ≡ a
  fault_verdict f at h _ (no_text g place k) = ap refused (no_program_same text f g at place h k)
  fault_verdict f at h _ (board g kind key is k) = absurd (graph_or g f at is h)
  fault_verdict f at h _ (lacks g b r given k) = absurd (graph_or g f at given.graph h)
  fault_verdict f at h _ (fits g b given k) = absurd (graph_or g f at given.graph h)

  board_verdict : (g : Graph) (kind : BoardRefusal) (key : Text) → IsGraphOfText text g → IsNoBoard bytes kind key → (a : Answer) → Verdict wanted text bytes a → refused (board_refused kind key) ≡ a
  board_verdict g kind key is h _ (no_text f at k) = absurd (graph_or g f at is k)
  board_verdict g kind key is h _ (board q also keys u k) = ap refused (no_board_same bytes kind also key keys h k)
  board_verdict g kind key is h _ (lacks q b r given k) = absurd (board_or wanted bytes b kind key given.board_file h)
  board_verdict g kind key is h _ (fits q b given k) = absurd (board_or wanted bytes b kind key given.board_file h)

  -- a graph and a board are one
  refused_here : (g q : Graph) (b c : Board) (r : Refusal) → AreGiven wanted text bytes g b → AreGiven wanted text bytes q c → RefusesGraph b g r → RefusesGraph c q r
  refused_here g q b c r x y h =
      subst (λ z. RefusesGraph z q r) (one_board_with wanted bytes b c x.board_file y.board_file)
      (subst (λ z. RefusesGraph b z r) (one_graph text g q x.graph y.graph) h)

  lacks_verdict : (g : Graph) (b : Board) (r : Refusal) → AreGiven wanted text bytes g b → RefusesGraph b g r → (a : Answer) → Verdict wanted text bytes a → refused r ≡ a
  lacks_verdict g b r given h _ (no_text f at k) = absurd (graph_or g f at given.graph k)
  lacks_verdict g b r given h _ (board q kind key is k) = absurd (board_or wanted bytes b kind key given.board_file k)
  lacks_verdict g b r given h _ (lacks q c s also k) = ap refused (one_refusal c q r s (refused_here g q b c r given also h) k)
  lacks_verdict g b r given h _ (fits q c also k) = absurd (refused_or_planned c q r (refused_here g q b c r given also h) k)

  fits_verdict : (g : Graph) (b : Board) → AreGiven wanted text bytes g b → Fits b g → (a : Answer) → Verdict wanted text bytes a → done ≡ a
  fits_verdict g b given h _ (no_text f at k) = absurd (graph_or g f at given.graph k)
  fits_verdict g b given h _ (board q kind key is k) = absurd (board_or wanted bytes b kind key given.board_file k)
  fits_verdict g b given h _ (lacks q c r also k) = absurd (refused_or_planned b g r (refused_here q g c b r also given k) h)
  fits_verdict g b given h _ (fits q c also k) = refl

one_verdict : (wanted : Option ℕ) (text bytes : Text) (a b : Answer) → Verdict wanted text bytes a → Verdict wanted text bytes b → a ≡ b
one_verdict wanted text bytes _ b (no_text f at h) k = fault_verdict wanted text bytes f at h b k
one_verdict wanted text bytes _ b (board g kind key is h) k = board_verdict wanted text bytes g kind key is h b k
one_verdict wanted text bytes _ b (lacks g c r given h) k = lacks_verdict wanted text bytes g c r given h b k
one_verdict wanted text bytes _ b (fits g c given h) k = fits_verdict wanted text bytes g c given h b k

-- ---- Files come to one answer

abbrev TextsCome : Plan → List Text → Answer → Type 0
TextsCome job texts a = (text : Text) × (bytes : Text) × (texts ≡ two_texts text bytes) × Verdict job.budget text bytes a

two_same : (p i q j : Text) → two_texts p i ≡ two_texts q j → (p ≡ q) × (i ≡ j)
two_same p i q j e = (let one : p ≡ q = cc in one, let other : i ≡ j = cc in other)

module _ (job : Plan) (files : Files) where
  abbrev PlanFinding : Answer → Type 0
  PlanFinding a = Finding files (plan_files job) (TextsCome job) a

  one_of_texts : (texts : List Text) (a b : Answer) → TextsCome job texts a → TextsCome job texts b → a ≡ b
  one_of_texts texts a b (p, i, e, v) (q, j, f, w) =
      let same = two_same q j p i (sym f ∙ e) in
      one_verdict job.budget p i a b v (subst (λ x. Verdict job.budget p x b) same.1 (subst (λ x. Verdict job.budget x j b) same.0 w))

  texts_found : (text bytes : Text) (a : Answer) → AreHad files (plan_files job) (two_texts text bytes) → Verdict job.budget text bytes a → PlanFinding a
  texts_found text bytes a had v = found (two_texts text bytes) a had (text, bytes, refl, v)

  refused_found : (r : Refusal) → RefusesPlanFiles job files r → PlanFinding (refused r)
  refused_found (program_refused fault place) h = texts_found h.0 h.1 (refused (program_refused fault place)) h.2 (no_text fault place h.3)
  refused_found (board_refused kind key) h = texts_found h.0 h.1 (refused (board_refused kind key)) h.2 (board h.3.0.0 kind key h.3.0.1 h.3.1)
  refused_found r h = texts_found h.0 h.1 (refused r) h.2 (lacks h.3.0 h.3.1 r h.3.2 h.3.3)

  plan_finding : (a : Answer) → IsDecided a → PlanCauses job files a → PlanFinding a
  plan_finding done d h = texts_found h.text h.bytes done h.read (fits h.graph h.board h.given h.fits)
  plan_finding a d h = reading_found files (plan_files job) (TextsCome job) (RefusesPlanFiles job files) refused_found a d h

  pub one_plan_cause : (a b : Answer) → IsDecided a → IsDecided b → PlanCauses job files a → PlanCauses job files b → a ≡ b
  one_plan_cause a b d e h k = one_finding files (plan_files job) (TextsCome job) one_of_texts a b (plan_finding a d h) (plan_finding b e k)
