-- A build of files comes to one answer at most.
use Rattle.std.proofs.Common.{◌≡◌, ℕ, List, Option, sym, subst, ap, ◌∙◌, refl}
use Rattle.base_io.specs.Files.{Files}
use Rattle.base_io.specs.declared.place.Place.{Place}
use Rattle.board_table.specs.declared.board.Board.{Board}
use Rattle.ti_txt.specs.Image.{Block}
use Rattle.c_tree.specs.declared.tree.Program.{Program}
use Rattle.lowered_graphs.specs.GraphOf.{graph_of}
use Rattle.graph_code.specs.Order.{IsAlone}
use Rattle.job_files.specs.Answers.{Answer, IsDecided, done, refused, write_fault}
use Rattle.job_files.specs.Boards.{IsNoBoard}
use Rattle.job_files.specs.Reads.{AreHad, two_texts}
use Rattle.job_files.specs.Refusals.{Refusal, board_refused, form_not_built, program_refused}
use Rattle.job_files.specs.Text.{Text}
use Rattle.job_files.specs.declared.refusal.BoardRefusal.{BoardRefusal}
use Rattle.job_files.specs.declared.refusal.ProgramRefusal.{ProgramRefusal}
use Rattle.job_files.proofs.OneBoard.{board_or, no_board_same, one_board_with}
use Rattle.job_files.proofs.OneFinding.{Finding, found, one_finding, reading_found}
use Rattle.program_files.specs.Programs.{IsNoProgram}
use Rattle.program_files.proofs.OneProgram.{no_program_same, program_or, same_program}
use Rattle.build_job.specs.Build.{Build, build_files}
use Rattle.build_job.specs.Building.{AreGiven, BuildCauses, IsFine, RefusesBuildFiles}
use Rattle.build_job.specs.Images.{RefusesGraph}
use Rattle.build_job.specs.Programs.{IsLoneText, IsOtherText}
use Rattle.build_job.proofs.OneImage.{one_refusal, refused_or_emitted}

-- ---- A text comes to one reading

module _ (text : Text) where
  -- a text whose `main` calls nothing isn't of another form
  not_other : (p : Program) → IsOtherText text → IsLoneText text p → ⊥
  not_other p (q, t, other) k = other (subst (λ x. IsAlone (graph_of x)) (same_program text p q k.is_text t) k.alone)

-- ---- Two texts come to one answer

-- what two texts come to
data Verdict (wanted : Option ℕ) (text bytes : Text) : Answer → Type 0 where
  no_text : (f : ProgramRefusal) (at : Place) → IsNoProgram text f at → Verdict wanted text bytes (refused (program_refused f at))
  none : IsOtherText text → Verdict wanted text bytes (refused form_not_built)
  board : (p : Program) (kind : BoardRefusal) (key : Text) → IsLoneText text p → IsNoBoard bytes kind key → Verdict wanted text bytes (refused (board_refused kind key))
  lacks : (p : Program) (b : Board) (r : Refusal) → AreGiven wanted text bytes p b → RefusesGraph b (graph_of p) r → Verdict wanted text bytes (refused r)
  fine : (p : Program) (b : Board) (image : List Block) → IsFine wanted text bytes p b image → Verdict wanted text bytes done

module _ (wanted : Option ℕ) (text bytes : Text) where
  fault_verdict : (f : ProgramRefusal) (at : Place) → IsNoProgram text f at → (a : Answer) → Verdict wanted text bytes a → refused (program_refused f at) ≡ a
  fault_verdict f at h _ (no_text g place k) = ap refused (no_program_same text f g at place h k)
  fault_verdict f at h _ (none other) = absurd (program_or text other.0 f at other.1 h)
  fault_verdict f at h _ (board p kind key t k) = absurd (program_or text p f at t.is_text h)
  fault_verdict f at h _ (lacks p b r given k) = absurd (program_or text p f at given.program.is_text h)
  fault_verdict f at h _ (fine p b image k) = absurd (program_or text p f at k.given.program.is_text h)

  other_verdict : IsOtherText text → (a : Answer) → Verdict wanted text bytes a → refused form_not_built ≡ a
  other_verdict other _ (no_text f at h) = absurd (program_or text other.0 f at other.1 h)
  other_verdict other _ (none h) = refl
  other_verdict other _ (board p kind key t k) = absurd (not_other text p other t)
  other_verdict other _ (lacks p b r given k) = absurd (not_other text p other given.program)
  other_verdict other _ (fine p b image k) = absurd (not_other text p other k.given.program)

  board_verdict : (p : Program) (kind : BoardRefusal) (key : Text) → IsLoneText text p → IsNoBoard bytes kind key → (a : Answer) → Verdict wanted text bytes a → refused (board_refused kind key) ≡ a
  board_verdict p kind key t h _ (no_text f at k) = absurd (program_or text p f at t.is_text k)
  board_verdict p kind key t h _ (none k) = absurd (not_other text p k t)
  board_verdict p kind key t h _ (board q also keys u k) = ap refused (no_board_same bytes kind also key keys h k)
  board_verdict p kind key t h _ (lacks q b r given k) = absurd (board_or wanted bytes b kind key given.board_file h)
  board_verdict p kind key t h _ (fine q b image k) = absurd (board_or wanted bytes b kind key k.given.board_file h)

  -- a program and a board are one
  refused_here : (p q : Program) (b c : Board) (r : Refusal) → AreGiven wanted text bytes p b → AreGiven wanted text bytes q c → RefusesGraph b (graph_of p) r → RefusesGraph c (graph_of q) r
  refused_here p q b c r x y h =
      subst (λ z. RefusesGraph z (graph_of q) r) (one_board_with wanted bytes b c x.board_file y.board_file)
      (subst (λ z. RefusesGraph b (graph_of z) r) (same_program text p q x.program.is_text y.program.is_text) h)

  lacks_verdict : (p : Program) (b : Board) (r : Refusal) → AreGiven wanted text bytes p b → RefusesGraph b (graph_of p) r → (a : Answer) → Verdict wanted text bytes a → refused r ≡ a
  lacks_verdict p b r given h _ (no_text f at k) = absurd (program_or text p f at given.program.is_text k)
  lacks_verdict p b r given h _ (none k) = absurd (not_other text p k given.program)
  lacks_verdict p b r given h _ (board q kind key t k) = absurd (board_or wanted bytes b kind key given.board_file k)
  lacks_verdict p b r given h _ (lacks q c s also k) = ap refused (one_refusal c (graph_of q) r s (refused_here p q b c r given also h) k)
  lacks_verdict p b r given h _ (fine q c image k) = absurd (refused_or_emitted c (graph_of q) r image (refused_here p q b c r given k.given h) k.emitted)

  fine_verdict : (p : Program) (b : Board) (image : List Block) → IsFine wanted text bytes p b image → (a : Answer) → Verdict wanted text bytes a → done ≡ a
  fine_verdict p b image h _ (no_text f at k) = absurd (program_or text p f at h.given.program.is_text k)
  fine_verdict p b image h _ (none k) = absurd (not_other text p k h.given.program)
  fine_verdict p b image h _ (board q kind key t k) = absurd (board_or wanted bytes b kind key h.given.board_file k)
  fine_verdict p b image h _ (lacks q c r given k) = absurd (refused_or_emitted b (graph_of p) r image (refused_here q p c b r given h.given k) h.emitted)
  fine_verdict p b image h _ (fine q c other k) = refl

one_verdict : (wanted : Option ℕ) (text bytes : Text) (a b : Answer) → Verdict wanted text bytes a → Verdict wanted text bytes b → a ≡ b
one_verdict wanted text bytes _ b (no_text f at h) k = fault_verdict wanted text bytes f at h b k
one_verdict wanted text bytes _ b (none h) k = other_verdict wanted text bytes h b k
one_verdict wanted text bytes _ b (board p kind key t h) k = board_verdict wanted text bytes p kind key t h b k
one_verdict wanted text bytes _ b (lacks p c r given h) k = lacks_verdict wanted text bytes p c r given h b k
one_verdict wanted text bytes _ b (fine p c image h) k = fine_verdict wanted text bytes p c image h b k

-- ---- Files come to one answer

abbrev TextsCome : Build → List Text → Answer → Type 0
TextsCome job texts a = (text : Text) × (bytes : Text) × (texts ≡ two_texts text bytes) × Verdict job.budget text bytes a

two_same : (p i q j : Text) → two_texts p i ≡ two_texts q j → (p ≡ q) × (i ≡ j)
two_same p i q j e = (let one : p ≡ q = cc in one, let other : i ≡ j = cc in other)

module _ (job : Build) (files : Files) where
  abbrev BuildFinding : Answer → Type 0
  BuildFinding a = Finding files (build_files job) (TextsCome job) a

  one_of_texts : (texts : List Text) (a b : Answer) → TextsCome job texts a → TextsCome job texts b → a ≡ b
  one_of_texts texts a b (p, i, e, v) (q, j, f, w) =
      let same = two_same q j p i (sym f ∙ e) in
      one_verdict job.budget p i a b v (subst (λ x. Verdict job.budget p x b) same.1 (subst (λ x. Verdict job.budget x j b) same.0 w))

  texts_found : (text bytes : Text) (a : Answer) → AreHad files (build_files job) (two_texts text bytes) → Verdict job.budget text bytes a → BuildFinding a
  texts_found text bytes a had v = found (two_texts text bytes) a had (text, bytes, refl, v)

  refused_found : (r : Refusal) → RefusesBuildFiles job files r → BuildFinding (refused r)
  refused_found (program_refused fault place) h = texts_found h.0 h.1 (refused (program_refused fault place)) h.2 (no_text fault place h.3)
  refused_found form_not_built h = texts_found h.0 h.1 (refused form_not_built) h.2 (none h.3)
  refused_found (board_refused kind key) h = texts_found h.0 h.1 (refused (board_refused kind key)) h.2 (board h.3.0.0 kind key h.3.0.1 h.3.1)
  refused_found r h = texts_found h.0 h.1 (refused r) h.2 (lacks h.3.0 h.3.1 r h.3.2 h.3.3)

  build_finding : (a : Answer) → IsDecided a → BuildCauses job files a → BuildFinding a
  build_finding done d h = texts_found h.text h.bytes done h.read (fine h.program h.board h.image h.fine)
  build_finding (write_fault name) d h = absurd d
  build_finding a d h = reading_found files (build_files job) (TextsCome job) (RefusesBuildFiles job files) refused_found a d h

  pub one_build_cause : (a b : Answer) → IsDecided a → IsDecided b → BuildCauses job files a → BuildCauses job files b → a ≡ b
  one_build_cause a b d e h k = one_finding files (build_files job) (TextsCome job) one_of_texts a b (build_finding a d h) (build_finding b e k)
