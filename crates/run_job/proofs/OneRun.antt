-- A run of files and boxes comes to one answer at most, if no box fails.
use Rattle.std.proofs.Common.{◌≡◌, ℕ, List, [], ◌∷◌, Option, Some, None, sym, subst, ap, ap₂, ◌∙◌, refl, inl, inr}
use Rattle.base_io.specs.Files.{Files}
use Rattle.job_parts.specs.Input.{bad_piece, pieces_of}
use Rattle.msp430_machine.specs.declared.answer.Refill.{Refill}
use Rattle.supply_trace.specs.Rows.{SpellsRows, bad_line, lines_of}
use Rattle.supplied_run.specs.declared.end.End.{End}
use Rattle.supplied_run.specs.declared.end.End.TheVariants as end
use Rattle.supplied_run.proofs.OneRun.{IsSure, ends_alike}
use Rattle.ti_txt.proofs.Loading.{holds_one}
use Rattle.job_files.specs.Answers.{Answer, IsDecided, Stop, came_of, done, machine_fault, power_fault, refused, step_limit, stopped, supply_ended, supply_fault, trapped}
use Rattle.job_files.specs.Boards.{IsNoBoard}
use Rattle.job_files.specs.Images.{IsNoImage}
use Rattle.job_files.specs.Reads.{AreHad}
use Rattle.job_files.specs.Refusals.{Refusal, board_refused, image_refused, text_refused}
use Rattle.job_files.specs.Text.{Text}
use Rattle.job_files.specs.declared.refusal.BoardRefusal.{BoardRefusal}
use Rattle.job_files.specs.declared.refusal.ImageRefusal.{ImageRefusal}
use Rattle.job_files.proofs.OneBoard.{board_or, no_board_same, one_board_with}
use Rattle.job_files.proofs.OneFinding.{Finding, found, one_finding, reading_found}
use Rattle.job_files.proofs.OneImage.{image_or, image_same}
use Rattle.job_files.proofs.OneInput.{input_or, none_some, place_same}
use Rattle.run_job.specs.Boxes.{Box}
use Rattle.run_job.specs.Run.{Run, RunTexts, run_files, texts_in}
use Rattle.run_job.specs.Running.{AreHeld, IsBadSupply, IsBadText, IsBoardText, IsImageText, IsRunOf, RefusesRunFiles, RunCauses, RunHolds, RunsTo, SpellEach, end_of}

run_texts_same : (t u : RunTexts) → texts_in t ≡ texts_in u → t ≡ u
run_texts_same t u e =
    let image : t.image ≡ u.image = cc in
    let board : t.board ≡ u.board = cc in
    let input : t.input ≡ u.input = cc in
    let supplies : t.supplies ≡ u.supplies = cc in
    λ i. record { image = image i; board = board i; input = input i; supplies = supplies i }

rows_or : (text : Text) (rows : List Refill) (at : ℕ) → SpellsRows text rows → bad_line 0 (lines_of text) ≡ Some at → ⊥
rows_or text rows at h g = none_some at (sym h.0 ∙ g)

each_or : (names texts : List Text) (rows : List (List Refill)) (name : Text) (at : ℕ) → SpellEach texts rows → IsBadSupply names texts name at → ⊥
each_or [] texts rows name at h g = g
each_or (n ∷ names) [] rows name at h g = g
each_or (n ∷ names) (t ∷ texts) [] name at h g = h
each_or (n ∷ names) (t ∷ texts) (r ∷ rows) name at h (inl bad) = rows_or t r at h.0 bad.1
each_or (n ∷ names) (t ∷ texts) (r ∷ rows) name at h (inr more) = each_or names texts rows name at h.1 more.1

supply_same : (names texts : List Text) (m n : Text) (k l : ℕ) → IsBadSupply names texts m k → IsBadSupply names texts n l → text_refused m k ≡ text_refused n l
supply_same [] texts m n k l h g = absurd h
supply_same (x ∷ names) [] m n k l h g = absurd h
supply_same (x ∷ names) (t ∷ texts) m n k l (inl h) (inl g) =
    ap₂ (λ a b. text_refused a b) (h.0 ∙ sym g.0) (place_same (bad_line 0 (lines_of t)) k l h.1 g.1)
supply_same (x ∷ names) (t ∷ texts) m n k l (inl h) (inr g) = absurd (rows_or t g.0.0 k g.0.1 h.1)
supply_same (x ∷ names) (t ∷ texts) m n k l (inr h) (inl g) = absurd (rows_or t h.0.0 l h.0.1 g.1)
supply_same (x ∷ names) (t ∷ texts) m n k l (inr h) (inr g) = supply_same names texts m n k l h.1 g.1

text_same : (job : Run) (t : RunTexts) (m n : Text) (k l : ℕ) → IsBadText job t m k → IsBadText job t n l → text_refused m k ≡ text_refused n l
text_same job t m n k l (inl h) (inl g) = ap₂ (λ a b. text_refused a b) (h.0 ∙ sym g.0) (place_same (bad_piece 0 (pieces_of t.input)) k l h.1 g.1)
text_same job t m n k l (inl h) (inr g) = absurd (input_or t.input g.0.0 k g.0.1 h.1)
text_same job t m n k l (inr h) (inl g) = absurd (input_or t.input h.0.0 l h.0.1 g.1)
text_same job t m n k l (inr h) (inr g) = supply_same job.supplies t.supplies m n k l h.1 g.1

text_or : (job : Run) (t : RunTexts) (held : RunHolds) (name : Text) (at : ℕ) → AreHeld job.budget t held → IsBadText job t name at → ⊥
text_or job t held name at h (inl bad) = input_or t.input held.input at h.input bad.1
text_or job t held name at h (inr bad) = each_or job.supplies t.supplies held.rows name at h.rows bad.1

each_same : (texts : List Text) (rows more : List (List Refill)) → SpellEach texts rows → SpellEach texts more → rows ≡ more
each_same [] [] [] h k = refl
each_same [] [] (r ∷ more) h k = absurd k
each_same [] (r ∷ rows) more h k = absurd h
each_same (t ∷ texts) [] more h k = absurd h
each_same (t ∷ texts) (r ∷ rows) [] h k = absurd k
each_same (t ∷ texts) (r ∷ rows) (s ∷ more) h k = ap₂ (λ a l. a ∷ l) (h.0.1 ∙ sym k.0.1) (each_same texts rows more h.1 k.1)

held_same : (budget : Option ℕ) (t : RunTexts) (a b : RunHolds) → AreHeld budget t a → AreHeld budget t b → a ≡ b
held_same budget t a b h k =
    let image : a.image ≡ b.image = holds_one t.image a.image b.image h.image k.image in
    let board : a.board ≡ b.board = one_board_with budget t.board a.board b.board h.board k.board in
    let input : a.input ≡ b.input = h.input.1 ∙ sym k.input.1 in
    let rows : a.rows ≡ b.rows = each_same t.supplies a.rows b.rows h.rows k.rows in
    λ i. record { image = image i; board = board i; input = input i; rows = rows i }

-- ---- What the texts come to

pub data Verdict (job : Run) (boxes : List Box) (t : RunTexts) : Answer → Type 0 where
  no_image : (k : ImageRefusal) (at : ℕ) → IsNoImage t.image k at → Verdict job boxes t (refused (image_refused k at))
  no_board : (k : BoardRefusal) (key : Text) → IsImageText t.image → IsNoBoard t.board k key → Verdict job boxes t (refused (board_refused k key))
  no_text : (name : Text) (at : ℕ) → IsImageText t.image → IsBoardText t.board → IsBadText job t name at → Verdict job boxes t (refused (text_refused name at))
  runs : (held : RunHolds) (e : End) → IsSure e → AreHeld job.budget t held → IsRunOf job.steps boxes held e → Verdict job boxes t (came_of e)

module _ (job : Run) (boxes : List Box) (t : RunTexts) where
  runs_same : (a b : RunHolds) (e f : End) → IsSure e → IsSure f → AreHeld job.budget t a → AreHeld job.budget t b → IsRunOf job.steps boxes a e → IsRunOf job.steps boxes b f → e ≡ f
  runs_same a b e f d k h g p q =
      let r = subst (λ (s : RunHolds). IsRunOf job.steps boxes s f) (held_same job.budget t b a g h) q in
      ends_alike a.board a.input job.steps a.image p.first r.first _ p.left r.left p.trail r.trail e f d k p.is_loaded r.is_loaded p.reaches r.reaches p.ends r.ends

  one_verdict : (a b : Answer) → Verdict job boxes t a → Verdict job boxes t b → a ≡ b
  one_verdict _ _ (no_image k m h) (no_image l n g) = ap refused (image_same t.image k l m n h g)
  one_verdict _ _ (no_image k m h) (no_board l key i g) = absurd (image_or t.image i.0 k m i.1 h)
  one_verdict _ _ (no_image k m h) (no_text name at i b g) = absurd (image_or t.image i.0 k m i.1 h)
  one_verdict _ _ (no_image k m h) (runs held e d s g) = absurd (image_or t.image held.image k m s.image h)
  one_verdict _ _ (no_board l key i g) (no_image k m h) = absurd (image_or t.image i.0 k m i.1 h)
  one_verdict _ _ (no_board k m i h) (no_board l n j g) =
      ap refused (no_board_same t.board k l m n h g)
  one_verdict _ _ (no_board k m i h) (no_text name at j b g) = absurd (board_or None t.board b.0 k m b.1 h)
  one_verdict _ _ (no_board k m i h) (runs held e d s g) = absurd (board_or job.budget t.board held.board k m s.board h)
  one_verdict _ _ (no_text name at i b g) (no_image k m h) = absurd (image_or t.image i.0 k m i.1 h)
  one_verdict _ _ (no_text name at j b g) (no_board k m i h) = absurd (board_or None t.board b.0 k m b.1 h)
  one_verdict _ _ (no_text m k i b h) (no_text n l j c g) = ap refused (text_same job t m n k l h g)
  one_verdict _ _ (no_text m k i b h) (runs held e d s g) = absurd (text_or job t held m k s h)
  one_verdict _ _ (runs held e d s g) (no_image k m h) = absurd (image_or t.image held.image k m s.image h)
  one_verdict _ _ (runs held e d s g) (no_board k m i h) = absurd (board_or job.budget t.board held.board k m s.board h)
  one_verdict _ _ (runs held e d s g) (no_text m k i b h) = absurd (text_or job t held m k s h)
  one_verdict _ _ (runs a e d h p) (runs b f k g q) = ap came_of (runs_same a b e f d k h g p q)

-- ---- What the files come to

abbrev TextsCome : Run → List Box → List Text → Answer → Type 0
TextsCome job boxes texts a = (t : RunTexts) × (texts ≡ texts_in t) × Verdict job boxes t a

module _ (job : Run) (files : Files) (boxes : List Box) where
  abbrev RunFinding : Answer → Type 0
  RunFinding a = Finding files (run_files job) (TextsCome job boxes) a

  one_of_texts : (texts : List Text) (a b : Answer) → TextsCome job boxes texts a → TextsCome job boxes texts b → a ≡ b
  one_of_texts texts a b (t, e, v) (u, f, w) = one_verdict job boxes t a b v (subst (λ (x : RunTexts). Verdict job boxes x b) (run_texts_same u t (sym f ∙ e)) w)

  texts_found : (t : RunTexts) (a : Answer) → AreHad files (run_files job) (texts_in t) → Verdict job boxes t a → RunFinding a
  texts_found t a had v = found (texts_in t) a had (t, refl, v)

  ran : (e : End) → IsSure e → RunsTo job files boxes e → RunFinding (came_of e)
  ran e d h = texts_found h.texts (came_of e) h.had (runs h.held e d h.are_held h.is_run)

  stop_found : (s : Stop) → IsDecided (stopped s) → RunsTo job files boxes (end_of s) → RunFinding (stopped s)
  stop_found (trapped n) d h = ran (end.Trapped n) tt h
  stop_found supply_ended d h = ran end.SupplyEnded tt h
  stop_found step_limit d h = ran end.StepLimit tt h
  stop_found power_fault d h = ran end.PowerFault tt h
  stop_found (machine_fault pc why) d h = ran (end.MachineFault pc why) tt h
  stop_found supply_fault d h = absurd d

  refused_found : (r : Refusal) → RefusesRunFiles job files r → RunFinding (refused r)
  refused_found (image_refused k at) h = texts_found h.0 (refused (image_refused k at)) h.1 (no_image k at h.2)
  refused_found (board_refused k key) h = texts_found h.0 (refused (board_refused k key)) h.1 (no_board k key h.2.0 h.2.1)
  refused_found (text_refused name at) h = texts_found h.0 (refused (text_refused name at)) h.1 (no_text name at h.2.0 h.2.1 h.2.2)
  refused_found r h = absurd h.2

  run_finding : (a : Answer) → IsDecided a → RunCauses job files boxes a → RunFinding a
  run_finding done d h = ran (end.Ended h.0) tt h.1
  run_finding (stopped s) d h = stop_found s d h
  run_finding a d h = reading_found files (run_files job) (TextsCome job boxes) (RefusesRunFiles job files) refused_found a d h

  pub one_run_cause : (a b : Answer) → IsDecided a → IsDecided b → RunCauses job files boxes a → RunCauses job files boxes b → a ≡ b
  one_run_cause a b d e h k = one_finding files (run_files job) (TextsCome job boxes) one_of_texts a b (run_finding a d h) (run_finding b e k)
