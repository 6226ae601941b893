-- A say of files comes to one answer at most.
use Rattle.std.proofs.Common.{◌≡◌, ℕ, List, Some, sym, subst, ap, ap₂, ◌∙◌, refl}
use Rattle.base_io.specs.Files.{Files}
use Rattle.base_io.specs.declared.place.Place.{Place}
use Rattle.c_tree.specs.Meaning.{meaning}
use Rattle.c_tree.specs.declared.tree.Program.{Program}
use Rattle.job_parts.specs.Input.{bad_piece, pieces_of}
use Rattle.plain_meaning.specs.Behaviour.{Outcome, Going, EndedWith, TrappedWith}
use Rattle.program_texts.specs.Front.{IsTextOf}
use Rattle.program_texts.specs.Shown.{end_of}
use Rattle.job_files.specs.Answers.{Answer, IsDecided, Stop, came_of, done, refused, step_limit, stopped, trapped}
use Rattle.job_files.specs.Reads.{AreHad, two_texts}
use Rattle.job_files.specs.Refusals.{Refusal, program_refused, text_refused}
use Rattle.job_files.specs.Text.{Text}
use Rattle.job_files.specs.declared.refusal.ProgramRefusal.{ProgramRefusal}
use Rattle.job_files.proofs.OneFinding.{Finding, found, one_finding, reading_found}
use Rattle.job_files.proofs.OneInput.{input_or, place_same}
use Rattle.program_files.specs.Programs.{IsNoProgram}
use Rattle.program_files.proofs.OneProgram.{no_program_same, program_or, same_program}
use Rattle.say_job.specs.Say.{Say, say_files}
use Rattle.say_job.specs.Saying.{AreOf, RefusesSayFiles, SayCauses, SayStops, Stands}

-- ---- What two texts come to

pub data Verdict (job : Say) (program input : Text) : Answer → Type 0 where
  no_program : (f : ProgramRefusal) (at : Place) → IsNoProgram program f at → Verdict job program input (refused (program_refused f at))
  no_input : (p : Program) (at : ℕ) → IsTextOf program p → bad_piece 0 (pieces_of input) ≡ Some at → Verdict job program input (refused (text_refused job.input at))
  stands : (p : Program) (words : List ℕ) → AreOf program input p words → Verdict job program input (came_of (end_of (meaning p words job.steps).outcome))

module _ (job : Say) (program input : Text) where
  come_same : (p q : Program) (v w : List ℕ) → AreOf program input p v → AreOf program input q w → came_of (end_of (meaning p v job.steps).outcome) ≡ came_of (end_of (meaning q w job.steps).outcome)
  come_same p q v w a b =
      ap₂ (λ (r : Program) (l : List ℕ). came_of (end_of (meaning r l job.steps).outcome)) (same_program program p q a.is_text b.is_text) (a.spells.1 ∙ sym b.spells.1)

  one_verdict : (a b : Answer) → Verdict job program input a → Verdict job program input b → a ≡ b
  one_verdict _ _ (no_program f m h) (no_program g n k) = ap refused (no_program_same program f g m n h k)
  one_verdict _ _ (no_program f m h) (no_input p at t k) = absurd (program_or program p f m t h)
  one_verdict _ _ (no_program f m h) (stands p w k) = absurd (program_or program p f m k.is_text h)
  one_verdict _ _ (no_input p at t k) (no_program f m h) = absurd (program_or program p f m t h)
  one_verdict _ _ (no_input p m t h) (no_input q n u k) = ap (λ x. refused (text_refused job.input x)) (place_same (bad_piece 0 (pieces_of input)) m n h k)
  one_verdict _ _ (no_input p at t h) (stands q w k) = absurd (input_or input w at k.spells h)
  one_verdict _ _ (stands p w k) (no_program f m h) = absurd (program_or program p f m k.is_text h)
  one_verdict _ _ (stands q w k) (no_input p at t h) = absurd (input_or input w at k.spells h)
  one_verdict _ _ (stands p v h) (stands q w k) = come_same p q v w h k

-- ---- What the files come to

abbrev TextsCome : Say → List Text → Answer → Type 0
TextsCome job texts a = (program : Text) × (input : Text) × (texts ≡ two_texts program input) × Verdict job program input a

two_same : (p i q j : Text) → two_texts p i ≡ two_texts q j → (p ≡ q) × (i ≡ j)
two_same p i q j e = (let one : p ≡ q = cc in one, let other : i ≡ j = cc in other)

module _ (job : Say) (files : Files) where
  abbrev SayFinding : Answer → Type 0
  SayFinding a = Finding files (say_files job) (TextsCome job) a

  one_of_texts : (texts : List Text) (a b : Answer) → TextsCome job texts a → TextsCome job texts b → a ≡ b
  one_of_texts texts a b (p, i, e, v) (q, j, f, w) =
      let same = two_same q j p i (sym f ∙ e) in
      one_verdict job p i a b v (subst (λ x. Verdict job p x b) same.1 (subst (λ x. Verdict job x j b) same.0 w))

  texts_found : (program input : Text) (a : Answer) → AreHad files (say_files job) (two_texts program input) → Verdict job program input a → SayFinding a
  texts_found program input a had v = found (two_texts program input) a had (program, input, refl, v)

  -- what a program stands at is what its answer tells
  stands_found : (o : Outcome) → Stands job files o → SayFinding (came_of (end_of o))
  stands_found o (p, words, held, is) =
      subst (λ x. SayFinding (came_of (end_of x))) is
      (texts_found held.program held.input (came_of (end_of (meaning p words job.steps).outcome)) held.had (stands p words held.are))

  stop_found : (s : Stop) → SayStops job files s → SayFinding (stopped s)
  stop_found (trapped n) h = stands_found (TrappedWith n) h
  stop_found step_limit h = stands_found Going h
  stop_found s h = absurd h

  refused_found : (r : Refusal) → RefusesSayFiles job files r → SayFinding (refused r)
  refused_found (program_refused fault place) h = texts_found h.0 h.1 (refused (program_refused fault place)) h.2 (no_program fault place h.3)
  refused_found (text_refused name at) h =
      subst (λ x. SayFinding (refused (text_refused x at))) (sym h.3.1.0) (texts_found h.0 h.1 (refused (text_refused job.input at)) h.2 (no_input h.3.0.0 at h.3.0.1 h.3.1.1))
  refused_found r h = absurd h.3

  say_finding : (a : Answer) → IsDecided a → SayCauses job files a → SayFinding a
  say_finding done d (w, h) = stands_found (EndedWith w) h
  say_finding (stopped stop) d h = stop_found stop h
  say_finding a d h = reading_found files (say_files job) (TextsCome job) (RefusesSayFiles job files) refused_found a d h

  pub one_say_cause : (a b : Answer) → IsDecided a → IsDecided b → SayCauses job files a → SayCauses job files b → a ≡ b
  one_say_cause a b d e h k = one_finding files (say_files job) (TextsCome job) one_of_texts a b (say_finding a d h) (say_finding b e k)
