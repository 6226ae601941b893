-- What is read of both files of a say comes to one answer.
use Rattle.std.proofs.Common.{◌≡◌, ℕ, Option, Result, Ok, Err, subst, IfSome, MatchResult, sym}
use Rattle.base_io.specs.Files.{Files}
use Rattle.c_tree.specs.declared.tree.Program.{Program}
use Rattle.program_texts.specs.Front.{IsTextOf}
use Rattle.job_files.specs.Answers.{Answer, IsRefusedFor, answer_of, done, stopped}
use Rattle.job_files.specs.Inputs.{IsBadInput, RefusesText}
use Rattle.job_files.specs.Reads.{AreHad, AreNotHad, CountsReading, CountsUnhad, ReadingCauses, two_texts}
use Rattle.job_files.specs.Refusals.{Refusal, program_refused, text_refused}
use Rattle.job_files.specs.Text.{Text}
use Rattle.job_files.specs.declared.status.Status.{Status}
use Rattle.job_files.proofs.Refusing.{refused_causes, refused_counts, refused_on, unhad_causes, unhad_counts}
use Rattle.job_files.proofs.Telling.{map_told}
use Rattle.program_files.specs.Programs.{RefusesProgram}
use Rattle.say_job.specs.Opening.{IsHeldOf, SayHolds}
use Rattle.say_job.specs.Say.{Say, say_files}
use Rattle.say_job.specs.Saying.{RefusesSay, RefusesSayFiles, RefusesSayTexts, SayCauses}
use Rattle.say_job.specs.declared.opened_say.OpenedSay.{OpenedSay}

module _ (job : Say) where
  -- a say that doesn't begin answers as every job does that reads its files
  reading_cause : (files : Files) (a : Answer) → ReadingCauses files (say_files job) (RefusesSayFiles job files) a → SayCauses job files a
  reading_cause files done h = absurd h
  reading_cause files (stopped s) h = absurd h
  reading_cause files a h = h

  pub unhad_told : (o : Option Files) (a : Answer) → IfSome o (λ f. AreNotHad f (say_files job) a) → IfSome o (λ f. SayCauses job f a)
  unhad_told o a h =
      map_told o (λ f. AreNotHad f (say_files job) a) (λ f. SayCauses job f a) (λ f k. reading_cause f a (unhad_causes f (say_files job) (RefusesSayFiles job f) a k)) h

  pub unhad_counted : (before now : ℕ) (bad : Text) (a : Answer) → CountsUnhad (say_files job) before now bad a → CountsReading (say_files job) (RefusesSay job) before now bad a
  unhad_counted before now bad a h = unhad_counts (say_files job) (RefusesSay job) before now bad a h

  -- what texts come to
  abbrev pub ComesOf : Text → Text → Result OpenedSay Status → Type 0
  ComesOf program input r = MatchResult r (λ s. IsHeldOf job program input s) (λ s. IsRefusedFor (RefusesSayTexts job program input) (answer_of s))

  held_here : (files : Files) (program input : Text) → AreHad files (say_files job) (two_texts program input) → (r : Result OpenedSay Status) → ComesOf program input r
      → MatchResult r (λ s. SayHolds job files s) (λ s. SayCauses job files (answer_of s))
  held_here files program input had (Ok s) h = (record { program = program; input = input; had = had; are = h.0 }, h.1)
  held_here files program input had (Err s) h =
      reading_cause files (answer_of s)
      (refused_causes files (say_files job) (RefusesSayFiles job files) (answer_of s)
      (refused_on (RefusesSayTexts job program input) (RefusesSayFiles job files) (λ x k. (program, input, had, k)) (answer_of s) h))

  pub held_told : (o : Option Files) (first second program input : Text) (r : Result OpenedSay Status) → program ≡ first → input ≡ second
      → IfSome o (λ files. AreHad files (say_files job) (two_texts first second)) → ComesOf program input r
      → IfSome o (λ files. MatchResult r (λ s. SayHolds job files s) (λ s. SayCauses job files (answer_of s)))
  held_told o first second program input r e f had h =
      map_told o (λ files. AreHad files (say_files job) (two_texts first second)) (λ files. MatchResult r (λ s. SayHolds job files s) (λ s. SayCauses job files (answer_of s)))
      (λ files k. held_here files program input
      (subst (λ x. AreHad files (say_files job) (two_texts x input)) (sym e) (subst (λ x. AreHad files (say_files job) (two_texts first x)) (sym f) k)) r h) had

  pub held_counts : (program input : Text) (before now : ℕ) (bad : Text) (r : Result OpenedSay Status) → now ≡ before → ComesOf program input r
      → MatchResult r (λ s. now ≡ before) (λ s. CountsReading (say_files job) (RefusesSay job) before now bad (answer_of s))
  held_counts program input before now bad (Ok s) same h = same
  held_counts program input before now bad (Err s) same h =
      refused_counts (say_files job) (RefusesSay job) before now bad same (answer_of s)
      (refused_on (RefusesSayTexts job program input) (RefusesSay job) (λ x k. (program, input, k)) (answer_of s) h)

-- ---- The texts

program_refuses : (job : Say) (program input : Text) (r : Refusal) → RefusesProgram program r → RefusesSayTexts job program input r
program_refuses job program input (program_refused f at) h = h
program_refuses job program input r h = absurd h

input_refuses : (job : Say) (program input : Text) (p : Program) → IsTextOf program p → (r : Refusal) → RefusesText (IsBadInput job.input input) r → RefusesSayTexts job program input r
input_refuses job program input p is (text_refused n at) h = ((p, is), h)
input_refuses job program input p is r h = absurd h

pub program_lost : (job : Say) (program input : Text) (a : Answer) → IsRefusedFor (RefusesProgram program) a → IsRefusedFor (RefusesSayTexts job program input) a
program_lost job program input a h = refused_on (RefusesProgram program) (RefusesSayTexts job program input) (program_refuses job program input) a h

pub input_lost : (job : Say) (program input : Text) (p : Program) → IsTextOf program p → (a : Answer) → IsRefusedFor (RefusesText (IsBadInput job.input input)) a → IsRefusedFor (RefusesSayTexts job program input) a
input_lost job program input p is a h = refused_on (RefusesText (IsBadInput job.input input)) (RefusesSayTexts job program input) (input_refuses job program input p is) a h
