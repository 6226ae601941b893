-- What is read of the files of a check comes to one answer.
use Rattle.std.proofs.Common.{◌≡◌, ℕ, Option, Result, Ok, Err, IfSome, MatchResult}
use Rattle.base_io.specs.Files.{Files}
use Rattle.job_files.specs.Answers.{Answer, IsRefusedFor, answer_of, done}
use Rattle.job_files.specs.Reads.{AreHad, AreNotHad, CountsReading, CountsUnhad, ReadingCauses}
use Rattle.job_files.specs.Text.{Text}
use Rattle.job_files.specs.declared.status.Status.{Status}
use Rattle.job_files.proofs.Refusing.{refused_causes, refused_counts, refused_on, unhad_causes, unhad_counts}
use Rattle.job_files.proofs.Telling.{map_told}
use Rattle.check_job.specs.Check.{Check, CheckTexts, check_files, texts_in}
use Rattle.check_job.specs.Checking.{AreCertified, AreCertifiedFiles, CheckCauses, RefusesCheck, RefusesCheckFiles, RefusesCheckTexts}

module _ (job : Check) where
  -- a check that isn't done answers as every job does that reads its files
  reading_cause : (files : Files) (a : Answer) → ReadingCauses files (check_files job) (RefusesCheckFiles job files) a → CheckCauses job files a
  reading_cause files done h = absurd h
  reading_cause files a h = h

  pub unhad_told : (o : Option Files) (a : Answer) → IfSome o (λ f. AreNotHad f (check_files job) a) → IfSome o (λ f. CheckCauses job f a)
  unhad_told o a h =
      map_told o (λ f. AreNotHad f (check_files job) a) (λ f. CheckCauses job f a) (λ f k. reading_cause f a (unhad_causes f (check_files job) (RefusesCheckFiles job f) a k)) h

  pub unhad_counted : (before now : ℕ) (bad : Text) (a : Answer) → CountsUnhad (check_files job) before now bad a → CountsReading (check_files job) (RefusesCheck job) before now bad a
  unhad_counted before now bad a h = unhad_counts (check_files job) (RefusesCheck job) before now bad a h

  -- ---- What texts come to

  module _ {T : Type 0} (t : CheckTexts) (r : Result T Status)
      (comes : MatchResult r (λ x. AreCertified job.budget t) (λ s. IsRefusedFor (RefusesCheckTexts job t) (answer_of s))) where
    pub texts_told : (o : Option Files) → IfSome o (λ f. AreHad f (check_files job) (texts_in t))
        → IfSome o (λ f. MatchResult r (λ x. AreCertifiedFiles job f) (λ s. CheckCauses job f (answer_of s)))
    texts_told o had =
        map_told o (λ f. AreHad f (check_files job) (texts_in t)) (λ f. MatchResult r (λ x. AreCertifiedFiles job f) (λ s. CheckCauses job f (answer_of s)))
        (λ f k. here f k r comes) had
      where
        here : (f : Files) → AreHad f (check_files job) (texts_in t) → (r : Result T Status)
            → MatchResult r (λ x. AreCertified job.budget t) (λ s. IsRefusedFor (RefusesCheckTexts job t) (answer_of s))
            → MatchResult r (λ x. AreCertifiedFiles job f) (λ s. CheckCauses job f (answer_of s))
        here f k (Ok x) h = (t, k, h)
        here f k (Err s) h =
            reading_cause f (answer_of s)
            (refused_causes f (check_files job) (RefusesCheckFiles job f) (answer_of s)
            (refused_on (RefusesCheckTexts job t) (RefusesCheckFiles job f) (λ x why. (t, k, why)) (answer_of s) h))

    pub texts_counted : (before now : ℕ) (bad : Text) → now ≡ before
        → MatchResult r (λ x. now ≡ before) (λ s. CountsReading (check_files job) (RefusesCheck job) before now bad (answer_of s))
    texts_counted before now bad same = here r comes
      where
        here : (r : Result T Status) → MatchResult r (λ x. AreCertified job.budget t) (λ s. IsRefusedFor (RefusesCheckTexts job t) (answer_of s))
            → MatchResult r (λ x. now ≡ before) (λ s. CountsReading (check_files job) (RefusesCheck job) before now bad (answer_of s))
        here (Ok x) h = same
        here (Err s) h =
            refused_counts (check_files job) (RefusesCheck job) before now bad same (answer_of s)
            (refused_on (RefusesCheckTexts job t) (RefusesCheck job) (λ x why. (t, why)) (answer_of s) h)
