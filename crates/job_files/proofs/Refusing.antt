-- A job that doesn't begin: its files aren't had, or what they hold is refused.
use Rattle.std.proofs.Common.{◌≡◌, ℕ, List, Result, Ok, Err, MatchResult}
use Rattle.base_io.specs.Files.{Files}
use Rattle.job_files.specs.Answers.{Answer, IsRefusedFor, answer_of, no_memory, refused}
use Rattle.job_files.specs.Reads.{AreNotHad, CountsReading, CountsUnhad, ReadingCauses, Wanted}
use Rattle.job_files.specs.Refusals.{Refusal}
use Rattle.job_files.specs.Text.{Text}
use Rattle.job_files.specs.declared.status.Status.{Status}

-- what is refused for one reason is refused for another that follows
pub refused_on : (P Q : Refusal → Type 0) → ((r : Refusal) → P r → Q r) → (a : Answer) → IsRefusedFor P a → IsRefusedFor Q a
refused_on P Q f (refused r) h = f r h
refused_on P Q f no_memory h = tt
refused_on P Q f a h = absurd h

module _ (files : Files) (ws : List Wanted) (P : Refusal → Type 0) where
  pub unhad_causes : (a : Answer) → AreNotHad files ws a → ReadingCauses files ws P a
  unhad_causes (refused r) h = absurd h
  unhad_causes a h = h

  pub refused_causes : (a : Answer) → IsRefusedFor P a → ReadingCauses files ws P a
  refused_causes (refused r) h = h
  refused_causes no_memory h = tt
  refused_causes a h = absurd h

-- ---- and by the count

module _ (ws : List Wanted) (P : Refusal → Type 0) (before now : ℕ) (bad : Text) where
  pub unhad_counts : (a : Answer) → CountsUnhad ws before now bad a → CountsReading ws P before now bad a
  unhad_counts (refused r) h = absurd h
  unhad_counts a h = h

  pub refused_counts : now ≡ before → (a : Answer) → IsRefusedFor P a → CountsReading ws P before now bad a
  refused_counts same (refused r) h = (h, same)
  refused_counts same no_memory h = tt
  refused_counts same a h = absurd h

  -- what was read comes to a value, or is refused
  pub read_counts : {T : Type 0} (Q : T → Type 0) (r : Result T Status) → now ≡ before → MatchResult r Q (λ s. IsRefusedFor P (answer_of s))
      → MatchResult r (λ x. now ≡ before) (λ s. CountsReading ws P before now bad (answer_of s))
  read_counts Q (Ok x) same h = same
  read_counts Q (Err s) same h = refused_counts same (answer_of s) h
