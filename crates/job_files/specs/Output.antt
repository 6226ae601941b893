-- The output: what it tells, its count of faults, and a line that is put.
use Rattle.std.specs.Prelude.{◌≡◌, ◌≤◌, ◌⊎◌, ◌++◌, ℕ, length, take, Option, Some, None, ⊤}
use Rattle.base_io.specs.Counts.{Rose}
use Rattle.job_files.specs.Answers.{Answer, no_memory, write_fault}
use Rattle.job_files.specs.Text.{Text, output}

pub record Sunk : Type 0 where
  pub told : Option Text
  pub faults : ℕ

abbrev pub sunk_of : {K : Type 0} → (K → Option Text) → (K → ℕ) → K → Sunk
sunk_of told faults k = record { told = told k; faults = faults k }

abbrev pub AllTold : Text → Option Text → Option Text → Type 0
AllTold line (Some old) (Some new) = new ≡ old ++ line
AllTold line None None = ⊤
AllTold line (Some old) None = ⊥
AllTold line None (Some new) = ⊥

abbrev pub FrontTold : Text → Option Text → Option Text → Type 0
FrontTold line (Some old) (Some new) = (n : ℕ) × (n ≤ length line) × (new ≡ old ++ take n line)
FrontTold line None None = ⊤
FrontTold line (Some old) None = ⊥
FrontTold line None (Some new) = ⊥

-- the line was put, and the answer is what the job came to
pub record IsWholePut (came : Answer) (line : Text) (old new : Sunk) (a : Answer) : Type 0 where
  pub answer : a ≡ came
  pub told : AllTold line old.told new.told
  pub faults : new.faults ≡ old.faults

-- the output failed
pub record IsFailedPut (line : Text) (old new : Sunk) (a : Answer) : Type 0 where
  pub answer : a ≡ write_fault output
  pub told : FrontTold line old.told new.told
  pub rose : Rose old.faults new.faults

-- there was no memory for the name of the output
pub record IsNotPut (old new : Sunk) (a : Answer) : Type 0 where
  pub answer : a ≡ no_memory
  pub told : new.told ≡ old.told
  pub faults : new.faults ≡ old.faults

abbrev pub Puts : Answer → Text → Sunk → Sunk → Answer → Type 0
Puts came line old new a = IsWholePut came line old new a ⊎ IsFailedPut line old new a
