-- A store before and behind a call.
use Rattle.std.specs.Prelude.{◌≡◌, ◌≤◌, ℕ, Option}
use Rattle.base_io.specs.Counts.{Rose}
use Rattle.base_io.specs.Files.{Files}
use Rattle.job_files.specs.Text.{Text}

-- the store before a call or behind it: its files, where it tells them, its counts of faults, and its bad name
pub record Seen : Type 0 where
  pub files : Option Files
  pub reads : ℕ
  pub writes : ℕ
  pub bad : Text

abbrev pub seen_of : {S : Type 0} → (S → Option Files) → (S → ℕ) → (S → ℕ) → (S → Text) → S → Seen
seen_of files reads writes bad s = record { files = files s; reads = reads s; writes = writes s; bad = bad s }

-- nothing was written, and no write failed
pub record IsUnwritten (old new : Seen) : Type 0 where
  pub files : new.files ≡ old.files
  pub writes : new.writes ≡ old.writes
  pub reads : old.reads ≤ new.reads

-- the write failed, and no file changed
pub record IsFailedWrite (old new : Seen) : Type 0 where
  pub files : new.files ≡ old.files
  pub writes : (old.writes ≤ new.writes) × Rose old.writes new.writes
  pub reads : new.reads ≡ old.reads
