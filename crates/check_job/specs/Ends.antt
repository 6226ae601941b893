-- How a check ends, by the store before and after.
use Rattle.std.specs.Prelude.{◌≡◌, ℕ, IfSome, codes}
use Rattle.job_files.specs.Answers.{Answer, done, line_of}
use Rattle.job_files.specs.Reads.{CountsReading}
use Rattle.job_files.specs.Stores.{IsUnwritten, Seen}
use Rattle.job_files.specs.Text.{Text}
use Rattle.check_job.specs.Check.{Check, check_files}
use Rattle.check_job.specs.Checking.{CheckCauses, RefusesCheck}

-- what the count of reads that failed says of an answer
abbrev pub CountsCheck : Check → ℕ → ℕ → Text → Answer → Type 0
CountsCheck job before now bad done = now ≡ before
CountsCheck job before now bad a = CountsReading (check_files job) (RefusesCheck job) before now bad a

-- the line of a check that was done
abbrev pub certified_line : Text
certified_line = codes "certified\n"

-- how a check ends: why, what it leaves, and the line that tells it
pub record CheckEnds (job : Check) (old new : Seen) (a : Answer) (line : Text) : Type 0 where
  pub cause : IfSome old.files (λ files. CheckCauses job files a)
  pub kept : IsUnwritten old new
  pub counts : CountsCheck job old.reads new.reads new.bad a
  pub tells : line ≡ line_of certified_line a
