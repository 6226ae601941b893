-- How a say ends, by the store and the output before and after.
use Rattle.std.specs.Prelude.{◌≡◌, ◌≤◌, ◌⊎◌, ◌++◌, ℕ, List, [], length, take, Option, IfSome}
use Rattle.base_io.specs.Counts.{Rose}
use Rattle.c_tree.specs.Lines.{Took}
use Rattle.c_tree.specs.Meaning.{meaning}
use Rattle.c_tree.specs.declared.tree.Program.{Program}
use Rattle.program_texts.specs.Shown.{TookFront, end_of, shown, words_shown}
use Rattle.job_files.specs.Answers.{Answer, came_of, line_of, no_memory, write_fault}
use Rattle.job_files.specs.Reads.{CountsReading}
use Rattle.job_files.specs.Stores.{IsUnwritten, Seen}
use Rattle.job_files.specs.Text.{Text, output}
use Rattle.say_job.specs.Say.{Say, say_files}
use Rattle.say_job.specs.Saying.{Hold, RefusesSay, SayCauses}

-- ---- A say that is refused

-- how a say ends that says nothing: why, what it leaves, and the line that tells it
pub record SayEnds (job : Say) (old new : Seen) (a : Answer) (line : Text) : Type 0 where
  pub cause : IfSome old.files (λ files. SayCauses job files a)
  pub kept : IsUnwritten old new
  pub counts : CountsReading (say_files job) (RefusesSay job) old.reads new.reads new.bad a
  pub tells : line ≡ line_of [] a

-- ---- A say that has begun

-- so many bytes of the lines of the words, and behind them the line that tells want of memory
abbrev pub cut_short : Program → List ℕ → ℕ → ℕ → Text
cut_short p words n k = take k (words_shown p words n) ++ line_of [] no_memory

-- a front was put of the whole text, or of one that want of memory cut short
abbrev pub IsFrontSaid : Program → List ℕ → ℕ → Option Text → Option Text → Type 0
IsFrontSaid p words n sunk now =
    TookFront (shown p words n) sunk now ⊎ ((k : ℕ) × (k ≤ length (words_shown p words n)) × TookFront (cut_short p words n k) sunk now)

-- The whole text was put, and the answer is how the program stands. Where the output failed, a front was put; where there was no memory,
-- a front of the lines of the words, and then the line that tells it.
abbrev pub IsSaid : Program → List ℕ → ℕ → Option Text → Option Text → ℕ → ℕ → Answer → Type 0
IsSaid p words n sunk now before after (write_fault name) = (name ≡ output) × Rose before after × IsFrontSaid p words n sunk now
IsSaid p words n sunk now before after no_memory =
    ((k : ℕ) × (k ≤ length (words_shown p words n)) × Took sunk now (cut_short p words n k)) × (after ≡ before)
IsSaid p words n sunk now before after a = (a ≡ came_of (end_of (meaning p words n).outcome)) × Took sunk now (shown p words n) × (after ≡ before)

-- The files were read, and hold a program and an input; what the plain meaning shows of them was put, and nothing else changed.
pub record HasSaid (job : Say) (old new : Seen) (sunk now : Option Text) (before after : ℕ) (a : Answer) : Type 0 where
  pub program : Program
  pub words : List ℕ
  pub held : IfSome old.files (λ files. Hold job files program words)
  pub files : new.files ≡ old.files
  pub writes : new.writes ≡ old.writes
  pub reads : new.reads ≡ old.reads
  pub said : IsSaid program words job.steps sunk now before after a
