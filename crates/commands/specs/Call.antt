-- What a whole call comes to: how its job ends, and what is put of it.
use Rattle.std.specs.Prelude.{◌≡◌, ◌⊎◌, ℕ, List, [], Option, Some, None}
use Rattle.job_parts.specs.Asked.{Request, Task, asked, build, check, plan, run, say}
use Rattle.job_files.specs.Answers.{Answer, line_of, no_memory, not_built, usage}
use Rattle.job_files.specs.Output.{IsNotPut, Puts, Sunk}
use Rattle.job_files.specs.Stores.{IsUnwritten, Seen}
use Rattle.job_files.specs.Text.{Text}
use Rattle.build_job.specs.Ends.{BuildEnds}
use Rattle.check_job.specs.Ends.{CheckEnds}
use Rattle.plan_job.specs.Ends.{PlanEnds}
use Rattle.run_job.specs.Boxes.{Box, IsPartlyLoaded}
use Rattle.run_job.specs.Ends.{HasRun, RunEnds}
use Rattle.run_job.specs.Run.{Run}
use Rattle.say_job.specs.Ends.{HasSaid, SayEnds}
use Rattle.say_job.specs.Say.{Say}
use Rattle.commands.specs.Words.{AskRun, AskSay}

-- the words are refused, and no file is touched
pub record IsRefusedAtOnce (refusal : Answer) (old new : Seen) (a : Answer) (line : Text) : Type 0 where
  pub answer : a ≡ refusal
  pub files : new.files ≡ old.files
  pub writes : new.writes ≡ old.writes
  pub reads : new.reads ≡ old.reads
  pub tells : line ≡ line_of [] a

-- how a job ends that puts its text at once, one line or the lines of a plan, under the budget and the number of steps that are asked for
abbrev pub TaskEnds : Task → Option ℕ → ℕ → Seen → Seen → List Box → List Box → Answer → Text → Type 0
TaskEnds (build program board image certificate) budget steps old new before now a line =
    BuildEnds (record { program = program; board = board; image = image; certificate = certificate; budget = budget }) old new a line × (now ≡ before)
TaskEnds (check image certificate board) budget steps old new before now a line =
    CheckEnds (record { image = image; certificate = certificate; board = board; budget = budget }) old new a line × (now ≡ before)
TaskEnds (run image board input supplies) budget steps old new before now a line =
    RunEnds (record { image = image; board = board; input = input; supplies = supplies; budget = budget; steps = steps }) old new before now a line
TaskEnds (say program input) budget steps old new before now a line =
    SayEnds (record { program = program; input = input; steps = steps }) old new a line × (now ≡ before)
TaskEnds (plan program board) budget steps old new before now a line =
    PlanEnds (record { program = program; board = board; budget = budget }) old new a line × (now ≡ before)
TaskEnds task budget steps old new before now a line = IsRefusedAtOnce not_built old new a line × (now ≡ before)

-- how the job of the words ends
abbrev pub ComesTo : Option Request → Seen → Seen → List Box → List Box → Answer → Text → Type 0
ComesTo None old new before now a line = IsRefusedAtOnce usage old new a line × (now ≡ before)
ComesTo (Some r) old new before now a line = TaskEnds r.task r.budget r.steps old new before now a line

-- the boxes are as they were, but that where the words ask for a run some may have been loaded
abbrev pub MayBeLoaded : List Text → List Box → List Box → Type 0
MayBeLoaded words before now = (now ≡ before) ⊎ (((job : Run) × AskRun words job) × IsPartlyLoaded before now)

-- there was no memory, before anything was written
pub record IsGivenUp (words : List Text) (old new : Seen) (before now : List Box) (a : Answer) (line : Text) : Type 0 where
  pub answer : a ≡ no_memory
  pub kept : IsUnwritten old new
  pub boxes : MayBeLoaded words before now
  pub tells : line ≡ line_of [] no_memory

abbrev pub Comes : List Text → Seen → Seen → List Box → List Box → Answer → Text → Type 0
Comes words old new before now a line = ComesTo (asked words) old new before now a line ⊎ IsGivenUp words old new before now a line

-- ---- The call

-- The job came to an answer with its text: one line, or the lines of a plan. The text was put and is the answer's, or the output failed behind
-- a front of it, or there was no memory for the name of the output, and then nothing was put.
pub record IsToldAtOnce (words : List Text) (old new : Seen) (before left : List Box) (sunk now : Sunk) (a : Answer) : Type 0 where
  pub came : Answer
  pub line : Text
  pub comes : Comes words old new before left came line
  pub puts : Puts came line sunk now a ⊎ (IsNotPut sunk now a × (came ≡ no_memory))

-- a run that the words ask for has begun
pub record HasRunAsked (words : List Text) (old new : Seen) (before left : List Box) (sunk now : Sunk) (a : Answer) : Type 0 where
  pub job : Run
  pub asks : AskRun words job
  pub has_run : HasRun job old new before left sunk.told now.told sunk.faults now.faults a

-- a say that the words ask for has begun
pub record HasSaidAsked (words : List Text) (old new : Seen) (before left : List Box) (sunk now : Sunk) (a : Answer) : Type 0 where
  pub job : Say
  pub asks : AskSay words job
  pub boxes : left ≡ before
  pub has_said : HasSaid job old new sunk.told now.told sunk.faults now.faults a

-- The call told its text at once, or a run or a say that the words ask for has begun and told its own.
abbrev pub Called : List Text → Seen → Seen → List Box → List Box → Sunk → Sunk → Answer → Type 0
Called words old new before left sunk now a =
    IsToldAtOnce words old new before left sunk now a
    ⊎ (HasRunAsked words old new before left sunk now a ⊎ HasSaidAsked words old new before left sunk now a)
