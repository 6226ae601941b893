-- What the functions of a call promise each other of a run or a say that may begin.
use Rattle.std.specs.Prelude.{◌≡◌, ℕ, List, Option, ⊤}
use Rattle.job_parts.specs.Asked.{Task, build, check, run, say, plan, gen}
use Rattle.commands.specs.declared.call.Beginning.TheVariants.{Ends, Runs, Says}
use Rattle.job_files.specs.Stores.{IsUnwritten, Seen}
use Rattle.job_files.specs.Text.{Text}
use Rattle.job_files.specs.declared.ending.Ending.{Ending}
use Rattle.run_job.specs.Boxes.{Box, FitBoxes}
use Rattle.run_job.specs.Opening.{GivesUp, MayRun}
use Rattle.run_job.specs.Run.{Run}
use Rattle.run_job.specs.declared.opened_run.OpenedRun.{OpenedRun}
use Rattle.say_job.specs.Opening.{MaySay}
use Rattle.say_job.specs.Say.{Say}
use Rattle.say_job.specs.declared.opened_say.OpenedSay.{OpenedSay}
use Rattle.commands.specs.Call.{MayBeLoaded}
use Rattle.commands.specs.Words.{AskRun, AskSay}
use Rattle.commands.specs.declared.call.Beginning.{Beginning}

abbrev pub MatchBeginning : Beginning → (Ending → Type 0) → (OpenedRun → Type 0) → (OpenedSay → Type 0) → Type 0
MatchBeginning (Ends ending) P Q R = P ending
MatchBeginning (Runs opened) P Q R = Q opened
MatchBeginning (Says opened) P Q R = R opened

abbrev pub FitsBoxes : Task → ℕ → Type 0
FitsBoxes (run image board input supplies) count = FitBoxes supplies count
FitsBoxes (build program board image certificate) count = ⊤
FitsBoxes (check image certificate board) count = ⊤
FitsBoxes (say program input) count = ⊤
FitsBoxes (plan program board) count = ⊤
FitsBoxes (gen seed size board) count = ⊤

abbrev pub TaskRuns : Task → Option ℕ → ℕ → Seen → Seen → List Box → List Box → OpenedRun → Type 0
TaskRuns (run image board input supplies) budget steps old new before now opened =
    MayRun (record { image = image; board = board; input = input; supplies = supplies; budget = budget; steps = steps }) old new before now opened
TaskRuns task budget steps old new before now opened = ⊥

-- the words ask for a run, which may begin
abbrev pub Opens : List Text → Seen → Seen → List Box → List Box → OpenedRun → Type 0
Opens words old new before now opened = (job : Run) × AskRun words job × MayRun job old new before now opened

-- there was no memory for a job: no other than a run loads boxes
abbrev pub TaskGivesUp : Task → Seen → Seen → List Box → List Box → Type 0
TaskGivesUp (run image board input supplies) old new before now = GivesUp old new before now
TaskGivesUp task old new before now = IsUnwritten old new × (now ≡ before)

-- the same for words
abbrev pub WordsGiveUp : List Text → Seen → Seen → List Box → List Box → Type 0
WordsGiveUp words old new before now = IsUnwritten old new × MayBeLoaded words before now

abbrev pub TaskSays : Task → ℕ → Seen → Seen → List Box → List Box → OpenedSay → Type 0
TaskSays (say program input) steps old new before now opened = MaySay (record { program = program; input = input; steps = steps }) old new opened × (now ≡ before)
TaskSays task steps old new before now opened = ⊥

-- the words ask for a say, which may begin
abbrev pub Speaks : List Text → Seen → Seen → List Box → List Box → OpenedSay → Type 0
Speaks words old new before now opened = (job : Say) × AskSay words job × MaySay job old new opened × (now ≡ before)
