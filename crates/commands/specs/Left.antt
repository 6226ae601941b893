-- What a job leaves in its files.
use Rattle.std.specs.Prelude.{◌≡◌, ◌⊎◌, List, Option, Some, None, ⊤}
use Rattle.base_io.specs.Files.{Files}
use Rattle.job_files.specs.Answers.{Answer, done, write_fault}
use Rattle.job_files.specs.Text.{Text, output}
use Rattle.build_job.specs.Build.{Build}
use Rattle.build_job.specs.Ends.{IsBuilt}
use Rattle.check_job.specs.Check.{Check}
use Rattle.plan_job.specs.Plan.{Plan}
use Rattle.run_job.specs.Run.{Run}
use Rattle.say_job.specs.Say.{Say}
use Rattle.commands.specs.Words.{AskBuild, AskCheck, AskPlan, AskRun, AskSay}

abbrev pub AskedAndBuilt : List Text → Files → Files → Type 0
AskedAndBuilt words old new = (job : Build) × AskBuild words job × IsBuilt job old new

abbrev pub AsksNoWrite : List Text → Type 0
AsksNoWrite words = ((job : Run) × AskRun words job) ⊎ (((job : Say) × AskSay words job) ⊎ (((job : Check) × AskCheck words job) ⊎ ((job : Plan) × AskPlan words job)))

-- a run, a say, a check and a plan change no file
abbrev pub AskedAndKept : List Text → Files → Files → Type 0
AskedAndKept words old new = AsksNoWrite words × (new ≡ old)

-- What an answer leaves. A build that was done is written. No other file changes, and no file at all behind another answer,
-- but that a build may be written where the output failed behind it.
abbrev pub Leaves : List Text → Answer → Files → Files → Type 0
Leaves words done old new = AskedAndBuilt words old new ⊎ AskedAndKept words old new
Leaves words (write_fault name) old new = (new ≡ old) ⊎ ((name ≡ output) × AskedAndBuilt words old new)
Leaves words a old new = new ≡ old

-- the same of a store that may tell its files or not
abbrev pub LeavesTold : List Text → Answer → Option Files → Option Files → Type 0
LeavesTold words a (Some old) (Some new) = Leaves words a old new
LeavesTold words a None None = ⊤
LeavesTold words a (Some old) None = ⊥
LeavesTold words a None (Some new) = ⊥
