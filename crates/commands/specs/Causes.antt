-- Why a call answers what it answers, by its words, by the files of a store that tells them, and by what the boxes hold.
use Rattle.std.specs.Prelude.{◌≡◌, ◌≢◌, ◌⊎◌, List, None, ⊤}
use Rattle.base_io.specs.Files.{Files}
use Rattle.job_parts.specs.Asked.{asked}
use Rattle.job_files.specs.Answers.{Answer, no_memory, not_built, usage, write_fault}
use Rattle.job_files.specs.Text.{Text, output}
use Rattle.build_job.specs.Build.{Build}
use Rattle.build_job.specs.Building.{BuildCauses}
use Rattle.check_job.specs.Check.{Check}
use Rattle.check_job.specs.Checking.{CheckCauses}
use Rattle.plan_job.specs.Plan.{Plan}
use Rattle.plan_job.specs.Planning.{PlanCauses}
use Rattle.run_job.specs.Boxes.{Box}
use Rattle.run_job.specs.Run.{Run}
use Rattle.run_job.specs.Running.{RunCauses}
use Rattle.say_job.specs.Say.{Say}
use Rattle.say_job.specs.Saying.{SayCauses}
use Rattle.commands.specs.Words.{AskBuild, AskCheck, AskPlan, AskRun, AskSay, AskUnbuilt}

-- a build that the words ask for comes to this answer
abbrev pub AsksBuild : List Text → Files → Answer → Type 0
AsksBuild words files a = (job : Build) × AskBuild words job × BuildCauses job files a

-- a run that the words ask for comes to this answer
abbrev pub AsksRun : List Text → Files → List Box → Answer → Type 0
AsksRun words files boxes a = (job : Run) × AskRun words job × RunCauses job files boxes a

-- a say that the words ask for comes to this answer
abbrev pub AsksSay : List Text → Files → Answer → Type 0
AsksSay words files a = (job : Say) × AskSay words job × SayCauses job files a

-- a check that the words ask for comes to this answer
abbrev pub AsksCheck : List Text → Files → Answer → Type 0
AsksCheck words files a = (job : Check) × AskCheck words job × CheckCauses job files a

-- a plan that the words ask for comes to this answer
abbrev pub AsksPlan : List Text → Files → Answer → Type 0
AsksPlan words files a = (job : Plan) × AskPlan words job × PlanCauses job files a

-- what the words ask for comes to this answer
abbrev pub AsksFor : List Text → Files → List Box → Answer → Type 0
AsksFor words files boxes a = AsksBuild words files a ⊎ (AsksRun words files boxes a ⊎ (AsksSay words files a ⊎ (AsksCheck words files a ⊎ AsksPlan words files a)))

-- Why a call comes to each answer, by its words, the files and what the boxes hold as it begins; that the output failed says
-- nothing of them.
abbrev pub HasCause : List Text → Files → List Box → Answer → Type 0
HasCause words files boxes usage = asked words ≡ None
HasCause words files boxes not_built = AskUnbuilt words
HasCause words files boxes no_memory = ⊤
HasCause words files boxes (write_fault name) = name ≢ output → AsksFor words files boxes (write_fault name)
HasCause words files boxes a = AsksFor words files boxes a
