-- When faults are answered, by the counts of the store, of the boxes and of the output, and that nothing else comes between.
use Rattle.std.specs.Prelude.{◌≡◌, ◌⊎◌, ◌+◌, ℕ, List, length, None, ⊤}
use Rattle.base_io.specs.Counts.{Rose}
use Rattle.base_io.specs.Files.{Files}
use Rattle.job_parts.specs.Asked.{asked}
use Rattle.job_files.specs.Answers.{Answer, IsDecided, no_memory, not_built, read_fault, stopped, supply_fault, too_large, usage, write_fault}
use Rattle.job_files.specs.Reads.{IsAmong, Wanted}
use Rattle.job_files.specs.Text.{Text, output}
use Rattle.build_job.specs.Build.{Build, build_files}
use Rattle.check_job.specs.Check.{Check, check_files}
use Rattle.plan_job.specs.Plan.{Plan, plan_files}
use Rattle.run_job.specs.Boxes.{Box, BoxRose}
use Rattle.run_job.specs.Run.{Run, run_files}
use Rattle.say_job.specs.Say.{Say, say_files}
use Rattle.commands.specs.Causes.{HasCause}
use Rattle.commands.specs.Words.{AskBuild, AskCheck, AskPlan, AskRun, AskSay, AskUnbuilt}

-- the words of a build name the file as one that is read, which may have so many bytes
abbrev pub IsBuildRead : List Text → Wanted → Type 0
IsBuildRead words w = (job : Build) × AskBuild words job × IsAmong (build_files job) w

-- the words of a run name the file as one that is read, which may have so many bytes
abbrev pub IsRunRead : List Text → Wanted → Type 0
IsRunRead words w = (job : Run) × AskRun words job × IsAmong (run_files job) w

-- the words of a say name the file as one that is read, which may have so many bytes
abbrev pub IsSayRead : List Text → Wanted → Type 0
IsSayRead words w = (job : Say) × AskSay words job × IsAmong (say_files job) w

-- the words of a check name the file as one that is read, which may have so many bytes
abbrev pub IsCheckRead : List Text → Wanted → Type 0
IsCheckRead words w = (job : Check) × AskCheck words job × IsAmong (check_files job) w

-- the words of a plan name the file as one that is read, which may have so many bytes
abbrev pub IsPlanRead : List Text → Wanted → Type 0
IsPlanRead words w = (job : Plan) × AskPlan words job × IsAmong (plan_files job) w

-- the words name the file as one that is read, which may have so many bytes
abbrev pub IsToRead : List Text → Wanted → Type 0
IsToRead words w = IsBuildRead words w ⊎ (IsRunRead words w ⊎ (IsSayRead words w ⊎ (IsCheckRead words w ⊎ IsPlanRead words w)))

-- the words name the file as the image
abbrev pub IsToWrite : List Text → Text → Type 0
IsToWrite words name = (job : Build) × AskBuild words job × (name ≡ job.image)

-- A read fault names a file that the words name to be read, the last that the store failed at, and comes only where the count rose.
abbrev pub ReadFaultIs : List Text → ℕ → ℕ → Text → Answer → Type 0
ReadFaultIs words before now bad (read_fault name) = Rose before now × (name ≡ bad) × ((w : Wanted) × IsToRead words w × (name ≡ w.name))
ReadFaultIs words before now bad a = ⊤

-- A write fault names the output, and the output's count rose, or the image, and the store's count of writes rose.
abbrev pub WriteFaultIs : List Text → ℕ → ℕ → ℕ → ℕ → Answer → Type 0
WriteFaultIs words writes_before writes_now puts_before puts_now (write_fault name) =
    ((name ≡ output) × Rose puts_before puts_now) ⊎ (IsToWrite words name × Rose writes_before writes_now)
WriteFaultIs words writes_before writes_now puts_before puts_now a = ⊤

-- A file that is too large is one that the words name to be read, and a byte more than may be read was seen of it.
abbrev pub TooLargeIs : List Text → Answer → Type 0
TooLargeIs words (too_large name seen) = (w : Wanted) × IsToRead words w × (name ≡ w.name) × (seen ≡ w.most + 1)
TooLargeIs words a = ⊤

-- words without a reading, and those that ask for a job which isn't built, are answered as such, and no others are
abbrev pub WordsAre : List Text → Answer → Type 0
WordsAre words usage = asked words ≡ None
WordsAre words not_built = AskUnbuilt words
WordsAre words a = ((asked words ≡ None) ⊎ AskUnbuilt words) → (a ≡ no_memory) ⊎ (a ≡ write_fault output)

-- Where the count of reads that failed rose, the answer is a read fault, want of memory, or that the output failed.
abbrev pub IsReadFaultOrFree : Answer → Type 0
IsReadFaultOrFree (read_fault name) = ⊤
IsReadFaultOrFree no_memory = ⊤
IsReadFaultOrFree a = a ≡ write_fault output

-- Where the count of writes that failed rose, the answer is a write fault.
abbrev pub IsWriteFault : Answer → Type 0
IsWriteFault (write_fault name) = ⊤
IsWriteFault a = ⊥

-- ---- Boxes

-- a supply fault comes in a run alone, where the box in front failed
abbrev pub SupplyFaultIs : List Text → List Box → List Box → Answer → Type 0
SupplyFaultIs words before now (stopped supply_fault) = (job : Run) × AskRun words job × BoxRose (length job.supplies) before now
SupplyFaultIs words before now a = ⊤

-- no box of a run failed
abbrev pub NoBoxRose : List Text → List Box → List Box → Type 0
NoBoxRose words before now = (job : Run) → AskRun words job → ¬ BoxRose (length job.supplies) before now

-- what words, files and boxes decide is answered, unless there is no memory
abbrev pub IsComplete : List Text → Files → List Box → Answer → Type 0
IsComplete words files boxes a = (b : Answer) → IsDecided b → HasCause words files boxes b → (a ≡ no_memory) ⊎ (a ≡ b)
