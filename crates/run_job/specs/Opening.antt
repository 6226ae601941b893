-- What the parts of a run promise each other, before it begins.
use Rattle.std.specs.Prelude.{◌≡◌, ◌<◌, ◌≤◌, ◌+◌, ◌++◌, ◌^◌, ℕ, List, [], ◌∷◌, length, map, ⊤}
use Rattle.msp430_machine.specs.declared.answer.Refill.{Refill}
use Rattle.msp430_machine.specs.First.{HoldsBlocks, IsFirst}
use Rattle.msp430_machine.specs.Loading.{IsLoaded}
use Rattle.msp430_machine.specs.Views.{state_of}
use Rattle.power_core.specs.Cores.{no_counts}
use Rattle.job_files.specs.Reads.{Wanted, most_input, wanted}
use Rattle.job_files.specs.Stores.{IsUnwritten, Seen}
use Rattle.job_files.specs.Text.{Text}
use Rattle.run_job.specs.Boxes.{Box, IsPartlyLoaded, loaded}
use Rattle.run_job.specs.Ends.{IsOpened}
use Rattle.run_job.specs.Run.{Run}
use Rattle.run_job.specs.Running.{RunHolds}
use Rattle.run_job.specs.declared.opened_run.OpenedRun.{OpenedRun}

abbrev pub supplies_wanted : List Text → List Wanted
supplies_wanted names = map (wanted most_input) names

-- each has so many bytes at most
abbrev pub AreShort : List Text → Type 0
AreShort [] = ⊤
AreShort (text ∷ texts) = (length text ≤ most_input) × AreShort texts

-- rows of supplies, one behind another
abbrev pub joined : List (List Refill) → List Refill
joined [] = []
joined (rows ∷ more) = rows ++ joined more

-- each has so many rows at most
abbrev pub AreFew : List (List Refill) → Type 0
AreFew [] = ⊤
AreFew (rows ∷ more) = (length rows ≤ most_input + 1) × AreFew more

-- the device is loaded with the image, and the boxes are loaded
pub record IsOpenedRun (steps : ℕ) (held : RunHolds) (before now : List Box) (run : OpenedRun) : Type 0 where
  pub is_first : IsFirst (state_of run.core.machine)
  pub holds : HoldsBlocks (state_of run.core.machine) held.image
  pub is_loaded : IsLoaded held.image (state_of run.core.machine)
  pub fresh : run.core.counts ≡ no_counts
  pub boxes : now ≡ loaded before held.rows
  pub board : run.board ≡ held.board
  pub input : run.input.items ≡ held.input
  pub steps_are : run.steps ≡ steps

-- A run that may begin: its files are read and fine, and the device and the boxes are loaded.
pub record MayRun (job : Run) (old new : Seen) (before now : List Box) (run : OpenedRun) : Type 0 where
  pub held : RunHolds
  pub opened : IsOpened job old new before held (state_of run.core.machine)
  pub is_opened_run : IsOpenedRun job.steps held before now run
  pub few_steps : job.steps ≤ 1000000000
  pub few_rows : length (joined held.rows) < 2 ^ 32

-- there was no memory for a run
abbrev pub GivesUp : Seen → Seen → List Box → List Box → Type 0
GivesUp old new before now = IsUnwritten old new × IsPartlyLoaded before now
