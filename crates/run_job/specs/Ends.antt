-- How a run ends, by the store, the boxes and the output before and after.
use Rattle.std.specs.Prelude.{◌≡◌, ℕ, List, [], length, Option, IfSome, Result, Ok, Err}
use Rattle.base_io.specs.Counts.{CountsFaults}
use Rattle.base_io.specs.declared.sink.SinkFault.{SinkFault}
use Rattle.board_table.specs.declared.board.Board.{Board}
use Rattle.msp430_machine.specs.First.{HoldsBlocks, IsFirst}
use Rattle.msp430_machine.specs.Loading.{IsLoaded}
use Rattle.msp430_machine.specs.State.{State}
use Rattle.supplied_run.specs.Shown.{AreLeft, FrontCounts, Shows}
use Rattle.supplied_run.specs.declared.end.End.{End}
use Rattle.supply_trace.specs.Boxes.{all_rows}
use Rattle.job_files.specs.Answers.{Answer, came_of, line_of, write_fault}
use Rattle.job_files.specs.Reads.{AreHad, CountsReading}
use Rattle.job_files.specs.Stores.{IsUnwritten, Seen}
use Rattle.job_files.specs.Text.{Text, output}
use Rattle.run_job.specs.Boxes.{Box, LeavesBoxes, faults_of, loaded, rows_left}
use Rattle.run_job.specs.Run.{Run, RunTexts, run_files, texts_in}
use Rattle.run_job.specs.Running.{AreHeld, RefusesRun, RunCauses, RunHolds}

-- ---- A run that is refused

-- how a run ends that doesn't begin: why, and what it leaves
pub record RunRefuses (job : Run) (old new : Seen) (before now : List Box) (a : Answer) : Type 0 where
  pub cause : IfSome old.files (λ files. RunCauses job files before a)
  pub kept : IsUnwritten old new
  pub counts : CountsReading (run_files job) (RefusesRun job) old.reads new.reads new.bad a
  pub boxes : LeavesBoxes before now a

-- the same, with the line that tells it
pub record RunEnds (job : Run) (old new : Seen) (before now : List Box) (a : Answer) (line : Text) : Type 0 where
  pub refuses : RunRefuses job old new before now a
  pub tells : line ≡ line_of [] a

-- ---- A run that has begun

-- what a run answers that was told to its end, or whose output failed
abbrev pub answer_of_run : Result End SinkFault → Answer
answer_of_run (Ok end) = came_of end
answer_of_run (Err fault) = write_fault output

-- The files were read and are fine, and the device begins as the image was loaded.
pub record IsOpened (job : Run) (old new : Seen) (before : List Box) (held : RunHolds) (first : State) : Type 0 where
  pub texts : RunTexts
  pub had : IfSome old.files (λ files. AreHad files (run_files job) (texts_in texts))
  pub number : length texts.supplies ≡ length job.supplies
  pub are_held : AreHeld job.budget texts held
  pub is_first : IsFirst first
  pub holds : HoldsBlocks first held.image
  pub is_loaded : IsLoaded held.image first
  pub files : new.files ≡ old.files
  pub writes : new.writes ≡ old.writes
  pub reads : new.reads ≡ old.reads

-- The one run from this state over the rows of these boxes was shown, and its answer is how it ended, or that the output failed. As it
-- ends, the rows left are all but those of its wakes; the boxes left are the last ones, and of them the front one alone may
-- have changed.
pub record IsShown (board : Board) (input : List ℕ) (limit : ℕ) (first : State) (before left : List Box) (old new : Option Text) (faults_before faults_now : ℕ) (a : Answer) : Type 0 where
  pub told : Result End SinkFault
  pub shown : Shows board input limit first (all_rows rows_left before) (all_rows rows_left left) told old new
  pub boxes : AreLeft faults_of (FrontCounts told) before left
  pub faults : CountsFaults told faults_before faults_now
  pub answer : a ≡ answer_of_run told

-- The files were read and are fine, the supplies were loaded into the boxes of their places, and the run was shown.
pub record HasRun (job : Run) (old new : Seen) (before left : List Box) (sunk now : Option Text) (faults_before faults_now : ℕ) (a : Answer) : Type 0 where
  pub held : RunHolds
  pub first : State
  pub opened : IsOpened job old new before held first
  pub is_shown : IsShown held.board held.input job.steps first (loaded before held.rows) left sunk now faults_before faults_now a
