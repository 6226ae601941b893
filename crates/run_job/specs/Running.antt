-- The job `run`: what its files hold, the one run that they and the boxes decide, and why it comes to what it answers.
use Rattle.std.specs.Prelude.{◌≡◌, ◌⊎◌, ℕ, List, [], ◌∷◌, Option, Some, None, ⊤}
use Rattle.base_io.specs.Files.{Files}
use Rattle.board_table.specs.declared.board.Board.{Board}
use Rattle.job_parts.specs.Input.{SpellsInput}
use Rattle.msp430_machine.specs.declared.answer.Refill.{Refill}
use Rattle.msp430_machine.specs.First.{HoldsBlocks, IsFirst}
use Rattle.msp430_machine.specs.Loading.{IsLoaded}
use Rattle.msp430_machine.specs.State.{State}
use Rattle.power_core.specs.Runs.{Trail}
use Rattle.supply_trace.specs.Rows.{SpellsRows, bad_line, lines_of}
use Rattle.supplied_run.specs.Rows.{EndsAs, Reaches}
use Rattle.supplied_run.specs.declared.end.End.{End}
use Rattle.supplied_run.specs.declared.end.End.TheVariants as end
use Rattle.ti_txt.specs.Grammar.{Holds}
use Rattle.ti_txt.specs.Image.{Block}
use Rattle.job_files.specs.Answers.{Answer, Stop, done, machine_fault, power_fault, step_limit, stopped, supply_ended, supply_fault, trapped}
use Rattle.job_files.specs.Boards.{IsBoardWith, IsNoBoard}
use Rattle.job_files.specs.Images.{IsNoImage}
use Rattle.job_files.specs.Inputs.{IsBadInput}
use Rattle.job_files.specs.Reads.{AreHad, ReadingCauses}
use Rattle.job_files.specs.Refusals.{Refusal, board_refused, image_refused, text_refused}
use Rattle.job_files.specs.Text.{Text}
use Rattle.run_job.specs.Boxes.{Box, rows_with}
use Rattle.run_job.specs.Run.{Run, RunTexts, run_files, texts_in}

-- ---- The texts

-- each text spells rows
abbrev pub SpellEach : List Text → List (List Refill) → Type 0
SpellEach [] [] = ⊤
SpellEach (text ∷ texts) (rows ∷ more) = SpellsRows text rows × SpellEach texts more
SpellEach [] (rows ∷ more) = ⊥
SpellEach (text ∷ texts) [] = ⊥

-- the text of this name spells no rows: its first bad line begins there
abbrev pub IsBadLine : Text → Text → Text → ℕ → Type 0
IsBadLine name text n at = (n ≡ name) × (bad_line 0 (lines_of text) ≡ Some at)

-- the first of the texts that spells no rows is of this name, and its first bad line begins there
abbrev pub IsBadSupply : List Text → List Text → Text → ℕ → Type 0
IsBadSupply (first ∷ names) (text ∷ texts) name at =
    IsBadLine first text name at ⊎ (((rows : List Refill) × SpellsRows text rows) × IsBadSupply names texts name at)
IsBadSupply [] texts name at = ⊥
IsBadSupply (first ∷ names) [] name at = ⊥

-- what the texts of a run hold
pub record RunHolds : Type 0 where
  pub image : List Block
  pub board : Board
  pub input : List ℕ
  pub rows : List (List Refill)

-- each text is in its grammar, and this is what they hold, under the budget that is asked for
pub record AreHeld (budget : Option ℕ) (t : RunTexts) (held : RunHolds) : Type 0 where
  pub image : Holds t.image held.image
  pub board : IsBoardWith budget t.board held.board
  pub input : SpellsInput t.input held.input
  pub rows : SpellEach t.supplies held.rows

abbrev pub IsImageText : Text → Type 0
IsImageText text = (image : List Block) × Holds text image

abbrev pub IsBoardText : Text → Type 0
IsBoardText bytes = (board : Board) × IsBoardWith None bytes board

-- the input or a supply is refused, by its name and the offset
abbrev pub IsBadText : Run → RunTexts → Text → ℕ → Type 0
IsBadText job t name at =
    IsBadInput job.input t.input name at ⊎ (((input : List ℕ) × SpellsInput t.input input) × IsBadSupply job.supplies t.supplies name at)

-- why the texts of a run are refused: the image first, then the board, the input and the supplies
abbrev pub RefusesRunTexts : Run → RunTexts → Refusal → Type 0
RefusesRunTexts job t (image_refused fault at) = IsNoImage t.image fault at
RefusesRunTexts job t (board_refused fault key) = IsImageText t.image × IsNoBoard t.board fault key
RefusesRunTexts job t (text_refused name at) = IsImageText t.image × IsBoardText t.board × IsBadText job t name at
RefusesRunTexts job t r = ⊥

-- some texts of a run are refused so
abbrev pub RefusesRun : Run → Refusal → Type 0
RefusesRun job r = (t : RunTexts) × RefusesRunTexts job t r

-- the texts of its files are
abbrev pub RefusesRunFiles : Run → Files → Refusal → Type 0
RefusesRunFiles job files r = (t : RunTexts) × AreHad files (run_files job) (texts_in t) × RefusesRunTexts job t r

-- ---- The run

-- The device begins off, with the image in its memory and zeros elsewhere. It takes a step while it is awake and wakes by
-- the next row, and it ends so: tested in this order are whether it has stopped, the most instructions, and whether a row is left.
pub record IsRunOf (limit : ℕ) (boxes : List Box) (held : RunHolds) (end : End) : Type 0 where
  pub first : State
  pub is_first : IsFirst first
  pub holds : HoldsBlocks first held.image
  pub is_loaded : IsLoaded held.image first
  pub left : List Refill
  pub trail : Trail
  pub reaches : Reaches held.board held.input limit first (rows_with boxes held.rows) left trail
  pub ends : EndsAs limit trail.state trail.instructions left end

-- the files of a run are read and fine, and the run ends so
pub record RunsTo (job : Run) (files : Files) (boxes : List Box) (end : End) : Type 0 where
  pub texts : RunTexts
  pub had : AreHad files (run_files job) (texts_in texts)
  pub held : RunHolds
  pub are_held : AreHeld job.budget texts held
  pub is_run : IsRunOf job.steps boxes held end

abbrev pub end_of : Stop → End
end_of (trapped n) = end.Trapped n
end_of supply_ended = end.SupplyEnded
end_of step_limit = end.StepLimit
end_of power_fault = end.PowerFault
end_of (machine_fault pc why) = end.MachineFault pc why
end_of supply_fault = end.SupplyFault

-- why a run of these files and boxes comes to each answer
abbrev pub RunCauses : Run → Files → List Box → Answer → Type 0
RunCauses job files boxes done = (w : ℕ) × RunsTo job files boxes (end.Ended w)
RunCauses job files boxes (stopped stop) = RunsTo job files boxes (end_of stop)
RunCauses job files boxes a = ReadingCauses files (run_files job) (RefusesRunFiles job files) a
