-- The job `plan`: what its files hold, and why it comes to what it answers.
use Rattle.std.specs.Prelude.{ℕ, Option}
use Rattle.base_io.specs.Files.{Files}
use Rattle.board_table.specs.declared.board.Board.{Board}
use Rattle.flow_graph.specs.declared.graph.Graph.{Graph}
use Rattle.program_texts.specs.Front.{IsGraphOfText}
use Rattle.job_files.specs.Answers.{Answer, done}
use Rattle.job_files.specs.Boards.{IsBoardWith, IsNoBoard}
use Rattle.job_files.specs.Reads.{AreHad, ReadingCauses, two_texts}
use Rattle.job_files.specs.Refusals.{Refusal, board_refused, program_refused}
use Rattle.job_files.specs.Text.{Text}
use Rattle.program_files.specs.Programs.{IsNoProgram}
use Rattle.plan_job.specs.Graphs.{Fits, RefusesGraph}
use Rattle.plan_job.specs.Plan.{Plan, plan_files}

-- ---- The texts

-- a program, whose graph this is, and a board
pub record AreGiven (wanted : Option ℕ) (text bytes : Text) (g : Graph) (b : Board) : Type 0 where
  pub graph : IsGraphOfText text g
  pub board_file : IsBoardWith wanted bytes b

-- Why two texts are refused under the budget that is asked for: the program first, then the board, and then what the program's graph needs
-- on it.
abbrev pub RefusesPlanTexts : Option ℕ → Text → Text → Refusal → Type 0
RefusesPlanTexts wanted text bytes (program_refused fault place) = IsNoProgram text fault place
RefusesPlanTexts wanted text bytes (board_refused kind key) = ((g : Graph) × IsGraphOfText text g) × IsNoBoard bytes kind key
RefusesPlanTexts wanted text bytes r = (g : Graph) × (b : Board) × AreGiven wanted text bytes g b × RefusesGraph b g r

-- some texts of a plan are refused so
abbrev pub RefusesPlan : Plan → Refusal → Type 0
RefusesPlan job r = (text : Text) × (bytes : Text) × RefusesPlanTexts job.budget text bytes r

-- ---- The files

-- the texts of its files are refused so
abbrev pub RefusesPlanFiles : Plan → Files → Refusal → Type 0
RefusesPlanFiles job files r = (text : Text) × (bytes : Text) × AreHad files (plan_files job) (two_texts text bytes) × RefusesPlanTexts job.budget text bytes r

-- its files are read, and hold a program and a board on which its graph may be planned
pub record MayBePlanned (job : Plan) (files : Files) : Type 0 where
  pub text : Text
  pub bytes : Text
  pub graph : Graph
  pub board : Board
  pub read : AreHad files (plan_files job) (two_texts text bytes)
  pub given : AreGiven job.budget text bytes graph board
  pub fits : Fits board graph

-- why a plan of these files comes to each answer
abbrev pub PlanCauses : Plan → Files → Answer → Type 0
PlanCauses job files done = MayBePlanned job files
PlanCauses job files a = ReadingCauses files (plan_files job) (RefusesPlanFiles job files) a
