-- How a plan ends, by the store before and after.
use Rattle.std.specs.Prelude.{◌≡◌, ℕ, [], Option, Some, None, IfSome}
use Rattle.base_io.specs.Files.{Files}
use Rattle.board_table.specs.declared.board.Board.{Board}
use Rattle.flow_graph.specs.declared.graph.Graph.{Graph}
use Rattle.plan_report.specs.Planned.{IsReportOf}
use Rattle.job_files.specs.Answers.{Answer, done, line_of}
use Rattle.job_files.specs.Reads.{CountsReading}
use Rattle.job_files.specs.Stores.{IsUnwritten, Seen}
use Rattle.job_files.specs.Text.{Text}
use Rattle.plan_job.specs.Graphs.{IsPlanned}
use Rattle.plan_job.specs.Plan.{Plan, plan_files}
use Rattle.plan_job.specs.Planning.{AreGiven, MayBePlanned, PlanCauses, RefusesPlan}

-- ---- The report

-- the report of a program on a board
pub record IsPlanOfTexts (wanted : Option ℕ) (text bytes told : Text) : Type 0 where
  pub graph : Graph
  pub board : Board
  pub given : AreGiven wanted text bytes graph board
  pub planned : IsPlanned board graph told

-- the report of the program of its files on their board
pub record IsPlanOfFiles (job : Plan) (files : Files) (told : Text) : Type 0 where
  pub may : MayBePlanned job files
  pub report : IsReportOf may.graph may.board told

-- the report of some graph on some board
abbrev pub IsSomeReport : Text → Type 0
IsSomeReport told = (g : Graph) × (b : Board) × IsReportOf g b told

abbrev pub IsDoneText : Plan → Option Files → Text → Type 0
IsDoneText job (Some files) told = IsPlanOfFiles job files told
IsDoneText job None told = IsSomeReport told

-- the text that tells an answer of a plan of these files
abbrev pub IsPlanText : Plan → Option Files → Answer → Text → Type 0
IsPlanText job files done told = IsDoneText job files told
IsPlanText job files a told = told ≡ line_of [] a

-- ---- The whole

-- what the count of reads that failed says of an answer
abbrev pub CountsPlan : Plan → ℕ → ℕ → Text → Answer → Type 0
CountsPlan job before now bad done = now ≡ before
CountsPlan job before now bad a = CountsReading (plan_files job) (RefusesPlan job) before now bad a

-- how a plan ends: why, what it leaves, and the text that tells it
pub record PlanEnds (job : Plan) (old new : Seen) (a : Answer) (told : Text) : Type 0 where
  pub cause : IfSome old.files (λ files. PlanCauses job files a)
  pub kept : IsUnwritten old new
  pub counts : CountsPlan job old.reads new.reads new.bad a
  pub tells : IsPlanText job old.files a told
