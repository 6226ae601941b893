-- Which graphs are planned on a board, and why others are refused.
use Rattle.board_table.specs.declared.board.Board.{Board}
use Rattle.flow_graph.specs.declared.graph.Graph.{Graph}
use Rattle.flow_graph.specs.Owned.{operations}
use Rattle.checkpoint_graph.specs.Placings.{AllFit, IsTooSmall}
use Rattle.plan_report.specs.Planned.{IsReportOf}
use Rattle.job_files.specs.Refusals.{Refusal, budget_too_small, calls_too_deep, data_too_large}
use Rattle.job_files.specs.Text.{Text}
use Rattle.plan_job.specs.Room.{HasRoom, LacksRoom}

-- it has room, and one charge pays for each of its operations
pub record Fits (b : Board) (g : Graph) : Type 0 where
  pub room : HasRoom g
  pub operations_fit : AllFit b (operations g)

-- and this is the report of its plan
pub record IsPlanned (b : Board) (g : Graph) (text : Text) : Type 0 where
  pub fits : Fits b g
  pub report : IsReportOf g b text

-- It has no room; where it has, one charge doesn't pay for an operation, of which the first is told.
abbrev pub RefusesGraph : Board → Graph → Refusal → Type 0
RefusesGraph b g (data_too_large need room) = LacksRoom g (data_too_large need room)
RefusesGraph b g (calls_too_deep need room) = LacksRoom g (calls_too_deep need room)
RefusesGraph b g (budget_too_small op place need budget) = HasRoom g × IsTooSmall b (operations g) op place need budget
RefusesGraph b g r = ⊥
