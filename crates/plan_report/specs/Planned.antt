-- What the report of a graph on a board tells.
use Rattle.std.specs.Prelude.{◌≡◌, List}
use Rattle.board_table.specs.declared.board.Board.{Board}
use Rattle.flow_graph.specs.declared.graph.Graph.{Graph}
use Rattle.live_objects.specs.Rows.{IsLivenessOf}
use Rattle.live_objects.specs.declared.liveness.Liveness.{Liveness}
use Rattle.call_summary.specs.declared.telling.Summary.{Summary}
use Rattle.chain_units.specs.declared.plan.Chain.{Chain}
use Rattle.checkpoint_graph.specs.Placings.{ArePlansOf, AreSummariesOf}
use Rattle.plan_report.specs.Report.{Text, report}

-- The text tells which functions are flat, with their costs, and the chains of the others, by their liveness and these summaries: each with a
-- plan of least cost over all cuts and all sets of objects in SRAM, or with the greatest number of turns that fit one charge. Which of several
-- plans of least cost it is of isn't said.
pub record IsReportOf (g : Graph) (b : Board) (text : Text) : Type 0 where
  pub live : Liveness
  pub is_live : IsLivenessOf live g
  pub summaries : List Summary
  pub are_summaries : AreSummariesOf g b summaries
  pub chains : List Chain
  pub are_plans : ArePlansOf g live summaries b chains
  pub tells : text ≡ report g summaries chains
