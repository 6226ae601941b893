use Rattle.std.proofs.Common.{◌≡◌, ◌++◌, length}
use Rattle.call_summary.specs.Summaries.{costs_in}
use Rattle.checkpoint_graph.proofs.placing.costs_in.Given as goal

abbrev pub invariant-loop-summary : goal.invariant-loop-summary
invariant-loop-summary l = costs_in l.summaries ≡ l.made.items ++ costs_in l.left

abbrev pub decreases-loop-summary : goal.decreases-loop-summary
decreases-loop-summary l = length l.left
