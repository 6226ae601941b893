use Rattle.std.proofs.Common.{length}
use Rattle.chain_plans.specs.Tables.{AllDiffer}
use Rattle.chain_plans.proofs.table.all_differ.Given as goal

abbrev pub invariant-loop-weight : goal.invariant-loop-weight
invariant-loop-weight l = record {
  onward : AllDiffer l.left → AllDiffer l.row;
  backward : AllDiffer l.row → AllDiffer l.left;
}

abbrev pub decreases-loop-weight : goal.decreases-loop-weight
decreases-loop-weight l = length l.left
