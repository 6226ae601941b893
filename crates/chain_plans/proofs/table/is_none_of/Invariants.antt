use Rattle.std.proofs.Common.{length}
use Rattle.chain_plans.specs.Tables.{IsNoneOf}
use Rattle.chain_plans.proofs.table.is_none_of.Given as goal

abbrev pub invariant-loop-other : goal.invariant-loop-other
invariant-loop-other l = record {
  onward : IsNoneOf l.object l.left → IsNoneOf l.object l.others;
  backward : IsNoneOf l.object l.others → IsNoneOf l.object l.left;
}

abbrev pub decreases-loop-other : goal.decreases-loop-other
decreases-loop-other l = length l.left
