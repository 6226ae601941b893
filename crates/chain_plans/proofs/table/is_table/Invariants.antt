use Rattle.std.proofs.Common.{length}
use Rattle.chain_plans.specs.Tables.{AreRows}
use Rattle.chain_plans.proofs.table.is_table.Given as goal

abbrev pub invariant-loop-row : goal.invariant-loop-row
invariant-loop-row l = record {
  onward : AreRows l.room l.budget l.left → AreRows l.room l.budget l.rows;
  backward : AreRows l.room l.budget l.rows → AreRows l.room l.budget l.left;
}

abbrev pub decreases-loop-row : goal.decreases-loop-row
decreases-loop-row l = length l.left
