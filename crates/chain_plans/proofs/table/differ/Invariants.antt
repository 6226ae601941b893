use Rattle.std.proofs.Common.{length}
use Rattle.loop_checkpoints.specs.Loops as loops
use Rattle.chain_plans.proofs.table.differ.Given as goal

abbrev pub invariant-loop-object : goal.invariant-loop-object
invariant-loop-object l = record {
  onward : loops.Differ l.left → loops.Differ l.objects;
  backward : loops.Differ l.objects → loops.Differ l.left;
}

abbrev pub decreases-loop-object : goal.decreases-loop-object
decreases-loop-object l = length l.left
