use Rattle.std.proofs.Common.{◌≡◌, ◌++◌, length}
use Rattle.touched_objects.specs.Touched.{calls_of}
use Rattle.touched_objects.proofs.table.calls.Given as goal

abbrev pub invariant-loop-operation : goal.invariant-loop-operation
invariant-loop-operation l = l.made.items ++ calls_of l.left ≡ calls_of l.operations

abbrev pub decreases-loop-operation : goal.decreases-loop-operation
decreases-loop-operation l = length l.left
