use Rattle.std.proofs.Common.{◌≡◌, ◌++◌, length}
use Rattle.c_lower.specs.Calling.{marked_by}
use Rattle.c_lower.proofs.reached.mark_on.Given as goal

abbrev pub invariant-loop-row : goal.invariant-loop-row
invariant-loop-row l = l.made ++ marked_by l.marks l.n l.left ≡ marked_by l.marks 0 l.fn.table

abbrev pub decreases-loop-row : goal.decreases-loop-row
decreases-loop-row l = length l.left
