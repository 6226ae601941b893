use Rattle.std.proofs.Common.{◌≡◌, length}
use Rattle.c_lower.specs.Calling.{any_marked}
use Rattle.c_lower.proofs.reached.any_marked.Given as goal

abbrev pub invariant-loop-calls : goal.invariant-loop-calls
invariant-loop-calls l = any_marked l.marks l.n l.left ≡ any_marked l.marks 0 l.fn.row

abbrev pub decreases-loop-calls : goal.decreases-loop-calls
decreases-loop-calls l = length l.left
