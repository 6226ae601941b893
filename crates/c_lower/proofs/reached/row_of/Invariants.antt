use Rattle.std.proofs.Common.{◌≡◌, ◌++◌, length}
use Rattle.c_lower.specs.Calling.{row}
use Rattle.c_lower.proofs.reached.row_of.Given as goal

abbrev pub invariant-loop-function : goal.invariant-loop-function
invariant-loop-function l = l.row ++ row l.p l.f (length l.row) l.left ≡ row l.p l.f 0 l.p.functions

abbrev pub decreases-loop-function : goal.decreases-loop-function
decreases-loop-function l = length l.left
