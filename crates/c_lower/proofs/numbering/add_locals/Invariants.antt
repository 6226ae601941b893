use Rattle.std.proofs.Common.{◌≡◌, length}
use Rattle.lowered_graphs.specs.GraphOf.{add_locals}
use Rattle.c_lower.proofs.numbering.add_locals.Given as goal

abbrev pub invariant-loop-x : goal.invariant-loop-x
invariant-loop-x l = add_locals l.p l.left l.m ≡ add_locals l.p l.fn.xs l.fn.m

abbrev pub decreases-loop-x : goal.decreases-loop-x
decreases-loop-x l = length l.left
