use Rattle.std.proofs.Common.{◌≡◌, length}
use Rattle.lowered_graphs.specs.GraphOf.{add_functions}
use Rattle.c_lower.proofs.numbering.add_functions.Given as goal

abbrev pub invariant-loop-f : goal.invariant-loop-f
invariant-loop-f l = add_functions l.p l.n l.left l.m ≡ add_functions l.p 0 l.p.functions l.fn.m

abbrev pub decreases-loop-f : goal.decreases-loop-f
decreases-loop-f l = length l.left
