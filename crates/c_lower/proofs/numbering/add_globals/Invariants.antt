use Rattle.std.proofs.Common.{◌≡◌, length}
use Rattle.lowered_graphs.specs.GraphOf.{add_globals}
use Rattle.c_lower.proofs.numbering.add_globals.Given as goal

abbrev pub invariant-loop-v : goal.invariant-loop-v
invariant-loop-v l = add_globals l.x l.left l.m ≡ add_globals 0 l.fn.variables l.fn.m

abbrev pub decreases-loop-v : goal.decreases-loop-v
decreases-loop-v l = length l.left
