use Rattle.std.proofs.Common.{◌≡◌, ◌++◌, length}
use Rattle.lowered_graphs.specs.GraphOf.{places_from}
use Rattle.c_lower.proofs.programs.places.Given as goal

abbrev pub invariant-loop-mark : goal.invariant-loop-mark
invariant-loop-mark l = l.made ++ places_from l.left l.k ≡ places_from l.fn.marks 0

abbrev pub decreases-loop-mark : goal.decreases-loop-mark
decreases-loop-mark l = length l.left
