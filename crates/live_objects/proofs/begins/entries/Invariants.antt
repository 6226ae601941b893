use Rattle.std.proofs.Common.{◌≡◌, ◌++◌, length}
use Rattle.live_objects.specs.GraphArcs.{entries}
use Rattle.live_objects.proofs.begins.entries.Given as goal

abbrev pub invariant-loop-func : goal.invariant-loop-func
invariant-loop-func l = l.made.items ++ entries l.left ≡ entries l.functions

abbrev pub decreases-loop-func : goal.decreases-loop-func
decreases-loop-func l = length l.left
