use Rattle.std.proofs.Common.{◌≡◌, length}
use Rattle.call_depth.specs.Levels.{some_marked}
use Rattle.call_depth.proofs.level.some_marked.Given as goal

abbrev pub invariant-loop-mark : goal.invariant-loop-mark
invariant-loop-mark l = some_marked l.left ≡ some_marked l.marks

abbrev pub decreases-loop-mark : goal.decreases-loop-mark
decreases-loop-mark l = length l.left
