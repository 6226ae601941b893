use Rattle.std.proofs.Common.{◌≡◌, length}
use Rattle.c_tree.specs.Nodes.{has_default}
use Rattle.c_lower.proofs.arms.has_default.Given as goal

abbrev pub invariant-loop-label : goal.invariant-loop-label
invariant-loop-label l = has_default l.fn.labels ≡ has_default l.left

abbrev pub decreases-loop-label : goal.decreases-loop-label
decreases-loop-label l = length l.left
