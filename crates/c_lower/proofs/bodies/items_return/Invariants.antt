use Rattle.std.proofs.Common.{◌≡◌, length}
use Rattle.sound_programs.specs.Counted.{ends_in_return}
use Rattle.c_lower.proofs.bodies.items_return.Given as goal

abbrev pub invariant-loop-item : goal.invariant-loop-item
invariant-loop-item l = ends_in_return l.fn.items ≡ ends_in_return l.left

abbrev pub decreases-loop-item : goal.decreases-loop-item
decreases-loop-item l = length l.left
