use Rattle.std.proofs.Common.{◌≡◌, length}
use Rattle.c_lower.specs.Arms.{nested}
use Rattle.c_lower.proofs.arms.nest.Given as goal

abbrev pub invariant-loop-arm : goal.invariant-loop-arm
invariant-loop-arm l = nested l.arms l.items ≡ nested l.fn.arms l.fn.last

abbrev pub decreases-loop-arm : goal.decreases-loop-arm
decreases-loop-arm l = length l.arms
