use Rattle.std.proofs.Common.{◌≡◌, length}
use Rattle.lowered_graphs.specs.Exprs.{Setting}
use Rattle.c_lower.specs.Holding.{declared_have}
use Rattle.c_lower.proofs.holding.declared_have.Given as goal

abbrev pub invariant-loop-d : goal.invariant-loop-d
invariant-loop-d l = (s : Setting) → declared_have s l.sought l.fn.declared ≡ declared_have s l.sought l.left

abbrev pub decreases-loop-d : goal.decreases-loop-d
decreases-loop-d l = length l.left
