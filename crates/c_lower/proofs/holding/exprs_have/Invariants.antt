use Rattle.std.proofs.Common.{◌≡◌, length}
use Rattle.lowered_graphs.specs.Exprs.{Setting}
use Rattle.c_lower.specs.Holding.{exprs_have}
use Rattle.c_lower.proofs.holding.exprs_have.Given as goal

abbrev pub invariant-loop-e : goal.invariant-loop-e
invariant-loop-e l = (s : Setting) → exprs_have s l.sought l.fn.es ≡ exprs_have s l.sought l.left

abbrev pub decreases-loop-e : goal.decreases-loop-e
decreases-loop-e l = length l.left
