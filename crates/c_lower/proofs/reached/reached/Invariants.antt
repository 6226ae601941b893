use Rattle.std.proofs.Common.{◌≡◌, ◌+◌, length, ℕ}
use Rattle.lowered_graphs.specs.GraphOf.{marks_after}
use Rattle.c_lower.proofs.reached.reached.Given as goal

abbrev pub invariant-loop-rest : goal.invariant-loop-rest
invariant-loop-rest l = (k : ℕ) × (k + length l.left ≡ length l.p.functions) × (l.marks ≡ marks_after l.p k)

abbrev pub decreases-loop-rest : goal.decreases-loop-rest
decreases-loop-rest l = length l.left
