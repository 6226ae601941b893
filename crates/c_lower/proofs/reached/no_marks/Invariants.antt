use Rattle.std.proofs.Common.{◌≡◌, ◌++◌, length, replicate}
use Rattle.std.specs.Prelude.{false}
use Rattle.c_lower.proofs.reached.no_marks.Given as goal

abbrev pub invariant-loop-rest : goal.invariant-loop-rest
invariant-loop-rest l = l.marks ++ replicate (length l.left) false ≡ replicate (length l.p.functions) false

abbrev pub decreases-loop-rest : goal.decreases-loop-rest
decreases-loop-rest l = length l.left
