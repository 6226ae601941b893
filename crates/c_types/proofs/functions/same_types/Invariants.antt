use Rattle.std.proofs.Common.{◌≡◌, length}
use Rattle.c_typing.specs.Functions.{same_types}
use Rattle.c_types.proofs.functions.same_types.Given as goal

abbrev pub invariant-loop-x : goal.invariant-loop-x
invariant-loop-x l = same_types l.a l.b ≡ same_types l.xs l.ys

abbrev pub decreases-loop-x : goal.decreases-loop-x
decreases-loop-x l = length l.xs
