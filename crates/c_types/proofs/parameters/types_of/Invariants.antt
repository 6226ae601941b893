use Rattle.std.proofs.Common.{◌≡◌, ◌++◌, length}
use Rattle.c_typing.specs.Functions as spec
use Rattle.c_types.proofs.parameters.types_of.Given as goal

abbrev pub invariant-loop-p : goal.invariant-loop-p
invariant-loop-p l = spec.types_of l.ps ≡ l.done ++ spec.types_of l.rest

abbrev pub decreases-loop-p : goal.decreases-loop-p
decreases-loop-p l = length l.rest
