use Rattle.std.proofs.Common.{◌≡◌, ◌+◌, ◌*◌, ◌≤◌, ◌++◌, map, length}
use Rattle.c_typing.specs.Sizes.{size, total}
use Rattle.c_typing.specs.Functions as spec
use Rattle.c_typing.specs.Programs.{judged}
use Rattle.c_types.proofs.parameters.+params.Given as goal

abbrev pub decreases-add_params : goal.decreases-add_params
decreases-add_params l = 40 * size l.raw.now + 0

abbrev pub decreases-add_each : goal.decreases-add_each
decreases-add_each l = 40 * total l.parts.now + 4

-- what is there is followed by the parameters of what is left
abbrev pub invariant-add_each-loop-part : goal.invariant-add_each-loop-part
invariant-add_each-loop-part l = (l.initial.done ++ spec.params_by (map judged l.parts) ≡ l.done ++ spec.params_by (map judged l.rest)) × (total l.rest ≤ total l.parts)

abbrev pub decreases-add_each-loop-part : goal.decreases-add_each-loop-part
decreases-add_each-loop-part l = length l.rest
