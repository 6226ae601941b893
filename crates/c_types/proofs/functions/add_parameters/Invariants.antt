use Rattle.std.proofs.Common.{◌≡◌, [], length}
use Rattle.c_typing.specs.Functions as spec
use Rattle.c_typing.proofs.Making.{Leads}
use Rattle.c_types.proofs.functions.add_parameters.Given as goal

abbrev pub invariant-loop-p : goal.invariant-loop-p
invariant-loop-p l = Leads (spec.add_parameters [] l.ps) l.initial.state (spec.add_parameters l.done l.rest) l.state

abbrev pub decreases-loop-p : goal.decreases-loop-p
decreases-loop-p l = length l.rest
