use Rattle.std.proofs.Common.{◌≡◌, length, map, []}
use Rattle.c_typing.specs.Programs.{judged}
use Rattle.c_typing.specs.Declarations as spec
use Rattle.c_typing.proofs.Making.{Leads}
use Rattle.c_statements.proofs.declarations.listed.Given as goal

abbrev pub invariant-loop-part : goal.invariant-loop-part
invariant-loop-part l = Leads (spec.listed l.ty l.most [] (map judged l.parts)) l.initial.state (spec.listed l.ty l.most l.done (map judged l.rest)) l.state

abbrev pub decreases-loop-part : goal.decreases-loop-part
decreases-loop-part l = length l.rest
