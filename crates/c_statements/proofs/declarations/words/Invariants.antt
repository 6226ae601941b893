use Rattle.std.proofs.Common.{◌≡◌, length, []}
use Rattle.c_typing.specs.Declarations as spec
use Rattle.c_typing.proofs.Making.{Leads}
use Rattle.c_statements.proofs.declarations.words.Given as goal

abbrev pub invariant-loop-e : goal.invariant-loop-e
invariant-loop-e l = Leads (spec.words_onto [] l.es) l.initial.state (spec.words_onto l.done l.rest) l.state

abbrev pub decreases-loop-e : goal.decreases-loop-e
decreases-loop-e l = length l.rest
