use Rattle.std.proofs.Common.{◌≡◌, ◌+◌, ◌*◌, ◌≤◌, map, length, reverse}
use Rattle.c_typing.specs.Sizes.{size, total}
use Rattle.c_typing.specs.Expressions as spec
use Rattle.c_typing.specs.Parts.{◌>>=◌}
use Rattle.c_typing.specs.declared.state.State.{State}
use Rattle.c_typing.specs.Programs.{judged}
use Rattle.c_typing.proofs.Making.{Leads}
use Rattle.c_expressions.specs.Operations.{rests_of, rights}
use Rattle.c_expressions.proofs.expressions.+walk.Given as goal

-- A node has fewer tokens and nodes below it than itself; at the same tree the calls go down these ranks.
abbrev pub decreases-expr : goal.decreases-expr
decreases-expr l = 40 * size l.raw.now + 0

abbrev pub decreases-value_of : goal.decreases-value_of
decreases-value_of l = 40 * size l.raw.now + 1

abbrev pub decreases-argument : goal.decreases-argument
decreases-argument l = 40 * size l.part.now + 2

abbrev pub decreases-last_arm : goal.decreases-last_arm
decreases-last_arm l = 40 * size l.no.now + 2

abbrev pub decreases-arms : goal.decreases-arms
decreases-arms l = 40 * (size l.yes.now + size l.no.now) + 3

abbrev pub decreases-second_operand : goal.decreases-second_operand
decreases-second_operand l = 40 * size l.b.now + 2

abbrev pub decreases-left : goal.decreases-left
decreases-left l = 40 * size l.raw.now + 10

abbrev pub decreases-rests : goal.decreases-rests
decreases-rests l = 40 * rights (reverse l.above.items) + 9

abbrev pub decreases-operated : goal.decreases-operated
decreases-operated l = 40 * size l.operation.right.now + 4

abbrev pub decreases-choice : goal.decreases-choice
decreases-choice l = 40 * total l.parts.now + 20

abbrev pub decreases-binary : goal.decreases-binary
decreases-binary l = 40 * total l.parts.now + 20

abbrev pub decreases-unary : goal.decreases-unary
decreases-unary l = 40 * total l.parts.now + 20

abbrev pub decreases-primary : goal.decreases-primary
decreases-primary l = 40 * total l.parts.now + 20

abbrev pub decreases-named : goal.decreases-named
decreases-named l = 40 * total l.rest.now + 10

abbrev pub decreases-element : goal.decreases-element
decreases-element l = 40 * total l.parts.now + 5

abbrev pub decreases-call : goal.decreases-call
decreases-call l = 40 * total l.parts.now + 5

abbrev pub decreases-arguments : goal.decreases-arguments
decreases-arguments l = 40 * total l.parts.now + 4

abbrev pub invariant-arguments-loop-part : goal.invariant-arguments-loop-part
invariant-arguments-loop-part l = Leads (spec.arguments l.meaning l.initial.done (map judged l.parts)) l.initial.state (spec.arguments l.meaning l.done (map judged l.rest)) l.state × (total l.rest ≤ total l.parts)

abbrev pub decreases-arguments-loop-part : goal.decreases-arguments-loop-part
decreases-arguments-loop-part l = length l.rest

abbrev pub invariant-left-loop-operation : goal.invariant-left-loop-operation
invariant-left-loop-operation l = ((s : State) → spec.value_of (judged l.raw) s ≡ (spec.value_of (judged l.at) >>= rests_of (reverse l.above.items)) s) × (rights (reverse l.above.items) + size l.at ≤ size l.raw)

abbrev pub decreases-left-loop-operation : goal.decreases-left-loop-operation
decreases-left-loop-operation l = size l.at

abbrev pub invariant-rests-loop-operation : goal.invariant-rests-loop-operation
invariant-rests-loop-operation l = Leads (rests_of (reverse l.initial.above.items) l.initial.value) l.initial.state (rests_of (reverse l.above.items) l.value) l.state × (rights (reverse l.above.items) ≤ rights (reverse l.initial.above.items))

abbrev pub decreases-rests-loop-operation : goal.decreases-rests-loop-operation
decreases-rests-loop-operation l = length (reverse l.above.items)
