use Rattle.std.proofs.Common.{◌≡◌, sym, map, [], ap, ◌∙◌, arith}
use Rattle.c_typing.specs.Parts.{Gives, Makes, ◌>>=◌}
use Rattle.c_typing.specs.Programs.{judged}
use Rattle.c_typing.specs.Expressions as spec
use Rattle.c_typing.proofs.Making.{makes_then, named_call}
use Rattle.c_expressions.specs.Operations.{rights}
use Rattle.c_expressions.proofs.Operations.{comes_next, operands_below}
use Rattle.c_expressions.proofs.expressions.+walk.Goals as goal

pub left-loop-operation-smaller : goal.left-loop-operation-smaller
left-loop-operation-smaller t c = omega (arith, operands_below c.loop-operation.at.now c.in-Some.operation c.in-Some.ensures)

pub left-loop-operation-preserved : goal.left-loop-operation-preserved
left-loop-operation-preserved t c = (
  comes_next c.args.raw.now c.loop-operation.at.now c.in-Some.operation _ _ c.in-Some.ensures c.in_ok-keep.ensures c.loop-operation.invariant.0,
  omega (arith, c.loop-operation.invariant.1, operands_below c.loop-operation.at.now c.in-Some.operation c.in-Some.ensures, ap rights c.in_ok-keep.ensures),
)

pub call-returns : goal.call-returns
call-returns t c =
    let text = (judged c.args.name.now).text in
    let place = (judged c.args.name.now).place in
    let m = c.args.meaning in
    let parts = map judged c.args.parts.now in
    let begun : spec.begin_call text place m c.args.state.now ≡ Gives tt c.begin_call.new.state = rw (← c.text.ensures, ← c.place.ensures) c.in_ok-begin_call.ensures in
    let passed : spec.arguments m [] parts c.begin_call.new.state ≡ Gives c.in_ok-args.args c.arguments.new.state = rw (← c.new.ensures) c.in_ok-args.ensures in
    let called : Makes (spec.call_made text place m c.in_ok-args.args) c.arguments.new.state c.call_made.result c.call_made.new.state = rw (← c.text-2.ensures, ← c.place-2.ensures) c.call_made.ensures in
    makes_then (spec.begin_call text place m) (λ _. spec.arguments m [] parts >>= spec.call_made text place m) c.args.state.now tt c.begin_call.new.state c.call_made.result c.call_made.new.state begun
    (makes_then (spec.arguments m [] parts) (spec.call_made text place m) c.begin_call.new.state c.in_ok-args.args c.arguments.new.state c.call_made.result c.call_made.new.state passed called)

pub named-returns-else-spells : goal.named-returns-else-spells
named-returns-else-spells t c =
    named_call (judged c.args.name.now) (judged c.args.sign.now) (map judged c.args.rest.now) c.meaning_at-meaning.result c.args.state.now c.call.result c.call.new.state
    (ap (λ text. spec.meaning_at text c.args.state.now) (sym c.text.ensures) ∙ sym c.meaning_at-meaning.ensures)
    (sym c.spells.ensures ∙ c.if-spells.false) c.call.ensures
