use Rattle.std.proofs.Common.{◌∙◌, List, Bool, sym, ap}
use Rattle.call_depth.specs.Levels.{called_in, some_marked}
use Rattle.call_depth.proofs.Leading.{deepest, next_level}
use Rattle.call_depth.proofs.depth.depth_below.Goals as goal

pub returns-then-not-some_marked : goal.returns-then-not-some_marked
returns-then-not-some_marked c =
    deepest c.args.operations.now c.args.count c.args.function c.requires.within c.loop-depth.depth c.loop-depth.level.items c.in_ok-next.next.items c.loop-depth.invariant
    (λ f lt. c.in_ok-next.ensures.called f lt ∙ ap (λ (marks : List Bool). called_in c.args.operations.now marks f) c.as_slice.ensures.value)
    (sym (ap some_marked c.as_slice-in-loop-depth.ensures.value) ∙ (sym c.some_marked.ensures ∙ c.if-not-some_marked.true))

pub loop-depth-preserved : goal.loop-depth-preserved
loop-depth-preserved c =
    next_level c.args.operations.now c.args.count c.args.function c.requires.within c.loop-depth.depth c.loop-depth.level.items c.in_ok-next.next.items c.loop-depth.invariant c.in_ok-next.ensures.length
    (λ f lt. c.in_ok-next.ensures.called f lt ∙ ap (λ (marks : List Bool). called_in c.args.operations.now marks f) c.as_slice.ensures.value)
    (sym (ap some_marked c.as_slice-in-loop-depth.ensures.value) ∙ (sym c.some_marked.ensures ∙ c.if-not-some_marked.false))
