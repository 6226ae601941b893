use Rattle.std.proofs.Common.{ap, sym, ◌∙◌, [], ◌∷◌}
use Rattle.c_lower.specs.Arms.{nested}
use Rattle.c_lower.proofs.ItemLemmas.{nested_append}
use Rattle.c_lower.proofs.arms.nest.Goals as goal

pub loop-arm-preserved : goal.loop-arm-preserved
loop-arm-preserved c = ap (λ l. nested c.pop.new.self l) c.in_ok-items.ensures
    ∙ (sym (nested_append c.pop.new.self (c.in-Some.arm ∷ []) c.loop-arm.items)
    ∙ (sym (ap (λ l. nested l c.loop-arm.items) c.in-Some.ensures) ∙ c.loop-arm.invariant))
