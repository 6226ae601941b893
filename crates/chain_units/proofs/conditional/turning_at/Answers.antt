use Rattle.std.proofs.Common.{sym, subst}
use Rattle.loop_checkpoints.specs.declared.LoopPlan.{LoopPlan}
use Rattle.loop_checkpoints.specs.Plans.{IsSplit}
use Rattle.chain_units.specs.Known.{told_weights}
use Rattle.chain_units.proofs.ConditionalLemmas.{none_fits, one_fits}
use Rattle.chain_units.proofs.conditional.turning_at.Goals as goal

pub returns-in-Split-clause-fits : goal.returns-in-Split-clause-fits
returns-in-Split-clause-fits g c =
    let k = g.K.Knowledge.known c.args.k.now in
    none_fits k c.args.touched.now c.args.top c.args.behind (told_weights c.args.weights.now) c.requires (c.in_ok-plan.ensures.split.0 (subst (λ (p : LoopPlan). IsSplit p) (sym c.in-Split.is) tt))

pub returns-in-Every-clause-fits : goal.returns-in-Every-clause-fits
returns-in-Every-clause-fits g c =
    let k = g.K.Knowledge.known c.args.k.now in
    one_fits k c.args.touched.now c.args.top c.args.behind (told_weights c.args.weights.now) c.requires (λ none. subst (λ (p : LoopPlan). IsSplit p) c.in-Every.is (c.in_ok-plan.ensures.split.1 none))
