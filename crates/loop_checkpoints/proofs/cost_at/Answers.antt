use Rattle.std.proofs.Common.{◌≡◌, ◌∙◌, List, subst}
use Rattle.home_planner.specs.declared.Gain.{Gain}
use Rattle.home_planner.specs.Sets as sets
use Rattle.loop_checkpoints.specs.Loops.{gains_of}
use Rattle.loop_checkpoints.proofs.Costs.{cost_is, fits_not}
use Rattle.loop_checkpoints.proofs.cost_at.Goals as goal

pub returns-then-cost-budget : goal.returns-then-cost-budget
returns-then-cost-budget c =
    let w = c.args.weight.now in
    let e : c.in_ok-gains.gains.items ≡ gains_of c.args.turns c.args.budget w.objects.items = cc (c.in_ok-gains.ensures.gains) in
    let f : c.deref-2.result.now ≡ c.in_ok-gains.gains.items = cc in
    let least = subst (λ (gs : List Gain). sets.IsLeast gs c.args.room c.in_ok-least.least) (f ∙ e) c.in_ok-least.ensures in
    cost_is w c.args.room c.args.budget c.args.turns c.in_ok-least.least c.total-cost.result least c.total-cost.ensures c.requires.budget c.if-cost-budget.true

pub returns : goal.returns
returns c =
    let w = c.args.weight.now in
    let e : c.in_ok-gains.gains.items ≡ gains_of c.args.turns c.args.budget w.objects.items = cc (c.in_ok-gains.ensures.gains) in
    let f : c.deref-2.result.now ≡ c.in_ok-gains.gains.items = cc in
    let least = subst (λ (gs : List Gain). sets.IsLeast gs c.args.room c.in_ok-least.least) (f ∙ e) c.in_ok-least.ensures in
    fits_not w c.args.room c.args.budget c.args.turns c.in_ok-least.least c.total-cost.result least c.total-cost.ensures c.if-cost-budget.false
