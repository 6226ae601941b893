use Rattle.std.proofs.Common.{ap, sym, ◌∙◌, ◌∷◌}
use Rattle.lowered_graphs.specs.Making.{made_on, copy_into}
use Rattle.lowered_graphs.specs.Exprs as spec
use Rattle.c_lower.proofs.EmitLemmas.{leads_on, leads_end}
use Rattle.c_lower.proofs.exprs.copy_arguments.Goals as goal

pub returns-in-None : goal.returns-in-None
returns-in-None c = λ s h. leads_end _ _ _ _ _ (c.loop-x.invariant s h)
    (ap (λ xs. spec.copy_arguments s xs c.loop-x.left.now c.args.place c.loop-x.to.counts) c.in-Some.ensures
    ∙ ap (λ ys. spec.copy_arguments s (c.in-Some.x.now ∷ c.in-Some.more.now) ys c.args.place c.loop-x.to.counts) c.in-None.ensures)

pub loop-x-preserved : goal.loop-x-preserved
loop-x-preserved c = λ s h. leads_on _ _ (copy_into c.home.result c.in-Some-first_and_rest.a.now c.args.place)
    (λ u. spec.copy_arguments s c.in-Some.more.now c.in-Some-first_and_rest.rest.now c.args.place) _ _ _ _ (c.loop-x.invariant s h)
    (ap (λ xs. spec.copy_arguments s xs c.loop-x.left.now c.args.place c.loop-x.to.counts) c.in-Some.ensures
    ∙ (ap (λ ys. spec.copy_arguments s (c.in-Some.x.now ∷ c.in-Some.more.now) ys c.args.place c.loop-x.to.counts) c.in-Some-first_and_rest.ensures
    ∙ ap (λ o. made_on (copy_into o c.in-Some-first_and_rest.a.now c.args.place c.loop-x.to.counts) (λ u. spec.copy_arguments s c.in-Some.more.now c.in-Some-first_and_rest.rest.now c.args.place))
    (ap (λ hs. spec.home_in hs c.in-Some.x.now) h ∙ sym c.home.ensures)))
    c.in_ok-copy_into-in-Some-first_and_rest.ensures

pub returns : goal.returns
returns c = λ s h. leads_end _ _ _ _ _ (c.loop-x.invariant s h) (ap (λ xs. spec.copy_arguments s xs c.loop-x.left.now c.args.place c.loop-x.to.counts) c.in_default.ensures)
