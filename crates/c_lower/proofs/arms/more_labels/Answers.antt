use Rattle.std.proofs.Common.{ap, refl}
use Rattle.lowered_graphs.specs.Stmts as spec
use Rattle.c_lower.proofs.EmitLemmas.{leads_start, leads_on, leads_end}
use Rattle.c_lower.proofs.arms.more_labels.Goals as goal

pub loop-label-init : goal.loop-label-init
loop-label-init c = leads_start _ _ _ (λ k. refl)

pub loop-label-preserved : goal.loop-label-preserved
loop-label-preserved c = leads_on _ _ (spec.one_more_label c.args.v c.loop-label.found c.in-Some.label.now) (λ x. spec.more_labels c.args.v x c.in-Some.rest.now) _ _ _ _ c.loop-label.invariant
    (ap (λ xs. spec.more_labels c.args.v c.loop-label.found xs c.loop-label.to.counts) c.in-Some.ensures) c.in_ok-found.ensures

pub returns : goal.returns
returns c = leads_end _ _ _ _ _ c.loop-label.invariant (ap (λ xs. spec.more_labels c.args.v c.loop-label.found xs c.loop-label.to.counts) c.in_default.ensures)
