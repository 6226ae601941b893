use Rattle.std.proofs.Common.{ap, refl}
use Rattle.std.specs.Prelude.{slice_get}
use Rattle.lowered_graphs.specs.Exprs.{setting_of}
use Rattle.lowered_graphs.specs.Stmts as spec
use Rattle.c_lower.proofs.EmitLemmas.{leads_start, leads_on, leads_end}
use Rattle.c_lower.proofs.declarations.declare.Goals as goal

pub loop-d-init : goal.loop-d-init
loop-d-init c = leads_start _ _ _ (λ k. refl)

pub loop-d-preserved : goal.loop-d-preserved
loop-d-preserved c = leads_on _ _ (spec.declare_one (setting_of c.args.p.now c.args.homes.now) (slice_get c.args.p.now.variables c.in-Some.d.now.variable) c.in-Some.d.now)
    (λ x. spec.declare (setting_of c.args.p.now c.args.homes.now) c.in-Some.rest.now) _ _ _ _ c.loop-d.invariant
    (ap (λ xs. spec.declare (setting_of c.args.p.now c.args.homes.now) xs c.loop-d.to.counts) c.in-Some.ensures) c.in_ok-declare_one.ensures

pub returns : goal.returns
returns c = leads_end _ _ _ _ _ c.loop-d.invariant (ap (λ xs. spec.declare (setting_of c.args.p.now c.args.homes.now) xs c.loop-d.to.counts) c.in_default.ensures)
