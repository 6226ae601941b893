use Rattle.std.proofs.Common.{ap, refl, ◌+◌}
use Rattle.lowered_graphs.specs.Exprs.{setting_of}
use Rattle.lowered_graphs.specs.Stmts as spec
use Rattle.c_lower.proofs.EmitLemmas.{leads_start, leads_on, leads_end}
use Rattle.c_lower.proofs.declarations.fill.Goals as goal

pub loop-e-init : goal.loop-e-init
loop-e-init c = leads_start _ _ _ (λ k. refl)

pub loop-e-preserved : goal.loop-e-preserved
loop-e-preserved c = rw c.in_ok-k.ensures (leads_on _ _ (spec.fill_one (setting_of c.args.p.now c.args.homes.now) c.args.array c.loop-e.k c.in-Some.e.now c.args.place)
    (λ x. spec.fill (setting_of c.args.p.now c.args.homes.now) c.args.array (c.loop-e.k + 1) c.in-Some.rest.now c.args.place) _ _ _ _ c.loop-e.invariant
    (ap (λ xs. spec.fill (setting_of c.args.p.now c.args.homes.now) c.args.array c.loop-e.k xs c.args.place c.loop-e.to.counts) c.in-Some.ensures) c.in_ok-fill_one.ensures)

pub returns : goal.returns
returns c = leads_end _ _ _ _ _ c.loop-e.invariant (ap (λ xs. spec.fill (setting_of c.args.p.now c.args.homes.now) c.args.array c.loop-e.k xs c.args.place c.loop-e.to.counts) c.in_default.ensures)
