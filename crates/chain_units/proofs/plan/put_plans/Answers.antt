use Rattle.std.specs.List.{AllByRecursion}
use Rattle.std.proofs.Common.{◌+◌, ◌∙◌, List, ap, length, subst}
use Rattle.chain_units.specs.declared.plan.Chain.{Chain}
use Rattle.chain_units.specs.declared.cutting.Run.{Run}
use Rattle.chain_units.specs.Placements.{RunFits}
use Rattle.chain_units.proofs.Following.{done_all, next, start}
use Rattle.chain_units.proofs.plan.put_plans.Goals as goal

pub loop-run-init : goal.loop-run-init
loop-run-init g c = record { fits = c.requires; so_far = λ os are. start (g.K.Knowledge.known c.args.k.now) c.args.function os c.args.runs.now c.args.chains.now.items are }

pub plan_run-requires : goal.plan_run-requires
plan_run-requires g c = (subst (λ (rs : List Run). AllByRecursion (RunFits (g.K.Knowledge.known c.args.k.now)) rs) c.in-Some.ensures c.loop-run.invariant.fits).0

pub loop-run-preserved : goal.loop-run-preserved
loop-run-preserved g c =
    let k = g.K.Knowledge.known c.args.k.now in
    record {
      fits = (subst (λ (rs : List Run). AllByRecursion (RunFits k) rs) c.in-Some.ensures c.loop-run.invariant.fits).1;
      so_far = λ os are.
          next k c.args.function os c.loop-run.left.now c.in-Some.behind.now c.in-Some.run'.now c.in_ok-chain.chain c.args.chains.now.items c.loop-run.chains.items c.put_chain.new.chains.items c.in-Some.ensures
          (c.in_ok-chain.ensures.place.0 ∙ (c.in_ok-number.ensures ∙ ap (λ (cs : List Chain). length cs + 1) c.deref.ensures.value)) c.in_ok-chain.ensures.place.1 c.in_ok-chain.ensures.plan c.in_ok-put_chain.ensures
          (c.loop-run.invariant.so_far os are);
    }

pub returns : goal.returns
returns g c os are =
    let k = g.K.Knowledge.known c.args.k.now in
    done_all k c.args.function os c.loop-run.left.now c.args.chains.now.items c.loop-run.chains.items c.in_default.ensures (c.loop-run.invariant.so_far os are)
