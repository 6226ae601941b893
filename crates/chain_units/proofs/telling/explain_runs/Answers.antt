use Rattle.chain_units.proofs.ExplainedChains.{still_next, still_none}
use Rattle.chain_units.proofs.telling.explain_runs.Goals as goal

pub loop-run-preserved : goal.loop-run-preserved
loop-run-preserved g c f os are =
    still_next (g.K.Knowledge.known c.args.k.now) f os c.loop-run.left.now c.in-Some.behind.now c.in-Some.run'.now c.args.chains.now c.args.made.now.items c.loop-run.made.items c.explain_next.new.made.items c.in-Some.ensures
    c.in_ok-explain_next.ensures (c.loop-run.invariant f os are)

pub returns : goal.returns
returns g c f os are =
    still_none (g.K.Knowledge.known c.args.k.now) f os c.loop-run.left.now c.args.chains.now c.args.made.now.items c.loop-run.made.items c.in_default.ensures (c.loop-run.invariant f os are)
