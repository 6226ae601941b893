use Rattle.chain_units.proofs.ExplainedChains.{some_more}
use Rattle.chain_units.proofs.telling.explain_stretches.Goals as goal

pub loop-stretch-preserved : goal.loop-stretch-preserved
loop-stretch-preserved g c =
    some_more (g.K.Knowledge.known c.args.k.now) c.args.run.now c.args.stretches.now c.loop-stretch.left.now c.in-Some.behind.now c.loop-stretch.made.items c.put_explained_one.new.made.items c.in-Some.stretch.now c.in_ok-one.one
    c.in-Some.ensures c.in_ok-put_explained_one.ensures c.in_ok-one.ensures c.loop-stretch.invariant
