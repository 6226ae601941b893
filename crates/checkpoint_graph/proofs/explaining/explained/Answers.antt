use Rattle.checkpoint_graph.proofs.ExplainedFunctions.{explained_all}
use Rattle.checkpoint_graph.proofs.explaining.explained.Goals as goal

pub returns : goal.returns
returns g c =
    explained_all (g.K.Knowledge.known c.args.k.now) c.args.plans.now c.args.g.now c.as_slice.result.now c.as_slice-2.result.now c.new-made.result.items c.explain_function.new.made.items c.explain_others.new.made.items c.new-made.ensures.items
    c.as_slice.ensures c.as_slice-2.ensures c.requires.graph c.in_ok-explain_function.ensures c.in_ok-explain_others.ensures
