use Rattle.checkpoint_graph.proofs.Following.{placed_all}
use Rattle.checkpoint_graph.proofs.placing.placed.Goals as goal

pub returns : goal.returns
returns g c =
    placed_all (g.K.Knowledge.known c.args.k.now) c.args.g.now c.as_slice.result.now c.as_slice-2.result.now c.new-chains.result.items c.put_function.new.chains.items c.put_others.new.chains.items c.new-chains.ensures.items
    c.as_slice.ensures c.as_slice-2.ensures c.requires.graph c.in_ok-put_function.ensures c.in_ok-put_others.ensures
