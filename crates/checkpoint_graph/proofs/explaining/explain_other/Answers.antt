use Rattle.std.proofs.Common.{◌∙◌, List, [], true, false, ap, sym}
use Rattle.flow_graph.specs.declared.graph.Item.{Item}
use Rattle.chain_units.specs.Chains.{body_chains, other_chain}
use Rattle.chain_units.proofs.Closing.{on_ok}
use Rattle.chain_units.proofs.ExplainedChains.{adds_nothing}
use Rattle.checkpoint_graph.proofs.ExplainedFunctions.{explains_same}
use Rattle.checkpoint_graph.proofs.Following.{out_is}
use Rattle.checkpoint_graph.proofs.explaining.explain_other.Goals as goal

pub returns-then-left_out : goal.returns-then-left_out
returns-then-left_out g c =
    let k = g.K.Knowledge.known c.args.k.now in
    let f = c.args.function in
    let func = c.args.func.now in
    let es = c.args.made.now.items in
    explains_same k c.args.chains.now [] (other_chain k f func) es es (sym (out_is k f func c.args.main true c.requires.main (sym c.is_left_out-left_out.ensures ∙ c.if-left_out.true))) (adds_nothing k c.args.chains.now es)

pub returns-else-left_out : goal.returns-else-left_out
returns-else-left_out g c =
    let k = g.K.Knowledge.known c.args.k.now in
    let f = c.args.function in
    let func = c.args.func.now in
    on_ok c.put_explained.result
    (λ adds. explains_same k c.args.chains.now (body_chains k f c.as_slice.result.now) (other_chain k f func) c.args.made.now.items c.put_explained.new.made.items
    (ap (λ (xs : List Item). body_chains k f xs) c.as_slice.ensures ∙ sym (out_is k f func c.args.main false c.requires.main (sym c.is_left_out-left_out.ensures ∙ c.if-left_out.false))) (adds f))
    c.put_explained.ensures
