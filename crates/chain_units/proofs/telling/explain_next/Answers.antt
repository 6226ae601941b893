use Rattle.std.proofs.Common.{List, ap, length}
use Rattle.chain_units.specs.declared.telling.ExplainedChain.{ExplainedChain}
use Rattle.chain_units.proofs.Closing.{on_ok}
use Rattle.chain_units.proofs.ExplainedChains.{adds_none_more, adds_one_more}
use Rattle.chain_units.proofs.telling.explain_next.Goals as goal

pub returns-in-None : goal.returns-in-None
returns-in-None g c o is =
    adds_none_more (g.K.Knowledge.known c.args.k.now) c.args.chains.now c.args.made.now.items (length c.as_slice-done.result.now) o (ap (λ (es : List ExplainedChain). length es) c.as_slice-done.ensures.value) c.in-None.ensures

pub returns-in_ok-one-in-Some : goal.returns-in_ok-one-in-Some
returns-in_ok-one-in-Some g c =
    on_ok c.put_explained_chain.result
    (λ new o is. adds_one_more (g.K.Knowledge.known c.args.k.now) c.args.chains.now c.args.made.now.items c.put_explained_chain.new.made.items (length c.as_slice-done.result.now) o c.in-Some.chain.now c.in_ok-one-in-Some.one
    (ap (λ (es : List ExplainedChain). length es) c.as_slice-done.ensures.value) c.in-Some.ensures new (c.in_ok-one-in-Some.ensures o.chain is)) c.put_explained_chain.ensures
