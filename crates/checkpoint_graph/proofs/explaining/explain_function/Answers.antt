use Rattle.std.proofs.Common.{◌∙◌, List, [], ap, sym, subst}
use Rattle.std.specs.Prelude.{Option, slice_get}
use Rattle.flow_graph.specs.declared.graph.Func.{Func}
use Rattle.flow_graph.specs.declared.graph.Item.{Item}
use Rattle.chain_units.specs.Chains.{body_chains, function_chains}
use Rattle.chain_units.specs.Fits.{BodyFits}
use Rattle.chain_units.proofs.Closing.{on_ok}
use Rattle.chain_units.proofs.ExplainedChains.{adds_nothing}
use Rattle.checkpoint_graph.proofs.ExplainedFunctions.{explains_same}
use Rattle.checkpoint_graph.proofs.Listing.{all_at}
use Rattle.checkpoint_graph.proofs.explaining.explain_function.Goals as goal

pub put_explained-requires : goal.put_explained-requires
put_explained-requires g c =
    let k = g.K.Knowledge.known c.args.k.now in
    subst (λ (xs : List Item). BodyFits k xs) (sym c.as_slice.ensures) (all_at (λ (f : Func). BodyFits k f.body) c.args.functions.now c.args.function c.in-Some.func.now c.in-Some.ensures c.requires)

pub returns-in-None : goal.returns-in-None
returns-in-None g c =
    let k = g.K.Knowledge.known c.args.k.now in
    let f = c.args.function in
    let es = c.args.made.now.items in
    explains_same k c.args.chains.now [] (function_chains k f (slice_get c.args.functions.now f)) es es (sym (ap (λ (o : Option Func). function_chains k f o) c.in-None.ensures)) (adds_nothing k c.args.chains.now es)

pub returns-in-Some : goal.returns-in-Some
returns-in-Some g c =
    let k = g.K.Knowledge.known c.args.k.now in
    let f = c.args.function in
    on_ok c.put_explained.result
    (λ adds. explains_same k c.args.chains.now (body_chains k f c.as_slice.result.now) (function_chains k f (slice_get c.args.functions.now f)) c.args.made.now.items c.put_explained.new.made.items
    (ap (λ (xs : List Item). body_chains k f xs) c.as_slice.ensures ∙ sym (ap (λ (o : Option Func). function_chains k f o) c.in-Some.ensures)) (adds f))
    c.put_explained.ensures
