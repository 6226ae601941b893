use Rattle.std.specs.Prelude.{length, slice_index_or}
use Rattle.std.specs.List.{AllByRecursion}
use Rattle.std.proofs.Common.{Bool, false, List, ◌∙◌, ap, sym, subst}
use Rattle.std.specs.Prelude.{Vec}
use Rattle.std.specs.declared.alloc.Global.{Global}
use Rattle.flow_graph.specs.declared.graph.Func.{Func}
use Rattle.chain_units.specs.declared.telling.ExplainedChain.{ExplainedChain}
use Rattle.chain_units.specs.Chains.{chains}
use Rattle.chain_units.specs.Explained.{AreExplained}
use Rattle.chain_units.specs.Fits.{BodyFits}
use Rattle.chain_units.specs.Known.{Known}
use Rattle.checkpoint_graph.specs.Knowing.{known_by}
use Rattle.checkpoint_graph.specs.Placings.{AreExplainedOf}
use Rattle.checkpoint_graph.proofs.Fitting.{all_bodies_fit}
use Rattle.checkpoint_graph.proofs.ItemSums.{if_ok}
use Rattle.checkpoint_graph.proofs.KnownSame.{known_is}
use Rattle.checkpoint_graph.proofs.explaining.explain.Goals as goal

pub explained-requires-clause-fits : goal.explained-requires-clause-fits
explained-requires-clause-fits c =
    let g = c.args.g.now in
    let same = known_is g c.args.live.now c.args.s.now c.args.b.now c.as_slice-3.result.now c.as_slice-4.result.now (length c.as_slice.result.now) c.as_slice-2.result.now (c.as_slice-3.ensures.value ∙ c.in_ok-costs.ensures)
    (λ o. ap (λ (xs : List Bool). slice_index_or xs o false) c.as_slice-4.ensures.value ∙ c.in_ok-arrays.ensures o) (c.as_slice-2.ensures.value ∙ c.requires.live.operations) (ap length c.as_slice.ensures) in
    subst (λ (k : Known). AllByRecursion (λ (f : Func). BodyFits k f.body) g.functions) (sym same) (all_bodies_fit g c.args.live.now c.args.s.now c.args.b.now c.requires.rules c.requires.summaries.paid c.requires.fit)

pub returns : goal.returns
returns c =
    let g = c.args.g.now in
    let cs = c.args.placing.now.chains.items in
    let by = known_by g c.args.live.now c.args.s.now c.args.b.now c.as_slice-3.result.now (λ o. slice_index_or c.as_slice-4.result.now o false) (length c.as_slice.result.now) in
    let same = known_is g c.args.live.now c.args.s.now c.args.b.now c.as_slice-3.result.now c.as_slice-4.result.now (length c.as_slice.result.now) c.as_slice-2.result.now (c.as_slice-3.ensures.value ∙ c.in_ok-costs.ensures)
    (λ o. ap (λ (xs : List Bool). slice_index_or xs o false) c.as_slice-4.ensures.value ∙ c.in_ok-arrays.ensures o) (c.as_slice-2.ensures.value ∙ c.requires.live.operations) (ap length c.as_slice.ensures) in
    if_ok (λ (made : Vec ExplainedChain Global). AreExplained by (chains by) c.as_slice-5.result.now made.items) (λ (made : Vec ExplainedChain Global). AreExplainedOf g c.args.live.now c.args.s.now c.args.b.now cs made.items) c.explained.result
    (λ made are. subst (λ xs. AreExplainedOf g c.args.live.now c.args.s.now c.args.b.now xs made.items) c.as_slice-5.ensures.value (subst (λ (k : Known). AreExplained k (chains k) c.as_slice-5.result.now made.items) same are)) c.explained.ensures
