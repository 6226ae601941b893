use Rattle.std.specs.Prelude.{length, slice_index_or}
use Rattle.std.specs.List.{AllByRecursion}
use Rattle.std.proofs.Common.{Bool, false, List, ◌∙◌, ap, sym, subst}
use Rattle.flow_graph.specs.declared.graph.Func.{Func}
use Rattle.chain_units.specs.Chains.{chains}
use Rattle.chain_units.specs.Fits.{BodyFits}
use Rattle.chain_units.specs.Known.{Known}
use Rattle.chain_units.specs.Planned.{ArePlans}
use Rattle.checkpoint_graph.specs.Knowing.{known_by}
use Rattle.checkpoint_graph.specs.Placings.{ArePlansOf}
use Rattle.checkpoint_graph.specs.declared.placing.Placing.{Placing}
use Rattle.checkpoint_graph.proofs.Fitting.{all_bodies_fit}
use Rattle.checkpoint_graph.proofs.ItemSums.{if_ok}
use Rattle.checkpoint_graph.proofs.KnownSame.{known_is}
use Rattle.checkpoint_graph.proofs.placing.planned.Goals as goal

pub placed-requires-clause-fits : goal.placed-requires-clause-fits
placed-requires-clause-fits c =
    let g = c.args.g.now in
    let same = known_is g c.args.live.now c.args.s.now c.args.b.now c.as_slice-3.result.now c.as_slice-4.result.now (length c.as_slice.result.now) c.as_slice-2.result.now (c.as_slice-3.ensures.value ∙ c.in_ok-costs.ensures)
    (λ o. ap (λ (xs : List Bool). slice_index_or xs o false) c.as_slice-4.ensures.value ∙ c.in_ok-arrays.ensures o) (c.as_slice-2.ensures.value ∙ c.requires.live.operations) (ap length c.as_slice.ensures) in
    subst (λ (k : Known). AllByRecursion (λ (f : Func). BodyFits k f.body) g.functions) (sym same) (all_bodies_fit g c.args.live.now c.args.s.now c.args.b.now c.requires.rules c.requires.summaries.paid c.requires.fit)

pub returns : goal.returns
returns c =
    let g = c.args.g.now in
    let by = known_by g c.args.live.now c.args.s.now c.args.b.now c.as_slice-3.result.now (λ o. slice_index_or c.as_slice-4.result.now o false) (length c.as_slice.result.now) in
    let same = known_is g c.args.live.now c.args.s.now c.args.b.now c.as_slice-3.result.now c.as_slice-4.result.now (length c.as_slice.result.now) c.as_slice-2.result.now (c.as_slice-3.ensures.value ∙ c.in_ok-costs.ensures)
    (λ o. ap (λ (xs : List Bool). slice_index_or xs o false) c.as_slice-4.ensures.value ∙ c.in_ok-arrays.ensures o) (c.as_slice-2.ensures.value ∙ c.requires.live.operations) (ap length c.as_slice.ensures) in
    if_ok (λ (made : Placing). ArePlans by 1 (chains by) made.chains.items) (λ (made : Placing). ArePlansOf g c.args.live.now c.args.s.now c.args.b.now made.chains.items) c.placed.result
    (λ made are. subst (λ (k : Known). ArePlans k 1 (chains k) made.chains.items) same are) c.placed.ensures
