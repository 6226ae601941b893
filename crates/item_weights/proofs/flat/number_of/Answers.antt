use Rattle.std.proofs.Common.{List, subst}
use Rattle.std.specs.Prelude.{Option, Some}
use Rattle.flow_graph.specs.declared.graph.Item.{Item}
use Rattle.item_weights.specs.declared.weighing.Tally.{Tally}
use Rattle.item_weights.specs.Weights.{items_weight}
use Rattle.item_weights.specs.Tallies.{IsPart}
use Rattle.item_weights.proofs.FlatNumbers.{flat_is}
use Rattle.item_weights.proofs.flat.number_of.Goals as goal

pub returns-in-Some : goal.returns-in-Some
returns-in-Some g c =
    let own = g.R.OwnWeights.own c.args.rule.now in
    flat_is (record { own = own; number = g.R.FlatRule.number_by c.args.rule.now c.args.objects }) c.args.main c.args.flats.now c.args.function c.args.func.now c.args.objects c.in-Some.tally c.number.result c.if-function-main.false
    (subst (λ (xs : List Item). IsPart c.args.objects (items_weight own c.args.flats.now xs) (Some c.in-Some.tally)) c.as_slice.ensures
    (subst (λ (y : Option Tally). IsPart c.args.objects (items_weight own c.args.flats.now c.as_slice.result.now) y) c.in-Some.is c.in_ok-items_tally.ensures))
    (c.number.ensures c.args.objects)
