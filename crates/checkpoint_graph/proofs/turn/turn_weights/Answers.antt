use Rattle.std.proofs.Common.{◌≡◌, ◌∙◌, List, [], ◌∷◌, ap}
use Rattle.std.specs.Prelude.{Option, Some, IfSome}
use Rattle.flow_graph.specs.declared.graph.Item.{Item}
use Rattle.flow_graph.specs.declared.graph.Item.TheVariants as item
use Rattle.item_weights.specs.declared.uses.Weights.{Weights}
use Rattle.item_weights.specs.Weights.{Weight, items_weight, joined, no_weight, plus}
use Rattle.board_weights.specs.OnBoard.{own}
use Rattle.chain_units.specs.Marks.{turn_of}
use Rattle.chain_units.specs.Sums.{Rises}
use Rattle.checkpoint_graph.specs.Knowing.{IsTold}
use Rattle.checkpoint_graph.proofs.ItemSums.{if_ok, nothing_told, rises_told, told_same, turn_weight}
use Rattle.checkpoint_graph.proofs.turn.turn_weights.Goals as goal

pub returns-clause-told : goal.returns-clause-told
returns-clause-told c =
    let on = c.args.on.now in
    let weigh = λ (xs : List Item). items_weight (own on.board) on.costs.now xs in
    let p = joined plus (Some no_weight) (weigh c.args.pre.now) in
    let t = joined plus p (weigh c.from_ref.result.now) in
    let q = joined plus t (weigh c.args.post.now) in
    let one : c.from_ref.result.now ≡ item.One c.args.test.now ∷ [] = c.from_ref.ensures.value in
    let whole = ap (λ (xs : List Item). joined plus (joined plus (joined plus p (weigh xs)) (weigh c.args.post.now)) (weigh c.args.step.now)) one
    ∙ turn_weight (own on.board) on.costs.now c.args.pre.now c.args.test.now c.args.post.now c.args.step.now in
    let first = c.in_ok-before.ensures (Some no_weight) (nothing_told on.objects c.no_weights.result c.no_weights.ensures) in
    let second = c.in_ok-tested.ensures p first in
    let third = c.in_ok-passed.ensures t second in
    if_ok (λ found. (o : Option Weight) → IsTold on.objects o c.in_ok-passed.passed → IsTold on.objects (joined plus o (weigh c.args.step.now)) found)
    (IsTold on.objects (weigh (turn_of c.args.pre.now c.args.test.now c.args.post.now c.args.step.now))) c.with_items-4.result
    (λ found told. told_same on.objects (joined plus q (weigh c.args.step.now)) (weigh (turn_of c.args.pre.now c.args.test.now c.args.post.now c.args.step.now)) found whole (told q third)) c.with_items-4.ensures

pub returns-clause-rises : goal.returns-clause-rises
returns-clause-rises c =
    let on = c.args.on.now in
    let o = items_weight (own on.board) on.costs.now (turn_of c.args.pre.now c.args.test.now c.args.post.now c.args.step.now) in
    if_ok (IsTold on.objects o) (λ (found : Option Weights). IfSome found (λ w. Rises w.uses.items)) c.with_items-4.result (rises_told on.objects o) (returns-clause-told c)
