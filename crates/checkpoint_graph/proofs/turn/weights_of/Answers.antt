use Rattle.item_weights.specs.Weights.{TellsOption, items_weight}
use Rattle.board_weights.specs.OnBoard.{own}
use Rattle.checkpoint_graph.specs.Knowing.{IsTold}
use Rattle.checkpoint_graph.proofs.ItemSums.{if_ok}
use Rattle.checkpoint_graph.proofs.ToldUses.{tells_is}
use Rattle.checkpoint_graph.proofs.turn.weights_of.Goals as goal

pub returns : goal.returns
returns c =
    let on = c.args.on.now in
    let o = items_weight (own on.board) on.costs.now c.args.items.now in
    if_ok (TellsOption on.objects o) (IsTold on.objects o) c.weight.result (tells_is on.objects o) c.weight.ensures
