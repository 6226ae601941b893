use Rattle.std.proofs.Common.{◌∙◌, [], ◌∷◌, sym, ap}
use Rattle.flow_graph.specs.declared.graph.Op.{Op}
use Rattle.flow_graph.specs.declared.graph.Item.TheVariants as item
use Rattle.chain_units.specs.declared.weighing.Behind.TheVariants.{After}
use Rattle.chain_units.specs.Known.{or_nothing}
use Rattle.chain_units.proofs.Meeting.{touched-one}
use Rattle.chain_units.proofs.joining.end_piece.Goals as goal

pub returns : goal.returns
returns g c x e =
    let k = g.K.Knowledge.known c.args.k.now in
    record {
      first = ap (λ (op : Op). op.number) (sym e);
      behind = ap (λ (op : Op). After op.number) (sym e);
      touched = c.new.ensures.items ∙ sym (touched-one k x.op);
      weights = c.in_ok-weights.ensures ∙ ap (λ (op : Op). or_nothing (k.weights (item.One op ∷ []))) (sym e);
    }
