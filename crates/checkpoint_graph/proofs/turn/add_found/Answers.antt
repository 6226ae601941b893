use Rattle.std.proofs.Common.{ap, sym, subst}
use Rattle.std.specs.Prelude.{Option, Some}
use Rattle.item_weights.specs.declared.uses.Weights.{Weights}
use Rattle.chain_units.specs.Known.{told_weights}
use Rattle.checkpoint_graph.specs.Knowing.{IsTold}
use Rattle.checkpoint_graph.proofs.ItemSums.{both_some}
use Rattle.checkpoint_graph.proofs.turn.add_found.Goals as goal

pub returns-in_ok-add-in-Some : goal.returns-in_ok-add-in-Some
returns-in_ok-add-in-Some c n v o e is =
    both_some n (Some v) o c.args.sum c.in-Some.more (told_weights c.add.new.weights) (ap (λ s. Some s) (sym e)) (subst (λ (m : Option Weights). IsTold n o m) c.in-Some.is is) c.in_ok-add-in-Some.ensures
