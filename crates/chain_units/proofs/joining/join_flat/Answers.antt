use Rattle.chain_units.proofs.Closing.{on_ok}
use Rattle.chain_units.proofs.Meeting.{places_join}
use Rattle.chain_units.specs.Marks.{Flat}
use Rattle.chain_units.proofs.joining.join_flat.Goals as goal

pub returns : goal.returns
returns g c =
    on_ok c.join.result (λ joined. places_join (g.K.Knowledge.known c.args.k.now) (Flat c.args.items.now c.args.next) c.in_ok-piece.piece c.args.placer.now c.join.new.placer c.in_ok-piece.ensures joined) c.join.ensures
