use Rattle.chain_units.proofs.Closing.{on_ok}
use Rattle.chain_units.proofs.Meeting.{places_end}
use Rattle.chain_units.proofs.joining.join_end.Goals as goal

pub returns : goal.returns
returns g c =
    on_ok c.close.result (λ has x e. places_end (g.K.Knowledge.known c.args.k.now) x c.in_ok-piece.piece c.args.placer.now c.join.new.placer c.close.new.placer (c.in_ok-piece.ensures x e) c.in_ok-join.ensures has) c.close.ensures
