use Rattle.chain_units.proofs.Tables.{filled_done}
use Rattle.chain_units.proofs.pieces.rows_of.Goals as goal

pub returns : goal.returns
returns g c = filled_done (g.K.Knowledge.known c.args.k.now) c.loop-left.rows.items c.loop-left.left.now c.args.pieces.now c.in_default.len_below c.loop-left.invariant
