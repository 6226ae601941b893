use Rattle.std.proofs.Common.{length}
use Rattle.chain_units.proofs.Tables.{IsFilled}
use Rattle.chain_units.proofs.pieces.rows_of.Given as goal

abbrev pub invariant-loop-left : goal.invariant-loop-left
invariant-loop-left g l = IsFilled (g.K.Knowledge.known l.k) l.rows.items l.left l.pieces

abbrev pub decreases-loop-left : goal.decreases-loop-left
decreases-loop-left g l = length l.left
