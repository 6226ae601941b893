use Rattle.std.proofs.Common.{◌≡◌, take}
use Rattle.chain_units.specs.Known.{nothing, told_weights}
use Rattle.chain_units.specs.Pieces.{IsRow, pieces_sum, pieces_touched}
use Rattle.chain_units.proofs.pieces.row_of.Given as goal

abbrev pub invariant-loop-piece : goal.invariant-loop-piece
invariant-loop-piece g l = record {
  sum : told_weights l.sum ≡ pieces_sum nothing (take l.piece-index l.pieces);
  barred : l.barred.items ≡ pieces_touched (take l.piece-index l.pieces);
  row : IsRow (g.K.Knowledge.known l.k) l.row.items (take l.piece-index l.pieces);
}
