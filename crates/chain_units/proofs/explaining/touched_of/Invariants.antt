use Rattle.std.proofs.Common.{◌≡◌, ◌++◌, length}
use Rattle.chain_units.specs.Pieces.{pieces_touched}
use Rattle.chain_units.proofs.explaining.touched_of.Given as goal

abbrev pub invariant-loop-left : goal.invariant-loop-left
invariant-loop-left l = l.made.items ++ pieces_touched l.left ≡ pieces_touched l.pieces

abbrev pub decreases-loop-left : goal.decreases-loop-left
decreases-loop-left l = length l.left
