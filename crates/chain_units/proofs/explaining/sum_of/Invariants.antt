use Rattle.std.proofs.Common.{◌≡◌, length}
use Rattle.chain_units.specs.Known.{nothing, told_weights}
use Rattle.chain_units.specs.Pieces.{pieces_sum}
use Rattle.chain_units.proofs.explaining.sum_of.Given as goal

abbrev pub invariant-loop-left : goal.invariant-loop-left
invariant-loop-left l = pieces_sum (told_weights l.sum) l.left ≡ pieces_sum nothing l.pieces

abbrev pub decreases-loop-left : goal.decreases-loop-left
decreases-loop-left l = length l.left
