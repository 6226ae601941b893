use Rattle.std.proofs.Common.{◌≡◌, ◌++◌, length, map}
use Rattle.chain_units.specs.Pieces.{first_in}
use Rattle.chain_units.proofs.explaining.firsts_of.Given as goal

abbrev pub invariant-loop-left : goal.invariant-loop-left
invariant-loop-left l = l.made.items ++ map first_in l.left ≡ map first_in l.pieces

abbrev pub decreases-loop-left : goal.decreases-loop-left
decreases-loop-left l = length l.left
