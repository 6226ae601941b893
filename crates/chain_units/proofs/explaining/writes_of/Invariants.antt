use Rattle.std.proofs.Common.{◌≡◌, length}
use Rattle.chain_units.specs.Explained.{writes_in}
use Rattle.chain_units.proofs.explaining.writes_of.Given as goal

abbrev pub invariant-loop-left : goal.invariant-loop-left
invariant-loop-left l = writes_in l.left l.object ≡ writes_in l.uses l.object

abbrev pub decreases-loop-left : goal.decreases-loop-left
decreases-loop-left l = length l.left
