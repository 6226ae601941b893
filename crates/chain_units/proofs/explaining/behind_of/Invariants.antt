use Rattle.std.proofs.Common.{◌≡◌, length}
use Rattle.chain_units.specs.Pieces.{pieces_behind}
use Rattle.chain_units.proofs.ExplainedUnits.{behind_or}
use Rattle.chain_units.proofs.explaining.behind_of.Given as goal

abbrev pub invariant-loop-left : goal.invariant-loop-left
invariant-loop-left l = behind_or l.found l.left ≡ pieces_behind l.pieces

abbrev pub decreases-loop-left : goal.decreases-loop-left
decreases-loop-left l = length l.left
