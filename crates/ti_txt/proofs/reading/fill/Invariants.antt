use Rattle.std.proofs.Common.{◌≡◌, ◌+◌, length}
use Rattle.ti_txt.specs.Spots.{IsPlaced}
use Rattle.ti_txt.specs.declared.spot.Spot.TheVariants.{Before}
use Rattle.ti_txt.proofs.Run.{run}
use Rattle.ti_txt.proofs.reading.fill.Given as goal

abbrev pub invariant-loop-rest : goal.invariant-loop-rest
invariant-loop-rest l = IsPlaced l.spot × (run l.at l.spot l.cells l.rest ≡ run 0 Before l.fn.cells l.text) × (l.at + length l.rest ≡ length l.text)

abbrev pub decreases-loop-rest : goal.decreases-loop-rest
decreases-loop-rest l = length l.rest
