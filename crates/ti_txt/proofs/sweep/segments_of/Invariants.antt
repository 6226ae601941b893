use Rattle.std.proofs.Common.{◌≡◌, ◌+◌, ◌≤◌, ◌++◌, [], length, map}
use Rattle.ti_txt.specs.Image.{block_of}
use Rattle.ti_txt.specs.Sweep.{sweep}
use Rattle.ti_txt.proofs.sweep.segments_of.Given as goal

abbrev pub invariant-loop-rest : goal.invariant-loop-rest
invariant-loop-rest l = (length l.bytes.items ≤ l.address) × (l.address + length l.rest ≡ length l.cells)
    × (map block_of l.segments.items ++ sweep l.address l.bytes.items l.rest ≡ sweep 0 [] l.cells)

abbrev pub decreases-loop-rest : goal.decreases-loop-rest
decreases-loop-rest l = length l.rest
