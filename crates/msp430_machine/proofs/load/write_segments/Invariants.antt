use Rattle.std.proofs.Common.{◌≡◌, ℕ, length, map, drop}
use Rattle.ti_txt.specs.Image.{Ascend, block_of}
use Rattle.msp430_machine.specs.Loading.{byte_over}
use Rattle.msp430_machine.proofs.load.write_segments.Given as goal

abbrev pub invariant-loop-segment : goal.invariant-loop-segment
invariant-loop-segment l =
    (length l.bytes ≡ 65536)
    × ((low : ℕ) × Ascend low (map block_of (drop l.segment-index l.segments)))
    × ((a : ℕ) → byte_over (map block_of (drop l.segment-index l.segments)) l.bytes a ≡ byte_over (map block_of l.segments) l.initial.bytes a)
