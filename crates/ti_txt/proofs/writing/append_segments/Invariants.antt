use Rattle.std.proofs.Common.{◌≡◌, ◌++◌, drop, flat_map, map, List, ℕ}
use Rattle.ti_txt.specs.Image.{block_of}
use Rattle.ti_txt.specs.Spelling.{AllFit, block_text}
use Rattle.ti_txt.proofs.writing.append_segments.Given as goal

abbrev pub invariant-loop-segment : goal.invariant-loop-segment
invariant-loop-segment l = (done : List ℕ) × (l.to.items ≡ l.fn.to.items ++ done) × (done ++ flat_map block_text (map block_of (drop l.segment-index l.segments)) ≡ flat_map block_text (map block_of l.segments)) × (AllFit (map block_of (drop l.segment-index l.segments)) → AllFit (map block_of l.segments))
