use Rattle.std.proofs.Common.{◌≡◌, map, length}
use Rattle.ti_txt.specs.Image.{block_of}
use Rattle.build_job.specs.Ends.{code_size}
use Rattle.build_job.proofs.image_text.code_size.Given as goal

-- the size is that of the segments that are left
abbrev pub invariant-loop-rest : goal.invariant-loop-rest
invariant-loop-rest l = code_size (map block_of l.rest) ≡ code_size (map block_of l.segments)

abbrev pub decreases-loop-rest : goal.decreases-loop-rest
decreases-loop-rest l = length l.rest
