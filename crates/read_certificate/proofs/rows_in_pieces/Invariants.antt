use Rattle.std.proofs.Common.{length}
use Rattle.certificate.specs.Reading.{HasRoom}
use Rattle.read_certificate.proofs.rows_in_pieces.Given as goal

-- what is left has room
abbrev pub invariant-loop-rest : goal.invariant-loop-rest
invariant-loop-rest l = HasRoom l.lines (length l.rest)

abbrev pub decreases-loop-rest : goal.decreases-loop-rest
decreases-loop-rest l = length l.rest
