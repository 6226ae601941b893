use Rattle.std.proofs.Common.{◌≡◌, length}
use Rattle.ti_txt.specs.Bytes.{byte_in}
use Rattle.cert_state.specs.Shown.{blocks_in}
use Rattle.cert_state.proofs.words.byte_in.Given as goal

-- no segment so far has the byte
abbrev pub invariant-loop-rest : goal.invariant-loop-rest
invariant-loop-rest l = byte_in (blocks_in l.rest) l.address ≡ byte_in (blocks_in l.segments) l.address

abbrev pub decreases-loop-rest : goal.decreases-loop-rest
decreases-loop-rest l = length l.rest
