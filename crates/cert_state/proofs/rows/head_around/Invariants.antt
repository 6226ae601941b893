use Rattle.std.proofs.Common.{◌≡◌, length}
use Rattle.cert_rules.specs.Tables.{head_around}
use Rattle.cert_state.proofs.rows.head_around.Given as goal

-- the address is in no head so far
abbrev pub invariant-loop-rest : goal.invariant-loop-rest
invariant-loop-rest l = head_around l.rest l.address ≡ head_around l.stretches l.address

abbrev pub decreases-loop-rest : goal.decreases-loop-rest
decreases-loop-rest l = length l.rest
