use Rattle.std.proofs.Common.{◌≡◌, length}
use Rattle.cert_rules.specs.Tables.{head_at}
use Rattle.cert_state.proofs.rows.is_head.Given as goal

-- no head so far begins there
abbrev pub invariant-loop-rest : goal.invariant-loop-rest
invariant-loop-rest l = head_at l.rest l.address ≡ head_at l.stretches l.address

abbrev pub decreases-loop-rest : goal.decreases-loop-rest
decreases-loop-rest l = length l.rest
