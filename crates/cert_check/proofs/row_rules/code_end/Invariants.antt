use Rattle.std.proofs.Common.{◌≡◌, length}
use Rattle.cert_rules.specs.Tables.{code_end}
use Rattle.cert_state.specs.Shown.{blocks_in}
use Rattle.cert_check.proofs.row_rules.code_end.Given as goal

-- no segment so far holds the byte
abbrev pub invariant-loop-rest : goal.invariant-loop-rest
invariant-loop-rest l = code_end (blocks_in l.rest) ≡ code_end (blocks_in l.segments)

abbrev pub decreases-loop-rest : goal.decreases-loop-rest
decreases-loop-rest l = length l.rest
