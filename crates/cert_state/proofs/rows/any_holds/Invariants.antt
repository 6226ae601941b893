use Rattle.std.proofs.Common.{◌≡◌, length}
use Rattle.cert_rules.specs.Tables.{any_of}
use Rattle.cert_state.specs.Shown.{functions_in, may_hold}
use Rattle.cert_state.proofs.rows.any_holds.Given as goal

-- no function so far may hold it
abbrev pub invariant-loop-rest : goal.invariant-loop-rest
invariant-loop-rest l = any_of (may_hold l.head) (functions_in l.rest) ≡ any_of (may_hold l.head) (functions_in l.functions)

abbrev pub decreases-loop-rest : goal.decreases-loop-rest
decreases-loop-rest l = length l.rest
