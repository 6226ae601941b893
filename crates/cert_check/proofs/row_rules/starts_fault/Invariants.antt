use Rattle.std.proofs.Common.{◌≡◌, length}
use Rattle.cert_rules.specs.Faults.{first_of}
use Rattle.cert_rules.specs.Tables.{start_fault}
use Rattle.cert_state.specs.Shown.{functions_in}
use Rattle.cert_check.proofs.row_rules.starts_fault.Given as goal

-- the functions so far begin as they have to
abbrev pub invariant-loop-rest : goal.invariant-loop-rest
invariant-loop-rest l = first_of (start_fault l.stretches) (functions_in l.rest) ≡ first_of (start_fault l.stretches) (functions_in l.functions)

abbrev pub decreases-loop-rest : goal.decreases-loop-rest
decreases-loop-rest l = length l.rest
