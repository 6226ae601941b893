use Rattle.std.proofs.Common.{◌≡◌, length}
use Rattle.certificate.specs.Rows.{function_of}
use Rattle.cert_rules.specs.Tables.{others_fault}
use Rattle.cert_state.specs.Shown.{functions_in}
use Rattle.cert_check.proofs.row_rules.others_fault.Given as goal

-- the functions so far follow one another
abbrev pub invariant-loop-rest : goal.invariant-loop-rest
invariant-loop-rest l = others_fault l.end (function_of l.last) (functions_in l.rest) ≡ others_fault l.end (function_of l.first) (functions_in l.others)

abbrev pub decreases-loop-rest : goal.decreases-loop-rest
decreases-loop-rest l = length l.rest
