use Rattle.std.proofs.Common.{◌≡◌, length}
use Rattle.cert_rules.specs.Tables.{function_with}
use Rattle.cert_state.specs.Shown.{functions_in}
use Rattle.cert_check.proofs.points.order_fault.Given as goal

-- no function so far has the point
abbrev pub invariant-loop-rest : goal.invariant-loop-rest
invariant-loop-rest l = function_with (functions_in l.rest) l.p.address ≡ function_with (functions_in l.functions) l.p.address

abbrev pub decreases-loop-rest : goal.decreases-loop-rest
decreases-loop-rest l = length l.rest
