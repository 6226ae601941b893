use Rattle.std.proofs.Common.{◌≡◌, length}
use Rattle.cert_rules.specs.Faults.{first_of}
use Rattle.cert_rules.specs.Tables.{point_fault}
use Rattle.cert_state.specs.Shown.{functions_in}
use Rattle.cert_sweep.specs.Views.{points_in}
use Rattle.cert_check.proofs.checking.points_order.Given as goal

-- the points so far stand where they may
abbrev pub invariant-loop-rest : goal.invariant-loop-rest
invariant-loop-rest l = first_of (point_fault (functions_in l.functions) l.stretches) (points_in l.rest) ≡ first_of (point_fault (functions_in l.functions) l.stretches) (points_in l.points)

abbrev pub decreases-loop-rest : goal.decreases-loop-rest
decreases-loop-rest l = length l.rest
