use Rattle.std.proofs.Common.{◌≡◌, length}
use Rattle.cert_rules.specs.Faults.{first_of}
use Rattle.cert_rules.specs.Tables.{budget_fault}
use Rattle.cert_check.proofs.row_rules.budgets_fault.Given as goal

-- the stretches so far cost no more
abbrev pub invariant-loop-rest : goal.invariant-loop-rest
invariant-loop-rest l = first_of (budget_fault l.budget) l.rest ≡ first_of (budget_fault l.budget) l.stretches

abbrev pub decreases-loop-rest : goal.decreases-loop-rest
decreases-loop-rest l = length l.rest
