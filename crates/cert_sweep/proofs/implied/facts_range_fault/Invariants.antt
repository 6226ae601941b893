use Rattle.std.proofs.Common.{◌≡◌, length}
use Rattle.cert_rules.specs.Faults.{first_of}
use Rattle.cert_rules.specs.Points.{fact_range_fault}
use Rattle.cert_state.specs.Views.{known_of}
use Rattle.cert_sweep.proofs.implied.facts_range_fault.Given as goal

-- those so far hold
abbrev pub invariant-loop-rest : goal.invariant-loop-rest
invariant-loop-rest l = first_of (fact_range_fault l.a (known_of l.s)) l.rest ≡ first_of (fact_range_fault l.a (known_of l.s)) l.facts

abbrev pub decreases-loop-rest : goal.decreases-loop-rest
decreases-loop-rest l = length l.rest
