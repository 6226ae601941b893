use Rattle.std.proofs.Common.{◌≡◌, length}
use Rattle.certificate.specs.declared.cert.Slot.{Slot}
use Rattle.cert_rules.specs.Known as rules
use Rattle.cert_state.specs.Views.{AllKept, range_in_both}
use Rattle.cert_state.proofs.state.values_at.Given as goal

-- the ranges so far, and the facts that are left
abbrev pub invariant-loop-rest : goal.invariant-loop-rest
invariant-loop-rest l = record {
  kept : AllKept l.rest;
  ranges : (x : Slot) → range_in_both l.values.items l.rest x ≡ rules.range_in l.facts x;
}

abbrev pub decreases-loop-rest : goal.decreases-loop-rest
decreases-loop-rest l = length l.rest
