use Rattle.std.proofs.Common.{◌≡◌, length}
use Rattle.cert_rules.specs.Slots.{in_spans}
use Rattle.cert_state.proofs.slots.in_spans.Given as goal

-- no span so far has the word
abbrev pub invariant-loop-rest : goal.invariant-loop-rest
invariant-loop-rest l = in_spans l.rest l.a ≡ in_spans l.spans l.a

abbrev pub decreases-loop-rest : goal.decreases-loop-rest
decreases-loop-rest l = length l.rest
