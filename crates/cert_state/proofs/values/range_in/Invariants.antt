use Rattle.std.proofs.Common.{◌≡◌, length}
use Rattle.cert_state.specs.Spots.{slot_at}
use Rattle.cert_state.specs.Views.{range_in}
use Rattle.cert_state.proofs.values.range_in.Given as goal

-- no slot so far is the one
abbrev pub invariant-loop-rest : goal.invariant-loop-rest
invariant-loop-rest l = range_in l.rest (slot_at l.x) ≡ range_in l.values (slot_at l.x)

abbrev pub decreases-loop-rest : goal.decreases-loop-rest
decreases-loop-rest l = length l.rest
