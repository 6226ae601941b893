use Rattle.std.proofs.Common.{◌≡◌, ◌≤◌, length}
use Rattle.supply_trace.specs.Rows.{amount_behind}
use Rattle.supply_trace.proofs.text.number_of.Given as goal

-- what is left goes on from the number so far
abbrev pub invariant-loop-rest : goal.invariant-loop-rest
invariant-loop-rest l = (l.number ≤ 1000000000) × (amount_behind l.number l.rest ≡ amount_behind 0 l.fn.digits)

abbrev pub decreases-loop-rest : goal.decreases-loop-rest
decreases-loop-rest l = length l.rest
