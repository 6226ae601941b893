use Rattle.std.proofs.Common.{◌≤◌, ◌-◌, length}
use Rattle.certificate.proofs.rows.next_span.Given as goal

abbrev pub invariant-loop-at : goal.invariant-loop-at
invariant-loop-at l = l.fn.from ≤ l.at

abbrev pub decreases-loop-at : goal.decreases-loop-at
decreases-loop-at l = length l.spans - l.at
