use Rattle.std.proofs.Common.{◌≤◌, ◌-◌, ◌*◌, length}
use Rattle.supply_trace.specs.Boxes.{all_rows}
use Rattle.call_rows.proofs.calling.called.Given as goal
use Rattle.call_rows.proofs.calling.called.OwnLists.{own-1}

-- each of the boxes so far holds at most 65,535 rows
abbrev pub invariant-boxes : goal.invariant-boxes
invariant-boxes l = length (all_rows (λ b. (own-1.entry b.vtable).1.rows_left b.value) l.supplies.items) ≤ 65535 * length l.supplies.items

abbrev pub decreases-boxes : goal.decreases-boxes
decreases-boxes l = length l.words.items - length l.supplies.items
