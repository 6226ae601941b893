use Rattle.std.proofs.Common.{◌≡◌, ◌-◌, [], length}
use Rattle.supply_trace.specs.Boxes.{all_rows}
use Rattle.schematic_main.proofs.called.Given as goal
use Rattle.schematic_main.proofs.called.OwnLists.{own-1}

-- the boxes so far hold no rows
abbrev pub invariant-loop-supplies : goal.invariant-loop-supplies
invariant-loop-supplies l = all_rows (λ b. (own-1.entry b.vtable).1.rows_left b.value) l.supplies.items ≡ []

abbrev pub decreases-loop-supplies : goal.decreases-loop-supplies
decreases-loop-supplies l = length l.words - length l.supplies.items
