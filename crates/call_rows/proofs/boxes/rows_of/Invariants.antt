use Rattle.std.proofs.Common.{◌≤◌, ◌-◌, length}
use Rattle.call_rows.proofs.boxes.rows_of.Given as goal

-- no more rows than are asked for
abbrev pub invariant-filling : goal.invariant-filling
invariant-filling l = length l.rows.items ≤ l.times

abbrev pub decreases-filling : goal.decreases-filling
decreases-filling l = l.times - length l.rows.items
