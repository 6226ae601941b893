use Rattle.std.proofs.Common.{◌≡◌, ◌+◌, ◌++◌, length}
use Rattle.supply_trace.specs.Rows.{bad_line, lines_of, rows_of}
use Rattle.supply_trace.proofs.text.rows.Given as goal

-- the lines before `rest` are empty or rows, and these rows were read
abbrev pub invariant-loop-rows : goal.invariant-loop-rows
invariant-loop-rows l =
    (l.at + length l.rest ≡ length l.fn.text)
    × (bad_line l.at (lines_of l.rest) ≡ bad_line 0 (lines_of l.fn.text))
    × (l.rows.items ++ rows_of (lines_of l.rest) ≡ rows_of (lines_of l.fn.text))

abbrev pub decreases-loop-rows : goal.decreases-loop-rows
decreases-loop-rows l = length l.rest
