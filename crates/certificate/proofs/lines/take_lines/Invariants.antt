use Rattle.std.proofs.Common.{◌≡◌, ◌+◌, ◌++◌, length, map}
use Rattle.certificate.specs.Reading.{line_of_row, read_text}
use Rattle.certificate.proofs.lines.take_lines.Given as goal

-- the rows so far, and what is read behind them
abbrev pub invariant-loop-behind : goal.invariant-loop-behind
invariant-loop-behind l =
    (l.at + length l.rest ≡ l.fn.at + length l.fn.text)
    × (map line_of_row l.rows.items ++ (read_text l.stage l.at l.rest).0 ≡ map line_of_row l.fn.rows.items ++ (read_text l.fn.stage l.fn.at l.fn.text).0)
    × ((read_text l.stage l.at l.rest).1 ≡ (read_text l.fn.stage l.fn.at l.fn.text).1)

abbrev pub decreases-loop-behind : goal.decreases-loop-behind
decreases-loop-behind l = length l.rest
