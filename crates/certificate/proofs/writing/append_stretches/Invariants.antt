use Rattle.std.proofs.Common.{◌≡◌, ◌++◌, drop, List, ℕ, map}
use Rattle.certificate.specs.Line.{stretch}
use Rattle.certificate.specs.Spelling.{rows_text}
use Rattle.certificate.proofs.writing.append_stretches.Given as goal

-- what was appended, and what is left to append
abbrev pub invariant-loop-row : goal.invariant-loop-row
invariant-loop-row l = (done : List ℕ) × (l.to.items ≡ l.fn.to.items ++ done) × (done ++ rows_text (map stretch (drop l.row-index l.stretches)) ≡ rows_text (map stretch l.stretches))
