use Rattle.std.proofs.Common.{◌≡◌, map}
use Rattle.certificate.specs.Rows.{certificate_from}
use Rattle.certificate.specs.Reading.{line_of_row}
use Rattle.certificate.proofs.Gathered.{gathered}
use Rattle.certificate.proofs.reading.parts_of.Given as goal

abbrev pub invariant-loop-row : goal.invariant-loop-row
invariant-loop-row l =
    certificate_from l.parts.budget l.parts.functions.items l.parts.stretches.items l.parts.points.items ≡ gathered 0 (map line_of_row l.yielded)
