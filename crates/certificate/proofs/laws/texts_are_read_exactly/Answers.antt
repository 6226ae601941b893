use Rattle.std.proofs.Common.{ap}
use Rattle.certificate.specs.Reading.{fault_at_end}
use Rattle.certificate.proofs.Exact.{bad_only, bad_told, fault_held, holds_read}
use Rattle.certificate.proofs.laws.texts_are_read_exactly.Goals as goal

pub returns-clause-whole : goal.returns-clause-whole
returns-clause-whole c = λ text d h. (ap (λ r. r.0) (holds_read text d h), ap (λ r. fault_at_end r.1) (holds_read text d h))

pub returns-clause-only : goal.returns-clause-only
returns-clause-only c = λ text e. let h = fault_held text e in (h.whole, h.holds, h.list)

pub returns-clause-bad : goal.returns-clause-bad
returns-clause-bad c = λ text at. (bad_told text at, bad_only text at)
