use Rattle.std.proofs.Common.{◌∙◌, sym, ap}
use Rattle.certificate.proofs.Marks.{some_is}
use Rattle.certificate.proofs.Gathered.{one_certificate}
use Rattle.certificate.proofs.Exact.{bad_only, holds_read, no_end}
use Rattle.certificate.proofs.laws.one_answer.Goals as goal

pub returns-clause-certificate : goal.returns-clause-certificate
returns-clause-certificate k = λ text c d h g. one_certificate c d (ap (λ r. r.0) (sym (holds_read text c h) ∙ holds_read text d g))

pub returns-clause-line : goal.returns-clause-line
returns-clause-line k = λ text at other h g. some_is at other (sym (bad_only text at h) ∙ bad_only text other g)

pub returns-clause-apart : goal.returns-clause-apart
returns-clause-apart k = λ text c at h g. no_end text at c (bad_only text at g) h
