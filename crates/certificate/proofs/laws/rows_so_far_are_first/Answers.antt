use Rattle.certificate.proofs.FirstRows.{first_of, first_told}
use Rattle.certificate.proofs.laws.rows_so_far_are_first.Goals as goal

pub returns-clause-whole : goal.returns-clause-whole
returns-clause-whole k = λ front more c h. first_of front more c h

pub returns-clause-some : goal.returns-clause-some
returns-clause-some k = λ front g. first_told front g
