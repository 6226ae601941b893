use Rattle.std.proofs.Common.{◌∙◌, ap}
use Rattle.certificate.specs.Reading.{read_row}
use Rattle.certificate.proofs.RowsTold.{row_back, row_told}
use Rattle.certificate.proofs.laws.rows_have_one_text.Goals as goal

pub returns : goal.returns
returns c = λ text row. (row_told text row, λ h. ap read_row h.1 ∙ row_back row h.0)
