use Rattle.ti_txt.proofs.Loading.{holds_no_fault, holds_one, one_fault}
use Rattle.ti_txt.proofs.laws.one_answer.Goals as goal

pub returns : goal.returns
returns c = record { image = holds_one; fault = one_fault; apart = holds_no_fault }
