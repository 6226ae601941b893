use Rattle.ti_txt.proofs.Total.{some_answer}
use Rattle.ti_txt.proofs.laws.some_answer.Goals as goal

pub returns : goal.returns
returns c = some_answer
