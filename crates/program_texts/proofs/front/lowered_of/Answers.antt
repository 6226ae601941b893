use Rattle.program_texts.proofs.Readings.{sized, whole}
use Rattle.program_texts.proofs.front.lowered_of.Goals as goal

pub returns-in-Ok-lower-clause-found : goal.returns-in-Ok-lower-clause-found
returns-in-Ok-lower-clause-found c = whole c.args.text.now c.in-Ok.program c.in-Ok.ensures.typed c.in-Ok-lower.ensures.made.0

pub returns-in-Err-lower-clause-fault : goal.returns-in-Err-lower-clause-fault
returns-in-Err-lower-clause-fault c = sized c.args.text.now c.in-Ok.program c.in-Ok.ensures.typed c.in-Err-lower.fault c.of_size.result c.of_size.ensures c.in-Err-lower.ensures.refused
