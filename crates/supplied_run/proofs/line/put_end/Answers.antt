use Rattle.supplied_run.proofs.line.put_end.Goals as goal

pub returns-in-PowerFault-clause-told : goal.returns-in-PowerFault-clause-told
returns-in-PowerFault-clause-told g c = rw c.in-PowerFault.is c.put.ensures.told

pub returns-in-StepLimit-clause-told : goal.returns-in-StepLimit-clause-told
returns-in-StepLimit-clause-told g c = rw c.in-StepLimit.is c.put-in-StepLimit.ensures.told
