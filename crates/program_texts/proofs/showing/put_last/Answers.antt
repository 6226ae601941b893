use Rattle.program_texts.proofs.Putting.{told_then}
use Rattle.program_texts.proofs.showing.put_last.Goals as goal

pub returns-in-Ok-clause-told : goal.returns-in-Ok-clause-told
returns-in-Ok-clause-told g c = told_then _ _ _ _ _ _ _ c.in-Ok.ensures.told c.put_steps.ensures.told
