use Rattle.c_tree.proofs.Chain.{put_fails}
use Rattle.c_tree.proofs.line.put.Goals as goal

pub returns-in-Err : goal.returns-in-Err
returns-in-Err g c = λ s. put_fails _ s _ _ c.in-Err.field-0 c.in-Err.ensures.told c.in-Err.ensures.cause
