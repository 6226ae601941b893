use Rattle.commands.proofs.Begins.{run_refused}
use Rattle.commands.proofs.call.run_begun.Goals as goal

pub returns-in-Ok : goal.returns-in-Ok
returns-in-Ok g c = c.in-Ok.ensures

pub returns-in-Err : goal.returns-in-Err
returns-in-Err g c = run_refused _ _ _ _ _ _ c.in-Err.ensures _ c.refused.ensures
