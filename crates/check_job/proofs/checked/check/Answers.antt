use Rattle.check_job.specs.InCode.{check_named}
use Rattle.check_job.proofs.Ending.{certified_ends, refused_ends}
use Rattle.check_job.proofs.checked.check.Goals as goal

pub returns-in-Ok : goal.returns-in-Ok
returns-in-Ok g c = certified_ends (check_named c.args.job.now) _ _ c.in-Ok.ensures.files c.in-Ok.ensures.writes c.in-Ok.ensures.later c.in-Ok.ensures.told c.in-Ok.ensures.counts c.certified.result c.certified.ensures

pub returns-in-Err : goal.returns-in-Err
returns-in-Err g c = refused_ends (check_named c.args.job.now) _ _ c.in-Err.ensures.files c.in-Err.ensures.writes c.in-Err.ensures.later c.in-Err.status c.in-Err.ensures.told c.in-Err.ensures.counts c.told.result c.told.ensures
