use Rattle.std.specs.Prelude.{string_bytes}
use Rattle.plan_job.specs.InCode.{plan_named}
use Rattle.plan_job.proofs.Ending.{planned_ends, refused_ends}
use Rattle.plan_job.proofs.planned.plan.Goals as goal

pub returns-in-Ok : goal.returns-in-Ok
returns-in-Ok g c = planned_ends (plan_named c.args.job.now) _ _ c.in-Ok.ensures.files c.in-Ok.ensures.writes c.in-Ok.ensures.later (string_bytes c.in-Ok.line) c.in-Ok.ensures.told c.in-Ok.ensures.report c.in-Ok.ensures.counts

pub returns-in-Err : goal.returns-in-Err
returns-in-Err g c = refused_ends (plan_named c.args.job.now) _ _ c.in-Err.ensures.files c.in-Err.ensures.writes c.in-Err.ensures.later c.in-Err.status c.in-Err.ensures.told c.in-Err.ensures.counts c.told.result c.told.ensures
