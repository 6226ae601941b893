use Rattle.std.proofs.Common.{ap}
use Rattle.job_parts.specs.Asked.{job_task}
use Rattle.commands.specs.Words.{is_built}
use Rattle.commands.proofs.Begins.{build_comes, check_comes, plan_comes, run_comes, run_fits, unbuilt_begins}
use Rattle.commands.proofs.SaidCalls.{say_comes}
use Rattle.commands.proofs.call.job_begun.Goals as goal

pub returns-in-Build : goal.returns-in-Build
returns-in-Build g c = build_comes _ c.args.asked.now.steps _ _ _ _ (ap job_task c.in-Build.is) _ c.build_begun.ensures

pub run_begun-requires : goal.run_begun-requires
run_begun-requires g c = rw c.as_slice.ensures.value (record { boxes = run_fits _ _ _ _ _ _ (ap job_task c.in-Run.is) c.requires.boxes })

pub returns-in-Run : goal.returns-in-Run
returns-in-Run g c = run_comes _ _ _ _ _ _ (rw c.as_slice.ensures.value (ap job_task c.in-Run.is)) _ c.run_begun.ensures

pub returns-in-Say : goal.returns-in-Say
returns-in-Say g c = say_comes _ c.args.asked.now.budget _ _ _ _ (ap job_task c.in-Say.is) _ c.say_begun.ensures

pub returns-in-Check : goal.returns-in-Check
returns-in-Check g c = check_comes _ c.args.asked.now.steps _ _ _ _ (ap job_task c.in-Check.is) _ c.check_begun.ensures

pub returns-in-Plan : goal.returns-in-Plan
returns-in-Plan g c = plan_comes _ c.args.asked.now.steps _ _ _ _ (ap job_task c.in-Plan.is) _ c.plan_begun.ensures

pub returns-in-Gen : goal.returns-in-Gen
returns-in-Gen g c = unbuilt_begins _ c.args.asked.now.budget c.args.asked.now.steps _ _ (ap (λ j. is_built (job_task j)) c.in-Gen.is) _ c.unbuilt.ensures
