use Rattle.job_files.specs.Answers.{answer_of}
use Rattle.plan_job.specs.InCode.{plan_named}
use Rattle.plan_job.proofs.Reading.{any_report, joined_counts, joined_told, unhad_counted, unhad_told}
use Rattle.plan_job.proofs.planned.report_of_files.Goals as goal

pub returns-in-Err-clause-told : goal.returns-in-Err-clause-told
returns-in-Err-clause-told g c = unhad_told (plan_named c.args.job.now) (g.S.Store.files c.args.store.now) (answer_of c.in-Err.status) c.in-Err.ensures.told

pub returns-in-Err-clause-counts : goal.returns-in-Err-clause-counts
returns-in-Err-clause-counts g c = unhad_counted (plan_named c.args.job.now) _ _ _ (answer_of c.in-Err.status) c.in-Err.ensures.counts

pub returns-in-Ok-clause-told : goal.returns-in-Ok-clause-told
returns-in-Ok-clause-told g c =
    joined_told (plan_named c.args.job.now) (g.S.Store.files c.args.store.now) c.in-Ok.texts.first.items c.in-Ok.texts.second.items c.deref.result.now c.deref-in-Ok.result.now c.report_of_texts.result
    c.deref.ensures.value c.deref-in-Ok.ensures.value c.in-Ok.ensures.told c.report_of_texts.ensures

pub returns-in-Ok-clause-report : goal.returns-in-Ok-clause-report
returns-in-Ok-clause-report g c = any_report (plan_named c.args.job.now) c.deref.result.now c.deref-in-Ok.result.now c.report_of_texts.result c.report_of_texts.ensures

pub returns-in-Ok-clause-counts : goal.returns-in-Ok-clause-counts
returns-in-Ok-clause-counts g c =
    joined_counts (plan_named c.args.job.now) c.deref.result.now c.deref-in-Ok.result.now _ _ _ c.report_of_texts.result c.in-Ok.ensures.counts c.report_of_texts.ensures
