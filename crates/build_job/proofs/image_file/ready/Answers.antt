use Rattle.job_files.specs.Answers.{answer_of}
use Rattle.build_job.specs.InCode.{build_named}
use Rattle.build_job.proofs.Reading.{any_line, joined_counts, joined_told, unhad_counted, unhad_told}
use Rattle.build_job.proofs.image_file.ready.Goals as goal

pub returns-in-Err-clause-told : goal.returns-in-Err-clause-told
returns-in-Err-clause-told g c = unhad_told (build_named c.args.job.now) (g.S.Store.files c.args.store.now) (answer_of c.in-Err.status) c.in-Err.ensures.told

pub returns-in-Err-clause-counts : goal.returns-in-Err-clause-counts
returns-in-Err-clause-counts g c = unhad_counted (build_named c.args.job.now) _ _ _ (answer_of c.in-Err.status) c.in-Err.ensures.counts

pub returns-in-Ok-clause-told : goal.returns-in-Ok-clause-told
returns-in-Ok-clause-told g c =
    joined_told (build_named c.args.job.now) (g.S.Store.files c.args.store.now) c.in-Ok.texts.first.items c.in-Ok.texts.second.items c.deref.result.now c.deref-in-Ok.result.now c.ready_of.result
    c.deref.ensures.value c.deref-in-Ok.ensures.value c.in-Ok.ensures.told c.ready_of.ensures

pub returns-in-Ok-clause-line : goal.returns-in-Ok-clause-line
returns-in-Ok-clause-line g c = any_line c.args.job.now.budget c.deref.result.now c.deref-in-Ok.result.now c.ready_of.result c.ready_of.ensures

pub returns-in-Ok-clause-counts : goal.returns-in-Ok-clause-counts
returns-in-Ok-clause-counts g c = joined_counts (build_named c.args.job.now) c.deref.result.now c.deref-in-Ok.result.now _ _ _ c.ready_of.result c.in-Ok.ensures.counts c.ready_of.ensures
