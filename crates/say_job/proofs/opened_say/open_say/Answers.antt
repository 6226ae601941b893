use Rattle.job_files.specs.Answers.{answer_of}
use Rattle.say_job.specs.InCode.{say_named}
use Rattle.say_job.proofs.Opening.{held_counts, held_told, unhad_counted, unhad_told}
use Rattle.say_job.proofs.opened_say.open_say.Goals as goal

pub returns-in-Err-clause-told : goal.returns-in-Err-clause-told
returns-in-Err-clause-told g c = unhad_told (say_named c.args.job.now) (g.S.Store.files c.args.store.now) (answer_of c.in-Err.status) c.in-Err.ensures.told

pub returns-in-Err-clause-counts : goal.returns-in-Err-clause-counts
returns-in-Err-clause-counts g c = unhad_counted (say_named c.args.job.now) _ _ _ (answer_of c.in-Err.status) c.in-Err.ensures.counts

pub returns-in-Ok-clause-told : goal.returns-in-Ok-clause-told
returns-in-Ok-clause-told g c =
    held_told (say_named c.args.job.now) (g.S.Store.files c.args.store.now) c.in-Ok.texts.first.items c.in-Ok.texts.second.items c.deref.result.now c.deref-in-Ok.result.now c.contents_of.result
    c.deref.ensures.value c.deref-in-Ok.ensures.value c.in-Ok.ensures.told c.contents_of.ensures

pub returns-in-Ok-clause-counts : goal.returns-in-Ok-clause-counts
returns-in-Ok-clause-counts g c = held_counts (say_named c.args.job.now) c.deref.result.now c.deref-in-Ok.result.now _ _ _ c.contents_of.result c.in-Ok.ensures.counts c.contents_of.ensures
