use Rattle.job_files.specs.Answers.{answer_of}
use Rattle.check_job.specs.InCode.{check_named, texts_seen}
use Rattle.check_job.proofs.Reading.{texts_counted, texts_told, unhad_counted, unhad_told}
use Rattle.check_job.proofs.checked.certified_files.Goals as goal

pub returns-in-Err-clause-told : goal.returns-in-Err-clause-told
returns-in-Err-clause-told g c = unhad_told (check_named c.args.job.now) (g.S.Store.files c.args.store.now) (answer_of c.in-Err.status) c.in-Err.ensures.told

pub returns-in-Err-clause-counts : goal.returns-in-Err-clause-counts
returns-in-Err-clause-counts g c = unhad_counted (check_named c.args.job.now) _ _ _ (answer_of c.in-Err.status) c.in-Err.ensures.counts

pub returns-in-Ok-clause-told : goal.returns-in-Ok-clause-told
returns-in-Ok-clause-told g c =
    texts_told (check_named c.args.job.now) (texts_seen c.in-Ok.texts) c.certified_texts.result c.certified_texts.ensures (g.S.Store.files c.args.store.now) c.in-Ok.ensures.told

pub returns-in-Ok-clause-counts : goal.returns-in-Ok-clause-counts
returns-in-Ok-clause-counts g c =
    texts_counted (check_named c.args.job.now) (texts_seen c.in-Ok.texts) c.certified_texts.result c.certified_texts.ensures _ _ _ c.in-Ok.ensures.counts
