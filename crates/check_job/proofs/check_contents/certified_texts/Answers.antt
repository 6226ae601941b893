use Rattle.check_job.specs.InCode.{check_named, held_in, texts_seen}
use Rattle.check_job.proofs.RefusedTexts.{rules_told}
use Rattle.check_job.proofs.check_contents.certified_texts.Goals as goal

pub returns : goal.returns
returns c = rules_told (check_named c.args.job.now) (texts_seen c.args.texts.now) (held_in c.in_ok-contents.contents) c.in_ok-contents.ensures c.certified.result c.certified.ensures
