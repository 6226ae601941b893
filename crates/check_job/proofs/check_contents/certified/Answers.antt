use Rattle.job_files.specs.Answers.{answer_of}
use Rattle.check_job.specs.InCode.{held_in}
use Rattle.check_job.proofs.RefusedTexts.{rules_answer}
use Rattle.check_job.proofs.check_contents.certified.Goals as goal

pub returns-in-Err : goal.returns-in-Err
returns-in-Err c = rules_answer (held_in c.args.contents.now) c.in-Err.fault (answer_of c.refused.result) c.in-Err.ensures.refused c.refused.ensures
