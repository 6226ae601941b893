use Rattle.job_files.specs.Answers.{answer_of}
use Rattle.build_job.proofs.Reading.{not_emitted}
use Rattle.build_job.proofs.image_text.image_of.Goals as goal

pub returns-in-Err : goal.returns-in-Err
returns-in-Err c = not_emitted c.args.board.now c.args.graph.now c.in-Err.fault (answer_of c.refused.result) c.in-Err.ensures.refused c.refused.ensures
