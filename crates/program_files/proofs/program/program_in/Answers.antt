use Rattle.job_files.specs.Answers.{answer_of}
use Rattle.program_files.proofs.OneProgram.{told_as}
use Rattle.program_files.proofs.program.program_in.Goals as goal

pub returns-in-Err-clause-found : goal.returns-in-Err-clause-found
returns-in-Err-clause-found c = told_as c.args.text.now c.in-Err.fault (answer_of c.refused.result) c.in-Err.ensures.fault c.refused.ensures
