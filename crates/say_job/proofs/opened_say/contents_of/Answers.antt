use Rattle.job_files.specs.Answers.{answer_of}
use Rattle.say_job.specs.InCode.{say_named}
use Rattle.say_job.proofs.Opening.{input_lost, program_lost}
use Rattle.say_job.proofs.opened_say.contents_of.Goals as goal

pub returns-in-Err : goal.returns-in-Err
returns-in-Err c = program_lost (say_named c.args.job.now) c.args.program.now c.args.input.now (answer_of c.in-Err.status) c.in-Err.ensures.found

pub returns-in-Err-input_of : goal.returns-in-Err-input_of
returns-in-Err-input_of c =
    input_lost (say_named c.args.job.now) c.args.program.now c.args.input.now c.in-Ok.program c.in-Ok.ensures.found (answer_of c.in-Err-input_of.status) c.in-Err-input_of.ensures
