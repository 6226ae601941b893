use Rattle.std.proofs.Common.{inl}
use Rattle.job_files.specs.Answers.{answer_of}
use Rattle.say_job.proofs.Speaking.{cut_said, whole_said}
use Rattle.say_job.proofs.opened_say.spoken.Goals as goal

pub returns-in-Ok : goal.returns-in-Ok
returns-in-Ok g c =
    whole_said c.args.program.now c.args.input.now c.args.steps (g.K.Sink.taken c.args.sink.now) (g.K.Sink.taken c.show.new.sink) (g.K.Sink.faults c.args.sink.now) (g.K.Sink.faults c.show.new.sink)
    c.in-Ok.end (answer_of c.status_of.result) c.in-Ok.ensures.put.0 c.in-Ok.ensures.put.1 c.in-Ok.ensures.cause c.status_of.ensures

pub returns-in-Err-Sink : goal.returns-in-Err-Sink
returns-in-Err-Sink g c =
    let put = rw c.in-Err-Sink.field-0-is at c.in-Err-Sink.ensures.put in
    let cause = rw c.in-Err-Sink.field-0-is at c.in-Err-Sink.ensures.cause in
    (c.requires, cause.1, inl put)

pub returns-in-Err-Memory : goal.returns-in-Err-Memory
returns-in-Err-Memory g c =
    cut_said c.args.program.now c.args.input.now c.args.steps (g.K.Sink.taken c.args.sink.now) (g.K.Sink.taken c.show.new.sink) (g.K.Sink.taken c.put_line.new.sink)
    (g.K.Sink.faults c.args.sink.now) (g.K.Sink.faults c.show.new.sink) (g.K.Sink.faults c.put_line.new.sink) (answer_of c.put_line.result)
    (rw c.in-Err-Memory.field-0-is at c.in-Err-Memory.ensures.put) (rw c.in-Err-Memory.field-0-is at c.in-Err-Memory.ensures.cause) c.put_line.ensures
