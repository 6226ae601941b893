use Rattle.std.proofs.Common.{sym, ◌∙◌}
use Rattle.job_files.specs.Answers.{answer_of}
use Rattle.build_job.proofs.Reading.{lone, no_program, other}
use Rattle.build_job.proofs.image_text.lone_graph.Goals as goal

pub returns-in-Err : goal.returns-in-Err
returns-in-Err c = no_program c.args.text.now (answer_of c.in-Err.status) c.in-Err.ensures

pub returns-then-len-eq1 : goal.returns-then-len-eq1
returns-then-len-eq1 c = lone c.args.text.now c.in-Ok.graph c.in-Ok.ensures (sym c.len.ensures ∙ c.if-len-eq1.true)

pub returns-else-len-eq1 : goal.returns-else-len-eq1
returns-else-len-eq1 c = other c.args.text.now c.in-Ok.graph c.in-Ok.ensures (λ alone. c.if-len-eq1.false (c.len.ensures ∙ alone))
