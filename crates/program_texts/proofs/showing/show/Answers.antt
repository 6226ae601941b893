use Rattle.std.proofs.Common.{ap, ◌∙◌}
use Rattle.c_tree.specs.declared.saying.Said.{Said}
use Rattle.program_texts.specs.Shown.{end_of}
use Rattle.program_texts.proofs.Putting.{cut_short, stopped}
use Rattle.program_texts.proofs.showing.show.Goals as goal

pub returns-in-Err-put_last-clause-put : goal.returns-in-Err-put_last-clause-put
returns-in-Err-put_last-clause-put g c =
    stopped c.args.p.now c.args.input.now c.args.steps c.end_of-end.result c.in-Ok.said.steps (c.end_of-end.ensures ∙ ap end_of c.in-Ok.ensures.ends) c.in-Ok.ensures.counted
    c.in-Err-put_last.field-0 _ _ _ c.in-Ok.ensures.put c.in-Err-put_last.ensures.told

pub returns-in-Err-clause-put : goal.returns-in-Err-clause-put
returns-in-Err-clause-put g c = cut_short c.args.p.now c.args.input.now c.args.steps Said c.in-Err.fault _ _ c.in-Err.ensures.put
