use Rattle.std.proofs.Common.{◌∙◌, ap, sym}
use Rattle.job_files.specs.Answers.{write_fault}
use Rattle.run_job.specs.Ends.{answer_of_run}
use Rattle.run_job.proofs.Opening.{shown_by}
use Rattle.run_job.proofs.opened_run.show_run.Goals as goal

pub returns-in-Ok : goal.returns-in-Ok
returns-in-Ok g c =
    shown_by (λ b. (goal.Supply-dyn g (b.vtable, b.value)).rows_left b.value) (λ b. (goal.Supply-dyn g (b.vtable, b.value)).supply_faults b.value)
    _ _ _ c.new-bench.result.boxes.items c.args.supplies.now.items c.run-told.new.bench.boxes.items c.boxes.result.items _ _ _ _ _ _ c.deref.result.now c.args.opened.input.items
    (c.new-bench.ensures ∙ ap (λ v. v.items) c.replace.ensures.value) c.boxes.ensures c.deref.ensures.value
    c.run-told.ensures.shown c.run-told.ensures.boxes c.run-told.ensures.cause
    (c.status_of.ensures ∙ sym (ap answer_of_run c.in-Ok.is))

pub returns : goal.returns
returns g c =
    shown_by (λ b. (goal.Supply-dyn g (b.vtable, b.value)).rows_left b.value) (λ b. (goal.Supply-dyn g (b.vtable, b.value)).supply_faults b.value)
    _ _ _ c.new-bench.result.boxes.items c.args.supplies.now.items c.run-told.new.bench.boxes.items c.boxes.result.items _ _ _ _ _ _ c.deref.result.now c.args.opened.input.items
    (c.new-bench.ensures ∙ ap (λ v. v.items) c.replace.ensures.value) c.boxes.ensures c.deref.ensures.value
    c.run-told.ensures.shown c.run-told.ensures.boxes c.run-told.ensures.cause
    (ap write_fault c.requires.output ∙ sym (ap answer_of_run c.in-Err.is))
