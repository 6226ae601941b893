use Rattle.std.proofs.Common.{◌≤◌, ℕ, refl, sym, subst, inl, inr, [], arith}
use Rattle.job_files.specs.Answers.{line_of, no_memory}
use Rattle.run_job.proofs.Opening.{rows_fit}
use Rattle.commands.proofs.Begins.{line_call, memory_call, run_call}
use Rattle.commands.proofs.SaidCalls.{said_call}
use Rattle.commands.proofs.call.run.Goals as goal

pub returns-in_default : goal.returns-in_default
returns-in_default g c = inl (record {
  came = no_memory;
  line = line_of [] no_memory;
  comes = inr (record { answer = refl; kept = record { files = refl; writes = refl; reads = omega arith }; boxes = inl refl; tells = refl });
  puts = inr (record { answer = refl; told = refl; faults = refl }, refl);
})

pub returns-in-Err : goal.returns-in-Err
returns-in-Err g c = memory_call _ _ _ _ _ _ _ _ c.in-Err.ensures c.put_line.ensures

pub returns-in-Ok-Ends : goal.returns-in-Ok-Ends
returns-in-Ok-Ends g c = line_call _ _ _ _ _ _ _ _ _ _ (rw c.in-Ok-Ends.field-0-is at c.in-Ok-Ends.ensures) c.put_ending.ensures

pub returns-in-Ok-Runs : goal.returns-in-Ok-Runs
returns-in-Ok-Runs g c = run_call _ _ _ _ _ _ _ _ _ _ (rw c.in-Ok-Runs.field-0-is at c.in-Ok-Runs.ensures) c.show_run.ensures

pub returns-in-Ok-Says : goal.returns-in-Ok-Says
returns-in-Ok-Says g c = said_call _ _ _ _ _ _ _ _ _ (rw c.in-Ok-Says.field-0-is at c.in-Ok-Says.ensures) c.show_say.ensures

pub show_run-requires : goal.show_run-requires
show_run-requires g c =
    let may = (rw c.in-Ok-Runs.field-0-is at c.in-Ok-Runs.ensures).2 in
    record {
      fresh = may.is_opened_run.fresh;
      off = may.is_opened_run.is_first.off;
      few_steps = subst (λ (n : ℕ). n ≤ 1000000000) (sym may.is_opened_run.steps_are) may.few_steps;
      few_rows = rows_fit _ _ _ _ may.held.rows may.is_opened_run.boxes may.few_rows c.requires.rows;
      output = c.in-Ok.ensures.ok;
    }
