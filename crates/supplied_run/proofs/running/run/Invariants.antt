use Rattle.std.proofs.Common.{◌≡◌, ◌≤◌, ◌+◌, ℕ, List, length}
use Rattle.msp430_machine.specs.Views.{state_of}
use Rattle.supply_trace.specs.Boxes.{all_rows}
use Rattle.supplied_run.specs.Lines.{word_lines}
use Rattle.supplied_run.specs.Rows.{IsRunning}
use Rattle.supplied_run.specs.Shown.{Added, AreLeft}
use Rattle.supplied_run.specs.Turns.{Stands, work}
use Rattle.supplied_run.proofs.running.run.Given as goal

-- the run so far stands at the core, the lines of its words were put, and the rows left are those of the boxes left
abbrev pub invariant-loop-end : goal.invariant-loop-end
invariant-loop-end g l = record {
  put : List ℕ;
  stands : Stands l.board l.input l.steps (state_of l.fn.core.machine)
      (all_rows (λ b. (goal.Supply-dyn g (b.vtable, b.value)).rows_left b.value) l.fn.bench.boxes.items)
      (all_rows (λ b. (goal.Supply-dyn g (b.vtable, b.value)).rows_left b.value) l.bench.boxes.items) put l.core;
  told : Added (g.K.Sink.taken l.fn.sink) (g.K.Sink.taken l.sink) (λ bytes. bytes ≡ word_lines put);
  running : IsRunning l.core.machine.phase;
  charges : l.core.counts.charges + length (all_rows (λ b. (goal.Supply-dyn g (b.vtable, b.value)).rows_left b.value) l.bench.boxes.items)
      ≡ length (all_rows (λ b. (goal.Supply-dyn g (b.vtable, b.value)).rows_left b.value) l.fn.bench.boxes.items);
  within : l.core.counts.instructions ≤ l.steps;
  boxes : AreLeft (λ b. (goal.Supply-dyn g (b.vtable, b.value)).supply_faults b.value) (λ x y. y ≡ x) l.fn.bench.boxes.items l.bench.boxes.items;
  faults : g.K.Sink.faults l.sink ≡ g.K.Sink.faults l.fn.sink;
}

abbrev pub decreases-loop-end : goal.decreases-loop-end
decreases-loop-end g l = work l.steps (all_rows (λ b. (goal.Supply-dyn g (b.vtable, b.value)).rows_left b.value) l.bench.boxes.items) l.core
