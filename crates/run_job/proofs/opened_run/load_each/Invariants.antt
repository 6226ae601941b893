use Rattle.std.proofs.Common.{◌≡◌, ◌++◌, length, map, drop}
use Rattle.run_job.specs.Boxes.{boxes_seen, loaded}
use Rattle.run_job.proofs.opened_run.load_each.Given as goal

-- the rows so far are in the boxes of their places
abbrev pub invariant-loop-more : goal.invariant-loop-more
invariant-loop-more g l = record {
  count : l.i ≡ length l.yielded;
  number : length l.supplies.items ≡ length l.fn.supplies.items;
  boxes :
      boxes_seen (λ b. (goal.Supply-dyn g (b.vtable, b.value)).rows_left b.value) (λ b. (goal.Supply-dyn g (b.vtable, b.value)).supply_faults b.value) l.supplies.items
      ≡ loaded (boxes_seen (λ b. (goal.Supply-dyn g (b.vtable, b.value)).rows_left b.value) (λ b. (goal.Supply-dyn g (b.vtable, b.value)).supply_faults b.value) l.fn.supplies.items) (map (λ v. v.items) l.yielded)
      ++ drop (length (map (λ v. v.items) l.yielded)) (boxes_seen (λ b. (goal.Supply-dyn g (b.vtable, b.value)).rows_left b.value) (λ b. (goal.Supply-dyn g (b.vtable, b.value)).supply_faults b.value) l.fn.supplies.items);
}
