use Rattle.std.proofs.Common.{◌≡◌, length}
use Rattle.supply_trace.specs.Boxes.{unended}
use Rattle.supply_trace.proofs.bench.Bench.next.Given as goal

-- the boxes that were dropped had no row left
abbrev pub invariant-loop-self : goal.invariant-loop-self
invariant-loop-self g l =
    unended (λ b. (goal.Supply-dyn g (b.vtable, b.value)).rows_left b.value) l.self.boxes.items
    ≡ unended (λ b. (goal.Supply-dyn g (b.vtable, b.value)).rows_left b.value) l.initial.self.boxes.items

abbrev pub decreases-loop-self : goal.decreases-loop-self
decreases-loop-self g l = length l.self.boxes.items
