use Rattle.std.proofs.Common.{◌≡◌, ◌∙◌, ap, rules, subst, length}
use Rattle.supply_trace.specs.Boxes.{AsksFront, unended}
use Rattle.supply_trace.specs.declared.supply.Given.TheVariants.{Ended}
use Rattle.supply_trace.proofs.Asking.{taken, dropped, asked, all_ended, nothing}
use Rattle.supply_trace.proofs.bench.Bench.next.Goals as goal

pub loop-self-smaller : goal.loop-self-smaller
loop-self-smaller g c = search rules

pub loop-self-preserved : goal.loop-self-preserved
loop-self-preserved g c =
    dropped (λ b. (goal.Supply-dyn g (b.vtable, b.value)).rows_left b.value) (λ b. (goal.Supply-dyn g (b.vtable, b.value)).supply_faults b.value)
    c.loop-self.self.boxes.items c.ask_front.new.self.boxes.items c.pop_front.new.self.items c.pop_front.result c.in-Ended.ensures c.pop_front.ensures.items
    ∙ c.loop-self.invariant

pub returns-in_default : goal.returns-in_default
returns-in_default g c =
    let front = subst (λ l. AsksFront (λ b. (goal.Supply-dyn g (b.vtable, b.value)).rows_left b.value) (λ b. (goal.Supply-dyn g (b.vtable, b.value)).supply_faults b.value) c.ask_front.result l c.ask_front.new.self.boxes.items)
    c.loop-self.invariant
    (asked (λ b. (goal.Supply-dyn g (b.vtable, b.value)).rows_left b.value) (λ b. (goal.Supply-dyn g (b.vtable, b.value)).supply_faults b.value) c.ask_front.result c.loop-self.self.boxes.items c.ask_front.new.self.boxes.items c.in_default.not-Ended c.ask_front.ensures) in
    record {
      row = taken (λ b. (goal.Supply-dyn g (b.vtable, b.value)).rows_left b.value) (λ b. (goal.Supply-dyn g (b.vtable, b.value)).supply_faults b.value) c.ask_front.result c.args.self.now.boxes.items c.ask_front.new.self.boxes.items front;
      front = front;
    }

pub returns-clause-front : goal.returns-clause-front
returns-clause-front g c =
    let empty : length c.loop-self.self.boxes.items ≡ 0 = search rules in
    let none = nothing c.loop-self.self.boxes.items empty in
    all_ended (λ b. (goal.Supply-dyn g (b.vtable, b.value)).rows_left b.value) (λ b. (goal.Supply-dyn g (b.vtable, b.value)).supply_faults b.value) c.args.self.now.boxes.items c.loop-self.self.boxes.items c.loop-self.invariant none

pub returns-clause-row : goal.returns-clause-row
returns-clause-row g c =
    taken (λ b. (goal.Supply-dyn g (b.vtable, b.value)).rows_left b.value) (λ b. (goal.Supply-dyn g (b.vtable, b.value)).supply_faults b.value) Ended c.args.self.now.boxes.items c.loop-self.self.boxes.items (returns-clause-front g c)
