use Rattle.supply_trace.specs.declared.supply.Given.TheVariants.{Row, Ended, Failed}
use Rattle.supplied_run.proofs.Boxes.{asked_left}
use Rattle.supplied_run.proofs.Turning.{wake_turn}
use Rattle.supplied_run.proofs.turn.wake.Goals as goal

pub returns-in-Row-clause-turns : goal.returns-in-Row-clause-turns
returns-in-Row-clause-turns g c = λ limit below.
    wake_turn c.args.board.now c.args.input.now limit c.in-Row.row _ _ c.args.core.now c.apply.new.self c.apply.result
    c.requires.due below c.in-Row.ensures.row c.apply.ensures.told c.apply.ensures.state c.apply.ensures.counts c.apply.ensures.steps_on

pub returns-in-Row-clause-boxes : goal.returns-in-Row-clause-boxes
returns-in-Row-clause-boxes g c =
    asked_left (λ b. (goal.Supply-dyn g (b.vtable, b.value)).supply_faults b.value) (λ b. (goal.Supply-dyn g (b.vtable, b.value)).rows_left b.value)
    (Row c.in-Row.row) c.args.bench.now.boxes.items c.next.new.self.boxes.items c.in-Row.ensures.front

pub returns-in-Ended-clause-boxes : goal.returns-in-Ended-clause-boxes
returns-in-Ended-clause-boxes g c =
    asked_left (λ b. (goal.Supply-dyn g (b.vtable, b.value)).supply_faults b.value) (λ b. (goal.Supply-dyn g (b.vtable, b.value)).rows_left b.value)
    Ended c.args.bench.now.boxes.items c.next.new.self.boxes.items c.in-Ended.ensures.front

pub returns-in-Failed-clause-boxes : goal.returns-in-Failed-clause-boxes
returns-in-Failed-clause-boxes g c =
    asked_left (λ b. (goal.Supply-dyn g (b.vtable, b.value)).supply_faults b.value) (λ b. (goal.Supply-dyn g (b.vtable, b.value)).rows_left b.value)
    Failed c.args.bench.now.boxes.items c.next.new.self.boxes.items c.in-Failed.ensures.front
