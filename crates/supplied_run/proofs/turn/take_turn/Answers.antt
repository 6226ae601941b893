use Rattle.std.proofs.Common.{◌≡◌, ◌<◌, sym, subst, arith}
use Rattle.power_core.specs.Cores.{CoreView}
use Rattle.supplied_run.specs.Turns.{TurnCounts}
use Rattle.supplied_run.proofs.Boxes.{left_as, same_boxes}
use Rattle.supplied_run.proofs.Turning.{go_turn, not_now, quiet, turns_as, turns_from, waits}
use Rattle.supplied_run.proofs.turn.take_turn.Goals as goal

pub returns-then-instructions-steps-clause-boxes : goal.returns-then-instructions-steps-clause-boxes
returns-then-instructions-steps-clause-boxes g c =
    same_boxes (λ b. (goal.Supply-dyn g (b.vtable, b.value)).supply_faults b.value) c.args.bench.now.boxes.items

pub returns-in-Done-clause-turns : goal.returns-in-Done-clause-turns
returns-in-Done-clause-turns g c =
    let below : c.args.core.now.counts.instructions < c.args.steps = omega (arith, c.instructions.ensures) in
    turns_as _ _ _ _ _ _ _ _ _ c.turn_of.ensures
    (go_turn c.args.board.now c.args.input.now c.args.steps _ c.args.core.now c.apply.new.self c.apply.result c.in-Done.did c.in-Done.is below
    c.apply.ensures.told c.apply.ensures.state c.apply.ensures.counts c.apply.ensures.steps_on)

pub returns-in-Done-clause-boxes : goal.returns-in-Done-clause-boxes
returns-in-Done-clause-boxes g c =
    left_as (λ b. (goal.Supply-dyn g (b.vtable, b.value)).supply_faults b.value) (λ x y. y ≡ x) (TurnCounts c.turn_of.result) (quiet c.in-Done.did c.turn_of.result c.turn_of.ensures)
    c.args.bench.now.boxes.items c.args.bench.now.boxes.items
    (same_boxes (λ b. (goal.Supply-dyn g (b.vtable, b.value)).supply_faults b.value) c.args.bench.now.boxes.items)

pub returns-in_default : goal.returns-in_default
returns-in_default g c =
    let can = waits c.args.board.now c.args.input.now c.args.core.now c.apply.result c.requires.running c.apply.ensures.told c.in_default.not-Done in
    let same = c.apply.ensures.unchanged (not_now c.args.board.now c.args.input.now c.args.core.now c.apply.result c.apply.ensures.told can) in
    let below : c.args.core.now.counts.instructions < c.args.steps = omega (arith, c.instructions.ensures) in
    record {
      turns = turns_from _ _ _ _ _ _ _ _ _ same (c.wake.ensures.turns c.args.steps (subst (λ (k : CoreView). k.counts.instructions < c.args.steps) (sym same) below));
      boxes = c.wake.ensures.boxes;
    }
