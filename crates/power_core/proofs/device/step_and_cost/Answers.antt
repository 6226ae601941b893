use Rattle.std.proofs.Common.{arith}
use Rattle.msp430_machine.specs.Views.{state_of}
use Rattle.power_core.proofs.Spending.{charge_left, spent_small, taken_left}
use Rattle.power_core.proofs.device.step_and_cost.Goals as goal

pub overflow_sub-result : goal.overflow_sub-result
overflow_sub-result c = let e = charge_left c.args.b.now c.args.input.now (state_of c.args.machine.now) _ c.step-did.ensures.state in omega (arith, e)

pub returns-clause-cost : goal.returns-clause-cost
returns-clause-cost c = let e = charge_left c.args.b.now c.args.input.now (state_of c.args.machine.now) _ c.step-did.ensures.state in omega (arith, e)

pub returns-clause-small : goal.returns-clause-small
returns-clause-small c =
    let e = charge_left c.args.b.now c.args.input.now (state_of c.args.machine.now) _ c.step-did.ensures.state in
    omega (arith, e, spent_small c.args.b.now c.args.input.now (state_of c.args.machine.now))

pub returns-clause-none_taken : goal.returns-clause-none_taken
returns-clause-none_taken c = taken_left c.args.b.now c.args.input.now (state_of c.args.machine.now) _ _ c.step-did.ensures.state c.step-did.ensures.answer
