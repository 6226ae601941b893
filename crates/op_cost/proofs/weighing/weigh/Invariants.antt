use Rattle.std.proofs.Common.{◌≡◌, ◌≤◌, ◌+◌, ◌*◌, drop, sum_by}
use Rattle.msp430_machine.specs.Cost.{instruction_cost}
use Rattle.op_cost.proofs.weighing.weigh.Given as goal

-- the cost so far and that of the instructions left make the whole
abbrev pub invariant-loop-instr : goal.invariant-loop-instr
invariant-loop-instr l =
    (l.cost + sum_by (λ i. instruction_cost l.b i) (drop l.instr-index l.code) ≡ sum_by (λ i. instruction_cost l.b i) l.code)
    × (l.cost ≤ 7000000 * l.instr-index)
