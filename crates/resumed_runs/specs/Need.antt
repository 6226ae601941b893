-- What instructions cost, and what a wake and a sleep do.
use Rattle.std.specs.Prelude.{ℕ, ◌+◌, sum_by, List, take, drop}
use Rattle.board_table.specs.declared.board.Board.{Board}
use Rattle.msp430_isa.specs.declared.instr.Instr.{Instr}
use Rattle.msp430_machine.specs.Cost.{instruction_cost}
use Rattle.resumed_runs.specs.Code.{boot, head, first_resume}

-- None of these instructions makes an address of a register, so each costs the same in every state.
abbrev pub cost_of : Board → List Instr → ℕ
cost_of b instructions = sum_by (λ i. instruction_cost b i) instructions

-- boot's first four instructions and the last of a head
abbrev pub wake_cost : Board → ℕ
wake_cost b = cost_of b (take 4 boot) + cost_of b (drop 4 (head first_resume))

-- the first four of a head
abbrev pub sleep_cost : Board → ℕ
sleep_cost b = cost_of b (take 4 (head first_resume))
