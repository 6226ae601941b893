-- The weight of code in parts.
use Rattle.std.proofs.Common.{◌≡◌, ◌+◌, List, [], ◌∷◌, ◌++◌, arith}
use Rattle.board_table.specs.declared.board.Board.{Board}
use Rattle.msp430_isa.specs.declared.instr.Instr.{Instr}
use Rattle.msp430_machine.specs.Cost.{instruction_cost}
use Rattle.op_cost.specs.Templates.{Counted, weight_of, once}

-- what an instruction behind some code adds
pub weight_then : (b : Board) (xs : List Counted) (i : Instr) → weight_of b (xs ++ once (i ∷ [])) ≡ weight_of b xs + instruction_cost b i
weight_then b [] i = omega arith
weight_then b (x ∷ xs) i = omega (arith, weight_then b xs i)

pub ruleset parts = (weight_then)
