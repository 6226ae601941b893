-- What waking and sleeping cost.
use Rattle.std.specs.Prelude.{ℕ, ◌+◌, false, List, [], ◌∷◌, pos}
use Rattle.board_table.specs.declared.board.Board.{Board}
use Rattle.msp430_isa.specs.declared.instr.Src.TheVariants.{Reg as FromReg, Abs as FromAbs, Imm, Short}
use Rattle.msp430_isa.specs.declared.instr.Dst.TheVariants.{Reg as ToReg, Abs as ToAbs}
use Rattle.msp430_isa.specs.declared.instr.TwoOp.TheVariants.{Mov as MOV, Bis as BIS, Cmp as CMP}
use Rattle.msp430_isa.specs.declared.instr.Cond.TheVariants.{Jne as JNE}
use Rattle.msp430_isa.specs.declared.instr.Instr.{Instr}
use Rattle.msp430_isa.specs.declared.instr.Instr.TheVariants.{Two, Jump}
use Rattle.msp430_machine.specs.Addresses.{gate, resume, saved_sp}
use Rattle.msp430_machine.specs.Cost.{instruction_cost}

-- what instructions cost that run one after another
abbrev pub cost_sum : Board → List Instr → ℕ
cost_sum b [] = 0
cost_sum b (i ∷ is) = instruction_cost b i + cost_sum b is

-- boot's first four instructions, and the last of a head
abbrev pub wake_code : List Instr
wake_code =
    Two CMP false (Short 1) (ToAbs gate) ∷ Jump JNE (pos 4) ∷ Two MOV false (FromAbs saved_sp) (ToReg 1) ∷ Two MOV false (FromAbs resume) (ToReg 0)
    ∷ Two MOV false (Short 0) (ToAbs gate) ∷ []

-- the first four of a head
abbrev pub sleep_code : List Instr
sleep_code =
    Two MOV false (FromReg 1) (ToAbs saved_sp) ∷ Two MOV false (Imm 0) (ToAbs resume) ∷ Two MOV false (Short 1) (ToAbs gate) ∷ Two BIS false (Imm 16) (ToReg 2) ∷ []

abbrev pub wake_cost : Board → ℕ
wake_cost b = cost_sum b wake_code

abbrev pub sleep_cost : Board → ℕ
sleep_cost b = cost_sum b sleep_code
