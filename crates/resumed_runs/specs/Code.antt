-- The code around the operations of a program, instruction by instruction: boot, a head, the end.
use Rattle.std.specs.Prelude.{ℕ, ◌+◌, if◌then◌else◌, false, List, [], ◌∷◌, pos}
use Rattle.msp430_isa.specs.declared.instr.Src.{Src}
use Rattle.msp430_isa.specs.declared.instr.Src.TheVariants.{Reg as FromReg, Abs as FromAbs, Imm, Short}
use Rattle.msp430_isa.specs.declared.instr.Dst.{Dst}
use Rattle.msp430_isa.specs.declared.instr.Dst.TheVariants.{Reg as ToReg, Abs as ToAbs}
use Rattle.msp430_isa.specs.declared.instr.TwoOp.TheVariants.{Mov as MOV, Cmp as CMP, Bis as BIS}
use Rattle.msp430_isa.specs.declared.instr.Cond.TheVariants.{Jne as JNE}
use Rattle.msp430_isa.specs.declared.instr.Instr.{Instr}
use Rattle.msp430_isa.specs.declared.instr.Instr.TheVariants.{Two, Jump}
use Rattle.msp430_isa.specs.Encoding.{length_of}
use Rattle.msp430_isa.specs.Profile.{is_constant}
use Rattle.msp430_machine.specs.Addresses.{gate, resume, saved_sp, trap_port}

-- MOV of a word
abbrev pub move : Src → Dst → Instr
move src dst = Two MOV false src dst

-- a constant, by a generator where one has it
abbrev pub constant : ℕ → Src
constant v = if is_constant v then Short v else Imm v

-- The first code of every wake but a warm one. Where GATE is open it takes up the program at RESUME, with its stack; else a
-- stretch was cut, and the program can't go on: TRAP 4.
abbrev pub boot : List Instr
boot =
    Two CMP false (Short 1) (ToAbs gate) ∷ Jump JNE (pos 4) ∷ move (FromAbs saved_sp) (ToReg 1) ∷ move (FromAbs resume) (ToReg 0)
    ∷ move (Short 4) (ToAbs trap_port) ∷ []

-- A sleep that is resumed at the last of these instructions, whose address is r. That one closes GATE before any work.
abbrev pub head : ℕ → List Instr
head r =
    move (FromReg 1) (ToAbs saved_sp) ∷ move (Imm r) (ToAbs resume) ∷ move (Short 1) (ToAbs gate) ∷ Two BIS false (Imm 16) (ToReg 2)
    ∷ move (Short 0) (ToAbs gate) ∷ []

-- the address of the last instruction of the first head
abbrev pub first_resume : ℕ
first_resume = 0x8024

-- how many words instructions have
abbrev pub size_of : List Instr → ℕ
size_of [] = 0
size_of (i ∷ is) = length_of i + size_of is
