-- What the operands of an instruction stand for: the addressing modes (SLAU367, section 4.4).
use Rattle.std.specs.Prelude.{ℕ, ◌+◌, ◌%◌, ◌==◌, if◌then◌else◌, Bool, true, false}
use Rattle.msp430_isa.specs.declared.instr.Src.{Src}
use Rattle.msp430_isa.specs.declared.instr.Src.TheVariants.{Reg as FromReg, Index as FromIndex, Abs as FromAbs, At, AtPlus, Imm, Short}
use Rattle.msp430_isa.specs.declared.instr.Dst.{Dst}
use Rattle.msp430_isa.specs.declared.instr.Dst.TheVariants.{Reg as ToReg, Index as ToIndex, Abs as ToAbs}
use Rattle.msp430_machine.specs.State.{State, register, with_register}

-- a number of the instruction's own, a register by its number, or an address of memory
pub data Operand : Type 0 where
  Constant : ℕ → Operand
  InRegister : ℕ → Operand
  InMemory : ℕ → Operand

-- the address x(Rn)
abbrev pub index : State → ℕ → ℕ → ℕ
index s r x = (register s r + x) % 65536

abbrev pub source : State → Src → Operand
source s (FromReg r) = InRegister r
source s (FromIndex r x) = InMemory (index s r x)
source s (FromAbs a) = InMemory a
source s (At r) = InMemory (register s r)
source s (AtPlus r) = InMemory (register s r)
source s (Imm v) = Constant v
source s (Short v) = Constant v

abbrev pub destination : State → Dst → Operand
destination s (ToReg r) = InRegister r
destination s (ToIndex r x) = InMemory (index s r x)
destination s (ToAbs a) = InMemory a

-- @Rn+ moves its register on by the width, and SP always by a word
abbrev pub increment : Bool → ℕ → ℕ
increment true r = if r == 1 then 2 else 1
increment false r = 2

abbrev pub incremented : Bool → State → Src → State
incremented byte s (AtPlus r) = with_register s r ((register s r + increment byte r) % 65536)
incremented byte s (FromReg r) = s
incremented byte s (FromIndex r x) = s
incremented byte s (FromAbs a) = s
incremented byte s (At r) = s
incremented byte s (Imm v) = s
incremented byte s (Short v) = s

-- where PUSH and CALL store: two below SP
abbrev pub pushed_at : State → ℕ
pushed_at s = (s.reg 1 + 65534) % 65536
