-- Where the operands of an instruction are, as far as that is known.
use Rattle.std.specs.Prelude.{ℕ, ◌+◌, ◌%◌, ◌==◌, nat_le, Bool, ◌&&◌, ◌||◌, if◌then◌else◌}
use Rattle.board_table.specs.declared.board.Board.{Board}
use Rattle.certificate.specs.declared.cert.Slot.TheVariants.{Reg}
use Rattle.msp430_isa.specs.declared.instr.Src.{Src}
use Rattle.msp430_isa.specs.declared.instr.Src.TheVariants.{Reg as FromReg, Index as FromIndex, Abs as FromAbs, At, AtPlus, Imm, Short}
use Rattle.msp430_isa.specs.declared.instr.Dst.{Dst}
use Rattle.msp430_isa.specs.declared.instr.Dst.TheVariants.{Reg as ToReg, Index as ToIndex, Abs as ToAbs}
use Rattle.msp430_isa.specs.declared.instr.TwoOp.{TwoOp}
use Rattle.msp430_isa.specs.declared.instr.OneOp.{OneOp}
use Rattle.msp430_isa.specs.declared.instr.OneOp.TheVariants.{Call as CALL}
use Rattle.msp430_isa.specs.declared.instr.Instr.{Instr}
use Rattle.msp430_isa.specs.declared.instr.Instr.TheVariants.{Two, One, Jump}
use Rattle.msp430_isa.specs.Profile.{is_move}
use Rattle.msp430_machine.specs.Operands.{Operand, Constant, InRegister, InMemory}
use Rattle.msp430_machine.specs.Cost.{cost_by}
use Rattle.cert_rules.specs.Ranges.{Range, known_even}
use Rattle.cert_rules.specs.Known.{Known, range_of}

-- The addresses that a data address may be, and whether each of them is even.
pub record Reach : Type 0 where
  pub least : ℕ
  pub greatest : ℕ
  pub even : Bool

pub data Place : Type 0 where
  Number : ℕ → Place
  InReg : ℕ → Place
  InReach : Reach → Place

abbrev pub one_address : ℕ → Reach
one_address a = record { least = a; greatest = a; even = a % 2 == 0 }

abbrev pub is_certain : Reach → Bool
is_certain p = p.least == p.greatest

-- x and a register's range, without wrapping
abbrev pub offset_by : ℕ → Range → Reach
offset_by x r = record {
  least = r.least + x;
  greatest = r.greatest + x;
  even = if r.least == r.greatest then (r.least + x) % 2 == 0 else known_even r && x % 2 == 0;
}

-- a word of the call stack
abbrev pub stack_word : ℕ
stack_word = 0x7FFE

-- `@Rn` is in no form that is allowed, and `@Rn+` only as a word of the call stack.
abbrev pub source_place : Known → Src → Place
source_place κ (FromReg r) = InReg r
source_place κ (FromIndex r x) = InReach (offset_by x (range_of κ (Reg r)))
source_place κ (FromAbs a) = InReach (one_address a)
source_place κ (At r) = InReach (one_address stack_word)
source_place κ (AtPlus r) = InReach (one_address stack_word)
source_place κ (Imm v) = Number v
source_place κ (Short v) = Number v

abbrev pub destination_place : Known → Dst → Place
destination_place κ (ToReg r) = InReg r
destination_place κ (ToIndex r x) = InReach (offset_by x (range_of κ (Reg r)))
destination_place κ (ToAbs a) = InReach (one_address a)

-- ---- What may be read and written: data, SRAM, and ports as the device allows them. A range lies in one of these.

abbrev pub lies : ℕ → ℕ → Reach → Bool
lies least greatest p = nat_le least p.least && nat_le p.greatest greatest

abbrev pub in_memory : Reach → Bool
in_memory p = lies 0x4400 0x7EFF p || lies 0x1C00 0x23FF p

abbrev pub may_read : Reach → Bool
may_read p = p.even && (in_memory p || lies 0x0F00 0x0F01 p)

abbrev pub may_change : Reach → Bool
may_change p = p.even && in_memory p

abbrev pub may_move_to : Reach → Bool
may_move_to p = p.even && (in_memory p || lies 0x0F02 0x0F07 p)

abbrev pub may_be_destination : TwoOp → Reach → Bool
may_be_destination op p = if is_move op then may_move_to p else may_change p

-- ---- What an instruction costs. Each address of an allowed reach has the cost of the least.

abbrev pub operand_of : Place → Operand
operand_of (Number v) = Constant v
operand_of (InReg r) = InRegister r
operand_of (InReach p) = InMemory p.least

abbrev pub one_written : OneOp → Place → Operand
one_written CALL p = InMemory stack_word
one_written op p = operand_of p

-- what an instruction reads as its source, and its destination or what it writes; a jump has neither
abbrev pub read_by : Known → Instr → Operand
read_by κ (Two op byte src dst) = operand_of (source_place κ src)
read_by κ (One op byte src) = operand_of (source_place κ src)
read_by κ (Jump on words) = Constant 0

abbrev pub changed_by : Known → Instr → Operand
changed_by κ (Two op byte src dst) = operand_of (destination_place κ dst)
changed_by κ (One op byte src) = one_written op (source_place κ src)
changed_by κ (Jump on words) = Constant 0

abbrev pub cost_of : Board → Known → Instr → ℕ
cost_of b κ i = cost_by b i (read_by κ i) (changed_by κ i)
