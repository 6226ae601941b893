-- What an instruction costs: its class, its words, and each access of memory.
use Rattle.std.specs.Prelude.{ℕ, ◌+◌, ◌*◌, if◌then◌else◌, Bool, true, false, ◌&&◌}
use Rattle.board_table.specs.declared.board.Board.{Board}
use Rattle.msp430_isa.specs.declared.instr.TwoOp.{TwoOp}
use Rattle.msp430_isa.specs.declared.instr.TwoOp.TheVariants.{Mov as MOV}
use Rattle.msp430_isa.specs.declared.instr.OneOp.{OneOp}
use Rattle.msp430_isa.specs.declared.instr.OneOp.TheVariants.{Push as PUSH, Call as CALL}
use Rattle.msp430_isa.specs.declared.instr.Src.{Src}
use Rattle.msp430_isa.specs.declared.instr.Src.TheVariants.{Reg as FromReg, Index as FromIndex, Abs as FromAbs, At, AtPlus, Imm, Short}
use Rattle.msp430_isa.specs.declared.instr.Dst.{Dst}
use Rattle.msp430_isa.specs.declared.instr.Dst.TheVariants.{Reg as ToReg, Index as ToIndex, Abs as ToAbs}
use Rattle.msp430_isa.specs.declared.instr.Instr.{Instr}
use Rattle.msp430_isa.specs.declared.instr.Instr.TheVariants.{Two, One, Jump}
use Rattle.msp430_isa.specs.Encoding.{length_of}
use Rattle.msp430_isa.specs.Results.{reads_destination, writes_destination}
use Rattle.msp430_machine.specs.Addresses.{Region, Ports, Sram, Fram, Code, Empty, region}
use Rattle.msp430_machine.specs.State.{State, Off, no_flags}
use Rattle.msp430_machine.specs.Operands.{Operand, Constant, InRegister, InMemory, source, destination, pushed_at}

-- An access of Empty faults before the instruction is paid: the cost that stands for it here is never paid.
abbrev pub read_cost_in : Board → Region → ℕ
read_cost_in b Sram = b.access.sram_read
read_cost_in b Ports = b.access.port_read
read_cost_in b Fram = b.access.fram_read
read_cost_in b Code = b.access.fram_read
read_cost_in b Empty = b.access.fram_read

abbrev pub write_cost_in : Board → Region → ℕ
write_cost_in b Sram = b.access.sram_write
write_cost_in b Ports = b.access.port_write
write_cost_in b Fram = b.access.fram_write
write_cost_in b Code = b.access.fram_write
write_cost_in b Empty = b.access.fram_write

abbrev pub read_cost : Board → Operand → ℕ
read_cost b (Constant v) = 0
read_cost b (InRegister r) = 0
read_cost b (InMemory a) = read_cost_in b (region a)

abbrev pub write_cost : Board → Operand → ℕ
write_cost b (Constant v) = 0
write_cost b (InRegister r) = 0
write_cost b (InMemory a) = write_cost_in b (region a)

abbrev pub two_class : Board → TwoOp → ℕ
two_class b MOV = b.core.move_
two_class b op = b.core.alu

abbrev pub destination_cost : Board → TwoOp → Operand → ℕ
destination_cost b op d = (if reads_destination op then read_cost b d else 0) + (if writes_destination op then write_cost b d else 0)

abbrev pub one_class : Board → OneOp → ℕ
one_class b PUSH = b.core.push
one_class b CALL = b.core.call
one_class b op = b.core.one

-- PUSH and CALL write the stack, the others their operand
abbrev pub one_written : OneOp → State → Operand → Operand
one_written PUSH s v = InMemory (pushed_at s)
one_written CALL s v = InMemory (pushed_at s)
one_written op s v = v

-- what an instruction reads as its source, and its destination or what it writes; a jump has neither
abbrev pub from_of : State → Instr → Operand
from_of s (Two op byte src dst) = source s src
from_of s (One op byte src) = source s src
from_of s (Jump on words) = Constant 0

abbrev pub to_of : State → Instr → Operand
to_of s (Two op byte src dst) = destination s dst
to_of s (One op byte src) = one_written op s (source s src)
to_of s (Jump on words) = Constant 0

-- what an instruction of these two costs
abbrev pub cost_by : Board → Instr → Operand → Operand → ℕ
cost_by b (Two op byte src dst) from to =
    two_class b op + b.access.fetch * length_of (Two op byte src dst) + read_cost b from + destination_cost b op to
cost_by b (One op byte src) from to = one_class b op + b.access.fetch * length_of (One op byte src) + read_cost b from + write_cost b to
cost_by b (Jump on words) from to = b.core.jump + b.access.fetch

abbrev pub cost : Board → State → Instr → ℕ
cost b s i = cost_by b i (from_of s i) (to_of s i)

-- ---- What an instruction costs by its words alone

-- the state in which each register and each word is 0
abbrev pub any_state : State
any_state = record { phase = Off; charge = 0; reg = λ r. 0; flags = no_flags; other_bits = 0; sram = λ k. 0; fram = λ k. 0; code = λ k. 0; taken = 0 }

-- A register that an address is made of counts as 0.
abbrev pub instruction_cost : Board → Instr → ℕ
instruction_cost b i = cost b any_state i

-- no address is made of a register
abbrev pub source_is_fixed : Src → Bool
source_is_fixed (FromIndex r x) = false
source_is_fixed (At r) = false
source_is_fixed (AtPlus r) = false
source_is_fixed (FromReg r) = true
source_is_fixed (FromAbs a) = true
source_is_fixed (Imm v) = true
source_is_fixed (Short v) = true

abbrev pub destination_is_fixed : Dst → Bool
destination_is_fixed (ToIndex r x) = false
destination_is_fixed (ToReg r) = true
destination_is_fixed (ToAbs a) = true

abbrev pub leaves_stack : OneOp → Bool
leaves_stack PUSH = false
leaves_stack CALL = false
leaves_stack op = true

-- An instruction that makes no address of a register, SP's too, costs the same in each state.
abbrev pub is_fixed : Instr → Bool
is_fixed (Two op byte src dst) = source_is_fixed src && destination_is_fixed dst
is_fixed (One op byte src) = leaves_stack op && source_is_fixed src
is_fixed (Jump on words) = true
