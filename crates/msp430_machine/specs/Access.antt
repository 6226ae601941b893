-- Which accesses are allowed, and which fault comes first.
use Rattle.std.specs.Prelude.{ℕ, ◌%◌, ◌==◌, if◌then◌else◌, Bool, false, not, ◌&&◌, ◌||◌, Option, Some, None}
use Rattle.msp430_isa.specs.declared.instr.Src.{Src}
use Rattle.msp430_isa.specs.declared.instr.Src.TheVariants.{AtPlus}
use Rattle.msp430_isa.specs.declared.instr.TwoOp.{TwoOp}
use Rattle.msp430_isa.specs.declared.instr.TwoOp.TheVariants.{Mov as MOV, Cmp as CMP, Bit as BIT}
use Rattle.msp430_isa.specs.declared.instr.OneOp.{OneOp}
use Rattle.msp430_isa.specs.declared.instr.OneOp.TheVariants.{Push as PUSH, Call as CALL}
use Rattle.msp430_isa.specs.declared.instr.Instr.{Instr}
use Rattle.msp430_isa.specs.declared.instr.Instr.TheVariants.{Two, One, Jump}
use Rattle.msp430_machine.specs.declared.answer.Why.{Why}
use Rattle.msp430_machine.specs.declared.answer.Why.TheVariants.{Odd, Port, Unmapped, ReadOnly}
use Rattle.msp430_machine.specs.Addresses.{in_port, out_port, end_port, trap_port, Region, Ports, Sram, Fram, Code, Empty, region}
use Rattle.msp430_machine.specs.State.{State}
use Rattle.msp430_machine.specs.Operands.{Operand, Constant, InRegister, InMemory, source, destination, pushed_at}

-- what an access is for: a source is read, a destination is read, MOV writes, another operation or the stack writes
pub data Purpose : Type 0 where
  AsSource : Purpose
  AsDestination : Purpose
  ByMove : Purpose
  ByOther : Purpose

-- a word source may read IN, and a word MOV may write OUT, END and TRAP
abbrev pub may_use_port : Purpose → Bool → ℕ → Bool
may_use_port AsSource false a = a == in_port
may_use_port ByMove false a = a == out_port || a == end_port || a == trap_port
may_use_port purpose byte a = false

abbrev pub code_fault : Purpose → Option Why
code_fault AsSource = None
code_fault AsDestination = None
code_fault ByMove = Some ReadOnly
code_fault ByOther = Some ReadOnly

abbrev pub fault_in : Region → Purpose → Bool → ℕ → Option Why
fault_in Ports purpose byte a = if may_use_port purpose byte a then None else Some Port
fault_in Empty purpose byte a = Some Unmapped
fault_in Sram purpose byte a = None
fault_in Fram purpose byte a = None
fault_in Code purpose byte a = code_fault purpose

-- the first fault of an access: odd, port, unmapped, read only
abbrev pub fault_at : Purpose → Bool → ℕ → Option Why
fault_at purpose byte a = if not byte && a % 2 == 1 then Some Odd else fault_in (region a) purpose byte a

abbrev pub fault_of : Purpose → Bool → Operand → Option Why
fault_of purpose byte (Constant v) = None
fault_of purpose byte (InRegister r) = None
fault_of purpose byte (InMemory a) = fault_at purpose byte a

abbrev pub first_of : Option Why → Option Why → Option Why
first_of (Some why) o = Some why
first_of None o = o

-- an SP that is read through and moved on is even, whatever the width
abbrev pub source_fault : Bool → State → Src → Option Why
source_fault byte s (AtPlus r) = if r == 1 && s.reg 1 % 2 == 1 then Some Odd else fault_of AsSource byte (source s (AtPlus r))
source_fault byte s src = fault_of AsSource byte (source s src)

abbrev pub destination_fault : TwoOp → Bool → Operand → Option Why
destination_fault MOV byte d = fault_of ByMove byte d
destination_fault CMP byte d = fault_of AsDestination byte d
destination_fault BIT byte d = fault_of AsDestination byte d
destination_fault op byte d = first_of (fault_of AsDestination byte d) (fault_of ByOther byte d)

-- behind the operand's read: the stack's write, or the write of the operand
abbrev pub one_fault : OneOp → Bool → State → Operand → Option Why
one_fault PUSH byte s v = fault_at ByOther false (pushed_at s)
one_fault CALL byte s v = fault_at ByOther false (pushed_at s)
one_fault op byte s v = fault_of ByOther byte v

-- the first fault of an instruction, access by access
abbrev pub access_fault : State → Instr → Option Why
access_fault s (Two op byte src dst) = first_of (source_fault byte s src) (destination_fault op byte (destination s dst))
access_fault s (One op byte src) = first_of (source_fault byte s src) (one_fault op byte s (source s src))
access_fault s (Jump on words) = None
