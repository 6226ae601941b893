-- What an instruction does to the state: it reads its source, moves an incremented register on, reads its destination
-- and writes. PC is the address behind the whole instruction all the while.
use Rattle.std.specs.Prelude.{ℕ, if◌then◌else◌, Bool, false, List, Option, None}
use Rattle.msp430_isa.specs.declared.instr.TwoOp.{TwoOp}
use Rattle.msp430_isa.specs.declared.instr.TwoOp.TheVariants.{Mov as MOV}
use Rattle.msp430_isa.specs.declared.instr.OneOp.{OneOp}
use Rattle.msp430_isa.specs.declared.instr.OneOp.TheVariants.{Push as PUSH, Call as CALL}
use Rattle.msp430_isa.specs.declared.instr.Src.{Src}
use Rattle.msp430_isa.specs.declared.instr.Instr.{Instr}
use Rattle.msp430_isa.specs.declared.instr.Instr.TheVariants.{Two, One, Jump}
use Rattle.msp430_isa.specs.Results.{two_result, two_flags, writes_destination, one_result, one_flags, is_taken, jump_target}
use Rattle.msp430_machine.specs.State.{State, set_at, register, with_register}
use Rattle.msp430_machine.specs.Memory.{at_width, value_at, read, after_read, written, put_at}
use Rattle.msp430_machine.specs.Operands.{Operand, Constant, InRegister, InMemory, source, destination, incremented, pushed_at}

abbrev pub source_value : List ℕ → Bool → State → Operand → ℕ
source_value input byte s (Constant v) = at_width byte v
source_value input byte s (InRegister r) = at_width byte (register s r)
source_value input byte s (InMemory a) = read input byte s a

abbrev pub after_reading : State → Operand → State
after_reading s (Constant v) = s
after_reading s (InRegister r) = s
after_reading s (InMemory a) = after_read s a

-- the state when the source is read and its register has moved on
abbrev pub after_source : Bool → State → Src → State
after_source byte s src = incremented byte (after_reading s (source s src)) src

abbrev pub destination_value : Bool → State → Operand → ℕ
destination_value byte s (Constant v) = at_width byte v
destination_value byte s (InRegister r) = at_width byte (register s r)
destination_value byte s (InMemory a) = value_at byte s a

-- a byte that is written to a register clears its high byte
abbrev pub with_value : Bool → State → Operand → ℕ → State
with_value byte s (Constant c) v = s
with_value byte s (InRegister r) v = with_register s r v
with_value byte s (InMemory a) v = written byte s a v

-- ---- Two operands: with the source's value v, and the destination's d.

abbrev pub two_values : TwoOp → Bool → ℕ → Operand → State → ℕ → State
two_values op byte v place s d =
    if writes_destination op
    then with_value byte (record s { flags = two_flags op byte s.flags v d }) place (two_result op byte s.flags.carry v d)
    else record s { flags = two_flags op byte s.flags v d }

abbrev pub two_done : TwoOp → Bool → ℕ → Operand → State → State
two_done op byte v place s = two_values op byte v place s (destination_value byte s place)

-- ---- One operand: with its value v.

abbrev pub pushed : State → ℕ → State
pushed s v = written false (record s { reg = set_at s.reg 1 (pushed_at s) }) (pushed_at s) v

abbrev pub gone_to : State → ℕ → State
gone_to s a = record s { reg = set_at s.reg 0 a }

abbrev pub one_done : OneOp → Bool → ℕ → Operand → State → State
one_done PUSH byte v place s = pushed s v
one_done CALL byte v place s = gone_to (pushed s (s.reg 0)) v
one_done op byte v place s = with_value byte (record s { flags = one_flags op byte s.flags v }) place (one_result op byte s.flags.carry v)

abbrev pub done : List ℕ → Instr → State → State
done input (Two op byte src dst) s =
    two_done op byte (source_value input byte s (source s src)) (destination (after_source byte s src) dst) (after_source byte s src)
done input (One op byte src) s = one_done op byte (source_value input byte s (source s src)) (source s src) (after_source byte s src)
done input (Jump on words) s = if is_taken on s.flags then gone_to s (jump_target (s.reg 0) words) else s

-- ---- The word that an instruction puts: by a MOV to OUT.

abbrev pub put_to : Operand → ℕ → Option ℕ
put_to (Constant c) v = None
put_to (InRegister r) v = None
put_to (InMemory a) v = put_at a v

abbrev pub put_by_two : TwoOp → ℕ → Operand → Option ℕ
put_by_two MOV v place = put_to place v
put_by_two op v place = None

abbrev pub put_by : List ℕ → Instr → State → Option ℕ
put_by input (Two op byte src dst) s = put_by_two op (source_value input byte s (source s src)) (destination (after_source byte s src) dst)
put_by input (One op byte src) s = None
put_by input (Jump on words) s = None
