-- What an instruction makes of values and flags, and when a jump is taken (SLAU367, chapter 4).
use Rattle.std.specs.Prelude.{ℕ, ◌+◌, ◌-◌, ◌*◌, ◌/◌, ◌%◌, ◌==◌, nat_le, if◌then◌else◌, Bool, true, false, not, ◌&&◌, ◌||◌, ℤ, pos, negsuc, bit_and, bit_or, bit_xor}
use Rattle.msp430_isa.specs.declared.instr.TwoOp.{TwoOp}
use Rattle.msp430_isa.specs.declared.instr.TwoOp.TheVariants.{Mov as MOV, Add as ADD, Addc as ADDC, Subc as SUBC, Sub as SUB, Cmp as CMP, Bit as BIT, Bic as BIC, Bis as BIS, Xor as XOR, And as AND}
use Rattle.msp430_isa.specs.declared.instr.OneOp.{OneOp}
use Rattle.msp430_isa.specs.declared.instr.OneOp.TheVariants.{Rrc as RRC, Swpb as SWPB, Rra as RRA, Sxt as SXT, Push as PUSH, Call as CALL}
use Rattle.msp430_isa.specs.declared.instr.Cond.{Cond}
use Rattle.msp430_isa.specs.declared.instr.Cond.TheVariants.{Jne as JNE, Jeq as JEQ, Jnc as JNC, Jc as JC, Jn as JN, Jge as JGE, Jl as JL, Jmp as JMP}

-- C, Z, N and V of the status register
pub record Flags : Type 0 where
  pub carry : Bool
  pub zero_flag : Bool
  pub negative : Bool
  pub overflow : Bool

abbrev pub one_if : Bool → ℕ
one_if true = 1
one_if false = 0

-- ---- Widths: a byte has eight bits, a word sixteen.

-- the number of values
abbrev pub values : Bool → ℕ
values true = 256
values false = 65536

-- the value of the highest bit, which is the sign
abbrev pub sign_bit : Bool → ℕ
sign_bit true = 128
sign_bit false = 32768

abbrev pub is_negative : Bool → ℕ → Bool
is_negative byte v = nat_le (sign_bit byte) v

abbrev pub complement : Bool → ℕ → ℕ
complement true v = 255 - v
complement false v = 65535 - v

-- ---- Sums and their flags: destination, source or its complement, and what is carried in.

abbrev pub sum : Bool → ℕ → ℕ → Bool → ℕ
sum byte d v carried = (d + v + one_if carried) % values byte

-- two numbers of one sign have a sum of the other
abbrev pub overflows : Bool → ℕ → ℕ → ℕ → Bool
overflows byte d v r =
    (is_negative byte d && is_negative byte v && not (is_negative byte r)) || (not (is_negative byte d) && not (is_negative byte v) && is_negative byte r)

abbrev pub sum_flags : Bool → ℕ → ℕ → Bool → Flags
sum_flags byte d v carried = record {
  carry = nat_le (values byte) (d + v + one_if carried);
  zero_flag = sum byte d v carried == 0;
  negative = is_negative byte (sum byte d v carried);
  overflow = overflows byte d v (sum byte d v carried);
}

-- the flags of a result that is no sum: its sign, whether it is zero, this carry, this overflow
abbrev pub flags_of : Bool → ℕ → Bool → Bool → Flags
flags_of byte r carry overflow = record {
  carry = carry;
  zero_flag = r == 0;
  negative = is_negative byte r;
  overflow = overflow;
}

-- ---- Two operands: of width byte, with the carry before, the source v and the destination d, both of that width.

abbrev pub two_result : TwoOp → Bool → Bool → ℕ → ℕ → ℕ
two_result MOV byte carry v d = v
two_result ADD byte carry v d = sum byte d v false
two_result ADDC byte carry v d = sum byte d v carry
two_result SUB byte carry v d = sum byte d (complement byte v) true
two_result SUBC byte carry v d = sum byte d (complement byte v) carry
two_result CMP byte carry v d = sum byte d (complement byte v) true
two_result BIT byte carry v d = bit_and d v
two_result AND byte carry v d = bit_and d v
two_result BIC byte carry v d = bit_and d (complement byte v)
two_result BIS byte carry v d = bit_or d v
two_result XOR byte carry v d = bit_xor d v

abbrev pub two_flags : TwoOp → Bool → Flags → ℕ → ℕ → Flags
two_flags MOV byte f v d = f
two_flags BIC byte f v d = f
two_flags BIS byte f v d = f
two_flags ADD byte f v d = sum_flags byte d v false
two_flags ADDC byte f v d = sum_flags byte d v f.carry
two_flags SUB byte f v d = sum_flags byte d (complement byte v) true
two_flags SUBC byte f v d = sum_flags byte d (complement byte v) f.carry
two_flags CMP byte f v d = sum_flags byte d (complement byte v) true
two_flags BIT byte f v d = flags_of byte (bit_and d v) (not (bit_and d v == 0)) false
two_flags AND byte f v d = flags_of byte (bit_and d v) (not (bit_and d v == 0)) false
two_flags XOR byte f v d = flags_of byte (bit_xor d v) (not (bit_xor d v == 0)) (is_negative byte d && is_negative byte v)

-- MOV doesn't read its destination
abbrev pub reads_destination : TwoOp → Bool
reads_destination MOV = false
reads_destination op = true

-- CMP and BIT don't write theirs
abbrev pub writes_destination : TwoOp → Bool
writes_destination CMP = false
writes_destination BIT = false
writes_destination op = true

-- ---- One operand: of width byte, with the carry before and the operand v of that width.

abbrev pub one_result : OneOp → Bool → Bool → ℕ → ℕ
one_result RRC byte carry v = v / 2 + (if carry then sign_bit byte else 0)
one_result RRA byte carry v = v / 2 + (if is_negative byte v then sign_bit byte else 0)
one_result SWPB byte carry v = v % 256 * 256 + v / 256
one_result SXT byte carry v = v % 256 + (if is_negative true (v % 256) then 0xFF00 else 0)
one_result PUSH byte carry v = v
one_result CALL byte carry v = v

abbrev pub one_flags : OneOp → Bool → Flags → ℕ → Flags
one_flags RRC byte f v = flags_of byte (one_result RRC byte f.carry v) (v % 2 == 1) false
one_flags RRA byte f v = flags_of byte (one_result RRA byte f.carry v) (v % 2 == 1) false
one_flags SXT byte f v = flags_of byte (one_result SXT byte f.carry v) (not (one_result SXT byte f.carry v == 0)) false
one_flags SWPB byte f v = f
one_flags PUSH byte f v = f
one_flags CALL byte f v = f

-- ---- Jumps.

abbrev pub is_taken : Cond → Flags → Bool
is_taken JNE f = not f.zero_flag
is_taken JEQ f = f.zero_flag
is_taken JNC f = not f.carry
is_taken JC f = f.carry
is_taken JN f = f.negative
is_taken JGE f = if f.negative then f.overflow else not f.overflow
is_taken JL f = if f.negative then not f.overflow else f.overflow
is_taken JMP f = true

-- where a jump goes: so many words on from the next instruction, or back
abbrev pub jump_target : ℕ → ℤ → ℕ
jump_target following (pos n) = (following + 2 * n) % 65536
jump_target following (negsuc n) = (following + 65536 - 2 * (n + 1)) % 65536
