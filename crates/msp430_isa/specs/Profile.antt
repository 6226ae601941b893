-- The profile: the instructions that the device has. What it leaves out are DADD, RETI and the MSP430X, which no value
-- of `Instr` stands for, and what the rules below leave out.
use Rattle.std.specs.Prelude.{ℕ, ◌==◌, nat_lt, Bool, true, false, not, ◌&&◌, ◌||◌, ℤ, pos, negsuc}
use Rattle.msp430_isa.specs.declared.instr.TwoOp.{TwoOp}
use Rattle.msp430_isa.specs.declared.instr.TwoOp.TheVariants.{Mov as MOV, Bis as BIS}
use Rattle.msp430_isa.specs.declared.instr.OneOp.{OneOp}
use Rattle.msp430_isa.specs.declared.instr.OneOp.TheVariants.{Rrc as RRC, Rra as RRA, Push as PUSH, Call as CALL}
use Rattle.msp430_isa.specs.declared.instr.Src.{Src}
use Rattle.msp430_isa.specs.declared.instr.Src.TheVariants.{Reg as FromReg, Index as FromIndex, Abs as FromAbs, At, AtPlus, Imm, Short}
use Rattle.msp430_isa.specs.declared.instr.Dst.{Dst}
use Rattle.msp430_isa.specs.declared.instr.Dst.TheVariants.{Reg as ToReg, Index as ToIndex, Abs as ToAbs}
use Rattle.msp430_isa.specs.declared.instr.Instr.{Instr}
use Rattle.msp430_isa.specs.declared.instr.Instr.TheVariants.{Two, One, Jump}

-- ---- Operands

-- A register that an address is made of: SP, or R4 to R15. PC is left out, and R2 and R3 give constants and `&a`.
abbrev pub is_base : ℕ → Bool
is_base r = r == 1 || (nat_lt 3 r && nat_lt r 16)

-- the constants of the generators
abbrev pub is_constant : ℕ → Bool
is_constant v = v == 0 || v == 1 || v == 2 || v == 4 || v == 8 || v == 65535

-- sources that there are; R3 itself is the constant 0
abbrev pub is_source : Src → Bool
is_source (FromReg r) = nat_lt r 16 && not (r == 3)
is_source (FromIndex r x) = is_base r
is_source (FromAbs a) = true
is_source (At r) = is_base r
is_source (AtPlus r) = is_base r
is_source (Imm v) = true
is_source (Short v) = is_constant v

abbrev pub is_destination : Dst → Bool
is_destination (ToReg r) = nat_lt r 16
is_destination (ToIndex r x) = is_base r
is_destination (ToAbs a) = true

-- ---- Two operands

abbrev pub is_move : TwoOp → Bool
is_move MOV = true
is_move _ = false

abbrev pub is_move_or_bis : TwoOp → Bool
is_move_or_bis MOV = true
is_move_or_bis BIS = true
is_move_or_bis _ = false

-- `#0` of a constant generator
abbrev pub is_zero : Src → Bool
is_zero (Short v) = v == 0
is_zero _ = false

-- whether the destination is register r, and whether register r has a part in it
abbrev pub goes_to : ℕ → Dst → Bool
goes_to r (ToReg d) = d == r
goes_to r _ = false

abbrev pub uses : ℕ → Dst → Bool
uses r (ToReg d) = d == r
uses r (ToIndex d x) = d == r
uses r (ToAbs a) = false

-- PC is the destination of a word MOV alone,
abbrev pub guards_pc : TwoOp → Bool → Dst → Bool
guards_pc op byte dst = not (goes_to 0 dst) || (is_move op && not byte)

-- SR of a word MOV or BIS,
abbrev pub guards_sr : TwoOp → Bool → Dst → Bool
guards_sr op byte dst = not (goes_to 2 dst) || (is_move_or_bis op && not byte)

-- and R3 of the word MOV #0,R3, which is 0x4303 and does nothing.
abbrev pub guards_r3 : TwoOp → Bool → Src → Dst → Bool
guards_r3 op byte src dst = not (goes_to 3 dst) || (is_move op && not byte && is_zero src)

-- A register that is incremented has no part in the destination.
abbrev pub increments_apart : Src → Dst → Bool
increments_apart (AtPlus r) dst = not (uses r dst)
increments_apart _ dst = true

-- ---- One operand

abbrev pub is_push : OneOp → Bool
is_push PUSH = true
is_push _ = false

abbrev pub is_call : OneOp → Bool
is_call CALL = true
is_call _ = false

abbrev pub is_rotation : OneOp → Bool
is_rotation RRC = true
is_rotation RRA = true
is_rotation _ = false

-- a number of the instruction's own, which has no place to write a result to
abbrev pub is_number : Src → Bool
is_number (Imm v) = true
is_number (Short v) = true
is_number _ = false

abbrev pub is_short : Src → Bool
is_short (Short v) = true
is_short _ = false

abbrev pub is_pc_or_sr : Src → Bool
is_pc_or_sr (FromReg r) = r == 0 || r == 2
is_pc_or_sr _ = false

-- whether SP has a part in the operand
abbrev pub uses_sp : Src → Bool
uses_sp (FromReg r) = r == 1
uses_sp (FromIndex r x) = r == 1
uses_sp (At r) = r == 1
uses_sp (AtPlus r) = r == 1
uses_sp _ = false

-- RRC and RRA alone work on bytes.
abbrev pub guards_width : OneOp → Bool → Bool
guards_width op byte = not byte || is_rotation op

-- PUSH and CALL alone take a number,
abbrev pub guards_numbers : OneOp → Src → Bool
guards_numbers op src = not (is_number src) || is_push op || is_call op

-- PUSH alone takes PC and SR,
abbrev pub guards_registers : OneOp → Src → Bool
guards_registers op src = not (is_pc_or_sr src) || is_push op

-- neither PUSH nor CALL takes what SP has a part in,
abbrev pub guards_stack : OneOp → Src → Bool
guards_stack op src = not (uses_sp src) || not (is_push op || is_call op)

-- and CALL takes no constant of a generator.
abbrev pub guards_call : OneOp → Src → Bool
guards_call op src = not (is_short src) || not (is_call op)

-- ---- Whole instructions

abbrev pub allows_two : TwoOp → Bool → Src → Dst → Bool
allows_two op byte src dst = is_source src && is_destination dst && guards_pc op byte dst && guards_sr op byte dst && guards_r3 op byte src dst && increments_apart src dst

abbrev pub allows_one : OneOp → Bool → Src → Bool
allows_one op byte src = is_source src && guards_width op byte && guards_numbers op src && guards_registers op src && guards_stack op src && guards_call op src

-- the instruction but for the size of its numbers
abbrev pub is_allowed : Instr → Bool
is_allowed (Two op byte src dst) = allows_two op byte src dst
is_allowed (One op byte src) = allows_one op byte src
is_allowed (Jump on words) = true

-- Addresses, offsets and immediates are words,
abbrev pub is_word : ℕ → Bool
is_word n = nat_lt n 65536

abbrev pub source_fits : Src → Bool
source_fits (FromIndex r x) = is_word x
source_fits (FromAbs a) = is_word a
source_fits (Imm v) = is_word v
source_fits _ = true

abbrev pub destination_fits : Dst → Bool
destination_fits (ToReg r) = true
destination_fits (ToIndex r x) = is_word x
destination_fits (ToAbs a) = is_word a

-- and a jump goes -512 to 511 words.
abbrev pub offset_fits : ℤ → Bool
offset_fits (pos n) = nat_lt n 512
offset_fits (negsuc n) = nat_lt n 512

abbrev pub numbers_fit : Instr → Bool
numbers_fit (Two op byte src dst) = source_fits src && destination_fits dst
numbers_fit (One op byte src) = source_fits src
numbers_fit (Jump on words) = offset_fits words

abbrev pub in_profile : Instr → Bool
in_profile i = is_allowed i && numbers_fit i
