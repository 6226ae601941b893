-- The numbers that stand in the fields of an instruction's first word (SLAU367, section 4.5.1).
use Rattle.std.specs.Prelude.{ℕ, ◌-◌, ◌==◌, if◌then◌else◌, Bool, true, false, List, [], ◌∷◌, ℤ, pos, negsuc}
use Rattle.msp430_isa.specs.declared.instr.TwoOp.{TwoOp}
use Rattle.msp430_isa.specs.declared.instr.TwoOp.TheVariants.{Mov as MOV, Add as ADD, Addc as ADDC, Subc as SUBC, Sub as SUB, Cmp as CMP, Bit as BIT, Bic as BIC, Bis as BIS, Xor as XOR, And as AND}
use Rattle.msp430_isa.specs.declared.instr.OneOp.{OneOp}
use Rattle.msp430_isa.specs.declared.instr.OneOp.TheVariants.{Rrc as RRC, Swpb as SWPB, Rra as RRA, Sxt as SXT, Push as PUSH, Call as CALL}
use Rattle.msp430_isa.specs.declared.instr.Cond.{Cond}
use Rattle.msp430_isa.specs.declared.instr.Cond.TheVariants.{Jne as JNE, Jeq as JEQ, Jnc as JNC, Jc as JC, Jn as JN, Jge as JGE, Jl as JL, Jmp as JMP}
use Rattle.msp430_isa.specs.declared.instr.Src.{Src}
use Rattle.msp430_isa.specs.declared.instr.Src.TheVariants.{Reg as FromReg, Index as FromIndex, Abs as FromAbs, At, AtPlus, Imm, Short}
use Rattle.msp430_isa.specs.declared.instr.Dst.{Dst}
use Rattle.msp430_isa.specs.declared.instr.Dst.TheVariants.{Reg as ToReg, Index as ToIndex, Abs as ToAbs}

-- opcode of two operands, bits 15 to 12
abbrev pub two_opcode : TwoOp → ℕ
two_opcode MOV = 4
two_opcode ADD = 5
two_opcode ADDC = 6
two_opcode SUBC = 7
two_opcode SUB = 8
two_opcode CMP = 9
two_opcode BIT = 11
two_opcode BIC = 12
two_opcode BIS = 13
two_opcode XOR = 14
two_opcode AND = 15

-- opcode of one operand, bits 9 to 7 behind 000100
abbrev pub one_opcode : OneOp → ℕ
one_opcode RRC = 0
one_opcode SWPB = 1
one_opcode RRA = 2
one_opcode SXT = 3
one_opcode PUSH = 4
one_opcode CALL = 5

-- condition of a jump, bits 12 to 10 behind 001
abbrev pub condition : Cond → ℕ
condition JNE = 0
condition JEQ = 1
condition JNC = 2
condition JC = 3
condition JN = 4
condition JGE = 5
condition JL = 6
condition JMP = 7

-- offset of a jump, bits 9 to 0: two's complement, so that -1 is 1023 and -512 is 512
abbrev pub offset_bits : ℤ → ℕ
offset_bits (pos n) = n
offset_bits (negsuc n) = 1023 - n

-- B/W, bit 6
abbrev pub width_bit : Bool → ℕ
width_bit true = 1
width_bit false = 0

-- A constant generator gives 4 and 8 by R2 and the four others by R3.
abbrev pub generator : ℕ → ℕ
generator v = if v == 4 then 2 else if v == 8 then 2 else 3

abbrev pub generator_mode : ℕ → ℕ
generator_mode v = if v == 0 then 0 else if v == 1 then 1 else if v == 2 then 2 else if v == 4 then 2 else 3

-- As: register 0, indexed 1, indirect 2, indirect with increment 3. `&a` is indexed by R2, an immediate is `@PC+`.
abbrev pub source_mode : Src → ℕ
source_mode (FromReg r) = 0
source_mode (FromIndex r x) = 1
source_mode (FromAbs a) = 1
source_mode (At r) = 2
source_mode (AtPlus r) = 3
source_mode (Imm v) = 3
source_mode (Short v) = generator_mode v

abbrev pub source_register : Src → ℕ
source_register (FromReg r) = r
source_register (FromIndex r x) = r
source_register (FromAbs a) = 2
source_register (At r) = r
source_register (AtPlus r) = r
source_register (Imm v) = 0
source_register (Short v) = generator v

-- the source's word behind the first one
abbrev pub source_words : Src → List ℕ
source_words (FromReg r) = []
source_words (FromIndex r x) = x ∷ []
source_words (FromAbs a) = a ∷ []
source_words (At r) = []
source_words (AtPlus r) = []
source_words (Imm v) = v ∷ []
source_words (Short v) = []

-- Ad: register 0, indexed 1
abbrev pub destination_mode : Dst → ℕ
destination_mode (ToReg r) = 0
destination_mode (ToIndex r x) = 1
destination_mode (ToAbs a) = 1

abbrev pub destination_register : Dst → ℕ
destination_register (ToReg r) = r
destination_register (ToIndex r x) = r
destination_register (ToAbs a) = 2

abbrev pub destination_words : Dst → List ℕ
destination_words (ToReg r) = []
destination_words (ToIndex r x) = x ∷ []
destination_words (ToAbs a) = a ∷ []
