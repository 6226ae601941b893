-- The instruction that begins at a word, with the two words that follow it.
use Rattle.std.specs.Prelude.{ℕ, ◌-◌, ◌/◌, ◌%◌, ◌==◌, nat_lt, if◌then◌else◌, Option, Some, None, List, [], ◌∷◌, ℤ, pos, negsuc}
use Rattle.std.specs.Option.{option_map, option_and_then}
use Rattle.msp430_isa.specs.declared.instr.TwoOp.{TwoOp}
use Rattle.msp430_isa.specs.declared.instr.TwoOp.TheVariants.{Mov as MOV, Add as ADD, Addc as ADDC, Subc as SUBC, Sub as SUB, Cmp as CMP, Bit as BIT, Bic as BIC, Bis as BIS, Xor as XOR, And as AND}
use Rattle.msp430_isa.specs.declared.instr.OneOp.{OneOp}
use Rattle.msp430_isa.specs.declared.instr.OneOp.TheVariants.{Rrc as RRC, Swpb as SWPB, Rra as RRA, Sxt as SXT, Push as PUSH, Call as CALL}
use Rattle.msp430_isa.specs.declared.instr.Cond.{Cond}
use Rattle.msp430_isa.specs.declared.instr.Cond.TheVariants.{Jne as JNE, Jeq as JEQ, Jnc as JNC, Jc as JC, Jn as JN, Jge as JGE, Jl as JL, Jmp as JMP}
use Rattle.msp430_isa.specs.declared.instr.Src.{Src}
use Rattle.msp430_isa.specs.declared.instr.Src.TheVariants.{Reg as FromReg, Index as FromIndex, Abs as FromAbs, At, AtPlus, Imm, Short}
use Rattle.msp430_isa.specs.declared.instr.Dst.{Dst}
use Rattle.msp430_isa.specs.declared.instr.Dst.TheVariants.{Reg as ToReg, Index as ToIndex, Abs as ToAbs}
use Rattle.msp430_isa.specs.declared.instr.Instr.{Instr}
use Rattle.msp430_isa.specs.declared.instr.Instr.TheVariants.{Two, One, Jump}
use Rattle.msp430_isa.specs.Fields.{source_words}
use Rattle.msp430_isa.specs.Profile.{is_allowed}

-- the operation of an opcode
abbrev pub two_op_at : ℕ → Option TwoOp
two_op_at n =
    if n == 4 then Some MOV else if n == 5 then Some ADD else if n == 6 then Some ADDC else if n == 7 then Some SUBC
    else if n == 8 then Some SUB else if n == 9 then Some CMP else if n == 11 then Some BIT else if n == 12 then Some BIC
    else if n == 13 then Some BIS else if n == 14 then Some XOR else if n == 15 then Some AND else None

abbrev pub one_op_at : ℕ → Option OneOp
one_op_at n =
    if n == 0 then Some RRC else if n == 1 then Some SWPB else if n == 2 then Some RRA else if n == 3 then Some SXT
    else if n == 4 then Some PUSH else if n == 5 then Some CALL else None

abbrev pub cond_at : ℕ → Cond
cond_at n =
    if n == 0 then JNE else if n == 1 then JEQ else if n == 2 then JNC else if n == 3 then JC
    else if n == 4 then JN else if n == 5 then JGE else if n == 6 then JL else JMP

-- ten bits as a signed offset
abbrev pub offset_at : ℕ → ℤ
offset_at n = if nat_lt n 512 then pos n else negsuc (1023 - n)

-- the source of a mode and a register, where x is the next word
abbrev pub source_at : ℕ → ℕ → ℕ → Src
source_at mode r x =
    if mode == 0 then (if r == 3 then Short 0 else FromReg r)
    else if mode == 1 then (if r == 2 then FromAbs x else if r == 3 then Short 1 else FromIndex r x)
    else if mode == 2 then (if r == 2 then Short 4 else if r == 3 then Short 2 else At r)
    else (if r == 0 then Imm x else if r == 2 then Short 8 else if r == 3 then Short 65535 else AtPlus r)

abbrev pub destination_at : ℕ → ℕ → ℕ → Dst
destination_at mode r x = if mode == 0 then ToReg r else if r == 2 then ToAbs x else ToIndex r x

-- the first of two words where an operand took none, else the second
abbrev pub behind : List ℕ → ℕ → ℕ → ℕ
behind [] x y = x
behind (taken ∷ more) x y = y

-- the instruction of each format, by the fields of its first word w
abbrev pub jump_at : ℕ → Instr
jump_at w = Jump (cond_at (w / 1024 % 8)) (offset_at (w % 1024))

abbrev pub one_at : ℕ → ℕ → OneOp → Instr
one_at w x op = One op (w / 64 % 2 == 1) (source_at (w / 16 % 4) (w % 16) x)

abbrev pub two_at : ℕ → ℕ → ℕ → TwoOp → Instr
two_at w x y op =
    let src = source_at (w / 16 % 4) (w / 256 % 16) x in
    Two op (w / 64 % 2 == 1) src (destination_at (w / 128 % 2) (w % 16) (behind (source_words src) x y))

-- the instruction that the table gives for the words, of the profile or not
abbrev pub table_at : ℕ → ℕ → ℕ → Option Instr
table_at w x y =
    if w / 8192 == 1 then Some (jump_at w)
    else if w / 1024 == 4 then option_map (one_at w x) (one_op_at (w / 128 % 8))
    else option_map (two_at w x y) (two_op_at (w / 4096))

-- At a numeral w this computes whatever x and y are: what they hold decides neither the form nor what is allowed.
abbrev pub instruction_at : ℕ → ℕ → ℕ → Option Instr
instruction_at w x y = option_and_then (λ i. if is_allowed i then Some i else None) (table_at w x y)
