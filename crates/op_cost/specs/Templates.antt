-- The code of operations, and what it costs. Each instruction has the number of times that its cost is counted: the loops inside a template
-- count each of theirs 16 or 15 times.
use Rattle.std.specs.Prelude.{ℕ, ◌+◌, ◌*◌, if◌then◌else◌, false, Option, None, Some, List, [], ◌∷◌, ◌++◌, pos, negsuc}
use Rattle.board_table.specs.declared.board.Board.{Board}
use Rattle.msp430_isa.specs.declared.instr.Src.{Src}
use Rattle.msp430_isa.specs.declared.instr.Src.TheVariants.{Reg as FromReg, Index as FromIndex, Abs as FromAbs, AtPlus, Imm, Short}
use Rattle.msp430_isa.specs.declared.instr.Dst.TheVariants.{Reg as ToReg, Index as ToIndex, Abs as ToAbs}
use Rattle.msp430_isa.specs.declared.instr.TwoOp.{TwoOp}
use Rattle.msp430_isa.specs.declared.instr.TwoOp.TheVariants.{Mov as MOV, Add as ADD, Addc as ADDC, Sub as SUB, Cmp as CMP, Bit as BIT, Bis as BIS, Xor as XOR, And as AND}
use Rattle.msp430_isa.specs.declared.instr.OneOp.TheVariants.{Rra as RRA, Sxt as SXT, Call as CALL}
use Rattle.msp430_isa.specs.declared.instr.Cond.{Cond}
use Rattle.msp430_isa.specs.declared.instr.Cond.TheVariants.{Jne as JNE, Jeq as JEQ, Jnc as JNC, Jc as JC, Jge as JGE, Jl as JL}
use Rattle.msp430_isa.specs.declared.instr.Instr.{Instr}
use Rattle.msp430_isa.specs.declared.instr.Instr.TheVariants.{Two, One, Jump}
use Rattle.msp430_isa.specs.Profile.{is_constant}
use Rattle.msp430_machine.specs.Cost.{instruction_cost}
use Rattle.msp430_machine.specs.Addresses.{in_port, out_port, end_port, trap_port}
use Rattle.flow_graph.specs.declared.graph.Operand.{Operand}
use Rattle.flow_graph.specs.declared.graph.Operand.TheVariants.{Const, Object}
use Rattle.flow_graph.specs.declared.graph.ArrayUse.{ArrayUse}
use Rattle.flow_graph.specs.declared.graph.Op.{Op}
use Rattle.flow_graph.specs.declared.graph.OpKind.{OpKind}
use Rattle.flow_graph.specs.declared.graph.OpKind.TheVariants as kind

-- ---- What code costs

pub record Counted : Type 0 where
  pub instr : Instr
  pub times : ℕ

abbrev pub turns : ℕ → List Instr → List Counted
turns n [] = []
turns n (i ∷ is) = record { instr = i; times = n } ∷ turns n is

abbrev pub once : List Instr → List Counted
once is = turns 1 is

abbrev pub code_of : List Counted → List Instr
code_of [] = []
code_of (c ∷ cs) = c.instr ∷ code_of cs

-- An instruction that reads or writes by a register goes to one array, which lies in one memory: its cost is that at the array's first word.
abbrev pub weight_of : Board → List Counted → ℕ
weight_of b [] = 0
weight_of b (c ∷ cs) = c.times * instruction_cost b c.instr + weight_of b cs

-- ---- Instructions

-- a word by a register
abbrev pub by : TwoOp → Src → ℕ → Instr
by op src r = Two op false src (ToReg r)

-- a constant, by a generator where one has it
abbrev pub constant : ℕ → Src
constant v = if is_constant v then Short v else Imm v

abbrev pub trap : ℕ → Instr
trap n = Two MOV false (constant n) (ToAbs trap_port)

abbrev pub go : ℕ → Instr
go target = Two MOV false (Imm target) (ToReg 0)

-- the negative of a register
abbrev pub negated : ℕ → List Instr
negated r = by XOR (Short 65535) r ∷ by ADD (Short 1) r ∷ []

-- ---- What a template does between its operands in R15 and R14 and its result in R15 or R13

abbrev pub two_core : TwoOp → List Counted
two_core op = once (by op (FromReg 14) 15 ∷ [])

-- 1 where the jump is taken behind the comparison, else 0
abbrev pub test_core : Instr → Cond → List Counted
test_core compares on = once (by MOV (Short 1) 13 ∷ compares ∷ Jump on (pos 1) ∷ by MOV (Short 0) 13 ∷ [])

abbrev pub less_core : Cond → List Counted
less_core on = test_core (by CMP (FromReg 14) 15) on

abbrev pub turned_core : Cond → List Counted
turned_core on = test_core (by CMP (FromReg 15) 14) on

-- R13 sums R15 for each bit of R14, which is halved while R15 is doubled
abbrev pub mul_turn : List Instr
mul_turn =
    by BIT (Short 1) 14 ∷ Jump JEQ (pos 1) ∷ by ADD (FromReg 15) 13 ∷ by ADD (FromReg 15) 15 ∷ One RRA false (FromReg 14) ∷ by SUB (Short 1) 12
    ∷ Jump JNE (negsuc 6) ∷ []

abbrev pub sixteen : List Instr
sixteen = by MOV (Short 0) 13 ∷ by MOV (Imm 16) 12 ∷ []

abbrev pub mul_core : List Counted
mul_core = once sixteen ++ turns 16 mul_turn

-- R13 above R15 is doubled; where R14 fits in R13 it is taken out, and counted in R15
abbrev pub div_turn : List Instr
div_turn =
    by ADD (FromReg 15) 15 ∷ by ADDC (FromReg 13) 13 ∷ Jump JC (pos 2) ∷ by CMP (FromReg 14) 13 ∷ Jump JNC (pos 2) ∷ by SUB (FromReg 14) 13
    ∷ by ADD (Short 1) 15 ∷ by SUB (Short 1) 12 ∷ Jump JNE (negsuc 8) ∷ []

abbrev pub unless_zero_core : List Counted
unless_zero_core = once (by CMP (Short 0) 14 ∷ Jump JNE (pos 2) ∷ trap 1 ∷ [])

abbrev pub div_core : List Counted
div_core = once sixteen ++ turns 16 div_turn

abbrev pub unless_negative : ℕ → ℕ → List Instr
unless_negative sign r = by CMP (Short 0) sign ∷ Jump JGE (pos 2) ∷ negated r

abbrev pub unsigned_core : List Counted
unsigned_core = unless_zero_core ++ div_core

-- the sign of the result goes to R11
abbrev pub sign_of_quotient : List Instr
sign_of_quotient = by MOV (FromReg 15) 11 ∷ by XOR (FromReg 14) 11 ∷ []

abbrev pub sign_of_remainder : List Instr
sign_of_remainder = by MOV (FromReg 15) 11 ∷ []

abbrev pub signed_core : List Instr → ℕ → List Counted
signed_core sign result =
    unless_zero_core ++ once (sign ++ unless_negative 15 15 ++ unless_negative 14 14) ++ div_core ++ once (unless_negative 11 result)

abbrev pub shift_core : List Instr → ℕ → List Counted
shift_core shifts words =
    once (by CMP (Imm 16) 14 ∷ Jump JNC (pos 3) ∷ trap 3 ∷ by CMP (Short 0) 14 ∷ Jump JEQ (pos (words + 2)) ∷ [])
    ++ turns 15 (shifts ++ by SUB (Short 1) 14 ∷ Jump JNE (negsuc (words + 1)) ∷ [])

abbrev pub left_core : List Counted
left_core = shift_core (by ADD (FromReg 15) 15 ∷ []) 1

abbrev pub right_core : List Counted
right_core = shift_core (One RRA false (FromReg 15) ∷ []) 1

abbrev pub logical_core : List Counted
logical_core = shift_core (One RRA false (FromReg 15) ∷ by AND (Imm 0x7FFF) 15 ∷ []) 3

-- ---- Operands, where each object has its address

-- the address of each object
abbrev pub Homes : Type 0
Homes = ℕ → ℕ

abbrev pub address : Homes → ℕ → ℕ
address homes o = homes o

abbrev pub source : Homes → Operand → Src
source homes (Const v) = constant v
source homes (Object o) = FromAbs (address homes o)

abbrev pub loads : Homes → ℕ → Operand → Instr
loads homes r a = by MOV (source homes a) r

abbrev pub stores : ℕ → ℕ → Instr
stores r a = Two MOV false (FromReg r) (ToAbs a)

abbrev pub operand_place : Homes → Operand → ℕ
operand_place homes (Const v) = 0
operand_place homes (Object o) = address homes o

-- the address of the object written, where there is one
abbrev pub place_of : Homes → Option ℕ → ℕ
place_of homes None = 0
place_of homes (Some o) = address homes o

abbrev pub array_of : Homes → Option ArrayUse → ℕ
array_of homes None = 0
array_of homes (Some use') = address homes use'.object

abbrev pub length_in : Option ArrayUse → ℕ
length_in None = 0
length_in (Some use') = use'.length

-- ---- The template of an operation. A jump or a call goes to the target.

-- what a kind does between its operands in R15 and R14 and its result, and the register of the result
abbrev pub core : OpKind → List Counted
core kind.Copy = []
core kind.Neg = once (negated 15)
core kind.Inv = once (by XOR (Short 65535) 15 ∷ [])
core kind.ToU8 = once (by AND (Imm 255) 15 ∷ [])
core kind.ToS8 = once (One SXT false (FromReg 15) ∷ [])
core kind.Add = two_core ADD
core kind.Sub = two_core SUB
core kind.BitAnd = two_core AND
core kind.BitOr = two_core BIS
core kind.BitXor = two_core XOR
core kind.Mul = mul_core
core kind.DivU = unsigned_core
core kind.RemU = unsigned_core
core kind.DivS = signed_core sign_of_quotient 15
core kind.RemS = signed_core sign_of_remainder 13
core kind.Shl = left_core
core kind.ShrS = right_core
core kind.ShrU = logical_core
core kind.Eq = less_core JEQ
core kind.Ne = less_core JNE
core kind.LtS = less_core JL
core kind.LtU = less_core JNC
core kind.LeS = turned_core JGE
core kind.LeU = turned_core JC
core _ = []

abbrev pub result : OpKind → ℕ
result kind.Mul = 13
result kind.RemU = 13
result kind.RemS = 13
result kind.Eq = 13
result kind.Ne = 13
result kind.LtS = 13
result kind.LtU = 13
result kind.LeS = 13
result kind.LeU = 13
result _ = 15

-- an index in R14 is tested, and doubled
abbrev pub index_code : ℕ → List Instr
index_code n = by CMP (constant n) 14 ∷ Jump JNC (pos 2) ∷ trap 2 ∷ by ADD (FromReg 14) 14 ∷ []

-- the target, unless the jump is taken
abbrev pub unless : Cond → ℕ → List Instr
unless on target = Jump on (pos 2) ∷ go target ∷ []

abbrev pub unary : Homes → Op → List Counted
unary homes op = once (loads homes 15 op.a ∷ []) ++ core op.kind ++ once (stores (result op.kind) (place_of homes op.dest) ∷ [])

abbrev pub binary : Homes → Op → List Counted
binary homes op = once (loads homes 15 op.a ∷ loads homes 14 op.b ∷ []) ++ core op.kind ++ once (stores (result op.kind) (place_of homes op.dest) ∷ [])

abbrev pub template_by : OpKind → Homes → ℕ → Op → List Counted
template_by kind.Copy homes target op = unary homes op
template_by kind.Neg homes target op = unary homes op
template_by kind.Inv homes target op = unary homes op
template_by kind.ToU8 homes target op = unary homes op
template_by kind.ToS8 homes target op = unary homes op
template_by kind.Load homes target op =
    once (loads homes 14 op.a ∷ (index_code (length_in op.array) ++ by MOV (FromIndex 14 (array_of homes op.array)) 15 ∷ stores 15 (place_of homes op.dest) ∷ []))
template_by kind.Store homes target op =
    once (loads homes 15 op.a ∷ loads homes 14 op.b ∷ (index_code (length_in op.array) ++ Two MOV false (FromReg 15) (ToIndex 14 (array_of homes op.array)) ∷ []))
template_by kind.Input homes target op = once (by MOV (FromAbs in_port) 15 ∷ stores 15 (place_of homes op.dest) ∷ [])
template_by kind.Output homes target op = once (loads homes 15 op.a ∷ stores 15 out_port ∷ [])
template_by kind.Finish homes target op = once (loads homes 15 op.a ∷ stores 15 end_port ∷ [])
template_by kind.Test homes target op = once (loads homes 15 op.a ∷ by CMP (Short 0) 15 ∷ unless JNE target)
template_by kind.Below homes target op = once (Two CMP false (source homes op.b) (ToAbs (operand_place homes op.a)) ∷ unless JNC target)
template_by kind.Step homes target op = once (Two ADD false (Short 1) (ToAbs (place_of homes op.dest)) ∷ [])
template_by kind.Go homes target op = once (go target ∷ [])
template_by kind.Call homes target op = once (One CALL false (Imm target) ∷ [])
template_by kind.Ret homes target op = once (by MOV (AtPlus 1) 0 ∷ [])
template_by k homes target op = binary homes op

abbrev pub template : Homes → ℕ → Op → List Counted
template homes target op = template_by op.kind homes target op
