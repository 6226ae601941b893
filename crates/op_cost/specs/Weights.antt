-- What an operation costs where some objects are in SRAM, and whether a charge pays for it.
use Rattle.std.specs.Prelude.{ℕ, ◌≡◌, ◌+◌, ◌<◌, ◌≤◌, ◌==◌, if◌then◌else◌, Bool, true, false, List, [], ◌∷◌, sum_by, pos}
use Rattle.board_table.specs.declared.board.Board.{Board}
use Rattle.msp430_isa.specs.declared.instr.Src.TheVariants.{Reg as FromReg, Abs as FromAbs, Imm, Short}
use Rattle.msp430_isa.specs.declared.instr.Dst.TheVariants.{Reg as ToReg, Abs as ToAbs}
use Rattle.msp430_isa.specs.declared.instr.TwoOp.TheVariants.{Mov as MOV, Cmp as CMP, Bis as BIS}
use Rattle.msp430_isa.specs.declared.instr.Cond.TheVariants.{Jne as JNE}
use Rattle.msp430_isa.specs.declared.instr.Instr.{Instr}
use Rattle.msp430_isa.specs.declared.instr.Instr.TheVariants.{Two, Jump}
use Rattle.msp430_machine.specs.Addresses.{gate, resume, saved_sp, sram_start, fram_start, region}
use Rattle.msp430_machine.specs.Cost.{instruction_cost}
use Rattle.flow_graph.specs.declared.graph.Operand.{Operand}
use Rattle.flow_graph.specs.declared.graph.Operand.TheVariants.{Const, Object}
use Rattle.flow_graph.specs.declared.graph.Op.{Op}
use Rattle.flow_graph.specs.declared.graph.OpKind.{OpKind}
use Rattle.flow_graph.specs.declared.graph.OpKind.TheVariants as kind
use Rattle.op_cost.specs.Templates.{Homes, weight_of, place_of, array_of, operand_place, template}

abbrev pub is_in : List ℕ → ℕ → Bool
is_in [] o = false
is_in (x ∷ xs) o = if x == o then true else is_in xs o

-- Only the memory that an object is in counts: these are in SRAM, and all others in FRAM.
abbrev pub placed : List ℕ → Homes
placed sram o = if is_in sram o then sram_start else fram_start

-- the sum of what the instructions of the template cost, those of a loop inside of it as often as they are counted
abbrev pub weight : Board → List ℕ → Op → ℕ
weight b sram op = weight_of b (template (placed sram) 0 op)

-- what a wake executes of boot and of a head, and what a sleep executes of a head
abbrev pub wake_code : List Instr
wake_code =
    Two CMP false (Short 1) (ToAbs gate) ∷ Jump JNE (pos 4) ∷ Two MOV false (FromAbs saved_sp) (ToReg 1) ∷ Two MOV false (FromAbs resume) (ToReg 0)
    ∷ Two MOV false (Short 0) (ToAbs gate) ∷ []

abbrev pub sleep_code : List Instr
sleep_code =
    Two MOV false (FromReg 1) (ToAbs saved_sp) ∷ Two MOV false (Imm 0x8024) (ToAbs resume) ∷ Two MOV false (Short 1) (ToAbs gate) ∷ Two BIS false (Imm 16) (ToReg 2) ∷ []

abbrev pub overhead : Board → ℕ
overhead b = sum_by (λ i. instruction_cost b i) wake_code + sum_by (λ i. instruction_cost b i) sleep_code

-- what the operation costs with all that it touches in FRAM, with a wake and a sleep
abbrev pub need : Board → Op → ℕ
need b op = weight b [] op + overhead b

-- one charge pays for it
abbrev pub Fits : Board → Op → Type 0
Fits b op = need b op ≤ b.budget

-- ---- Only the memory that an object is in counts

-- two addresses in one memory
pub record SamePlace (a a' : ℕ) : Type 0 where
  pub same : region a ≡ region a'
  pub low : a < 65536
  pub low' : a' < 65536

abbrev pub SameOperand : Homes → Homes → Operand → Type 0
SameOperand h h' (Const v) = Unit {0}
SameOperand h h' (Object o) = SamePlace (h o) (h' o)

-- each object of the operation has one memory in both
pub record SameHomes (h h' : Homes) (op : Op) : Type 0 where
  pub a : SameOperand h h' op.a
  pub b : SameOperand h h' op.b
  pub dest : SamePlace (place_of h op.dest) (place_of h' op.dest)
  pub array : SamePlace (array_of h op.array) (array_of h' op.array)
  pub variable : SamePlace (operand_place h op.a) (operand_place h' op.a)

-- the bound of a below is a constant
abbrev pub HasBound : OpKind → Op → Type 0
HasBound kind.Below op = (c : ℕ) × (op.b ≡ Const c)
HasBound _ op = Unit {0}

abbrev pub WeightsDependOnMemories : Type 0
WeightsDependOnMemories = (b : Board) (h h' : Homes) (t t' : ℕ) (op : Op) → SameHomes h h' op → HasBound op.kind op
    → weight_of b (template h t op) ≡ weight_of b (template h' t' op)
