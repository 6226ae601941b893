-- The weight of an operation depends on the memory alone that each of its objects is in.
use Rattle.std.proofs.Common.{◌≡◌, ℕ, ◌+◌, ◌*◌, ◌%◌, ◌<◌, true, false, refl, sym, ap, ◌∙◌, subst, arith}
use Rattle.std.specs.Prelude.{Bool, if◌then◌else◌}
use Rattle.board_table.specs.declared.board.Board.{Board}
use Rattle.msp430_isa.specs.declared.instr.Src.TheVariants.{Reg as FromReg, Index as FromIndex, Imm, Short}
use Rattle.msp430_isa.specs.declared.instr.Dst.TheVariants.{Index as ToIndex, Abs as ToAbs}
use Rattle.msp430_isa.specs.declared.instr.TwoOp.TheVariants.{Mov as MOV, Add as ADD, Cmp as CMP}
use Rattle.msp430_isa.specs.declared.instr.Instr.{Instr}
use Rattle.msp430_isa.specs.declared.instr.Instr.TheVariants.{Two}
use Rattle.msp430_isa.specs.Profile.{is_constant}
use Rattle.msp430_machine.specs.Addresses.{region}
use Rattle.msp430_machine.specs.Cost.{read_cost_in, write_cost_in, instruction_cost}
use Rattle.flow_graph.specs.declared.graph.Operand.{Operand}
use Rattle.flow_graph.specs.declared.graph.Operand.TheVariants.{Const, Object}
use Rattle.flow_graph.specs.declared.graph.Op.{Op}
use Rattle.flow_graph.specs.declared.graph.OpKind.{OpKind}
use Rattle.flow_graph.specs.declared.graph.OpKind.TheVariants as kind
use Rattle.op_cost.specs.Templates.{Homes, weight_of, by, constant, source, loads, stores, place_of, array_of, operand_place, core, result, unary, binary, template_by}
use Rattle.op_cost.specs.Weights.{SamePlace, SameOperand, SameHomes, HasBound, WeightsDependOnMemories}
use Rattle.op_cost.proofs.Sums.{weight_then}

load_same : (b : Board) (h h' : Homes) (r : ℕ) (a : Operand) → SameOperand h h' a → instruction_cost b (loads h r a) ≡ instruction_cost b (loads h' r a)
load_same b h h' r (Const v) s = refl
load_same b h h' r (Object o) s = ap (λ g. b.core.move_ + b.access.fetch * 2 + read_cost_in b g + (0 + 0)) s.same

store_same : (b : Board) (r a a' : ℕ) → SamePlace a a' → instruction_cost b (stores r a) ≡ instruction_cost b (stores r a')
store_same b r a a' s = ap (λ g. b.core.move_ + b.access.fetch * 2 + 0 + (0 + write_cost_in b g)) s.same

in_place : (a : ℕ) → a < 65536 → (0 + a) % 65536 ≡ a
in_place a h = omega (arith, h)

fetch_same : (b : Board) (a a' : ℕ) → SamePlace a a' → instruction_cost b (by MOV (FromIndex 14 a) 15) ≡ instruction_cost b (by MOV (FromIndex 14 a') 15)
fetch_same b a a' s = ap (λ g. b.core.move_ + b.access.fetch * 2 + read_cost_in b g + (0 + 0)) (ap region (in_place a s.low) ∙ s.same ∙ sym (ap region (in_place a' s.low')))

send_same : (b : Board) (a a' : ℕ) → SamePlace a a' → instruction_cost b (Two MOV false (FromReg 15) (ToIndex 14 a)) ≡ instruction_cost b (Two MOV false (FromReg 15) (ToIndex 14 a'))
send_same b a a' s = ap (λ g. b.core.move_ + b.access.fetch * 2 + 0 + (0 + write_cost_in b g)) (ap region (in_place a s.low) ∙ s.same ∙ sym (ap region (in_place a' s.low')))

step_same : (b : Board) (a a' : ℕ) → SamePlace a a' → instruction_cost b (Two ADD false (Short 1) (ToAbs a)) ≡ instruction_cost b (Two ADD false (Short 1) (ToAbs a'))
step_same b a a' s = ap (λ g. b.core.alu + b.access.fetch * 2 + 0 + (read_cost_in b g + write_cost_in b g)) s.same

abbrev by_choice : Bool → ℕ → ℕ → Instr
by_choice x c d = Two CMP false (if x then Short c else Imm c) (ToAbs d)

bound_same : (b : Board) (c a a' : ℕ) → SamePlace a a' → instruction_cost b (Two CMP false (constant c) (ToAbs a)) ≡ instruction_cost b (Two CMP false (constant c) (ToAbs a'))
bound_same b c a a' s = elim (is_constant c) as (λ x. instruction_cost b (by_choice x c a) ≡ instruction_cost b (by_choice x c a')) [
  | true ↦ ap (λ g. b.core.alu + b.access.fetch * 2 + 0 + (read_cost_in b g + 0)) s.same
  | false ↦ ap (λ g. b.core.alu + b.access.fetch * 3 + 0 + (read_cost_in b g + 0)) s.same
]

module _ (b : Board) (h h' : Homes) (t t' : ℕ) (op : Op) (s : SameHomes h h' op) where
  unary_same : weight_of b (unary h op) ≡ weight_of b (unary h' op)
  unary_same =
      let store = store_same b (result op.kind) (place_of h op.dest) (place_of h' op.dest) s.dest in
      omega (arith, load_same b h h' 15 op.a s.a, store, weight_then b (core op.kind) (stores (result op.kind) (place_of h op.dest)), weight_then b (core op.kind) (stores (result op.kind) (place_of h' op.dest)))

  binary_same : weight_of b (binary h op) ≡ weight_of b (binary h' op)
  binary_same =
      let store = store_same b (result op.kind) (place_of h op.dest) (place_of h' op.dest) s.dest in
      omega (arith, load_same b h h' 15 op.a s.a, load_same b h h' 14 op.b s.b, store, weight_then b (core op.kind) (stores (result op.kind) (place_of h op.dest)), weight_then b (core op.kind) (stores (result op.kind) (place_of h' op.dest)))

  by_kind_same : (k : OpKind) → HasBound k op → weight_of b (template_by k h t op) ≡ weight_of b (template_by k h' t' op)
  by_kind_same kind.Copy bound = unary_same
  by_kind_same kind.Neg bound = unary_same
  by_kind_same kind.Inv bound = unary_same
  by_kind_same kind.ToU8 bound = unary_same
  by_kind_same kind.ToS8 bound = unary_same
  by_kind_same kind.Load bound = omega (arith, load_same b h h' 14 op.a s.a, fetch_same b (array_of h op.array) (array_of h' op.array) s.array, store_same b 15 (place_of h op.dest) (place_of h' op.dest) s.dest)
  by_kind_same kind.Store bound = omega (arith, load_same b h h' 15 op.a s.a, load_same b h h' 14 op.b s.b, send_same b (array_of h op.array) (array_of h' op.array) s.array)
  by_kind_same kind.Input bound = omega (arith, store_same b 15 (place_of h op.dest) (place_of h' op.dest) s.dest)
  by_kind_same kind.Output bound = omega (arith, load_same b h h' 15 op.a s.a)
  by_kind_same kind.Finish bound = omega (arith, load_same b h h' 15 op.a s.a)
  by_kind_same kind.Test bound = omega (arith, load_same b h h' 15 op.a s.a)
  by_kind_same kind.Below bound =
      let e : instruction_cost b (Two CMP false (source h op.b) (ToAbs (operand_place h op.a))) ≡ instruction_cost b (Two CMP false (source h' op.b) (ToAbs (operand_place h' op.a))) =
      subst (λ x. instruction_cost b (Two CMP false (source h x) (ToAbs (operand_place h op.a))) ≡ instruction_cost b (Two CMP false (source h' x) (ToAbs (operand_place h' op.a)))) (sym bound.1) (bound_same b bound.0 (operand_place h op.a) (operand_place h' op.a) s.variable) in
      omega (arith, e)
  by_kind_same kind.Step bound = omega (arith, step_same b (place_of h op.dest) (place_of h' op.dest) s.dest)
  by_kind_same kind.Go bound = refl
  by_kind_same kind.Call bound = refl
  by_kind_same kind.Ret bound = refl
  by_kind_same _ bound = binary_same

pub depend_on_memories : WeightsDependOnMemories
depend_on_memories b h h' t t' op same bound = by_kind_same b h h' t t' op same op.kind bound
