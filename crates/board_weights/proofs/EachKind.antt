-- The code of an operation with its homes, and its base with what its accesses cost, kind by kind.
use Rattle.std.proofs.Common.{◌≡◌, ℕ, ◌+◌, ◌%◌, true, false, List, [], ◌∷◌, ◌++◌, refl, ap, ◌∙◌, arith}
use Rattle.std.specs.Prelude.{Bool, Option, Some, None, pos, if◌then◌else◌, ◌<◌, length, slice_get}
use Rattle.std.specs.List.{AllByRecursion}
use Rattle.std.proofs.lemmas.Option.{slice_get_within}
use Rattle.board_table.specs.declared.board.Board.{Board}
use Rattle.msp430_isa.specs.declared.instr.Src.TheVariants.{Reg as FromReg, Index as FromIndex, Imm, Short}
use Rattle.msp430_isa.specs.declared.instr.Dst.TheVariants.{Reg as ToReg, Index as ToIndex, Abs as ToAbs}
use Rattle.msp430_isa.specs.declared.instr.TwoOp.TheVariants.{Mov as MOV, Add as ADD, Cmp as CMP}
use Rattle.msp430_isa.specs.declared.instr.Cond.TheVariants.{Jnc as JNC}
use Rattle.msp430_isa.specs.declared.instr.Instr.{Instr}
use Rattle.msp430_isa.specs.declared.instr.Instr.TheVariants.{Two, Jump}
use Rattle.msp430_isa.specs.Profile.{is_constant}
use Rattle.msp430_machine.specs.Addresses.{fram_start, region, sram_start}
use Rattle.msp430_machine.specs.Cost.{instruction_cost, read_cost_in, write_cost_in}
use Rattle.flow_graph.specs.declared.graph.Operand.{Operand}
use Rattle.flow_graph.specs.declared.graph.Operand.TheVariants.{Const, Object}
use Rattle.flow_graph.specs.declared.graph.ArrayUse.{ArrayUse}
use Rattle.flow_graph.specs.declared.graph.Op.{Op}
use Rattle.flow_graph.specs.declared.graph.Object as declared
use Rattle.flow_graph.specs.declared.graph.Graph.{Graph}
use Rattle.flow_graph.specs.Rules.{ArrayFits, DestFits, HasWords, OpFits, OperandFits, parts_of}
use Rattle.flow_graph.specs.declared.graph.OpKind.{OpKind}
use Rattle.flow_graph.specs.declared.graph.OpKind.TheVariants as kind
use Rattle.op_cost.specs.Templates.{Homes, weight_of, by, constant, source, loads, stores, place_of, array_of, operand_place, length_in, index_code, trap, core, result, unary, binary, template_by, once}
use Rattle.op_cost.specs.Weights.{is_in, placed}
use Rattle.op_cost.proofs.Sums.{weight_then}
use Rattle.board_weights.specs.OnBoard.{WeightsAreCosts, all_in_sram, base_of, free, in_array, in_dest, in_operand, prices, reads_by, writes_by}
use Rattle.board_weights.proofs.Uses.{all_cost, cost-append, uses_told}

-- a constant takes one word or two, on both boards alike
constant_free : (b : Board) (v r : ℕ) → instruction_cost b (by MOV (constant v) r) ≡ instruction_cost (free b) (by MOV (constant v) r)
constant_free b v r = elim (is_constant v) as (λ x. instruction_cost b (by MOV (if x then Short v else Imm v) r) ≡ instruction_cost (free b) (by MOV (if x then Short v else Imm v) r)) [
  | true ↦ refl
  | false ↦ refl
]

abbrev index_by : Bool → ℕ → List Instr
index_by x n = Two CMP false (if x then Short n else Imm n) (ToReg 14) ∷ Jump JNC (pos 2) ∷ trap 2 ∷ by ADD (FromReg 14) 14 ∷ []

index_free : (b : Board) (n : ℕ) → weight_of b (once (index_code n)) ≡ weight_of (free b) (once (index_code n))
index_free b n = by_word (is_constant n)
  where
    by_word : (x : Bool) → weight_of b (once (index_by x n)) ≡ weight_of (free b) (once (index_by x n))
    by_word true = refl
    by_word false = refl

core_free : (b : Board) (k : OpKind) → weight_of b (core k) ≡ weight_of (free b) (core k)
core_free b kind.Copy = refl
core_free b _ = refl

module _ (b : Board) (sram : List ℕ) where
  abbrev rp : ℕ → ℕ
  rp o = (prices b sram).read o

  abbrev wp : ℕ → ℕ
  wp o = (prices b sram).write o

  abbrev h : Homes
  h o = placed sram o

  read_is : (o : ℕ) → read_cost_in b (region (placed sram o)) ≡ rp o
  read_is o = elim (is_in sram o) as (λ x. read_cost_in b (region (if x then sram_start else fram_start)) ≡ (if x then b.access.sram_read else b.access.fram_read)) [ true ↦ refl | false ↦ refl ]

  write_is : (o : ℕ) → write_cost_in b (region (placed sram o)) ≡ wp o
  write_is o = elim (is_in sram o) as (λ x. write_cost_in b (region (if x then sram_start else fram_start)) ≡ (if x then b.access.sram_write else b.access.fram_write)) [ true ↦ refl | false ↦ refl ]

  low : (o : ℕ) → (0 + placed sram o) % 65536 ≡ placed sram o
  low o = elim (is_in sram o) as (λ x. (0 + (if x then sram_start else fram_start)) % 65536 ≡ (if x then sram_start else fram_start)) [ true ↦ refl | false ↦ refl ]

  load_is : (r : ℕ) (a : Operand) → instruction_cost b (loads (placed sram) r a) ≡ instruction_cost (free b) (loads all_in_sram r a) + all_cost rp (in_operand a)
  load_is r (Const v) = let e = constant_free b v r in omega (arith, e)
  load_is r (Object o) = let e = read_is o in omega (arith, e)

  store_is : (r : ℕ) (d : Option ℕ) → instruction_cost b (stores r (place_of (placed sram) d)) ≡ instruction_cost (free b) (stores r (place_of all_in_sram d)) + all_cost wp (in_dest d)
  store_is r None = omega arith
  store_is r (Some o) = let e = write_is o in omega (arith, e)

  fetch_is : (u : Option ArrayUse) → instruction_cost b (by MOV (FromIndex 14 (array_of (placed sram) u)) 15) ≡ instruction_cost (free b) (by MOV (FromIndex 14 (array_of all_in_sram u)) 15) + all_cost rp (in_array u)
  fetch_is None = omega arith
  fetch_is (Some u) = let e = ap (λ a. read_cost_in b (region a)) (low u.object) ∙ read_is u.object in omega (arith, e)

  send_is : (u : Option ArrayUse) → instruction_cost b (Two MOV false (FromReg 15) (ToIndex 14 (array_of (placed sram) u))) ≡ instruction_cost (free b) (Two MOV false (FromReg 15) (ToIndex 14 (array_of all_in_sram u))) + all_cost wp (in_array u)
  send_is None = omega arith
  send_is (Some u) = let e = ap (λ a. write_cost_in b (region a)) (low u.object) ∙ write_is u.object in omega (arith, e)

  step_is : (d : Option ℕ) → instruction_cost b (Two ADD false (Short 1) (ToAbs (place_of (placed sram) d))) ≡ instruction_cost (free b) (Two ADD false (Short 1) (ToAbs (place_of all_in_sram d))) + (all_cost rp (in_dest d) + all_cost wp (in_dest d))
  step_is None = omega arith
  step_is (Some o) = let e = read_is o in let f = write_is o in omega (arith, e, f)

  compared_with : (x : Bool) (c : ℕ) (a : Operand) → instruction_cost b (Two CMP false (if x then Short c else Imm c) (ToAbs (operand_place (placed sram) a))) ≡ instruction_cost (free b) (Two CMP false (if x then Short c else Imm c) (ToAbs (operand_place all_in_sram a))) + all_cost rp (in_operand a)
  compared_with true c (Const v) = omega arith
  compared_with false c (Const v) = omega arith
  compared_with true c (Object o) = let e = read_is o in omega (arith, e)
  compared_with false c (Object o) = let e = read_is o in omega (arith, e)

  bound_is : (x a : Operand) → instruction_cost b (Two CMP false (source (placed sram) x) (ToAbs (operand_place (placed sram) a))) ≡ instruction_cost (free b) (Two CMP false (source all_in_sram x) (ToAbs (operand_place all_in_sram a))) + (all_cost rp (in_operand x) + all_cost rp (in_operand a))
  bound_is (Const c) a = let e = compared_with (is_constant c) c a in omega (arith, e)
  bound_is (Object p) (Const v) = let d = read_is p in omega (arith, d)
  bound_is (Object p) (Object o) = let d = read_is p in let e = read_is o in omega (arith, d, e)

module _ (b : Board) (sram : List ℕ) (op : Op) where
  abbrev costs : List ℕ → List ℕ → ℕ
  costs rs ws = all_cost (rp b sram) rs + all_cost (wp b sram) ws

  unary_is : weight_of b (unary (placed sram) op) ≡ weight_of (free b) (unary all_in_sram op) + costs (in_operand op.a) (in_dest op.dest)
  unary_is =
      let l = load_is b sram 15 op.a in
      let c = core_free b op.kind in
      let s = store_is b sram (result op.kind) op.dest in
      omega (arith, l, c, s, weight_then b (core op.kind) (stores (result op.kind) (place_of (placed sram) op.dest)), weight_then (free b) (core op.kind) (stores (result op.kind) (place_of all_in_sram op.dest)))

  binary_is : weight_of b (binary (placed sram) op) ≡ weight_of (free b) (binary all_in_sram op) + costs (in_operand op.a ++ in_operand op.b) (in_dest op.dest)
  binary_is =
      let l = load_is b sram 15 op.a in
      let m = load_is b sram 14 op.b in
      let c = core_free b op.kind in
      let s = store_is b sram (result op.kind) op.dest in
      let j = cost-append (rp b sram) (in_operand op.a) (in_operand op.b) in
      omega (arith, l, m, c, s, j, weight_then b (core op.kind) (stores (result op.kind) (place_of (placed sram) op.dest)), weight_then (free b) (core op.kind) (stores (result op.kind) (place_of all_in_sram op.dest)))

  load_op : weight_of b (template_by kind.Load (placed sram) 0 op) ≡ weight_of (free b) (template_by kind.Load all_in_sram 0 op) + costs (in_operand op.a ++ in_array op.array) (in_dest op.dest)
  load_op =
      let l = load_is b sram 14 op.a in
      let i = index_free b (length_in op.array) in
      let f = fetch_is b sram op.array in
      let s = store_is b sram 15 op.dest in
      let j = cost-append (rp b sram) (in_operand op.a) (in_array op.array) in
      omega (arith, l, i, f, s, j)

  store_op : weight_of b (template_by kind.Store (placed sram) 0 op) ≡ weight_of (free b) (template_by kind.Store all_in_sram 0 op) + costs (in_operand op.a ++ in_operand op.b) (in_array op.array)
  store_op =
      let l = load_is b sram 15 op.a in
      let m = load_is b sram 14 op.b in
      let i = index_free b (length_in op.array) in
      let f = send_is b sram op.array in
      let j = cost-append (rp b sram) (in_operand op.a) (in_operand op.b) in
      omega (arith, l, m, i, f, j)

  below_op : weight_of b (template_by kind.Below (placed sram) 0 op) ≡ weight_of (free b) (template_by kind.Below all_in_sram 0 op) + costs (in_operand op.b ++ in_operand op.a) []
  below_op =
      let e = bound_is b sram op.b op.a in
      let j = cost-append (rp b sram) (in_operand op.b) (in_operand op.a) in
      omega (arith, e, j)

  pub by_kind_is : (k : OpKind) → weight_of b (template_by k (placed sram) 0 op) ≡ weight_of (free b) (template_by k all_in_sram 0 op) + costs (reads_by k op) (writes_by k op)
  by_kind_is kind.Copy = unary_is
  by_kind_is kind.Neg = unary_is
  by_kind_is kind.Inv = unary_is
  by_kind_is kind.ToU8 = unary_is
  by_kind_is kind.ToS8 = unary_is
  by_kind_is kind.Load = load_op
  by_kind_is kind.Store = store_op
  by_kind_is kind.Input = let s = store_is b sram 15 op.dest in omega (arith, s)
  by_kind_is kind.Output = let l = load_is b sram 15 op.a in omega (arith, l)
  by_kind_is kind.Finish = let l = load_is b sram 15 op.a in omega (arith, l)
  by_kind_is kind.Test = let l = load_is b sram 15 op.a in omega (arith, l)
  by_kind_is kind.Below = below_op
  by_kind_is kind.Step = let s = step_is b sram op.dest in omega (arith, s)
  by_kind_is kind.Go = omega arith
  by_kind_is kind.Call = omega arith
  by_kind_is kind.Ret = omega arith
  by_kind_is _ = binary_is

-- ---- the objects that an operation of a graph touches are the graph's

abbrev Below : Graph → List ℕ → Type 0
Below g xs = AllByRecursion (λ o. o < length g.objects) xs

object_below : (g : Graph) (o n : ℕ) (x : Option declared.Object) → slice_get g.objects o ≡ x → HasWords n x → o < length g.objects
object_below g o n None e h = absurd h
object_below g o n (Some x) e h = slice_get_within g.objects o x e

operand_below : (g : Graph) (used : Bool) (a : Operand) → OperandFits g used a → Below g (in_operand a)
operand_below g used (Const v) h = tt
operand_below g true (Object o) h = (object_below g o 1 (slice_get g.objects o) refl h, tt)
operand_below g false (Object o) h = absurd (cc)

dest_below : (g : Graph) (used : Bool) (d : Option ℕ) → DestFits g used d → Below g (in_dest d)
dest_below g used None h = tt
dest_below g true (Some o) h = (object_below g o 1 (slice_get g.objects o) refl h, tt)
dest_below g false (Some o) h = absurd (cc)

array_below : (g : Graph) (used : Bool) (a : Option ArrayUse) → ArrayFits g used a → Below g (in_array a)
array_below g used None h = tt
array_below g true (Some u) h = (object_below g u.object u.length (slice_get g.objects u.object) refl h.0, tt)
array_below g false (Some u) h = absurd (cc)

both_below : (g : Graph) (xs ys : List ℕ) → Below g xs → Below g ys → Below g (xs ++ ys)
both_below g [] ys h k = k
both_below g (x ∷ xs) ys h k = (h.0, both_below g xs ys h.1 k)

module _ (g : Graph) (op : Op) (fits : OpFits g op) where
  in_a : Below g (in_operand op.a)
  in_a = operand_below g (parts_of op.kind).a op.a fits.a

  in_b : Below g (in_operand op.b)
  in_b = operand_below g (parts_of op.kind).b op.b fits.b

  in_d : Below g (in_dest op.dest)
  in_d = dest_below g (parts_of op.kind).dest op.dest fits.dest

  in_u : Below g (in_array op.array)
  in_u = array_below g (parts_of op.kind).array op.array fits.array

  reads_below : (k : OpKind) → Below g (reads_by k op)
  reads_below kind.Copy = in_a
  reads_below kind.Neg = in_a
  reads_below kind.Inv = in_a
  reads_below kind.ToU8 = in_a
  reads_below kind.ToS8 = in_a
  reads_below kind.Load = both_below g (in_operand op.a) (in_array op.array) in_a in_u
  reads_below kind.Store = both_below g (in_operand op.a) (in_operand op.b) in_a in_b
  reads_below kind.Input = tt
  reads_below kind.Output = in_a
  reads_below kind.Finish = in_a
  reads_below kind.Test = in_a
  reads_below kind.Below = both_below g (in_operand op.b) (in_operand op.a) in_b in_a
  reads_below kind.Step = in_d
  reads_below kind.Go = tt
  reads_below kind.Call = tt
  reads_below kind.Ret = tt
  reads_below _ = both_below g (in_operand op.a) (in_operand op.b) in_a in_b

  writes_below : (k : OpKind) → Below g (writes_by k op)
  writes_below kind.Store = in_u
  writes_below kind.Output = tt
  writes_below kind.Finish = tt
  writes_below kind.Test = tt
  writes_below kind.Below = tt
  writes_below kind.Go = tt
  writes_below kind.Call = tt
  writes_below kind.Ret = tt
  writes_below _ = in_d

pub weights_are_costs : WeightsAreCosts
weights_are_costs b sram g op fits =
    let k = by_kind_is b sram op op.kind in
    let u = uses_told (prices b sram) (base_of b op) (length g.objects) (reads_by op.kind op) (writes_by op.kind op) (reads_below g op fits op.kind) (writes_below g op fits op.kind) in
    omega (arith, k, u)
