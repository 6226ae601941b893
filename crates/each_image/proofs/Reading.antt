-- What the operands of an operation are on a device that holds the words of objects in FRAM, and that its template is ready there.
use Rattle.std.proofs.Common.{◌≡◌, ◌≢◌, ℕ, ◌+◌, ◌*◌, ◌/◌, ◌<◌, ◌≤◌, Bool, true, false, Option, Some, None, [], refl, sym, ap, ◌∙◌, subst, arith, inr}
use Rattle.std.specs.Prelude.{slice_get}
use Rattle.board_table.specs.declared.board.Board.{Board}
use Rattle.msp430_machine.specs.declared.addresses.Region.TheVariants.{Fram}
use Rattle.msp430_machine.specs.Addresses.{fram_start}
use Rattle.msp430_machine.specs.State.{State}
use Rattle.msp430_machine.specs.Memory.{word_at}
use Rattle.msp430_machine.proofs.Memories.{in_fram}
use Rattle.msp430_machine.proofs.Writes.{word_by}
use Rattle.flow_graph.specs.declared.graph.ArrayUse.{ArrayUse}
use Rattle.flow_graph.specs.declared.graph.Object as declared
use Rattle.flow_graph.specs.declared.graph.Op.{Op}
use Rattle.flow_graph.specs.declared.graph.Operand.{Operand}
use Rattle.flow_graph.specs.declared.graph.Operand.TheVariants.{Const, Object}
use Rattle.flow_graph.specs.declared.graph.OpKind.{OpKind}
use Rattle.flow_graph.specs.declared.graph.OpKind.TheVariants as kind
use Rattle.flow_graph.specs.declared.graph.Graph.{Graph}
use Rattle.flow_graph.specs.Rules.{ArrayFits, CountFits, DestFits, HasWords, IsScalar, OpFits, OperandFits, parts_of}
use Rattle.laid_code.specs.Flows.{Memory}
use Rattle.graph_flow.specs.GraphFlow.{operand, size_of, sizes}
use Rattle.graph_code.specs.Homes.{HaveHomes, first_word}
use Rattle.op_cost.specs.Templates.{template, weight_of, place_of, array_of, operand_place}
use Rattle.op_cost.specs.Weights.{HasBound, SameHomes, SameOperand, SamePlace, placed, weight}
use Rattle.op_cost.proofs.Regions.{depend_on_memories}
use Rattle.emit_templates.specs.GraphEffects.{IsFormed}
use Rattle.emit_templates.specs.Placed.{Array, GoesTo, IsRun, Reads, Ready, Target, element_at, operand_at}
use Rattle.each_image.specs.Image.{fram_homes}

has_size : (x : Option declared.Object) (n : ℕ) → HasWords n x → size_of x ≡ n
has_size None n h = absurd h
has_size (Some x) n h = h

has_array : (g : Graph) (x : Option ArrayUse) → ArrayFits g true x → (u : ArrayUse) × (x ≡ Some u)
has_array g None h = absurd h
has_array g (Some u) h = (u, refl)

-- a kind has the parts that it is formed of
pub formed : (g : Graph) (k : OpKind) (op : Op) → DestFits g (parts_of k).dest op.dest → ArrayFits g (parts_of k).array op.array → IsFormed k op
formed g kind.Load op dest array = has_array g op.array array
formed g kind.Store op dest array = has_array g op.array array
formed g kind.Test op dest array = dest
formed g kind.Below op dest array = dest
formed g kind.Go op dest array = dest
formed g kind.Call op dest array = dest
formed g kind.Ret op dest array = dest
formed g k op dest array = tt

module _ (g : Graph) (homes : HaveHomes g) where
  -- ---- Weights

  same_place : (o : ℕ) → SamePlace (fram_homes g o) (placed [] o)
  same_place o = let r = homes.room o in record {
    same = in_fram (fram_homes g o) (omega arith) (omega (arith, r)) ∙ sym (in_fram fram_start (omega arith) (omega arith));
    low = omega (arith, r);
    low' = omega arith;
  }

  same_nowhere : SamePlace 0 0
  same_nowhere = record { same = refl; low = omega arith; low' = omega arith }

  same_operand : (a : Operand) → SameOperand (fram_homes g) (placed []) a
  same_operand (Const v) = tt
  same_operand (Object o) = same_place o

  same_dest : (dest : Option ℕ) → SamePlace (place_of (fram_homes g) dest) (place_of (placed []) dest)
  same_dest None = same_nowhere
  same_dest (Some o) = same_place o

  same_array : (array : Option ArrayUse) → SamePlace (array_of (fram_homes g) array) (array_of (placed []) array)
  same_array None = same_nowhere
  same_array (Some u) = same_place u.object

  same_variable : (a : Operand) → SamePlace (operand_place (fram_homes g) a) (operand_place (placed []) a)
  same_variable (Const v) = same_nowhere
  same_variable (Object o) = same_place o

  same_homes : (op : Op) → SameHomes (fram_homes g) (placed []) op
  same_homes op = record { a = same_operand op.a; b = same_operand op.b; dest = same_dest op.dest; array = same_array op.array; variable = same_variable op.a }

  has_bound : (k : OpKind) (op : Op) → CountFits k op → HasBound k op
  has_bound kind.Below op h = (h.1, h.3)
  has_bound k op h = tt

  pub weight_is : (b : Board) (target : ℕ) (op : Op) → OpFits g op → weight_of b (template (fram_homes g) target op) ≡ weight b [] op
  weight_is b target op fits = depend_on_memories b (fram_homes g) (placed []) target 0 op (same_homes op) (has_bound op.kind op fits.count)

  -- ---- Places

  home_run : (o n : ℕ) → first_word g o + n ≤ 0x4000 → IsRun (fram_homes g o) n
  home_run o n room = record { even = omega arith; inside = inr (omega arith, omega (arith, room)) }

  one_run : (o : ℕ) → IsRun (fram_homes g o) 1
  one_run o = let r = homes.room o in home_run o 1 (omega (arith, r))

  target_is : (dest : Option ℕ) → DestFits g true dest → Target (fram_homes g) dest
  target_is None h = absurd h
  target_is (Some o) h = record { object = o; is = refl; home = one_run o }

  array_is : (array : Option ArrayUse) → ArrayFits g true array → Array (fram_homes g) array
  array_is None h = absurd h
  array_is (Some u) h =
      let r = homes.room u.object in
      let n : sizes g u.object ≡ u.length = has_size (slice_get g.objects u.object) u.length h.0 in
      record { used = u; is = refl; home = home_run u.object u.length (omega (arith, r, n)) }

  -- ---- Words

  module _ (m : Memory) (s : State) (held : (o i : ℕ) → i < sizes g o → s.fram (first_word g o + i) ≡ m o i) (small : (o i : ℕ) → i < sizes g o → m o i < 65536) where
    word_there : (o i : ℕ) → i < sizes g o → word_at s (fram_homes g o + 2 * i) ≡ m o i
    word_there o i low =
        let r = homes.room o in
        let half : (fram_homes g o + 2 * i) / 2 ≡ first_word g o + i = omega arith in
        word_by s (fram_homes g o + 2 * i) Fram (in_fram (fram_homes g o + 2 * i) (omega arith) (omega (arith, r, low))) ∙ ap (λ k. s.fram k) half ∙ held o i low

    first_there : (o : ℕ) → IsScalar g o → word_at s (fram_homes g o) ≡ m o 0
    first_there o scalar =
        let e : fram_homes g o ≡ fram_homes g o + 2 * 0 = omega arith in
        let n : sizes g o ≡ 1 = has_size (slice_get g.objects o) 1 scalar in
        ap (λ a. word_at s a) e ∙ word_there o 0 (omega (arith, n))

    pub operand_is : (used : Bool) (a : Operand) → OperandFits g used a → operand_at (fram_homes g) s a ≡ operand m a
    operand_is true (Const w) h = refl
    operand_is true (Object o) h = first_there o h
    operand_is false a h = subst (λ x. operand_at (fram_homes g) s x ≡ operand m x) (sym h) refl

    pub element_is : (used : Bool) (array : Option ArrayUse) (i : ℕ) → ArrayFits g used array → (u : ArrayUse) → array ≡ Some u → i < u.length → element_at (fram_homes g) s array i ≡ m u.object i
    element_is true None i h u e low = absurd h
    element_is true (Some v) i h u e low =
        let same : v ≡ u = cc in
        let n : sizes g v.object ≡ v.length = has_size (slice_get g.objects v.object) v.length h.0 in
        let lower : i < v.length = subst (λ x. i < x.length) (sym same) low in
        subst (λ x. word_at s (fram_homes g v.object + 2 * i) ≡ m x.object i) same (word_there v.object i (omega (arith, n, lower)))
    element_is false array i h u e low = let bad : None ≡ Some u = sym h ∙ e in absurd (cc)

    reads_is : (a : Operand) → OperandFits g true a → Reads (fram_homes g) s a
    reads_is (Const w) h = record { home = tt; low = h }
    reads_is (Object o) h =
        let n : sizes g o ≡ 1 = has_size (slice_get g.objects o) 1 h in
        let e = first_there o h in
        let low = small o 0 (omega (arith, n)) in
        record { home = one_run o; low = subst (λ x. x < 65536) (sym e) low }

    -- each kind but a call and a return
    pub ready : (k : OpKind) (op : Op) (target kt : ℕ) → k ≢ kind.Call → k ≢ kind.Ret → DestFits g (parts_of k).dest op.dest → OperandFits g (parts_of k).a op.a
        → OperandFits g (parts_of k).b op.b → ArrayFits g (parts_of k).array op.array → CountFits k op → GoesTo target kt → Ready k (fram_homes g) s target kt op
    ready kind.Copy op target kt call ret dest a b array count to = (reads_is op.a a, target_is op.dest dest)
    ready kind.Neg op target kt call ret dest a b array count to = (reads_is op.a a, target_is op.dest dest)
    ready kind.Inv op target kt call ret dest a b array count to = (reads_is op.a a, target_is op.dest dest)
    ready kind.ToU8 op target kt call ret dest a b array count to = (reads_is op.a a, target_is op.dest dest)
    ready kind.ToS8 op target kt call ret dest a b array count to = (reads_is op.a a, target_is op.dest dest)
    ready kind.Load op target kt call ret dest a b array count to = (reads_is op.a a, array_is op.array array, target_is op.dest dest)
    ready kind.Store op target kt call ret dest a b array count to = (reads_is op.a a, reads_is op.b b, array_is op.array array)
    ready kind.Input op target kt call ret dest a b array count to = target_is op.dest dest
    ready kind.Output op target kt call ret dest a b array count to = reads_is op.a a
    ready kind.Finish op target kt call ret dest a b array count to = reads_is op.a a
    ready kind.Test op target kt call ret dest a b array count to = (reads_is op.a a, to)
    ready kind.Below op target kt call ret dest a b array count to =
        (reads_is op.a a, reads_is op.b b, record { variable = count.0; bound = count.1; is_variable = count.2; is_bound = count.3 }, to)
    ready kind.Step op target kt call ret dest a b array count to = (record { object = count.0; is = count.2; home = one_run count.0 }, count.1)
    ready kind.Go op target kt call ret dest a b array count to = to
    ready kind.Call op target kt call ret dest a b array count to = absurd (call refl)
    ready kind.Ret op target kt call ret dest a b array count to = absurd (ret refl)
    ready k op target kt call ret dest a b array count to = (reads_is op.a a, reads_is op.b b, target_is op.dest dest)
