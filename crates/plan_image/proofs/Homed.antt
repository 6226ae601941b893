-- What the operands of an operation are on a device whose objects have homes in SRAM and in FRAM, where those that it reads are held; and that its
-- template is ready there.
use Rattle.std.proofs.Common.{◌≡◌, ◌≢◌, ℕ, ◌+◌, ◌-◌, ◌*◌, ◌/◌, ◌<◌, ◌≤◌, Bool, true, false, Option, Some, None, List, refl, sym, ap, ◌∙◌, subst, arith, inl, inr}
use Rattle.std.specs.Prelude.{slice_get}
use Rattle.board_table.specs.declared.board.Board.{Board}
use Rattle.msp430_machine.specs.State.{State}
use Rattle.msp430_machine.specs.Memory.{word_at, word_in}
use Rattle.msp430_machine.proofs.Writes.{word_by}
use Rattle.flow_graph.specs.declared.graph.ArrayUse.{ArrayUse}
use Rattle.flow_graph.specs.declared.graph.Object as declared
use Rattle.flow_graph.specs.declared.graph.Op.{Op}
use Rattle.flow_graph.specs.declared.graph.Operand.{Operand}
use Rattle.flow_graph.specs.declared.graph.Operand.TheVariants.{Const, Object}
use Rattle.flow_graph.specs.declared.graph.OpKind.{OpKind}
use Rattle.flow_graph.specs.declared.graph.OpKind.TheVariants as kind
use Rattle.flow_graph.specs.declared.graph.Graph.{Graph}
use Rattle.flow_graph.specs.Rules.{ArrayFits, CountFits, DestFits, HasWords, IsScalar, OpFits, OperandFits, parts_of}
use Rattle.laid_code.specs.Flows.{Memory}
use Rattle.laid_code.proofs.Homes.{Home, InSram, InFram, word_of}
use Rattle.laid_code.proofs.Words.{IsRoom, address, at_home, region_of}
use Rattle.graph_flow.specs.GraphFlow.{operand, sizes}
use Rattle.op_cost.specs.Templates.{Homes, template, weight_of, place_of, array_of, operand_place}
use Rattle.op_cost.specs.Weights.{HasBound, SameHomes, SameOperand, SamePlace, placed, weight}
use Rattle.op_cost.proofs.Regions.{depend_on_memories}
use Rattle.emit_templates.specs.Placed.{Array, GoesTo, IsRun, Reads, Ready, Target, element_at, operand_at}
use Rattle.graph_flow.specs.GraphFlow.{size_of}

finds : (h : Home) (i : ℕ) (s : State) → word_in (region_of h) s (address h i) ≡ word_of s h i
finds (InSram w) i s = ap (λ k. s.sram k) (let e : (0x1C00 + 2 * (w + i) - 0x1C00) / 2 ≡ w + i = omega arith in e)
finds (InFram w) i s = ap (λ k. s.fram k) (let e : 2 * (w + i) / 2 ≡ w + i = omega arith in e)

pub has_size : (x : Option declared.Object) (n : ℕ) → HasWords n x → size_of x ≡ n
has_size None n h = absurd h
has_size (Some x) n h = h

pub further : (h : Home) (i : ℕ) → address h 0 + 2 * i ≡ address h i
further (InSram w) i = omega arith
further (InFram w) i = omega arith

run_at : (h : Home) (n : ℕ) → IsRoom h n → IsRun (address h 0) n
run_at (InSram w) n room = record { even = omega arith; inside = inl (omega arith, omega (arith, room)) }
run_at (InFram w) n room = record { even = omega arith; inside = inr (let r = room.0 in omega (arith, r), let r = room.1 in omega (arith, r)) }

-- each object has its home, and the address of it
pub record AreHomes (g : Graph) (place : ℕ → Home) (homes : Homes) : Type 0 where
  pub room : (o : ℕ) → IsRoom (place o) (sizes g o)
  pub is : (o : ℕ) → homes o ≡ address (place o) 0

module _ (g : Graph) (place : ℕ → Home) (homes : Homes) (are : AreHomes g place homes) where
  -- ---- Places

  run_of : (o n : ℕ) → sizes g o ≡ n → IsRun (homes o) n
  run_of o n e = subst (λ a. IsRun a n) (sym (are.is o)) (run_at (place o) n (subst (λ k. IsRoom (place o) k) e (are.room o)))

  one_run : (o : ℕ) → IsScalar g o → IsRun (homes o) 1
  one_run o scalar = run_of o 1 (has_size (slice_get g.objects o) 1 scalar)

  target_is : (dest : Option ℕ) → DestFits g true dest → Target homes dest
  target_is None h = absurd h
  target_is (Some o) h = record { object = o; is = refl; home = one_run o h }

  array_is : (array : Option ArrayUse) → ArrayFits g true array → Array homes array
  array_is None h = absurd h
  array_is (Some u) h = record { used = u; is = refl; home = run_of u.object u.length (has_size (slice_get g.objects u.object) u.length h.0) }

  -- ---- Words

  module _ (m : Memory) (s : State) (small : (o i : ℕ) → i < sizes g o → m o i < 65536) where
    -- the words of an object stand at its home
    abbrev pub IsHeld : ℕ → Type 0
    IsHeld o = (i : ℕ) → i < sizes g o → word_of s (place o) i ≡ m o i

    word_there : (o i : ℕ) → i < sizes g o → IsHeld o → word_at s (homes o + 2 * i) ≡ m o i
    word_there o i low held =
        let at = at_home (place o) (sizes g o) i (are.room o) low in
        let e : homes o + 2 * i ≡ address (place o) i = ap (λ a. a + 2 * i) (are.is o) ∙ further (place o) i in
        ap (λ a. word_at s a) e ∙ (word_by s (address (place o) i) (region_of (place o)) at.inside.lies ∙ (finds (place o) i s ∙ held i low))

    first_there : (o : ℕ) → IsScalar g o → IsHeld o → word_at s (homes o) ≡ m o 0
    first_there o scalar held =
        let e : homes o ≡ homes o + 2 * 0 = omega arith in
        let n : sizes g o ≡ 1 = has_size (slice_get g.objects o) 1 scalar in
        ap (λ a. word_at s a) e ∙ word_there o 0 (omega (arith, n)) held

    pub operand_is : (used : Bool) (a : Operand) → OperandFits g used a → ((o : ℕ) → a ≡ Object o → IsHeld o) → operand_at homes s a ≡ operand m a
    operand_is true (Const w) h held = refl
    operand_is true (Object o) h held = first_there o h (held o refl)
    operand_is false a h held = subst (λ x. operand_at homes s x ≡ operand m x) (sym h) refl

    pub element_is : (used : Bool) (array : Option ArrayUse) (i : ℕ) → ArrayFits g used array → (u : ArrayUse) → array ≡ Some u → IsHeld u.object → i < u.length → element_at homes s array i ≡ m u.object i
    element_is true None i h u e held low = absurd h
    element_is true (Some v) i h u e held low =
        let same : v ≡ u = cc in
        let n : sizes g v.object ≡ v.length = has_size (slice_get g.objects v.object) v.length h.0 in
        let lower : i < v.length = subst (λ x. i < x.length) (sym same) low in
        subst (λ x. word_at s (homes v.object + 2 * i) ≡ m x.object i) same (word_there v.object i (omega (arith, n, lower)) (subst (λ x. IsHeld x.object) (sym same) held))
    element_is false array i h u e held low = let bad : None ≡ Some u = sym h ∙ e in absurd (cc)

    reads_is : (a : Operand) → OperandFits g true a → ((o : ℕ) → a ≡ Object o → IsHeld o) → Reads homes s a
    reads_is (Const w) h held = record { home = tt; low = h }
    reads_is (Object o) h held =
        let n : sizes g o ≡ 1 = has_size (slice_get g.objects o) 1 h in
        let e = first_there o h (held o refl) in
        let low = small o 0 (omega (arith, n)) in
        record { home = one_run o h; low = subst (λ x. x < 65536) (sym e) low }

    -- each kind but a call and a return
    pub ready : (k : OpKind) (op : Op) (target kt : ℕ) → k ≢ kind.Call → k ≢ kind.Ret → DestFits g (parts_of k).dest op.dest → OperandFits g (parts_of k).a op.a
        → OperandFits g (parts_of k).b op.b → ArrayFits g (parts_of k).array op.array → CountFits k op → GoesTo target kt
        → ((o : ℕ) → op.a ≡ Object o → IsHeld o) → ((o : ℕ) → op.b ≡ Object o → IsHeld o) → Ready k homes s target kt op
    ready kind.Copy op target kt call ret dest a b array count to ha hb = (reads_is op.a a ha, target_is op.dest dest)
    ready kind.Neg op target kt call ret dest a b array count to ha hb = (reads_is op.a a ha, target_is op.dest dest)
    ready kind.Inv op target kt call ret dest a b array count to ha hb = (reads_is op.a a ha, target_is op.dest dest)
    ready kind.ToU8 op target kt call ret dest a b array count to ha hb = (reads_is op.a a ha, target_is op.dest dest)
    ready kind.ToS8 op target kt call ret dest a b array count to ha hb = (reads_is op.a a ha, target_is op.dest dest)
    ready kind.Load op target kt call ret dest a b array count to ha hb = (reads_is op.a a ha, array_is op.array array, target_is op.dest dest)
    ready kind.Store op target kt call ret dest a b array count to ha hb = (reads_is op.a a ha, reads_is op.b b hb, array_is op.array array)
    ready kind.Input op target kt call ret dest a b array count to ha hb = target_is op.dest dest
    ready kind.Output op target kt call ret dest a b array count to ha hb = reads_is op.a a ha
    ready kind.Finish op target kt call ret dest a b array count to ha hb = reads_is op.a a ha
    ready kind.Test op target kt call ret dest a b array count to ha hb = (reads_is op.a a ha, to)
    ready kind.Below op target kt call ret dest a b array count to ha hb =
        (reads_is op.a a ha, reads_is op.b b hb, record { variable = count.0; bound = count.1; is_variable = count.2; is_bound = count.3 }, to)
    ready kind.Step op target kt call ret dest a b array count to ha hb =
        (record { object = count.0; is = count.2; home = one_run count.0 (subst (λ x. DestFits g true x) count.2 dest) }, count.1)
    ready kind.Go op target kt call ret dest a b array count to ha hb = to
    ready kind.Call op target kt call ret dest a b array count to ha hb = absurd (call refl)
    ready kind.Ret op target kt call ret dest a b array count to ha hb = absurd (ret refl)
    ready k op target kt call ret dest a b array count to ha hb = (reads_is op.a a ha, reads_is op.b b hb, target_is op.dest dest)

  -- ---- Weights

  -- the objects of an operation that have a word have one memory in both
  module _ (sram : List ℕ) (same : (o : ℕ) → 1 ≤ sizes g o → SamePlace (homes o) (placed sram o)) where
    same_nowhere : SamePlace 0 0
    same_nowhere = record { same = refl; low = omega arith; low' = omega arith }

    same_scalar : (o : ℕ) → IsScalar g o → SamePlace (homes o) (placed sram o)
    same_scalar o scalar = same o (let n = has_size (slice_get g.objects o) 1 scalar in omega (arith, n))

    same_operand : (used : Bool) (a : Operand) → OperandFits g used a → SameOperand homes (placed sram) a
    same_operand true (Const v) h = tt
    same_operand true (Object o) h = same_scalar o h
    same_operand false a h = subst (λ x. SameOperand homes (placed sram) x) (sym h) tt

    same_dest : (used : Bool) (dest : Option ℕ) → DestFits g used dest → SamePlace (place_of homes dest) (place_of (placed sram) dest)
    same_dest true None h = absurd h
    same_dest true (Some o) h = same_scalar o h
    same_dest false dest h = subst (λ x. SamePlace (place_of homes x) (place_of (placed sram) x)) (sym h) same_nowhere

    same_array : (used : Bool) (array : Option ArrayUse) → ArrayFits g used array → SamePlace (array_of homes array) (array_of (placed sram) array)
    same_array true None h = absurd h
    same_array true (Some u) h = same u.object (let n = has_size (slice_get g.objects u.object) u.length h.0 in let some = h.1 in omega (arith, n, some))
    same_array false array h = subst (λ x. SamePlace (array_of homes x) (array_of (placed sram) x)) (sym h) same_nowhere

    same_variable : (used : Bool) (a : Operand) → OperandFits g used a → SamePlace (operand_place homes a) (operand_place (placed sram) a)
    same_variable true (Const v) h = same_nowhere
    same_variable true (Object o) h = same_scalar o h
    same_variable false a h = subst (λ x. SamePlace (operand_place homes x) (operand_place (placed sram) x)) (sym h) same_nowhere

    same_homes : (op : Op) → OpFits g op → SameHomes homes (placed sram) op
    same_homes op fits = record {
      a = same_operand (parts_of op.kind).a op.a fits.a;
      b = same_operand (parts_of op.kind).b op.b fits.b;
      dest = same_dest (parts_of op.kind).dest op.dest fits.dest;
      array = same_array (parts_of op.kind).array op.array fits.array;
      variable = same_variable (parts_of op.kind).a op.a fits.a;
    }

    pub weight_is : (b : Board) (target : ℕ) (op : Op) → OpFits g op → weight_of b (template homes target op) ≡ weight b sram op
    weight_is b target op fits = depend_on_memories b homes (placed sram) target 0 op (same_homes op fits) (has_bound_of op fits)
      where
        has_bound_of : (op : Op) → OpFits g op → HasBound op.kind op
        has_bound_of op fits = bound op.kind fits.count
          where
            bound : (k : OpKind) → CountFits k op → HasBound k op
            bound kind.Below h = (h.1, h.3)
            bound k h = tt
