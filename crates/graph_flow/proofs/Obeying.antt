-- What the flow of a graph by the rules obeys: each operation sees and writes the words of objects alone.
use Rattle.std.proofs.Common.{◌≡◌, ◌≢◌, ◌⊎◌, ◌<◌, ◌%◌, ℕ, Bool, true, false, Option, None, Some, refl, sym, ap, subst, inl, inr, ◌∙◌, arith}
use Rattle.std.specs.Prelude.{nat_lt, slice_get}
use Rattle.c_values.specs.Values.{Worked, Gives, Traps as MeetsTrap, index_trap}
use Rattle.flow_graph.specs.declared.graph.ArrayUse.{ArrayUse}
use Rattle.flow_graph.specs.declared.graph.Object as declared
use Rattle.flow_graph.specs.declared.graph.Op.{Op}
use Rattle.flow_graph.specs.declared.graph.Operand.{Operand}
use Rattle.flow_graph.specs.declared.graph.Operand.TheVariants.{Const, Object}
use Rattle.flow_graph.specs.declared.graph.OpKind.{OpKind}
use Rattle.flow_graph.specs.declared.graph.OpKind.TheVariants as kind
use Rattle.flow_graph.specs.declared.graph.Graph.{Graph}
use Rattle.flow_graph.specs.declared.nodes.Next.{Next}
use Rattle.flow_graph.specs.declared.nodes.Next.TheVariants as next
use Rattle.flow_graph.specs.declared.nodes.Node.{Node}
use Rattle.flow_graph.specs.Nodes.{graph_nodes, node_in}
use Rattle.flow_graph.specs.Operations.{gives, passes}
use Rattle.flow_graph.specs.Results.{IsOwn, IsWord}
use Rattle.flow_graph.specs.Rules.{ArrayFits, HasWords, IsGraph, IsScalar, OpFits, OperandFits, parts_of}
use Rattle.flow_graph.proofs.ResultLemmas.{IsWorked, given_word}
use Rattle.flow_graph.proofs.StandLemmas.{dest_is_scalar, found_in}
use Rattle.msp430_machine.specs.State.{input_word}
use Rattle.laid_code.specs.Flows.{Memory, Change, Turn, On, Away, Ends, Traps, Effect}
use Rattle.laid_code.specs.Obeying.{AreAlike, AreSmall}
use Rattle.graph_flow.specs.GraphFlow.{Place, GraphsObey, array_object, at_element, changes, effect_at, effect_by, effect_on, load, operand, sizes, size_of, stops, store, target_at, target_by, turn_by, worked}
use Rattle.graph_flow.proofs.Meeting.{is_below, to_is}

-- ---- turns

abbrev Goes : Turn → Type 0
Goes t = (t ≡ On) ⊎ (t ≡ Away)

turn_goes : (k : OpKind) (n : Next) (passed : Bool) → Goes (turn_by k n passed)
turn_goes k (next.To n) passed = to_is k
turn_goes k (next.Either n m) true = inl refl
turn_goes k (next.Either n m) false = inr refl
turn_goes k (next.Into f n) passed = inl refl
turn_goes k next.Returns passed = inl refl
turn_goes k next.Ends passed = inl refl

no_trap : (t : Turn) (v : ℕ) → Goes t → t ≡ Traps v → ⊥
no_trap t v (inl on) e = let bad : On ≡ Traps v = sym on ∙ e in absurd (cc)
no_trap t v (inr away) e = let bad : Away ≡ Traps v = sym away ∙ e in absurd (cc)

end_stops : (v : ℕ) → Goes (Ends v) → ⊥
end_stops v (inl on) = let bad : Ends v ≡ On = on in absurd (cc)
end_stops v (inr away) = let bad : Ends v ≡ Away = away in absurd (cc)

trap_stops : (v : ℕ) → Goes (Traps v) → ⊥
trap_stops v (inl on) = let bad : Traps v ≡ On = on in absurd (cc)
trap_stops v (inr away) = let bad : Traps v ≡ Away = away in absurd (cc)

own_other : (t : ℕ) → IsOwn t → t ≢ 4
own_other t (inl e) four = omega (arith, e, four)
own_other t (inr (inl e)) four = omega (arith, e, four)
own_other t (inr (inr e)) four = omega (arith, e, four)

-- ---- what there is to show of an effect, where the words of objects are small

record Fine (Small : Type 0) (words : ℕ → ℕ) (target : Option ℕ) (e : Effect) : Type 0 where
  pub value : (c : Change) → Small → e.change ≡ Some c → c.value < 65536
  pub within : (c : Change) → e.change ≡ Some c → (target ≡ Some c.object) × (c.index < words c.object)
  pub idle : e.change ≡ None → Goes e.turn → target ≡ None
  pub other : (v : ℕ) → Small → e.turn ≡ Traps v → v ≢ 4

abbrev change_at : ℕ → ℕ → ℕ → Change
change_at o i w = record { object = o; index = i; value = w }

abbrev changing : Option Change → Bool → Turn → Effect
changing c takes turn = record { change = c; puts = None; takes = takes; turn = turn }

module _ (Small : Type 0) (words : ℕ → ℕ) where
  fine_end : (target : Option ℕ) (v : ℕ) → Fine Small words target (stops (Ends v))
  fine_end target v = record {
    value = λ c small e. let bad : None ≡ Some c = e in absurd (cc);
    within = λ c e. let bad : None ≡ Some c = e in absurd (cc);
    idle = λ e goes. absurd (end_stops v goes);
    other = λ w small e. let bad : Ends v ≡ Traps w = e in absurd (cc);
  }

  fine_trap : (target : Option ℕ) (t : ℕ) → (Small → IsOwn t) → Fine Small words target (stops (Traps t))
  fine_trap target t own = record {
    value = λ c small e. let bad : None ≡ Some c = e in absurd (cc);
    within = λ c e. let bad : None ≡ Some c = e in absurd (cc);
    idle = λ e goes. absurd (trap_stops t goes);
    other = λ v small e. let all : Traps t ≡ Traps v = e in let same : t ≡ v = cc in subst (λ n. n ≢ 4) same (own_other t (own small));
  }

  fine_write : (target : Option ℕ) (o i w : ℕ) (takes : Bool) (turn : Turn) → Goes turn → (Small → IsWord w) → target ≡ Some o → i < words o → Fine Small words target (changing (Some (change_at o i w)) takes turn)
  fine_write target o i w takes turn goes small is low = record {
    value = λ c s e. subst (λ d. d.value < 65536) (same c e) (small s);
    within = λ c e. subst (λ d. (target ≡ Some d.object) × (d.index < words d.object)) (same c e) (is, low);
    idle = λ e goes. let bad : Some (change_at o i w) ≡ None = e in absurd (cc);
    other = λ v s e. absurd (no_trap turn v goes e);
  }
    where
      same : (c : Change) → Some (change_at o i w) ≡ Some c → change_at o i w ≡ c
      same c e = cc

  fine_dest : (dest : Option ℕ) (w : ℕ) (takes : Bool) (turn : Turn) → Goes turn → (Small → IsWord w) → ((o : ℕ) → dest ≡ Some o → 0 < words o) → Fine Small words dest (changing (changes dest w) takes turn)
  fine_dest None w takes turn goes small some = record {
    value = λ c s e. let bad : None ≡ Some c = e in absurd (cc);
    within = λ c e. let bad : None ≡ Some c = e in absurd (cc);
    idle = λ e goes. refl;
    other = λ v s e. absurd (no_trap turn v goes e);
  }
  fine_dest (Some o) w takes turn goes small some = fine_write (Some o) o 0 w takes turn goes small refl (some o refl)

  fine_worked : (dest : Option ℕ) (x : Worked) (turn : Turn) → Goes turn → (Small → IsWorked x) → ((o : ℕ) → dest ≡ Some o → 0 < words o) → Fine Small words dest (worked dest x turn)
  fine_worked dest (Gives w) turn goes small some = fine_dest dest w false turn goes small some
  fine_worked dest (MeetsTrap t) turn goes own some = fine_trap dest t own

  fine_output : (w : ℕ) (turn : Turn) → Goes turn → Fine Small words None (record { change = None; puts = Some w; takes = false; turn = turn })
  fine_output w turn goes = record {
    value = λ c s e. let bad : None ≡ Some c = e in absurd (cc);
    within = λ c e. let bad : None ≡ Some c = e in absurd (cc);
    idle = λ e goes. refl;
    other = λ v s e. absurd (no_trap turn v goes e);
  }

  -- within the array, or a trap
  fine_element : (target : Option ℕ) (i n : ℕ) (e : Effect) → (i < n → Fine Small words target e) → Fine Small words target (at_element (nat_lt i n) e)
  fine_element target i n e inside = by_test (nat_lt i n) refl
    where
      by_test : (b : Bool) → nat_lt i n ≡ b → Fine Small words target (at_element b e)
      by_test true is = inside (is_below i n is)
      by_test false is = fine_trap target index_trap (λ small. inr (inl refl))

-- ---- the operations of a graph

module _ (g : Graph) where
  has_size : (o n : ℕ) → HasWords n (slice_get g.objects o) → sizes g o ≡ n
  has_size o n h = by_object (slice_get g.objects o) h
    where
      by_object : (x : Option declared.Object) → HasWords n x → size_of x ≡ n
      by_object None h = absurd h
      by_object (Some x) h = h

  scalar_low : (o : ℕ) → IsScalar g o → 0 < sizes g o
  scalar_low o h = let e = has_size o 1 h in omega (arith, e)

  element_low : (u : ArrayUse) (i : ℕ) → ArrayFits g true (Some u) → i < u.length → i < sizes g u.object
  element_low u i h low = let e = has_size u.object u.length h.0 in omega (arith, e, low)

  operand_alike : (now real : Memory) (used : Bool) (a : Operand) → OperandFits g used a → AreAlike (sizes g) now real → operand now a ≡ operand real a
  operand_alike now real used (Const w) fits alike = refl
  operand_alike now real true (Object o) fits alike = alike o 0 (scalar_low o fits)
  operand_alike now real false (Object o) fits alike = let bad : Object o ≡ Const 0 = fits in absurd (cc)

  operand_small : (now : Memory) (used : Bool) (a : Operand) → OperandFits g used a → AreSmall (sizes g) now → IsWord (operand now a)
  operand_small now true (Const w) fits small = fits
  operand_small now false (Const w) fits small = let e : Const w ≡ Const 0 = fits in subst IsWord (ap (operand now) (sym e)) (omega arith)
  operand_small now true (Object o) fits small = small o 0 (scalar_low o fits)
  operand_small now false (Object o) fits small = let bad : Object o ≡ Const 0 = fits in absurd (cc)

  -- ---- what an operation sees

  load_alike : (now real : Memory) (array : Option ArrayUse) (dest : Option ℕ) (i : ℕ) (turn : Turn) → ArrayFits g true array → AreAlike (sizes g) now real → load array dest i now turn ≡ load array dest i real turn
  load_alike now real None dest i turn fits alike = refl
  load_alike now real (Some u) dest i turn fits alike = by_test (nat_lt i u.length) refl
    where
      by_test : (b : Bool) → nat_lt i u.length ≡ b → at_element b (changing (changes dest (now u.object i)) false turn) ≡ at_element b (changing (changes dest (real u.object i)) false turn)
      by_test true is = ap (λ v. changing (changes dest v) false turn) (alike u.object i (element_low u i fits (is_below i u.length is)))
      by_test false is = refl

  effect_alike : (k : OpKind) (op : Op) (a b w : ℕ) (now real : Memory) (turn : Turn) → op.kind ≡ k → OpFits g op → AreAlike (sizes g) now real → effect_by k op a b now w turn ≡ effect_by k op a b real w turn
  effect_alike kind.Load op a b w now real turn e fits alike = load_alike now real op.array op.dest a turn (subst (λ k. ArrayFits g (parts_of k).array op.array) e fits.array) alike
  effect_alike k op a b w now real turn e fits alike = refl

  node_alike : (x : Node) (now real : Memory) (w : ℕ) → OpFits g x.op → AreAlike (sizes g) now real → effect_at (Some x) now w ≡ effect_at (Some x) real w
  node_alike x now real w fits alike =
      ap (λ a. effect_on x now w a (operand now x.op.b)) (operand_alike now real (parts_of x.op.kind).a x.op.a fits.a alike)
      ∙ ap (λ b. effect_on x now w (operand real x.op.a) b) (operand_alike now real (parts_of x.op.kind).b x.op.b fits.b alike)
      ∙ effect_alike x.op.kind x.op (operand real x.op.a) (operand real x.op.b) w now real (turn_by x.op.kind x.next (passes x.op.kind (operand real x.op.a) (operand real x.op.b))) refl fits alike

  -- ---- what it does

  abbrev Obeyed : Memory → Option ℕ → Effect → Type 0
  Obeyed now target e = Fine (AreSmall (sizes g) now) (sizes g) target e

  load_obeyed : (now : Memory) (array : Option ArrayUse) (dest : Option ℕ) (i : ℕ) (turn : Turn) → ArrayFits g true array → Goes turn → ((o : ℕ) → dest ≡ Some o → 0 < sizes g o) → Obeyed now dest (load array dest i now turn)
  load_obeyed now None dest i turn fits goes some = fine_end (AreSmall (sizes g) now) (sizes g) dest 0
  load_obeyed now (Some u) dest i turn fits goes some =
      fine_element (AreSmall (sizes g) now) (sizes g) dest i u.length (changing (changes dest (now u.object i)) false turn)
      (λ low. fine_dest (AreSmall (sizes g) now) (sizes g) dest (now u.object i) false turn goes (λ small. small u.object i (element_low u i fits low)) some)

  store_obeyed : (now : Memory) (array : Option ArrayUse) (w i : ℕ) (turn : Turn) → ArrayFits g true array → Goes turn → (AreSmall (sizes g) now → IsWord w) → Obeyed now (array_object array) (store array w i turn)
  store_obeyed now None w i turn fits goes small = fine_end (AreSmall (sizes g) now) (sizes g) None 0
  store_obeyed now (Some u) w i turn fits goes small =
      fine_element (AreSmall (sizes g) now) (sizes g) (Some u.object) i u.length (changing (Some (change_at u.object i w)) false turn)
      (λ low. fine_write (AreSmall (sizes g) now) (sizes g) (Some u.object) u.object i w false turn goes small refl (element_low u i fits low))

  effect_obeyed : (k : OpKind) (op : Op) (a b w : ℕ) (now : Memory) (turn : Turn) → op.kind ≡ k → OpFits g op → Goes turn → (AreSmall (sizes g) now → IsWord a) → (AreSmall (sizes g) now → IsWord b)
      → ((o : ℕ) → op.dest ≡ Some o → 0 < sizes g o) → Obeyed now (target_by k op) (effect_by k op a b now w turn)
  effect_obeyed kind.Load op a b w now turn e fits goes ha hb some = load_obeyed now op.array op.dest a turn (subst (λ k. ArrayFits g (parts_of k).array op.array) e fits.array) goes some
  effect_obeyed kind.Store op a b w now turn e fits goes ha hb some = store_obeyed now op.array a b turn (subst (λ k. ArrayFits g (parts_of k).array op.array) e fits.array) goes ha
  effect_obeyed kind.Input op a b w now turn e fits goes ha hb some =
      fine_dest (AreSmall (sizes g) now) (sizes g) op.dest (w % 65536) true turn goes (λ small. let lt : w % 65536 < 65536 = omega arith in lt) some
  effect_obeyed kind.Output op a b w now turn e fits goes ha hb some = fine_output (AreSmall (sizes g) now) (sizes g) a turn goes
  effect_obeyed kind.Finish op a b w now turn e fits goes ha hb some = fine_end (AreSmall (sizes g) now) (sizes g) None a
  effect_obeyed k op a b w now turn e fits goes ha hb some =
      fine_worked (AreSmall (sizes g) now) (sizes g) op.dest (gives k a b) turn goes (λ small. given_word k a b (ha small) (hb small)) some

  node_obeyed : (x : Node) (now : Memory) (w : ℕ) → OpFits g x.op → Obeyed now (target_at (Some x)) (effect_at (Some x) now w)
  node_obeyed x now w fits =
      effect_obeyed x.op.kind x.op (operand now x.op.a) (operand now x.op.b) w now
      (turn_by x.op.kind x.next (passes x.op.kind (operand now x.op.a) (operand now x.op.b))) refl fits
      (turn_goes x.op.kind x.next (passes x.op.kind (operand now x.op.a) (operand now x.op.b)))
      (operand_small now (parts_of x.op.kind).a x.op.a fits.a) (operand_small now (parts_of x.op.kind).b x.op.b fits.b)
      (λ o e. scalar_low o (dest_is_scalar g x.op o fits e))

  module _ (rules : IsGraph g) where
    node_fits : (n : ℕ) (x : Node) → node_in (graph_nodes g) n ≡ Some x → OpFits g x.op
    node_fits n x e = let s = found_in (graph_nodes g) n x e in rules.operations s.place x s.is_there

    alike_at : (n : ℕ) (x : Option Node) (now real : Memory) (w : ℕ) → node_in (graph_nodes g) n ≡ x → AreAlike (sizes g) now real → effect_at x now w ≡ effect_at x real w
    alike_at n None now real w e alike = refl
    alike_at n (Some x) now real w e alike = node_alike x now real w (node_fits n x e) alike

    obeyed_at : (n : ℕ) (x : Option Node) (now : Memory) (w : ℕ) → node_in (graph_nodes g) n ≡ x → Obeyed now (target_at x) (effect_at x now w)
    obeyed_at n None now w e = fine_end (AreSmall (sizes g) now) (sizes g) None 0
    obeyed_at n (Some x) now w e = node_obeyed x now w (node_fits n x e)

pub graphs_obey : GraphsObey
graphs_obey g input rules = record {
  local = λ at now real w alike. alike_at g rules at.at (node_in (graph_nodes g) at.at) now real w refl alike;
  value = λ at now taken c small e. (obeyed at now taken).value c small e;
  within = λ at now taken c e. (obeyed at now taken).within c e;
  idle = λ at now taken e goes. (obeyed at now taken).idle e goes;
  other = λ at now taken v small e. (obeyed at now taken).other v small e;
}
  where
    obeyed : (at : Place) (now : Memory) (taken : ℕ)
        → Fine (AreSmall (sizes g) now) (sizes g) (target_at (node_in (graph_nodes g) at.at)) (effect_at (node_in (graph_nodes g) at.at) now (input_word input taken))
    obeyed at now taken = obeyed_at g rules at.at (node_in (graph_nodes g) at.at) now (input_word input taken) refl
