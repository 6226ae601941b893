-- Operations of a reached function obey the rules of operations.
use Rattle.std.proofs.Common.{◌≡◌, ℕ, Bool, true, false, Option, Some, None, List, ◌++◌, sym, ap, subst, ◌∙◌}
use Rattle.std.specs.Prelude.{slice_get}
use Rattle.c_tree.specs.declared.tree.Variable.{Variable}
use Rattle.c_tree.specs.declared.tree.Program.{Program}
use Rattle.sound_programs.specs.SoundPrograms.{IsSound}
use Rattle.flow_graph.specs.declared.graph.ArrayUse.{ArrayUse}
use Rattle.flow_graph.specs.declared.graph.Object as declared
use Rattle.flow_graph.specs.declared.graph.Op.{Op}
use Rattle.flow_graph.specs.declared.graph.Operand.{Operand}
use Rattle.flow_graph.specs.declared.graph.Operand.TheVariants.{Const, Object}
use Rattle.flow_graph.specs.declared.nodes.Node.{Node}
use Rattle.flow_graph.specs.Rules.{ArrayFits, DestFits, HasWords, IsOneKind, IsScalar, OpFits, OperandFits, array_of, dest_of, object_of, parts_of, scalars}
use Rattle.lowered_graphs.specs.Exprs.{length_or}
use Rattle.lowered_graphs.specs.GraphOf.{graph_of, numbering}
use Rattle.lowered_rules.proofs.EachLemmas.{Each, each_append, each_at, each_contains, each_weaker}
use Rattle.lowered_rules.proofs.FitLemmas.{ArrayGood, DestGood, GoodOp, Ground, OperandGood}
use Rattle.lowered_rules.proofs.FunctionFit.{ArrayThing, IsThing, ScalarThing, array_small, one_thing}
use Rattle.lowered_rules.proofs.ObjectRules.{sound_there}
use Rattle.lowered_rules.proofs.ThingLemmas.{IsOf, Named, Result, Temporary, Thing, pairs_at}
use Rattle.lowered_rules.proofs.ThingsOf.{all_numbered, things}

-- ---- what a good operation names

module _ (G : Ground) where
  dest_scalars : (used : Bool) (dest : Option ℕ) → DestGood G used dest → Each G.scalar (dest_of dest)
  dest_scalars true None h = absurd h
  dest_scalars true (Some o) h = (h, tt)
  dest_scalars false dest h = subst (λ d. Each G.scalar (dest_of d)) (sym h) tt

  operand_scalars : (used : Bool) (a : Operand) → OperandGood G used a → Each G.scalar (object_of a)
  operand_scalars true (Const w) h = tt
  operand_scalars true (Object o) h = (h, tt)
  operand_scalars false a h = subst (λ b. Each G.scalar (object_of b)) (sym h) tt

  pub good_scalars : (op : Op) → GoodOp G op → Each G.scalar (scalars op)
  good_scalars op h =
      each_append G.scalar (dest_of op.dest) (object_of op.a ++ object_of op.b) (dest_scalars (parts_of op.kind).dest op.dest h.dest)
      (each_append G.scalar (object_of op.a) (object_of op.b) (operand_scalars (parts_of op.kind).a op.a h.a) (operand_scalars (parts_of op.kind).b op.b h.b))

  abbrev pub IsArray : ℕ → Type 0
  IsArray o = (k : ℕ) × G.array o k

  array_named : (used : Bool) (u : Option ArrayUse) → ArrayGood G used u → Each IsArray (array_of u)
  array_named true None h = absurd h
  array_named true (Some u) h = ((u.length, h), tt)
  array_named false u h = subst (λ x. Each IsArray (array_of x)) (sym h) tt

  pub good_arrays : (op : Op) → GoodOp G op → Each IsArray (array_of op.array)
  good_arrays op h = array_named (parts_of op.kind).array op.array h.array

-- ---- objects of things

module _ (p : Program) (sound : IsSound p) where
  words_at : (P : Thing → Type 0) (o k : ℕ) → ((t : Thing) (x : declared.Object) → P t → IsOf p t x → x.words ≡ k) → IsThing p P o → HasWords k (slice_get (graph_of p).objects o)
  words_at P o k words t =
      let q = pairs_at p (things p) (numbering p).objects o t.0 (all_numbered p (sound_there p sound)).pairs t.1 in
      subst (HasWords k) (sym q.1) (words t.0 q.0 t.2 q.2)

  named_words : (length : Option ℕ) (x : ℕ) (o : declared.Object) → (v : Variable) × (slice_get p.variables x ≡ Some v) × (v.length ≡ length) → IsOf p (Named x) o → o.words ≡ length_or length
  named_words length x o v is =
      let one : Some is.0 ≡ Some v.0 = sym is.1 ∙ v.1 in
      let same : is.0 ≡ v.0 = cc in
      is.2 ∙ (ap (λ (u : Variable). length_or u.length) same ∙ ap length_or v.2)

  scalar_words : (t : Thing) (o : declared.Object) → ScalarThing p t → IsOf p t o → o.words ≡ 1
  scalar_words (Named x) o s is = named_words None x o s is
  scalar_words (Result m) o s is = ap (λ (q : declared.Object). q.words) is
  scalar_words (Temporary m) o s is = ap (λ (q : declared.Object). q.words) is

  array_words : (k : ℕ) (t : Thing) (o : declared.Object) → ArrayThing p k t → IsOf p t o → o.words ≡ k
  array_words k (Named x) o s is = named_words (Some k) x o s is
  array_words k (Result m) o s is = absurd s
  array_words k (Temporary m) o s is = absurd s

  pub scalar_fits : (o : ℕ) → IsThing p (ScalarThing p) o → IsScalar (graph_of p) o
  scalar_fits o s = words_at (ScalarThing p) o 1 scalar_words s

  pub array_fits : (o k : ℕ) → IsThing p (ArrayThing p k) o → HasWords k (slice_get (graph_of p).objects o)
  array_fits o k s = words_at (ArrayThing p k) o k (array_words k) s

  -- ---- operations

  pub record NodeFits (op : Op) : Type 0 where
    pub fits : OpFits (graph_of p) op
    pub scalars_are : Each (IsThing p (ScalarThing p)) (scalars op)
    pub arrays_are : Each (λ o. (k : ℕ) × IsThing p (ArrayThing p k) o) (array_of op.array)

  module _ (G : Ground) (scalar_is : (o : ℕ) → G.scalar o → IsThing p (ScalarThing p) o) (array_is : (o k : ℕ) → G.array o k → IsThing p (ArrayThing p k) o) where
    dest_fits : (used : Bool) (dest : Option ℕ) → DestGood G used dest → DestFits (graph_of p) used dest
    dest_fits true None h = h
    dest_fits true (Some o) h = scalar_fits o (scalar_is o h)
    dest_fits false dest h = h

    operand_fits : (used : Bool) (a : Operand) → OperandGood G used a → OperandFits (graph_of p) used a
    operand_fits true (Const w) h = h
    operand_fits true (Object o) h = scalar_fits o (scalar_is o h)
    operand_fits false a h = h

    use_fits : (used : Bool) (u : Option ArrayUse) → ArrayGood G used u → ArrayFits (graph_of p) used u
    use_fits true None h = h
    use_fits true (Some u) h = let a = array_is u.object u.length h in (array_fits u.object u.length a, (array_small p sound u.object u.length a).0)
    use_fits false u h = h

    pub good_fits : (op : Op) → GoodOp G op → NodeFits op
    good_fits op h = record {
      fits = record {
        dest = dest_fits (parts_of op.kind).dest op.dest h.dest;
        a = operand_fits (parts_of op.kind).a op.a h.a;
        b = operand_fits (parts_of op.kind).b op.b h.b;
        array = use_fits (parts_of op.kind).array op.array h.array;
        count = h.count;
      };
      scalars_are = each_weaker G.scalar (IsThing p (ScalarThing p)) scalar_is (scalars op) (good_scalars G op h);
      arrays_are = each_weaker (IsArray G) (λ o. (k : ℕ) × IsThing p (ArrayThing p k) o) (λ o a. (a.0, array_is o a.0 a.1)) (array_of op.array) (good_arrays G op h);
    }

  -- no object is used as a scalar and as an array
  pub one_kind : (xs : List Node) → Each (λ (x : Node). NodeFits x.op) xs → IsOneKind xs
  one_kind xs h m n a b o at bt c d =
      let x = each_at (λ (x : Node). NodeFits x.op) xs m a h at in
      let y = each_at (λ (x : Node). NodeFits x.op) xs n b h bt in
      let s = each_contains (IsThing p (ScalarThing p)) (scalars a.op) o x.scalars_are c in
      let u = each_contains (λ o. (k : ℕ) × IsThing p (ArrayThing p k) o) (array_of b.op.array) o y.arrays_are d in
      one_thing p o u.0 s u.1
