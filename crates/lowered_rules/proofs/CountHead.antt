-- What the head of a counted loop says: its variable is a scalar that it declares, and its numbers are words.
use Rattle.std.proofs.Common.{◌≡◌, ℕ, ◌<◌, ◌≤◌, ◌^◌, Bool, true, false, Option, Some, None, List, [], ◌∷◌, refl, subst, arith}
use Rattle.std.specs.Prelude.{◌&&◌, slice_get, is_none, nat_le, ℤ, pos, negsuc, if◌then◌else◌}
use Rattle.std.specs.Option.{option_and_then}
use Rattle.std.proofs.lemmas.Bool.{false≢true}
use Rattle.c_values.specs.declared.ops.Ty.{Ty}
use Rattle.c_values.specs.declared.ops.Ty.TheVariants.{I8, U8, I16, U16}
use Rattle.c_values.specs.declared.ops.BinaryOp.{BinaryOp}
use Rattle.c_values.specs.declared.ops.BinaryOp.TheVariants as binary
use Rattle.c_values.specs.Values.{value}
use Rattle.c_tree.specs.declared.tree.Variable.{Variable}
use Rattle.c_tree.specs.declared.tree.Expr.{Expr}
use Rattle.c_tree.specs.declared.tree.ExprKind.{out-ExprKind}
use Rattle.c_tree.specs.declared.tree.ExprKind.TheOpen.{ExprKind-F}
use Rattle.c_tree.specs.declared.tree.Action.{Action}
use Rattle.c_tree.specs.declared.tree.Declared.{Declared}
use Rattle.c_tree.specs.declared.tree.ForFirst.{ForFirst}
use Rattle.c_tree.specs.declared.tree.ForFirst.TheVariants as first
use Rattle.c_tree.specs.declared.tree.Program.{Program}
use Rattle.c_tree.specs.Layer.{ExprLayer}
use Rattle.lowered_graphs.specs.declared.loops.Count.{Count}
use Rattle.lowered_graphs.specs.Counted.{constant, as_written, greatest, at_most, bound, is_named, steps_up, below_by, below, count_to, count_from, count_scalar, count_declared, count_head}

if_some : {A : Type 0} (b : Bool) (x : Option A) (k : A) → (if b then x else None) ≡ Some k → (b ≡ true) × (x ≡ Some k)
if_some true x k h = (refl, h)
if_some false x k h = absurd (cc)

greatest_small : (ty : Ty) → greatest ty < 2 ^ 16
greatest_small I8 = omega arith
greatest_small U8 = omega arith
greatest_small I16 = omega arith
greatest_small U16 = omega arith

at_most_small : (n : ℕ) (z : ℤ) (k : ℕ) → at_most n z ≡ Some k → k ≤ n
at_most_small n (pos j) k h =
    let s = if_some (nat_le j n) (Some j) k h in
    let same : j ≡ k = cc in
    let le : j ≤ n = grind (arith, s.0) in subst (λ m. m ≤ n) same le
at_most_small n (negsuc j) k h = absurd (cc)

bound_small : (ty : Ty) (e : Expr) (k : ℕ) → bound ty e ≡ Some k → k < 2 ^ 16
bound_small ty e k h = by_word (constant (as_written e)).word (if_some (constant (as_written e)).made _ k h).1
  where
    by_word : (w : Option ℕ) → option_and_then (λ u. at_most (greatest ty) (value (constant (as_written e)).ty u)) w ≡ Some k → k < 2 ^ 16
    by_word None q = absurd (cc)
    by_word (Some u) q = omega (arith, at_most_small (greatest ty) (value (constant (as_written e)).ty u) k q, greatest_small ty)

below_small : (x : ℕ) (ty : Ty) (test : Option Expr) (k : ℕ) → below x ty test ≡ Some k → k < 2 ^ 16
below_small x ty None k h = absurd (cc)
below_small x ty (Some e) k h = by_layer (out-ExprKind e.kind) h
  where
    less : (op : BinaryOp) (a b : Expr) → below_by x ty (ExprKind-F.Binary op a b) ≡ Some k → k < 2 ^ 16
    less binary.Less a b q = bound_small ty b k (if_some (is_named x a && nat_le (greatest ty) (greatest a.ty)) (bound ty b) k q).1
    less _ a b q = absurd (cc)

    by_layer : (l : ExprLayer) → below_by x ty l ≡ Some k → k < 2 ^ 16
    by_layer (ExprKind-F.Binary op a b) q = less op a b q
    by_layer _ q = absurd (cc)

pub record Counting (p : Program) (f : Option ForFirst) (k : Count) : Type 0 where
  pub declared : Declared
  pub is_declared : f ≡ Some (first.Declare (declared ∷ []))
  pub same : declared.variable ≡ k.variable
  pub variable : Variable
  pub there : slice_get p.variables k.variable ≡ Some variable
  pub single : variable.length ≡ None
  pub from : k.from < 2 ^ 16
  pub to : k.to < 2 ^ 16

none_is : (n : Option ℕ) → is_none n ≡ true → n ≡ None
none_is None h = refl
none_is (Some n) h = absurd (false≢true h)

module _ (p : Program) (d : Declared) (test : Option Expr) (step : Option Action) (k : Count) where
  by_to : (v : Variable) (a : ℕ) (b : Option ℕ) → slice_get p.variables d.variable ≡ Some v → v.length ≡ None → a < 2 ^ 16 → ((n : ℕ) → b ≡ Some n → n < 2 ^ 16) → count_to d a b ≡ Some k → Counting p (Some (first.Declare (d ∷ []))) k
  by_to v a None e n la lb h = absurd (cc)
  by_to v a (Some b) e n la lb h =
      let same : record { variable = d.variable; place = d.place; from = a; to = b } ≡ k = cc in
      subst (Counting p (Some (first.Declare (d ∷ [])))) same
      (record { declared = d; is_declared = refl; same = refl; variable = v; there = e; single = n; from = la; to = lb b refl })

  by_from : (v : Variable) (a : Option ℕ) → slice_get p.variables d.variable ≡ Some v → v.length ≡ None → ((n : ℕ) → a ≡ Some n → n < 2 ^ 16) → count_from d v.ty test a ≡ Some k → Counting p (Some (first.Declare (d ∷ []))) k
  by_from v None e n la h = absurd (cc)
  by_from v (Some a) e n la h = by_to v a (below d.variable v.ty test) e n (la a refl) (λ m. below_small d.variable v.ty test m) h

  by_scalar : (v : Option Variable) (es : List Expr) → slice_get p.variables d.variable ≡ v → count_scalar d v es test ≡ Some k → Counting p (Some (first.Declare (d ∷ []))) k
  by_scalar None es e h = absurd (cc)
  by_scalar (Some v) [] e h = absurd (cc)
  by_scalar (Some v) (x ∷ y ∷ es) e h = absurd (cc)
  by_scalar (Some v) (x ∷ []) e h =
      let s = if_some (is_none v.length) (count_from d v.ty test (bound v.ty x)) k h in by_from v (bound v.ty x) e (none_is v.length s.0) (λ m. bound_small v.ty x m) s.1

  by_declared : count_declared p d test step ≡ Some k → Counting p (Some (first.Declare (d ∷ []))) k
  by_declared h = by_scalar (slice_get p.variables d.variable) d.values refl (if_some (steps_up d.variable step) (count_scalar d (slice_get p.variables d.variable) d.values test) k h).1

pub count_is : (p : Program) (f : Option ForFirst) (test : Option Expr) (step : Option Action) (k : Count) → count_head p f test step ≡ Some k → Counting p f k
count_is p None test step k h = absurd (cc)
count_is p (Some (first.Act a)) test step k h = absurd (cc)
count_is p (Some (first.Declare [])) test step k h = absurd (cc)
count_is p (Some (first.Declare (d ∷ []))) test step k h = by_declared p d test step k h
count_is p (Some (first.Declare (d ∷ e ∷ ds))) test step k h = absurd (cc)
