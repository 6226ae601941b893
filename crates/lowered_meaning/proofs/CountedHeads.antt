-- The head of a loop of a known number of turns, taken apart.
use Rattle.std.proofs.Common.{◌≡◌, ℕ, ◌≤◌, Bool, true, false, Option, Some, None, List, [], ◌∷◌, refl, sym, ap, ◌∙◌, arith, inl, inr}
use Rattle.std.specs.Prelude.{if◌then◌else◌, slice_get, is_none, ◌==◌, ◌&&◌, nat_le}
use Rattle.std.specs.Option.{option_map}
use Rattle.base_io.specs.declared.place.Place.{Place}
use Rattle.std.proofs.lemmas.Bool.{leb-true}
use Rattle.c_values.specs.declared.ops.Ty.{Ty}
use Rattle.c_values.specs.declared.ops.Ty.TheVariants.{I8, U8, I16, U16}
use Rattle.c_values.specs.declared.ops.BinaryOp.{BinaryOp}
use Rattle.c_values.specs.declared.ops.BinaryOp.TheVariants as binary
use Rattle.c_values.specs.Values.{converted}
use Rattle.c_tree.specs.declared.tree.Variable.{Variable}
use Rattle.c_tree.specs.declared.tree.Declared.{Declared}
use Rattle.c_tree.specs.declared.tree.Target.{Target}
use Rattle.c_tree.specs.declared.tree.Action.{Action}
use Rattle.c_tree.specs.declared.tree.Action.TheVariants as action
use Rattle.c_tree.specs.declared.tree.ForFirst.{ForFirst}
use Rattle.c_tree.specs.declared.tree.ForFirst.TheVariants as first
use Rattle.c_tree.specs.declared.tree.Expr.{Expr}
use Rattle.c_tree.specs.declared.tree.ExprKind.{out-ExprKind}
use Rattle.c_tree.specs.declared.tree.ExprKind.TheOpen.{ExprKind-F}
use Rattle.c_tree.specs.declared.tree.Program.{Program}
use Rattle.c_tree.specs.Layer.{ExprLayer}
use Rattle.c_tree.specs.Nodes.{same_type}
use Rattle.sound_programs.specs.Counted.{expr_nodes}
use Rattle.flow_graph.specs.declared.graph.Graph.{Graph}
use Rattle.lowered_graphs.specs.declared.loops.Count.{Count}
use Rattle.lowered_graphs.specs.Counted.{constant, constant_parts, constant_by, same_place, inner_of, greatest, bound, is_variable, is_named, is_one, is_int_one, by_one, is_add, steps_up, below_by, below, count_to, count_from, count_scalar, count_head}
use Rattle.lowered_graphs.proofs.ConstantLevels.{constant_level}
use Rattle.lowered_meaning.proofs.CountedConstants.{Known, constant_known, and_left, and_right}
use Rattle.lowered_meaning.proofs.CountedBounds.{NamedAs, IsByOne, kept_small}

-- the parts of such a head
pub record Head (p : Program) (f : Option ForFirst) (test : Option Expr) (step : Option Action) (count : Count) : Type 0 where
  pub declared : Declared
  pub variable : Variable
  pub value : Expr
  pub tested : Expr
  pub left : Expr
  pub right : Expr
  pub target : Target
  pub place : Place
  pub ty : Ty
  pub by : Option Expr
  pub first_is : f ≡ Some (first.Declare (declared ∷ []))
  pub named_is : declared.variable ≡ count.variable
  pub place_is : declared.place ≡ count.place
  pub values_are : declared.values ≡ value ∷ []
  pub variable_is : slice_get p.variables count.variable ≡ Some variable
  pub scalar : variable.length ≡ None
  pub from_is : bound variable.ty value ≡ Some count.from
  pub test_is : test ≡ Some tested
  pub less : out-ExprKind tested.kind ≡ ExprKind-F.Binary binary.Less left right
  pub is_variable : is_named count.variable left ≡ true
  pub wide : greatest variable.ty ≤ greatest left.ty
  pub to_is : bound variable.ty right ≡ Some count.to
  pub step_is : step ≡ Some (action.Update target place binary.Add ty by)
  pub to_variable : target.variable ≡ count.variable
  pub no_index : target.index ≡ None
  pub one_more : by_one by ≡ true

none_is : {A : Type 0} (o : Option A) → is_none o ≡ true → o ≡ None
none_is None e = refl
none_is (Some x) e = cc

add_is : (op : BinaryOp) → is_add op ≡ true → op ≡ binary.Add
add_is binary.Add e = refl
add_is binary.Mul e = cc
add_is binary.Div e = cc
add_is binary.Rem e = cc
add_is binary.Sub e = cc
add_is binary.Shl e = cc
add_is binary.Shr e = cc
add_is binary.Less e = cc
add_is binary.Greater e = cc
add_is binary.LessEq e = cc
add_is binary.GreaterEq e = cc
add_is binary.Equal e = cc
add_is binary.NotEqual e = cc
add_is binary.BitAnd e = cc
add_is binary.BitXor e = cc
add_is binary.BitOr e = cc
add_is binary.And e = cc
add_is binary.Or e = cc

same_number : (x y : ℕ) → (x == y) ≡ true → x ≡ y
same_number x y e = grind arith

-- where a comparison stands
pub record BelowIs (x : ℕ) (ty : Ty) (test : Option Expr) (k : ℕ) : Type 0 where
  pub tested : Expr
  pub left : Expr
  pub right : Expr
  pub test_is : test ≡ Some tested
  pub less : out-ExprKind tested.kind ≡ ExprKind-F.Binary binary.Less left right
  pub named : is_named x left ≡ true
  pub wide : greatest ty ≤ greatest left.ty
  pub to_is : bound ty right ≡ Some k

below_of : (x : ℕ) (ty : Ty) (test : Option Expr) (k : ℕ) → below x ty test ≡ Some k → BelowIs x ty test k
below_of x ty None k e = cc
below_of x ty (Some t) k e = by_layer (out-ExprKind t.kind) refl e
  where
    by_named : (a b : Expr) (c : Bool) → (is_named x a && nat_le (greatest ty) (greatest a.ty)) ≡ c → out-ExprKind t.kind ≡ ExprKind-F.Binary binary.Less a b → (if c then bound ty b else None) ≡ Some k → BelowIs x ty (Some t) k
    by_named a b true n q h = record { tested = t; left = a; right = b; test_is = refl; less = q; named = and_left (is_named x a) (nat_le (greatest ty) (greatest a.ty)) n; wide = leb-true (greatest ty) (greatest a.ty) (and_right (is_named x a) (nat_le (greatest ty) (greatest a.ty)) n); to_is = h }
    by_named a b false n q h = cc

    by_op : (op : BinaryOp) (a b : Expr) → out-ExprKind t.kind ≡ ExprKind-F.Binary op a b → below_by x ty (ExprKind-F.Binary op a b) ≡ Some k → BelowIs x ty (Some t) k
    by_op binary.Less a b q h = by_named a b (is_named x a && nat_le (greatest ty) (greatest a.ty)) refl q h
    by_op binary.Add a b q h = cc
    by_op binary.Mul a b q h = cc
    by_op binary.Div a b q h = cc
    by_op binary.Rem a b q h = cc
    by_op binary.Sub a b q h = cc
    by_op binary.Shl a b q h = cc
    by_op binary.Shr a b q h = cc
    by_op binary.Greater a b q h = cc
    by_op binary.LessEq a b q h = cc
    by_op binary.GreaterEq a b q h = cc
    by_op binary.Equal a b q h = cc
    by_op binary.NotEqual a b q h = cc
    by_op binary.BitAnd a b q h = cc
    by_op binary.BitXor a b q h = cc
    by_op binary.BitOr a b q h = cc
    by_op binary.And a b q h = cc
    by_op binary.Or a b q h = cc

    by_layer : (l : ExprLayer) → out-ExprKind t.kind ≡ l → below_by x ty l ≡ Some k → BelowIs x ty (Some t) k
    by_layer (ExprKind-F.Binary op a b) q h = by_op op a b q h
    by_layer (ExprKind-F.Number m) q h = cc
    by_layer (ExprKind-F.Var y) q h = cc
    by_layer (ExprKind-F.Element y i) q h = cc
    by_layer (ExprKind-F.Convert a) q h = cc
    by_layer (ExprKind-F.Unary op a) q h = cc
    by_layer (ExprKind-F.Cond c a b) q h = cc
    by_layer (ExprKind-F.Call y args) q h = cc
    by_layer ExprKind-F.Input q h = cc
    by_layer (ExprKind-F.Output a) q h = cc

-- what the step says
pub record StepIs (x : ℕ) (step : Option Action) : Type 0 where
  pub target : Target
  pub place : Place
  pub ty : Ty
  pub by : Option Expr
  pub step_is : step ≡ Some (action.Update target place binary.Add ty by)
  pub to_variable : target.variable ≡ x
  pub no_index : target.index ≡ None
  pub one_more : by_one by ≡ true

step_of : (x : ℕ) (step : Option Action) → steps_up x step ≡ true → StepIs x step
step_of x None e = cc
step_of x (Some (action.Value a)) e = cc
step_of x (Some (action.Assign to a)) e = cc
step_of x (Some (action.Update to at op ty by)) e =
    let rest : (is_none to.index && (is_add op && by_one by)) ≡ true = and_right (to.variable == x) _ e in
    let last : (is_add op && by_one by) ≡ true = and_right (is_none to.index) _ rest in
    record {
      target = to;
      place = at;
      ty = ty;
      by = by;
      step_is = ap (λ o. Some (action.Update to at o ty by)) (add_is op (and_left (is_add op) (by_one by) last));
      to_variable = same_number to.variable x (and_left (to.variable == x) (is_none to.index && (is_add op && by_one by)) e);
      no_index = none_is to.index (and_left (is_none to.index) (is_add op && by_one by) rest);
      one_more = and_right (is_add op) (by_one by) last;
    }

abbrev count_back : Option Count → Count → Count
count_back None c = c
count_back (Some d) c = d

pub head_of : (p : Program) (f : Option ForFirst) (test : Option Expr) (step : Option Action) (count : Count) → count_head p f test step ≡ Some count → Head p f test step count
head_of p None test step count e = cc
head_of p (Some (first.Act a)) test step count e = cc
head_of p (Some (first.Declare [])) test step count e = cc
head_of p (Some (first.Declare (d ∷ d2 ∷ ds))) test step count e = cc
head_of p (Some (first.Declare (d ∷ []))) test step count e = by_step (steps_up d.variable step) refl e
  where
    Goal : Type 0
    Goal = Head p (Some (first.Declare (d ∷ []))) test step count

    made : (v : Variable) (a : Expr) (k m : ℕ) → StepIs d.variable step → slice_get p.variables d.variable ≡ Some v → v.length ≡ None → d.values ≡ a ∷ [] → bound v.ty a ≡ Some k
        → BelowIs d.variable v.ty test m → record { variable = d.variable; place = d.place; from = k; to = m } ≡ count → Goal
    made v a k m st var none vals from b is = record {
      declared = d;
      variable = v;
      value = a;
      tested = b.tested;
      left = b.left;
      right = b.right;
      target = st.target;
      place = st.place;
      ty = st.ty;
      by = st.by;
      first_is = refl;
      named_is = ap (λ c. c.variable) is;
      place_is = ap (λ c. c.place) is;
      values_are = vals;
      variable_is = ap (λ c. slice_get p.variables c.variable) (sym is) ∙ var;
      scalar = none;
      from_is = from ∙ ap (λ c. Some c.from) is;
      test_is = b.test_is;
      less = b.less;
      is_variable = ap (λ c. is_named c.variable b.left) (sym is) ∙ b.named;
      wide = b.wide;
      to_is = b.to_is ∙ ap (λ c. Some c.to) is;
      step_is = st.step_is;
      to_variable = st.to_variable ∙ ap (λ c. c.variable) is;
      no_index = st.no_index;
      one_more = st.one_more;
    }

    by_below : (v : Variable) (a : Expr) (k : ℕ) (m : Option ℕ) → StepIs d.variable step → slice_get p.variables d.variable ≡ Some v → v.length ≡ None → d.values ≡ a ∷ [] → bound v.ty a ≡ Some k
        → below d.variable v.ty test ≡ m → count_to d k m ≡ Some count → Goal
    by_below v a k None st var none vals from q h = cc
    by_below v a k (Some m) st var none vals from q h = made v a k m st var none vals from (below_of d.variable v.ty test m q) (ap (λ o. count_back o count) h)

    by_from : (v : Variable) (a : Expr) (k : Option ℕ) → StepIs d.variable step → slice_get p.variables d.variable ≡ Some v → v.length ≡ None → d.values ≡ a ∷ [] → bound v.ty a ≡ k
        → count_from d v.ty test k ≡ Some count → Goal
    by_from v a None st var none vals q h = cc
    by_from v a (Some k) st var none vals q h = by_below v a k (below d.variable v.ty test) st var none vals q refl h

    by_length : (v : Variable) (a : Expr) (b : Bool) → StepIs d.variable step → slice_get p.variables d.variable ≡ Some v → is_none v.length ≡ b → d.values ≡ a ∷ []
        → (if b then count_from d v.ty test (bound v.ty a) else None) ≡ Some count → Goal
    by_length v a true st var none vals h = by_from v a (bound v.ty a) st var (none_is v.length none) vals refl h
    by_length v a false st var none vals h = cc

    by_values : (v : Variable) (vs : List Expr) → StepIs d.variable step → slice_get p.variables d.variable ≡ Some v → d.values ≡ vs → count_scalar d (Some v) vs test ≡ Some count → Goal
    by_values v [] st var vals h = cc
    by_values v (a ∷ []) st var vals h = by_length v a (is_none v.length) st var refl vals h
    by_values v (a ∷ b ∷ vs) st var vals h = cc

    by_variable : (v : Option Variable) → StepIs d.variable step → slice_get p.variables d.variable ≡ v → count_scalar d v d.values test ≡ Some count → Goal
    by_variable None st var h = cc
    by_variable (Some v) st var h = by_values v d.values st var refl h

    by_step : (b : Bool) → steps_up d.variable step ≡ b → (if b then count_scalar d (slice_get p.variables d.variable) d.values test else None) ≡ Some count → Goal
    by_step true q h = by_variable (slice_get p.variables d.variable) (step_of d.variable step q) refl h
    by_step false q h = cc

-- ---- the variable that is named

-- a use of the variable has the variable's type
abbrev pub VarTyped : ℕ → Ty → Expr → Type 0
VarTyped x own a = (out-ExprKind a.kind ≡ ExprKind-F.Var x → a.ty ≡ own) × ((c : Expr) → out-ExprKind a.kind ≡ ExprKind-F.Convert c → out-ExprKind c.kind ≡ ExprKind-F.Var x → c.ty ≡ own)

var_is : (x : ℕ) (l : ExprLayer) → is_variable x l ≡ true → l ≡ ExprKind-F.Var x
var_is x (ExprKind-F.Var y) e = ap ExprKind-F.Var (sym (same_number x y e))
var_is x (ExprKind-F.Number m) e = cc
var_is x (ExprKind-F.Element y i) e = cc
var_is x (ExprKind-F.Convert a) e = cc
var_is x (ExprKind-F.Unary op a) e = cc
var_is x (ExprKind-F.Binary op a b) e = cc
var_is x (ExprKind-F.Cond c a b) e = cc
var_is x (ExprKind-F.Call y args) e = cc
var_is x ExprKind-F.Input e = cc
var_is x (ExprKind-F.Output a) e = cc

module _ (g : Graph) (most : ℕ) (p : Program) where
  pub named_as : (x : ℕ) (own : Ty) (a : Expr) → VarTyped x own a → is_named x a ≡ true → NamedAs g most p x own a
  named_as x own a typed e = by_layer (out-ExprKind a.kind) refl e
    where
      itself : is_variable x (out-ExprKind a.kind) ≡ true → NamedAs g most p x own a
      itself h = inl (var_is x (out-ExprKind a.kind) h, typed.0 (var_is x (out-ExprKind a.kind) h))

      by_place : (c : Expr) (b : Bool) → out-ExprKind a.kind ≡ ExprKind-F.Convert c → is_variable x (out-ExprKind (if b then c else a).kind) ≡ true → NamedAs g most p x own a
      by_place c true q h = inr (c, q, var_is x (out-ExprKind c.kind) h, typed.1 c q (var_is x (out-ExprKind c.kind) h))
      by_place c false q h = itself h

      by_layer : (l : ExprLayer) → out-ExprKind a.kind ≡ l → is_variable x (out-ExprKind (inner_of a l).kind) ≡ true → NamedAs g most p x own a
      by_layer (ExprKind-F.Convert c) q h = by_place c (same_place a.place c.place) q h
      by_layer (ExprKind-F.Number m) q h = itself h
      by_layer (ExprKind-F.Var y) q h = itself h
      by_layer (ExprKind-F.Element y i) q h = itself h
      by_layer (ExprKind-F.Unary op c) q h = itself h
      by_layer (ExprKind-F.Binary op c b) q h = itself h
      by_layer (ExprKind-F.Cond c d b) q h = itself h
      by_layer (ExprKind-F.Call y args) q h = itself h
      by_layer ExprKind-F.Input q h = itself h
      by_layer (ExprKind-F.Output c) q h = itself h

  int_is : (ty : Ty) → same_type ty I16 ≡ true → ty ≡ I16
  int_is I8 e = cc
  int_is U8 e = cc
  int_is I16 e = refl
  int_is U16 e = cc

  one_is : (l : ExprLayer) → is_one l ≡ true → l ≡ ExprKind-F.Number 1
  one_is (ExprKind-F.Number m) e = ap ExprKind-F.Number (same_number m 1 e)
  one_is (ExprKind-F.Var y) e = cc
  one_is (ExprKind-F.Element y i) e = cc
  one_is (ExprKind-F.Convert a) e = cc
  one_is (ExprKind-F.Unary op a) e = cc
  one_is (ExprKind-F.Binary op a b) e = cc
  one_is (ExprKind-F.Cond c a b) e = cc
  one_is (ExprKind-F.Call y args) e = cc
  one_is ExprKind-F.Input e = cc
  one_is (ExprKind-F.Output a) e = cc

  -- an int 1 as a constant
  one_constant : (e : Expr) → is_int_one e ≡ true → constant_by (ExprKind-F.Number 1) I16 ≡ constant e
  one_constant e is = ap (λ t. constant_by (ExprKind-F.Number 1) t) (sym (int_is e.ty (and_left (same_type e.ty I16) (is_one (out-ExprKind e.kind)) is)))
      ∙ (ap (λ l. constant_by (constant_parts l) e.ty) (sym (one_is (out-ExprKind e.kind) (and_right (same_type e.ty I16) (is_one (out-ExprKind e.kind)) is))) ∙ constant_level e)

  one_most : (ty : Ty) → 1 ≤ greatest ty
  one_most I8 = omega arith
  one_most U8 = omega arith
  one_most I16 = omega arith
  one_most U16 = omega arith

  pub by_one_is : (by : Option Expr) → by_one by ≡ true → IsByOne g most p by
  by_one_is None e = tt
  by_one_is (Some e) is = by_layer (out-ExprKind e.kind) refl is
    where
      itself : is_int_one e ≡ true → Known g most p e 1
      itself h = constant_known g most p (expr_nodes e) e (omega arith) (ap (λ c. c.made) (sym (one_constant e h))) 1 (ap (λ c. c.word) (sym (one_constant e h)))

      inner : (a : Expr) → out-ExprKind e.kind ≡ ExprKind-F.Convert a → is_int_one a ≡ true → Known g most p e 1
      inner a q h =
          let level : constant_by (constant_parts (ExprKind-F.Convert a)) e.ty ≡ constant e = ap (λ l. constant_by (constant_parts l) e.ty) (sym q) ∙ constant_level e in
          constant_known g most p (expr_nodes e) e (omega arith) (ap (λ c. c.made) (sym level) ∙ ap (λ c. c.made) (sym (one_constant a h))) 1
          (ap (λ c. c.word) (sym level) ∙ (ap (λ c. option_map (converted e.ty c.ty) c.word) (sym (one_constant a h)) ∙ ap Some (kept_small e.ty 1 (one_most e.ty))))

      by_place : (a : Expr) (b : Bool) → out-ExprKind e.kind ≡ ExprKind-F.Convert a → is_int_one (if b then a else e) ≡ true → Known g most p e 1
      by_place a true q h = inner a q h
      by_place a false q h = itself h

      by_layer : (l : ExprLayer) → out-ExprKind e.kind ≡ l → is_int_one (inner_of e l) ≡ true → Known g most p e 1
      by_layer (ExprKind-F.Convert a) q h = by_place a (same_place e.place a.place) q h
      by_layer (ExprKind-F.Number m) q h = itself h
      by_layer (ExprKind-F.Var y) q h = itself h
      by_layer (ExprKind-F.Element y i) q h = itself h
      by_layer (ExprKind-F.Unary op c) q h = itself h
      by_layer (ExprKind-F.Binary op c b) q h = itself h
      by_layer (ExprKind-F.Cond c d b) q h = itself h
      by_layer (ExprKind-F.Call y args) q h = itself h
      by_layer ExprKind-F.Input q h = itself h
      by_layer (ExprKind-F.Output c) q h = itself h
