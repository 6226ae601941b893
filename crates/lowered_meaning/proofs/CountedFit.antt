-- What soundness and scoping say of a loop of a known number of turns.
use Rattle.std.proofs.Common.{◌≡◌, ◌≢◌, ℕ, ◌≤◌, Bool, true, false, Option, Some, None, List, [], ◌∷◌, length, refl, sym, ap, ◌∙◌, subst, arith, ◌⊎◌, inl, inr}
use Rattle.std.specs.Prelude.{is_none, is_some, not, nat_le, slice_get, ◌&&◌, ◌||◌}
use Rattle.c_values.specs.declared.ops.Ty.{Ty}
use Rattle.c_values.specs.declared.ops.Ty.TheVariants.{I8, U8, I16, U16}
use Rattle.c_values.specs.declared.ops.BinaryOp.TheVariants as binary
use Rattle.c_tree.specs.declared.tree.Expr.{Expr}
use Rattle.c_tree.specs.declared.tree.ExprKind.{out-ExprKind}
use Rattle.c_tree.specs.declared.tree.ExprKind.TheOpen.{ExprKind-F}
use Rattle.c_tree.specs.declared.tree.Variable.{Variable}
use Rattle.c_tree.specs.declared.tree.Action.{Action}
use Rattle.c_tree.specs.declared.tree.Action.TheVariants as action
use Rattle.c_tree.specs.declared.tree.Stmt.{Stmt}
use Rattle.c_tree.specs.declared.tree.BlockItem.TheOpen.{StmtKind-F}
use Rattle.c_tree.specs.declared.tree.ForFirst.{ForFirst}
use Rattle.c_tree.specs.declared.tree.Program.{Program}
use Rattle.c_tree.specs.Runs.{State}
use Rattle.c_tree.specs.Nodes.{same_type, to_depth}
use Rattle.sound_programs.specs.Sound.{Typing, has_value, has_type, have_common, is_scalar, binary_fits, typing, typing_by, known, promoted, works_in, target_fits, update_fits, capacity, values_fit, declared_as}
use Rattle.sound_programs.specs.Scoped.{Scope}
use Rattle.sound_programs.specs.Scoped as scoping
use Rattle.sound_programs.proofs.SoundLevels.{typing_level}
use Rattle.flow_graph.specs.declared.graph.Graph.{Graph}
use Rattle.lowered_graphs.specs.declared.loops.Count.{Count}
use Rattle.lowered_graphs.specs.Counted.{greatest}
use Rattle.lowered_graphs.specs.Exprs.{length_or, length_in}
use Rattle.lowered_meaning.specs.Keeps.{Ground}
use Rattle.lowered_meaning.specs.Leaves.{Callee}
use Rattle.lowered_meaning.proofs.AssignStores.{Storable}
use Rattle.lowered_meaning.proofs.CallsParameters.{Enters}
use Rattle.lowered_meaning.proofs.CountedHeads.{Head}
use Rattle.lowered_meaning.proofs.CountedLevels.{OnBoth, words_in}
use Rattle.lowered_meaning.proofs.ExprTypes.{own_type}
use Rattle.lowered_meaning.proofs.StmtInduction.{FirstScope, CountedFits}
use Rattle.lowered_meaning.proofs.FitParts.{both_parts, either_part, IsTyped, typed_value, value_is, binary_typed, variables_sized}
use Rattle.lowered_meaning.proofs.FitExprs.{Fit, Grounded, Covers}
use Rattle.lowered_meaning.proofs.FitActions.{IsLocal, homes_over, local_home}
use Rattle.lowered_meaning.proofs.GoodStmts.{GoodDeclared, GoodFirst, FitOpt, GoodAction, GoodStep, GoodLayer}

-- ---- types

pub same_is : (a b : Ty) → same_type a b ≡ true → a ≡ b
same_is I8 I8 e = refl
same_is I8 U8 e = cc
same_is I8 I16 e = cc
same_is I8 U16 e = cc
same_is U8 I8 e = cc
same_is U8 U8 e = refl
same_is U8 I16 e = cc
same_is U8 U16 e = cc
same_is I16 I8 e = cc
same_is I16 U8 e = cc
same_is I16 I16 e = refl
same_is I16 U16 e = cc
same_is U16 I8 e = cc
same_is U16 U8 e = cc
same_is U16 I16 e = cc
same_is U16 U16 e = refl

promoted_holds : (ty : Ty) → greatest ty ≤ greatest (promoted ty)
promoted_holds I8 = omega arith
promoted_holds U8 = omega arith
promoted_holds I16 = omega arith
promoted_holds U16 = omega arith

unsigned_holds : (ty : Ty) → greatest ty ≤ greatest U16
unsigned_holds I8 = omega arith
unsigned_holds U8 = omega arith
unsigned_holds I16 = omega arith
unsigned_holds U16 = omega arith

-- an expression of a type has it
typed_as : (p : Program) (e : Expr) (ty : Ty) (t : Typing) → typing p e ≡ t → has_type ty t ≡ true → e.ty ≡ ty
typed_as p e ty None h has = cc
typed_as p e ty (Some None) h has = cc
typed_as p e ty (Some (Some t)) h has = own_type p e t h ∙ sym (same_is ty t has)

abbrev is_typed : Typing → Bool
is_typed t = is_some t

-- a use of a scalar has the scalar's type
var_typed : (p : Program) (x : ℕ) (v : Variable) (e : Expr) → slice_get p.variables x ≡ Some v → IsTyped (typing p e) → out-ExprKind e.kind ≡ ExprKind-F.Var x → e.ty ≡ v.ty
var_typed p x v e found typed is =
    let t : IsTyped (typing_by p (known p (ExprKind-F.Var x)) e.ty) = subst (λ l. IsTyped (typing_by p (known p l) e.ty)) is (ap is_typed (typing_level p e) ∙ typed) in
    let s : is_scalar e.ty (Some v) ≡ true = subst (λ o. is_scalar e.ty o ≡ true) found (value_is (is_scalar e.ty (slice_get p.variables x)) e.ty t) in
    sym (same_is v.ty e.ty (both_parts (is_none v.length) (same_type v.ty e.ty) s).1)

-- so has one that is converted
converted_typed : (p : Program) (x : ℕ) (v : Variable) (e c : Expr) → slice_get p.variables x ≡ Some v → IsTyped (typing p e) → out-ExprKind e.kind ≡ ExprKind-F.Convert c → out-ExprKind c.kind ≡ ExprKind-F.Var x → c.ty ≡ v.ty
converted_typed p x v e c found typed is named =
    let t : IsTyped (typing_by p (known p (ExprKind-F.Convert c)) e.ty) = subst (λ l. IsTyped (typing_by p (known p l) e.ty)) is (ap is_typed (typing_level p e) ∙ typed) in
    let h = both_parts (has_value (typing p c)) (not (has_type e.ty (typing p c))) (value_is (has_value (typing p c) && not (has_type e.ty (typing p c))) e.ty t) in
    var_typed p x v c found (typed_value (typing p c) h.0) named

-- the operands of a comparison
less_typed : (p : Program) (e a b : Expr) → IsTyped (typing p e) → out-ExprKind e.kind ≡ ExprKind-F.Binary binary.Less a b → have_common (typing p a) (typing p b) ≡ true
less_typed p e a b typed is =
    let t : IsTyped (typing_by p (known p (ExprKind-F.Binary binary.Less a b)) e.ty) = subst (λ l. IsTyped (typing_by p (known p l) e.ty)) is (ap is_typed (typing_level p e) ∙ typed) in
    (both_parts (have_common (typing p a) (typing p b)) (same_type e.ty I16) (value_is (binary_fits binary.Less (typing p a) (typing p b) e.ty) e.ty t)).0

-- both operands have one type
common_type : (p : Program) (a b : Expr) → have_common (typing p a) (typing p b) ≡ true → a.ty ≡ b.ty
common_type p a b h = by (either_part (has_type I16 (typing p a) && has_type I16 (typing p b)) (has_type U16 (typing p a) && has_type U16 (typing p b)) h)
  where
    by : (((has_type I16 (typing p a) && has_type I16 (typing p b)) ≡ true) ⊎ ((has_type U16 (typing p a) && has_type U16 (typing p b)) ≡ true)) → a.ty ≡ b.ty
    by (inl e) = let i = both_parts (has_type I16 (typing p a)) (has_type I16 (typing p b)) e in typed_as p a I16 (typing p a) refl i.0 ∙ sym (typed_as p b I16 (typing p b) refl i.1)
    by (inr e) = let i = both_parts (has_type U16 (typing p a)) (has_type U16 (typing p b)) e in typed_as p a U16 (typing p a) refl i.0 ∙ sym (typed_as p b U16 (typing p b) refl i.1)

-- the type in which a step is worked out holds the variable's numbers
step_holds : (p : Program) (own ty : Ty) (by : Option Expr) → works_in p binary.Add own ty by ≡ true → greatest own ≤ greatest ty
step_holds p own ty None h = subst (λ t. greatest own ≤ greatest t) (sym (same_is ty (promoted own) h)) (promoted_holds own)
step_holds p own ty (Some e) h =
    by (either_part (same_type ty (promoted own)) (same_type ty U16) (both_parts (same_type ty (promoted own) || same_type ty U16) (has_type ty (typing p e)) h).0)
  where
    by : ((same_type ty (promoted own) ≡ true) ⊎ (same_type ty U16 ≡ true)) → greatest own ≤ greatest ty
    by (inl q) = subst (λ t. greatest own ≤ greatest t) (sym (same_is ty (promoted own) q)) (promoted_holds own)
    by (inr q) = subst (λ t. greatest own ≤ greatest t) (sym (same_is ty U16 q)) (unsigned_holds own)

-- the one value with which a scalar begins has its type
value_typed : (p : Program) (v : Variable) (values : List Expr) (e : Expr) (o : Option Variable) → o ≡ Some v → values ≡ e ∷ [] → declared_as p values o ≡ true → e.ty ≡ v.ty
value_typed p v values e None q r h = cc
value_typed p v values e (Some u) q r h =
    let i = both_parts (not u.global) (nat_le (length values) (capacity u.length) && values_fit p u.ty values) h in
    let j = both_parts (nat_le (length values) (capacity u.length)) (values_fit p u.ty values) i.1 in
    let k : values_fit p u.ty (e ∷ []) ≡ true = subst (λ es. values_fit p u.ty es ≡ true) r j.1 in
    typed_as p e u.ty (typing p e) refl (both_parts (has_type u.ty (typing p e)) true k).0 ∙ ap own q
  where
    own : Option Variable → Ty
    own None = I8
    own (Some z) = z.ty

-- what an update of a scalar says of its type
update_works : (p : Program) (v : Variable) (index by : Option Expr) (ty : Ty) (o : Option Variable) → o ≡ Some v → update_fits p index binary.Add ty by o ≡ true → works_in p binary.Add v.ty ty by ≡ true
update_works p v index by ty None q h = cc
update_works p v index by ty (Some u) q h = subst (λ z. works_in p binary.Add z ty by ≡ true) (ap own q) (both_parts (target_fits p u index) (works_in p binary.Add u.ty ty by) h).1
  where
    own : Option Variable → Ty
    own None = I8
    own (Some z) = z.ty

-- ---- the loop

module _ (g : Graph) (f : Callee) (most : ℕ) (May : ℕ → Type 0) (grounded : Grounded f.ground)
    (scope : ℕ → Type 0) (xs : Scope) (st : scoping.Stand) (o : Option ForFirst) (test : Option Expr) (step : Option Action) (body : Stmt) (covers : Covers f.ground scope xs)
    (good : GoodLayer f.ground f.is_main f.result May st xs (StmtKind-F.For o test step body)) (count : Count) (h : Head f.ground.setting.program o test step count) where
  abbrev w : Ground
  w = f.ground

  abbrev p : Program
  p = w.setting.program

  abbrev x : ℕ
  x = count.variable

  declared : GoodDeclared w f.is_main f.result May xs (h.declared ∷ [])
  declared = subst (λ z. GoodFirst w f.is_main f.result May xs z) h.first_is good.0

  pub is_local : IsLocal w x
  is_local = subst (IsLocal w) h.named_is declared.local.0

  abbrev Over : ℕ → Type 0
  Over y = (y ≡ h.declared.variable) ⊎ scope y

  sizes : (1 ≤ length_in (slice_get p.variables x)) × (length_in (slice_get p.variables x) ≤ 1024)
  sizes = let s = variables_sized p.variables grounded.variables x in (s.1 h.variable h.variable_is, s.0)

  enters : Enters w scope Over x
  enters = record {
    differ = grounded.differ;
    homes = homes_over w scope h.declared.variable covers.homes declared.local.0;
    has = is_local.has;
    home_is = local_home w x is_local;
    less = less;
  }
    where
      less : (y : ℕ) → Over y → y ≢ x → scope y
      less y (inl q) ne = absurd (ne (q ∙ h.named_is))
      less y (inr r) ne = r

  can : Storable w Over x
  can = record { differ = grounded.differ; homes = homes_over w scope h.declared.variable covers.homes declared.local.0; is = inl (sym h.named_is); one = sizes.0; small = sizes.1 }

  tested : Fit w.setting (scoping.first_behind o xs) May h.tested
  tested = subst (λ z. FitOpt w f.is_main f.result May (scoping.first_behind o xs) z) h.test_is good.1

  operands : have_common (typing p h.left) (typing p h.right) ≡ true
  operands = less_typed p h.tested h.left h.right tested.typed h.less

  left_typed : IsTyped (typing p h.left)
  left_typed = (binary_typed binary.Less (typing p h.left) (typing p h.right) I16 (and_true (have_common (typing p h.left) (typing p h.right)) operands)).0
    where
      and_true : (b : Bool) → b ≡ true → (b && true) ≡ true
      and_true true e = refl
      and_true false e = cc

  value_is_typed : h.value.ty ≡ h.variable.ty
  value_is_typed = value_typed p h.variable h.declared.values h.value (slice_get p.variables h.declared.variable) (ap (λ y. slice_get p.variables y) h.named_is ∙ h.variable_is) h.values_are
      (both_parts (declared_as p h.declared.values (slice_get p.variables h.declared.variable)) true declared.typed).0

  stepped : GoodAction w f.is_main f.result May (scoping.first_behind o xs) (action.Update h.target h.place binary.Add h.ty h.by)
  stepped = subst (λ z. GoodStep w f.is_main f.result May (scoping.first_behind o xs) z) h.step_is good.2

  -- but for what the body owes
  pub counted_fits : ((j : ℕ) (d : State) → OnBoth (λ l e. words_in x e ≡ words_in x d) ((to_depth p j).stmt body d)) → CountedFits g f most scope o test step body count h
  counted_fits keeps = record {
    enters = subst (λ z. Enters w scope (FirstScope scope z) x) (sym h.first_is) enters;
    can = subst (λ z. Storable w (FirstScope scope z) x) (sym h.first_is) can;
    single = ap length_in h.variable_is ∙ ap length_or h.scalar;
    value_wide = omega (arith, ap greatest value_is_typed);
    right_wide = omega (arith, h.wide, ap greatest (common_type p h.left h.right operands));
    left_wide = h.wide;
    step_wide = step_holds p h.variable.ty h.ty h.by
        (update_works p h.variable h.target.index h.by h.ty (slice_get p.variables h.target.variable) (ap (λ y. slice_get p.variables y) h.to_variable ∙ h.variable_is) stepped.typed);
    typed = (
      λ is. var_typed p x h.variable h.left h.variable_is left_typed is,
      λ c is named. converted_typed p x h.variable h.left c h.variable_is left_typed is named,
    );
    keeps = keeps;
  }
