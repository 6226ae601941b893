-- Expressions that are good in their surroundings: well typed, with calls that go below, names in scope, and so many nodes.
use Rattle.std.proofs.Common.{◌≡◌, refl, sym, ap, ◌∙◌, ℕ, ◌+◌, ◌^◌, Bool, true, false, Option, Some, None, List, [], ◌∷◌, map, arith}
use Rattle.std.specs.Prelude.{slice_get, length, not, ◌&&◌, nat_lt, is_none, if◌then◌else◌}
use Rattle.base_io.specs.declared.place.Place.{Place}
use Rattle.c_values.specs.declared.ops.Ty.{Ty}
use Rattle.c_values.specs.declared.ops.Ty.TheVariants.{U16}
use Rattle.c_values.specs.declared.ops.UnaryOp.{UnaryOp}
use Rattle.c_values.specs.declared.ops.BinaryOp.{BinaryOp}
use Rattle.c_tree.specs.Nodes.{same_type}
use Rattle.c_tree.specs.Layer.{ExprLayer}
use Rattle.c_tree.specs.declared.tree.Expr.{Expr}
use Rattle.c_tree.specs.declared.tree.ExprKind.{ExprKind, out-ExprKind}
use Rattle.c_tree.specs.declared.tree.ExprKind.TheVariants as kind
use Rattle.c_tree.specs.declared.tree.ExprKind.TheVariants.{outs-Number, outs-Var, outs-Element, outs-Convert, outs-Unary, outs-Binary, outs-Cond, outs-Call, outs-Input, outs-Output}
use Rattle.c_tree.specs.declared.tree.ExprKind.TheOpen.{ExprKind-F}
use Rattle.c_tree.specs.declared.tree.Variable.{Variable}
use Rattle.c_tree.specs.declared.tree.Function.{Function}
use Rattle.c_tree.specs.declared.tree.Program.{Program}
use Rattle.c_typing.specs.declared.meaning.Meaning.TheVariants as meaning
use Rattle.c_typing.specs.declared.state.Signature.{Signature}
use Rattle.c_typing.specs.Scopes.{find, find_in}
use Rattle.c_typing.specs.Conversions as to
use Rattle.sound_programs.specs.Sound.{Typing, typing, typing_by, known, value_if, void_if, has_value, has_type, unary_fits, binary_fits, choice_fits, is_scalar, is_array, is_promoted, arguments_fit, takes, call_typing, result_typing, all_hold}
use Rattle.sound_programs.specs.Calls.{calls_below, calls_by, parts_below, is_below}
use Rattle.sound_programs.specs.Counted.{expr_nodes, parts_nodes, counted, sum_of}
use Rattle.sound_programs.proofs.SoundLevels.{typing_level}
use Rattle.sound_programs.proofs.CallLevels as call_levels
use Rattle.sound_programs.proofs.CountLevels as count_levels
use Rattle.sound_programs.specs.Scoped as scoped
use Rattle.sound_programs.specs.Scoped.{holds, names, names_by, all_in, names_each}
use Rattle.sound_programs.proofs.NameLevels.{named, names_level}
use Rattle.accepted_programs.proofs.Walk.{World, Env, below}
use Rattle.accepted_programs.proofs.Types.{same_refl, unary_ok, binary_ok, choice_ok}

-- the numbers of all variables in scope are in this one
abbrev pub Covers : scoped.Scope → Env → Type 0
Covers scope e = (name : List ℕ) (x : ℕ) (ty : Ty) (size : Option ℕ) (constant : Bool) → find name e.scopes ≡ Some (meaning.Variable x ty size constant) → holds x scope ≡ true

-- these variables are scalars of these types
abbrev pub AreOf : Program → List ℕ → List Ty → Type 0
AreOf p [] [] = Unit {0}
AreOf p (x ∷ xs) (ty ∷ tys) = ((v : Variable) × (slice_get p.variables x ≡ Some v) × (v.length ≡ None) × (v.ty ≡ ty)) × AreOf p xs tys
AreOf p _ _ = ⊥

-- the function of this number has these types
pub record IsOf (p : Program) (k : ℕ) (g : Signature) : Type 0 where
  pub function : Function
  pub is : slice_get p.functions k ≡ Some function
  pub params : AreOf p function.params g.params
  pub result : function.result ≡ g.result

-- each function that the text defines has the types that its name has in the file
abbrev pub Whole : World → Type 0
Whole w = (k f : ℕ) (name : List ℕ) (g : Signature) → slice_get w.defined k ≡ Some name → find_in name w.file ≡ Some (meaning.Function f) → slice_get w.signatures f ≡ Some g → IsOf w.program k g

pub record Good (w : World) (e : Env) (t : Typing) (x : Expr) (n : ℕ) : Type 0 where
  pub typed : Whole w → typing w.program x ≡ t
  pub calls : calls_below (below w (length e.functions)) x ≡ true
  pub named : (scope : scoped.Scope) → Covers scope e → names x scope ≡ true
  pub nodes : expr_nodes x ≡ n

abbrev pub value : Ty → Typing
value ty = Some (Some ty)

abbrev pub tree : Place → Ty → ExprKind → Expr
tree place ty k = record { place = place; ty = ty; kind = k }

-- a level, by its parts
pub good_level : (w : World) (e : Env) (place : Place) (ty : Ty) (k : ExprKind) (x : ExprLayer) (t : Typing) (n : ℕ) → out-ExprKind k ≡ x
    → (Whole w → typing_by w.program (known w.program x) ty ≡ t)
    → calls_by (below w (length e.functions)) (parts_below (below w (length e.functions)) x) ≡ true
    → ((scope : scoped.Scope) → Covers scope e → names_by (named x) scope ≡ true)
    → 1 + parts_nodes (counted x) ≡ n → Good w e t (tree place ty k) n
good_level w e place ty k x t n out typed calls names nodes = record {
  typed = λ whole. sym (typing_level w.program (tree place ty k)) ∙ (ap (λ y. typing_by w.program (known w.program y) ty) out ∙ typed whole);
  calls = sym (call_levels.expr_level (below w (length e.functions)) (tree place ty k)) ∙ (ap (λ y. calls_by (below w (length e.functions)) (parts_below (below w (length e.functions)) y)) out ∙ calls);
  named = λ scope covers. sym (ap (λ f. f scope) (names_level (tree place ty k))) ∙ (ap (λ y. names_by (named y) scope) out ∙ names scope covers);
  nodes = sym (count_levels.expr_level (tree place ty k)) ∙ (ap (λ y. 1 + parts_nodes (counted y)) out ∙ nodes);
}

pub value_true : (b : Bool) (ty : Ty) → b ≡ true → value_if b ty ≡ value ty
value_true b ty h = ap (λ c. value_if c ty) h

pub both : (a b : Bool) → a ≡ true → b ≡ true → (a && b) ≡ true
both a b h k = ap (λ c. c && b) h ∙ k

module _ (w : World) (e : Env) where
  pub good_number : (place : Place) (ty : Ty) (n : ℕ) → is_promoted ty ≡ true → nat_lt n (2 ^ 16) ≡ true → Good w e (value ty) (tree place ty (kind.Number n)) 1
  good_number place ty n p lt =
      good_level w e place ty (kind.Number n) (ExprKind-F.Number n) (value ty) 1 (outs-Number n)
      (λ whole. value_true (is_promoted ty && nat_lt n (2 ^ 16)) ty (both (is_promoted ty) (nat_lt n (2 ^ 16)) p lt)) refl (λ scope covers. refl) refl

  pub good_var : (place : Place) (ty : Ty) (x : ℕ) → is_scalar ty (slice_get w.program.variables x) ≡ true → ((scope : scoped.Scope) → Covers scope e → holds x scope ≡ true)
      → Good w e (value ty) (tree place ty (kind.Var x)) 1
  good_var place ty x h k =
      good_level w e place ty (kind.Var x) (ExprKind-F.Var x) (value ty) 1 (outs-Var x)
      (λ whole. value_true (is_scalar ty (slice_get w.program.variables x)) ty h) refl k refl

  pub good_element : (place : Place) (ty : Ty) (x : ℕ) (i : Expr) (n : ℕ) → is_array ty (slice_get w.program.variables x) ≡ true → ((scope : scoped.Scope) → Covers scope e → holds x scope ≡ true)
      → Good w e (value i.ty) i n → Good w e (value ty) (tree place ty (kind.Element x i)) (1 + n)
  good_element place ty x i n h k g =
      good_level w e place ty (kind.Element x i) (ExprKind-F.Element x i) (value ty) (1 + n) (outs-Element x i)
      (λ whole. value_true (is_array ty (slice_get w.program.variables x) && has_value (typing w.program i)) ty (both _ _ h (ap has_value (g.typed whole))))
      g.calls (λ scope covers. both _ _ (k scope covers) (g.named scope covers)) (ap (λ m. 1 + m) g.nodes)

  pub good_convert : (place : Place) (ty : Ty) (a : Expr) (n : ℕ) → same_type ty a.ty ≡ false → Good w e (value a.ty) a n → Good w e (value ty) (tree place ty (kind.Convert a)) (1 + n)
  good_convert place ty a n h g =
      good_level w e place ty (kind.Convert a) (ExprKind-F.Convert a) (value ty) (1 + n) (outs-Convert a)
      (λ whole. ap (λ t. value_if (has_value t && not (has_type ty t)) ty) (g.typed whole) ∙ ap (λ b. value_if (not b) ty) h)
      g.calls g.named (ap (λ m. 1 + m) g.nodes)

  pub good_unary : (place : Place) (op : UnaryOp) (own : Ty) (a : Expr) (n : ℕ) → Good w e (value (to.operand_type op own)) a n
      → Good w e (value (to.unary_type op own)) (tree place (to.unary_type op own) (kind.Unary op a)) (1 + n)
  good_unary place op own a n g =
      good_level w e place (to.unary_type op own) (kind.Unary op a) (ExprKind-F.Unary op a) (value (to.unary_type op own)) (1 + n) (outs-Unary op a)
      (λ whole. ap (λ t. value_if (unary_fits op t (to.unary_type op own)) (to.unary_type op own)) (g.typed whole) ∙ value_true _ _ (unary_ok op own))
      g.calls g.named (ap (λ m. 1 + m) g.nodes)

  pub good_binary : (place : Place) (op : BinaryOp) (l r : Ty) (a b : Expr) (m n : ℕ) → Good w e (value (to.left_type op l r)) a m → Good w e (value (to.right_type op l r)) b n
      → Good w e (value (to.result_type op l r)) (tree place (to.result_type op l r) (kind.Binary op a b)) (1 + (m + n))
  good_binary place op l r a b m n g h =
      let ty : Ty = to.result_type op l r in
      good_level w e place ty (kind.Binary op a b) (ExprKind-F.Binary op a b) (value ty) (1 + (m + n)) (outs-Binary op a b)
      (λ whole. ap (λ t. value_if (binary_fits op t (typing w.program b) ty) ty) (g.typed whole)
      ∙ (ap (λ t. value_if (binary_fits op (value (to.left_type op l r)) t ty) ty) (h.typed whole) ∙ value_true _ _ (binary_ok op l r)))
      (both _ _ g.calls h.calls) (λ scope covers. both _ _ (g.named scope covers) (h.named scope covers)) (ap (λ k. 1 + (k + expr_nodes b)) g.nodes ∙ ap (λ k. 1 + (m + k)) h.nodes)

  pub good_choice : (place : Place) (c a b : Expr) (x y : Ty) (k m n : ℕ) → Good w e (value c.ty) c k → Good w e (value (to.common x y)) a m → Good w e (value (to.common x y)) b n
      → Good w e (value (to.common x y)) (tree place (to.common x y) (kind.Cond c a b)) (1 + (k + (m + n)))
  good_choice place c a b x y k m n f g h =
      let ty : Ty = to.common x y in
      good_level w e place ty (kind.Cond c a b) (ExprKind-F.Cond c a b) (value ty) (1 + (k + (m + n))) (outs-Cond c a b)
      (λ whole. ap (λ t. value_if (choice_fits t (typing w.program a) (typing w.program b) ty) ty) (f.typed whole)
      ∙ (ap (λ t. value_if (choice_fits (value c.ty) t (typing w.program b) ty) ty) (g.typed whole)
      ∙ (ap (λ t. value_if (choice_fits (value c.ty) (value ty) t ty) ty) (h.typed whole) ∙ value_true _ _ (choice_ok c.ty x y))))
      (both _ _ f.calls (both _ _ g.calls h.calls)) (λ scope covers. both _ _ (f.named scope covers) (both _ _ (g.named scope covers) (h.named scope covers)))
      (ap (λ z. 1 + (z + (expr_nodes a + expr_nodes b))) f.nodes ∙ (ap (λ z. 1 + (k + (z + expr_nodes b))) g.nodes ∙ ap (λ z. 1 + (k + (m + z))) h.nodes))

  pub good_input : (place : Place) → Good w e (value U16) (tree place U16 kind.Input) 1
  good_input place = good_level w e place U16 kind.Input ExprKind-F.Input (value U16) 1 outs-Input (λ whole. refl) refl (λ scope covers. refl) refl

  pub good_output : (place : Place) (a : Expr) (n : ℕ) → Good w e (value U16) a n → Good w e (Some None) (tree place U16 (kind.Output a)) (1 + n)
  good_output place a n g =
      good_level w e place U16 (kind.Output a) (ExprKind-F.Output a) (Some None) (1 + n) (outs-Output a)
      (λ whole. ap (λ t. void_if (has_type U16 t && same_type U16 U16)) (g.typed whole)) g.calls g.named (ap (λ m. 1 + m) g.nodes)

  -- arguments, by the types of their parameters, and their nodes
  pub record GoodArgs (xs : List Expr) (n : ℕ) : Type 0 where
    pub calls : all_hold (map (calls_below (below w (length e.functions))) xs) ≡ true
    pub named : (scope : scoped.Scope) → Covers scope e → all_in scope (map names xs) ≡ true
    pub nodes : sum_of (map expr_nodes xs) ≡ n

  -- arguments for the first of these parameters
  abbrev pub TypedArgs : List Expr → List Ty → Type 0
  TypedArgs [] tys = Unit {0}
  TypedArgs (x ∷ xs) [] = Unit {0}
  TypedArgs (x ∷ xs) (ty ∷ tys) = (Whole w → typing w.program x ≡ value ty) × TypedArgs xs tys

  args_fit : Whole w → (xs : List Expr) (tys : List Ty) (ps : List ℕ) → TypedArgs xs tys → length xs ≡ length tys → AreOf w.program ps tys → arguments_fit w.program ps (map (typing w.program) xs) ≡ true
  args_fit whole [] [] [] t l a = refl
  args_fit whole [] [] (p ∷ ps) t l a = absurd a
  args_fit whole [] (ty ∷ tys) ps t l a = absurd (omega (arith, l))
  args_fit whole (x ∷ xs) [] ps t l a = absurd (omega (arith, l))
  args_fit whole (x ∷ xs) (ty ∷ tys) [] t l a = absurd a
  args_fit whole (x ∷ xs) (ty ∷ tys) (p ∷ ps) (t, ts) l ((v, is, none, same), as') =
      both _ _
      (ap (λ o. takes o (typing w.program x)) is ∙ (ap (λ y. is_none v.length && has_type v.ty y) (t whole) ∙ both _ _ (ap is_none none) (ap (λ z. same_type z ty) same ∙ same_refl ty)))
      (args_fit whole xs tys ps ts (omega (arith, l)) as')

  call_has : Whole w → (f : ℕ) (g : Signature) (xs : List Expr) (ty : Ty) → IsOf w.program f g → TypedArgs xs g.params → length xs ≡ length g.params
      → call_typing w.program (map (typing w.program) xs) ty (slice_get w.program.functions f) ≡ result_typing ty g.result
  call_has whole f g xs ty is typed l =
      ap (call_typing w.program (map (typing w.program) xs) ty) is.is
      ∙ (ap (λ b. if b then result_typing ty is.function.result else None) (args_fit whole xs g.params is.function.params typed l is.params)
      ∙ ap (result_typing ty) is.result)

  pub good_call : (place : Place) (f : ℕ) (g : Signature) (xs : List Expr) (ty : Ty) (t : Typing) (n : ℕ) → (Whole w → IsOf w.program f g) → TypedArgs xs g.params → length xs ≡ length g.params
      → is_below (below w (length e.functions)) f ≡ true → result_typing ty g.result ≡ t → GoodArgs xs n → Good w e t (tree place ty (kind.Call f xs)) (1 + n)
  good_call place f g xs ty t n is typed l lt r args =
      good_level w e place ty (kind.Call f xs) (ExprKind-F.Call f xs) t (1 + n) (outs-Call f xs)
      (λ whole. call_has whole f g xs ty (is whole) typed l ∙ r) (both _ _ lt args.calls) args.named (ap (λ m. 1 + m) args.nodes)
