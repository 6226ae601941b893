-- What a well typed expression says of its parts.
use Rattle.std.proofs.Common.{◌≡◌, ℕ, Bool, true, false, Option, Some, None, List, [], ◌∷◌, refl, sym, subst, inl, inr}
use Rattle.std.specs.Prelude.{⊤, map, is_some, slice_get, ◌&&◌, if◌then◌else◌}
use Rattle.std.proofs.lemmas.Bool.{and_parts, or_cases, false≢true}
use Rattle.c_values.specs.declared.ops.Ty.{Ty}
use Rattle.c_values.specs.declared.ops.Ty.TheVariants.{I16, U16}
use Rattle.c_values.specs.declared.ops.UnaryOp.{UnaryOp}
use Rattle.c_values.specs.declared.ops.UnaryOp.TheVariants as unary
use Rattle.c_values.specs.declared.ops.BinaryOp.{BinaryOp}
use Rattle.c_tree.specs.Nodes.{same_type}
use Rattle.c_tree.specs.declared.tree.Variable.{Variable}
use Rattle.c_tree.specs.declared.tree.Expr.{Expr}
use Rattle.c_tree.specs.declared.tree.ExprKind.{out-ExprKind}
use Rattle.c_tree.specs.declared.tree.ExprKind.TheOpen.{ExprKind-F}
use Rattle.c_tree.specs.declared.tree.Function.{Function}
use Rattle.c_tree.specs.declared.tree.Program.{Program}
use Rattle.c_tree.specs.Layer.{ExprLayer}
use Rattle.sound_programs.specs.Sound.{Typing, typing, typing_by, known, value_if, void_if, has_value, has_type, has_promoted, have_common, is_promoted, is_test, is_shift, is_comparison, unary_fits, binary_fits, choice_fits, is_scalar, is_array, takes, arguments_fit, result_typing, call_typing}
use Rattle.sound_programs.proofs.SoundLevels.{typing_level}

abbrev pub Typed : Program → Expr → Type 0
Typed p e = is_some (typing p e) ≡ true

abbrev pub EachTyped : Program → List Expr → Type 0
EachTyped p [] = ⊤
EachTyped p (e ∷ es) = Typed p e × EachTyped p es

value_if_true : (b : Bool) (ty : Ty) → is_some (value_if b ty) ≡ true → b ≡ true
value_if_true true ty h = refl
value_if_true false ty h = h

void_if_true : (b : Bool) → is_some (void_if b) ≡ true → b ≡ true
void_if_true true h = refl
void_if_true false h = h

pub value_typed : (t : Typing) → has_value t ≡ true → is_some t ≡ true
value_typed None h = h
value_typed (Some None) h = refl
value_typed (Some (Some ty)) h = refl

pub type_typed : (ty : Ty) (t : Typing) → has_type ty t ≡ true → is_some t ≡ true
type_typed ty None h = h
type_typed ty (Some None) h = refl
type_typed ty (Some (Some other)) h = refl

pub promoted_typed : (t : Typing) → has_promoted t ≡ true → is_some t ≡ true
promoted_typed t h = elim (or_cases (has_type I16 t) (has_type U16 t) h) [
  | inl a ↦ type_typed I16 t a
  | inr b ↦ type_typed U16 t b
]

abbrev Both : Typing → Typing → Type 0
Both a b = (is_some a ≡ true) × (is_some b ≡ true)

types_typed : (s t : Ty) (a b : Typing) → (has_type s a && has_type t b) ≡ true → Both a b
types_typed s t a b h = let p = and_parts (has_type s a) (has_type t b) h in (type_typed s a p.0, type_typed t b p.1)

common_typed : (a b : Typing) → have_common a b ≡ true → Both a b
common_typed a b h = elim (or_cases (has_type I16 a && has_type I16 b) (has_type U16 a && has_type U16 b) h) [
  | inl x ↦ types_typed I16 I16 a b x
  | inr x ↦ types_typed U16 U16 a b x
]

pub if_either : (C : Type 0) (t x y : Bool) → (x ≡ true → C) → (y ≡ true → C) → (if t then x else y) ≡ true → C
if_either C true x y f g h = f h
if_either C false x y f g h = g h

unary_typed : (op : UnaryOp) (a : Typing) (ty : Ty) → unary_fits op a ty ≡ true → is_some a ≡ true
unary_typed unary.Not a ty h = value_typed a (and_parts (has_value a) (same_type ty I16) h).0
unary_typed unary.Plus a ty h = type_typed ty a (and_parts (is_promoted ty) (has_type ty a) h).1
unary_typed unary.Minus a ty h = type_typed ty a (and_parts (is_promoted ty) (has_type ty a) h).1
unary_typed unary.Inv a ty h = type_typed ty a (and_parts (is_promoted ty) (has_type ty a) h).1

binary_typed : (op : BinaryOp) (a b : Typing) (ty : Ty) → binary_fits op a b ty ≡ true → Both a b
binary_typed op a b ty h = if_either (Both a b) (is_test op) _ _
    (λ t. let p = and_parts (has_value a) (has_value b && same_type ty I16) t in (value_typed a p.0, value_typed b (and_parts (has_value b) (same_type ty I16) p.1).0))
    (if_either (Both a b) (is_shift op) _ _
    (λ s. let p = and_parts (has_type ty a) (has_promoted b) (and_parts (is_promoted ty) (has_type ty a && has_promoted b) s).1 in (type_typed ty a p.0, promoted_typed b p.1))
    (if_either (Both a b) (is_comparison op) _ _
    (λ c. common_typed a b (and_parts (have_common a b) (same_type ty I16) c).0)
    (λ o. types_typed ty ty a b (and_parts (is_promoted ty) (has_type ty a && has_type ty b) o).1))) h

choice_typed : (c a b : Typing) (ty : Ty) → choice_fits c a b ty ≡ true → (is_some c ≡ true) × (is_some a ≡ true) × (is_some b ≡ true)
choice_typed c a b ty h =
    let p = and_parts (has_value c) (is_promoted ty && (has_type ty a && has_type ty b)) h in
    let q = types_typed ty ty a b (and_parts (is_promoted ty) (has_type ty a && has_type ty b) p.1).1 in (value_typed c p.0, q.0, q.1)

taken_typed : (v : Option Variable) (a : Typing) → takes v a ≡ true → is_some a ≡ true
taken_typed None a h = absurd (false≢true h)
taken_typed (Some v) a h = type_typed v.ty a (and_parts _ (has_type v.ty a) h).1

arguments_typed : (p : Program) (xs : List ℕ) (es : List Expr) → arguments_fit p xs (map (typing p) es) ≡ true → EachTyped p es
arguments_typed p [] [] h = tt
arguments_typed p [] (e ∷ es) h = absurd (false≢true h)
arguments_typed p (x ∷ xs) [] h = absurd (false≢true h)
arguments_typed p (x ∷ xs) (e ∷ es) h =
    let q = and_parts (takes (slice_get p.variables x) (typing p e)) (arguments_fit p xs (map (typing p) es)) h in (taken_typed (slice_get p.variables x) (typing p e) q.0, arguments_typed p xs es q.1)

-- what a level owes
abbrev pub TypedLayer : Program → Ty → ExprLayer → Type 0
TypedLayer p ty (ExprKind-F.Number w) = ⊤
TypedLayer p ty (ExprKind-F.Var x) = is_scalar ty (slice_get p.variables x) ≡ true
TypedLayer p ty (ExprKind-F.Element x i) = (is_array ty (slice_get p.variables x) ≡ true) × Typed p i
TypedLayer p ty (ExprKind-F.Convert e) = Typed p e
TypedLayer p ty (ExprKind-F.Unary op a) = Typed p a
TypedLayer p ty (ExprKind-F.Binary op a b) = Typed p a × Typed p b
TypedLayer p ty (ExprKind-F.Cond c a b) = Typed p c × Typed p a × Typed p b
TypedLayer p ty (ExprKind-F.Call f args) = (fn : Function) × (slice_get p.functions f ≡ Some fn) × EachTyped p args
TypedLayer p ty ExprKind-F.Input = ⊤
TypedLayer p ty (ExprKind-F.Output e) = Typed p e

call_typed : (p : Program) (ty : Ty) (f : ℕ) (args : List Expr) (fn : Option Function) → slice_get p.functions f ≡ fn → is_some (call_typing p (map (typing p) args) ty fn) ≡ true → TypedLayer p ty (ExprKind-F.Call f args)
call_typed p ty f args None e h = absurd (false≢true h)
call_typed p ty f args (Some fn) e h = (fn, e, arguments_typed p fn.params args (by_fit (arguments_fit p fn.params (map (typing p) args)) h))
  where
    by_fit : (b : Bool) → is_some (if b then result_typing ty fn.result else None) ≡ true → b ≡ true
    by_fit true k = refl
    by_fit false k = k

layer_typed : (p : Program) (x : ExprLayer) (ty : Ty) → is_some (typing_by p (known p x) ty) ≡ true → TypedLayer p ty x
layer_typed p (ExprKind-F.Number w) ty h = tt
layer_typed p (ExprKind-F.Var x) ty h = value_if_true (is_scalar ty (slice_get p.variables x)) ty h
layer_typed p (ExprKind-F.Element x i) ty h =
    let q = and_parts (is_array ty (slice_get p.variables x)) (has_value (typing p i)) (value_if_true _ ty h) in (q.0, value_typed (typing p i) q.1)
layer_typed p (ExprKind-F.Convert e) ty h = value_typed (typing p e) (and_parts (has_value (typing p e)) _ (value_if_true _ ty h)).0
layer_typed p (ExprKind-F.Unary op a) ty h = unary_typed op (typing p a) ty (value_if_true _ ty h)
layer_typed p (ExprKind-F.Binary op a b) ty h = binary_typed op (typing p a) (typing p b) ty (value_if_true _ ty h)
layer_typed p (ExprKind-F.Cond c a b) ty h = choice_typed (typing p c) (typing p a) (typing p b) ty (value_if_true _ ty h)
layer_typed p (ExprKind-F.Call f args) ty h = call_typed p ty f args (slice_get p.functions f) refl h
layer_typed p ExprKind-F.Input ty h = tt
layer_typed p (ExprKind-F.Output e) ty h = type_typed U16 (typing p e) (and_parts (has_type U16 (typing p e)) (same_type ty U16) (void_if_true _ h)).0

pub typed_parts : (p : Program) (e : Expr) → Typed p e → TypedLayer p e.ty (out-ExprKind e.kind)
typed_parts p e h = layer_typed p (out-ExprKind e.kind) e.ty (subst (λ t. is_some t ≡ true) (sym (typing_level p e)) h)
