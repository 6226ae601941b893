-- What soundness and scoping say of the parts of expressions, actions and declarations.
use Rattle.std.proofs.Common.{◌≡◌, ℕ, zero, suc, ◌≤◌, Bool, true, false, Option, Some, None, List, [], ◌∷◌, ◌++◌, length, refl, sym, ap, subst, arith, ◌⊎◌, inl, inr}
use Rattle.std.specs.Prelude.{⊤, not, is_some, is_none, nat_le, slice_get, IsTrue, ◌&&◌, ◌||◌, if◌then◌else◌}
use Rattle.std.proofs.lemmas.Bool.{leb-true}
use Rattle.c_values.specs.declared.ops.Ty.{Ty}
use Rattle.c_values.specs.declared.ops.Ty.TheVariants.{I8, U8, I16, U16}
use Rattle.c_values.specs.declared.ops.UnaryOp.{UnaryOp}
use Rattle.c_values.specs.declared.ops.UnaryOp.TheVariants as unary
use Rattle.c_values.specs.declared.ops.BinaryOp.{BinaryOp}
use Rattle.c_tree.specs.declared.tree.Expr.{Expr}
use Rattle.c_tree.specs.declared.tree.Variable.{Variable}
use Rattle.c_tree.specs.declared.tree.Function.{Function}
use Rattle.c_tree.specs.declared.tree.Program.{Program}
use Rattle.c_tree.specs.Nodes.{same_type}
use Rattle.sound_programs.specs.Sound.{Typing, value_if, void_if, has_value, has_type, has_promoted, have_common, is_promoted, is_test, is_shift, is_comparison, binary_fits, unary_fits, takes, arguments_fit, result_typing, call_typing, typing, length_fits, first_words_fit, variables_fit}
use Rattle.lowered_graphs.specs.Exprs.{length_or, length_in}
use Rattle.lowered_meaning.proofs.ExprTypes.{own_type, has_wide}
use Rattle.lowered_meaning.proofs.ExprInduction.{UnaryFits}
use Rattle.lowered_meaning.proofs.WordsTable.{is_idle}

pub both_parts : (a b : Bool) → (a && b) ≡ true → (a ≡ true) × (b ≡ true)
both_parts true b e = (refl, e)
both_parts false b e = cc

pub either_part : (a b : Bool) → (a || b) ≡ true → (a ≡ true) ⊎ (b ≡ true)
either_part true b e = inl refl
either_part false b e = inr e

-- ---- what holds of each number of a list

abbrev pub Each : (ℕ → Type 0) → List ℕ → Type 0
Each P [] = ⊤
Each P (x ∷ xs) = P x × Each P xs

pub each_left : (P : ℕ → Type 0) (xs ys : List ℕ) → Each P (xs ++ ys) → Each P xs
each_left P [] ys h = tt
each_left P (x ∷ xs) ys h = (h.0, each_left P xs ys h.1)

pub each_right : (P : ℕ → Type 0) (xs ys : List ℕ) → Each P (xs ++ ys) → Each P ys
each_right P [] ys h = h
each_right P (x ∷ xs) ys h = each_right P xs ys h.1

-- ---- well typed

abbrev pub IsTyped : Typing → Type 0
IsTyped t = is_some t ≡ true

pub typed_value : (t : Typing) → has_value t ≡ true → IsTyped t
typed_value None h = cc
typed_value (Some t) h = refl

pub typed_type : (ty : Ty) (t : Typing) → has_type ty t ≡ true → IsTyped t
typed_type ty None h = cc
typed_type ty (Some t) h = refl

pub value_is : (b : Bool) (ty : Ty) → IsTyped (value_if b ty) → b ≡ true
value_is true ty h = refl
value_is false ty h = cc

pub void_is : (b : Bool) → IsTyped (void_if b) → b ≡ true
void_is true h = refl
void_is false h = cc

-- an operand that was promoted is well typed
pub typed_promoted : (t : Typing) → has_promoted t ≡ true → IsTyped t
typed_promoted None h = cc
typed_promoted (Some t) h = refl

-- ---- conversions

not_idle : (to from : Ty) → not (same_type to from) ≡ true → is_idle to from ≡ false
not_idle I8 I8 e = cc
not_idle I8 U8 e = refl
not_idle I8 I16 e = refl
not_idle I8 U16 e = refl
not_idle U8 I8 e = refl
not_idle U8 U8 e = cc
not_idle U8 I16 e = refl
not_idle U8 U16 e = refl
not_idle I16 I8 e = refl
not_idle I16 U8 e = refl
not_idle I16 I16 e = cc
not_idle I16 U16 e = refl
not_idle U16 I8 e = refl
not_idle U16 U8 e = refl
not_idle U16 I16 e = refl
not_idle U16 U16 e = cc

pub convert_fits : (p : Program) (e : Expr) (ty : Ty) (t : Typing) → typing p e ≡ t → has_value t ≡ true → not (has_type ty t) ≡ true → is_idle ty e.ty ≡ false
convert_fits p e ty None h has other = cc
convert_fits p e ty (Some None) h has other = cc
convert_fits p e ty (Some (Some t)) h has other = subst (λ u. is_idle ty u ≡ false) (sym (own_type p e t h)) (not_idle ty t other)

-- ---- operators

pub unary_parts : (p : Program) (op : UnaryOp) (a : Expr) (ty : Ty) → unary_fits op (typing p a) ty ≡ true → UnaryFits op a.ty × IsTyped (typing p a)
unary_parts p unary.Plus a ty h = let i = both_parts (is_promoted ty) (has_type ty (typing p a)) h in (tt, typed_type ty (typing p a) i.1)
unary_parts p unary.Minus a ty h = let i = both_parts (is_promoted ty) (has_type ty (typing p a)) h in (has_wide p a ty (typing p a) refl i.0 i.1, typed_type ty (typing p a) i.1)
unary_parts p unary.Inv a ty h = let i = both_parts (is_promoted ty) (has_type ty (typing p a)) h in (has_wide p a ty (typing p a) refl i.0 i.1, typed_type ty (typing p a) i.1)
unary_parts p unary.Not a ty h = (tt, typed_value (typing p a) (both_parts (has_value (typing p a)) (same_type ty I16) h).0)

common_typed : (a b : Typing) → have_common a b ≡ true → IsTyped a × IsTyped b
common_typed a b h = by (either_part (has_type I16 a && has_type I16 b) (has_type U16 a && has_type U16 b) h)
  where
    by : (((has_type I16 a && has_type I16 b) ≡ true) ⊎ ((has_type U16 a && has_type U16 b) ≡ true)) → IsTyped a × IsTyped b
    by (inl e) = let i = both_parts (has_type I16 a) (has_type I16 b) e in (typed_type I16 a i.0, typed_type I16 b i.1)
    by (inr e) = let i = both_parts (has_type U16 a) (has_type U16 b) e in (typed_type U16 a i.0, typed_type U16 b i.1)

pub binary_typed : (op : BinaryOp) (a b : Typing) (ty : Ty) → binary_fits op a b ty ≡ true → IsTyped a × IsTyped b
binary_typed op a b ty h = by (is_test op) (is_shift op) (is_comparison op) h
  where
    by : (x y z : Bool) → (if x then (has_value a && (has_value b && same_type ty I16)) else
        if y then (is_promoted ty && (has_type ty a && has_promoted b)) else
        if z then (have_common a b && same_type ty I16) else
        is_promoted ty && (has_type ty a && has_type ty b)) ≡ true → IsTyped a × IsTyped b
    by true y z e = let i = both_parts (has_value a) (has_value b && same_type ty I16) e in (typed_value a i.0, typed_value b (both_parts (has_value b) (same_type ty I16) i.1).0)
    by false true z e = let i = both_parts (has_type ty a) (has_promoted b) (both_parts (is_promoted ty) (has_type ty a && has_promoted b) e).1 in (typed_type ty a i.0, typed_promoted b i.1)
    by false false true e = common_typed a b (both_parts (have_common a b) (same_type ty I16) e).0
    by false false false e = let i = both_parts (has_type ty a) (has_type ty b) (both_parts (is_promoted ty) (has_type ty a && has_type ty b) e).1 in (typed_type ty a i.0, typed_type ty b i.1)

-- ---- calls

abbrev pub AllTyped : List Typing → Type 0
AllTyped [] = ⊤
AllTyped (t ∷ ts) = IsTyped t × AllTyped ts

takes_typed : (v : Option Variable) (t : Typing) → takes v t ≡ true → IsTyped t
takes_typed None t h = cc
takes_typed (Some v) t h = typed_type v.ty t (both_parts (is_none v.length) (has_type v.ty t) h).1

pub arguments_are : (p : Program) (params : List ℕ) (ts : List Typing) → arguments_fit p params ts ≡ true → (length ts ≡ length params) × AllTyped ts
arguments_are p [] [] h = (refl, tt)
arguments_are p [] (t ∷ ts) h = cc
arguments_are p (x ∷ xs) [] h = cc
arguments_are p (x ∷ xs) (t ∷ ts) h =
    let i = both_parts (takes (slice_get p.variables x) t) (arguments_fit p xs ts) h in
    let r = arguments_are p xs ts i.1 in
    (ap suc r.0, (takes_typed (slice_get p.variables x) t i.0, r.1))

-- a call that is well typed is one of a function, with its arguments
pub record IsCall (p : Program) (f : ℕ) (ts : List Typing) : Type 0 where
  pub function : Function
  pub found : slice_get p.functions f ≡ Some function
  pub same : length ts ≡ length function.params
  pub typed : AllTyped ts

pub call_is : (p : Program) (f : ℕ) (ts : List Typing) (ty : Ty) → IsTyped (call_typing p ts ty (slice_get p.functions f)) → IsCall p f ts
call_is p f ts ty h = by (slice_get p.functions f) refl h
  where
    by : (o : Option Function) → slice_get p.functions f ≡ o → IsTyped (call_typing p ts ty o) → IsCall p f ts
    by None e i = cc
    by (Some fn) e i = fitting (arguments_fit p fn.params ts) refl i
      where
        fitting : (b : Bool) → arguments_fit p fn.params ts ≡ b → IsTyped (if b then result_typing ty fn.result else None) → IsCall p f ts
        fitting true q j = let r = arguments_are p fn.params ts q in record { function = fn; found = e; same = r.0; typed = r.1 }
        fitting false q j = cc

-- ---- sizes

sized : (l : Option ℕ) → length_fits l ≡ true → (1 ≤ length_or l) × (length_or l ≤ 1024)
sized None h = (omega arith, omega arith)
sized (Some n) h = let i = both_parts (nat_le 1 n) (nat_le n 1024) h in (leb-true 1 n i.0, leb-true n 1024 i.1)

-- a variable has at most 1,024 elements, and one at least if it is there
pub variables_sized : (vs : List Variable) → IsTrue (variables_fit vs) → (x : ℕ) → (length_in (slice_get vs x) ≤ 1024) × ((v : Variable) → slice_get vs x ≡ Some v → 1 ≤ length_in (slice_get vs x))
variables_sized [] h x = (omega arith, λ v e. cc)
variables_sized (u ∷ vs) h zero = let i = both_parts (length_fits u.length) (first_words_fit u && variables_fit vs) h in ((sized u.length i.0).1, λ v e. (sized u.length i.0).0)
variables_sized (u ∷ vs) h (suc x) = variables_sized vs (both_parts (first_words_fit u) (variables_fit vs) (both_parts (length_fits u.length) (first_words_fit u && variables_fit vs) h).1).1 x
