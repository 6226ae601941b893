-- The levels through which an expression is looked at as a constant, where it is taken apart into its first operand and the rest.
use Rattle.std.proofs.Common.{◌≡◌, refl, sym, ap, subst, ◌∙◌, ℕ, zero, suc, ◌+◌, ◌≤◌, Option, Some, None, List, [], ◌∷◌, arith, true, false, Bool, ◌&&◌}
use Rattle.std.specs.Option.{option_map, option_and_then}
use Rattle.c_values.specs.declared.ops.Ty.{Ty}
use Rattle.c_values.specs.declared.ops.UnaryOp.{UnaryOp}
use Rattle.c_values.specs.declared.ops.BinaryOp.{BinaryOp}
use Rattle.c_tree.specs.Layer.{ExprLayer}
use Rattle.c_tree.specs.declared.tree.Expr.{Expr, size-Expr, size_is-Expr}
use Rattle.c_tree.specs.declared.tree.ExprKind.{out-ExprKind, ExprKind, size-ExprKind, size_is-ExprKind, roll-out-ExprKind, roll-ExprKind}
use Rattle.c_tree.specs.declared.tree.ExprKind.TheOpen.{ExprKind-F}
use Rattle.c_tree.specs.declared.tree.ExprKind.TheVariants as kind
use Rattle.c_tree.specs.declared.tree.ExprKind.TheVariants.{outs-Convert, outs-Unary, outs-Binary, rolls-Convert, rolls-Unary, rolls-Binary}
use Rattle.c_typing.specs.Constants.{is_made, is_made_by, word_to, word_by, second_word}
use Rattle.c_expressions.specs.Operands.{first_of, is_made_besides, leaf_word, rest_of, IsWordOf, IsWithin, right, rights}

-- ---- parts have fewer levels

convert_below : (a : Expr) → size-Expr a + 1 ≤ size-ExprKind (kind.Convert a)
convert_below a = omega (arith, rw (outs-Convert a) at (size_is-ExprKind (kind.Convert a)))

unary_below : (op : UnaryOp) (a : Expr) → size-Expr a + 1 ≤ size-ExprKind (kind.Unary op a)
unary_below op a = omega (arith, rw (outs-Unary op a) at (size_is-ExprKind (kind.Unary op a)))

left_below : (op : BinaryOp) (a b : Expr) → size-Expr a + 1 ≤ size-ExprKind (kind.Binary op a b)
left_below op a b = omega (arith, rw (outs-Binary op a b) at (size_is-ExprKind (kind.Binary op a b)))

second_levels : (op : BinaryOp) (a b : Expr) → size-Expr b + 1 ≤ size-ExprKind (kind.Binary op a b)
second_levels op a b = omega (arith, rw (outs-Binary op a b) at (size_is-ExprKind (kind.Binary op a b)))

none_below : (e : Expr) → size-Expr e ≤ 0 → ⊥
none_below e le = omega (arith, le, size_is-Expr e)

is_rolled : (k : ExprKind) (x : ExprLayer) → out-ExprKind k ≡ x → k ≡ roll-ExprKind x
is_rolled k x h = sym (roll-out-ExprKind k) ∙ ap roll-ExprKind h

below_by : (k : ExprKind) (x : ExprLayer) (a : Expr) → out-ExprKind k ≡ x → first_of x ≡ Some a → size-Expr a + 1 ≤ size-ExprKind k
below_by k (ExprKind-F.Number w) a h f = cc
below_by k (ExprKind-F.Var v) a h f = cc
below_by k (ExprKind-F.Element v i) a h f = cc
below_by k (ExprKind-F.Convert e) a h f =
    let q : e ≡ a = cc in
    omega (arith, convert_below e, ap size-ExprKind (is_rolled k (ExprKind-F.Convert e) h ∙ rolls-Convert e), ap size-Expr q)
below_by k (ExprKind-F.Unary op e) a h f =
    let q : e ≡ a = cc in
    omega (arith, unary_below op e, ap size-ExprKind (is_rolled k (ExprKind-F.Unary op e) h ∙ rolls-Unary op e), ap size-Expr q)
below_by k (ExprKind-F.Binary op e b) a h f =
    let q : e ≡ a = cc in
    omega (arith, left_below op e b, ap size-ExprKind (is_rolled k (ExprKind-F.Binary op e b) h ∙ rolls-Binary op e b), ap size-Expr q)
below_by k (ExprKind-F.Cond c y n) a h f = cc
below_by k (ExprKind-F.Call g args) a h f = cc
below_by k ExprKind-F.Input a h f = cc
below_by k (ExprKind-F.Output e) a h f = cc

pub first_below : (e a : Expr) → first_of (out-ExprKind e.kind) ≡ Some a → size-Expr a + 1 ≤ size-Expr e
first_below e a f = omega (arith, below_by e.kind (out-ExprKind e.kind) a refl f, size_is-Expr e)

right_below_by : (k : ExprKind) (x : ExprLayer) → out-ExprKind k ≡ x → right x ≤ size-ExprKind k
right_below_by k (ExprKind-F.Binary op a b) h = omega (arith, second_levels op a b, ap size-ExprKind (is_rolled k (ExprKind-F.Binary op a b) h ∙ rolls-Binary op a b))
right_below_by k _ h = omega arith

pub right_below : (e : Expr) → right (out-ExprKind e.kind) + 1 ≤ size-Expr e
right_below e = omega (arith, right_below_by e.kind (out-ExprKind e.kind) refl, size_is-Expr e)

pub rights_kept : (ks new : List Expr) (k e : Expr) → new ≡ k ∷ ks → size-Expr k ≤ size-Expr e → rights ks + 1 ≤ size-Expr e → rights new + 1 ≤ size-Expr e
rights_kept ks new k e q le h = omega (arith, ap rights q, right_below k, le, h)

pub rights_next : (ks new : List Expr) (k : Expr) → ks ≡ k ∷ new → rights new ≤ rights ks
rights_next ks new k q = omega (arith, ap rights q)

-- ---- what an expression is made of

-- it is or isn't made of literals, conversions and operators, through each number of levels that reaches its leaves
abbrev pub Made : Expr → Bool → Type 0
Made e r = (n : ℕ) → size-Expr e ≤ n → r ≡ is_made n e

-- but for its first operand it is so
abbrev pub MadeBesides : Expr → Bool → Type 0
MadeBesides e r = (n : ℕ) → size-Expr e ≤ suc n → r ≡ is_made_besides (is_made n) (out-ExprKind e.kind)

and_false : (b : Bool) → (b && false) ≡ false
and_false true = refl
and_false false = refl

and_true : (b : Bool) → (b && true) ≡ b
and_true true = refl
and_true false = refl

unmade_by : (f : Expr → Bool) (x : ExprLayer) → false ≡ is_made_besides f x → false ≡ is_made_by f x
unmade_by f (ExprKind-F.Number w) h = cc
unmade_by f (ExprKind-F.Convert e) h = cc
unmade_by f (ExprKind-F.Unary op a) h = cc
unmade_by f (ExprKind-F.Binary op a b) h = sym (ap (λ t. f a && t) (sym h) ∙ and_false (f a))
unmade_by f _ h = refl

made_by : (f : Expr → Bool) (x : ExprLayer) (a : Expr) → first_of x ≡ Some a → true ≡ is_made_besides f x → f a ≡ is_made_by f x
made_by f (ExprKind-F.Number w) a q h = cc
made_by f (ExprKind-F.Var v) a q h = cc
made_by f (ExprKind-F.Element v i) a q h = cc
made_by f (ExprKind-F.Convert e) a q h = let p : e ≡ a = cc in rw (← p) refl
made_by f (ExprKind-F.Unary op e) a q h = let p : e ≡ a = cc in rw (← p) refl
made_by f (ExprKind-F.Binary op e b) a q h = let p : e ≡ a = cc in rw (← p) (sym (ap (λ t. f e && t) (sym h) ∙ and_true (f e)))
made_by f (ExprKind-F.Cond c y n) a q h = cc
made_by f (ExprKind-F.Call g args) a q h = cc
made_by f ExprKind-F.Input a q h = cc
made_by f (ExprKind-F.Output e) a q h = cc

leaf_made_by : (f : Expr → Bool) (x : ExprLayer) → first_of x ≡ None → is_made_besides f x ≡ is_made_by f x
leaf_made_by f (ExprKind-F.Number w) h = refl
leaf_made_by f (ExprKind-F.Var v) h = refl
leaf_made_by f (ExprKind-F.Element v i) h = refl
leaf_made_by f (ExprKind-F.Convert e) h = cc
leaf_made_by f (ExprKind-F.Unary op e) h = cc
leaf_made_by f (ExprKind-F.Binary op e b) h = cc
leaf_made_by f (ExprKind-F.Cond c y n) h = refl
leaf_made_by f (ExprKind-F.Call g args) h = refl
leaf_made_by f ExprKind-F.Input h = refl
leaf_made_by f (ExprKind-F.Output e) h = refl

pub unmade : (e : Expr) → MadeBesides e false → Made e false
unfolding is_made
unmade e h zero le = absurd (none_below e le)
unmade e h (suc n) le = unmade_by (is_made n) (out-ExprKind e.kind) (h n le)

pub made_first : (e a : Expr) (r : Bool) → first_of (out-ExprKind e.kind) ≡ Some a → MadeBesides e true → Made a r → Made e r
unfolding is_made
made_first e a r q h f zero le = absurd (none_below e le)
made_first e a r q h f (suc n) le = f n (omega (arith, first_below e a q, le)) ∙ made_by (is_made n) (out-ExprKind e.kind) a q (h n le)

pub made_leaf : (e : Expr) (r : Bool) → first_of (out-ExprKind e.kind) ≡ None → MadeBesides e r → Made e r
unfolding is_made
made_leaf e r q h zero le = absurd (none_below e le)
made_leaf e r q h (suc n) le = h n le ∙ leaf_made_by (is_made n) (out-ExprKind e.kind) q

-- ---- its word

parted : (f : Expr → Option ℕ) (ty : Ty) (x : ExprLayer) (a : Expr) (o : Option ℕ) → first_of x ≡ Some a → o ≡ f a → option_and_then (rest_of f ty x) o ≡ word_by f ty x
parted f ty (ExprKind-F.Number w) a o q h = cc
parted f ty (ExprKind-F.Var v) a o q h = cc
parted f ty (ExprKind-F.Element v i) a o q h = cc
parted f ty (ExprKind-F.Convert e) a None q h = let p : f e ≡ None = cc in rw p refl
parted f ty (ExprKind-F.Convert e) a (Some y) q h = let p : f e ≡ Some y = cc in rw p refl
parted f ty (ExprKind-F.Unary op e) a None q h = let p : f e ≡ None = cc in rw p refl
parted f ty (ExprKind-F.Unary op e) a (Some y) q h = let p : f e ≡ Some y = cc in rw p refl
parted f ty (ExprKind-F.Binary op e b) a None q h = let p : f e ≡ None = cc in rw p refl
parted f ty (ExprKind-F.Binary op e b) a (Some y) q h = let i : e ≡ a = cc in let p : f e ≡ Some y = ap f i ∙ sym h in sym (ap (option_and_then (second_word f op e b)) p)
parted f ty (ExprKind-F.Cond c y n) a o q h = cc
parted f ty (ExprKind-F.Call g args) a o q h = cc
parted f ty ExprKind-F.Input a o q h = cc
parted f ty (ExprKind-F.Output e) a o q h = cc

leafed : (f : Expr → Option ℕ) (ty : Ty) (x : ExprLayer) → first_of x ≡ None → leaf_word x ≡ word_by f ty x
leafed f ty (ExprKind-F.Number w) h = refl
leafed f ty (ExprKind-F.Var v) h = refl
leafed f ty (ExprKind-F.Element v i) h = refl
leafed f ty (ExprKind-F.Convert e) h = cc
leafed f ty (ExprKind-F.Unary op e) h = cc
leafed f ty (ExprKind-F.Binary op e b) h = cc
leafed f ty (ExprKind-F.Cond c y n) h = refl
leafed f ty (ExprKind-F.Call g args) h = refl
leafed f ty ExprKind-F.Input h = refl
leafed f ty (ExprKind-F.Output e) h = refl

pub word_first : (e a : Expr) (word w : Option ℕ) → first_of (out-ExprKind e.kind) ≡ Some a → IsWordOf word a
    → ((n : ℕ) → size-Expr e ≤ suc n → w ≡ option_and_then (rest_of (word_to n) e.ty (out-ExprKind e.kind)) word) → IsWordOf w e
unfolding word_to
word_first e a word w q f h zero le = absurd (none_below e le)
word_first e a word w q f h (suc n) le = h n le ∙ parted (word_to n) e.ty (out-ExprKind e.kind) a word q (f n (omega (arith, first_below e a q, le)))

pub word_leaf : (e : Expr) → first_of (out-ExprKind e.kind) ≡ None → IsWordOf (leaf_word (out-ExprKind e.kind)) e
unfolding word_to
word_leaf e q zero le = absurd (none_below e le)
word_leaf e q (suc n) le = leafed (word_to n) e.ty (out-ExprKind e.kind) q

-- ---- loops down to the innermost first operand, and back

-- some expression has this word, and lies within e as these say
abbrev pub Reaches : List Expr → Option ℕ → Expr → Type 0
Reaches ks word e = (at : Expr) × IsWithin ks at e × IsWordOf word at

pub within_next : (ks new : List Expr) (k a e : Expr) → new ≡ k ∷ ks → first_of (out-ExprKind k.kind) ≡ Some a → IsWithin ks k e → IsWithin new a e
within_next ks new k a e q f h = subst (λ l. IsWithin l a e) (sym q) (f, h)

pub reaches_next : (ks new : List Expr) (k e : Expr) (word w : Option ℕ) → ks ≡ k ∷ new
    → ((n : ℕ) → size-Expr k ≤ suc n → w ≡ option_and_then (rest_of (word_to n) k.ty (out-ExprKind k.kind)) word) → Reaches ks word e → Reaches new w e
reaches_next ks new k e word w q h r =
    let within : IsWithin (k ∷ new) r.0 e = subst (λ l. IsWithin l r.0 e) q r.1 in
    (k, within.1, word_first k r.0 word w within.0 r.2 h)

pub reaches_end : (ks : List Expr) (e : Expr) (word : Option ℕ) → ks ≡ [] → Reaches ks word e → IsWordOf word e
reaches_end ks e word q r =
    let within : IsWithin [] r.0 e = subst (λ l. IsWithin l r.0 e) q r.1 in
    subst (IsWordOf word) within r.2
