-- An expression as its first operand and what comes behind it.
use Rattle.std.proofs.Common.{◌≡◌, ℕ, ◌+◌, ◌≤◌, max, arith, subst, refl, sym, ap, ◌∙◌, Bool, true, false, List, [], ◌∷◌, ◌++◌, append-nil, map, Some, None}
use Rattle.std.specs.Prelude.{◌||◌}
use Rattle.base_io.specs.declared.place.Place.{Place}
use Rattle.c_values.specs.declared.ops.Ty.{Ty}
use Rattle.c_values.specs.declared.ops.BinaryOp.{BinaryOp}
use Rattle.c_values.specs.declared.ops.BinaryOp.TheVariants as binary
use Rattle.c_tree.specs.Chains.{first_of}
use Rattle.c_tree.specs.Layer.{ExprLayer}
use Rattle.c_tree.specs.declared.tree.Expr.{Expr, size-Expr, size_is-Expr}
use Rattle.c_tree.specs.declared.tree.ExprKind.{ExprKind, out-ExprKind, size-ExprKind, size_is-ExprKind}
use Rattle.c_tree.specs.declared.tree.ExprKind.TheOpen.{ExprKind-F}
use Rattle.lowered_graphs.specs.Making.{Counts, made_on}
use Rattle.lowered_graphs.specs.Operators.{make_conversion}
use Rattle.lowered_graphs.specs.Exprs.{Setting, lowered, parts, emit_by, callees_by, callees_of, binary_of}
use Rattle.lowered_graphs.proofs.ExprLevels.{lowered_level, lowered_ty, has_any_append}
use Rattle.c_lower.specs.Operands.{Waiting, waiting, waited, late_first, behind_first, rest_of, rests_of, behind_callees, leaf_of}
use Rattle.c_lower.specs.Holding.{is_among}
use Rattle.c_lower.specs.declared.calling.Callee.{Callee}
use Rattle.c_lower.specs.declared.calling.Callee.TheVariants.{Any, Function}
use Rattle.c_lower.proofs.HoldLemmas.{holds_append, or_false}
use Rattle.c_lower.proofs.EmitLemmas.{on_assoc, on_pure}

binary_parted : (s : Setting) (op : BinaryOp) (a b : Expr) (at : Place) (later : Bool) (c : Counts)
    → binary_of op (lowered s a) (lowered s b) at later c ≡ made_on ((lowered s a).emit (late_first s (ExprKind-F.Binary op a b) later) c) (behind_first op (lowered s a).ty (lowered s b) at later)
binary_parted s binary.And a b at later c = refl
binary_parted s binary.Or a b at later c = refl
binary_parted s binary.Mul a b at later c = refl
binary_parted s binary.Div a b at later c = refl
binary_parted s binary.Rem a b at later c = refl
binary_parted s binary.Add a b at later c = refl
binary_parted s binary.Sub a b at later c = refl
binary_parted s binary.Shl a b at later c = refl
binary_parted s binary.Shr a b at later c = refl
binary_parted s binary.Less a b at later c = refl
binary_parted s binary.Greater a b at later c = refl
binary_parted s binary.LessEq a b at later c = refl
binary_parted s binary.GreaterEq a b at later c = refl
binary_parted s binary.Equal a b at later c = refl
binary_parted s binary.NotEqual a b at later c = refl
binary_parted s binary.BitAnd a b at later c = refl
binary_parted s binary.BitXor a b at later c = refl
binary_parted s binary.BitOr a b at later c = refl

parted : (s : Setting) (l : ExprLayer) (a : Expr) (at : Place) (ty : Ty) (later : Bool) (c : Counts) → first_of l ≡ Some a
    → emit_by s (parts s l) at ty later c ≡ made_on ((lowered s a).emit (late_first s l later) c) (rest_of s l at ty later)
parted s (ExprKind-F.Number w) a at ty later c h = cc
parted s (ExprKind-F.Var x) a at ty later c h = cc
parted s (ExprKind-F.Element x i) a at ty later c h = let q : i ≡ a = cc in rw (← q) refl
parted s (ExprKind-F.Convert e) a at ty later c h = let q : e ≡ a = cc in rw (← q)
    (ap (λ t. made_on ((lowered s e).emit later c) (λ x. make_conversion ty t x at)) (lowered_ty s e))
parted s (ExprKind-F.Unary op e) a at ty later c h = let q : e ≡ a = cc in rw (← q) refl
parted s (ExprKind-F.Binary op e b) a at ty later c h = let q : e ≡ a = cc in rw (← q)
    (binary_parted s op e b at later c ∙ ap (λ t. made_on ((lowered s e).emit (late_first s (ExprKind-F.Binary op e b) later) c) (behind_first op t (lowered s b) at later)) (lowered_ty s e))
parted s (ExprKind-F.Cond e y n) a at ty later c h = let q : e ≡ a = cc in rw (← q) refl
parted s (ExprKind-F.Call f args) a at ty later c h = cc
parted s ExprKind-F.Input a at ty later c h = cc
parted s (ExprKind-F.Output e) a at ty later c h = let q : e ≡ a = cc in rw (← q) refl

leafed : (s : Setting) (l : ExprLayer) (at : Place) (ty : Ty) (later : Bool) (c : Counts) → first_of l ≡ None → emit_by s (parts s l) at ty later c ≡ leaf_of s l at later c
leafed s (ExprKind-F.Number w) at ty later c h = refl
leafed s (ExprKind-F.Var x) at ty later c h = refl
leafed s (ExprKind-F.Element x i) at ty later c h = cc
leafed s (ExprKind-F.Convert e) at ty later c h = cc
leafed s (ExprKind-F.Unary op e) at ty later c h = cc
leafed s (ExprKind-F.Binary op e b) at ty later c h = cc
leafed s (ExprKind-F.Cond e y n) at ty later c h = cc
leafed s (ExprKind-F.Call f args) at ty later c h = refl
leafed s ExprKind-F.Input at ty later c h = refl
leafed s (ExprKind-F.Output e) at ty later c h = cc

-- the whole of an expression whose first operand is a
pub first_parted : (s : Setting) (e a : Expr) (later : Bool) (c : Counts) → first_of (out-ExprKind e.kind) ≡ Some a
    → (lowered s e).emit later c ≡ made_on ((lowered s a).emit (late_first s (out-ExprKind e.kind) later) c) (rest_of s (out-ExprKind e.kind) e.place e.ty later)
first_parted s e a later c h = ap (λ l. l.emit later c) (sym (lowered_level s e)) ∙ parted s (out-ExprKind e.kind) a e.place e.ty later c h

pub leaf_emits : (s : Setting) (e : Expr) (later : Bool) (c : Counts) → first_of (out-ExprKind e.kind) ≡ None → leaf_of s (out-ExprKind e.kind) e.place later c ≡ (lowered s e).emit later c
leaf_emits s e later c h = sym (leafed s (out-ExprKind e.kind) e.place e.ty later c h) ∙ ap (λ l. l.emit later c) (lowered_level s e)

-- ---- the functions that are called

callees_parted : (s : Setting) (l : ExprLayer) (a : Expr) → first_of l ≡ Some a → callees_by (parts s l) ≡ (lowered s a).callees ++ behind_callees s l
callees_parted s (ExprKind-F.Number w) a h = cc
callees_parted s (ExprKind-F.Var x) a h = cc
callees_parted s (ExprKind-F.Element x i) a h = let q : i ≡ a = cc in rw (← q) (sym (append-nil (lowered s i).callees))
callees_parted s (ExprKind-F.Convert e) a h = let q : e ≡ a = cc in rw (← q) (sym (append-nil (lowered s e).callees))
callees_parted s (ExprKind-F.Unary op e) a h = let q : e ≡ a = cc in rw (← q) (sym (append-nil (lowered s e).callees))
callees_parted s (ExprKind-F.Binary op e b) a h = let q : e ≡ a = cc in rw (← q) refl
callees_parted s (ExprKind-F.Cond e y n) a h = let q : e ≡ a = cc in rw (← q) refl
callees_parted s (ExprKind-F.Call f args) a h = cc
callees_parted s ExprKind-F.Input a h = cc
callees_parted s (ExprKind-F.Output e) a h = let q : e ≡ a = cc in rw (← q) (sym (append-nil (lowered s e).callees))

callees_leafed : (s : Setting) (l : ExprLayer) → first_of l ≡ None → callees_by (parts s l) ≡ behind_callees s l
callees_leafed s (ExprKind-F.Number w) h = refl
callees_leafed s (ExprKind-F.Var x) h = refl
callees_leafed s (ExprKind-F.Element x i) h = cc
callees_leafed s (ExprKind-F.Convert e) h = cc
callees_leafed s (ExprKind-F.Unary op e) h = cc
callees_leafed s (ExprKind-F.Binary op e b) h = cc
callees_leafed s (ExprKind-F.Cond e y n) h = cc
callees_leafed s (ExprKind-F.Call f args) h = refl
callees_leafed s ExprKind-F.Input h = refl
callees_leafed s (ExprKind-F.Output e) h = cc

pub first_callees : (s : Setting) (e a : Expr) → first_of (out-ExprKind e.kind) ≡ Some a → (lowered s e).callees ≡ (lowered s a).callees ++ behind_callees s (out-ExprKind e.kind)
first_callees s e a h = ap (λ l. l.callees) (sym (lowered_level s e)) ∙ callees_parted s (out-ExprKind e.kind) a h

pub leaf_callees : (s : Setting) (e : Expr) → first_of (out-ExprKind e.kind) ≡ None → (lowered s e).callees ≡ behind_callees s (out-ExprKind e.kind)
leaf_callees s e h = ap (λ l. l.callees) (sym (lowered_level s e)) ∙ callees_leafed s (out-ExprKind e.kind) h

-- ---- going down

-- a node is kept, and its first operand is lowered before what comes behind
pub kept_on : (s : Setting) (e a : Expr) (later : Bool) (ws : List Waiting) (c : Counts) → first_of (out-ExprKind e.kind) ≡ Some a
    → made_on ((lowered s e).emit later c) (rests_of s ws) ≡ made_on ((lowered s a).emit (late_first s (out-ExprKind e.kind) later) c) (rests_of s (waiting e later ∷ ws))
kept_on s e a later ws c h = ap (λ m. made_on m (rests_of s ws)) (first_parted s e a later c h)
    ∙ on_assoc ((lowered s a).emit (late_first s (out-ExprKind e.kind) later) c) (rest_of s (out-ExprKind e.kind) e.place e.ty later) (rests_of s ws)

-- ---- first operands are smaller

kind_below : (k : ExprKind) (l : ExprLayer) (a : Expr) → out-ExprKind k ≡ l → first_of l ≡ Some a → size-Expr a + 1 ≤ size-ExprKind k
kind_below k (ExprKind-F.Number w) a e h = cc
kind_below k (ExprKind-F.Var x) a e h = cc
kind_below k (ExprKind-F.Element x i) a e h = let q : i ≡ a = cc in rw (← q) omega (arith, rw e at (size_is-ExprKind k))
kind_below k (ExprKind-F.Convert i) a e h = let q : i ≡ a = cc in rw (← q) omega (arith, rw e at (size_is-ExprKind k))
kind_below k (ExprKind-F.Unary op i) a e h = let q : i ≡ a = cc in rw (← q) omega (arith, rw e at (size_is-ExprKind k))
kind_below k (ExprKind-F.Binary op i b) a e h = let q : i ≡ a = cc in rw (← q) omega (arith, rw e at (size_is-ExprKind k))
kind_below k (ExprKind-F.Cond i y n) a e h = let q : i ≡ a = cc in rw (← q) omega (arith, rw e at (size_is-ExprKind k))
kind_below k (ExprKind-F.Call f args) a e h = cc
kind_below k ExprKind-F.Input a e h = cc
kind_below k (ExprKind-F.Output i) a e h = let q : i ≡ a = cc in rw (← q) omega (arith, rw e at (size_is-ExprKind k))

pub first_smaller : (e a : Expr) → first_of (out-ExprKind e.kind) ≡ Some a → size-Expr a + 1 ≤ size-Expr e
first_smaller e a h = omega (arith, kind_below e.kind (out-ExprKind e.kind) a refl h, size_is-Expr e)

-- the largest of the expressions that are kept
abbrev pub largest : List Waiting → ℕ
largest [] = 0
largest (w ∷ ws) = max (size-Expr w.expr) (largest ws)

-- ---- whether one of the functions that are called is meant

or_true : (a : Bool) → (a || true) ≡ true
or_true true = refl
or_true false = refl

pub is_among_append : (callee : Callee) (xs ys : List ℕ) → is_among callee (xs ++ ys) ≡ (is_among callee xs || is_among callee ys)
is_among_append Any xs ys = has_any_append xs ys
is_among_append (Function f) xs ys = holds_append f xs ys

-- nothing behind the first operand is meant
pub among_first : (callee : Callee) (s : Setting) (e a : Expr) → first_of (out-ExprKind e.kind) ≡ Some a → is_among callee (behind_callees s (out-ExprKind e.kind)) ≡ false
    → is_among callee (lowered s e).callees ≡ is_among callee (lowered s a).callees
among_first callee s e a h q = ap (is_among callee) (first_callees s e a h) ∙ is_among_append callee (lowered s a).callees (behind_callees s (out-ExprKind e.kind))
    ∙ ap (λ b. is_among callee (lowered s a).callees || b) q ∙ or_false (is_among callee (lowered s a).callees)

-- something behind the first operand is meant
pub among_behind : (callee : Callee) (s : Setting) (e a : Expr) → first_of (out-ExprKind e.kind) ≡ Some a → is_among callee (behind_callees s (out-ExprKind e.kind)) ≡ true
    → is_among callee (lowered s e).callees ≡ true
among_behind callee s e a h q = ap (is_among callee) (first_callees s e a h) ∙ is_among_append callee (lowered s a).callees (behind_callees s (out-ExprKind e.kind))
    ∙ ap (λ b. is_among callee (lowered s a).callees || b) q ∙ or_true (is_among callee (lowered s a).callees)

pub waited_none : (s : Setting) (e : Expr) (later : Bool) (ws : List Waiting) (c : Counts) → ws ≡ [] → (lowered s e).emit later c ≡ waited s e later ws c
waited_none s e later ws c h = sym (ap (λ l. made_on ((lowered s e).emit later c) (rests_of s l)) h ∙ on_pure ((lowered s e).emit later c))

pub largest_kept : (e : Expr) (later : Bool) (ws : List Waiting) (n : ℕ) → size-Expr e ≤ n → largest ws ≤ n → largest (waiting e later ∷ ws) ≤ n
largest_kept e later ws n h k = omega (arith, h, k)

-- what two expressions call, or a call
pub among_two : (callee : Callee) (s : Setting) (l : ExprLayer) (c a b : Expr) → l ≡ ExprKind-F.Cond c a b
    → is_among callee (behind_callees s l) ≡ (is_among callee (lowered s a).callees || is_among callee (lowered s b).callees)
among_two callee s l c a b h = ap (λ x. is_among callee (behind_callees s x)) h ∙ is_among_append callee (lowered s a).callees (lowered s b).callees

pub among_call : (callee : Callee) (s : Setting) (l : ExprLayer) (f : ℕ) (args : List Expr) → l ≡ ExprKind-F.Call f args
    → is_among callee (behind_callees s l) ≡ (is_among callee (callees_of (map (lowered s) args)) || is_among callee (f ∷ []))
among_call callee s l f args h = ap (λ x. is_among callee (behind_callees s x)) h ∙ is_among_append callee (callees_of (map (lowered s) args)) (f ∷ [])

-- one expression, and then the others
pub among_more : (callee : Callee) (s : Setting) (xs rest : List Expr) (e : Expr) → xs ≡ e ∷ rest
    → is_among callee (callees_of (map (lowered s) xs)) ≡ (is_among callee (lowered s e).callees || is_among callee (callees_of (map (lowered s) rest)))
among_more callee s xs rest e h = ap (λ l. is_among callee (callees_of (map (lowered s) l))) h ∙ is_among_append callee (lowered s e).callees (callees_of (map (lowered s) rest))

pub largest_rest : (w : Waiting) (xs ws : List Waiting) (n : ℕ) → xs ≡ w ∷ ws → largest xs ≤ n → largest ws ≤ n
largest_rest w xs ws n e h = let k = subst (λ l. largest l ≤ n) e h in omega (arith, k)
