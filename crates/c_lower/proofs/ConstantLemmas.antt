-- Constant expressions by their first operands.
use Rattle.std.proofs.Common.{◌≡◌, ℕ, ◌≤◌, max, arith, subst, refl, sym, ap, ◌∙◌, List, [], ◌∷◌, Option, Some, None}
use Rattle.std.specs.Option.{option_map}
use Rattle.c_values.specs.declared.ops.Ty.{Ty}
use Rattle.c_values.specs.Values.{converted, unary_of}
use Rattle.c_tree.specs.Chains.{first_of}
use Rattle.c_tree.specs.Layer.{ExprLayer}
use Rattle.c_tree.specs.declared.tree.Expr.{Expr, size-Expr}
use Rattle.c_tree.specs.declared.tree.ExprKind.{out-ExprKind}
use Rattle.c_tree.specs.declared.tree.ExprKind.TheOpen.{ExprKind-F}
use Rattle.lowered_graphs.specs.Counted.{constant, constant_by, constant_parts}
use Rattle.lowered_graphs.proofs.ConstantLevels.{constant_level, constant_ty}
use Rattle.c_lower.specs.declared.constants.Worth.{Worth}
use Rattle.c_lower.specs.Counting.{worth, binary_worth, leaf_worth, rest_worth, rests_worth}

abbrev converted_worth : Ty → Expr → Ty → Worth
converted_worth ty a from = record { made = (constant a).made; word = option_map (converted ty from) (constant a).word }

parted : (l : ExprLayer) (a : Expr) (ty : Ty) → first_of l ≡ Some a → worth (constant_by (constant_parts l) ty) ≡ rest_worth l ty (worth (constant a))
parted (ExprKind-F.Number w) a ty h = cc
parted (ExprKind-F.Var x) a ty h = cc
parted (ExprKind-F.Element x i) a ty h = refl
parted (ExprKind-F.Convert e) a ty h = let q : e ≡ a = cc in rw (← q) (ap (converted_worth ty e) (constant_ty e))
parted (ExprKind-F.Unary op e) a ty h = let q : e ≡ a = cc in rw (← q)
    (ap (λ (t : Ty). record { made = (constant e).made; word = option_map (unary_of t op) (constant e).word }) (constant_ty e))
parted (ExprKind-F.Binary op e b) a ty h = let q : e ≡ a = cc in rw (← q)
    (ap (λ t. binary_worth op t (constant b).ty (worth (constant e)) (worth (constant b))) (constant_ty e)
    ∙ ap (λ t. binary_worth op e.ty t (worth (constant e)) (worth (constant b))) (constant_ty b))
parted (ExprKind-F.Cond e y n) a ty h = refl
parted (ExprKind-F.Call f args) a ty h = cc
parted ExprKind-F.Input a ty h = cc
parted (ExprKind-F.Output e) a ty h = refl

leafed : (l : ExprLayer) (ty : Ty) → first_of l ≡ None → worth (constant_by (constant_parts l) ty) ≡ leaf_worth l
leafed (ExprKind-F.Number w) ty h = refl
leafed (ExprKind-F.Var x) ty h = refl
leafed (ExprKind-F.Element x i) ty h = cc
leafed (ExprKind-F.Convert e) ty h = cc
leafed (ExprKind-F.Unary op e) ty h = cc
leafed (ExprKind-F.Binary op e b) ty h = cc
leafed (ExprKind-F.Cond e y n) ty h = cc
leafed (ExprKind-F.Call f args) ty h = refl
leafed ExprKind-F.Input ty h = refl
leafed (ExprKind-F.Output e) ty h = cc

pub leaf_is : (e : Expr) → first_of (out-ExprKind e.kind) ≡ None → leaf_worth (out-ExprKind e.kind) ≡ worth (constant e)
leaf_is e h = sym (leafed (out-ExprKind e.kind) e.ty h) ∙ ap worth (constant_level e)

-- an expression is kept, and its first operand is looked at before what comes behind
pub kept_is : (e a : Expr) (es : List Expr) → first_of (out-ExprKind e.kind) ≡ Some a → rests_worth es (worth (constant e)) ≡ rests_worth (e ∷ es) (worth (constant a))
kept_is e a es h = ap (rests_worth es) (sym (ap worth (constant_level e)) ∙ parted (out-ExprKind e.kind) a e.ty h)

-- the largest of the expressions that are kept
abbrev pub largest : List Expr → ℕ
largest [] = 0
largest (e ∷ es) = max (size-Expr e) (largest es)

pub largest_kept : (e : Expr) (es : List Expr) (n : ℕ) → size-Expr e ≤ n → largest es ≤ n → largest (e ∷ es) ≤ n
largest_kept e es n h k = omega (arith, h, k)

pub largest_rest : (e : Expr) (xs es : List Expr) (n : ℕ) → xs ≡ e ∷ es → largest xs ≤ n → largest es ≤ n
largest_rest e xs es n h k = let q = subst (λ l. largest l ≤ n) h k in omega (arith, q)
