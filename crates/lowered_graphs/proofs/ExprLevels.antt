-- What an expression is lowered to, by its parts.
use Rattle.std.proofs.Common.{◌≡◌, refl, sym, ap, ◌∙◌, Bool, List, [], ◌∷◌, ◌++◌}
use Rattle.std.specs.Prelude.{◌||◌}
use Rattle.c_tree.specs.Layer.{ExprLayer}
use Rattle.c_tree.specs.declared.tree.Expr.{Expr}
use Rattle.c_tree.specs.declared.tree.ExprKind.{ExprKind, out-ExprKind}
use Rattle.c_tree.specs.declared.tree.ExprKind.TheOpen.{ExprKind-F}
use Rattle.c_tree.specs.declared.tree.ExprKind.TheFolds.{map-ExprKind, fold-ExprKind, fold_out-ExprKind, fold_out-Expr}
use Rattle.base_io.specs.declared.place.Place.{Place}
use Rattle.c_values.specs.declared.ops.BinaryOp.{BinaryOp}
use Rattle.c_values.specs.declared.ops.BinaryOp.TheVariants as binary
use Rattle.lowered_graphs.specs.Exprs.{binary_of, ordinary, Setting, LoweredExpr, KindOf, lowered, lowered_by, own_lowered, parts, has_any}

kind_lowered : Setting → ExprKind → KindOf
kind_lowered s k = fold-ExprKind KindOf LoweredExpr (lowered_by s) own_lowered k

mapped : (s : Setting) (x : ExprLayer) → lowered_by s (map-ExprKind ExprKind Expr KindOf LoweredExpr (kind_lowered s) (lowered s) x) ≡ lowered_by s (parts s x)
mapped s (ExprKind-F.Number w) = refl
mapped s (ExprKind-F.Var x) = refl
mapped s (ExprKind-F.Element x i) = refl
mapped s (ExprKind-F.Convert e) = refl
mapped s (ExprKind-F.Unary op a) = refl
mapped s (ExprKind-F.Binary op a b) = refl
mapped s (ExprKind-F.Cond c a b) = refl
mapped s (ExprKind-F.Call f args) = refl
mapped s ExprKind-F.Input = refl
mapped s (ExprKind-F.Output e) = refl

kind_level : (s : Setting) (k : ExprKind) → kind_lowered s k ≡ lowered_by s (parts s (out-ExprKind k))
unfolding lowered kind_lowered
kind_level s k = fold_out-ExprKind KindOf LoweredExpr (lowered_by s) own_lowered k ∙ mapped s (out-ExprKind k)

pub lowered_level : (s : Setting) (e : Expr) → lowered_by s (parts s (out-ExprKind e.kind)) e.place e.ty ≡ lowered s e
unfolding lowered kind_lowered
lowered_level s e = ap (λ f. f e.place e.ty) (sym (kind_level s e.kind)) ∙ sym (fold_out-Expr KindOf LoweredExpr (lowered_by s) own_lowered e)

pub lowered_ty : (s : Setting) (e : Expr) → (lowered s e).ty ≡ e.ty
lowered_ty s e = sym (ap (λ l. l.ty) (lowered_level s e))

pub has_any_append : {A : Type 0} (xs ys : List A) → has_any (xs ++ ys) ≡ (has_any xs || has_any ys)
has_any_append [] ys = refl
has_any_append (x ∷ xs) ys = refl

-- an operator that isn't `&&` or `||`
pub binary_other : (op : BinaryOp) (a b : LoweredExpr) (at : Place) (later : Bool) → (op ≡ binary.And → ⊥) → (op ≡ binary.Or → ⊥) → binary_of op a b at later ≡ ordinary op a.ty a b at later
binary_other binary.And a b at later f g = absurd (f refl)
binary_other binary.Or a b at later f g = absurd (g refl)
binary_other binary.Mul a b at later f g = refl
binary_other binary.Div a b at later f g = refl
binary_other binary.Rem a b at later f g = refl
binary_other binary.Add a b at later f g = refl
binary_other binary.Sub a b at later f g = refl
binary_other binary.Shl a b at later f g = refl
binary_other binary.Shr a b at later f g = refl
binary_other binary.Less a b at later f g = refl
binary_other binary.Greater a b at later f g = refl
binary_other binary.LessEq a b at later f g = refl
binary_other binary.GreaterEq a b at later f g = refl
binary_other binary.Equal a b at later f g = refl
binary_other binary.NotEqual a b at later f g = refl
binary_other binary.BitAnd a b at later f g = refl
binary_other binary.BitXor a b at later f g = refl
binary_other binary.BitOr a b at later f g = refl
