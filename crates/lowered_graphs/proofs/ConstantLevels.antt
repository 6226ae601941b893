-- What is known of a constant expression, by its parts.
use Rattle.std.proofs.Common.{◌≡◌, refl, sym, ap, ◌∙◌}
use Rattle.c_tree.specs.Layer.{ExprLayer}
use Rattle.c_tree.specs.declared.tree.Expr.{Expr}
use Rattle.c_tree.specs.declared.tree.ExprKind.{ExprKind, out-ExprKind}
use Rattle.c_tree.specs.declared.tree.ExprKind.TheOpen.{ExprKind-F}
use Rattle.c_tree.specs.declared.tree.ExprKind.TheFolds.{map-ExprKind, fold-ExprKind, fold_out-ExprKind, fold_out-Expr}
use Rattle.lowered_graphs.specs.Counted.{Constant, KindConstant, constant_by, own_constant, constant, constant_parts}

kind_constant : ExprKind → KindConstant
kind_constant k = fold-ExprKind KindConstant Constant constant_by own_constant k

mapped : (x : ExprLayer) → constant_by (map-ExprKind ExprKind Expr KindConstant Constant kind_constant constant x) ≡ constant_by (constant_parts x)
mapped (ExprKind-F.Number w) = refl
mapped (ExprKind-F.Var x) = refl
mapped (ExprKind-F.Element x i) = refl
mapped (ExprKind-F.Convert e) = refl
mapped (ExprKind-F.Unary op a) = refl
mapped (ExprKind-F.Binary op a b) = refl
mapped (ExprKind-F.Cond c a b) = refl
mapped (ExprKind-F.Call f args) = refl
mapped ExprKind-F.Input = refl
mapped (ExprKind-F.Output e) = refl

kind_level : (k : ExprKind) → kind_constant k ≡ constant_by (constant_parts (out-ExprKind k))
unfolding constant kind_constant
kind_level k = fold_out-ExprKind KindConstant Constant constant_by own_constant k ∙ mapped (out-ExprKind k)

pub constant_level : (e : Expr) → constant_by (constant_parts (out-ExprKind e.kind)) e.ty ≡ constant e
unfolding constant kind_constant
constant_level e = ap (λ f. f e.ty) (sym (kind_level e.kind)) ∙ sym (fold_out-Expr KindConstant Constant constant_by own_constant e)

pub constant_ty : (e : Expr) → (constant e).ty ≡ e.ty
constant_ty e = sym (ap (λ c. c.ty) (constant_level e))
