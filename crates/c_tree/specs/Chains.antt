-- An expression as its first operand and what comes behind it.
use Rattle.std.specs.Prelude.{ℕ, suc, ◌%◌, ◌^◌, Option, Some, None, List, [], ◌∷◌}
use Rattle.c_values.specs.declared.ops.Ty.{Ty}
use Rattle.c_values.specs.Values.{converted, unary_of}
use Rattle.c_tree.specs.declared.tree.Expr.{Expr}
use Rattle.c_tree.specs.declared.tree.ExprKind.{out-ExprKind}
use Rattle.c_tree.specs.declared.tree.ExprKind.TheOpen.{ExprKind-F}
use Rattle.c_tree.specs.declared.tree.Program.{Program}
use Rattle.c_tree.specs.Layer.{ExprLayer}
use Rattle.c_tree.specs.Runs.{Part, ◌>>=◌, pure, read, read_at, take_word}
use Rattle.c_tree.specs.Nodes.{Within, second_by, choice_by, to_depth}
use Rattle.c_tree.specs.Arms.{shown_by, called_by}

-- the operand that is evaluated first, unless there is none or it is an argument
abbrev pub first_of : ExprLayer → Option Expr
first_of (ExprKind-F.Element x i) = Some i
first_of (ExprKind-F.Convert e) = Some e
first_of (ExprKind-F.Unary op a) = Some a
first_of (ExprKind-F.Binary op a b) = Some a
first_of (ExprKind-F.Cond c a b) = Some c
first_of (ExprKind-F.Output e) = Some e
first_of _ = None

-- what comes behind its word
abbrev pub rest_of : Within → Ty → ExprLayer → ℕ → Part ℕ
rest_of d ty (ExprKind-F.Element x i) w = read_at x i.ty w
rest_of d ty (ExprKind-F.Convert e) w = pure (converted ty e.ty w)
rest_of d ty (ExprKind-F.Unary op a) w = pure (unary_of a.ty op w)
rest_of d ty (ExprKind-F.Binary op a b) w = second_by d.expr op a b w
rest_of d ty (ExprKind-F.Cond c a b) w = choice_by d.expr a b w
rest_of d ty (ExprKind-F.Output e) w = shown_by w
rest_of d ty _ w = pure w

-- a level with no such operand
abbrev pub leaf_of : Program → Within → ExprLayer → Part ℕ
leaf_of p d (ExprKind-F.Number w) = pure (w % 2 ^ 16)
leaf_of p d (ExprKind-F.Var x) = read x
leaf_of p d (ExprKind-F.Call f args) = called_by p d f args
leaf_of p d ExprKind-F.Input = take_word
leaf_of p d _ = pure 0

-- What comes behind the word of an expression at the depth n that is the first operand of the first of these, which is that of the next, and so on.
abbrev pub rests_of : Program → ℕ → List Expr → ℕ → Part ℕ
rests_of p n [] w = pure w
rests_of p n (e ∷ es) w = rest_of (to_depth p n) e.ty (out-ExprKind e.kind) w >>= rests_of p (suc n) es
