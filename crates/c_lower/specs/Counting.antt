-- What the functions on constant expressions and counted loops hand each other.
use Rattle.std.specs.Prelude.{ℕ, ◌%◌, ◌^◌, Bool, true, false, ◌&&◌, Option, Some, None, List, [], ◌∷◌, if◌then◌else◌}
use Rattle.std.specs.Option.{option_map, option_and_then}
use Rattle.c_values.specs.declared.ops.Ty.{Ty}
use Rattle.c_values.specs.declared.ops.Ty.TheVariants.{I16}
use Rattle.c_values.specs.declared.ops.BinaryOp.{BinaryOp}
use Rattle.c_values.specs.Values.{converted, from_test, is_set, unary_of, binary_of}
use Rattle.c_tree.specs.Nodes.{decides}
use Rattle.c_tree.specs.Layer.{ExprLayer}
use Rattle.c_tree.specs.declared.tree.Expr.{Expr}
use Rattle.c_tree.specs.declared.tree.ExprKind.{out-ExprKind}
use Rattle.c_tree.specs.declared.tree.ExprKind.TheOpen.{ExprKind-F}
use Rattle.lowered_graphs.specs.Counted.{Constant, constant, given}
use Rattle.c_lower.specs.declared.constants.Worth.{Worth}

abbrev pub worth : Constant → Worth
worth c = record { made = c.made; word = c.word }

-- the word of an operator by the word of its first operand
abbrev pub second_worth : BinaryOp → Ty → Ty → Worth → ℕ → Option ℕ
second_worth op ty by b x = if decides op x then Some (from_test (is_set x)) else option_and_then (λ y. given (binary_of ty by op x y)) b.word

abbrev pub binary_worth : BinaryOp → Ty → Ty → Worth → Worth → Worth
binary_worth op ty by a b = record { made = a.made && b.made; word = option_and_then (second_worth op ty by b) a.word }

-- of an expression that has no first operand
abbrev pub leaf_worth : ExprLayer → Worth
leaf_worth (ExprKind-F.Number w) = record { made = true; word = Some (w % 2 ^ 16) }
leaf_worth _ = record { made = false; word = None }

-- of an expression, by what is known of its first operand
abbrev pub rest_worth : ExprLayer → Ty → Worth → Worth
rest_worth (ExprKind-F.Convert e) ty w = record { made = w.made; word = option_map (converted ty e.ty) w.word }
rest_worth (ExprKind-F.Unary op a) ty w = record { made = w.made; word = option_map (unary_of a.ty op) w.word }
rest_worth (ExprKind-F.Binary op a b) ty w = binary_worth op a.ty b.ty w (worth (constant b))
rest_worth _ ty w = record { made = false; word = None }

-- what comes behind the operand that is the first of the first of these, which is that of the next, and so on
abbrev pub rests_worth : List Expr → Worth → Worth
rests_worth [] w = w
rests_worth (e ∷ es) w = rests_worth es (rest_worth (out-ExprKind e.kind) e.ty w)

abbrev pub is_int : Ty → Bool
is_int I16 = true
is_int _ = false
