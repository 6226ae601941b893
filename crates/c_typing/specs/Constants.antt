-- Constant expressions (C11 6.6): literals, unary operators and casts, binary operators, and the conversions that these imply. They are evaluated as the
-- program's meaning would, so `1||1/0` is 1, and `1/0` has no value.
use Rattle.std.specs.Prelude.{ℕ, zero, suc, ◌%◌, ◌^◌, Bool, true, false, Option, Some, None, ◌&&◌, if◌then◌else◌}
use Rattle.std.specs.Option.{option_map, option_and_then}
use Rattle.c_values.specs.declared.ops.Ty.{Ty}
use Rattle.c_values.specs.declared.ops.BinaryOp.{BinaryOp}
use Rattle.c_values.specs.Values.{Worked, Gives, Traps, converted, from_test, is_set, unary_of, binary_of}
use Rattle.c_tree.specs.Nodes.{decides}
use Rattle.c_tree.specs.Layer.{ExprLayer}
use Rattle.c_tree.specs.declared.tree.Expr.{Expr, size-Expr}
use Rattle.c_tree.specs.declared.tree.ExprKind.{out-ExprKind}
use Rattle.c_tree.specs.declared.tree.ExprKind.TheOpen.{ExprKind-F}

-- what a constant expression is made of
abbrev pub is_made_by : (Expr → Bool) → ExprLayer → Bool
is_made_by f (ExprKind-F.Number w) = true
is_made_by f (ExprKind-F.Convert e) = f e
is_made_by f (ExprKind-F.Unary op a) = f a
is_made_by f (ExprKind-F.Binary op a b) = f a && f b
is_made_by f _ = false

unfoldable pub is_made : ℕ → Expr → Bool
is_made zero e = false
is_made (suc n) e = is_made_by (is_made n) (out-ExprKind e.kind)

abbrev pub given : Worked → Option ℕ
given (Gives w) = Some w
given (Traps t) = None

abbrev pub second_word : (Expr → Option ℕ) → BinaryOp → Expr → Expr → ℕ → Option ℕ
second_word f op a b x = if decides op x then Some (from_test (is_set x)) else option_and_then (λ y. given (binary_of a.ty b.ty op x y)) (f b)

-- the word of an expression of the type `ty`, or none at a trap
abbrev pub word_by : (Expr → Option ℕ) → Ty → ExprLayer → Option ℕ
word_by f ty (ExprKind-F.Number w) = Some (w % 2 ^ 16)
word_by f ty (ExprKind-F.Convert e) = option_map (converted ty e.ty) (f e)
word_by f ty (ExprKind-F.Unary op a) = option_map (unary_of a.ty op) (f a)
word_by f ty (ExprKind-F.Binary op a b) = option_and_then (second_word f op a b) (f a)
word_by f ty _ = None

unfoldable pub word_to : ℕ → Expr → Option ℕ
word_to zero e = None
word_to (suc n) e = word_by (word_to n) e.ty (out-ExprKind e.kind)

-- the word of a constant expression, looked at through this many levels
abbrev pub constant_to : ℕ → Expr → Option ℕ
constant_to n e = if is_made n e then word_to n e else None

-- the word of a constant expression; other expressions, and those that trap, have none
abbrev pub constant_of : Expr → Option ℕ
constant_of e = constant_to (size-Expr e) e
