-- Constant expressions, taken apart into the operand that is worked out first and the rest.
use Rattle.std.specs.Prelude.{◌≡◌, ℕ, ◌≤◌, max, ◌%◌, ◌^◌, Bool, true, false, Option, Some, None, List, [], ◌∷◌}
use Rattle.c_values.specs.declared.ops.Ty.{Ty}
use Rattle.c_values.specs.Values.{converted, unary_of}
use Rattle.c_tree.specs.Layer.{ExprLayer}
use Rattle.c_tree.specs.declared.tree.Expr.{Expr, size-Expr}
use Rattle.c_tree.specs.declared.tree.ExprKind.{out-ExprKind}
use Rattle.c_tree.specs.declared.tree.ExprKind.TheOpen.{ExprKind-F}
use Rattle.c_typing.specs.Constants.{second_word, word_to}

-- the operand that is worked out first, of what constants are made of
abbrev pub first_of : ExprLayer → Option Expr
first_of (ExprKind-F.Convert e) = Some e
first_of (ExprKind-F.Unary op a) = Some a
first_of (ExprKind-F.Binary op a b) = Some a
first_of _ = None

-- but for it, what constants are made of
abbrev pub is_made_besides : (Expr → Bool) → ExprLayer → Bool
is_made_besides f (ExprKind-F.Number w) = true
is_made_besides f (ExprKind-F.Convert e) = true
is_made_besides f (ExprKind-F.Unary op a) = true
is_made_besides f (ExprKind-F.Binary op a b) = f b
is_made_besides f _ = false

-- the word of what has no such operand
abbrev pub leaf_word : ExprLayer → Option ℕ
leaf_word (ExprKind-F.Number w) = Some (w % 2 ^ 16)
leaf_word _ = None

-- the word of an expression of the type `ty`, from that of its first operand on
abbrev pub rest_of : (Expr → Option ℕ) → Ty → ExprLayer → ℕ → Option ℕ
rest_of f ty (ExprKind-F.Convert e) x = Some (converted ty e.ty x)
rest_of f ty (ExprKind-F.Unary op a) x = Some (unary_of a.ty op x)
rest_of f ty (ExprKind-F.Binary op a b) x = second_word f op a b x
rest_of f ty _ x = None

-- the word of an expression, looked at through each number of levels that reaches its leaves
abbrev pub IsWordOf : Option ℕ → Expr → Type 0
IsWordOf word e = (n : ℕ) → size-Expr e ≤ n → word ≡ word_to n e

-- `at` is the first operand of the first of these, which is that of the next, and so on; the last is `e`
abbrev pub IsWithin : List Expr → Expr → Expr → Type 0
IsWithin [] at e = at ≡ e
IsWithin (k ∷ ks) at e = (first_of (out-ExprKind k.kind) ≡ Some at) × IsWithin ks k e

-- how many levels the second operand has
abbrev pub right : ExprLayer → ℕ
right (ExprKind-F.Binary op a b) = size-Expr b
right _ = 0

-- how many any second operand of these has
abbrev pub rights : List Expr → ℕ
rights [] = 0
rights (k ∷ ks) = max (right (out-ExprKind k.kind)) (rights ks)
