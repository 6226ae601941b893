-- Operators between operands, taken from the left.
use Rattle.std.specs.Prelude.{ℕ, ◌+◌, List, [], ◌∷◌}
use Rattle.c_tree.specs.declared.tree.Expr.{Expr}
use Rattle.c_typing.specs.declared.value.Value.{Value}
use Rattle.c_typing.specs.Parts.{Part, ◌>>=◌, pure}
use Rattle.c_typing.specs.Texts.{binary_op}
use Rattle.c_typing.specs.Expressions.{second_operand, used}
use Rattle.c_typing.specs.Programs.{judged}
use Rattle.c_typing.specs.Sizes.{size}
use Rattle.c_expressions.specs.declared.trees.Operation.{Operation}

-- what an operation is, from its left operand on
abbrev pub behind_left : Operation → Expr → Part Value
behind_left o = second_operand (judged o.operator.now).place (binary_op (judged o.operator.now).text) (judged o.right.now)

-- its value
abbrev pub operated : Operation → Expr → Part Expr
operated o x = behind_left o x >>= used

-- The value of the last of these operations, from the left operand of the first on. Each is the left operand of the next.
abbrev pub rests_of : List Operation → Expr → Part Expr
rests_of [] x = pure x
rests_of (o ∷ os) x = operated o x >>= rests_of os

-- how many tokens and nodes their right operands have
abbrev pub rights : List Operation → ℕ
rights [] = 0
rights (o ∷ os) = size o.right.now + rights os
