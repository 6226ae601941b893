use Rattle.std.proofs.Common.{◌+◌, ◌*◌, ◌≤◌, Bool}
use Rattle.c_tree.specs.declared.tree.Expr.{size-Expr}
use Rattle.c_tree.specs.declared.tree.ExprKind.{out-ExprKind}
use Rattle.c_expressions.specs.Operands.{right}
use Rattle.c_expressions.proofs.ConstantLevels.{Made}
use Rattle.c_expressions.proofs.constants.+made.Given as goal

abbrev pub decreases-is_made : goal.decreases-is_made
decreases-is_made l = 2 * size-Expr l.e.now

abbrev pub decreases-is_made_besides : goal.decreases-is_made_besides
decreases-is_made_besides l = 2 * right (out-ExprKind l.e.now.kind) + 1

abbrev pub invariant-is_made-loop-first : goal.invariant-is_made-loop-first
invariant-is_made-loop-first l = ((r : Bool) → Made l.at r → Made l.e r) × (size-Expr l.at ≤ size-Expr l.e)

abbrev pub decreases-is_made-loop-first : goal.decreases-is_made-loop-first
decreases-is_made-loop-first l = size-Expr l.at
