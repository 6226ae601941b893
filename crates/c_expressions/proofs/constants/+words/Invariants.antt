use Rattle.std.proofs.Common.{◌+◌, ◌*◌, ◌≤◌, length, reverse, map}
use Rattle.c_tree.specs.declared.tree.Expr.{Expr, size-Expr}
use Rattle.c_tree.specs.declared.tree.ExprKind.{out-ExprKind}
use Rattle.c_expressions.specs.Operands.{IsWithin, IsWordOf, right, rights}
use Rattle.c_expressions.proofs.ConstantLevels.{Reaches}
use Rattle.c_expressions.proofs.constants.+words.Given as goal

abbrev pub decreases-word : goal.decreases-word
decreases-word l = 8 * size-Expr l.e.now

abbrev pub decreases-rests : goal.decreases-rests
decreases-rests l = 8 * rights (map (λ r. r.now) (reverse l.above.items)) + 3

abbrev pub decreases-rest : goal.decreases-rest
decreases-rest l = 8 * right (out-ExprKind l.e.now.kind) + 2

abbrev pub decreases-second_word : goal.decreases-second_word
decreases-second_word l = 8 * size-Expr l.b.now + 1

abbrev pub invariant-word-loop-first : goal.invariant-word-loop-first
invariant-word-loop-first l = IsWithin (map (λ r. r.now) (reverse l.above.items)) l.at l.e × (rights (map (λ r. r.now) (reverse l.above.items)) + 1 ≤ size-Expr l.e) × (size-Expr l.at ≤ size-Expr l.e)

abbrev pub decreases-word-loop-first : goal.decreases-word-loop-first
decreases-word-loop-first l = size-Expr l.at

abbrev pub invariant-rests-loop-e : goal.invariant-rests-loop-e
invariant-rests-loop-e l = ((at e : Expr) → IsWithin (map (λ r. r.now) (reverse l.initial.above.items)) at e → IsWordOf l.initial.word at → Reaches (map (λ r. r.now) (reverse l.above.items)) l.word e) × (rights (map (λ r. r.now) (reverse l.above.items)) ≤ rights (map (λ r. r.now) (reverse l.initial.above.items)))

abbrev pub decreases-rests-loop-e : goal.decreases-rests-loop-e
decreases-rests-loop-e l = length (map (λ r. r.now) (reverse l.above.items))
