use Rattle.std.proofs.Common.{◌≡◌, ◌≤◌, ◌+◌, ◌*◌, map, reverse, length}
use Rattle.c_tree.specs.declared.tree.Expr.{size-Expr}
use Rattle.c_tree.specs.declared.tree.ExprKind.{size-ExprKind}
use Rattle.lowered_graphs.specs.Counted as spec
use Rattle.c_lower.specs.Counting as counting
use Rattle.c_lower.proofs.ConstantLemmas.{largest}
use Rattle.c_lower.proofs.constants.+constants.Given as goal

-- A part is smaller than what holds it; between two sizes the calls go down these ranks.
abbrev pub decreases-constant : goal.decreases-constant
decreases-constant l = 4 * size-Expr l.e.now + 3

abbrev pub decreases-rests : goal.decreases-rests
decreases-rests l = 4 * largest (map (λ r. r.now) (reverse l.above.items)) + 2

abbrev pub decreases-rest : goal.decreases-rest
decreases-rest l = 4 * size-ExprKind l.kind.now + 5

abbrev pub decreases-behind_first : goal.decreases-behind_first
decreases-behind_first l = 4 * size-Expr l.b.now + 4

abbrev pub invariant-constant-loop-first : goal.invariant-constant-loop-first
invariant-constant-loop-first l = record {
  whole : counting.worth (spec.constant l.fn.e) ≡ counting.rests_worth (map (λ r. r.now) (reverse l.above.items)) (counting.worth (spec.constant l.at));
  smaller : size-Expr l.at ≤ size-Expr l.fn.e;
  kept : largest (map (λ r. r.now) (reverse l.above.items)) ≤ size-Expr l.fn.e;
}

abbrev pub decreases-constant-loop-first : goal.decreases-constant-loop-first
decreases-constant-loop-first l = size-Expr l.at

abbrev pub invariant-rests-loop-e : goal.invariant-rests-loop-e
invariant-rests-loop-e l = record {
  whole : counting.rests_worth (map (λ r. r.now) (reverse l.fn.above.items)) l.fn.worth ≡ counting.rests_worth (map (λ r. r.now) (reverse l.above.items)) l.worth;
  kept : largest (map (λ r. r.now) (reverse l.above.items)) ≤ largest (map (λ r. r.now) (reverse l.fn.above.items));
}

abbrev pub decreases-rests-loop-e : goal.decreases-rests-loop-e
decreases-rests-loop-e l = length (map (λ r. r.now) (reverse l.above.items))
