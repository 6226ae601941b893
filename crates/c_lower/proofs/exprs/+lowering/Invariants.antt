use Rattle.std.proofs.Common.{◌≤◌, ◌+◌, ◌*◌, max, map, reverse, length, []}
use denote.Param.Weighed.{most}
use Rattle.c_tree.specs.declared.tree.Expr.{size-Expr}
use Rattle.lowered_graphs.specs.Exprs as spec
use Rattle.c_lower.specs.Operands.{waiting, waited, rests_of}
use Rattle.c_lower.specs.Emitting.{Leads}
use Rattle.c_lower.proofs.OperandLemmas.{largest}
use Rattle.c_lower.proofs.exprs.+lowering.Given as goal

-- A part is smaller than what holds it; between two sizes the calls go down these ranks.
abbrev pub decreases-expr : goal.decreases-expr
decreases-expr l = 8 * size-Expr l.e.now + 8

abbrev pub decreases-rests : goal.decreases-rests
decreases-rests l = 8 * largest (map (λ w. waiting w.0.now w.1) (reverse l.above.items)) + 7

abbrev pub decreases-leaf : goal.decreases-leaf
decreases-leaf l = 8 * size-Expr l.e.now + 6

abbrev pub decreases-rest : goal.decreases-rest
decreases-rest l = 8 * size-Expr l.e.now + 6

abbrev pub decreases-call_of : goal.decreases-call_of
decreases-call_of l = 8 * most size-Expr l.args.now + 11

abbrev pub decreases-arguments : goal.decreases-arguments
decreases-arguments l = 8 * most size-Expr l.args.now + 10

abbrev pub decreases-behind_first : goal.decreases-behind_first
decreases-behind_first l = 8 * size-Expr l.b.now + 12

abbrev pub decreases-behind_test : goal.decreases-behind_test
decreases-behind_test l = 8 * max (size-Expr l.a.now) (size-Expr l.b.now) + 12

abbrev pub decreases-second : goal.decreases-second
decreases-second l = 8 * size-Expr l.b.now + 10

abbrev pub decreases-both_arms : goal.decreases-both_arms
decreases-both_arms l = 8 * size-Expr l.b.now + 11

abbrev pub decreases-either_arms : goal.decreases-either_arms
decreases-either_arms l = 8 * size-Expr l.b.now + 11

abbrev pub decreases-choice_arms : goal.decreases-choice_arms
decreases-choice_arms l = 8 * max (size-Expr l.a.now) (size-Expr l.b.now) + 11

abbrev pub decreases-new_truth : goal.decreases-new_truth
decreases-new_truth l = 8 * size-Expr l.e.now + 10

abbrev pub decreases-new_copy : goal.decreases-new_copy
decreases-new_copy l = 8 * size-Expr l.e.now + 10

abbrev pub decreases-truth_into : goal.decreases-truth_into
decreases-truth_into l = 8 * size-Expr l.e.now + 10

abbrev pub decreases-copy_into_temporary : goal.decreases-copy_into_temporary
decreases-copy_into_temporary l = 8 * size-Expr l.e.now + 10

abbrev pub invariant-expr-loop-first : goal.invariant-expr-loop-first
invariant-expr-loop-first l = record {
  whole : Leads ((spec.lowered (spec.setting_of l.p l.homes) l.fn.e).emit l.fn.later)
      (waited (spec.setting_of l.p l.homes) l.at l.late (map (λ w. waiting w.0.now w.1) (reverse l.above.items)))
      l.fn.to l.to;
  smaller : size-Expr l.at ≤ size-Expr l.fn.e;
  kept : largest (map (λ w. waiting w.0.now w.1) (reverse l.above.items)) ≤ size-Expr l.fn.e;
}

abbrev pub decreases-expr-loop-first : goal.decreases-expr-loop-first
decreases-expr-loop-first l = size-Expr l.at

abbrev pub invariant-rests-loop-e : goal.invariant-rests-loop-e
invariant-rests-loop-e l = record {
  whole : Leads (rests_of (spec.setting_of l.p l.homes) (map (λ w. waiting w.0.now w.1) (reverse l.fn.above.items)) l.fn.x)
      (rests_of (spec.setting_of l.p l.homes) (map (λ w. waiting w.0.now w.1) (reverse l.above.items)) l.x) l.fn.to l.to;
  kept : largest (map (λ w. waiting w.0.now w.1) (reverse l.above.items)) ≤ largest (map (λ w. waiting w.0.now w.1) (reverse l.fn.above.items));
}

abbrev pub decreases-rests-loop-e : goal.decreases-rests-loop-e
decreases-rests-loop-e l = length (map (λ w. waiting w.0.now w.1) (reverse l.above.items))

abbrev pub invariant-arguments-loop-e : goal.invariant-arguments-loop-e
invariant-arguments-loop-e l = record {
  whole : Leads (spec.arguments_onto [] l.later (map (spec.lowered (spec.setting_of l.p l.homes)) l.fn.args))
      (spec.arguments_onto l.given l.later (map (spec.lowered (spec.setting_of l.p l.homes)) l.left)) l.fn.to l.to;
  smaller : most size-Expr l.left ≤ most size-Expr l.fn.args;
}

abbrev pub decreases-arguments-loop-e : goal.decreases-arguments-loop-e
decreases-arguments-loop-e l = length l.left
