use Rattle.std.proofs.Common.{◌≡◌, ◌≤◌, ◌+◌, ◌*◌, max, map, length}
use denote.Param.Weighed.{most}
use Rattle.c_tree.specs.declared.tree.Expr.{size-Expr}
use Rattle.lowered_graphs.specs.Exprs as spec
use Rattle.c_lower.specs.Holding.{is_among}
use Rattle.c_lower.proofs.calling.+calling.Given as goal

abbrev pub decreases-is_called : goal.decreases-is_called
decreases-is_called l = 4 * size-Expr l.e.now + 1

abbrev pub decreases-is_called_behind : goal.decreases-is_called_behind
decreases-is_called_behind l = 4 * size-Expr l.e.now

abbrev pub decreases-is_called_by_two : goal.decreases-is_called_by_two
decreases-is_called_by_two l = 4 * max (size-Expr l.a.now) (size-Expr l.b.now) + 2

abbrev pub decreases-is_called_by_any : goal.decreases-is_called_by_any
decreases-is_called_by_any l = 4 * most size-Expr l.args.now + 2

abbrev pub invariant-is_called-loop-first : goal.invariant-is_called-loop-first
invariant-is_called-loop-first l = record {
  told : (s : spec.Setting) → is_among l.callee (spec.lowered s l.fn.e).callees ≡ is_among l.callee (spec.lowered s l.at).callees;
  smaller : size-Expr l.at ≤ size-Expr l.fn.e;
}

abbrev pub decreases-is_called-loop-first : goal.decreases-is_called-loop-first
decreases-is_called-loop-first l = size-Expr l.at

abbrev pub invariant-is_called_by_any-loop-e : goal.invariant-is_called_by_any-loop-e
invariant-is_called_by_any-loop-e l = record {
  told : (s : spec.Setting) → is_among l.callee (spec.callees_of (map (spec.lowered s) l.fn.args)) ≡ is_among l.callee (spec.callees_of (map (spec.lowered s) l.left));
  smaller : most size-Expr l.left ≤ most size-Expr l.fn.args;
}

abbrev pub decreases-is_called_by_any-loop-e : goal.decreases-is_called_by_any-loop-e
decreases-is_called_by_any-loop-e l = length l.left
