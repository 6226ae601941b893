use Rattle.std.proofs.Common.{ap, refl, sym, ◌∙◌, [], ◌∷◌, ◌++◌, map, reverse, arith}
use Rattle.lowered_graphs.specs.Exprs as spec
use Rattle.c_lower.specs.Operands as operands
use Rattle.c_lower.specs.Operands.{waiting}
use Rattle.c_tree.specs.declared.tree.ExprKind.{out-ExprKind}
use Rattle.c_tree.specs.declared.tree.Expr.{size-Expr}
use Rattle.lowered_graphs.specs.Making.{made_on}
use Rattle.c_lower.proofs.EmitLemmas.{leads_start, leads_on, leads_same, leads_end, leads_tail}
use Rattle.c_lower.proofs.ItemLemmas.{most_rest}
use Rattle.c_lower.proofs.OperandLemmas.{kept_on, first_smaller, largest_kept, largest_rest, leaf_emits, waited_none}
use Rattle.c_lower.proofs.exprs.+lowering.Goals as goal

pub expr-loop-first-init : goal.expr-loop-first-init
expr-loop-first-init t c = record {
  whole = leads_start _ _ _ (λ k. waited_none (spec.setting_of c.args.p.now c.args.homes.now) c.args.e.now c.args.later _ k (rw c.new-above.ensures.items refl));
  smaller = omega arith;
  kept = rw c.new-above.ensures.items (omega arith);
}

pub expr-loop-first-preserved : goal.expr-loop-first-preserved
expr-loop-first-preserved t c = record {
  whole = leads_same _ _ _ _ _ c.loop-first.invariant.whole
      (λ k. rw c.in_ok-keep.ensures (rw (c.is_late_first-late.ensures (spec.setting_of c.args.p.now c.args.homes.now)) (kept_on (spec.setting_of c.args.p.now c.args.homes.now) c.loop-first.at.now c.in-Some.first.now c.loop-first.late _ k c.in-Some.ensures)));
  smaller = omega (arith, c.loop-first.invariant.smaller, first_smaller c.loop-first.at.now c.in-Some.first.now c.in-Some.ensures);
  kept = rw c.in_ok-keep.ensures (largest_kept c.loop-first.at.now c.loop-first.late _ _ c.loop-first.invariant.smaller c.loop-first.invariant.kept);
}

pub expr-returns : goal.expr-returns
expr-returns t c =
    let s = spec.setting_of c.args.p.now c.args.homes.now in
    leads_tail _ _ c.rests.result _ _ _ (leads_on _ _ (operands.leaf_of s (out-ExprKind c.loop-first.at.now.kind) c.loop-first.at.now.place c.loop-first.late)
    (operands.rests_of s (map (λ w. waiting w.0.now w.1) (reverse c.loop-first.above.items))) _ _ _ _ c.loop-first.invariant.whole
    (ap (λ m. made_on m (operands.rests_of s (map (λ w. waiting w.0.now w.1) (reverse c.loop-first.above.items)))) (sym (leaf_emits s c.loop-first.at.now c.loop-first.late c.args.to.now.counts c.in_default.ensures)))
    c.in_ok-x.ensures) c.rests.ensures

pub rests-loop-e-preserved : goal.rests-loop-e-preserved
rests-loop-e-preserved t c =
    let s = spec.setting_of c.args.p.now c.args.homes.now in
    record {
      whole = leads_on _ _ (operands.rest_of s (out-ExprKind c.in-Some.e.now.kind) c.in-Some.e.now.place c.in-Some.e.now.ty c.in-Some.later c.loop-e.x)
          (operands.rests_of s (map (λ w. waiting w.0.now w.1) (reverse c.last_kept.new.above.items))) _ _ _ _ c.loop-e.invariant.whole
          (ap (λ l. operands.rests_of s l c.loop-e.x c.loop-e.to.counts) c.in-Some.ensures) c.in_ok-x.ensures;
      kept = largest_rest _ _ _ _ c.in-Some.ensures c.loop-e.invariant.kept;
    }

pub rests-returns : goal.rests-returns
rests-returns t c = leads_end _ _ _ _ _ c.loop-e.invariant.whole
    (ap (λ l. operands.rests_of (spec.setting_of c.args.p.now c.args.homes.now) l c.loop-e.x c.loop-e.to.counts) c.in_default.ensures)

pub arguments-loop-e-preserved : goal.arguments-loop-e-preserved
arguments-loop-e-preserved t c =
    let s = spec.setting_of c.args.p.now c.args.homes.now in
    record {
      whole = rw c.in_ok-put_operand.ensures (leads_on _ _ ((spec.lowered s c.in-Some.e.now).emit c.is_late_argument-late.result)
          (λ a. spec.arguments_onto (c.loop-e.given ++ a ∷ []) c.args.later (map (spec.lowered s) c.in-Some.rest.now)) _ _ _ _ c.loop-e.invariant.whole
          (ap (λ xs. spec.arguments_onto c.loop-e.given c.args.later (map (spec.lowered s) xs) c.loop-e.to.counts) c.in-Some.ensures
          ∙ ap (λ l. made_on ((spec.lowered s c.in-Some.e.now).emit l c.loop-e.to.counts) (λ a. spec.arguments_onto (c.loop-e.given ++ a ∷ []) c.args.later (map (spec.lowered s) c.in-Some.rest.now)))
          (sym (c.is_late_argument-late.ensures s)))
          c.in_ok-a.ensures);
      smaller = most_rest size-Expr c.in-Some.e.now c.loop-e.left.now c.in-Some.rest.now _ c.in-Some.ensures c.loop-e.invariant.smaller;
    }

pub arguments-returns : goal.arguments-returns
arguments-returns t c = leads_end _ _ _ _ _ c.loop-e.invariant.whole
    (ap (λ xs. spec.arguments_onto c.loop-e.given c.args.later (map (spec.lowered (spec.setting_of c.args.p.now c.args.homes.now)) xs) c.loop-e.to.counts) c.in_default.ensures)
