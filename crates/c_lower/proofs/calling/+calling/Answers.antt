use Rattle.std.proofs.Common.{◌≡◌, ap, sym, ◌∙◌, arith, true, false, map, ◌∷◌, []}
use Rattle.c_tree.specs.declared.tree.Expr.{size-Expr}
use Rattle.c_tree.specs.declared.tree.ExprKind.{out-ExprKind}
use Rattle.c_tree.specs.declared.tree.ExprKind.TheVariants.{outs-Cond, outs-Call}
use Rattle.lowered_graphs.specs.Exprs as spec
use Rattle.c_lower.specs.Holding.{is_among}
use Rattle.c_lower.proofs.OperandLemmas.{among_first, among_behind, among_two, among_call, among_more, leaf_callees, first_smaller}
use Rattle.c_lower.proofs.HoldLemmas.{or_then, or_else}
use Rattle.c_lower.proofs.ItemLemmas.{most_rest}
use Rattle.c_lower.proofs.calling.+calling.Goals as goal

pub is_called-returns-then-is_called_behind : goal.is_called-returns-then-is_called_behind
is_called-returns-then-is_called_behind t c = λ s. sym (c.loop-first.invariant.told s
    ∙ among_behind c.args.callee s c.loop-first.at.now c.in-Some.first.now c.in-Some.ensures (sym (c.is_called_behind.ensures s) ∙ c.if-is_called_behind.true))

pub is_called-loop-first-preserved : goal.is_called-loop-first-preserved
is_called-loop-first-preserved t c = record {
  told = λ s. c.loop-first.invariant.told s
      ∙ among_first c.args.callee s c.loop-first.at.now c.in-Some.first.now c.in-Some.ensures (sym (c.is_called_behind.ensures s) ∙ c.if-is_called_behind.false);
  smaller = let k = first_smaller c.loop-first.at.now c.in-Some.first.now c.in-Some.ensures in omega (arith, k, c.loop-first.invariant.smaller);
}

pub is_called-returns : goal.is_called-returns
is_called-returns t c = λ s. c.is_called_behind-2.ensures s
    ∙ sym (c.loop-first.invariant.told s ∙ ap (is_among c.args.callee) (leaf_callees s c.loop-first.at.now c.in_default.ensures))

pub is_called_behind-returns-in-Cond : goal.is_called_behind-returns-in-Cond
is_called_behind-returns-in-Cond t c = λ s.
    let h = c.is_called_by_two.ensures s in
    let e = among_two c.args.callee s _ c.in-Cond.test c.in-Cond.yes c.in-Cond.no (ap out-ExprKind c.in-Cond.is ∙ outs-Cond _ _ _) in cc

pub is_called_behind-returns-then-is_called_by_any : goal.is_called_behind-returns-then-is_called_by_any
is_called_behind-returns-then-is_called_by_any t c = λ s.
    let h = c.is_called_by_any.ensures s in
    let e = among_call c.args.callee s _ c.in-Call.function c.in-Call.args (ap out-ExprKind c.in-Call.is ∙ outs-Call _ _) in
    let k : is_among c.args.callee (spec.callees_of (map (spec.lowered s) c.in-Call.args)) ≡ true = cc in
    let o = or_then _ (is_among c.args.callee (c.in-Call.function ∷ [])) k in cc

pub is_called_behind-returns-else-is_called_by_any : goal.is_called_behind-returns-else-is_called_by_any
is_called_behind-returns-else-is_called_by_any t c = λ s.
    let h = c.is_called_by_any.ensures s in
    let e = among_call c.args.callee s _ c.in-Call.function c.in-Call.args (ap out-ExprKind c.in-Call.is ∙ outs-Call _ _) in
    let k : is_among c.args.callee (spec.callees_of (map (spec.lowered s) c.in-Call.args)) ≡ false = cc in
    let o = or_else _ (is_among c.args.callee (c.in-Call.function ∷ [])) k in cc

pub is_called_by_any-returns-then-is_called : goal.is_called_by_any-returns-then-is_called
is_called_by_any-returns-then-is_called t c = λ s.
    let h = c.is_called.ensures s in
    let i = c.loop-e.invariant.told s in
    let e = among_more c.args.callee s c.loop-e.left.now c.in-Some.rest.now c.in-Some.e.now c.in-Some.ensures in
    let k : is_among c.args.callee (spec.lowered s c.in-Some.e.now).callees ≡ true = cc in
    let o = or_then _ (is_among c.args.callee (spec.callees_of (map (spec.lowered s) c.in-Some.rest.now))) k in cc

pub is_called_by_any-loop-e-preserved : goal.is_called_by_any-loop-e-preserved
is_called_by_any-loop-e-preserved t c = record {
  told = λ s.
      let h = c.is_called.ensures s in
      let i = c.loop-e.invariant.told s in
      let e = among_more c.args.callee s c.loop-e.left.now c.in-Some.rest.now c.in-Some.e.now c.in-Some.ensures in
      let k : is_among c.args.callee (spec.lowered s c.in-Some.e.now).callees ≡ false = cc in
      let o = or_else _ (is_among c.args.callee (spec.callees_of (map (spec.lowered s) c.in-Some.rest.now))) k in cc;
  smaller = most_rest size-Expr c.in-Some.e.now c.loop-e.left.now c.in-Some.rest.now _ c.in-Some.ensures c.loop-e.invariant.smaller;
}
