use Rattle.std.proofs.Common.{ap, subst, refl, sym, ◌≡◌, ◌∙◌, map, reverse, arith}
use Rattle.std.specs.Prelude.{IfOk}
use Rattle.c_lower.specs.declared.constants.Worth.{Worth}
use Rattle.c_lower.specs.Counting as counting
use Rattle.c_lower.proofs.ConstantLemmas.{leaf_is, kept_is, largest_kept, largest_rest}
use Rattle.c_lower.proofs.OperandLemmas.{first_smaller}
use Rattle.c_lower.proofs.constants.+constants.Goals as goal

pub constant-loop-first-init : goal.constant-loop-first-init
constant-loop-first-init t c = record {
  whole = rw c.new-above.ensures.items refl;
  smaller = omega arith;
  kept = rw c.new-above.ensures.items (omega arith);
}

pub constant-loop-first-preserved : goal.constant-loop-first-preserved
constant-loop-first-preserved t c = record {
  whole = rw c.in_ok-keep.ensures (c.loop-first.invariant.whole ∙ kept_is c.loop-first.at.now c.in-Some.first.now (map (λ r. r.now) (reverse c.loop-first.above.items)) c.in-Some.ensures);
  smaller = omega (arith, c.loop-first.invariant.smaller, first_smaller c.loop-first.at.now c.in-Some.first.now c.in-Some.ensures);
  kept = rw c.in_ok-keep.ensures (largest_kept c.loop-first.at.now _ _ c.loop-first.invariant.smaller c.loop-first.invariant.kept);
}

pub rests-loop-e-preserved : goal.rests-loop-e-preserved
rests-loop-e-preserved t c = record {
  whole = c.loop-e.invariant.whole ∙ (ap (λ l. counting.rests_worth l c.loop-e.worth) c.in-Some.ensures
      ∙ ap (counting.rests_worth (map (λ r. r.now) (reverse c.last_kept.new.above.items))) (sym c.in_ok-worth.ensures));
  kept = largest_rest _ _ _ _ c.in-Some.ensures c.loop-e.invariant.kept;
}

pub rests-returns : goal.rests-returns
rests-returns t c = sym (c.loop-e.invariant.whole ∙ ap (λ l. counting.rests_worth l c.loop-e.worth) c.in_default.ensures)

pub constant-returns : goal.constant-returns
constant-returns t c = subst (λ (q : Worth). IfOk c.rests.result (λ w. w ≡ q))
    (ap (counting.rests_worth (map (λ r. r.now) (reverse c.loop-first.above.items))) (c.leaf.ensures ∙ leaf_is c.loop-first.at.now c.in_default.ensures) ∙ sym c.loop-first.invariant.whole)
    c.rests.ensures
