use Rattle.std.proofs.Common.{sym, subst, arith}
use Rattle.c_expressions.specs.Operands.{IsWordOf}
use Rattle.c_expressions.proofs.ConstantLevels.{first_below, reaches_next, rights_kept, rights_next, within_next, word_leaf}
use Rattle.c_expressions.proofs.constants.+words.Goals as goal

pub rests-loop-e-preserved : goal.rests-loop-e-preserved
rests-loop-e-preserved t c = (
  λ at e within is. reaches_next _ _ c.in-Some.e.now e c.loop-e.word c.in_ok-word.word c.in-Some.ensures c.in_ok-word.ensures (c.loop-e.invariant.0 at e within is),
  omega (arith, c.loop-e.invariant.1, rights_next _ _ c.in-Some.e.now c.in-Some.ensures),
)

pub word-loop-first-preserved : goal.word-loop-first-preserved
word-loop-first-preserved t c = (
  within_next _ _ c.loop-first.at.now c.in-Some.first.now c.args.e.now c.in_ok-keep.ensures c.in-Some.ensures c.loop-first.invariant.0,
  rights_kept _ _ c.loop-first.at.now c.args.e.now c.in_ok-keep.ensures c.loop-first.invariant.2 c.loop-first.invariant.1,
  omega (arith, c.loop-first.invariant.2, first_below c.loop-first.at.now c.in-Some.first.now c.in-Some.ensures),
)

pub word-returns : goal.word-returns
word-returns t c =
    c.rests.ensures c.loop-first.at.now c.args.e.now c.loop-first.invariant.0 (subst (λ w. IsWordOf w c.loop-first.at.now) (sym c.leaf_word.ensures) (word_leaf c.loop-first.at.now c.in_default.ensures))
