use Rattle.std.proofs.Common.{sym, ◌∙◌, arith, false}
use Rattle.c_expressions.proofs.ConstantLevels.{first_below, made_first, made_leaf, unmade}
use Rattle.c_expressions.proofs.constants.+made.Goals as goal

pub is_made-returns-else-is_made_besides : goal.is_made-returns-else-is_made_besides
is_made-returns-else-is_made_besides t c =
    c.loop-first.invariant.0 false (unmade c.loop-first.at.now (λ n le. sym c.if-is_made_besides.false ∙ c.is_made_besides.ensures n le))

pub is_made-loop-first-preserved : goal.is_made-loop-first-preserved
is_made-loop-first-preserved t c = (
  λ r h. c.loop-first.invariant.0 r (made_first c.loop-first.at.now c.in-Some.first.now r c.in-Some.ensures (λ n le. sym c.if-is_made_besides.true ∙ c.is_made_besides.ensures n le) h),
  omega (arith, c.loop-first.invariant.1, first_below c.loop-first.at.now c.in-Some.first.now c.in-Some.ensures),
)

pub is_made-returns : goal.is_made-returns
is_made-returns t c =
    c.loop-first.invariant.0 c.is_made_besides-2.result (made_leaf c.loop-first.at.now c.is_made_besides-2.result c.in_default.ensures c.is_made_besides-2.ensures)
