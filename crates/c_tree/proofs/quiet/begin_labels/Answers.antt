use Rattle.std.proofs.Common.{rules, ◌≡◌, Err, Ok, refl, arith}
use Rattle.c_tree.proofs.Chain.{fails, follows_ok, follows_quiet}
use Rattle.c_tree.proofs.quiet.begin_labels.Goals as goal

pub returns-in_err-begin-clause-meets : goal.returns-in_err-begin-clause-meets
returns-in_err-begin-clause-meets c = λ a.
    let e : c.from_residual.result ≡ Err c.in_err-begin.field-0.0 = search rules in
    c.loop-after.invariant.0 a _ _ a (rw c.in-Some.ensures (fails _ _ _ _ _ _ _ _ e (c.in_err-begin.ensures.meets a)))

pub loop-after-preserved : goal.loop-after-preserved
loop-after-preserved c = (
  λ a r s2 a2 k. c.loop-after.invariant.0 a r s2 a2 (rw c.in-Some.ensures (follows_ok _ _ _ _ _ _ _ _ _ _ (c.in_ok-begin.ensures.meets a) k)),
  omega (arith, c.loop-after.invariant.1, c.in_ok-begin.ensures.fewer),
)

pub returns-clause-meets : goal.returns-clause-meets
returns-clause-meets c = λ a. c.loop-after.invariant.0 a (Ok tt) _ a (rw c.in_default.ensures (follows_quiet _ _ _ _ _ refl refl))
