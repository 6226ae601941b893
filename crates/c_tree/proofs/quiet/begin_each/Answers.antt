use Rattle.std.proofs.Common.{rules, ◌≡◌, Err, Ok, arith}
use Rattle.c_tree.proofs.Chain.{fails, follows_ok, begin_each_more, begin_each_none}
use Rattle.c_tree.proofs.quiet.begin_each.Goals as goal

pub returns-in_err-begin-clause-meets : goal.returns-in_err-begin-clause-meets
returns-in_err-begin-clause-meets c = λ a.
    let e : c.from_residual.result ≡ Err c.in_err-begin.field-0.0 = search rules in
    c.loop-rest.invariant.0 a _ _ a (rw (begin_each_more c.loop-rest.rest c.loop-rest-test.true) (fails _ _ _ _ _ _ _ _ e (c.in_err-begin.ensures.meets a)))

pub loop-rest-preserved : goal.loop-rest-preserved
loop-rest-preserved c = (
  λ a r s2 a2 k. c.loop-rest.invariant.0 a r s2 a2 (rw (begin_each_more c.loop-rest.rest c.loop-rest-test.true) (follows_ok _ _ _ _ _ _ _ _ _ _ (c.in_ok-begin.ensures.meets a) k)),
  omega (arith, c.loop-rest.invariant.1, c.in_ok-begin.ensures.fewer),
)

pub returns-clause-meets : goal.returns-clause-meets
returns-clause-meets c = λ a. c.loop-rest.invariant.0 a (Ok tt) _ a (begin_each_none c.loop-rest.rest c.loop-rest-test.false c.loop-rest.run a)
