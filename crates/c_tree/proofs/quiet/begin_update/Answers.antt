use Rattle.std.proofs.Common.{rules, ◌≡◌, Err}
use Rattle.c_tree.proofs.Chain.{fails, follows_ok}
use Rattle.c_tree.proofs.quiet.begin_update.Goals as goal

pub returns-in_err-conversion-clause-meets : goal.returns-in_err-conversion-clause-meets
returns-in_err-conversion-clause-meets c = λ a.
    let e : c.from_residual.result ≡ Err c.in_err-conversion.field-0.0 = search rules in
    fails _ _ _ _ _ _ _ _ e (c.in_err-conversion.ensures.meets a)

pub returns-clause-meets : goal.returns-clause-meets
returns-clause-meets c = λ a. follows_ok _ _ _ _ _ _ _ _ _ _ (c.in_ok-conversion.ensures.meets a) (c.begin_operator.ensures.meets a)
