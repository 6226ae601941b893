use Rattle.std.proofs.Common.{rules, ◌≡◌, Err}
use Rattle.c_tree.proofs.Chain.{fails, follows_ok}
use Rattle.c_tree.proofs.quiet.finish.Goals as goal

pub returns-in_err-word-clause-meets : goal.returns-in_err-word-clause-meets
returns-in_err-word-clause-meets c = λ a.
    let e : c.from_residual.result ≡ Err c.in_err-word.field-0.0 = search rules in
    rw (← c.converted-operand.ensures) (fails _ _ _ _ _ _ _ _ e (c.in_err-word.ensures.meets a))

pub returns-clause-meets : goal.returns-clause-meets
returns-clause-meets c = λ a.
    rw (← c.converted-operand.ensures) (follows_ok _ _ _ _ _ _ _ _ _ _ (c.in_ok-word.ensures.meets a) (rw (← c.converted-kept.ensures) (c.store.ensures.meets a)))
