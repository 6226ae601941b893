use Rattle.std.proofs.Common.{rules, ◌≡◌, Err, Ok, refl}
use Rattle.c_tree.specs.Runs as runs
use Rattle.c_tree.proofs.Chain.{fails, follows_ok, follows_quiet}
use Rattle.c_tree.proofs.quiet.implied_return.Goals as goal

pub returns-in_err-begin-clause-meets : goal.returns-in_err-begin-clause-meets
returns-in_err-begin-clause-meets c = λ a.
    let e : c.from_residual.result ≡ Err c.in_err-begin.field-0.0 = search rules in
    fails _ _ _ _ _ _ _ _ e (c.in_err-begin.ensures.meets a)

pub returns-clause-meets : goal.returns-clause-meets
returns-clause-meets c = λ a. follows_ok _ (λ _. runs.pure 0) _ _ _ _ _ _ _ (Ok 0) (c.in_ok-begin.ensures.meets a) (follows_quiet _ _ _ _ _ refl refl)
