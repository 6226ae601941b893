use Rattle.std.proofs.Common.{rules, ◌≡◌, Err, Ok, refl}
use Rattle.c_tree.specs.Runs as runs
use Rattle.c_tree.proofs.Chain.{fails, follows_ok, follows_quiet}
use Rattle.c_tree.proofs.quiet.tested.Goals as goal

pub returns-in_err-begin_labels-clause-meets : goal.returns-in_err-begin_labels-clause-meets
returns-in_err-begin_labels-clause-meets c = λ a.
    let e : c.from_residual.result ≡ Err c.in_err-begin_labels.field-0.0 = search rules in
    fails _ _ _ _ _ _ _ _ e (c.in_err-begin_labels.ensures.meets a)

pub returns-clause-meets : goal.returns-clause-meets
returns-clause-meets c = λ a.
    rw (← c.has_label.ensures) (follows_ok _ (λ _. runs.pure c.has_label.result) _ _ _ _ _ _ _ (Ok _) (c.in_ok-begin_labels.ensures.meets a) (follows_quiet _ _ _ _ _ refl refl))
