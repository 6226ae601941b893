use Rattle.std.proofs.Common.{rules, ◌≡◌, Err, Ok, refl}
use Rattle.c_tree.specs.Runs as runs
use Rattle.c_tree.proofs.Chain.{fails, follows_ok, follows_quiet}
use Rattle.c_tree.proofs.line.shown.Goals as goal

pub returns-in_err-put : goal.returns-in_err-put
returns-in_err-put g c = λ s.
    let e : c.from_residual.result ≡ Err c.in_err-put.field-0.0 = search rules in
    fails (runs.put c.args.word s) (λ _. runs.pure 0) _ _ _ _ _ _ e (c.in_err-put.ensures s)

pub returns : goal.returns
returns g c = λ s. follows_ok (runs.put c.args.word s) (λ _. runs.pure 0) _ _ _ _ _ _ _ (Ok 0) (c.in_ok-put.ensures s) (follows_quiet _ _ _ _ _ refl refl)
