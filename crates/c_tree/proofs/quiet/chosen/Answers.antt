use Rattle.std.proofs.Common.{rules, ◌≡◌, Err, Ok, refl, ap, sym, arith, []}
use Rattle.std.specs.Result.{result_map_both}
use Rattle.c_tree.specs.Runs as runs
use Rattle.c_tree.proofs.Chain.{fails, follows_ok, follows_quiet}
use Rattle.c_tree.proofs.quiet.chosen.Goals as goal

pub returns-in_err-found-clause-meets : goal.returns-in_err-found-clause-meets
returns-in_err-found-clause-meets c = λ a.
    let e : c.from_residual.result ≡ Err c.in_err-found.field-0.0 = search rules in
    c.loop-group.invariant.0 a _ _ a (rw (c.in-Some.ensures, ← c.as_slice.ensures) (fails _ _ _ _ _ _ _ _ (ap (result_map_both (λ r. r.now) (λ h. h)) e) (c.in_err-found.ensures.meets a)))

pub returns-then-found-clause-meets : goal.returns-then-found-clause-meets
returns-then-found-clause-meets c = λ a.
    c.loop-group.invariant.0 a (Ok _) _ a (rw (c.in-Some.ensures, ← c.as_slice.ensures) (follows_ok _ _ _ _ _ _ _ _ _ (Ok _) (c.in_ok-found.ensures.meets a)
    (rw c.if-found.true (follows_quiet _ _ _ _ _ (ap (λ xs. runs.Done [] xs c.is_chosen.new.run) (sym c.as_slice-then-found.ensures)) refl))))

pub loop-group-preserved : goal.loop-group-preserved
loop-group-preserved c = (
  λ a r s2 a2 k. c.loop-group.invariant.0 a r s2 a2 (rw (c.in-Some.ensures, ← c.as_slice.ensures) (follows_ok _ _ _ _ _ _ _ _ _ _ (c.in_ok-found.ensures.meets a) (rw c.if-found.false k))),
  omega (arith, c.loop-group.invariant.1, c.in_ok-found.ensures.fewer),
)

pub returns-clause-meets : goal.returns-clause-meets
returns-clause-meets c = λ a. c.loop-group.invariant.0 a (Ok _) _ a (rw c.in_default.ensures (follows_quiet _ _ _ _ _ (ap (λ xs. runs.Done [] xs c.loop-group.run) (sym c.default_items.ensures)) refl))
