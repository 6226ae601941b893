use Rattle.std.proofs.Common.{ℕ, length, subst, ap}
use Rattle.call_summary.specs.Summaries.{AreMarked}
use Rattle.call_summary.proofs.Marking.{are_touched}
use Rattle.call_summary.proofs.telling.summary_of.Goals as goal

pub returns-in_ok-touched-in-Some-clause-touched : goal.returns-in_ok-touched-in-Some-clause-touched
returns-in_ok-touched-in-Some-clause-touched c =
    are_touched c.args.g.now c.args.rows.now c.args.function c.in_ok-touched-in-Some.touched.items c.requires.table c.requires.function
    (subst (λ (n : ℕ). AreMarked c.args.rows.now c.args.function n c.in_ok-touched-in-Some.touched.items) (ap length c.as_slice.ensures) c.in_ok-touched-in-Some.ensures)
