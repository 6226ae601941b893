use Rattle.std.proofs.Common.{◌+◌, ℕ, List, subst, sym}
use Rattle.call_summary.specs.Summaries.{AreMarked}
use Rattle.call_summary.proofs.Marking.{marked_step}
use Rattle.call_summary.proofs.telling.marked.Goals as goal

pub loop-object-preserved : goal.loop-object-preserved
loop-object-preserved c =
    subst (λ (xs : List ℕ). AreMarked c.args.rows.now c.args.function (c.loop-object.object + 1) xs) (sym c.in_ok-put_object.ensures)
    (marked_step c.args.rows.now c.args.function c.loop-object.object c.loop-object.made.items c.loop-object.invariant c.is_marked.result (sym c.is_marked.ensures))
