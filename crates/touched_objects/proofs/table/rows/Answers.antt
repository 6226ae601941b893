use Rattle.std.proofs.Common.{◌+◌, List, subst, sym}
use Rattle.std.specs.Prelude.{Vec, Bool}
use Rattle.std.specs.declared.alloc.Global.{Global}
use Rattle.touched_objects.specs.Tables.{AreRowsOf}
use Rattle.touched_objects.proofs.Reaching.{no_rows, rows_more}
use Rattle.touched_objects.proofs.table.rows.Goals as goal

pub loop-object-init : goal.loop-object-init
loop-object-init c = subst (λ (xs : List (Vec Bool Global)). AreRowsOf c.args.operations.now c.args.count 0 xs) (sym c.new-rows.ensures.items) (no_rows c.args.operations.now c.args.count)

pub loop-object-preserved : goal.loop-object-preserved
loop-object-preserved c = subst (λ (xs : List (Vec Bool Global)). AreRowsOf c.args.operations.now c.args.count (c.loop-object.object + 1) xs) (sym c.in_ok-put_row.ensures)
    (rows_more c.args.operations.now c.args.count c.loop-object.object c.loop-object.rows.items c.in_ok-one.one c.loop-object.invariant c.in_ok-one.ensures)
