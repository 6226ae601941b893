use Rattle.touched_objects.specs.Tables.{AreRowsOf}
use Rattle.touched_objects.proofs.table.rows.Given as goal

abbrev pub invariant-loop-object : goal.invariant-loop-object
invariant-loop-object l = AreRowsOf l.operations l.count l.object l.rows.items
