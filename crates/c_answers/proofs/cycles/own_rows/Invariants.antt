use Rattle.std.proofs.Common.{◌≡◌}
use Rattle.c_answers.specs.Rows.{own_rows}
use Rattle.c_answers.proofs.cycles.own_rows.Given as goal

abbrev pub invariant-loop-a : goal.invariant-loop-a
invariant-loop-a l = l.rows.items ≡ own_rows l.functions l.a
