use Rattle.std.proofs.Common.{◌≡◌, length}
use Rattle.home_planner.proofs.tests.like_rows.Given as goal

abbrev pub invariant-loop-made : goal.invariant-loop-made
invariant-loop-made l = length l.rows.items ≡ l.made
