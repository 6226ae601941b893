use Rattle.std.proofs.Common.{◌≡◌, ◌≤◌, ◌*◌, length}
use Rattle.home_planner.specs.Sets.{all_costs}
use Rattle.home_planner.proofs.Numbered.{IsNumbered}
use Rattle.home_planner.proofs.tests.gains_of.Given as goal

abbrev pub invariant-loop-row : goal.invariant-loop-row
invariant-loop-row l = record {
  numbered : IsNumbered 0 l.gains.items;
  count : length l.gains.items ≡ l.row-index;
  object : l.object ≡ l.row-index;
  costs : all_costs l.gains.items ≤ l.row-index * 131070;
}
