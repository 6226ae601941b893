use Rattle.std.proofs.Common.{◌≤◌, ◌+◌, ℕ, length}
use Rattle.home_planner.specs.Choices.{IsLowestChoice}
use Rattle.home_planner.specs.Sets.{all_costs}
use Rattle.home_planner.proofs.lesser.sum_of_lesser.Given as goal

abbrev pub invariant-loop-left : goal.invariant-loop-left
invariant-loop-left l = record {
  lowest : (cost : ℕ) → IsLowestChoice l.left l.free cost → IsLowestChoice l.gains l.room (l.cost + cost);
  costs : l.cost + all_costs l.left ≤ all_costs l.gains;
}

abbrev pub decreases-loop-left : goal.decreases-loop-left
decreases-loop-left l = length l.left
