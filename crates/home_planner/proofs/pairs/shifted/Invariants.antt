use Rattle.std.proofs.Common.{length, ◌≡◌, ◌<◌, ◌+◌, ◌^◌, ◌++◌}
use Rattle.std.specs.List.{AllByRecursion}
use Rattle.home_planner.specs.Pairs.{shifted_of}
use Rattle.home_planner.proofs.pairs.shifted.Given as goal

abbrev pub invariant-loop-left : goal.invariant-loop-left
invariant-loop-left l =
    (l.made.items ++ shifted_of l.words l.cost l.room l.left ≡ shifted_of l.words l.cost l.room l.pairs)
    × AllByRecursion (λ p. p.cost + l.cost < 2 ^ 63) l.left

abbrev pub decreases-loop-left : goal.decreases-loop-left
decreases-loop-left l = length l.left
