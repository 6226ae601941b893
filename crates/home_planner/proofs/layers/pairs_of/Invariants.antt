use Rattle.std.proofs.Common.{◌≤◌, length, drop}
use Rattle.home_planner.specs.Choices.{IsFrontier}
use Rattle.home_planner.proofs.layers.pairs_of.Given as goal

abbrev pub invariant-loop-at : goal.invariant-loop-at
invariant-loop-at l = record { within : l.at ≤ length l.gains; frontier : IsFrontier (drop l.at l.gains) l.room l.pairs.items }

abbrev pub decreases-loop-at : goal.decreases-loop-at
decreases-loop-at l = l.at
