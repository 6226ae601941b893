use Rattle.std.proofs.Common.{◌≡◌, ◌≤◌, ◌^◌, length, min}
use Rattle.home_planner.specs.Choices.{least_of}
use Rattle.home_planner.proofs.choose.least_within.Given as goal

abbrev pub invariant-loop-left : goal.invariant-loop-left
invariant-loop-left l = record { least : min l.least (least_of l.room l.left) ≡ least_of l.room l.pairs; limit : l.least ≤ 2 ^ 63 }

abbrev pub decreases-loop-left : goal.decreases-loop-left
decreases-loop-left l = length l.left
