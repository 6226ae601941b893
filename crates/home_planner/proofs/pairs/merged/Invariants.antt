use Rattle.std.proofs.Common.{length, ◌+◌}
use Rattle.home_planner.proofs.Merging.{IsMerging}
use Rattle.home_planner.proofs.pairs.merged.Given as goal

abbrev pub invariant-loop-next : goal.invariant-loop-next
invariant-loop-next l = IsMerging l.left l.right l.ahead l.across l.kept.items l.top

abbrev pub decreases-loop-next : goal.decreases-loop-next
decreases-loop-next l = length l.ahead + length l.across
