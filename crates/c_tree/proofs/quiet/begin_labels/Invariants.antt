use Rattle.std.proofs.Common.{length, ◌≤◌}
use Rattle.c_tree.specs.Nodes.{begin_labels}
use Rattle.c_tree.specs.Follows.{LeadsQuietly}
use Rattle.c_tree.proofs.quiet.begin_labels.Given as goal

abbrev pub invariant-loop-after : goal.invariant-loop-after
invariant-loop-after l = LeadsQuietly (begin_labels l.initial.rest) l.initial.run (begin_labels l.rest) l.run × (l.run.left ≤ l.initial.run.left)

abbrev pub decreases-loop-after : goal.decreases-loop-after
decreases-loop-after l = length l.rest
