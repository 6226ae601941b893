use Rattle.std.proofs.Common.{length, ◌≤◌}
use Rattle.c_tree.specs.Nodes.{chosen, default_items}
use Rattle.c_tree.specs.Follows.{LeadsQuietly}
use Rattle.c_tree.proofs.quiet.chosen.Given as goal

abbrev pub invariant-loop-group : goal.invariant-loop-group
invariant-loop-group l = LeadsQuietly (chosen l.word (default_items l.groups) l.groups) l.initial.run (chosen l.word (default_items l.groups) l.rest) l.run × (l.run.left ≤ l.initial.run.left)

abbrev pub decreases-loop-group : goal.decreases-loop-group
decreases-loop-group l = length l.rest
