use Rattle.std.proofs.Common.{◌≤◌}
use Rattle.c_tree.specs.Runs.{begin_each}
use Rattle.c_tree.specs.Follows.{LeadsQuietly}
use Rattle.c_tree.proofs.quiet.begin_each.Given as goal

abbrev pub invariant-loop-rest : goal.invariant-loop-rest
invariant-loop-rest l = LeadsQuietly (begin_each l.initial.rest) l.initial.run (begin_each l.rest) l.run × (l.run.left ≤ l.initial.run.left)

abbrev pub decreases-loop-rest : goal.decreases-loop-rest
decreases-loop-rest l = l.rest
