use Rattle.std.proofs.Common.{length, ◌≡◌}
use Rattle.c_tree.specs.Nodes.{bind}
use Rattle.c_tree.proofs.quiet.bind.Given as goal

abbrev pub invariant-loop-param : goal.invariant-loop-param
invariant-loop-param l = (bind l.params l.values l.initial.run ≡ bind l.to l.from l.run) × (l.run.left ≡ l.initial.run.left)

abbrev pub decreases-loop-param : goal.decreases-loop-param
decreases-loop-param l = length l.to
