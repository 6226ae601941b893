use Rattle.std.proofs.Common.{length, ◌≡◌}
use Rattle.c_tree.specs.Nodes.{default_items}
use Rattle.c_tree.proofs.quiet.default_items.Given as goal

abbrev pub invariant-loop-group : goal.invariant-loop-group
invariant-loop-group l = default_items l.initial.rest ≡ default_items l.rest

abbrev pub decreases-loop-group : goal.decreases-loop-group
decreases-loop-group l = length l.rest
