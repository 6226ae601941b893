use Rattle.std.proofs.Common.{length, ◌≡◌}
use Rattle.c_tree.specs.Nodes.{has_label}
use Rattle.c_statements.proofs.switches.has_label.Given as goal

abbrev pub invariant-loop-label : goal.invariant-loop-label
invariant-loop-label l = has_label l.word l.initial.rest ≡ has_label l.word l.rest

abbrev pub decreases-loop-label : goal.decreases-loop-label
decreases-loop-label l = length l.rest
