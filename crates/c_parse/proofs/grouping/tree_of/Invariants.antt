use Rattle.std.proofs.Common.{◌≡◌, length, reverse}
use Rattle.c_parse.specs.Precedence.{tree_of}
use Rattle.c_parse.proofs.Stacks.{run}
use Rattle.c_parse.proofs.grouping.tree_of.Given as goal

abbrev pub invariant-loop-operator : goal.invariant-loop-operator
invariant-loop-operator l = run (reverse l.pending.items) l.tree (reverse l.rest.items) ≡ tree_of l.fn.parts

abbrev pub decreases-loop-operator : goal.decreases-loop-operator
decreases-loop-operator l = length l.rest.items
