use Rattle.std.proofs.Common.{◌≡◌, length, reverse}
use Rattle.c_parse.specs.Pending.{folded}
use Rattle.c_parse.proofs.grouping.fold.Given as goal

abbrev pub invariant-loop-last : goal.invariant-loop-last
invariant-loop-last l = folded (reverse l.pending.items) l.tree ≡ folded (reverse l.initial.pending.items) l.initial.tree

abbrev pub decreases-loop-last : goal.decreases-loop-last
decreases-loop-last l = length l.pending.items
