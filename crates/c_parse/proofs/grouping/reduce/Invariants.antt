use Rattle.std.proofs.Common.{◌≡◌, length, reverse}
use Rattle.c_parse.specs.Pending.{reduced}
use Rattle.c_parse.specs.Precedence.{level_of}
use Rattle.c_parse.proofs.grouping.reduce.Given as goal

abbrev pub invariant-loop-last : goal.invariant-loop-last
invariant-loop-last l = record {
  same : reduced l.operator (reverse l.pending.items) l.tree ≡ reduced l.operator (reverse l.initial.pending.items) l.initial.tree;
  bound : l.bound ≡ level_of l.operator;
}

abbrev pub decreases-loop-last : goal.decreases-loop-last
decreases-loop-last l = length l.pending.items
