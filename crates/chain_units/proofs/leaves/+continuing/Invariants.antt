use Rattle.std.proofs.Common.{◌≡◌, ◌≤◌, length}
use denote.Param.Weighed.{most}
use Rattle.flow_graph.specs.declared.graph.Item.{size-Item}
use Rattle.chain_units.specs.Marks.{some_continues}
use Rattle.chain_units.proofs.leaves.+continuing.Given as goal

abbrev pub invariant-some_continues-loop-item : goal.invariant-some_continues-loop-item
invariant-some_continues-loop-item l = record {
  same : some_continues l.fn.items ≡ some_continues l.left;
  smaller : most size-Item l.left ≤ most size-Item l.fn.items;
}

abbrev pub decreases-some_continues-loop-item : goal.decreases-some_continues-loop-item
decreases-some_continues-loop-item l = length l.left
