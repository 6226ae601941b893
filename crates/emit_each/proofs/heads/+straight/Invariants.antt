use Rattle.std.proofs.Common.{◌≡◌, ◌≤◌, length}
use denote.Param.Weighed.{most}
use Rattle.flow_graph.specs.declared.graph.Item.{size-Item}
use Rattle.graph_code.specs.Heads.{are_straight}
use Rattle.emit_each.proofs.heads.+straight.Given as goal

abbrev pub invariant-are_straight-loop-item : goal.invariant-are_straight-loop-item
invariant-are_straight-loop-item l = record {
  same : are_straight l.fn.items ≡ are_straight l.left;
  smaller : most size-Item l.left ≤ most size-Item l.fn.items;
}

abbrev pub decreases-are_straight-loop-item : goal.decreases-are_straight-loop-item
decreases-are_straight-loop-item l = length l.left
