use Rattle.std.proofs.Common.{◌≡◌, ◌≤◌, map, length}
use denote.Param.Weighed.{most}
use Rattle.c_tree.specs.declared.tree.BlockItem.{size-BlockItem}
use Rattle.c_tree.specs.declared.tree.Group.{size-Group}
use Rattle.lowered_graphs.specs.GraphOf.{within_of}
use Rattle.lowered_graphs.specs.Stmts as spec
use Rattle.lowered_graphs.specs.Making.{Emit}
use Rattle.c_lower.specs.Arms.{nested_made}
use Rattle.c_lower.specs.Emitting.{Leads}
use Rattle.c_lower.proofs.stmts.+statements.Given as goal

abbrev pub invariant-items-loop-first : goal.invariant-items-loop-first
invariant-items-loop-first l = record {
  whole : Leads (spec.each_item l.last (map (spec.lowered_item (within_of l.p l.homes l.n)) l.fn.items)) (spec.each_item l.last (map (spec.lowered_item (within_of l.p l.homes l.n)) l.left)) l.fn.to l.to;
  smaller : most size-BlockItem l.left ≤ most size-BlockItem l.fn.items;
}

abbrev pub decreases-items-loop-first : goal.decreases-items-loop-first
decreases-items-loop-first l = length l.left

abbrev pub invariant-chain-loop-group : goal.invariant-chain-loop-group
invariant-chain-loop-group l = record {
  whole : (others : Emit (Unit {0})) → spec.groups_from l.v (map (spec.lowered_group (within_of l.p l.homes l.n)) l.fn.groups) others l.place l.fn.to.counts
      ≡ nested_made l.arms (spec.groups_from l.v (map (spec.lowered_group (within_of l.p l.homes l.n)) l.left) others l.place l.to.counts);
  outer : l.to.items ≡ l.fn.to.items;
  smaller : most size-Group l.left ≤ most size-Group l.fn.groups;
}

abbrev pub decreases-chain-loop-group : goal.decreases-chain-loop-group
decreases-chain-loop-group l = length l.left

abbrev pub invariant-default_items-loop-group : goal.invariant-default_items-loop-group
invariant-default_items-loop-group l = record {
  whole : spec.default_items (map (spec.lowered_group (within_of l.p l.homes l.n)) l.fn.groups) ≡ spec.default_items (map (spec.lowered_group (within_of l.p l.homes l.n)) l.left);
  same : l.to ≡ l.fn.to;
  smaller : most size-Group l.left ≤ most size-Group l.fn.groups;
}

abbrev pub decreases-default_items-loop-group : goal.decreases-default_items-loop-group
decreases-default_items-loop-group l = length l.left
