use Rattle.std.proofs.Common.{◌≡◌, ◌≤◌, length}
use denote.Param.Weighed.{most}
use Rattle.c_tree.specs.declared.tree.BlockItem.{size-BlockItem}
use Rattle.c_tree.specs.declared.tree.Group.{size-Group}
use Rattle.lowered_graphs.specs.Stmts.{Within}
use Rattle.c_lower.specs.Holding.{items_have, groups_have}
use Rattle.c_lower.proofs.holding.+holding.Given as goal

abbrev pub invariant-items_have-loop-item : goal.invariant-items_have-loop-item
invariant-items_have-loop-item l = record {
  told : (w : Within) → items_have w l.sought l.fn.items ≡ items_have w l.sought l.left;
  smaller : most size-BlockItem l.left ≤ most size-BlockItem l.fn.items;
}

abbrev pub decreases-items_have-loop-item : goal.decreases-items_have-loop-item
decreases-items_have-loop-item l = length l.left

abbrev pub invariant-groups_have-loop-group : goal.invariant-groups_have-loop-group
invariant-groups_have-loop-group l = record {
  told : (w : Within) → groups_have w l.sought l.fn.groups ≡ groups_have w l.sought l.left;
  smaller : most size-Group l.left ≤ most size-Group l.fn.groups;
}

abbrev pub decreases-groups_have-loop-group : goal.decreases-groups_have-loop-group
decreases-groups_have-loop-group l = length l.left
