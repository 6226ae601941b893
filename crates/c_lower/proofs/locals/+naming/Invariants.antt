use Rattle.std.proofs.Common.{◌≡◌, ◌≤◌, ◌++◌, length}
use denote.Param.Weighed.{most}
use Rattle.c_tree.specs.declared.tree.BlockItem.{size-BlockItem}
use Rattle.c_tree.specs.declared.tree.Group.{size-Group}
use Rattle.lowered_graphs.specs.Stmts.{Within}
use Rattle.c_lower.specs.Naming.{items_locals, groups_locals}
use Rattle.c_lower.proofs.locals.+naming.Given as goal

abbrev pub invariant-put_items-loop-item : goal.invariant-put_items-loop-item
invariant-put_items-loop-item l = record {
  told : (w : Within) → l.onto ++ items_locals w l.left ≡ l.fn.onto ++ items_locals w l.fn.items;
  smaller : most size-BlockItem l.left ≤ most size-BlockItem l.fn.items;
}

abbrev pub decreases-put_items-loop-item : goal.decreases-put_items-loop-item
decreases-put_items-loop-item l = length l.left

abbrev pub invariant-put_groups-loop-group : goal.invariant-put_groups-loop-group
invariant-put_groups-loop-group l = record {
  told : (w : Within) → l.onto ++ groups_locals w l.left ≡ l.fn.onto ++ groups_locals w l.fn.groups;
  smaller : most size-Group l.left ≤ most size-Group l.fn.groups;
}

abbrev pub decreases-put_groups-loop-group : goal.decreases-put_groups-loop-group
decreases-put_groups-loop-group l = length l.left
