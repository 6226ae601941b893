use Rattle.std.proofs.Common.{◌≡◌, ◌≤◌, ◌++◌, length}
use denote.Param.Weighed.{most}
use Rattle.flow_graph.specs.declared.graph.Item.{size-Item}
use Rattle.chain_units.specs.Costs.{touched_in_all}
use Rattle.checkpoint_graph.specs.Knowing.{known_of}
use Rattle.checkpoint_graph.proofs.touched.+touching.Given as goal

abbrev pub invariant-put_touched-loop-item : goal.invariant-put_touched-loop-item
invariant-put_touched-loop-item l = record {
  so_far : l.fn.objects.items ++ touched_in_all (known_of l.on) l.fn.items ≡ l.objects.items ++ touched_in_all (known_of l.on) l.left;
  smaller : most size-Item l.left ≤ most size-Item l.fn.items;
}

abbrev pub decreases-put_touched-loop-item : goal.decreases-put_touched-loop-item
decreases-put_touched-loop-item l = length l.left
