use Rattle.std.proofs.Common.{◌≤◌, length}
use denote.Param.Weighed.{most}
use Rattle.flow_graph.specs.declared.graph.Item.{size-Item}
use Rattle.chain_units.proofs.Leading.{Leads}
use Rattle.chain_units.proofs.placing.+placing.Given as goal

abbrev pub invariant-place_items-loop-item : goal.invariant-place_items-loop-item
invariant-place_items-loop-item g l = record {
  leads : Leads (g.K.Knowledge.known l.k) l.around l.items l.left l.fn.placer l.placer;
  smaller : most size-Item l.left ≤ most size-Item l.fn.items;
}

abbrev pub decreases-place_items-loop-item : goal.decreases-place_items-loop-item
decreases-place_items-loop-item g l = length l.left
