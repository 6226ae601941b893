use Rattle.std.proofs.Common.{◌≡◌, ◌+◌, ◌++◌, map, length}
use Rattle.item_weights.specs.Weights.{kept}
use Rattle.chain_units.specs.Costs.{free_uses, object_of, with_barred}
use Rattle.chain_units.specs.Wanted.{wanted}
use Rattle.chain_units.proofs.weighing.weigh.Given as goal

abbrev pub invariant-loop-left : goal.invariant-loop-left
invariant-loop-left g l = record {
  base : with_barred (g.K.Knowledge.known l.k).board l.barred l.base l.left ≡ with_barred (g.K.Knowledge.known l.k).board l.barred (kept (l.weights.base + l.frame.each_turn)) l.weights.uses.items;
  objects : l.objects.items ++ map (object_of (g.K.Knowledge.known l.k) ((g.K.Knowledge.known l.k).before l.frame.first) (wanted (g.K.Knowledge.known l.k) l.frame.behind)) (free_uses l.barred l.left)
      ≡ map (object_of (g.K.Knowledge.known l.k) ((g.K.Knowledge.known l.k).before l.frame.first) (wanted (g.K.Knowledge.known l.k) l.frame.behind)) (free_uses l.barred l.weights.uses.items);
}

abbrev pub decreases-loop-left : goal.decreases-loop-left
decreases-loop-left g l = length l.left
