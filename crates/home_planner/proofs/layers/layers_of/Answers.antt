use Rattle.std.proofs.Common.{arith, rules}
use Rattle.home_planner.proofs.Walking.{layers_more}
use Rattle.home_planner.proofs.layers.layers_of.Goals as goal

pub loop-at-preserved : goal.loop-at-preserved
loop-at-preserved c = record {
  within = omega arith;
  frontier = search rules;
  layers = layers_more c.args.gains.now c.loop-at.at c.args.room c.loop-at.layers.items c.put_layer.new.layers.items c.loop-at.pairs (omega arith) c.loop-at.invariant.within
      c.loop-at.invariant.frontier c.loop-at.invariant.layers (search rules);
}
