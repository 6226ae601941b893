use Rattle.std.proofs.Common.{List, get_or, subst}
use Rattle.home_planner.specs.declared.Gain.{Gain}
use Rattle.home_planner.specs.declared.Pair.{Pair}
use Rattle.home_planner.specs.Choices.{Settles}
use Rattle.home_planner.proofs.Walking.{layers_some, walk_at, walk_done}
use Rattle.home_planner.proofs.choose.chosen.Goals as goal

none : Gain
none = record { object = 0; words = 0; fram = 0; sram = 0 }

pub take_layer-pairs-requires : goal.take_layer-pairs-requires
take_layer-pairs-requires c = layers_some c.args.gains.now c.loop-gain.gain-index c.args.room c.loop-gain.layers.items c.loop-gain-test.true c.loop-gain.invariant.layers

pub loop-gain-preserved : goal.loop-gain-preserved
unfolding none
loop-gain-preserved c =
    let settles = subst (λ (ps : List Pair). Settles (get_or c.args.gains.now c.loop-gain.gain-index none) ps c.loop-gain.walk.homes.items c.loop-gain.walk.cost c.loop-gain.walk.left
    c.settle.new.walk.homes.items c.settle.new.walk.cost c.settle.new.walk.left) c.deref.ensures.value c.in_ok-settle.ensures in
    let (walk, layers) = walk_at c.args.gains.now c.loop-gain.gain-index c.args.room none c.loop-gain.layers.items c.take_layer-pairs.new.layers.items c.take_layer-pairs.result
    c.loop-gain.walk.homes.items c.loop-gain.walk.cost c.loop-gain.walk.left c.settle.new.walk.homes.items c.settle.new.walk.cost c.settle.new.walk.left
    c.loop-gain-test.true c.requires.costs c.loop-gain.invariant.walk c.loop-gain.invariant.layers c.take_layer-pairs.ensures settles in
    record { walk = walk; layers = layers }

pub returns : goal.returns
returns c = walk_done c.args.gains.now c.loop-gain.gain-index c.args.room c.loop-gain.walk.homes.items c.loop-gain.walk.cost c.loop-gain.walk.left c.loop-gain-test.false c.loop-gain.invariant.walk
