use Rattle.std.proofs.Common.{drop, reverse}
use Rattle.home_planner.specs.Choices.{AreLayers}
use Rattle.home_planner.proofs.Walking.{IsWalk}
use Rattle.home_planner.proofs.choose.chosen.Given as goal

abbrev pub invariant-loop-gain : goal.invariant-loop-gain
invariant-loop-gain l = record {
  walk : IsWalk l.gains l.room (drop l.gain-index l.gains) l.walk.homes.items l.walk.cost l.walk.left;
  layers : AreLayers (drop l.gain-index l.gains) l.room (reverse l.layers.items);
}
