use Rattle.std.proofs.Common.{◌≤◌, length}
use Rattle.std.specs.Prelude.{map}
use Rattle.plan_positions.specs.Told.{listed}
use Rattle.plan_positions.proofs.Laying.{SoFar}
use Rattle.plan_positions.proofs.placing.lay.Given as goal

abbrev pub invariant-loop-section : goal.invariant-loop-section
invariant-loop-section g l = record {
  so_far : SoFar (g.K.Knowledge.known l.fn.k) l.fn.sections l.left l.at (map listed l.laid.positions.items) l.laid.firsts.items;
  small : l.at ≤ 0x800000;
}

abbrev pub decreases-loop-section : goal.decreases-loop-section
decreases-loop-section g l = length l.left
