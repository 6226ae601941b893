use Rattle.std.specs.Prelude.{map}
use Rattle.plan_positions.specs.Told.{listed}
use Rattle.plan_positions.proofs.Laying.{all_positions}
use Rattle.plan_positions.proofs.placing.lay.Goals as goal

pub returns-clause-positions : goal.returns-clause-positions
returns-clause-positions g c =
    all_positions (g.K.Knowledge.known c.args.k.now) c.args.sections.now c.loop-section.left.now c.loop-section.at (map listed c.loop-section.laid.positions.items) c.loop-section.laid.firsts.items
    c.loop-section.invariant.so_far c.in_default.ensures
