use Rattle.std.proofs.Common.{arith}
use Rattle.std.proofs.lemmas.Grind.{common_steps}
use Rattle.home_planner.proofs.Numbered.{costs_more, numbered_differ, numbered_more}
use Rattle.home_planner.proofs.tests.gains_of.Goals as goal

pub loop-row-preserved : goal.loop-row-preserved
loop-row-preserved c =
    let added = c.in_ok-put_gain.ensures in
    record {
      numbered = numbered_more c.loop-row.gains.items c.put_gain.new.gains.items c.gain_of-gain.result c.loop-row.invariant.numbered (omega (arith, c.gain_of-gain.ensures.object)) added;
      count = grind (arith, common_steps);
      object = omega arith;
      costs = costs_more c.loop-row.gains.items c.put_gain.new.gains.items c.gain_of-gain.result c.loop-row.row-index c.loop-row.invariant.costs c.gain_of-gain.ensures.costs added;
    }

pub returns-clause-differ : goal.returns-clause-differ
returns-clause-differ c = numbered_differ 0 c.loop-row.gains.items c.loop-row.invariant.numbered
