use Rattle.std.proofs.Common.{rules}
use Rattle.home_planner.proofs.Bridge.{frontier_covers, frontier_sets, last_least}
use Rattle.home_planner.proofs.frontier.Goals as goal

pub returns-clause-sets : goal.returns-clause-sets
returns-clause-sets c = search (rules, frontier_sets c.args.gains.now c.args.room)

pub returns-clause-covers : goal.returns-clause-covers
returns-clause-covers c = search (rules, frontier_covers c.args.gains.now c.args.room)

pub returns-clause-last : goal.returns-clause-last
returns-clause-last c = search (rules, last_least c.args.gains.now c.args.room)
