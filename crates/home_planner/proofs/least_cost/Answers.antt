use Rattle.home_planner.proofs.Lowest.{lowest_least}
use Rattle.home_planner.proofs.least_cost.Goals as goal

pub returns-in-Some : goal.returns-in-Some
returns-in-Some c = lowest_least c.args.gains.now c.args.room c.in-Some.cost c.requires.differ c.in-Some.ensures
