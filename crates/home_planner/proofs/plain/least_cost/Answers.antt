use Rattle.home_planner.proofs.Bridge.{least_of_choices}
use Rattle.home_planner.proofs.plain.least_cost.Goals as goal

pub returns : goal.returns
returns c = least_of_choices c.args.gains.now c.args.room c.least_choice.result c.requires.differ c.least_choice.ensures.least
