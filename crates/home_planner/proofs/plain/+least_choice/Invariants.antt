use Rattle.std.proofs.Common.{length}
use Rattle.home_planner.proofs.plain.+least_choice.Given as goal

abbrev pub decreases-least_choice : goal.decreases-least_choice
decreases-least_choice l = length l.gains.now
