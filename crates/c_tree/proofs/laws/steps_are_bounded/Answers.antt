use Rattle.c_tree.proofs.SteadyNodes.{bounded}
use Rattle.c_tree.proofs.laws.steps_are_bounded.Goals as goal

pub returns : goal.returns
returns c = bounded
