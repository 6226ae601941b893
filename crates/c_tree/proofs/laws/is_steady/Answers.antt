use Rattle.c_tree.proofs.SteadyNodes.{steady}
use Rattle.c_tree.proofs.laws.is_steady.Goals as goal

pub returns : goal.returns
returns c = steady
