use Rattle.c_tree.proofs.SteadyNodes.{goes_where}
use Rattle.c_tree.proofs.laws.go_where_another_step_would_begin.Goals as goal

pub returns : goal.returns
returns c = goes_where
