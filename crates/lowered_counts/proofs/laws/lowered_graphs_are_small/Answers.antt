use Rattle.lowered_counts.proofs.Small.{graphs_are_small}
use Rattle.lowered_counts.proofs.laws.lowered_graphs_are_small.Goals as goal

pub returns : goal.returns
returns c = graphs_are_small
