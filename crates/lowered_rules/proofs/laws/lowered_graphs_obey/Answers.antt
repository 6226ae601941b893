use Rattle.lowered_rules.proofs.Obeyed.{graphs_obey}
use Rattle.lowered_rules.proofs.laws.lowered_graphs_obey.Goals as goal

pub returns : goal.returns
returns c = graphs_obey
