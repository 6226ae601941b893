use Rattle.lowered_grounds.proofs.Alone as alone
use Rattle.lowered_grounds.proofs.laws.graphs_stand_alone.Goals as goal

pub returns : goal.returns
returns c = record { alone = alone.graphs_stand_alone }
