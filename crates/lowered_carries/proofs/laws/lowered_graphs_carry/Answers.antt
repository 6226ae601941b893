use Rattle.lowered_carries.proofs.Carrying.{lowered_carry, lowered_are_each}
use Rattle.lowered_carries.proofs.laws.lowered_graphs_carry.Goals as goal

pub returns-clause-carry : goal.returns-clause-carry
returns-clause-carry c = lowered_carry c.lowered_graphs_behave.ensures.behave

pub returns-clause-is_each : goal.returns-clause-is_each
returns-clause-is_each c = lowered_are_each c.lowered_graphs_behave.ensures.behave c.lowered_graphs_obey.ensures
