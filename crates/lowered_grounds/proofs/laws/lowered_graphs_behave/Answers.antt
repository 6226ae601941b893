use Rattle.lowered_grounds.proofs.ProgramGround.{lowered_behave}
use Rattle.lowered_grounds.proofs.laws.lowered_graphs_behave.Goals as goal

pub returns : goal.returns
returns c = record { behave = lowered_behave c.steps_are_bounded.ensures }
