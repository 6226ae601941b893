use Rattle.graph_flow.proofs.Meeting as meeting
use Rattle.graph_flow.proofs.Obeying.{graphs_obey}
use Rattle.graph_flow.proofs.laws.graphs_are_flows.Goals as goal

pub returns-clause-behaves : goal.returns-clause-behaves
returns-clause-behaves c = meeting.graphs_are_flows

pub returns-clause-obeys : goal.returns-clause-obeys
returns-clause-obeys c = graphs_obey
