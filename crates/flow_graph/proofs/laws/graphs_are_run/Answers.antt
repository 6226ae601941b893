use Rattle.flow_graph.proofs.ClosedLemmas.{graphs_are_closed}
use Rattle.flow_graph.proofs.FallLemmas.{operations_fall_on}
use Rattle.flow_graph.proofs.StandLemmas as standing
use Rattle.flow_graph.proofs.ResultLemmas.{runs_have_results}
use Rattle.flow_graph.proofs.laws.graphs_are_run.Goals as goal

pub returns-clause-closed : goal.returns-clause-closed
returns-clause-closed c = graphs_are_closed

pub returns-clause-stand : goal.returns-clause-stand
returns-clause-stand c = standing.runs_stand

pub returns-clause-never_lost : goal.returns-clause-never_lost
returns-clause-never_lost c = standing.nothing_is_missing

pub returns-clause-within : goal.returns-clause-within
returns-clause-within c = standing.writes_are_within

pub returns-clause-results : goal.returns-clause-results
returns-clause-results c = runs_have_results

pub returns-clause-fall_on : goal.returns-clause-fall_on
returns-clause-fall_on c = operations_fall_on
