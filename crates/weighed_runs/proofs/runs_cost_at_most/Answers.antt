use Rattle.weighed_runs.proofs.Laws as laws
use Rattle.weighed_runs.proofs.runs_cost_at_most.Goals as goal

pub returns-clause-runs : goal.returns-clause-runs
returns-clause-runs c = laws.runs_cost_at_most

pub returns-clause-parts : goal.returns-clause-parts
returns-clause-parts c = laws.bodies_are_parts

pub returns-clause-bodies : goal.returns-clause-bodies
returns-clause-bodies c = laws.bodies_cost_at_most
