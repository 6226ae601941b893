use Rattle.graph_code.proofs.HomeLemmas.{objects_have_homes}
use Rattle.graph_code.proofs.OrderLemmas.{operations_stand_in_order, runs_begin_first}
use Rattle.graph_code.proofs.laws.graphs_are_laid_out.Goals as goal

pub returns-clause-homes : goal.returns-clause-homes
returns-clause-homes c = objects_have_homes

pub returns-clause-order : goal.returns-clause-order
returns-clause-order c = operations_stand_in_order

pub returns-clause-first : goal.returns-clause-first
returns-clause-first c = runs_begin_first
