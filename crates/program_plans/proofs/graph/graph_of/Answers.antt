use Rattle.std.proofs.Common.{subst, sym}
use Rattle.flow_graph.specs.declared.graph.Graph.{Graph}
use Rattle.flow_graph.specs.Rules.{IsGraph}
use Rattle.program_plans.proofs.graph.graph_of.Goals as goal

pub returns-in-Ok : goal.returns-in-Ok
returns-in-Ok c =
    let is = c.in-Ok.ensures.found in
    subst (λ (g : Graph). IsGraph g) (sym is.graph) (c.lowered_graphs_obey.ensures is.program is.sound is.scoped is.is_text.few)
