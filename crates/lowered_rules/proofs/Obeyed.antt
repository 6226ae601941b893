-- The graph of every sound program in scope obeys every rule of graphs.
use Rattle.std.proofs.Common.{◌≤◌, subst, sym}
use Rattle.c_tree.specs.declared.tree.Program.{Program}
use Rattle.sound_programs.specs.Scoped.{IsScoped}
use Rattle.sound_programs.specs.SoundPrograms.{IsSound}
use Rattle.flow_graph.specs.Nodes.{graph_nodes}
use Rattle.flow_graph.specs.Rules.{IsGraph}
use Rattle.lowered_graphs.specs.GraphOf.{graph_of, operations}
use Rattle.lowered_rules.specs.Obeying.{GraphsObey}
use Rattle.lowered_rules.proofs.EachLemmas.{each_at}
use Rattle.lowered_rules.proofs.GraphOrder.{graph_count, graph_numbered}
use Rattle.lowered_rules.proofs.GraphRules.{FitNode, all_bodies, all_calls, all_fit, all_turns, graph_heights, main_within}
use Rattle.lowered_rules.proofs.NodeRules.{one_kind}
use Rattle.lowered_rules.proofs.ObjectRules.{objects_fit}
use Rattle.lowered_rules.proofs.SmallRules.{few_words}

graph_obeys : (p : Program) → IsSound p → IsScoped p → operations p ≤ 4096 → IsGraph (graph_of p)
graph_obeys p sound in_scope few = record {
  main = main_within p sound in_scope;
  operations = λ n x e. (each_at (FitNode p sound in_scope) (graph_nodes (graph_of p)) n x (all_fit p sound in_scope) e).fits;
  few = subst (λ k. k ≤ 4096) (sym (graph_count p)) few;
  numbered = graph_numbered p;
  objects = objects_fit p sound;
  one_kind = one_kind p sound (graph_nodes (graph_of p)) (all_fit p sound in_scope);
  small = few_words p sound in_scope few;
  bodies = all_bodies p sound in_scope;
  turns = all_turns p sound in_scope;
  heights = graph_heights p sound in_scope;
  calls = all_calls p sound in_scope;
}

pub graphs_obey : GraphsObey
graphs_obey = graph_obeys
