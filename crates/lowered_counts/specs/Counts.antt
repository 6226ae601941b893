-- How many functions and objects the graph of a program has.
use Rattle.std.specs.Prelude.{◌≤◌, ◌<◌, ◌^◌, length}
use Rattle.c_tree.specs.declared.tree.Program.{Program}
use Rattle.sound_programs.specs.Scoped.{IsScoped}
use Rattle.sound_programs.specs.SoundPrograms.{IsSound}
use Rattle.flow_graph.specs.declared.graph.Graph.{Graph}
use Rattle.lowered_graphs.specs.GraphOf.{graph_of, operations}

-- no more functions than a program may have, and each object has a word
pub record IsSmall (g : Graph) : Type 0 where
  pub functions : length g.functions ≤ 256
  pub objects : length g.objects < 2 ^ 31

abbrev pub GraphsAreSmall : Type 0
GraphsAreSmall = (p : Program) → IsSound p → IsScoped p → operations p ≤ 4096 → IsSmall (graph_of p)
