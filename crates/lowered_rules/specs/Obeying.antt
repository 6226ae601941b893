-- What lowering keeps, of every program that may be lowered.
use Rattle.std.specs.Prelude.{◌≤◌}
use Rattle.c_tree.specs.declared.tree.Program.{Program}
use Rattle.sound_programs.specs.Scoped.{IsScoped}
use Rattle.sound_programs.specs.SoundPrograms.{IsSound}
use Rattle.flow_graph.specs.Rules.{IsGraph}
use Rattle.lowered_graphs.specs.GraphOf.{graph_of, operations}

-- a sound program in scope whose graph has few enough operations has a graph that obeys every rule
abbrev pub GraphsObey : Type 0
GraphsObey = (p : Program) → IsSound p → IsScoped p → operations p ≤ 4096 → IsGraph (graph_of p)
