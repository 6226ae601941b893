-- Every lowered graph carries its program, and one of one function is what images of such graphs are made from.
use Rattle.std.specs.Prelude.{ℕ, ◌≤◌, Bool}
use Rattle.c_tree.specs.declared.tree.Program.{Program}
use Rattle.c_tree.specs.Meaning.{meaning}
use Rattle.sound_programs.specs.SoundPrograms.{IsSound}
use Rattle.sound_programs.specs.Scoped.{IsScoped}
use Rattle.lowered_graphs.specs.GraphOf.{graph_of, operations}
use Rattle.graph_code.specs.Homes.{data_bytes, most_data}
use Rattle.graph_code.specs.Order.{IsAlone}
use Rattle.each_image.specs.Image.{CarriesFrom, HeadsStand, code_words}
use Rattle.each_image.specs.Laws.{IsEach}

abbrev pub LoweredGraphsCarry : Type 0
LoweredGraphsCarry = (p : Program) → IsSound p → IsScoped p → CarriesFrom (meaning p) p.nodes (graph_of p)

-- where its heads stand so, and its objects and code have room
abbrev pub LoweredGraphsAreEach : Type 0
LoweredGraphsAreEach = (p : Program) (heads : ℕ → Bool) → IsSound p → IsScoped p → operations p ≤ 4096 → IsAlone (graph_of p) → HeadsStand heads (graph_of p)
    → data_bytes (graph_of p) ≤ most_data → code_words heads (graph_of p) ≤ 0x3FC0 → IsEach (meaning p) p.nodes heads (graph_of p)
