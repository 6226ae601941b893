-- Every lowered graph does what its program means, and has `main` alone where that calls no other function.
use Rattle.std.specs.Prelude.{◌≡◌, ◌↔◌, Some, [], length, slice_get}
use Rattle.c_tree.specs.declared.tree.Function.{Function}
use Rattle.c_tree.specs.declared.tree.Program.{Program}
use Rattle.sound_programs.specs.SoundPrograms.{IsSound}
use Rattle.sound_programs.specs.Scoped.{IsScoped}
use Rattle.lowered_graphs.specs.GraphOf.{function_callees, graph_of}
use Rattle.lowered_meaning.specs.Behaves.{IsLowered}

abbrev pub LoweredGraphsBehave : Type 0
LoweredGraphsBehave = (p : Program) → IsSound p → IsScoped p → IsLowered p (graph_of p)

-- one function exactly where no call stands in the body of `main`
abbrev pub GraphsStandAlone : Type 0
GraphsStandAlone = (p : Program) → IsSound p → IsScoped p → (main : Function) → slice_get p.functions p.main ≡ Some main → (length (graph_of p).functions ≡ 1 ↔ function_callees p p.main main ≡ [])
