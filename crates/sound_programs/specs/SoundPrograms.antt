-- What may be taken for granted of a typed program: it names only variables and functions that it has, and uses them with their types; `main` is an
-- int function without parameters; its calls have no cycle; it has as many nodes as it says; and it keeps within the limits.
use Rattle.std.specs.Prelude.{◌≡◌, ℕ, ◌≤◌, ◌<◌, ◌^◌, List, length, slice_get, IsTrue}
use Rattle.c_tree.specs.declared.tree.Program.{Program}
use Rattle.sound_programs.specs.Sound.{functions_fit, variables_fit, is_main}
use Rattle.sound_programs.specs.Counted.{nodes_of}
use Rattle.sound_programs.specs.Calls.{functions_below}

-- each function has a height, and calls only functions of lesser heights
abbrev pub IsAcyclic : Program → Type 0
IsAcyclic p = (heights : List ℕ) × IsTrue (functions_below heights 0 p.functions)

pub record IsSound (p : Program) : Type 0 where
  pub variables : IsTrue (variables_fit p.variables)
  pub functions : IsTrue (functions_fit p p.functions)
  pub main : IsTrue (is_main (slice_get p.functions p.main))
  pub acyclic : IsAcyclic p
  pub nodes : nodes_of p ≡ p.nodes
  pub few_nodes : p.nodes < 2 ^ 29
  pub few_functions : length p.functions ≤ 256
  pub few_variables : length p.variables < 2 ^ 19
