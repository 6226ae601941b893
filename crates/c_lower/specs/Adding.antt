-- How the functions made so far go on.
use Rattle.std.specs.Prelude.{◌≡◌, ℕ, ◌+◌, ◌++◌, List, ◌∷◌}
use Rattle.c_tree.specs.declared.tree.Function.{Function}
use Rattle.c_tree.specs.declared.tree.Program.{Program}
use Rattle.flow_graph.specs.declared.graph.Func.{Func}
use Rattle.lowered_graphs.specs.declared.homes.Homes.{Homes}
use Rattle.lowered_graphs.specs.declared.numbering.Numbering.{Numbering}
use Rattle.lowered_graphs.specs.GraphOf.{bodies_from}

-- the functions made with the one of the number n, and the numbers behind it, stand to the functions made before as it stands to those behind it
pub record AddsBody (p : Program) (homes : Homes) (n op behind : ℕ) (f : Function) (old new : Numbering) (done more : List Func) : Type 0 where
  pub functions : (fs : List Function) → more ++ (bodies_from p homes (n + 1) behind new fs).functions ≡ done ++ (bodies_from p homes n op old (f ∷ fs)).functions
  pub ops : (fs : List Function) → (bodies_from p homes (n + 1) behind new fs).ops ≡ (bodies_from p homes n op old (f ∷ fs)).ops
