-- The operations of a graph in the order of their numbers, each with the function that it belongs to.
use Rattle.std.specs.Prelude.{ℕ, ◌≡◌, ◌+◌, ◌++◌, Some, List, [], ◌∷◌, slice_get}
use Rattle.flow_graph.specs.declared.graph.Func.{Func}
use Rattle.flow_graph.specs.declared.graph.Graph.{Graph}
use Rattle.flow_graph.specs.declared.nodes.Next.TheVariants.{Into}
use Rattle.flow_graph.specs.declared.nodes.Node.{Node}
use Rattle.flow_graph.specs.declared.owned.Owned.{Owned}
use Rattle.flow_graph.specs.Nodes.{body_nodes}

abbrev pub owned : ℕ → List Node → List Owned
owned f [] = []
owned f (x ∷ xs) = record { function = f; node = x } ∷ owned f xs

abbrev pub owned_from : ℕ → List Func → List Owned
owned_from f [] = []
owned_from f (b ∷ bs) = owned f (body_nodes b) ++ owned_from (f + 1) bs

abbrev pub operations : Graph → List Owned
operations g = owned_from 0 g.functions

abbrev pub IsAt : List Owned → ℕ → Owned → Type 0
IsAt ops i x = slice_get ops i ≡ Some x

-- operation i is one of function f
abbrev pub IsIn : Graph → ℕ → ℕ → Type 0
IsIn g i f = (x : Owned) × IsAt (operations g) i x × (x.function ≡ f)

-- operation j lies behind a call of function f
pub record IsBehindCall (ops : List Owned) (f j : ℕ) : Type 0 where
  pub call : ℕ
  pub op : Owned
  pub is_call : IsAt ops call op
  pub calls : op.node.next ≡ Into f j
