-- What the call of the lowering answers.
use Rattle.std.specs.Prelude.{◌≡◌, ℕ, ◌<◌, Option, Some, None, ⊤}
use Rattle.base_io.specs.declared.place.Place.{Place}
use Rattle.c_tree.specs.declared.tree.Program.{Program}
use Rattle.flow_graph.specs.declared.graph.Graph.{Graph}
use Rattle.flow_graph.specs.declared.nodes.Node.{Node}
use Rattle.flow_graph.specs.Nodes.{graph_nodes, node_in}
use Rattle.lowered_graphs.specs.GraphOf.{graph_of, operations}
use Rattle.c_lower.specs.declared.programs.LowerFault.{LowerFault}
use Rattle.c_lower.specs.declared.programs.LowerFault.TheVariants.{TooManyOps, Memory}

-- the place of an operation; every operation has one
abbrev pub place_at : Option Node → Place
place_at None = record { line = 0; column = 0 }
place_at (Some x) = x.op.place

-- the place of the operation of this number
abbrev pub place_in : Graph → ℕ → Place
place_in g n = place_at (node_in (graph_nodes g) n)

-- A program has more than 4,096 operations: so many, and the first that is too many, which has the number 4,096, comes from this place.
pub record HasTooMany (p : Program) (count : ℕ) (at : Place) : Type 0 where
  pub many : 4096 < operations p
  pub count_of : count ≡ operations p
  pub place_of : at ≡ place_in (graph_of p) 4096

abbrev pub IsRefused : Program → LowerFault → Type 0
IsRefused p (TooManyOps count at) = HasTooMany p count at
IsRefused p Memory = ⊤

-- the place of a node that is there
abbrev pub is_place : Option Node → Place → Type 0
is_place None at = ⊥
is_place (Some x) at = at ≡ x.op.place

abbrev pub IsTooMany : Graph → ℕ → LowerFault → Type 0
IsTooMany g n (TooManyOps count at) = (count ≡ n) × (at ≡ place_in g 4096)
IsTooMany g n Memory = ⊤
