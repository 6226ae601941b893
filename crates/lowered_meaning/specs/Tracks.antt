-- What a lowered part does where it stands in a graph, against what a part of the plain meaning did.
use Rattle.std.specs.Prelude.{◌≡◌, ℕ, Some, List, [], ◌∷◌, ⊤}
use Rattle.c_tree.specs.Runs.{State, Got}
use Rattle.flow_graph.specs.declared.graph.Graph.{Graph}
use Rattle.flow_graph.specs.declared.graph.Item.{Item}
use Rattle.flow_graph.specs.declared.nodes.Node.{Node}
use Rattle.flow_graph.specs.declared.nodes.Around.{Around}
use Rattle.flow_graph.specs.Nodes.{graph_nodes, node_in, first_of, nodes_of, laid_items}
use Rattle.flow_graph.specs.Flow.{Spot}
use Rattle.lowered_meaning.specs.Runs.{Runs}

-- the graph has these nodes
abbrev pub Has : Graph → List Node → Type 0
Has g [] = ⊤
Has g (x ∷ xs) = (node_in (graph_nodes g) x.op.number ≡ Some x) × Has g xs

-- these items stand in the graph, with that around them
abbrev pub Stand : Graph → Around → List Item → Type 0
Stand g k items = Has g (nodes_of (laid_items items) k)

-- where the graph is at a spot behind the part, as the calls were before it
pub record Behind (n : ℕ) (back : List ℕ) (z : Spot) : Type 0 where
  pub at : z.at ≡ n
  pub calls : z.calls ≡ back

-- Where the items stand in the graph and the first of them is executed next, the graph runs as the part did, and then stands behind the items.
abbrev pub Tracks : {A : Type 0} → Graph → (most a b o u : ℕ) → Got A → Around → List Item → Spot → (A → State → Spot → Type 0) → Type 0
Tracks g most a b o u got k items s rel =
    Stand g k items → s.at ≡ first_of (laid_items items) k.behind → Runs g most a b o u got s (λ v d z. Behind k.behind s.calls z × rel v d z)
