-- Which bodies have a plan: those whose operations each fit one charge.
use Rattle.std.specs.Prelude.{ℕ, ◌≡◌, ◌≤◌, ◌+◌, true, List, [], ◌∷◌}
use Rattle.std.specs.List.{AllByRecursion}
use Rattle.flow_graph.specs.declared.graph.Op.{Op}
use Rattle.flow_graph.specs.declared.graph.Item.{Item}
use Rattle.flow_graph.specs.declared.graph.Item.TheVariants as item
use Rattle.flow_graph.specs.declared.nodes.Next.TheVariants.{Into}
use Rattle.flow_graph.specs.declared.nodes.Node.{Node}
use Rattle.flow_graph.specs.Nodes.{around_body, laid_items, nodes_of}
use Rattle.chain_units.specs.Known.{Known, or_nothing, weight_in_fram}
use Rattle.chain_units.specs.Marks.{are_flat}

-- what an operation costs in a stretch of its own with all objects in FRAM
abbrev pub need_of : Known → Op → ℕ
need_of k op = weight_in_fram k.board (or_nothing (k.weights (item.One op ∷ []))) + k.overhead

-- an operation fits by itself, and the call of a flat function together with what the function costs
pub record NodeFits (k : Known) (x : Node) : Type 0 where
  pub alone : need_of k x.op ≤ k.board.budget
  pub called : (f n : ℕ) → x.next ≡ Into f n → k.is_flat f ≡ true → are_flat k (item.CallTo x.op f ∷ []) ≡ true

abbrev pub BodyFits : Known → List Item → Type 0
BodyFits k body = AllByRecursion (NodeFits k) (nodes_of (laid_items body) around_body)
