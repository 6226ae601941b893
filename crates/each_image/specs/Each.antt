-- The heads of a graph of one function where no plan says them: before each operation, or before the first alone where all is one stretch.
use Rattle.std.specs.Prelude.{ℕ, ◌≡◌, ◌+◌, ◌&&◌, nat_le, Bool, false, Some, List, [], ◌∷◌, slice_get}
use Rattle.board_table.specs.declared.board.Board.{Board}
use Rattle.flow_graph.specs.declared.graph.Func.{Func}
use Rattle.flow_graph.specs.declared.graph.Graph.{Graph}
use Rattle.flow_graph.specs.declared.nodes.Node.{Node}
use Rattle.flow_graph.specs.Nodes.{graph_nodes}
use Rattle.flow_graph.specs.Rules.{IsGraph}
use Rattle.graph_code.specs.Heads.{are_straight, has_head}
use Rattle.graph_code.specs.Order.{IsAlone}
use Rattle.op_cost.specs.Weights.{Fits, overhead, weight}
use Rattle.each_image.specs.Image.{HeadsStand, StretchesFit}

-- the first function has neither a branch nor a loop nor a leave
abbrev pub is_first_straight : List Func → Bool
is_first_straight [] = false
is_first_straight (f ∷ fs) = are_straight f.body

-- the weights of all operations with all that they touch in FRAM
abbrev pub all_weights : Board → List Node → ℕ
all_weights b [] = 0
all_weights b (x ∷ xs) = weight b [] x.op + all_weights b xs

-- `main` has neither a branch nor a loop nor a leave, and one charge pays for all
abbrev pub one_stretch : Board → Graph → Bool
one_stretch b g = is_first_straight g.functions && nat_le (all_weights b (graph_nodes g) + overhead b) b.budget

abbrev pub each_heads : Board → Graph → ℕ → Bool
each_heads b g = has_head (one_stretch b g)

-- one charge pays for each operation
abbrev pub EachFits : Board → Graph → Type 0
EachFits b g = (i : ℕ) (x : Node) → slice_get (graph_nodes g) i ≡ Some x → Fits b x.op

-- Where one charge pays for each operation, it pays for each stretch between these heads, and no operation is jumped to that has none.
abbrev pub EachHeadsStand : Type 0
EachHeadsStand = (b : Board) (g : Graph) → IsGraph g → IsAlone g → EachFits b g → HeadsStand (each_heads b g) g × StretchesFit b (each_heads b g) g
