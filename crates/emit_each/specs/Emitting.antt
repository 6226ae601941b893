-- What the emitter answers.
use Rattle.std.specs.Prelude.{ℕ, Bool, ◌≡◌, ◌*◌, ◌<◌, ◌≤◌, ◌⊎◌, ⊤, List, [], ◌∷◌}
use Rattle.board_table.specs.declared.board.Board.{Board}
use Rattle.ti_txt.specs.Image.{Block}
use Rattle.plain_meaning.specs.Behaviour.{Behaviour}
use Rattle.msp430_machine.specs.State.{State}
use Rattle.msp430_machine.specs.First.{IsFirst, HoldsBlocks}
use Rattle.power_core.specs.Agreement.{Agrees}
use Rattle.power_core.specs.Enduring.{Endures}
use Rattle.flow_graph.specs.declared.graph.Op.{Op}
use Rattle.flow_graph.specs.declared.graph.Graph.{Graph}
use Rattle.flow_graph.specs.declared.nodes.Node.{Node}
use Rattle.flow_graph.specs.Nodes.{graph_nodes}
use Rattle.graph_code.specs.Homes.{data_bytes, most_data}
use Rattle.op_cost.specs.Weights.{Fits, need}
use Rattle.each_image.specs.Each.{each_heads}
use Rattle.each_image.specs.Image.{CarriesFrom, code_words, graph_blocks}
use Rattle.each_image.specs.Laws.{ChargesWork}
use Rattle.emit_each.specs.declared.fault.Room.TheVariants.{Data}
use Rattle.emit_each.specs.declared.fault.EmitFault.{EmitFault}
use Rattle.emit_each.specs.declared.fault.EmitFault.TheVariants.{BudgetTooSmall, DataTooLarge, CodeTooLarge, Memory}

-- one charge pays for each operation
abbrev pub AllFit : Board → List Node → Type 0
AllFit b [] = ⊤
AllFit b (x ∷ xs) = Fits b x.op × AllFit b xs

-- the first operation for which one charge doesn't pay
abbrev pub IsFirstMisfit : Board → List Node → Op → Type 0
IsFirstMisfit b [] op = ⊥
IsFirstMisfit b (x ∷ xs) op = (Fits b x.op × IsFirstMisfit b xs op) ⊎ ((Fits b x.op → ⊥) × (op ≡ x.op))

-- the most words of code: 32,640 bytes
abbrev pub most_code : ℕ
most_code = 0x3FC0

-- All has room, and this is the image.
pub record IsEmitted (b : Board) (g : Graph) (blocks : List Block) : Type 0 where
  pub fits : AllFit b (graph_nodes g)
  pub objects : data_bytes g ≤ most_data
  pub room : code_words (each_heads b g) g ≤ most_code
  pub image : blocks ≡ graph_blocks (each_heads b g) g

-- What stands in the way, the first in this order: objects without room, an operation for which one charge doesn't pay, code without room.
abbrev pub IsRefused : Board → Graph → EmitFault → Type 0
IsRefused b g (DataTooLarge what bytes room) = (most_data < data_bytes g) × (what ≡ Data) × (bytes ≡ data_bytes g) × (room ≡ most_data)
IsRefused b g (BudgetTooSmall op place least budget) =
    (data_bytes g ≤ most_data)
    × ((x : Op) × IsFirstMisfit b (graph_nodes g) x × (op ≡ x.kind) × (place ≡ x.place) × (least ≡ need b x) × (budget ≡ b.budget))
IsRefused b g (CodeTooLarge bytes room) =
    (data_bytes g ≤ most_data) × AllFit b (graph_nodes g) × (most_code < code_words (each_heads b g) g)
    × (bytes ≡ 2 * code_words (each_heads b g) g) × (room ≡ 2 * most_code)
IsRefused b g Memory = ⊤

-- ---- The same of any heads

pub record IsLaid (heads : ℕ → Bool) (g : Graph) (blocks : List Block) : Type 0 where
  pub objects : data_bytes g ≤ most_data
  pub room : code_words heads g ≤ most_code
  pub image : blocks ≡ graph_blocks heads g

abbrev pub HasNoRoom : (ℕ → Bool) → Graph → EmitFault → Type 0
HasNoRoom heads g (BudgetTooSmall op place least budget) = ⊥
HasNoRoom heads g (DataTooLarge what bytes room) = ⊥
HasNoRoom heads g (CodeTooLarge bytes room) = (most_code < code_words heads g) × (bytes ≡ 2 * code_words heads g) × (room ≡ 2 * most_code)
HasNoRoom heads g Memory = ⊤

-- ---- What the image keeps, of each program that the graph carries

abbrev pub AgreesWithEach : Board → Graph → List Block → Type 0
AgreesWithEach b g blocks = (program : Behaviour) (nodes : ℕ) → CarriesFrom program nodes g → Agrees program nodes blocks b

abbrev pub WorksWithEach : Board → Graph → List Block → Type 0
WorksWithEach b g blocks = (program : Behaviour) (nodes : ℕ) → CarriesFrom program nodes g → ChargesWork b (each_heads b g) g blocks

abbrev pub EnduresWithEach : Board → Graph → List Block → Type 0
EnduresWithEach b g blocks = (program : Behaviour) (nodes : ℕ) → CarriesFrom program nodes g → Endures program nodes blocks b

-- some device can be loaded with it, so that there are runs of it
abbrev pub IsHeld : List Block → Type 0
IsHeld blocks = (s : State) × IsFirst s × HoldsBlocks s blocks
