-- The certificate of the image of a graph of one function, with a head before these operations.
use Rattle.std.specs.Prelude.{ℕ, ◌≡◌, ◌+◌, ◌≤◌, if◌then◌else◌, Bool, List, [], ◌∷◌}
use Rattle.board_table.specs.declared.board.Board.{Board}
use Rattle.ti_txt.specs.Image.{Block}
use Rattle.certificate.specs.declared.cert.StretchRow.{StretchRow}
use Rattle.certificate.specs.Rows.{Certificate}
use Rattle.flow_graph.specs.declared.graph.Graph.{Graph}
use Rattle.flow_graph.specs.declared.nodes.Node.{Node}
use Rattle.flow_graph.specs.Nodes.{graph_nodes}
use Rattle.flow_graph.specs.Rules.{IsGraph}
use Rattle.graph_code.specs.Homes.{data_bytes, most_data}
use Rattle.graph_code.specs.Order.{IsAlone}
use Rattle.graph_code.specs.Pieces.{address_of, jumps_to}
use Rattle.op_cost.specs.Weights.{overhead, weight}
use Rattle.each_image.specs.Each.{each_heads}
use Rattle.each_image.specs.Image.{HeadsStand, StretchesFit, code_words, fram_homes, fram_template, graph_blocks, up_to_head}
use Rattle.emit_each.specs.Emitting.{IsEmitted, most_code}
use Rattle.cert_rules.specs.Sweep.{Certified}
use Rattle.cert_templates.specs.Frames.{Position, certificate_of}

-- the operations in the order of their numbers, each with the address that it goes to where it jumps
abbrev pub positions_by : (ℕ → ℕ) → (ℕ → Bool) → List Node → List Position
positions_by address heads [] = []
positions_by address heads (x ∷ xs) = record { op = x.op; target = address (jumps_to x.next); has_head = heads x.op.number } ∷ positions_by address heads xs

abbrev pub positions : (ℕ → Bool) → Graph → List Position
positions heads g = positions_by (address_of (fram_template g) heads g) heads (graph_nodes g)

abbrev pub graph_certificate : Board → (ℕ → Bool) → Graph → Certificate
graph_certificate b heads g = certificate_of b (fram_homes g) (positions heads g)

-- the certificate of the image that the emitter answers
abbrev pub each_certificate : Board → Graph → Certificate
each_certificate b g = graph_certificate b (each_heads b g) g

-- ---- What is certified

-- Where one charge pays for each stretch, and objects and code have room, every rule holds of the image and its certificate.
abbrev pub GraphImagesCertified : Type 0
GraphImagesCertified = (b : Board) (heads : ℕ → Bool) (g : Graph) → IsGraph g → IsAlone g → HeadsStand heads g → StretchesFit b heads g
    → data_bytes g ≤ most_data → code_words heads g ≤ most_code → Certified (graph_blocks heads g) (graph_certificate b heads g) b

-- So it is with what the emitter answers.
abbrev pub EachImagesCertified : Type 0
EachImagesCertified = (b : Board) (g : Graph) (blocks : List Block) → IsGraph g → IsAlone g → IsEmitted b g blocks → Certified blocks (each_certificate b g) b

-- ---- What its stretches cost

-- a row for each head, with the cost of the operations up to the next one, of a wake and of a sleep
abbrev pub rows_of_heads : Board → (ℕ → Bool) → (ℕ → ℕ) → List Node → List StretchRow
rows_of_heads b heads address [] = []
rows_of_heads b heads address (x ∷ xs) =
    if heads x.op.number then record { head = address x.op.number; chain = 1; turns = 0; cost = weight b [] x.op + up_to_head b heads xs + overhead b } ∷ rows_of_heads b heads address xs
    else rows_of_heads b heads address xs

-- The rows of stretches are those of the heads, in the order of the code.
abbrev pub RowsAreOfHeads : Type 0
RowsAreOfHeads = (b : Board) (heads : ℕ → Bool) (g : Graph) → IsGraph g → data_bytes g ≤ most_data
    → (graph_certificate b heads g).stretches ≡ rows_of_heads b heads (address_of (fram_template g) heads g) (graph_nodes g)
