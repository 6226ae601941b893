-- The code of a graph in pieces: each operation in the order of their numbers, behind its head where it has one.
use Rattle.std.specs.Prelude.{ℕ, ◌≡◌, ◌+◌, ◌*◌, Bool, List, [], ◌∷◌}
use Rattle.msp430_isa.specs.declared.instr.Instr.{Instr}
use Rattle.flow_graph.specs.declared.graph.Op.{Op}
use Rattle.flow_graph.specs.declared.graph.Graph.{Graph}
use Rattle.flow_graph.specs.declared.nodes.Next.{Next}
use Rattle.flow_graph.specs.declared.nodes.Next.TheVariants.{To, Either, Into, Returns, Ends}
use Rattle.flow_graph.specs.declared.nodes.Node.{Node}
use Rattle.flow_graph.specs.Nodes.{graph_nodes}
use Rattle.resumed_runs.specs.Code.{size_of}
use Rattle.laid_code.specs.Chosen.{Piece, chosen_at}

-- the code of an operation, which goes to this address where it jumps
abbrev pub Template : Type 0
Template = ℕ → Op → List Instr

-- no template's length depends on the address
abbrev pub IsSteady : Template → Type 0
IsSteady template = (a b : ℕ) (op : Op) → size_of (template a op) ≡ size_of (template b op)

-- the operation that is jumped to: by a Go, or a test that isn't passed
abbrev pub jumps_to : Next → ℕ
jumps_to (To n) = n
jumps_to (Either n m) = m
jumps_to (Into f n) = 0
jumps_to Returns = 0
jumps_to Ends = 0

module _ (template : Template) (has_head : ℕ → Bool) where
  abbrev pub piece_of : (ℕ → ℕ) → Node → Piece
  piece_of address x = record { has_head = has_head x.op.number; template = template (address (jumps_to x.next)) x.op }

  abbrev pub pieces_by : (ℕ → ℕ) → List Node → List Piece
  pieces_by address [] = []
  pieces_by address (x ∷ xs) = piece_of address x ∷ pieces_by address xs

  -- behind boot, which has nine words; a jump goes to the head of an operation where it has one
  abbrev pub address_of : Graph → ℕ → ℕ
  address_of g n = 0x8000 + 2 * chosen_at 9 (pieces_by (λ m. 0) (graph_nodes g)) n

  abbrev pub pieces : Graph → List Piece
  pieces g = pieces_by (address_of g) (graph_nodes g)
