-- The image of a graph of one function, with all objects in FRAM and a head before these operations.
use Rattle.std.specs.Prelude.{ℕ, zero, suc, ◌≡◌, ◌+◌, ◌*◌, ◌<◌, ◌≤◌, ◌==◌, ◌++◌, if◌then◌else◌, Bool, true, false, Some, List, [], ◌∷◌, length, slice_get, All}
use Rattle.board_table.specs.declared.board.Board.{Board}
use Rattle.ti_txt.specs.Image.{Block}
use Rattle.plain_meaning.specs.Behaviour.{Behaviour}
use Rattle.flow_graph.specs.declared.graph.Object.{Object}
use Rattle.flow_graph.specs.declared.graph.OpKind.{OpKind}
use Rattle.flow_graph.specs.declared.graph.OpKind.TheVariants as kind
use Rattle.flow_graph.specs.declared.graph.Graph.{Graph}
use Rattle.flow_graph.specs.declared.nodes.Node.{Node}
use Rattle.flow_graph.specs.Nodes.{graph_nodes}
use Rattle.flow_graph.specs.Operations.{Words}
use Rattle.flow_graph.specs.Flow.{Begin, flow}
use Rattle.resumed_runs.specs.Bytes.{bytes_of}
use Rattle.resumed_runs.specs.Carries.{Carries}
use Rattle.resumed_runs.specs.Code.{boot, size_of}
use Rattle.laid_code.specs.Chosen.{chosen_blocks, chosen_code}
use Rattle.graph_code.specs.Homes.{first_word}
use Rattle.graph_code.specs.Pieces.{Template, jumps_to, pieces}
use Rattle.op_cost.specs.Templates.{Homes, code_of, template}
use Rattle.op_cost.specs.Weights.{overhead, weight}

-- ---- Objects

-- the address of each object
abbrev pub fram_homes : Graph → Homes
fram_homes g o = 2 * first_word g o

abbrev pub words_block : ℕ → List ℕ → Block
words_block k ws = record { start = 2 * k; bytes = bytes_of ws }

-- words from a word of FRAM on, in one block with what stands just behind them
abbrev pub joined : ℕ → List ℕ → List Block → List Block
joined k [] blocks = blocks
joined k (w ∷ ws) [] = words_block k (w ∷ ws) ∷ []
joined k (w ∷ ws) (x ∷ blocks) =
    if x.start == 2 * (k + length (w ∷ ws)) then record { start = 2 * k; bytes = bytes_of (w ∷ ws) ++ x.bytes } ∷ blocks
    else words_block k (w ∷ ws) ∷ x ∷ blocks

abbrev pub blocks_from : ℕ → List Object → List Block
blocks_from k [] = []
blocks_from k (x ∷ xs) = joined k x.first (blocks_from (k + x.words) xs)

-- the words of the objects that begin with any
abbrev pub data_blocks : Graph → List Block
data_blocks g = blocks_from 0x2200 g.objects

-- ---- The image

abbrev pub fram_template : Graph → Template
fram_template g target op = code_of (template (fram_homes g) target op)

abbrev pub graph_blocks : (ℕ → Bool) → Graph → List Block
graph_blocks heads g = chosen_blocks (data_blocks g) (pieces (fram_template g) heads g)

-- the words of its code
abbrev pub code_words : (ℕ → Bool) → Graph → ℕ
code_words heads g = size_of boot + size_of (chosen_code 9 (pieces (fram_template g) heads g))

-- ---- Heads, and what lies between two of them

-- a Go, or a test
abbrev pub can_jump : OpKind → Bool
can_jump kind.Go = true
can_jump kind.Test = true
can_jump kind.Below = true
can_jump _ = false

-- The first operation has a head, and each that is jumped to.
pub record HeadsStand (heads : ℕ → Bool) (g : Graph) : Type 0 where
  pub first : heads 0 ≡ true
  pub jumped : (i : ℕ) (x : Node) → slice_get (graph_nodes g) i ≡ Some x → can_jump x.op.kind ≡ true → heads (jumps_to x.next) ≡ true

-- what operations cost up to the next head, or to the end
abbrev pub up_to_head : Board → (ℕ → Bool) → List Node → ℕ
up_to_head b heads [] = 0
up_to_head b heads (x ∷ xs) = if heads x.op.number then 0 else weight b [] x.op + up_to_head b heads xs

-- what is spent from an operation on to the end of its stretch
abbrev pub left_at : Board → (ℕ → Bool) → List Node → ℕ → ℕ
left_at b heads [] i = 0
left_at b heads (x ∷ xs) zero = weight b [] x.op + up_to_head b heads xs
left_at b heads (x ∷ xs) (suc i) = left_at b heads xs i

-- one charge pays for each stretch, with a wake and a sleep
abbrev pub StretchesFit : Board → (ℕ → Bool) → Graph → Type 0
StretchesFit b heads g = (i : ℕ) → i < length (graph_nodes g) → heads i ≡ true → left_at b heads (graph_nodes g) i + overhead b ≤ b.budget

-- ---- The program

-- From all words that the objects may begin with, the graph carries the program.
abbrev pub CarriesFrom : Behaviour → ℕ → Graph → Type 0
CarriesFrom program nodes g = (objects : Words) (input : List ℕ) → All (λ w. w < 65536) input → Begin g.objects objects
    → Carries program (λ words n. flow g objects words n) nodes input
