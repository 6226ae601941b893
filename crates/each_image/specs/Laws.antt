-- What the image of a graph of one function keeps.
use Rattle.std.specs.Prelude.{ℕ, ◌≡◌, ◌+◌, ◌<◌, ◌≤◌, Bool, List, All}
use Rattle.board_table.specs.declared.board.Board.{Board}
use Rattle.ti_txt.specs.Image.{Block, IsImage}
use Rattle.plain_meaning.specs.Behaviour.{Behaviour}
use Rattle.flow_graph.specs.declared.graph.Graph.{Graph}
use Rattle.flow_graph.specs.Flow.{At, Begin, Spot, flow, flow_from, start}
use Rattle.flow_graph.specs.Operations.{Words, word_at}
use Rattle.flow_graph.specs.Rules.{IsGraph}
use Rattle.msp430_machine.specs.State.{State}
use Rattle.msp430_machine.specs.First.{IsFirst, HoldsBlocks}
use Rattle.power_core.specs.Agreement.{Agrees}
use Rattle.power_core.specs.Enduring.{Endures}
use Rattle.power_core.specs.Runs.{Event, Trail, Generous, RunOf}
use Rattle.resumed_runs.specs.Counts.{IsCounted}
use Rattle.resumed_runs.specs.Need.{sleep_cost, wake_cost}
use Rattle.laid_code.specs.Chosen.{StandsAt}
use Rattle.graph_flow.specs.GraphFlow.{sizes}
use Rattle.graph_code.specs.Homes.{data_bytes, first_word, most_data}
use Rattle.graph_code.specs.Order.{IsAlone}
use Rattle.graph_code.specs.Pieces.{address_of}
use Rattle.op_cost.specs.Weights.{overhead}
use Rattle.each_image.specs.Image.{CarriesFrom, HeadsStand, StretchesFit, code_words, fram_template, graph_blocks}

-- A graph of one function that carries the program, with its heads where they have to be; objects and code have room.
pub record IsEach (program : Behaviour) (nodes : ℕ) (heads : ℕ → Bool) (g : Graph) : Type 0 where
  pub rules : IsGraph g
  pub alone : IsAlone g
  pub stand : HeadsStand heads g
  pub objects : data_bytes g ≤ most_data
  pub room : code_words heads g ≤ 0x3FC0
  pub carries : CarriesFrom program nodes g

-- Where one charge pays for each stretch, the image agrees with the program.
abbrev pub EachImagesAgree : Type 0
EachImagesAgree = (b : Board) (program : Behaviour) (nodes : ℕ) (heads : ℕ → Bool) (g : Graph) → IsEach program nodes heads g → StretchesFit b heads g
    → Agrees program nodes (graph_blocks heads g) b

-- FRAM holds these words of objects, each at its home.
abbrev pub HoldsObjects : Graph → Words → State → Type 0
HoldsObjects g objects s = (o i : ℕ) → i < sizes g o → s.fram (first_word g o + i) ≡ word_at objects o i

-- The device stands where the graph stands after so many operations: at the code of the operation that is executed next, awake or to be resumed
-- there, and FRAM holds the words of the objects.
pub record ShowsFlow (heads : ℕ → Bool) (g : Graph) (objects : Words) (input : List ℕ) (operations : ℕ) (s : State) : Type 0 where
  pub spot : Spot
  pub is : (flow_from g operations (start g objects input)).stand ≡ At spot
  pub stands : StandsAt (address_of (fram_template g) heads g spot.at) (heads spot.at) s
  pub held : HoldsObjects g spot.objects s

-- From the words of objects that FRAM holds in the first state, the operations of the graph are counted along each run whose refills each reach
-- the budget, and the device shows it behind each of them and at each refill: each charge that another refill follows does at least one.
abbrev pub ChargesWork : Board → (ℕ → Bool) → Graph → List Block → Type 0
ChargesWork b heads g blocks = (input : List ℕ) (events : List Event) (t : Trail) → All (λ w. w < 65536) input → Generous b.budget events → (run : RunOf blocks b input events t)
    → (objects : Words) × Begin g.objects objects × HoldsObjects g objects run.0 × IsCounted b input (λ words n. flow g objects words n) (ShowsFlow heads g objects input) run.0 events t

abbrev pub EachChargesWork : Type 0
EachChargesWork = (b : Board) (program : Behaviour) (nodes : ℕ) (heads : ℕ → Bool) (g : Graph) → IsEach program nodes heads g → StretchesFit b heads g
    → ChargesWork b heads g (graph_blocks heads g)

-- On every board, also on one whose budget is too small, the image endures any supply.
abbrev pub EachImagesEndure : Type 0
EachImagesEndure = (b : Board) (program : Behaviour) (nodes : ℕ) (heads : ℕ → Bool) (g : Graph) → IsEach program nodes heads g → Endures program nodes (graph_blocks heads g) b

-- The blocks are an image: they ascend, don't touch, and lie in FRAM.
abbrev pub AreEachImages : Type 0
AreEachImages = (heads : ℕ → Bool) (g : Graph) → IsGraph g → data_bytes g ≤ most_data → code_words heads g ≤ 0x3FC0 → IsImage (graph_blocks heads g)

-- Some device can be loaded with it, so that there are runs of it.
abbrev pub AreEachHeld : Type 0
AreEachHeld = (heads : ℕ → Bool) (g : Graph) → IsGraph g → data_bytes g ≤ most_data → code_words heads g ≤ 0x3FC0 → (s : State) × IsFirst s × HoldsBlocks s (graph_blocks heads g)

-- What a stretch costs apart from its work is what a wake and a sleep cost.
abbrev pub IsOverhead : Type 0
IsOverhead = (b : Board) → overhead b ≡ wake_cost b + sleep_cost b
