-- What the rules of every graph are enough for.
use Rattle.std.specs.Prelude.{ℕ, ◌≡◌, ◌≢◌, ◌+◌, ◌<◌, ◌≤◌, ⊤, Option, Some, None, List, length}
use Rattle.flow_graph.specs.declared.graph.ArrayUse.{ArrayUse}
use Rattle.flow_graph.specs.declared.graph.Op.{Op}
use Rattle.flow_graph.specs.declared.graph.Graph.{Graph}
use Rattle.flow_graph.specs.declared.nodes.Node.{Node}
use Rattle.flow_graph.specs.Nodes.{graph_nodes, node_in}
use Rattle.flow_graph.specs.Operations.{Words, words_of}
use Rattle.flow_graph.specs.Flow.{Begin, Lost, Spot, flow_from, operate, start, told_at}
use Rattle.flow_graph.specs.Rules.{IsGraph}
use Rattle.flow_graph.specs.declared.owned.Owned.{Owned}
use Rattle.flow_graph.specs.Owned.{IsAt, operations}
use Rattle.flow_graph.specs.Closed.{FallsTo, IsClosed, Stands}
use Rattle.flow_graph.specs.Results.{Results}

-- what is written lies within an object, of so many words each
abbrev pub DestWithin : Words → Option ℕ → Type 0
DestWithin objects None = ⊤
DestWithin objects (Some o) = o < length objects

abbrev pub ArrayWithin : Words → Option ArrayUse → Type 0
ArrayWithin objects None = ⊤
ArrayWithin objects (Some array) = (array.object < length objects) × (array.length ≤ length (words_of objects array.object))

pub record WritesFit (objects : Words) (op : Op) : Type 0 where
  pub dest : DestWithin objects op.dest
  pub words : (o : ℕ) → op.dest ≡ Some o → 0 < length (words_of objects o)
  pub array : ArrayWithin objects op.array

abbrev pub AllWritesFit : Graph → Words → Type 0
AllWritesFit g objects = (n : ℕ) (x : Node) → node_in (graph_nodes g) n ≡ Some x → WritesFit objects x.op

-- no operation is missing on the way
abbrev pub NeverLost : Graph → Words → List ℕ → Type 0
NeverLost g objects input = (n : ℕ) (ws : List ℕ) (s : Spot) → flow_from g n (start g objects input) ≡ told_at ws s → operate g s ≢ Lost

abbrev pub GraphsAreClosed : Type 0
GraphsAreClosed = (g : Graph) → IsGraph g → IsClosed g

-- code in the order of the numbers needs no jump from an operation to the one behind it
abbrev pub OperationsFallOn : Type 0
OperationsFallOn = (g : Graph) → IsGraph g → (i : ℕ) (x : Owned) → IsAt (operations g) i x → FallsTo x.node.op.kind x.node.next (i + 1)

-- wherever a run stands after some operations
abbrev pub RunsStand : Type 0
RunsStand = (g : Graph) (objects : Words) (input : List ℕ) → IsGraph g → Begin g.objects objects
    → (n : ℕ) (ws : List ℕ) (s : Spot) → flow_from g n (start g objects input) ≡ told_at ws s → Stands g s

abbrev pub NothingIsMissing : Type 0
NothingIsMissing = (g : Graph) (objects : Words) (input : List ℕ) → IsGraph g → Begin g.objects objects → NeverLost g objects input

abbrev pub WritesAreWithin : Type 0
WritesAreWithin = (g : Graph) (objects : Words) → IsGraph g → Begin g.objects objects → AllWritesFit g objects

abbrev pub RunsHaveResults : Type 0
RunsHaveResults = (g : Graph) (objects : Words) (input : List ℕ) → IsGraph g → Begin g.objects objects → Results g objects input
