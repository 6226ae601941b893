-- What a run of a graph through some items costs: at most what their weight says under the homes in force.
use Rattle.std.specs.Prelude.{ℕ, zero, suc, ◌≡◌, ◌+◌, ◌<◌, ◌≤◌, ◌==◌, ◌||◌, ◌&&◌, Bool, true, nat_lt, if◌then◌else◌, ⊤, Option, Some, None, List, length, slice_get, Contains}
use Rattle.flow_graph.specs.declared.graph.Op.{Op}
use Rattle.flow_graph.specs.declared.graph.Item.{Item}
use Rattle.flow_graph.specs.declared.graph.Func.{Func}
use Rattle.flow_graph.specs.declared.graph.Graph.{Graph}
use Rattle.flow_graph.specs.declared.nodes.Node.{Node}
use Rattle.flow_graph.specs.declared.nodes.Around.{Around}
use Rattle.flow_graph.specs.Nodes.{around_body, entry, first_of, graph_nodes, laid_items, node_in, nodes_of}
use Rattle.flow_graph.specs.Flow.{Did, Spot, Went, operate}
use Rattle.flow_graph.specs.Rules.{Ending, Returns, IsGraph, Spares, Turn, Where, doings, fittings, list_fits}
use Rattle.flow_graph.specs.Closed.{AreSized}
use Rattle.item_weights.specs.Weights.{Own, Weight, items_weight}
use Rattle.item_weights.specs.Costs.{Prices, cost_of}

-- What single operations weigh, and the prices of their objects: those in force among the items, and those in the functions called from them, whose
-- objects are all in FRAM. The objects are below a number.
pub record Force : Type 0 where
  pub own : Own
  pub here : Prices
  pub called : Prices
  pub objects : ℕ

abbrev pub prices_at : Force → (called : Bool) → Prices
prices_at f called = if called then f.called else f.here

-- what an operation costs where so many calls go on, of which `depth` went on before the items
abbrev pub price : Force → ℕ → List ℕ → Op → ℕ
price f depth calls op = cost_of (prices_at f (nat_lt depth (length calls))) f.objects (f.own op)

abbrev pub price_of : Force → ℕ → List ℕ → Option Node → ℕ
price_of f depth calls None = 0
price_of f depth calls (Some x) = price f depth calls x.op

-- control stands behind the items, or has gone back from their function
abbrev pub is_over : (behind depth : ℕ) → Spot → Bool
is_over behind depth s = nat_lt (length s.calls) depth || (length s.calls == depth && s.at == behind)

-- where it goes on
abbrev pub spent_on : (Spot → ℕ) → Did → ℕ
spent_on rest (Went ws s) = rest s
spent_on rest _ = 0

-- what m operations from a spot on cost, those alone that are executed before control stands behind the items; an operation that traps or ends counts
abbrev pub spent : Force → Graph → (behind depth : ℕ) → ℕ → Spot → ℕ
spent f g behind depth zero s = 0
spent f g behind depth (suc m) s =
    if is_over behind depth s then 0 else price_of f depth s.calls (node_in (graph_nodes g) s.at) + spent_on (spent f g behind depth m) (operate g s)

-- ---- where items lie in a graph

-- The items with what lies around them are a part of a function's body: their operations are the graph's, the variables of their counted loops are
-- spared, their calls are of functions that there are, and they fit where they stand. They begin with no counted loop, whose Copy they would lack.
pub record IsPart (g : Graph) (items : List Item) (c : Around) : Type 0 where
  pub nodes : (k : ℕ) (x : Node) → slice_get (nodes_of (laid_items items) c) k ≡ Some x → (n : ℕ) × (slice_get (graph_nodes g) n ≡ Some x)
  pub turns : (k : ℕ) (t : Turn) → slice_get (doings items).turns k ≡ Some t → Spares g t
  pub calls : (h : ℕ) → Contains (doings items).calls h → h < length g.functions
  pub where' : Where
  pub ending : Ending
  pub fits : list_fits where' ending None (fittings items) ≡ true

-- ---- numbers of flat functions

-- a function with a number has a body with a weight, and its number is no less than what the body costs where it is called
pub record IsFlat (g : Graph) (f : Force) (flats : List (Option ℕ)) (h number : ℕ) : Type 0 where
  pub func : Func
  pub is_function : slice_get g.functions h ≡ Some func
  pub weight : Weight
  pub weighs : items_weight f.own flats func.body ≡ Some weight
  pub enough : cost_of f.called f.objects weight ≤ number

abbrev pub AreNumbers : Graph → Force → List (Option ℕ) → Type 0
AreNumbers g f flats = (h number : ℕ) → slice_get flats h ≡ Some (Some number) → IsFlat g f flats h number

-- ---- the laws

-- Where a run through items ends if it doesn't go back from their function: at the operation behind them. Behind items that return lies nothing, so
-- any number serves there: one that no operation has lets the whole run count.
abbrev pub StopsAt : (behind : ℕ) → Ending → (stop : ℕ) → Type 0
StopsAt behind Returns stop = ⊤
StopsAt behind _ stop = stop ≡ behind

-- From the first of the items on, whatever the words of the objects and of the input, and however far the run goes. `m` bounds nothing: it is the
-- number of operations looked at.
abbrev pub RunsCostAtMost : Type 0
RunsCostAtMost = (g : Graph) (f : Force) (flats : List (Option ℕ)) (items : List Item) (c : Around) (w : Weight) (s : Spot) (stop m : ℕ)
    → IsGraph g → AreNumbers g f flats → (part : IsPart g items c) → StopsAt c.behind part.ending stop → items_weight f.own flats items ≡ Some w → AreSized g s.objects
    → s.at ≡ first_of (laid_items items) c.behind → spent f g stop (length s.calls) m s ≤ cost_of f.here f.objects w

-- the body of each function is such a part, and returns
abbrev pub BodiesAreParts : Type 0
BodiesAreParts = (g : Graph) (h : ℕ) (func : Func) → IsGraph g → slice_get g.functions h ≡ Some func → (part : IsPart g func.body around_body) × (part.ending ≡ Returns)

-- a number that no operation of a graph has
abbrev pub nowhere : Graph → ℕ
nowhere g = length (graph_nodes g)

-- what m operations from a spot on cost, those alone that are executed before control goes back from the function in which it stands
abbrev pub spent_in_body : Force → Graph → ℕ → Spot → ℕ
spent_in_body f g m s = spent f g (nowhere g) (length s.calls) m s

-- A run from the entry of a function with a weight costs at most what its body weighs, until it goes back, or ends.
abbrev pub BodiesCostAtMost : Type 0
BodiesCostAtMost = (g : Graph) (f : Force) (flats : List (Option ℕ)) (h : ℕ) (func : Func) (w : Weight) (s : Spot) (m : ℕ)
    → IsGraph g → AreNumbers g f flats → slice_get g.functions h ≡ Some func → items_weight f.own flats func.body ≡ Some w → AreSized g s.objects → s.at ≡ entry g h
    → spent_in_body f g m s ≤ cost_of f.here f.objects w
