-- A graph as a flow: a place is the number of the operation that is executed next, with the numbers behind the calls that go on.
use Rattle.std.specs.Prelude.{ℕ, ◌≡◌, ◌%◌, ◌^◌, Bool, true, false, nat_lt, if◌then◌else◌, Option, Some, None, List, [], ◌∷◌, slice_get}
use Rattle.c_values.specs.Values.{Worked, Gives, Traps as MeetsTrap, index_trap}
use Rattle.flow_graph.specs.declared.graph.Operand.{Operand}
use Rattle.flow_graph.specs.declared.graph.Operand.TheVariants.{Const, Object}
use Rattle.flow_graph.specs.declared.graph.Op.{Op}
use Rattle.flow_graph.specs.declared.graph.OpKind.{OpKind}
use Rattle.flow_graph.specs.declared.graph.OpKind.TheVariants as kind
use Rattle.flow_graph.specs.declared.graph.ArrayUse.{ArrayUse}
use Rattle.flow_graph.specs.declared.graph.Graph.{Graph}
use Rattle.flow_graph.specs.declared.nodes.Next.{Next}
use Rattle.flow_graph.specs.declared.nodes.Next.TheVariants as next
use Rattle.flow_graph.specs.declared.nodes.Node.{Node}
use Rattle.flow_graph.specs.declared.graph.Object as declared
use Rattle.flow_graph.specs.Operations.{Words, word_at, gives, passes}
use Rattle.flow_graph.specs.Nodes.{entry, graph_nodes, node_in}
use Rattle.flow_graph.specs.Flow.{Begin, flow}
use Rattle.flow_graph.specs.Rules.{IsGraph}
use Rattle.laid_code.specs.Flows.{Memory, Change, Turn, On, Away, Ends, Traps, Effect, Flow, behaves}
use Rattle.laid_code.specs.Obeying.{Obeys}

pub record Place : Type 0 where
  pub at : ℕ
  pub calls : List ℕ

-- ---- what an operation does

abbrev pub operand : Memory → Operand → ℕ
operand m (Const w) = w
operand m (Object o) = m o 0

abbrev pub changes : Option ℕ → ℕ → Option Change
changes None w = None
changes (Some o) w = Some (record { object = o; index = 0; value = w })

abbrev pub stops : Turn → Effect
stops turn = record { change = None; puts = None; takes = false; turn = turn }

abbrev pub worked : Option ℕ → Worked → Turn → Effect
worked dest (Gives w) turn = record { change = changes dest w; puts = None; takes = false; turn = turn }
worked dest (MeetsTrap t) turn = stops (Traps t)

abbrev pub at_element : Bool → Effect → Effect
at_element true e = e
at_element false e = stops (Traps index_trap)

-- an operation that isn't there, or an element of no array: no graph by the rules comes there
abbrev pub lost : Effect
lost = stops (Ends 0)

abbrev pub load : Option ArrayUse → Option ℕ → ℕ → Memory → Turn → Effect
load None dest i m turn = lost
load (Some array) dest i m turn = at_element (nat_lt i array.length) (record { change = changes dest (m array.object i); puts = None; takes = false; turn = turn })

abbrev pub store : Option ArrayUse → ℕ → ℕ → Turn → Effect
store None w i turn = lost
store (Some array) w i turn = at_element (nat_lt i array.length) (record { change = Some (record { object = array.object; index = i; value = w }); puts = None; takes = false; turn = turn })

abbrev pub effect_by : OpKind → Op → ℕ → ℕ → Memory → ℕ → Turn → Effect
effect_by kind.Load op a b m w turn = load op.array op.dest a m turn
effect_by kind.Store op a b m w turn = store op.array a b turn
effect_by kind.Input op a b m w turn = record { change = changes op.dest (w % 2 ^ 16); puts = None; takes = true; turn = turn }
effect_by kind.Output op a b m w turn = record { change = None; puts = Some a; takes = false; turn = turn }
effect_by kind.Finish op a b m w turn = stops (Ends a)
effect_by k op a b m w turn = worked op.dest (gives k a b) turn

-- A Go jumps, and a test that isn't passed; all others are followed by what stands behind them, or by a call's or return's own jump.
abbrev pub to_turn : OpKind → Turn
to_turn kind.Go = Away
to_turn _ = On

abbrev pub turn_by : OpKind → Next → Bool → Turn
turn_by k (next.To n) passed = to_turn k
turn_by k (next.Either n m) passed = if passed then On else Away
turn_by k (next.Into f n) passed = On
turn_by k next.Returns passed = On
turn_by k next.Ends passed = On

abbrev pub effect_on : Node → Memory → ℕ → ℕ → ℕ → Effect
effect_on x m w a b = effect_by x.op.kind x.op a b m w (turn_by x.op.kind x.next (passes x.op.kind a b))

abbrev pub effect_at : Option Node → Memory → ℕ → Effect
effect_at None m w = lost
effect_at (Some x) m w = effect_on x m w (operand m x.op.a) (operand m x.op.b)

-- ---- where it leads

abbrev pub returned : List ℕ → Place → Place
returned [] q = q
returned (n ∷ ns) q = record { at = n; calls = ns }

abbrev pub on_by : Graph → Next → Place → Place
on_by g (next.To n) q = record q { at = n }
on_by g (next.Either n m) q = record q { at = n }
on_by g (next.Into f n) q = record { at = entry g f; calls = n ∷ q.calls }
on_by g next.Returns q = returned q.calls q
on_by g next.Ends q = q

abbrev pub away_by : Next → Place → Place
away_by (next.To n) q = record q { at = n }
away_by (next.Either n m) q = record q { at = m }
away_by _ q = q

abbrev pub on_at : Graph → Option Node → Place → Place
on_at g None q = q
on_at g (Some x) q = on_by g x.next q

abbrev pub away_at : Option Node → Place → Place
away_at None q = q
away_at (Some x) q = away_by x.next q

-- the object that is written
abbrev pub array_object : Option ArrayUse → Option ℕ
array_object None = None
array_object (Some array) = Some array.object

abbrev pub target_by : OpKind → Op → Option ℕ
target_by kind.Store op = array_object op.array
target_by kind.Output op = None
target_by kind.Finish op = None
target_by _ op = op.dest

abbrev pub target_at : Option Node → Option ℕ
target_at None = None
target_at (Some x) = target_by x.op.kind x.op

abbrev pub flow_of : Graph → Flow Place
flow_of g = record {
  effect = λ q. effect_at (node_in (graph_nodes g) q.at);
  on = λ q. on_at g (node_in (graph_nodes g) q.at) q;
  away = λ q. away_at (node_in (graph_nodes g) q.at) q;
  target = λ q. target_at (node_in (graph_nodes g) q.at);
}

-- ---- it behaves as the graph does

abbrev pub begin : Graph → Place
begin g = record { at = entry g g.main; calls = [] }

abbrev pub GraphsAreFlows : Type 0
GraphsAreFlows = (g : Graph) (objects : Words) (input : List ℕ) → IsGraph g → Begin g.objects objects
    → (n : ℕ) → behaves Place (flow_of g) (begin g) (word_at objects) input n ≡ flow g objects input n

-- ---- and obeys

-- how many words an object has
abbrev pub size_of : Option declared.Object → ℕ
size_of None = 0
size_of (Some x) = x.words

abbrev pub sizes : Graph → ℕ → ℕ
sizes g o = size_of (slice_get g.objects o)

abbrev pub GraphsObey : Type 0
GraphsObey = (g : Graph) (input : List ℕ) → IsGraph g → Obeys Place (flow_of g) input (sizes g)
