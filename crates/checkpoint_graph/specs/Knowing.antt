-- What is known of a graph on a board, from its liveness and the summaries of its functions.
use Rattle.std.specs.Prelude.{ℕ, zero, suc, ◌≡◌, ◌+◌, ◌==◌, ◌&&◌, Bool, true, false, nat_lt, if◌then◌else◌, MatchOption, Option, Some, None, List, [], ◌∷◌, ◌++◌, length, slice_get, slice_index_or}
use Rattle.std.specs.List.{list_any}
use Rattle.board_table.specs.declared.board.Board.{Board}
use Rattle.flow_graph.specs.declared.graph.ArrayUse.{ArrayUse}
use Rattle.flow_graph.specs.declared.graph.Graph.{Graph}
use Rattle.flow_graph.specs.declared.graph.Item.{Item}
use Rattle.flow_graph.specs.declared.graph.Item.TheOpen.{Item-F}
use Rattle.flow_graph.specs.declared.owned.Owned.{Owned}
use Rattle.flow_graph.specs.Owned.{operations}
use Rattle.live_objects.specs.declared.liveness.Liveness.{Liveness}
use Rattle.live_objects.specs.Rows.{told_after, told_before}
use Rattle.item_weights.specs.declared.uses.Use.{Use}
use Rattle.item_weights.specs.declared.uses.Weights.{Weights}
use Rattle.item_weights.specs.Weights.{Weight, items_weight, kept}
use Rattle.op_cost.specs.Weights.{overhead}
use Rattle.board_weights.specs.OnBoard.{own}
use Rattle.call_summary.specs.declared.telling.Summary.{Summary}
use Rattle.call_summary.specs.declared.telling.Summary.TheVariants.{Flat, Split}
use Rattle.call_summary.specs.Summaries.{costs_in}
use Rattle.chain_units.specs.Known.{Known, Weighs, told_weights}
use Rattle.chain_units.specs.Costs.{touched_in_all}
use Rattle.checkpoint_graph.specs.declared.known.GraphOnBoard.{GraphOnBoard}

-- ---- weights

-- an object's use where it has one
abbrev pub use_of : ℕ → ℕ → ℕ → List Use
use_of object reads writes = if reads + writes == 0 then [] else record { object = object; reads = reads; writes = writes } ∷ []

-- the uses of so many objects from a number on
abbrev pub uses_from : Weight → ℕ → ℕ → List Use
uses_from w object zero = []
uses_from w object (suc n) = use_of object (kept (w.reads object)) (kept (w.writes object)) ++ uses_from w (suc object) n

-- a weight over so many objects, as it is told: each number stops at 2^63
abbrev pub told : ℕ → Weight → Weighs
told objects w = record { base = kept w.base; uses = uses_from w 0 objects }

abbrev pub told_option : ℕ → Option Weight → Option Weighs
told_option objects None = None
told_option objects (Some w) = Some (told objects w)

-- ---- objects and functions

abbrev pub names : Option ArrayUse → ℕ → Bool
names None object = false
names (Some a) object = a.object == object

-- an object of the graph is an array where some load or store names it
abbrev pub some_names : List Owned → ℕ → Bool
some_names ops object = list_any (λ (x : Owned). names x.node.op.array object) ops

abbrev pub is_array : Graph → ℕ → Bool
is_array g object = nat_lt object (length g.objects) && some_names (operations g) object

abbrev pub is_flat_in : Option Summary → Bool
is_flat_in None = false
is_flat_in (Some (Flat cost touched)) = true
is_flat_in (Some Split) = false

abbrev pub touched_in_one : Option Summary → List ℕ
touched_in_one None = []
touched_in_one (Some (Flat cost touched)) = touched.items
touched_in_one (Some Split) = []

-- ---- all together

-- by what flat functions cost, which objects are arrays, and the number of objects
abbrev pub known_by : Graph → Liveness → List Summary → Board → List (Option ℕ) → (ℕ → Bool) → ℕ → Known
known_by g live summaries b costs arrays objects = record {
  graph = g;
  board = b;
  weights = λ items. told_option objects (items_weight (own b) costs items);
  is_flat = λ f. is_flat_in (slice_get summaries f);
  touched = λ f. touched_in_one (slice_get summaries f);
  is_array = arrays;
  before = told_before live;
  after = told_after live;
  overhead = overhead b;
}

abbrev pub known : Graph → Liveness → List Summary → Board → Known
known g live summaries b = known_by g live summaries b (costs_in summaries) (is_array g) (length g.objects)

-- ---- as the code holds it

abbrev pub known_of : GraphOnBoard → Known
known_of on = known_by on.graph.now on.live.now on.summaries.now on.board on.costs.now (λ o. slice_index_or on.arrays.now o false) on.objects

-- weights where there is a weight, none where there is none
abbrev pub IsTold : ℕ → Option Weight → Option Weights → Type 0
IsTold objects o found = MatchOption found (told_option objects o ≡ None) (λ w. told_option objects o ≡ Some (told_weights w))

-- the objects that flat functions called in an item touch, by the item's parts
abbrev pub touched_parts : Known → Item-F Item → List ℕ
touched_parts k (Item-F.One op) = []
touched_parts k (Item-F.Branch test a b) = touched_in_all k a ++ touched_in_all k b
touched_parts k (Item-F.Loop pre test post step back count) = touched_in_all k pre ++ (touched_in_all k post ++ touched_in_all k step)
touched_parts k (Item-F.Switch items) = touched_in_all k items
touched_parts k (Item-F.CallTo op f) = if k.is_flat f then k.touched f else []
touched_parts k (Item-F.Leave op to) = []
