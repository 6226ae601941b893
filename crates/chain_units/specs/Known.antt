-- What planning knows of a graph and of the layers below.
use Rattle.std.specs.Prelude.{ℕ, ◌==◌, ◌+◌, ◌*◌, nat_lt, if◌then◌else◌, Bool, Option, Some, None, List, [], ◌∷◌, slice_get}
use Rattle.board_table.specs.declared.board.Board.{Board}
use Rattle.flow_graph.specs.declared.graph.Item.{Item}
use Rattle.flow_graph.specs.declared.graph.Object.{Object}
use Rattle.flow_graph.specs.declared.graph.Graph.{Graph}
use Rattle.item_weights.specs.declared.uses.Use.{Use}
use Rattle.item_weights.specs.declared.uses.Weights.{Weights}
use Rattle.item_weights.specs.Weights.{kept}

-- the weights of items: what they spend wherever their objects live, and how they use their objects, in the order of these
pub record Weighs : Type 0 where
  pub base : ℕ
  pub uses : List Use

abbrev pub told_weights : Weights → Weighs
told_weights w = record { base = w.base; uses = w.uses.items }

-- A graph on a board, with what the layers below tell of it: the weights of items, where they have any; whether a function is flat, and which
-- objects it and its callees touch; which objects are arrays; which objects are live before and after an operation; what waking and sleeping cost together.
pub record Known : Type 0 where
  pub graph : Graph
  pub board : Board
  pub weights : List Item → Option Weighs
  pub is_flat : ℕ → Bool
  pub touched : ℕ → List ℕ
  pub is_array : ℕ → Bool
  pub before : ℕ → ℕ → Bool
  pub after : ℕ → ℕ → Bool
  pub overhead : ℕ

abbrev pub words_in : Option Object → ℕ
words_in None = 0
words_in (Some o) = o.words

abbrev pub object_words : Graph → ℕ → ℕ
object_words g object = words_in (slice_get g.objects object)

-- ---- what the uses of an object cost

abbrev pub fram_cost : Board → Use → ℕ
fram_cost b u = kept (u.reads * b.access.fram_read + u.writes * b.access.fram_write)

abbrev pub sram_cost : Board → Use → ℕ
sram_cost b u = kept (u.reads * b.access.sram_read + u.writes * b.access.sram_write)

abbrev pub all_fram : Board → List Use → ℕ
all_fram b [] = 0
all_fram b (u ∷ us) = fram_cost b u + all_fram b us

-- what items cost with all objects in FRAM
abbrev pub weight_in_fram : Board → Weighs → ℕ
weight_in_fram b w = w.base + all_fram b w.uses

-- ---- sums of weights

-- one use more, among those in the order of objects
abbrev pub with_use : List Use → Use → List Use
with_use [] v = v ∷ []
with_use (u ∷ us) v =
    if nat_lt v.object u.object
    then v ∷ u ∷ us
    else (if u.object == v.object then record { object = u.object; reads = kept (u.reads + v.reads); writes = kept (u.writes + v.writes) } ∷ us else u ∷ with_use us v)

abbrev pub with_uses : List Use → List Use → List Use
with_uses us [] = us
with_uses us (v ∷ vs) = with_uses (with_use us v) vs

abbrev pub both : Weighs → Weighs → Weighs
both w v = record { base = kept (w.base + v.base); uses = with_uses w.uses v.uses }

abbrev pub nothing : Weighs
nothing = record { base = 0; uses = [] }

abbrev pub or_nothing : Option Weighs → Weighs
or_nothing None = nothing
or_nothing (Some w) = w
