-- A table of the places at which each object is live.
use Rattle.std.specs.Prelude.{ℕ, ◌≡◌, ◌+◌, ◌<◌, ◌++◌, ◌↔◌, ◌||◌, Bool, true, false, nat_lt, if◌then◌else◌, Option, None, Some, List, length, replicate, slice_get, slice_index_or, Vec}
use Rattle.std.specs.declared.alloc.Global.{Global}
use Rattle.flow_graph.specs.declared.graph.Graph.{Graph}
use Rattle.flow_graph.specs.declared.nodes.Next.{Next}
use Rattle.flow_graph.specs.declared.nodes.Next.TheVariants.{To, Either, Into, Returns, Ends}
use Rattle.flow_graph.specs.declared.owned.Owned.{Owned}
use Rattle.live_objects.specs.declared.liveness.Liveness.{Liveness}
use Rattle.flow_graph.specs.Owned.{IsBehindCall, operations}
use Rattle.live_objects.specs.Live.{IsLiveBefore}
use Rattle.live_objects.specs.GraphArcs.{arcs_from, entries, roles_by}
use Rattle.graph_paths.specs.declared.Role.{Role}
use Rattle.graph_paths.specs.declared.Role.TheVariants.{Open}
use Rattle.graph_paths.specs.Paths.{Reaches}
use Rattle.graph_paths.specs.Arcs.{IsGrouped}

-- an object is live at the end of a function where it is live behind some call of it
pub record IsLiveBehind (g : Graph) (f o : ℕ) : Type 0 where
  pub behind : ℕ
  pub follows : IsBehindCall (operations g) f behind
  pub live : IsLiveBefore g behind o

-- whether a place is marked for an object
abbrev pub marked : Option (Vec Bool Global) → ℕ → Bool
marked None i = false
marked (Some row) i = slice_index_or row.items i false

abbrev pub live_at : List (Vec Bool Global) → ℕ → ℕ → Bool
live_at rows o i = marked (slice_get rows o) i

-- whether an object is marked at an operation, if there is one of this number
abbrev pub marked_at : List (Vec Bool Global) → ℕ → ℕ → ℕ → Bool
marked_at rows count o i = if nat_lt i count then live_at rows o i else false

-- whether it is marked where control may go from an operation of function f
abbrev pub marked_behind : List (Vec Bool Global) → ℕ → List ℕ → ℕ → Next → ℕ → Bool
marked_behind rows count entries f (To n) o = marked_at rows count o n
marked_behind rows count entries f (Either n m) o = marked_at rows count o n || marked_at rows count o m
marked_behind rows count entries f (Into c n) o = marked_at rows count o (slice_index_or entries c 0)
marked_behind rows count entries f Returns o = live_at rows o (count + f)
marked_behind rows count entries f Ends o = false

-- the roles of all places for an object
abbrev pub place_roles : ℕ → List Owned → ℕ → List Role
place_roles o ops functions = roles_by o ops ++ replicate functions Open

-- a row for each of so many objects, which marks the places that reach a goal
pub record AreRows (before : List (Vec ℕ Global)) (ops : List Owned) (functions objects : ℕ) (rows : List (Vec Bool Global)) : Type 0 where
  pub so_many : length rows ≡ objects
  pub reach : (o : ℕ) → o < objects → (i : ℕ) → (live_at rows o i ≡ true) ↔ Reaches before (place_roles o ops functions) i

-- the rows of so many objects
pub record IsTable (ops : List Owned) (entries : List ℕ) (objects : ℕ) (rows : List (Vec Bool Global)) : Type 0 where
  pub before : List (Vec ℕ Global)
  pub grouped : IsGrouped (length ops + length entries) (arcs_from (length ops) entries 0 ops) before
  pub rows_are : AreRows before ops (length entries) objects rows

-- the places at which an object is live
pub record IsRow (g : Graph) (o : ℕ) (row : ℕ → Bool) : Type 0 where
  pub before : (i : ℕ) → i < length (operations g) → (row i ≡ true) ↔ IsLiveBefore g i o
  pub behind : (f : ℕ) → f < length g.functions → (row (length (operations g) + f) ≡ true) ↔ IsLiveBehind g f o

pub record IsLivenessOf (l : Liveness) (g : Graph) : Type 0 where
  pub operations : l.operations.items ≡ operations g
  pub entries : l.entries.items ≡ entries g.functions
  pub rows : (o : ℕ) → o < length g.objects → IsRow g o (live_at l.rows.items o)

-- ---- as they are told

-- whether an object is marked behind an operation, if there is one
abbrev pub marked_behind_in : List (Vec Bool Global) → ℕ → List ℕ → Option Owned → ℕ → Bool
marked_behind_in rows count entries None o = false
marked_behind_in rows count entries (Some x) o = marked_behind rows count entries x.function x.node.next o

abbrev pub told_before : Liveness → ℕ → ℕ → Bool
told_before l i o = live_at l.rows.items o i

abbrev pub told_after : Liveness → ℕ → ℕ → Bool
told_after l i o = marked_behind_in l.rows.items (length l.operations.items) l.entries.items (slice_get l.operations.items i) o
