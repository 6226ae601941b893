-- Where the operations of a number come from, and where functions stand among those reached.
use Rattle.std.proofs.Common.{◌≡◌, ℕ, ◌+◌, refl, Bool, true, false, List, [], ◌∷◌, ◌++◌, Option, Some, None}
use Rattle.std.specs.Prelude.{◌==◌, if◌then◌else◌}
use Rattle.base_io.specs.declared.place.Place.{Place}
use Rattle.flow_graph.specs.declared.nodes.Node.{Node}
use Rattle.flow_graph.specs.Nodes.{node_in}
use Rattle.lowered_graphs.specs.GraphOf.{places_from}
use Rattle.c_lower.specs.Lowering.{place_at, is_place}

pub places_more : (m : Bool) (ms : List Bool) (k : ℕ) → places_from (m ∷ ms) k ≡ k ∷ places_from ms (if m then k + 1 else k)
places_more true ms k = refl
places_more false ms k = refl

place_by : (b : Bool) (x : Node) (found whole : Option Node) (at : Place) → (is_place found at → at ≡ place_at whole) → is_place (if b then Some x else found) at → at ≡ place_at (if b then Some x else whole)
place_by true x found whole at f h = h
place_by false x found whole at f h = f h

-- an operation that is found among the first
pub place_here : (xs ys : List Node) (n : ℕ) (at : Place) → is_place (node_in xs n) at → at ≡ place_at (node_in (xs ++ ys) n)
place_here [] ys n at h = absurd h
place_here (x ∷ xs) ys n at h = place_by (x.op.number == n) x (node_in xs n) (node_in (xs ++ ys) n) at (place_here xs ys n at) h

none_by : (b : Bool) (x : Node) (found whole rest : Option Node) → (found ≡ None → whole ≡ rest) → (if b then Some x else found) ≡ None → (if b then Some x else whole) ≡ rest
none_by true x found whole rest f h = cc
none_by false x found whole rest f h = f h

-- an operation that isn't
pub place_behind : (xs ys : List Node) (n : ℕ) → node_in xs n ≡ None → node_in (xs ++ ys) n ≡ node_in ys n
place_behind [] ys n h = refl
place_behind (x ∷ xs) ys n h = none_by (x.op.number == n) x (node_in xs n) (node_in (xs ++ ys) n) (node_in ys n) (place_behind xs ys n) h
