-- A table of the functions that touch each object.
use Rattle.std.specs.Prelude.{ℕ, ◌≡◌, ◌<◌, ◌↔◌, Bool, true, false, Option, None, Some, List, [], ◌∷◌, length, slice_get, slice_index_or, if◌then◌else◌, Vec}
use Rattle.std.specs.declared.alloc.Global.{Global}
use Rattle.graph_paths.specs.declared.Role.{Role}
use Rattle.graph_paths.specs.declared.Role.TheVariants.{Goal, Open}
use Rattle.flow_graph.specs.declared.owned.Owned.{Owned}
use Rattle.touched_objects.specs.Touched.{TouchesAmong}

abbrev pub role_by : Bool → Role
role_by named = if named then Goal else Open

abbrev pub roles_by : List Bool → List Role
roles_by [] = []
roles_by (b ∷ bs) = role_by b ∷ roles_by bs

abbrev pub marked : Option (Vec Bool Global) → ℕ → Bool
marked None f = false
marked (Some row) f = slice_index_or row.items f false

abbrev pub marked_at : List (Vec Bool Global) → ℕ → ℕ → Bool
marked_at rows o f = marked (slice_get rows o) f

-- of the functions, of which there are so many, just those that touch the object are marked
abbrev pub IsRowOf : List Owned → ℕ → ℕ → List Bool → Type 0
IsRowOf ops count o row = (f : ℕ) → f < count → (slice_index_or row f false ≡ true) ↔ TouchesAmong ops count f o

pub record AreRowsOf (ops : List Owned) (count objects : ℕ) (rows : List (Vec Bool Global)) : Type 0 where
  pub so_many : length rows ≡ objects
  pub each : (o : ℕ) → o < objects → (f : ℕ) → f < count → (marked_at rows o f ≡ true) ↔ TouchesAmong ops count f o
