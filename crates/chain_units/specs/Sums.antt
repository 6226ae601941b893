-- Uses in the order of their objects.
use Rattle.std.specs.Prelude.{ℕ, ◌≡◌, ◌<◌, ◌≤◌, List, [], ◌∷◌, length, take, get_or}
use Rattle.item_weights.specs.declared.uses.Use.{Use}
use Rattle.std.specs.List.{AllByRecursion}

abbrev pub no_use : Use
no_use = record { object = 0; reads = 0; writes = 0 }

-- all uses before it are of objects below, and the one there is not
pub record IsPlaceOf (uses : List Use) (object at : ℕ) : Type 0 where
  pub within : at ≤ length uses
  pub before : AllByRecursion (λ (u : Use). u.object < object) (take at uses)
  pub not_there : at < length uses → object ≤ (get_or uses at no_use).object

-- the use at a place is of an object
abbrev pub IsOf : List Use → ℕ → ℕ → Type 0
IsOf uses at object = (at < length uses) × ((get_or uses at no_use).object ≡ object)

-- the uses stand in the order of their objects, no two of which are the same
abbrev pub Above : ℕ → List Use → Type 0
Above n us = AllByRecursion (λ (u : Use). n < u.object) us

abbrev pub Rises : List Use → Type 0
Rises [] = Unit {0}
Rises (u ∷ us) = Above u.object us × Rises us
