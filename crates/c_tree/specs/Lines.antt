-- The text in which words are said.
use Rattle.std.specs.Prelude.{◌≡◌, ℕ, List, [], ◌∷◌, ◌++◌, Option, Some, None, codes, decimal}

-- the line of a word
abbrev pub line : ℕ → List ℕ
line w = codes "out " ++ decimal w ++ codes "\n"

abbrev pub lines : List ℕ → List ℕ
lines [] = []
lines (w ∷ ws) = line w ++ lines ws

-- what a sink has taken, where it tells that, and its count of faults
pub record Seen : Type 0 where
  pub taken : Option (List ℕ)
  pub faults : ℕ

abbrev pub seen : Option (List ℕ) → ℕ → Seen
seen taken faults = record { taken = taken; faults = faults }

-- these bytes were added, where the sink tells its bytes
abbrev pub Took : Option (List ℕ) → Option (List ℕ) → List ℕ → Type 0
Took None None bytes = Unit {0}
Took (Some a) (Some b) bytes = b ≡ a ++ bytes
Took None (Some b) bytes = ⊥
Took (Some a) None bytes = ⊥
