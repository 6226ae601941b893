-- Sets of objects that are kept in SRAM: their words, their costs, and which of them is best.
use Rattle.std.specs.Prelude.{◌≡◌, ◌==◌, ◌≤◌, ◌+◌, ℕ, Bool, List, [], ◌∷◌, if◌then◌else◌}
use Rattle.std.specs.List.{IsDistinct, list_any}
use Rattle.home_planner.specs.declared.Gain.{Gain}

-- whether an object is in a set, which is told as a list of objects
abbrev pub is_in : List ℕ → ℕ → Bool
is_in homes object = list_any (λ home. object == home) homes

abbrev pub objects : List Gain → List ℕ
objects [] = []
objects (g ∷ gs) = g.object ∷ objects gs

-- no two gains are of one object
abbrev pub Differ : List Gain → Type 0
Differ gains = IsDistinct (λ a b. a == b) (objects gains)

-- the words of SRAM that a set takes
abbrev pub words_of : List Gain → List ℕ → ℕ
words_of [] homes = 0
words_of (g ∷ gs) homes = (if is_in homes g.object then g.words else 0) + words_of gs homes

-- what a set costs: the objects in it at their SRAM costs, the others at their FRAM costs
abbrev pub cost_of : List Gain → List ℕ → ℕ
cost_of [] homes = 0
cost_of (g ∷ gs) homes = (if is_in homes g.object then g.sram else g.fram) + cost_of gs homes

-- all costs together, those in SRAM and those in FRAM
abbrev pub all_costs : List Gain → ℕ
all_costs [] = 0
all_costs (g ∷ gs) = (g.fram + g.sram) + all_costs gs

-- every set in the room costs at least so much
abbrev pub NoneBelow : List Gain → ℕ → ℕ → Type 0
NoneBelow gains room cost = (homes : List ℕ) → words_of gains homes ≤ room → cost ≤ cost_of gains homes

-- some set in the room costs so much, and none less
abbrev pub IsLeast : List Gain → ℕ → ℕ → Type 0
IsLeast gains room cost = ((homes : List ℕ) × (words_of gains homes ≤ room) × (cost_of gains homes ≡ cost)) × NoneBelow gains room cost
