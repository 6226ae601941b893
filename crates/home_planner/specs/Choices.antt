-- Choices: a set told by a yes or a no for each gain, in the order of the gains. What is not told is a no.
use Rattle.std.specs.Prelude.{◌≡◌, ◌≤◌, ◌+◌, ◌^◌, ◌-◌, ◌++◌, ℕ, Bool, false, List, [], ◌∷◌, if◌then◌else◌, nat_le, nat_lt, min, Vec}
use Rattle.std.specs.List.{AllByRecursion}
use Rattle.std.specs.declared.alloc.Global.{Global}
use Rattle.home_planner.specs.declared.Pair.{Pair}
use Rattle.home_planner.specs.declared.Gain.{Gain}
use Rattle.home_planner.specs.Pairs.{Covers, Falls}

abbrev pub first : List Bool → Bool
first [] = false
first (c ∷ cs) = c

abbrev pub rest : List Bool → List Bool
rest [] = []
rest (c ∷ cs) = cs

abbrev pub words_by : List Gain → List Bool → ℕ
words_by [] choice = 0
words_by (g ∷ gs) choice = (if first choice then g.words else 0) + words_by gs (rest choice)

abbrev pub cost_by : List Gain → List Bool → ℕ
cost_by [] choice = 0
cost_by (g ∷ gs) choice = (if first choice then g.sram else g.fram) + cost_by gs (rest choice)

abbrev pub objects_by : List Gain → List Bool → List ℕ
objects_by [] choice = []
objects_by (g ∷ gs) choice = if first choice then g.object ∷ objects_by gs (rest choice) else objects_by gs (rest choice)

-- the pair is the words and the cost of some choice in the room
abbrev pub IsOfChoice : List Gain → ℕ → Pair → Type 0
IsOfChoice gains room p = (choice : List Bool) × (words_by gains choice ≡ p.words) × (cost_by gains choice ≡ p.cost) × (p.words ≤ room)

-- the undominated pairs of all choices in the room
pub record IsFrontier (gains : List Gain) (room : ℕ) (pairs : List Pair) : Type 0 where
  pub falls : Falls pairs
  pub choices : AllByRecursion (IsOfChoice gains room) pairs
  pub covers : (choice : List Bool) → words_by gains choice ≤ room → Covers pairs (words_by gains choice) (cost_by gains choice)

-- for each gain the pairs of the gains behind it
abbrev pub AreLayers : List Gain → ℕ → List (Vec Pair Global) → Type 0
AreLayers [] room layers = Unit {0}
AreLayers (g ∷ gs) room [] = ⊥
AreLayers (g ∷ gs) room (pairs ∷ layers) = IsFrontier gs room pairs.items × AreLayers gs room layers

-- the least cost of the pairs in a room
abbrev pub least_of : ℕ → List Pair → ℕ
least_of room [] = 2 ^ 63
least_of room (p ∷ ps) = if nat_le p.words room then min p.cost (least_of room ps) else least_of room ps

-- whether the first object is better kept in SRAM, by the pairs of the gains behind it
abbrev pub better_in : Gain → ℕ → List Pair → Bool
better_in g room pairs = if nat_le g.words room then nat_lt (g.sram + least_of (room - g.words) pairs) (g.fram + least_of room pairs) else false

-- some choice in the room costs so much and is of these objects, and none costs less
abbrev pub IsBestChoice : List Gain → ℕ → List ℕ → ℕ → Type 0
IsBestChoice gains room homes cost =
    ((choice : List Bool) × (words_by gains choice ≤ room) × (cost_by gains choice ≡ cost) × (objects_by gains choice ≡ homes))
    × ((choice : List Bool) → words_by gains choice ≤ room → cost ≤ cost_by gains choice)

-- one object is settled: the objects chosen, the cost and the room left, before and after
abbrev pub Settles : Gain → List Pair → List ℕ → ℕ → ℕ → List ℕ → ℕ → ℕ → Type 0
Settles g pairs homes cost left homes' cost' left' =
    (homes' ≡ (if better_in g left pairs then homes ++ g.object ∷ [] else homes))
    × (cost' ≡ cost + (if better_in g left pairs then g.sram else g.fram))
    × (left' ≡ left - (if better_in g left pairs then g.words else 0))

-- some choice in the room costs so much, and none less
abbrev pub IsLeastChoice : List Gain → ℕ → ℕ → Type 0
IsLeastChoice gains room cost =
    ((choice : List Bool) × (words_by gains choice ≤ room) × (cost_by gains choice ≡ cost)) × ((choice : List Bool) → words_by gains choice ≤ room → cost ≤ cost_by gains choice)

-- the lesser of an object's costs, with the words of SRAM that it then takes
abbrev pub lesser_by : Bool → Gain → Pair
lesser_by t g = if t then record { words = g.words; cost = g.sram } else record { words = 0; cost = g.fram }

abbrev pub lesser_of : Gain → Pair
lesser_of g = lesser_by (nat_lt g.sram g.fram) g

-- some choice in the room costs so much, and none costs less, whatever its words
abbrev pub IsLowestChoice : List Gain → ℕ → ℕ → Type 0
IsLowestChoice gains room cost = ((choice : List Bool) × (words_by gains choice ≤ room) × (cost_by gains choice ≡ cost)) × ((choice : List Bool) → cost ≤ cost_by gains choice)
