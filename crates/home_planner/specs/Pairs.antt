-- Lists of pairs of words and cost.
use Rattle.std.specs.Prelude.{◌≡◌, ◌<◌, ◌≤◌, ◌+◌, ◌++◌, ℕ, List, [], ◌∷◌, ◌⊎◌, if◌then◌else◌, nat_lt, nat_le}
use Rattle.std.specs.List.{AllByRecursion}
use Rattle.home_planner.specs.declared.Pair.{Pair}
use Rattle.home_planner.specs.declared.Gain.{Gain}
use Rattle.home_planner.specs.Sets.{cost_of, words_of}

-- the words rise and the costs fall strictly along the list
abbrev pub Falls : List Pair → Type 0
Falls [] = Unit {0}
Falls (p ∷ ps) = AllByRecursion (λ q. (p.words < q.words) × (q.cost < p.cost)) ps × Falls ps

-- some pair has no more words and no more cost
abbrev pub Covers : List Pair → ℕ → ℕ → Type 0
Covers [] words cost = ⊥
Covers (p ∷ ps) words cost = ((p.words ≤ words) × (p.cost ≤ cost)) ⊎ Covers ps words cost

-- the pair is the words and the cost of some set in the room
abbrev pub IsOfSet : List Gain → ℕ → Pair → Type 0
IsOfSet gains room p = (homes : List ℕ) × (words_of gains homes ≡ p.words) × (cost_of gains homes ≡ p.cost) × (p.words ≤ room)

abbrev pub IsAmong : List Pair → Pair → Type 0
IsAmong [] p = ⊥
IsAmong (q ∷ qs) p = (p ≡ q) ⊎ IsAmong qs p

-- each pair with so many more words and so much more cost, where there is room for it
abbrev pub shifted_of : ℕ → ℕ → ℕ → List Pair → List Pair
shifted_of words cost room [] = []
shifted_of words cost room (p ∷ ps) =
    if nat_le (p.words + words) room
    then record { words = p.words + words; cost = p.cost + cost } ∷ shifted_of words cost room ps
    else shifted_of words cost room ps

-- the pair is no later than another in the order of words, then cost
abbrev pub IsNoLater : Pair → Pair → Type 0
IsNoLater p q = (p.words ≤ q.words) × (q.cost < p.cost → p.words < q.words)

abbrev pub IsFirst : Pair → List Pair → Type 0
IsFirst p [] = Unit {0}
IsFirst p (q ∷ qs) = IsNoLater p q

-- a pair that comes next in two lists, and what is left of them behind it
abbrev pub IsNext : List Pair → List Pair → Pair → List Pair → List Pair → Type 0
IsNext left right p left_rest right_rest =
    ((left ≡ p ∷ left_rest) × (right ≡ right_rest) × IsFirst p right_rest)
    ⊎ ((right ≡ p ∷ right_rest) × (left ≡ left_rest) × IsFirst p left_rest)

-- a pair is kept where it costs less than all before
abbrev pub kept_of : List Pair → ℕ → Pair → List Pair
kept_of kept top p = if nat_lt p.cost top then kept ++ p ∷ [] else kept

abbrev pub top_of : ℕ → Pair → ℕ
top_of top p = if nat_lt p.cost top then p.cost else top

-- the pairs of two lists that no other pair makes needless
pub record IsMerge (left right pairs : List Pair) : Type 0 where
  pub falls : Falls pairs
  pub from : AllByRecursion (λ p. IsAmong left p ⊎ IsAmong right p) pairs
  pub covers : (words cost : ℕ) → Covers left words cost ⊎ Covers right words cost → Covers pairs words cost
