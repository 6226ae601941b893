-- What a caller has to know of each function: what it costs and which objects it touches where it is flat.
use Rattle.std.specs.Prelude.{ℕ, ◌≡◌, ◌<◌, ◌↔◌, ⊤, true, Bool, Option, Some, None, List, [], ◌∷◌, length, slice_get, Vec}
use Rattle.std.specs.List.{Contains}
use Rattle.std.specs.List.Sorted.{IsStrictlyIncreasing}
use Rattle.std.specs.declared.alloc.Global.{Global}
use Rattle.flow_graph.specs.declared.graph.Graph.{Graph}
use Rattle.touched_objects.specs.Touched.{Touches}
use Rattle.touched_objects.specs.Tables.{marked_at}
use Rattle.call_summary.specs.declared.telling.Summary.{Summary}
use Rattle.call_summary.specs.declared.telling.Summary.TheVariants.{Flat, Split}

-- exactly these numbers, rising
pub record AreThose (has : ℕ → Type 0) (numbers : List ℕ) : Type 0 where
  pub rising : IsStrictlyIncreasing numbers
  pub exactly : (o : ℕ) → Contains numbers o ↔ has o

-- of the first so many objects those that a table marks for a function
abbrev pub AreMarked : List (Vec Bool Global) → ℕ → ℕ → List ℕ → Type 0
AreMarked rows f n objects = AreThose (λ o. (o < n) × (marked_at rows o f ≡ true)) objects

-- the objects of the graph that a function, or one called from it, reads or writes
abbrev pub AreTouched : Graph → ℕ → List ℕ → Type 0
AreTouched g f objects = AreThose (λ o. (o < length g.objects) × Touches g f o) objects

abbrev pub TellsTouched : Graph → ℕ → Summary → Type 0
TellsTouched g f (Flat cost touched) = AreTouched g f touched.items
TellsTouched g f Split = ⊤

-- each flat one of these functions tells them
abbrev pub TellTouched : Graph → List Summary → Type 0
TellTouched g summaries = (f : ℕ) (summary : Summary) → slice_get summaries f ≡ Some summary → TellsTouched g f summary

abbrev pub cost_in : Summary → Option ℕ
cost_in (Flat cost touched) = Some cost
cost_in Split = None

-- what the flat ones cost
abbrev pub costs_in : List Summary → List (Option ℕ)
costs_in [] = []
costs_in (summary ∷ summaries) = cost_in summary ∷ costs_in summaries
