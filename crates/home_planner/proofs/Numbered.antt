-- Gains whose objects are numbered.
use Rattle.std.specs.Prelude.{length}
use Rattle.std.proofs.Common.{◌≡◌, ◌==◌, ◌<◌, ◌≤◌, ◌+◌, ◌*◌, ◌++◌, ℕ, false, List, [], ◌∷◌, sym, ap, subst, arith}
use Rattle.std.specs.List.{AllByRecursion, IsDistinct}
use Rattle.home_planner.specs.declared.Gain.{Gain}
use Rattle.home_planner.specs.Sets.{Differ, all_costs, objects}

-- the objects are n, n + 1 and so on
abbrev pub IsNumbered : ℕ → List Gain → Type 0
IsNumbered n [] = Unit {0}
IsNumbered n (g ∷ gs) = (g.object ≡ n) × IsNumbered (n + 1) gs

pub numbered_push : (n : ℕ) (gs : List Gain) (g : Gain) → IsNumbered n gs → g.object ≡ n + length gs → IsNumbered n (gs ++ g ∷ [])
numbered_push n [] g numbered e = (omega arith, tt)
numbered_push n (h ∷ gs) g numbered e = (numbered.0, numbered_push (n + 1) gs g numbered.1 (omega arith))

others : (m n : ℕ) (gs : List Gain) → m < n → IsNumbered n gs → AllByRecursion (λ o. (m == o) ≡ false) (objects gs)
others m n [] lt numbered = tt
others m n (g ∷ gs) lt numbered = let apart : m < g.object = omega arith in (grind (arith, apart), others m (n + 1) gs (omega arith) numbered.1)

pub numbered_differ : (n : ℕ) (gs : List Gain) → IsNumbered n gs → Differ gs
unfolding IsDistinct
numbered_differ n [] numbered = tt
numbered_differ n (g ∷ gs) numbered = (others g.object (n + 1) gs (omega arith) numbered.1, numbered_differ (n + 1) gs numbered.1)

pub all_costs-push : (gs : List Gain) (g : Gain) → all_costs (gs ++ g ∷ []) ≡ all_costs gs + (g.fram + g.sram)
all_costs-push [] g = omega arith
all_costs-push (h ∷ gs) g = omega (arith, all_costs-push gs g)

pub numbered_more : (gs gs' : List Gain) (g : Gain) → IsNumbered 0 gs → g.object ≡ length gs → gs' ≡ gs ++ g ∷ [] → IsNumbered 0 gs'
numbered_more gs gs' g numbered e f = subst (λ (hs : List Gain). IsNumbered 0 hs) (sym f) (numbered_push 0 gs g numbered (omega arith))

pub costs_more : (gs gs' : List Gain) (g : Gain) (n : ℕ) → all_costs gs ≤ n * 131070 → g.fram + g.sram ≤ 131070 → gs' ≡ gs ++ g ∷ [] → all_costs gs' ≤ (n + 1) * 131070
costs_more gs gs' g n le le' f = let e = ap all_costs f in omega (arith, e, all_costs-push gs g)
