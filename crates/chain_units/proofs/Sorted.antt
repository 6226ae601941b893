-- Uses that are added one by one stand in the order of their objects, no two of which are the same.
use Rattle.std.specs.Prelude.{if◌then◌else◌, map}
use Rattle.std.specs.List.{AllByRecursion, IsDistinct}
use Rattle.std.proofs.Common.{◌≡◌, ◌==◌, ◌⊎◌, ◌<◌, ℕ, Bool, true, false, List, [], ◌∷◌, inl, inr, sym, subst, arith}
use Rattle.std.proofs.lemmas.Bool.{cases_lt}
use Rattle.home_planner.specs.Sets.{is_in}
use Rattle.loop_checkpoints.specs.declared.LoopObject.{LoopObject}
use Rattle.loop_checkpoints.specs.Loops as loops
use Rattle.item_weights.specs.declared.uses.Use.{Use}
use Rattle.chain_units.specs.Known.{Known, with_use, with_uses}
use Rattle.chain_units.specs.Sums.{Above, Rises}
use Rattle.chain_units.specs.Costs.{free_uses, object_of}
use Rattle.chain_units.proofs.Adding.{use_before, use_behind, use_same}

order : (m n : ℕ) → (m < n) ⊎ ((m ≡ n) ⊎ (n < m))
order m n = elim (cases_lt m n) [ inl h ↦ inl h | inr h ↦ elim (cases_lt n m) [ inl g ↦ inr (inr g) | inr g ↦ inr (inl (omega arith)) ] ]

above_more : (n : ℕ) (us : List Use) (v : Use) → Above n us → n < v.object → Above n (with_use us v)
above_more n [] v above lt = (lt, tt)
above_more n (u ∷ us) v above lt =
    elim (order v.object u.object) [
      | inl h ↦ subst (λ (ws : List Use). Above n ws) (sym (use_before u v us h)) (lt, above)
      | inr r ↦ elim r [
        | inl h ↦ subst (λ (ws : List Use). Above n ws) (sym (use_same u v us (sym h))) above
        | inr h ↦ subst (λ (ws : List Use). Above n ws) (sym (use_behind u v us h)) (above.0, above_more n us v above.1 lt)
      ]
    ]

above_all : (m n : ℕ) (us : List Use) → m < n → Above n us → Above m us
above_all m n [] lt above = tt
above_all m n (u ∷ us) lt above = (omega (arith, above.0), above_all m n us lt above.1)

pub rises_more : (us : List Use) (v : Use) → Rises us → Rises (with_use us v)
rises_more [] v rises = (tt, tt)
rises_more (u ∷ us) v rises =
    elim (order v.object u.object) [
      | inl h ↦ subst (λ (ws : List Use). Rises ws) (sym (use_before u v us h)) ((h, above_all v.object u.object us h rises.0), rises)
      | inr r ↦ elim r [
        | inl h ↦ subst (λ (ws : List Use). Rises ws) (sym (use_same u v us (sym h))) rises
        | inr h ↦ subst (λ (ws : List Use). Rises ws) (sym (use_behind u v us h)) (above_more u.object us v rises.0 h, rises_more us v rises.1)
      ]
    ]

pub rises_all : (us vs : List Use) → Rises us → Rises (with_uses us vs)
rises_all us [] rises = rises
rises_all us (v ∷ vs) rises = rises_all (with_use us v) vs (rises_more us v rises)

-- ---- their objects differ

module _ (k : Known) (wanted_first wanted_behind : ℕ → Bool) (barred : List ℕ) where
  abbrev objects_in : List Use → List LoopObject
  objects_in us = map (object_of k wanted_first wanted_behind) (free_uses barred us)

  apart : (n : ℕ) (us : List Use) → Above n us → AllByRecursion (λ o. (n == o) ≡ false) (loops.objects (objects_in us))
  apart n [] above = tt
  apart n (u ∷ us) above = by_test (is_in barred u.object) (apart n us above.1)
    where
      by_test : (t : Bool) → AllByRecursion (λ o. (n == o) ≡ false) (loops.objects (objects_in us))
          → AllByRecursion (λ o. (n == o) ≡ false) (loops.objects (map (object_of k wanted_first wanted_behind) (if t then free_uses barred us else u ∷ free_uses barred us)))
      by_test true all = all
      by_test false all = let lt : n < u.object = above.0 in (grind (arith, lt), all)

  pub objects_differ : (us : List Use) → Rises us → loops.Differ (objects_in us)
  unfolding IsDistinct
  objects_differ [] rises = tt
  objects_differ (u ∷ us) rises = by_test (is_in barred u.object) (objects_differ us rises.1)
    where
      by_test : (t : Bool) → loops.Differ (objects_in us) → loops.Differ (map (object_of k wanted_first wanted_behind) (if t then free_uses barred us else u ∷ free_uses barred us))
      by_test true differ = differ
      by_test false differ = (apart u.object us rises.0, differ)
