-- The costs of a loop: they never fall as the turns grow, and are the costs of gains where they are within the budget.
use Rattle.std.specs.Prelude.{if◌then◌else◌, length, min, MatchOption, Option, Some}
use Rattle.std.proofs.Common.{◌≡◌, ◌==◌, ◌<◌, ◌≤◌, ◌+◌, ◌*◌, ◌-◌, ◌^◌, ◌++◌, ◌||◌, ℕ, Bool, true, false, List, [], ◌∷◌, refl, sym, ap, ◌∙◌, subst, arith}
use Rattle.std.specs.List.{AllByRecursion, IsDistinct, list_any}
use Rattle.std.proofs.Math.Nat.{mul-le-mul_right}
use Rattle.std.proofs.lemmas.Map.Steps.{length-le_from_distinct_below}
use Rattle.home_planner.specs.declared.Gain.{Gain}
use Rattle.home_planner.specs.Sets as sets
use Rattle.loop_checkpoints.specs.declared.LoopObject.{LoopObject}
use Rattle.loop_checkpoints.specs.declared.LoopWeight.{LoopWeight}
use Rattle.loop_checkpoints.specs.Loops.{Differ, Fits, IsLeast, LeastNeverFalls, NoneBelow, NoneFits, cost_of, gain_of, gains_of, objects, objects_cost, words_of}
use Rattle.loop_checkpoints.specs.Plans.{IsBest}
use Rattle.std.specs.List.Sorted.{IsStrictlyIncreasing}

-- ---- more turns cost no less

one_rises : (t : Bool) (turns more fram sram moves : ℕ) → turns ≤ more → (if t then turns * sram + moves else turns * fram) ≤ (if t then more * sram + moves else more * fram)
one_rises true turns more fram sram moves le = omega (arith, mul-le-mul_right sram le)
one_rises false turns more fram sram moves le = mul-le-mul_right fram le

objects_cost-rises : (turns more : ℕ) (os : List LoopObject) (homes : List ℕ) → turns ≤ more → objects_cost turns os homes ≤ objects_cost more os homes
objects_cost-rises turns more [] homes le = omega arith
objects_cost-rises turns more (o ∷ os) homes le =
    omega (arith, one_rises (sets.is_in homes o.object) turns more o.fram o.sram o.moves le, objects_cost-rises turns more os homes le)

pub cost_of-rises : (w : LoopWeight) (turns more : ℕ) (homes : List ℕ) → turns ≤ more → cost_of w turns homes ≤ cost_of w more homes
cost_of-rises w turns more homes le = omega (arith, mul-le-mul_right w.base le, objects_cost-rises turns more w.objects.items homes le)

pub least_never_falls : LeastNeverFalls
least_never_falls w room turns more cost cost' le least least' =
    let (homes, words, costs) = least'.0 in
    omega (arith, least.1 homes words, cost_of-rises w turns more homes le)

pub none_fits_later : (w : LoopWeight) (room budget turns more : ℕ) → turns ≤ more → NoneFits w room budget turns → NoneFits w room budget more
none_fits_later w room budget turns more le none homes words = omega (arith, none homes words, cost_of-rises w turns more homes le)

-- ---- the gains of so many turns

words_of-gains_of : (turns budget : ℕ) (os : List LoopObject) (homes : List ℕ) → sets.words_of (gains_of turns budget os) homes ≡ words_of os homes
words_of-gains_of turns budget [] homes = refl
words_of-gains_of turns budget (o ∷ os) homes = ap (λ (n : ℕ). (if sets.is_in homes o.object then o.words else 0) + n) (words_of-gains_of turns budget os homes)

objects-gains_of : (turns budget : ℕ) (os : List LoopObject) → sets.objects (gains_of turns budget os) ≡ objects os
objects-gains_of turns budget [] = refl
objects-gains_of turns budget (o ∷ os) = ap (λ (xs : List ℕ). o.object ∷ xs) (objects-gains_of turns budget os)

pub gains_differ : (turns budget : ℕ) (os : List LoopObject) → Differ os → sets.Differ (gains_of turns budget os)
gains_differ turns budget os differ = subst (λ (xs : List ℕ). IsDistinct (λ a b. a == b) xs) (sym (objects-gains_of turns budget os)) differ

-- a capped cost is no more than the cost
one_capped : (t : Bool) (budget fram sram : ℕ) → (if t then min sram (budget + 1) else min fram (budget + 1)) ≤ (if t then sram else fram)
one_capped true budget fram sram = omega arith
one_capped false budget fram sram = omega arith

capped_le : (turns budget : ℕ) (os : List LoopObject) (homes : List ℕ) → sets.cost_of (gains_of turns budget os) homes ≤ objects_cost turns os homes
capped_le turns budget [] homes = omega arith
capped_le turns budget (o ∷ os) homes = omega (arith, one_capped (sets.is_in homes o.object) budget (turns * o.fram) (turns * o.sram + o.moves), capped_le turns budget os homes)

-- within the budget a capped cost is the cost
one_uncapped : (t : Bool) (budget fram sram : ℕ) → (if t then min sram (budget + 1) else min fram (budget + 1)) ≤ budget → (if t then sram else fram) ≤ (if t then min sram (budget + 1) else min fram (budget + 1))
one_uncapped true budget fram sram le = omega arith
one_uncapped false budget fram sram le = omega arith

uncapped_le : (turns budget : ℕ) (os : List LoopObject) (homes : List ℕ) → sets.cost_of (gains_of turns budget os) homes ≤ budget → objects_cost turns os homes ≤ sets.cost_of (gains_of turns budget os) homes
uncapped_le turns budget [] homes le = omega arith
uncapped_le turns budget (o ∷ os) homes le =
    omega (arith, one_uncapped (sets.is_in homes o.object) budget (turns * o.fram) (turns * o.sram + o.moves) (omega arith), uncapped_le turns budget os homes (omega arith))

pub uncapped : (turns budget : ℕ) (os : List LoopObject) (homes : List ℕ) → sets.cost_of (gains_of turns budget os) homes ≤ budget → objects_cost turns os homes ≡ sets.cost_of (gains_of turns budget os) homes
uncapped turns budget os homes le = omega (arith, uncapped_le turns budget os homes le, capped_le turns budget os homes)

-- ---- the least cost

-- the least over the gains is the least of the loop where that is within the budget, and above it none fits
pub least_within : (w : LoopWeight) (room budget turns least : ℕ) → sets.IsLeast (gains_of turns budget w.objects.items) room least → (w.fixed + turns * w.base) + least ≤ budget
    → IsLeast w room turns ((w.fixed + turns * w.base) + least)
least_within w room budget turns least ((homes, words, costs), bound) le =
    let os = w.objects.items in (
      (homes, omega (arith, words_of-gains_of turns budget os homes), omega (arith, uncapped turns budget os homes (omega arith))),
      λ others fits. omega (arith, bound others (omega (arith, words_of-gains_of turns budget os others)), capped_le turns budget os others),
    )

pub none_within : (w : LoopWeight) (room budget turns least : ℕ) → sets.NoneBelow (gains_of turns budget w.objects.items) room least → budget < (w.fixed + turns * w.base) + least → NoneFits w room budget turns
none_within w room budget turns least bound lt others fits =
    let os = w.objects.items in
    omega (arith, bound others (omega (arith, words_of-gains_of turns budget os others)), capped_le turns budget os others)

-- ---- the costs of the gains are small

below_by : (t : Bool) (q o limit : ℕ) (more : Bool) → (q == o) ≡ t → o < limit → (more ≡ true → q < limit) → (t || more) ≡ true → q < limit
below_by true q o limit more same lt into e = let eq : q ≡ o = grind (arith, same) in omega arith
below_by false q o limit more same lt into e = into e

below : (os : List ℕ) (limit : ℕ) → AllByRecursion (λ o. o < limit) os → (q : ℕ) → list_any (λ o. q == o) os ≡ true → q < limit
below [] limit all q e = absurd (cc)
below (o ∷ os) limit all q e = below_by (q == o) q o limit (list_any (λ x. q == x) os) refl all.0 (below os limit all.1 q) e

one_small : (turns budget : ℕ) (o : LoopObject) → (gain_of turns budget o).fram + (gain_of turns budget o).sram ≤ 2 * (budget + 1)
one_small turns budget o = omega arith

costs_by_length : (turns budget : ℕ) (os : List LoopObject) → sets.all_costs (gains_of turns budget os) ≤ length os * (2 * (budget + 1))
costs_by_length turns budget [] = omega arith
costs_by_length turns budget (o ∷ os) = omega (arith, one_small turns budget o, costs_by_length turns budget os)

length-objects : (os : List LoopObject) → length (objects os) ≡ length os
length-objects [] = refl
length-objects (o ∷ os) = omega (arith, length-objects os)

pub costs_small : (turns budget : ℕ) (os : List LoopObject) → Differ os → AllByRecursion (λ o. o < 2 ^ 32) (objects os) → budget ≤ 1000000000 → sets.all_costs (gains_of turns budget os) < 2 ^ 63
costs_small turns budget os differ all le =
    let few : length (objects os) ≤ 2 ^ 32 = length-le_from_distinct_below (objects os) (2 ^ 32) differ (λ q e. below (objects os) (2 ^ 32) all q e) in
    let n : length os ≤ 2 ^ 32 = omega (arith, length-objects os) in
    omega (arith, costs_by_length turns budget os, mul-le-mul_right (2 * (budget + 1)) n)

pub small_push : (gs gs' : List Gain) (g : Gain) (limit : ℕ) → AllByRecursion (λ o. o < limit) (sets.objects gs) → g.object < limit → gs' ≡ gs ++ g ∷ [] → AllByRecursion (λ o. o < limit) (sets.objects gs')
small_push gs gs' g limit all lt e = subst (λ (hs : List Gain). AllByRecursion (λ o. o < limit) (sets.objects hs)) (sym e) (push gs g limit all lt)
  where
    push : (gs : List Gain) (g : Gain) (limit : ℕ) → AllByRecursion (λ o. o < limit) (sets.objects gs) → g.object < limit → AllByRecursion (λ o. o < limit) (sets.objects (gs ++ g ∷ []))
    push [] g limit all lt = (lt, tt)
    push (h ∷ gs) g limit all lt = (all.0, push gs g limit all.1 lt)

pub gains_differ_are : (gs : List Gain) (turns budget : ℕ) (os : List LoopObject) → gs ≡ gains_of turns budget os → Differ os → sets.Differ gs
gains_differ_are gs turns budget os e differ = subst (λ (hs : List Gain). sets.Differ hs) (sym e) (gains_differ turns budget os differ)

pub gains_small : (gs : List Gain) (turns budget : ℕ) (os : List LoopObject) → gs ≡ gains_of turns budget os → Differ os → AllByRecursion (λ o. o < 2 ^ 32) (sets.objects gs) → budget ≤ 1000000000
    → sets.all_costs gs < 2 ^ 63
gains_small gs turns budget os e differ all le =
    subst (λ (hs : List Gain). sets.all_costs hs < 2 ^ 63) (sym e)
    (costs_small turns budget os differ
    (subst (λ (xs : List ℕ). AllByRecursion (λ o. o < 2 ^ 32) xs) (objects-gains_of turns budget os) (subst (λ (hs : List Gain). AllByRecursion (λ o. o < 2 ^ 32) (sets.objects hs)) e all)) le)

-- ---- the least cost

pub fits_from : (w : LoopWeight) (room budget turns cost : ℕ) (found : Option ℕ) → MatchOption found (NoneFits w room budget turns) (λ cost. IsLeast w room turns cost × (cost ≤ budget)) → found ≡ Some cost
    → Fits w room budget turns
fits_from w room budget turns cost found is e = from (subst (λ (o : Option ℕ). MatchOption o (NoneFits w room budget turns) (λ cost. IsLeast w room turns cost × (cost ≤ budget))) e is)
  where
    from : IsLeast w room turns cost × (cost ≤ budget) → Fits w room budget turns
    from (((homes, words, costs), bound), le) = (homes, words, omega arith)

pub fits_at : (w : LoopWeight) (room budget turns least total : ℕ) → sets.IsLeast (gains_of turns budget w.objects.items) room least → total ≡ min ((w.fixed + turns * w.base) + least) (2 ^ 64 - 1) → budget ≤ 1000000000
    → total ≤ budget → Fits w room budget turns
fits_at w room budget turns least total is e small le =
    let (homes, words, costs) = (least_within w room budget turns least is (omega arith)).0 in
    (homes, words, omega arith)

pub fits_not : (w : LoopWeight) (room budget turns least total : ℕ) → sets.IsLeast (gains_of turns budget w.objects.items) room least → total ≡ min ((w.fixed + turns * w.base) + least) (2 ^ 64 - 1)
    → budget < total → NoneFits w room budget turns
fits_not w room budget turns least total is e lt = none_within w room budget turns least is.1 (omega arith)

pub cost_is : (w : LoopWeight) (room budget turns least total : ℕ) → sets.IsLeast (gains_of turns budget w.objects.items) room least → total ≡ min ((w.fixed + turns * w.base) + least) (2 ^ 64 - 1) → budget ≤ 1000000000
    → total ≤ budget → IsLeast w room turns total × (total ≤ budget)
cost_is w room budget turns least total is e small le =
    (subst (λ (n : ℕ). IsLeast w room turns n) (omega arith) (least_within w room budget turns least is (omega arith)), le)

-- ---- the best homes

pub best_is : (w : LoopWeight) (room budget turns : ℕ) (gs hs : List Gain) (homes : List ℕ) (least total : ℕ) → Fits w room budget turns → budget ≤ 1000000000 → gs ≡ gains_of turns budget w.objects.items → hs ≡ gs
    → sets.words_of hs homes ≤ room → sets.cost_of hs homes ≡ least → sets.NoneBelow hs room least → ((o : ℕ) → sets.is_in homes o ≡ true → sets.is_in (sets.objects hs) o ≡ true) → IsStrictlyIncreasing homes
    → total ≡ min ((w.fixed + turns * w.base) + least) (2 ^ 64 - 1) → IsBest w room budget turns homes total
best_is w room budget turns gs hs homes least total (other, other_words, other_cost) small e f words costs bound of_gains up same =
    let os = w.objects.items in
    let h : hs ≡ gains_of turns budget os = f ∙ e in
    let bound' = subst (λ (ts : List Gain). sets.NoneBelow ts room least) h bound in
    let words' = subst (λ (ts : List Gain). sets.words_of ts homes ≤ room) h words in
    let costs' = subst (λ (ts : List Gain). sets.cost_of ts homes ≡ least) h costs in
    let of_gains' = subst (λ (ts : List Gain). (o : ℕ) → sets.is_in homes o ≡ true → sets.is_in (sets.objects ts) o ≡ true) h of_gains in
    let le : (w.fixed + turns * w.base) + least ≤ budget = omega (arith, bound' other (omega (arith, words_of-gains_of turns budget os other)), capped_le turns budget os other) in
    let whole = least_within w room budget turns least ((homes, words', costs'), bound') le in
    record {
      fits = omega (arith, words_of-gains_of turns budget os homes);
      costs = omega (arith, uncapped turns budget os homes (omega arith));
      within = omega arith;
      least = subst (λ (n : ℕ). NoneBelow w room turns n) (omega arith) whole.1;
      of_loop = λ o is. subst (λ (xs : List ℕ). sets.is_in xs o ≡ true) (objects-gains_of turns budget os) (of_gains' o is);
      ascending = up;
    }
