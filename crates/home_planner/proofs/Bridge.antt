-- Choices are sets where the objects differ.
use Rattle.std.specs.Prelude.{if◌then◌else◌, length, slice_get, IsSomeAnd}
use Rattle.std.proofs.Common.{◌≡◌, ◌==◌, ◌⊎◌, ◌<◌, ◌≤◌, ◌+◌, ◌-◌, ◌||◌, ℕ, suc, Bool, true, false, List, [], ◌∷◌, refl, sym, ap, ◌∙◌, subst, inl, inr, arith}
use Rattle.std.specs.List.{AllByRecursion, IsDistinct}
use Rattle.std.specs.List.Sorted.{IsPermutation, IsStrictlyIncreasing, IsNonDecreasing}
use Rattle.std.proofs.lemmas.List.Sorted.{list_any-IsPermutation}
use Rattle.std.proofs.lemmas.Cmp.{nat_eq_equiv}
use Rattle.std.proofs.lemmas.Map.Keys.{IsDistinct-IsPermutation, IsStrictlyIncreasing-from_distinct}
use Rattle.home_planner.specs.declared.Gain.{Gain}
use Rattle.home_planner.specs.declared.Pair.{Pair}
use Rattle.home_planner.specs.Sets.{Differ, IsLeast, NoneBelow, cost_of, is_in, objects, words_of}
use Rattle.home_planner.specs.Choices.{IsBestChoice, IsFrontier, IsLeastChoice, IsOfChoice, cost_by, first, objects_by, rest, words_by}
use Rattle.home_planner.specs.Pairs.{Covers, Falls, IsOfSet}
use Rattle.home_planner.proofs.Merging.{all_both, all_weaker}

-- ---- a set as a choice

choice_of : List Gain → List ℕ → List Bool
choice_of [] homes = []
choice_of (g ∷ gs) homes = is_in homes g.object ∷ choice_of gs homes

words_by-choice_of : (gs : List Gain) (homes : List ℕ) → words_by gs (choice_of gs homes) ≡ words_of gs homes
unfolding choice_of
words_by-choice_of [] homes = refl
words_by-choice_of (g ∷ gs) homes = ap (λ (n : ℕ). (if is_in homes g.object then g.words else 0) + n) (words_by-choice_of gs homes)

cost_by-choice_of : (gs : List Gain) (homes : List ℕ) → cost_by gs (choice_of gs homes) ≡ cost_of gs homes
unfolding choice_of
cost_by-choice_of [] homes = refl
cost_by-choice_of (g ∷ gs) homes = ap (λ (n : ℕ). (if is_in homes g.object then g.sram else g.fram) + n) (cost_by-choice_of gs homes)

-- ---- a choice as a set

abbrev Agrees : List Gain → List Bool → List ℕ → Type 0
Agrees [] choice homes = Unit {0}
Agrees (g ∷ gs) choice homes = (is_in homes g.object ≡ first choice) × Agrees gs (rest choice) homes

words_of-agrees : (gs : List Gain) (choice : List Bool) (homes : List ℕ) → Agrees gs choice homes → words_of gs homes ≡ words_by gs choice
words_of-agrees [] choice homes agrees = refl
words_of-agrees (g ∷ gs) choice homes agrees =
    ap (λ (b : Bool). (if b then g.words else 0) + words_of gs homes) agrees.0 ∙ ap (λ (n : ℕ). (if first choice then g.words else 0) + n) (words_of-agrees gs (rest choice) homes agrees.1)

cost_of-agrees : (gs : List Gain) (choice : List Bool) (homes : List ℕ) → Agrees gs choice homes → cost_of gs homes ≡ cost_by gs choice
cost_of-agrees [] choice homes agrees = refl
cost_of-agrees (g ∷ gs) choice homes agrees =
    ap (λ (b : Bool). (if b then g.sram else g.fram) + cost_of gs homes) agrees.0 ∙ ap (λ (n : ℕ). (if first choice then g.sram else g.fram) + n) (cost_of-agrees gs (rest choice) homes agrees.1)

abbrev IsOther : ℕ → ℕ → Type 0
IsOther x y = (x == y) ≡ false

or_right : (t : Bool) (b : Bool) → t ≡ false → (t || b) ≡ b
or_right true b e = absurd (cc)
or_right false b e = refl

or_left : (t : Bool) (b : Bool) → t ≡ true → (t || b) ≡ true
or_left true b e = refl
or_left false b e = absurd (cc)

flip : (x y : ℕ) → IsOther x y → IsOther y x
flip x y e = grind (arith, e)

itself : (x : ℕ) → (x == x) ≡ true
itself x = grind arith

agrees_wider : (x : ℕ) (gs : List Gain) (choice : List Bool) (homes : List ℕ) → AllByRecursion (IsOther x) (objects gs) → Agrees gs choice homes → Agrees gs choice (x ∷ homes)
agrees_wider x [] choice homes others agrees = tt
agrees_wider x (g ∷ gs) choice homes others agrees =
    (or_right (g.object == x) (is_in homes g.object) (flip x g.object others.0) ∙ agrees.0, agrees_wider x gs (rest choice) homes others.1 agrees.1)

missing_by : (b : Bool) (x o : ℕ) (homes : List ℕ) → IsOther x o → is_in homes x ≡ false → is_in (if b then o ∷ homes else homes) x ≡ false
missing_by true x o homes other e = or_right (x == o) (is_in homes x) other ∙ e
missing_by false x o homes other e = e

missing : (x : ℕ) (gs : List Gain) (choice : List Bool) → AllByRecursion (IsOther x) (objects gs) → is_in (objects_by gs choice) x ≡ false
missing x [] choice others = refl
missing x (g ∷ gs) choice others = missing_by (first choice) x g.object (objects_by gs (rest choice)) others.0 (missing x gs (rest choice) others.1)

agrees_by : (b : Bool) (g : Gain) (gs : List Gain) (tail : List Bool) (homes : List ℕ) → AllByRecursion (IsOther g.object) (objects gs) → is_in homes g.object ≡ false → Agrees gs tail homes
    → (is_in (if b then g.object ∷ homes else homes) g.object ≡ b) × Agrees gs tail (if b then g.object ∷ homes else homes)
agrees_by true g gs tail homes others none agrees = (or_left (g.object == g.object) (is_in homes g.object) (itself g.object), agrees_wider g.object gs tail homes others agrees)
agrees_by false g gs tail homes others none agrees = (none, agrees)

agrees : (gs : List Gain) (choice : List Bool) → Differ gs → Agrees gs choice (objects_by gs choice)
unfolding IsDistinct
agrees [] choice differ = tt
agrees (g ∷ gs) choice differ =
    agrees_by (first choice) g gs (rest choice) (objects_by gs (rest choice)) differ.0 (missing g.object gs (rest choice) differ.0) (agrees gs (rest choice) differ.1)

-- ---- sets with the same objects

words_of-same : (gs : List Gain) (homes homes' : List ℕ) → ((o : ℕ) → is_in homes o ≡ is_in homes' o) → words_of gs homes ≡ words_of gs homes'
words_of-same [] homes homes' same = refl
words_of-same (g ∷ gs) homes homes' same =
    ap (λ (b : Bool). (if b then g.words else 0) + words_of gs homes) (same g.object) ∙ ap (λ (n : ℕ). (if is_in homes' g.object then g.words else 0) + n) (words_of-same gs homes homes' same)

cost_of-same : (gs : List Gain) (homes homes' : List ℕ) → ((o : ℕ) → is_in homes o ≡ is_in homes' o) → cost_of gs homes ≡ cost_of gs homes'
cost_of-same [] homes homes' same = refl
cost_of-same (g ∷ gs) homes homes' same =
    ap (λ (b : Bool). (if b then g.sram else g.fram) + cost_of gs homes) (same g.object) ∙ ap (λ (n : ℕ). (if is_in homes' g.object then g.sram else g.fram) + n) (cost_of-same gs homes homes' same)

-- ---- the objects of a choice differ, and are of the gains

others_kept : (x : ℕ) (b : Bool) (o : ℕ) (os : List ℕ) → IsOther x o → AllByRecursion (IsOther x) os → AllByRecursion (IsOther x) (if b then o ∷ os else os)
others_kept x true o os other all = (other, all)
others_kept x false o os other all = all

others_by : (x : ℕ) (gs : List Gain) (choice : List Bool) → AllByRecursion (IsOther x) (objects gs) → AllByRecursion (IsOther x) (objects_by gs choice)
others_by x [] choice all = tt
others_by x (g ∷ gs) choice all = others_kept x (first choice) g.object (objects_by gs (rest choice)) all.0 (others_by x gs (rest choice) all.1)

distinct_kept : (b : Bool) (o : ℕ) (os : List ℕ) → AllByRecursion (IsOther o) os → IsDistinct (λ x y. x == y) os → IsDistinct (λ x y. x == y) (if b then o ∷ os else os)
unfolding IsDistinct
distinct_kept true o os others distinct = (others, distinct)
distinct_kept false o os others distinct = distinct

distinct_by : (gs : List Gain) (choice : List Bool) → Differ gs → IsDistinct (λ x y. x == y) (objects_by gs choice)
unfolding IsDistinct
distinct_by [] choice differ = tt
distinct_by (g ∷ gs) choice differ = distinct_kept (first choice) g.object (objects_by gs (rest choice)) (others_by g.object gs (rest choice) differ.0) (distinct_by gs (rest choice) differ.1)

or_cases : (t b : Bool) → (t || b) ≡ true → (t ≡ true) ⊎ (b ≡ true)
or_cases true b e = inl refl
or_cases false b e = inr e

or_more : (t b : Bool) → b ≡ true → (t || b) ≡ true
or_more true b e = refl
or_more false b e = e

of_kept : (b : Bool) (x o : ℕ) (os all : List ℕ) → (is_in os x ≡ true → is_in all x ≡ true) → is_in (if b then o ∷ os else os) x ≡ true → is_in (o ∷ all) x ≡ true
of_kept true x o os all into e = elim (or_cases (x == o) (is_in os x) e) [ inl h ↦ or_left (x == o) (is_in all x) h | inr h ↦ or_more (x == o) (is_in all x) (into h) ]
of_kept false x o os all into e = or_more (x == o) (is_in all x) (into e)

of_gains : (gs : List Gain) (choice : List Bool) (x : ℕ) → is_in (objects_by gs choice) x ≡ true → is_in (objects gs) x ≡ true
of_gains [] choice x e = e
of_gains (g ∷ gs) choice x e = of_kept (first choice) x g.object (objects_by gs (rest choice)) (objects gs) (of_gains gs (rest choice) x) e

-- ---- what a best choice is as a set

same_sets : (xs ys : List ℕ) → IsPermutation xs ys → (o : ℕ) → is_in ys o ≡ is_in xs o
same_sets xs ys moved o = sym (list_any-IsPermutation (λ home. o == home) xs ys moved)

pub best_words : (gains : List Gain) (room cost : ℕ) (homes sorted : List ℕ) → Differ gains → IsBestChoice gains room homes cost → IsPermutation homes sorted → words_of gains sorted ≤ room
best_words gains room cost homes sorted differ ((choice, words, costs, e), least) moved =
    let moved' = subst (λ (xs : List ℕ). IsPermutation xs sorted) (sym e) moved in
    omega (arith, words_of-same gains sorted (objects_by gains choice) (same_sets (objects_by gains choice) sorted moved'), words_of-agrees gains choice (objects_by gains choice) (agrees gains choice differ))

pub best_cost : (gains : List Gain) (room cost : ℕ) (homes sorted : List ℕ) → Differ gains → IsBestChoice gains room homes cost → IsPermutation homes sorted → cost_of gains sorted ≡ cost
best_cost gains room cost homes sorted differ ((choice, words, costs, e), least) moved =
    let moved' = subst (λ (xs : List ℕ). IsPermutation xs sorted) (sym e) moved in
    cost_of-same gains sorted (objects_by gains choice) (same_sets (objects_by gains choice) sorted moved') ∙ (cost_of-agrees gains choice (objects_by gains choice) (agrees gains choice differ) ∙ costs)

pub best_least : (gains : List Gain) (room cost : ℕ) (homes : List ℕ) → IsBestChoice gains room homes cost → NoneBelow gains room cost
best_least gains room cost homes ((choice, words, costs, e), least) = λ others fits.
    omega (arith, least (choice_of gains others) (omega (arith, words_by-choice_of gains others)), cost_by-choice_of gains others)

pub best_ascends : (gains : List Gain) (room cost : ℕ) (homes sorted : List ℕ) → Differ gains → IsBestChoice gains room homes cost → IsPermutation homes sorted → IsNonDecreasing sorted → IsStrictlyIncreasing sorted
best_ascends gains room cost homes sorted differ ((choice, words, costs, e), least) moved up =
    let moved' = subst (λ (xs : List ℕ). IsPermutation xs sorted) (sym e) moved in
    IsStrictlyIncreasing-from_distinct sorted up (IsDistinct-IsPermutation (λ x y. x == y) (λ x y. flips x y) (objects_by gains choice) sorted moved' (distinct_by gains choice differ))
  where
    flips : (x y : ℕ) → (x == y) ≡ (y == x)
    flips x y = nat_eq_equiv.symm x y

pub best_of_gains : (gains : List Gain) (room cost : ℕ) (homes sorted : List ℕ) → IsBestChoice gains room homes cost → IsPermutation homes sorted → (o : ℕ) → is_in sorted o ≡ true → is_in (objects gains) o ≡ true
best_of_gains gains room cost homes sorted ((choice, words, costs, e), least) moved o h =
    let moved' = subst (λ (xs : List ℕ). IsPermutation xs sorted) (sym e) moved in
    of_gains gains choice o (sym (same_sets (objects_by gains choice) sorted moved' o) ∙ h)

-- ---- what the pairs are of sets

pub frontier_sets : (gains : List Gain) (room : ℕ) (ps : List Pair) → Differ gains → IsFrontier gains room ps → AllByRecursion (IsOfSet gains room) ps
frontier_sets gains room ps differ f =
    all_weaker (IsOfChoice gains room) (IsOfSet gains room)
    (λ p h.
    let (choice, words, costs, fits) = h in
    let same = agrees gains choice differ in
    (objects_by gains choice, words_of-agrees gains choice (objects_by gains choice) same ∙ words, cost_of-agrees gains choice (objects_by gains choice) same ∙ costs, fits))
    ps f.choices

pub frontier_covers : (gains : List Gain) (room : ℕ) (ps : List Pair) → IsFrontier gains room ps → (homes : List ℕ) → words_of gains homes ≤ room → Covers ps (words_of gains homes) (cost_of gains homes)
frontier_covers gains room ps f homes fits =
    subst (λ (w : ℕ). Covers ps w (cost_of gains homes)) (words_by-choice_of gains homes)
    (subst (λ (c : ℕ). Covers ps (words_by gains (choice_of gains homes)) c) (cost_by-choice_of gains homes)
    (f.covers (choice_of gains homes) (omega (arith, words_by-choice_of gains homes))))

-- ---- the last pair

abbrev EndsWith : (Pair → Type 0) → List Pair → Type 0
EndsWith P [] = ⊥
EndsWith P (p ∷ []) = P p
EndsWith P (p ∷ q ∷ ps) = EndsWith P (q ∷ ps)

ends_weaker : (P Q : Pair → Type 0) → ((p : Pair) → P p → Q p) → (ps : List Pair) → EndsWith P ps → EndsWith Q ps
ends_weaker P Q into [] ends = ends
ends_weaker P Q into (p ∷ []) ends = into p ends
ends_weaker P Q into (p ∷ q ∷ ps) ends = ends_weaker P Q into (q ∷ ps) ends

abbrev IsLowest : List Pair → Pair → Type 0
IsLowest ps p = (words cost : ℕ) → Covers ps words cost → p.cost ≤ cost

ends_lowest : (P : Pair → Type 0) (p : Pair) (ps : List Pair) → Falls (p ∷ ps) → AllByRecursion P (p ∷ ps) → EndsWith (λ l. P l × IsLowest (p ∷ ps) l) (p ∷ ps)
ends_lowest P p [] falls all = (all.0, λ words cost covers. elim covers [ inl h ↦ h.1 | inr h ↦ absurd h ])
ends_lowest P p (q ∷ ps) falls all =
    ends_weaker (λ l. (P l × ((p.words < l.words) × (l.cost < p.cost))) × IsLowest (q ∷ ps) l) (λ l. P l × IsLowest (p ∷ q ∷ ps) l)
    (λ l h. (h.0.0, λ words cost covers. elim covers [ inl k ↦ omega (arith, h.0.1, k) | inr k ↦ h.1 words cost k ]))
    (q ∷ ps)
    (ends_lowest (λ l. P l × ((p.words < l.words) × (l.cost < p.cost))) q ps falls.1 (all_both P (λ l. (p.words < l.words) × (l.cost < p.cost)) (q ∷ ps) all.1 falls.0))

ends_get : (P : Pair → Type 0) (ps : List Pair) → EndsWith P ps → IsSomeAnd (slice_get ps (length ps - 1)) P
ends_get P [] ends = absurd ends
ends_get P (p ∷ []) ends = ends
ends_get P (p ∷ q ∷ ps) ends =
    let e : suc (length (q ∷ ps) - 1) ≡ length (p ∷ q ∷ ps) - 1 = omega arith in
    subst (λ (k : ℕ). IsSomeAnd (slice_get (p ∷ q ∷ ps) k) P) e (ends_get P (q ∷ ps) ends)

words_of-nothing : (gs : List Gain) → words_of gs [] ≡ 0
words_of-nothing [] = refl
words_of-nothing (g ∷ gs) = omega (arith, words_of-nothing gs)

pub last_least : (gains : List Gain) (room : ℕ) (ps : List Pair) → Differ gains → IsFrontier gains room ps → IsSomeAnd (slice_get ps (length ps - 1)) (λ p. IsLeast gains room p.cost)
last_least gains room [] differ f = absurd (frontier_covers gains room [] f [] (omega (arith, words_of-nothing gains)))
last_least gains room (p ∷ ps) differ f =
    ends_get (λ l. IsLeast gains room l.cost) (p ∷ ps)
    (ends_weaker (λ l. IsOfSet gains room l × IsLowest (p ∷ ps) l) (λ l. IsLeast gains room l.cost)
    (λ l h.
    let (homes, words, costs, fits) = h.0 in
    ((homes, omega arith, costs), λ others le. h.1 (words_of gains others) (cost_of gains others) (frontier_covers gains room (p ∷ ps) f others le)))
    (p ∷ ps)
    (ends_lowest (IsOfSet gains room) p ps f.falls (frontier_sets gains room (p ∷ ps) differ f)))

pub least_of_choices : (gains : List Gain) (room cost : ℕ) → Differ gains → IsLeastChoice gains room cost → IsLeast gains room cost
least_of_choices gains room cost differ ((choice, words, costs), least) =
    let same = agrees gains choice differ in
    let homes = objects_by gains choice in (
      (homes, omega (arith, words_of-agrees gains choice homes same), cost_of-agrees gains choice homes same ∙ costs),
      λ others fits. omega (arith, least (choice_of gains others) (omega (arith, words_by-choice_of gains others)), cost_by-choice_of gains others),
    )
