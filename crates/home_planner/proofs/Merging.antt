-- Two lists of pairs merged in order, without the pairs that another makes needless.
use Rattle.std.specs.Prelude.{if◌then◌else◌, nat_lt}
use Rattle.std.proofs.Common.{◌≡◌, ◌⊎◌, ◌<◌, ◌≤◌, ◌^◌, ◌++◌, ℕ, Bool, true, false, List, [], ◌∷◌, refl, sym, subst, inl, inr, arith}
use Rattle.std.specs.List.{AllByRecursion}
use Rattle.home_planner.specs.declared.Pair.{Pair}
use Rattle.home_planner.specs.Pairs.{Covers, Falls, IsAmong, IsFirst, IsMerge, IsNext, IsNoLater, kept_of, top_of}

-- ---- facts on each pair of a list

pub all_weaker : (P Q : Pair → Type 0) → ((p : Pair) → P p → Q p) → (ps : List Pair) → AllByRecursion P ps → AllByRecursion Q ps
all_weaker P Q into [] all = tt
all_weaker P Q into (p ∷ ps) all = (into p all.0, all_weaker P Q into ps all.1)

pub all_both : (P Q : Pair → Type 0) → (ps : List Pair) → AllByRecursion P ps → AllByRecursion Q ps → AllByRecursion (λ p. P p × Q p) ps
all_both P Q [] one two = tt
all_both P Q (p ∷ ps) one two = ((one.0, two.0), all_both P Q ps one.1 two.1)

pub all_push : (P : Pair → Type 0) → (ps : List Pair) (p : Pair) → AllByRecursion P ps → P p → AllByRecursion P (ps ++ p ∷ [])
all_push P [] p all one = (one, tt)
all_push P (q ∷ ps) p all one = (all.0, all_push P ps p all.1 one)

pub all_among : (P : Pair → Type 0) → (ps : List Pair) (p : Pair) → AllByRecursion P ps → IsAmong ps p → P p
all_among P [] p all among = absurd among
all_among P (q ∷ ps) p all (inl e) = subst P (sym e) all.0
all_among P (q ∷ ps) p all (inr among) = all_among P ps p all.1 among

among_each : (Q : Pair → Type 0) → (ps : List Pair) → ((p : Pair) → IsAmong ps p → Q p) → AllByRecursion Q ps
among_each Q [] into = tt
among_each Q (p ∷ ps) into = (into p (inl refl), among_each Q ps (λ q among. into q (inr among)))

-- ---- what a list covers

pub covers_more : (ps : List Pair) (words cost words' cost' : ℕ) → Covers ps words cost → words ≤ words' → cost ≤ cost' → Covers ps words' cost'
covers_more [] words cost words' cost' covers le le' = covers
covers_more (p ∷ ps) words cost words' cost' (inl h) le le' = inl (omega arith, omega arith)
covers_more (p ∷ ps) words cost words' cost' (inr covers) le le' = inr (covers_more ps words cost words' cost' covers le le')

covers_before : (ps qs : List Pair) (words cost : ℕ) → Covers ps words cost → Covers (ps ++ qs) words cost
covers_before [] qs words cost covers = absurd covers
covers_before (p ∷ ps) qs words cost (inl h) = inl h
covers_before (p ∷ ps) qs words cost (inr covers) = inr (covers_before ps qs words cost covers)

covers_push : (ps : List Pair) (p : Pair) (words cost : ℕ) → p.words ≤ words → p.cost ≤ cost → Covers (ps ++ p ∷ []) words cost
covers_push [] p words cost le le' = inl (le, le')
covers_push (q ∷ ps) p words cost le le' = inr (covers_push ps p words cost le le')

falls_push : (ps : List Pair) (p : Pair) → Falls ps → AllByRecursion (λ q. (q.words < p.words) × (p.cost < q.cost)) ps → Falls (ps ++ p ∷ [])
falls_push [] p falls before = (tt, tt)
falls_push (q ∷ ps) p falls before = (all_push (λ r. (q.words < r.words) × (r.cost < q.cost)) ps p falls.0 before.0, falls_push ps p falls.1 before.1)

-- ---- a merge in progress: `left` and `right` are merged, `a` and `b` are left of them, `kept` is kept so far

abbrev IsFrom : List Pair → List Pair → Pair → Type 0
IsFrom left right p = IsAmong left p ⊎ IsAmong right p

-- a pair still to come is needless where it costs no less than `top`, and else has more words than each that is kept
abbrev MayCome : List Pair → ℕ → Pair → Type 0
MayCome kept top q = (top ≤ q.cost → Covers kept q.words q.cost) × (q.cost < top → AllByRecursion (λ p. p.words < q.words) kept)

pub record IsMerging (left right a b kept : List Pair) (top : ℕ) : Type 0 where
  pub falls : Falls kept
  pub from : AllByRecursion (IsFrom left right) kept
  pub covers : (words cost : ℕ) → Covers left words cost ⊎ Covers right words cost → Covers kept words cost ⊎ (Covers a words cost ⊎ Covers b words cost)
  pub a_from : AllByRecursion (IsFrom left right) a
  pub b_from : AllByRecursion (IsFrom left right) b
  pub a_falls : Falls a
  pub b_falls : Falls b
  pub lowest : AllByRecursion (λ p. top ≤ p.cost) kept
  pub a_may : AllByRecursion (MayCome kept top) a
  pub b_may : AllByRecursion (MayCome kept top) b

swap : (X Y : Type 0) → X ⊎ Y → Y ⊎ X
swap X Y (inl x) = inr x
swap X Y (inr y) = inl y

pub merging_swap : (left right a b kept : List Pair) (top : ℕ) → IsMerging left right a b kept top → IsMerging right left b a kept top
merging_swap left right a b kept top m = record {
  falls = m.falls;
  from = all_weaker (IsFrom left right) (IsFrom right left) (λ p h. swap (IsAmong left p) (IsAmong right p) h) kept m.from;
  covers = λ words cost h. elim (m.covers words cost (swap (Covers right words cost) (Covers left words cost) h)) [ inl k ↦ inl k | inr k ↦ inr (swap (Covers a words cost) (Covers b words cost) k) ];
  a_from = all_weaker (IsFrom left right) (IsFrom right left) (λ p h. swap (IsAmong left p) (IsAmong right p) h) b m.b_from;
  b_from = all_weaker (IsFrom left right) (IsFrom right left) (λ p h. swap (IsAmong left p) (IsAmong right p) h) a m.a_from;
  a_falls = m.b_falls;
  b_falls = m.a_falls;
  lowest = m.lowest;
  a_may = m.b_may;
  b_may = m.a_may;
}

pub merging_none : (left right : List Pair) (top : ℕ) → Falls left → Falls right → AllByRecursion (λ p. p.cost < top) left → AllByRecursion (λ p. p.cost < top) right
    → IsMerging left right left right [] top
merging_none left right top left_falls right_falls left_small right_small = record {
  falls = tt;
  from = tt;
  covers = λ words cost h. inr h;
  a_from = among_each (IsFrom left right) left (λ p h. inl h);
  b_from = among_each (IsFrom left right) right (λ p h. inr h);
  a_falls = left_falls;
  b_falls = right_falls;
  lowest = tt;
  a_may = all_weaker (λ p. p.cost < top) (MayCome [] top) (λ p h. ((λ le. absurd (omega arith)), λ lt. tt)) left left_small;
  b_may = all_weaker (λ p. p.cost < top) (MayCome [] top) (λ p h. ((λ le. absurd (omega arith)), λ lt. tt)) right right_small;
}

-- ---- one step

no_later_all : (p : Pair) (ps : List Pair) → AllByRecursion (λ q. (p.words < q.words) × (q.cost < p.cost)) ps → AllByRecursion (IsNoLater p) ps
no_later_all p ps all = all_weaker (λ q. (p.words < q.words) × (q.cost < p.cost)) (IsNoLater p) (λ q h. (omega arith, λ lt. h.0)) ps all

first_all : (p : Pair) (ps : List Pair) → IsFirst p ps → Falls ps → AllByRecursion (IsNoLater p) ps
first_all p [] first falls = tt
first_all p (q ∷ ps) first falls = (first, all_weaker (λ r. (q.words < r.words) × (r.cost < q.cost)) (IsNoLater p) (λ r h. (omega arith, λ lt. omega arith)) ps falls.0)

may_one : (kept : List Pair) (top : ℕ) (p q : Pair) → p.cost < top → MayCome kept top q → IsNoLater p q → MayCome (kept ++ p ∷ []) p.cost q
may_one kept top p q lower may no_later = (
  (λ le. covers_push kept p q.words q.cost no_later.0 le),
  λ lt. all_push (λ r. r.words < q.words) kept p (may.1 (omega arith)) (no_later.1 lt),
)

may_push : (kept ps : List Pair) (top : ℕ) (p : Pair) → p.cost < top → AllByRecursion (MayCome kept top) ps → AllByRecursion (IsNoLater p) ps → AllByRecursion (MayCome (kept ++ p ∷ []) p.cost) ps
may_push kept ps top p lower may no_later =
    all_weaker (λ q. MayCome kept top q × IsNoLater p q) (MayCome (kept ++ p ∷ []) p.cost) (λ q h. may_one kept top p q lower h.0 h.1) ps (all_both (MayCome kept top) (IsNoLater p) ps may no_later)

covers_pushed : (a b kept : List Pair) (p : Pair) (words cost : ℕ) → Covers kept words cost ⊎ (Covers (p ∷ a) words cost ⊎ Covers b words cost)
    → Covers (kept ++ p ∷ []) words cost ⊎ (Covers a words cost ⊎ Covers b words cost)
covers_pushed a b kept p words cost (inl h) = inl (covers_before kept (p ∷ []) words cost h)
covers_pushed a b kept p words cost (inr (inl (inl h))) = inl (covers_push kept p words cost h.0 h.1)
covers_pushed a b kept p words cost (inr (inl (inr h))) = inr (inl h)
covers_pushed a b kept p words cost (inr (inr h)) = inr (inr h)

covers_passed : (a b kept : List Pair) (p : Pair) (words cost : ℕ) → Covers kept p.words p.cost → Covers kept words cost ⊎ (Covers (p ∷ a) words cost ⊎ Covers b words cost)
    → Covers kept words cost ⊎ (Covers a words cost ⊎ Covers b words cost)
covers_passed a b kept p words cost needless (inl h) = inl h
covers_passed a b kept p words cost needless (inr (inl (inl h))) = inl (covers_more kept p.words p.cost words cost needless h.0 h.1)
covers_passed a b kept p words cost needless (inr (inl (inr h))) = inr (inl h)
covers_passed a b kept p words cost needless (inr (inr h)) = inr (inr h)

merging_pushed : (left right a b kept : List Pair) (p : Pair) (top : ℕ) → IsMerging left right (p ∷ a) b kept top → IsFirst p b → p.cost < top → IsMerging left right a b (kept ++ p ∷ []) p.cost
merging_pushed left right a b kept p top m first lower = record {
  falls = falls_push kept p m.falls
      (all_weaker (λ q. (q.words < p.words) × (top ≤ q.cost)) (λ q. (q.words < p.words) × (p.cost < q.cost)) (λ q h. (h.0, omega arith)) kept
      (all_both (λ q. q.words < p.words) (λ q. top ≤ q.cost) kept (m.a_may.0.1 lower) m.lowest));
  from = all_push (IsFrom left right) kept p m.from m.a_from.0;
  covers = λ words cost h. covers_pushed a b kept p words cost (m.covers words cost h);
  a_from = m.a_from.1;
  b_from = m.b_from;
  a_falls = m.a_falls.1;
  b_falls = m.b_falls;
  lowest = all_push (λ q. p.cost ≤ q.cost) kept p (all_weaker (λ q. top ≤ q.cost) (λ q. p.cost ≤ q.cost) (λ q h. omega arith) kept m.lowest) (omega arith);
  a_may = may_push kept a top p lower m.a_may.1 (no_later_all p a m.a_falls.0);
  b_may = may_push kept b top p lower m.b_may (first_all p b first m.b_falls);
}

merging_passed : (left right a b kept : List Pair) (p : Pair) (top : ℕ) → IsMerging left right (p ∷ a) b kept top → top ≤ p.cost → IsMerging left right a b kept top
merging_passed left right a b kept p top m no_lower = record {
  falls = m.falls;
  from = m.from;
  covers = λ words cost h. covers_passed a b kept p words cost (m.a_may.0.0 no_lower) (m.covers words cost h);
  a_from = m.a_from.1;
  b_from = m.b_from;
  a_falls = m.a_falls.1;
  b_falls = m.b_falls;
  lowest = m.lowest;
  a_may = m.a_may.1;
  b_may = m.b_may;
}

merging_left_by : (t : Bool) (left right a b kept : List Pair) (p : Pair) (top : ℕ) → nat_lt p.cost top ≡ t → IsMerging left right (p ∷ a) b kept top → IsFirst p b
    → IsMerging left right a b (if t then kept ++ p ∷ [] else kept) (if t then p.cost else top)
merging_left_by true left right a b kept p top e m first = merging_pushed left right a b kept p top m first (grind (arith, e))
merging_left_by false left right a b kept p top e m first = merging_passed left right a b kept p top m (grind (arith, e))

merging_left : (left right a b kept : List Pair) (p : Pair) (top : ℕ) → IsMerging left right (p ∷ a) b kept top → IsFirst p b → IsMerging left right a b (kept_of kept top p) (top_of top p)
merging_left left right a b kept p top m first = merging_left_by (nat_lt p.cost top) left right a b kept p top refl m first

pub merging_next : (left right older others kept : List Pair) (p : Pair) (a b : List Pair) (top : ℕ) → IsMerging left right older others kept top → IsNext older others p a b → IsMerging left right a b (kept_of kept top p) (top_of top p)
merging_next left right older others kept p a b top m (inl (e, f, first)) =
    merging_left left right a b kept p top (subst (λ (xs : List Pair). IsMerging left right xs b kept top) e (subst (λ (ys : List Pair). IsMerging left right older ys kept top) f m)) first
merging_next left right older others kept p a b top m (inr (e, f, first)) =
    merging_swap right left b a (kept_of kept top p) (top_of top p)
    (merging_left right left b a kept p top
    (merging_swap left right a (p ∷ b) kept top
    (subst (λ (xs : List Pair). IsMerging left right xs (p ∷ b) kept top) f (subst (λ (ys : List Pair). IsMerging left right older ys kept top) e m)))
    first)

pub merging_all : (left right older others kept : List Pair) (top : ℕ) → IsMerging left right older others kept top → (older ≡ []) × (others ≡ []) → IsMerge left right kept
merging_all left right older others kept top m (e, f) = record {
  falls = m.falls;
  from = m.from;
  covers = λ words cost h. elim (m.covers words cost h) [
    | inl k ↦ k
    | inr (inl k) ↦ absurd (subst (λ (xs : List Pair). Covers xs words cost) e k)
    | inr (inr k) ↦ absurd (subst (λ (ys : List Pair). Covers ys words cost) f k)
  ];
}

pub merging_start : (left right kept : List Pair) (top : ℕ) → kept ≡ [] → Falls left → Falls right → AllByRecursion (λ p. p.cost < 2 ^ 63) left → AllByRecursion (λ p. p.cost < 2 ^ 63) right → 2 ^ 63 ≤ top
    → IsMerging left right left right kept top
merging_start left right kept top e left_falls right_falls left_small right_small le =
    subst (λ (ps : List Pair). IsMerging left right left right ps top) (sym e)
    (merging_none left right top left_falls right_falls
    (all_weaker (λ p. p.cost < 2 ^ 63) (λ p. p.cost < top) (λ p h. omega arith) left left_small)
    (all_weaker (λ p. p.cost < 2 ^ 63) (λ p. p.cost < top) (λ p h. omega arith) right right_small))

pub merging_more : (left right older others kept : List Pair) (p : Pair) (a b kept' : List Pair) (top top' : ℕ) → IsMerging left right older others kept top → IsNext older others p a b
    → kept' ≡ kept_of kept top p → top' ≡ top_of top p → IsMerging left right a b kept' top'
merging_more left right older others kept p a b kept' top top' m next e f =
    subst (λ (ps : List Pair). IsMerging left right a b ps top') (sym e)
    (subst (λ (t : ℕ). IsMerging left right a b (kept_of kept top p) t) (sym f) (merging_next left right older others kept p a b top m next))
