-- The pairs of one gain more, from the pairs of the gains behind it.
use Rattle.std.specs.Prelude.{if◌then◌else◌, nat_le, drop, length, get_or}
use Rattle.std.proofs.Common.{◌≡◌, ◌⊎◌, ◌<◌, ◌≤◌, ◌+◌, ℕ, zero, suc, Bool, true, false, List, [], ◌∷◌, refl, sym, ap, subst, inl, inr, arith, add-one}
use Rattle.std.proofs.Math.Seq.{drop-cons, drop-length}
use Rattle.std.specs.List.{AllByRecursion}
use Rattle.home_planner.specs.declared.Gain.{Gain}
use Rattle.home_planner.specs.declared.Pair.{Pair}
use Rattle.home_planner.specs.Sets.{all_costs}
use Rattle.home_planner.specs.Choices.{IsFrontier, IsOfChoice, cost_by, first, rest, words_by}
use Rattle.home_planner.specs.Pairs.{Covers, Falls, IsAmong, IsMerge, shifted_of}
use Rattle.home_planner.proofs.Merging.{all_among, all_weaker, covers_more}

abbrev shift : ℕ → ℕ → Pair → Pair
shift words cost p = record { words = p.words + words; cost = p.cost + cost }

all_kept : (Q : Pair → Type 0) (t : Bool) (q : Pair) (qs : List Pair) → (t ≡ true → Q q) → AllByRecursion Q qs → AllByRecursion Q (if t then q ∷ qs else qs)
all_kept Q true q qs one all = (one refl, all)
all_kept Q false q qs one all = all

pub all_shifted : (P Q : Pair → Type 0) (words cost room : ℕ) → ((p : Pair) → P p → p.words + words ≤ room → Q (shift words cost p)) → (ps : List Pair) → AllByRecursion P ps
    → AllByRecursion Q (shifted_of words cost room ps)
all_shifted P Q words cost room into [] all = tt
all_shifted P Q words cost room into (p ∷ ps) all =
    all_kept Q (nat_le (p.words + words) room) (shift words cost p) (shifted_of words cost room ps) (λ e. into p all.0 (grind (arith, e))) (all_shifted P Q words cost room into ps all.1)

falls_kept : (t : Bool) (q : Pair) (qs : List Pair) → AllByRecursion (λ r. (q.words < r.words) × (r.cost < q.cost)) qs → Falls qs → Falls (if t then q ∷ qs else qs)
falls_kept true q qs all falls = (all, falls)
falls_kept false q qs all falls = falls

pub falls_shifted : (words cost room : ℕ) (ps : List Pair) → Falls ps → Falls (shifted_of words cost room ps)
falls_shifted words cost room [] falls = tt
falls_shifted words cost room (p ∷ ps) falls =
    falls_kept (nat_le (p.words + words) room) (shift words cost p) (shifted_of words cost room ps)
    (all_shifted (λ q. (p.words < q.words) × (q.cost < p.cost)) (λ r. (p.words + words < r.words) × (r.cost < p.cost + cost)) words cost room (λ q h le. (omega arith, omega arith)) ps falls.0)
    (falls_shifted words cost room ps falls.1)

covers_kept : (t : Bool) (q : Pair) (qs : List Pair) (words cost : ℕ) → (t ≡ true) × ((q.words ≤ words) × (q.cost ≤ cost)) ⊎ Covers qs words cost → Covers (if t then q ∷ qs else qs) words cost
covers_kept true q qs words cost (inl h) = inl h.1
covers_kept true q qs words cost (inr h) = inr h
covers_kept false q qs words cost (inl h) = absurd (cc)
covers_kept false q qs words cost (inr h) = h

pub covers_shifted : (words cost room : ℕ) (ps : List Pair) (w c : ℕ) → Covers ps w c → w + words ≤ room → Covers (shifted_of words cost room ps) (w + words) (c + cost)
covers_shifted words cost room [] w c covers le = covers
covers_shifted words cost room (p ∷ ps) w c (inl h) le =
    let fits : p.words + words ≤ room = omega arith in
    covers_kept (nat_le (p.words + words) room) (shift words cost p) (shifted_of words cost room ps) (w + words) (c + cost) (inl (grind (arith, fits), (omega arith, omega arith)))
covers_shifted words cost room (p ∷ ps) w c (inr h) le =
    covers_kept (nat_le (p.words + words) room) (shift words cost p) (shifted_of words cost room ps) (w + words) (c + cost) (inr (covers_shifted words cost room ps w c h le))

-- ---- one gain more

without_it : (g : Gain) (gs : List Gain) (room : ℕ) (p : Pair) → IsOfChoice gs room p → p.words + 0 ≤ room → IsOfChoice (g ∷ gs) room (shift 0 g.fram p)
without_it g gs room p (choice, words, cost, fits) le = (false ∷ choice, omega arith, omega arith, le)

with_it : (g : Gain) (gs : List Gain) (room : ℕ) (p : Pair) → IsOfChoice gs room p → p.words + g.words ≤ room → IsOfChoice (g ∷ gs) room (shift g.words g.sram p)
with_it g gs room p (choice, words, cost, fits) le = (true ∷ choice, omega arith, omega arith, le)

among_cases : (P : Pair → Type 0) (left right : List Pair) (p : Pair) → AllByRecursion P left → AllByRecursion P right → IsAmong left p ⊎ IsAmong right p → P p
among_cases P left right p one two (inl h) = all_among P left p one h
among_cases P left right p one two (inr h) = all_among P right p two h

covers_by : (t : Bool) (g : Gain) (gs : List Gain) (room : ℕ) (ps more : List Pair) (tail : List Bool) → IsFrontier gs room ps → IsMerge (shifted_of 0 g.fram room ps) (shifted_of g.words g.sram room ps) more
    → (if t then g.words else 0) + words_by gs tail ≤ room → Covers more ((if t then g.words else 0) + words_by gs tail) ((if t then g.sram else g.fram) + cost_by gs tail)
covers_by true g gs room ps more tail f m le =
    let fits : words_by gs tail ≤ room = omega arith in
    let fits_more : words_by gs tail + g.words ≤ room = omega arith in
    covers_more more (words_by gs tail + g.words) (cost_by gs tail + g.sram) (g.words + words_by gs tail) (g.sram + cost_by gs tail)
    (m.covers (words_by gs tail + g.words) (cost_by gs tail + g.sram) (inr (covers_shifted g.words g.sram room ps (words_by gs tail) (cost_by gs tail) (f.covers tail fits) fits_more)))
    (omega arith) (omega arith)
covers_by false g gs room ps more tail f m le =
    let fits : words_by gs tail ≤ room = omega arith in
    let fits_more : words_by gs tail + 0 ≤ room = omega arith in
    covers_more more (words_by gs tail + 0) (cost_by gs tail + g.fram) (0 + words_by gs tail) (g.fram + cost_by gs tail)
    (m.covers (words_by gs tail + 0) (cost_by gs tail + g.fram) (inl (covers_shifted 0 g.fram room ps (words_by gs tail) (cost_by gs tail) (f.covers tail fits) fits_more)))
    (omega arith) (omega arith)

pub frontier_more : (g : Gain) (gs : List Gain) (room : ℕ) (ps more : List Pair) → IsFrontier gs room ps → IsMerge (shifted_of 0 g.fram room ps) (shifted_of g.words g.sram room ps) more → IsFrontier (g ∷ gs) room more
frontier_more g gs room ps more f m = record {
  falls = m.falls;
  choices = all_weaker (λ p. IsAmong (shifted_of 0 g.fram room ps) p ⊎ IsAmong (shifted_of g.words g.sram room ps) p) (IsOfChoice (g ∷ gs) room)
      (λ p h. among_cases (IsOfChoice (g ∷ gs) room) (shifted_of 0 g.fram room ps) (shifted_of g.words g.sram room ps) p
      (all_shifted (IsOfChoice gs room) (IsOfChoice (g ∷ gs) room) 0 g.fram room (without_it g gs room) ps f.choices)
      (all_shifted (IsOfChoice gs room) (IsOfChoice (g ∷ gs) room) g.words g.sram room (with_it g gs room) ps f.choices) h)
      more m.from;
  covers = λ choice le. covers_by (first choice) g gs room ps more (rest choice) f m le;
}

pub frontier_none : (room : ℕ) → IsFrontier [] room (record { words = 0; cost = 0 } ∷ [])
frontier_none room = record {
  falls = (tt, tt);
  choices = (([], refl, refl, omega arith), tt);
  covers = λ choice le. inl (omega arith, omega arith);
}

-- ---- costs

cost_cases : (t : Bool) (m n : ℕ) → (if t then m else n) ≤ n + m
cost_cases true m n = omega arith
cost_cases false m n = omega arith

pub cost_by-le : (gs : List Gain) (choice : List Bool) → cost_by gs choice ≤ all_costs gs
cost_by-le [] choice = omega arith
cost_by-le (g ∷ gs) choice = omega (arith, cost_cases (first choice) g.sram g.fram, cost_by-le gs (rest choice))

pub all_costs-drop : (k : ℕ) (gs : List Gain) → all_costs (drop k gs) ≤ all_costs gs
all_costs-drop zero gs = omega arith
all_costs-drop (suc k) [] = omega arith
all_costs-drop (suc k) (g ∷ gs) = omega (arith, all_costs-drop k gs)

pub costs_small : (g : Gain) (gs : List Gain) (room limit : ℕ) (ps : List Pair) → IsFrontier gs room ps → all_costs (g ∷ gs) < limit → AllByRecursion (λ p. p.cost + (g.fram + g.sram) < limit) ps
costs_small g gs room limit ps f small =
    all_weaker (IsOfChoice gs room) (λ p. p.cost + (g.fram + g.sram) < limit) (λ p h. omega (arith, h.2, cost_by-le gs h.0)) ps f.choices

-- ---- the gains from a place on

pub frontier_from : (gains : List Gain) (k room : ℕ) (d : Gain) (ps more : List Pair) → k < length gains → IsFrontier (drop (k + 1) gains) room ps
    → IsMerge (shifted_of 0 (get_or gains k d).fram room ps) (shifted_of (get_or gains k d).words (get_or gains k d).sram room ps) more → IsFrontier (drop k gains) room more
frontier_from gains k room d ps more lt f m =
    subst (λ (gs : List Gain). IsFrontier gs room more) (sym (drop-cons gains k d lt))
    (frontier_more (get_or gains k d) (drop (suc k) gains) room ps more (subst (λ (n : ℕ). IsFrontier (drop n gains) room ps) (add-one k) f) m)

pub costs_from : (gains : List Gain) (k room limit : ℕ) (d : Gain) (ps : List Pair) → k < length gains → IsFrontier (drop (k + 1) gains) room ps → all_costs gains < limit
    → AllByRecursion (λ p. p.cost + ((get_or gains k d).fram + (get_or gains k d).sram) < limit) ps
costs_from gains k room limit d ps lt f small =
    let e = ap all_costs (drop-cons gains k d lt) in
    costs_small (get_or gains k d) (drop (suc k) gains) room limit ps (subst (λ (n : ℕ). IsFrontier (drop n gains) room ps) (add-one k) f)
    (omega (arith, e, all_costs-drop k gains))

pub frontier_end : (gains : List Gain) (room : ℕ) (ps : List Pair) → IsFrontier [] room ps → IsFrontier (drop (length gains) gains) room ps
frontier_end gains room ps f = subst (λ (gs : List Gain). IsFrontier gs room ps) (sym (drop-length gains)) f

-- ---- pairs with a gain's words and cost added

pub falls_same : (qs : List Pair) (words cost room : ℕ) (ps : List Pair) → qs ≡ shifted_of words cost room ps → Falls ps → Falls qs
falls_same qs words cost room ps e falls = subst Falls (sym e) (falls_shifted words cost room ps falls)

pub small_same : (qs : List Pair) (words cost more room limit : ℕ) (ps : List Pair) → qs ≡ shifted_of words cost room ps → AllByRecursion (λ p. p.cost + more < limit) ps → cost ≤ more
    → AllByRecursion (λ p. p.cost < limit) qs
small_same qs words cost more room limit ps e small le =
    subst (λ (rs : List Pair). AllByRecursion (λ p. p.cost < limit) rs) (sym e)
    (all_shifted (λ p. p.cost + more < limit) (λ p. p.cost < limit) words cost room (λ p h fits. omega arith) ps small)
