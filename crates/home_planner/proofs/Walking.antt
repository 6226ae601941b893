-- The best choice, found gain by gain.
use Rattle.std.specs.Prelude.{if◌then◌else◌, nat_lt, nat_le, drop, length, get_or, reverse, min, Vec}
use Rattle.std.specs.declared.alloc.Global.{Global}
use Rattle.std.proofs.Common.{◌≡◌, ◌⊎◌, ◌<◌, ◌≤◌, ◌+◌, ◌-◌, ◌^◌, ◌++◌, ℕ, suc, Bool, true, false, List, [], ◌∷◌, refl, sym, ap, ◌∙◌, subst, inl, inr, arith, append_assoc, add-one}
use Rattle.std.proofs.Math.Seq.{drop-cons}
use Rattle.std.proofs.lemmas.Bool.{cases_lt}
use Rattle.std.proofs.lemmas.List.{reverse-append, length-reverse}
use Rattle.std.proofs.Math.ListN.{drop_of_length-le}
use Rattle.std.specs.List.{AllByRecursion}
use Rattle.home_planner.specs.declared.Gain.{Gain}
use Rattle.home_planner.specs.declared.Pair.{Pair}
use Rattle.home_planner.specs.Sets.{all_costs}
use Rattle.home_planner.specs.Choices.{AreLayers, IsBestChoice, IsFrontier, IsOfChoice, Settles, better_in, cost_by, first, least_of, objects_by, rest, words_by}
use Rattle.home_planner.specs.Pairs.{Covers}
use Rattle.home_planner.proofs.Extending.{cost_by-le}

-- ---- layers

push_front : (layers layers' : List (Vec Pair Global)) (pairs : Vec Pair Global) → layers' ≡ layers ++ pairs ∷ [] → reverse layers' ≡ pairs ∷ reverse layers
push_front layers layers' pairs e = ap (λ (ls : List (Vec Pair Global)). reverse ls) e ∙ reverse-append layers (pairs ∷ [])

pub layers_more : (gains : List Gain) (at room : ℕ) (layers layers' : List (Vec Pair Global)) (pairs : Vec Pair Global) → 0 < at → at ≤ length gains → IsFrontier (drop at gains) room pairs.items
    → AreLayers (drop at gains) room (reverse layers) → layers' ≡ layers ++ pairs ∷ [] → AreLayers (drop (at - 1) gains) room (reverse layers')
layers_more gains at room layers layers' pairs pos le f are e =
    let none : Gain = record { object = 0; words = 0; fram = 0; sram = 0 } in
    let lt : at - 1 < length gains = omega arith in
    let same : at ≡ suc (at - 1) = omega arith in
    let k = at - 1 in
    subst (λ (ls : List (Vec Pair Global)). AreLayers (drop k gains) room ls) (sym (push_front layers layers' pairs e))
    (subst (λ (gs : List Gain). AreLayers gs room (pairs ∷ reverse layers)) (sym (drop-cons gains k none lt))
    (subst (λ (n : ℕ). IsFrontier (drop n gains) room pairs.items) same f, subst (λ (n : ℕ). AreLayers (drop n gains) room (reverse layers)) same are))

-- ---- the least cost in a room

least_le_by : (t : Bool) (c m : ℕ) → m ≤ 2 ^ 63 → (if t then min c m else m) ≤ 2 ^ 63
least_le_by true c m le = omega arith
least_le_by false c m le = le

pub least_of-le : (room : ℕ) (ps : List Pair) → least_of room ps ≤ 2 ^ 63
least_of-le room [] = omega arith
least_of-le room (p ∷ ps) = least_le_by (nat_le p.words room) p.cost (least_of room ps) (least_of-le room ps)

head_by : (t : Bool) (c m cost : ℕ) → t ≡ true → c ≤ cost → (if t then min c m else m) ≤ cost
head_by true c m cost e le = omega arith
head_by false c m cost e le = absurd (cc)

tail_by : (t : Bool) (c m cost : ℕ) → m ≤ cost → (if t then min c m else m) ≤ cost
tail_by true c m cost le = omega arith
tail_by false c m cost le = le

-- no pair in the room is below the least
least_covers : (room : ℕ) (ps : List Pair) (words cost : ℕ) → Covers ps words cost → words ≤ room → least_of room ps ≤ cost
least_covers room [] words cost covers le = absurd covers
least_covers room (p ∷ ps) words cost (inl h) le =
    let fits : p.words ≤ room = omega arith in
    head_by (nat_le p.words room) p.cost (least_of room ps) cost (grind (arith, fits)) h.1
least_covers room (p ∷ ps) words cost (inr h) le = tail_by (nat_le p.words room) p.cost (least_of room ps) cost (least_covers room ps words cost h le)

-- a choice of the gains that takes its room and costs so much
abbrev Costs : List Gain → ℕ → ℕ → Type 0
Costs gs room cost = (choice : List Bool) × (words_by gs choice ≤ room) × (cost_by gs choice ≡ cost)

min_cases : (c m : ℕ) → (min c m ≡ c) ⊎ (min c m ≡ m)
min_cases c m = elim (cases_lt c m) [ inl h ↦ inl (omega arith) | inr h ↦ inr (omega arith) ]

found_min : (gs : List Gain) (room c m limit : ℕ) (e : (min c m ≡ c) ⊎ (min c m ≡ m)) → Costs gs room c → (m ≡ limit) ⊎ Costs gs room m → (min c m ≡ limit) ⊎ Costs gs room (min c m)
found_min gs room c m limit (inl e) one other = inr (subst (λ (n : ℕ). Costs gs room n) (sym e) one)
found_min gs room c m limit (inr e) one other = subst (λ (n : ℕ). (n ≡ limit) ⊎ Costs gs room n) (sym e) other

found_by : (t : Bool) (gs : List Gain) (room c m limit : ℕ) → (t ≡ true → Costs gs room c) → (m ≡ limit) ⊎ Costs gs room m → ((if t then min c m else m) ≡ limit) ⊎ Costs gs room (if t then min c m else m)
found_by true gs room c m limit one other = found_min gs room c m limit (min_cases c m) (one refl) other
found_by false gs room c m limit one other = other

-- the least is the cost of some choice
least_found : (gs : List Gain) (wide room : ℕ) (ps : List Pair) → AllByRecursion (IsOfChoice gs wide) ps → (least_of room ps ≡ 2 ^ 63) ⊎ Costs gs room (least_of room ps)
least_found gs wide room [] all = inl refl
least_found gs wide room (p ∷ ps) all =
    let (choice, words, cost, fits) = all.0 in
    found_by (nat_le p.words room) gs room p.cost (least_of room ps) (2 ^ 63) (λ e. let le : p.words ≤ room = grind (arith, e) in (choice, omega arith, cost)) (least_found gs wide room ps all.1)

words_by-nothing : (gs : List Gain) → words_by gs [] ≡ 0
words_by-nothing [] = refl
words_by-nothing (g ∷ gs) = omega (arith, words_by-nothing gs)

-- in a room, the least over the pairs is the least over the choices
least_below : (gs : List Gain) (wide room : ℕ) (ps : List Pair) → IsFrontier gs wide ps → room ≤ wide → (choice : List Bool) → words_by gs choice ≤ room → least_of room ps ≤ cost_by gs choice
least_below gs wide room ps f le choice fits =
    let in_wide : words_by gs choice ≤ wide = omega arith in
    least_covers room ps (words_by gs choice) (cost_by gs choice) (f.covers choice in_wide) fits

least_costs_by : (gs : List Gain) (room least : ℕ) → least < 2 ^ 63 → (least ≡ 2 ^ 63) ⊎ Costs gs room least → Costs gs room least
least_costs_by gs room least lt (inl e) = absurd (omega arith)
least_costs_by gs room least lt (inr h) = h

least_costs : (gs : List Gain) (wide room : ℕ) (ps : List Pair) → IsFrontier gs wide ps → room ≤ wide → all_costs gs < 2 ^ 63 → Costs gs room (least_of room ps)
least_costs gs wide room ps f le small =
    let fits : words_by gs [] ≤ room = omega (arith, words_by-nothing gs) in
    least_costs_by gs room (least_of room ps) (omega (arith, least_below gs wide room ps f le [] fits, cost_by-le gs [])) (least_found gs wide room ps f.choices)

-- ---- a walk along the gains

abbrev IsBound : List Gain → ℕ → ℕ → Type 0
IsBound gs room cost = (choice : List Bool) → words_by gs choice ≤ room → cost ≤ cost_by gs choice

-- each choice of what is left completes what was chosen, and a best one of what is left is best of all
pub record IsWalk (gains : List Gain) (room : ℕ) (left_gains : List Gain) (homes : List ℕ) (cost left : ℕ) : Type 0 where
  pub within : left ≤ room
  pub small : cost + all_costs left_gains ≤ all_costs gains
  pub goes : (choice : List Bool) → words_by left_gains choice ≤ left
      → (whole : List Bool) × (words_by gains whole ≤ room) × (cost_by gains whole ≡ cost + cost_by left_gains choice) × (objects_by gains whole ≡ homes ++ objects_by left_gains choice)
  pub bound : (least : ℕ) → IsBound left_gains left least → IsBound gains room (cost + least)

pub walk_start : (gains : List Gain) (room : ℕ) (homes : List ℕ) → homes ≡ [] → IsWalk gains room gains homes 0 room
walk_start gains room homes e = record {
  within = omega arith;
  small = omega arith;
  goes = λ choice fits. (choice, fits, omega arith, ap (λ (hs : List ℕ). hs ++ objects_by gains choice) (sym e));
  bound = λ least is choice le. omega (arith, is choice le);
}

pub walk_end : (gains : List Gain) (room : ℕ) (homes : List ℕ) (cost left : ℕ) → IsWalk gains room [] homes cost left → IsBestChoice gains room homes cost
walk_end gains room homes cost left w =
    let (whole, words, costs, objects) = w.goes [] (omega arith) in
    ((whole, words, omega arith, objects ∙ append_nil homes), λ choice fits. omega (arith, w.bound 0 (λ c le. omega arith) choice fits))
  where
    append_nil : (xs : List ℕ) → xs ++ [] ≡ xs
    append_nil [] = refl
    append_nil (x ∷ xs) = ap (λ (ys : List ℕ). x ∷ ys) (append_nil xs)

-- the object is kept in SRAM
bound_in : (g : Gain) (gs : List Gain) (left least other : ℕ) → (c : ℕ) → IsBound gs (left - g.words) c → Costs gs (left - g.words) least → IsBound gs left other
    → g.sram + least < g.fram + other → (t : Bool) (tail : List Bool) → (if t then g.words else 0) + words_by gs tail ≤ left → g.sram + c ≤ (if t then g.sram else g.fram) + cost_by gs tail
bound_in g gs left least other c is (choice, words, cost) others better true tail fits = omega (arith, is tail (omega arith))
bound_in g gs left least other c is (choice, words, cost) others better false tail fits = omega (arith, is choice words, others tail (omega arith))

-- the object stays in FRAM
bound_out : (g : Gain) (gs : List Gain) (left least other : ℕ) → (c : ℕ) → IsBound gs left c → (g.words ≤ left → IsBound gs (left - g.words) least) → Costs gs left other
    → (g.words ≤ left → g.fram + other ≤ g.sram + least) → (t : Bool) (tail : List Bool) → (if t then g.words else 0) + words_by gs tail ≤ left → g.fram + c ≤ (if t then g.sram else g.fram) + cost_by gs tail
bound_out g gs left least other c is leasts (choice, words, cost) better true tail fits =
    let le : g.words ≤ left = omega arith in
    omega (arith, is choice words, leasts le tail (omega arith), better le)
bound_out g gs left least other c is leasts (choice, words, cost) better false tail fits = omega (arith, is tail (omega arith))

walk_in : (gains : List Gain) (room : ℕ) (g : Gain) (gs : List Gain) (homes : List ℕ) (cost left : ℕ) (ps : List Pair) → IsWalk gains room (g ∷ gs) homes cost left → IsFrontier gs room ps
    → all_costs gs < 2 ^ 63 → g.words ≤ left → g.sram + least_of (left - g.words) ps < g.fram + least_of left ps → IsWalk gains room gs (homes ++ g.object ∷ []) (cost + g.sram) (left - g.words)
walk_in gains room g gs homes cost left ps w f small fits better = record {
  within = omega (arith, w.within);
  small = omega (arith, w.small);
  goes = λ choice le.
      let (whole, words, costs, objects) = w.goes (true ∷ choice) (omega arith) in
      (whole, words, omega arith, objects ∙ sym (append_assoc homes (g.object ∷ []) (objects_by gs choice)));
  bound = λ c is choice le.
      omega (
        arith,
        w.bound (g.sram + c)
            (λ head head_le. bound_in g gs left (least_of (left - g.words) ps) (least_of left ps) c is
            (least_costs gs room (left - g.words) ps f (omega (arith, w.within)) small) (least_below gs room left ps f w.within) better (first head) (rest head) head_le)
            choice le,
      );
}

walk_out : (gains : List Gain) (room : ℕ) (g : Gain) (gs : List Gain) (homes : List ℕ) (cost left : ℕ) (ps : List Pair) → IsWalk gains room (g ∷ gs) homes cost left → IsFrontier gs room ps
    → all_costs gs < 2 ^ 63 → (g.words ≤ left → g.fram + least_of left ps ≤ g.sram + least_of (left - g.words) ps) → IsWalk gains room gs homes (cost + g.fram) left
walk_out gains room g gs homes cost left ps w f small better = record {
  within = w.within;
  small = omega (arith, w.small);
  goes = λ choice le.
      let (whole, words, costs, objects) = w.goes (false ∷ choice) (omega arith) in
      (whole, words, omega arith, objects);
  bound = λ c is choice le.
      omega (
        arith,
        w.bound (g.fram + c)
            (λ head head_le. bound_out g gs left (least_of (left - g.words) ps) (least_of left ps) c is
            (λ fits. least_below gs room (left - g.words) ps f (omega (arith, w.within))) (least_costs gs room left ps f w.within small) better (first head) (rest head) head_le)
            choice le,
      );
}

better_yes : (g : Gain) (left : ℕ) (ps : List Pair) → better_in g left ps ≡ true → (g.words ≤ left) × (g.sram + least_of (left - g.words) ps < g.fram + least_of left ps)
better_yes g left ps e = yes_by (nat_le g.words left) (nat_lt (g.sram + least_of (left - g.words) ps) (g.fram + least_of left ps)) refl refl e
  where
    yes_by : (t u : Bool) → nat_le g.words left ≡ t → nat_lt (g.sram + least_of (left - g.words) ps) (g.fram + least_of left ps) ≡ u → (if t then u else false) ≡ true
        → (g.words ≤ left) × (g.sram + least_of (left - g.words) ps < g.fram + least_of left ps)
    yes_by true true d h e = (grind (arith, d), grind (arith, h))
    yes_by true false d h e = absurd (cc)
    yes_by false u d h e = absurd (cc)

better_no : (g : Gain) (left : ℕ) (ps : List Pair) → better_in g left ps ≡ false → g.words ≤ left → g.fram + least_of left ps ≤ g.sram + least_of (left - g.words) ps
better_no g left ps e le = no_by (nat_le g.words left) (nat_lt (g.sram + least_of (left - g.words) ps) (g.fram + least_of left ps)) refl refl e
  where
    no_by : (t u : Bool) → nat_le g.words left ≡ t → nat_lt (g.sram + least_of (left - g.words) ps) (g.fram + least_of left ps) ≡ u → (if t then u else false) ≡ false
        → g.fram + least_of left ps ≤ g.sram + least_of (left - g.words) ps
    no_by true false d h e = grind (arith, h)
    no_by true true d h e = absurd (cc)
    no_by false u d h e = absurd (grind (arith, d, le))

settled_by : (t : Bool) (gains : List Gain) (room : ℕ) (g : Gain) (gs : List Gain) (homes : List ℕ) (cost left : ℕ) (ps : List Pair) → better_in g left ps ≡ t → IsWalk gains room (g ∷ gs) homes cost left → IsFrontier gs room ps
    → all_costs gs < 2 ^ 63 → IsWalk gains room gs (if t then homes ++ g.object ∷ [] else homes) (cost + (if t then g.sram else g.fram)) (left - (if t then g.words else 0))
settled_by true gains room g gs homes cost left ps e w f small = let (fits, better) = better_yes g left ps e in walk_in gains room g gs homes cost left ps w f small fits better
settled_by false gains room g gs homes cost left ps e w f small =
    subst (λ (n : ℕ). IsWalk gains room gs homes (cost + g.fram) n) (omega arith) (walk_out gains room g gs homes cost left ps w f small (better_no g left ps e))

pub walk_more : (gains : List Gain) (room : ℕ) (g : Gain) (gs : List Gain) (homes : List ℕ) (cost left : ℕ) (homes' : List ℕ) (cost' left' : ℕ) (ps : List Pair) → all_costs gains < 2 ^ 63
    → IsWalk gains room (g ∷ gs) homes cost left → IsFrontier gs room ps → Settles g ps homes cost left homes' cost' left' → IsWalk gains room gs homes' cost' left'
walk_more gains room g gs homes cost left homes' cost' left' ps small w f (e, e', e'') =
    let small_rest : all_costs gs < 2 ^ 63 = omega (arith, w.small) in
    subst (λ (hs : List ℕ). IsWalk gains room gs hs cost' left') (sym e)
    (subst (λ (c : ℕ). IsWalk gains room gs (if better_in g left ps then homes ++ g.object ∷ [] else homes) c left') (sym e')
    (subst (λ (n : ℕ). IsWalk gains room gs (if better_in g left ps then homes ++ g.object ∷ [] else homes) (cost + (if better_in g left ps then g.sram else g.fram)) n) (sym e'')
    (settled_by (better_in g left ps) gains room g gs homes cost left ps refl w f small_rest)))

-- ---- the walk at a place

layers_length : (g : Gain) (gs : List Gain) (room : ℕ) (layers : List (Vec Pair Global)) → AreLayers (g ∷ gs) room layers → 0 < length layers
layers_length g gs room [] are = absurd are
layers_length g gs room (pairs ∷ layers) are = omega arith

pub layers_some : (gains : List Gain) (i room : ℕ) (layers : List (Vec Pair Global)) → i < length gains → AreLayers (drop i gains) room (reverse layers) → 0 < length layers
layers_some gains i room layers lt are =
    let none : Gain = record { object = 0; words = 0; fram = 0; sram = 0 } in
    omega (
      arith,
      length-reverse layers,
      layers_length (get_or gains i none) (drop (suc i) gains) room (reverse layers)
          (subst (λ (gs : List Gain). AreLayers gs room (reverse layers)) (drop-cons gains i none lt) are),
    )

pub walk_costs : (gains : List Gain) (i room : ℕ) (d : Gain) (homes : List ℕ) (cost left : ℕ) → i < length gains → all_costs gains < 2 ^ 63 → IsWalk gains room (drop i gains) homes cost left
    → cost + ((get_or gains i d).fram + (get_or gains i d).sram) < 2 ^ 63
walk_costs gains i room d homes cost left lt small w = let e = ap all_costs (drop-cons gains i d lt) in omega (arith, w.small, e)

pub walk_at : (gains : List Gain) (i room : ℕ) (d : Gain) (layers layers' : List (Vec Pair Global)) (pairs : Vec Pair Global) (homes : List ℕ) (cost left : ℕ) (homes' : List ℕ) (cost' left' : ℕ) → i < length gains
    → all_costs gains < 2 ^ 63 → IsWalk gains room (drop i gains) homes cost left → AreLayers (drop i gains) room (reverse layers) → layers ≡ layers' ++ pairs ∷ []
    → Settles (get_or gains i d) pairs.items homes cost left homes' cost' left'
    → IsWalk gains room (drop (i + 1) gains) homes' cost' left' × AreLayers (drop (i + 1) gains) room (reverse layers')
walk_at gains i room d layers layers' pairs homes cost left homes' cost' left' lt small w are e settles =
    let g = get_or gains i d in
    let gs = drop (suc i) gains in
    let split = drop-cons gains i d lt in
    let all = subst (λ (ls : List (Vec Pair Global)). AreLayers (g ∷ gs) room ls) (push_front layers' layers pairs e) (subst (λ (ts : List Gain). AreLayers ts room (reverse layers)) split are) in (
      subst (λ (n : ℕ). IsWalk gains room (drop n gains) homes' cost' left') (sym (add-one i))
          (walk_more gains room g gs homes cost left homes' cost' left' pairs.items small (subst (λ (ts : List Gain). IsWalk gains room ts homes cost left) split w) all.0 settles),
      subst (λ (n : ℕ). AreLayers (drop n gains) room (reverse layers')) (sym (add-one i)) all.1,
    )

pub walk_done : (gains : List Gain) (i room : ℕ) (homes : List ℕ) (cost left : ℕ) → length gains ≤ i → IsWalk gains room (drop i gains) homes cost left → IsBestChoice gains room homes cost
walk_done gains i room homes cost left le w = walk_end gains room homes cost left (subst (λ (gs : List Gain). IsWalk gains room gs homes cost left) (drop_of_length-le gains le) w)
