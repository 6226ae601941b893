-- The lesser costs of all gains together, where their words have room.
use Rattle.std.specs.Prelude.{if◌then◌else◌, nat_lt, length, get_or, take, drop}
use Rattle.std.proofs.Common.{◌≡◌, ◌<◌, ◌≤◌, ◌+◌, ◌-◌, ℕ, Bool, true, false, List, [], ◌∷◌, refl, sym, ap, subst, arith}
use Rattle.home_planner.specs.declared.Gain.{Gain}
use Rattle.home_planner.specs.declared.Pair.{Pair}
use Rattle.home_planner.specs.Sets.{Differ, IsLeast, all_costs}
use Rattle.home_planner.specs.Choices.{IsLowestChoice, cost_by, first, lesser_by, lesser_of, rest}
use Rattle.home_planner.proofs.Bridge.{least_of_choices}
use Rattle.home_planner.proofs.EverySet.{split}

pub lowest_none : (room : ℕ) → IsLowestChoice [] room 0
lowest_none room = (([], omega arith, refl), λ choice. omega arith)

bound : (g : Gain) (gs : List Gain) (low c : ℕ) → low ≤ g.sram → low ≤ g.fram → ((choice : List Bool) → c ≤ cost_by gs choice) → (t : Bool) (tail : List Bool) → low + c ≤ (if t then g.sram else g.fram) + cost_by gs tail
bound g gs low c sram fram none true tail = omega (arith, none tail)
bound g gs low c sram fram none false tail = omega (arith, none tail)

lowest_by : (t : Bool) (g : Gain) (gs : List Gain) (room c : ℕ) → nat_lt g.sram g.fram ≡ t → (lesser_by t g).words ≤ room → IsLowestChoice gs (room - (lesser_by t g).words) c → IsLowestChoice (g ∷ gs) room ((lesser_by t g).cost + c)
lowest_by true g gs room c test fits lowest =
    let lt : g.sram < g.fram = grind (arith, test) in
    let (choice, words, cost) = lowest.0 in
    ((true ∷ choice, omega arith, omega arith), λ whole. bound g gs g.sram c (omega arith) (omega arith) lowest.1 (first whole) (rest whole))
lowest_by false g gs room c test fits lowest =
    let le : g.fram ≤ g.sram = grind (arith, test) in
    let (choice, words, cost) = lowest.0 in
    ((false ∷ choice, omega arith, omega arith), λ whole. bound g gs g.fram c (omega arith) (omega arith) lowest.1 (first whole) (rest whole))

-- one gain more before the others
pub lowest_more : (g : Gain) (gs : List Gain) (p : Pair) (room c : ℕ) → p ≡ lesser_of g → p.words ≤ room → IsLowestChoice gs (room - p.words) c → IsLowestChoice (g ∷ gs) room (p.cost + c)
lowest_more g gs p room c e fits lowest =
    subst (λ (q : Pair). q.words ≤ room → IsLowestChoice gs (room - q.words) c → IsLowestChoice (g ∷ gs) room (q.cost + c)) (sym e)
    (λ fits' lowest'. lowest_by (nat_lt g.sram g.fram) g gs room c refl fits' lowest') fits lowest

pub lesser_small : (g : Gain) → (lesser_of g).cost ≤ g.fram + g.sram
lesser_small g = by (nat_lt g.sram g.fram) g
  where
    by : (t : Bool) (g : Gain) → (lesser_by t g).cost ≤ g.fram + g.sram
    by true g = omega arith
    by false g = omega arith

-- ---- the first gain and those behind it

pub lowest_at : (left : List Gain) (d : Gain) (p : Pair) (room c : ℕ) → 1 ≤ length left → p ≡ lesser_of (get_or left 0 d) → p.words ≤ room → IsLowestChoice (take (length left - 1) (drop 1 left)) (room - p.words) c
    → IsLowestChoice left room (p.cost + c)
lowest_at left d p room c some e fits lowest =
    subst (λ (gs : List Gain). IsLowestChoice gs room (p.cost + c)) (sym (split left d some)) (lowest_more (get_or left 0 d) (take (length left - 1) (drop 1 left)) p room c e fits lowest)

costs_more : (g : Gain) (gs : List Gain) (p : Pair) → p ≡ lesser_of g → p.cost + all_costs gs ≤ all_costs (g ∷ gs)
costs_more g gs p e = let same = ap (λ (q : Pair). q.cost) e in omega (arith, same, lesser_small g)

pub costs_at : (left : List Gain) (d : Gain) (p : Pair) → 1 ≤ length left → p ≡ lesser_of (get_or left 0 d) → p.cost + all_costs (take (length left - 1) (drop 1 left)) ≤ all_costs left
costs_at left d p some e =
    subst (λ (gs : List Gain). p.cost + all_costs (take (length left - 1) (drop 1 left)) ≤ all_costs gs) (sym (split left d some)) (costs_more (get_or left 0 d) (take (length left - 1) (drop 1 left)) p e)

-- ---- nothing is left

pub lowest_end : (gains left : List Gain) (room free cost : ℕ) → length left < 1 → ((more : ℕ) → IsLowestChoice left free more → IsLowestChoice gains room (cost + more)) → IsLowestChoice gains room cost
lowest_end gains [] room free cost none so_far = subst (λ (n : ℕ). IsLowestChoice gains room n) (omega arith) (so_far 0 (lowest_none free))
lowest_end gains (g ∷ gs) room free cost none so_far = absurd (omega arith)

pub lowest_least : (gains : List Gain) (room cost : ℕ) → Differ gains → IsLowestChoice gains room cost → IsLeast gains room cost
lowest_least gains room cost differ (reached, none) = least_of_choices gains room cost differ (reached, λ choice fits. none choice)
