-- The least over the choices of one gain more.
use Rattle.std.specs.Prelude.{if◌then◌else◌, min, length, get_or, take, drop}
use Rattle.std.proofs.Common.{◌≡◌, ◌<◌, ◌≤◌, ◌+◌, ◌-◌, ℕ, Bool, true, false, List, [], ◌∷◌, inl, inr, refl, zero, suc, sym, ap, subst, arith}
use Rattle.std.proofs.lemmas.Bool.{cases_lt}
use Rattle.home_planner.specs.declared.Gain.{Gain}
use Rattle.home_planner.specs.Choices.{IsLeastChoice, cost_by, first, rest, words_by}

bound_out : (g : Gain) (gs : List Gain) (room c : ℕ) → room < g.words → IsLeastChoice gs room c → (t : Bool) (tail : List Bool) → (if t then g.words else 0) + words_by gs tail ≤ room
    → g.fram + c ≤ (if t then g.sram else g.fram) + cost_by gs tail
bound_out g gs room c lt least true tail fits = absurd (omega arith)
bound_out g gs room c lt least false tail fits = omega (arith, least.1 tail (omega arith))

pub least_out : (g : Gain) (gs : List Gain) (room c : ℕ) → room < g.words → IsLeastChoice gs room c → IsLeastChoice (g ∷ gs) room (g.fram + c)
least_out g gs room c lt least =
    let (choice, words, cost) = least.0 in
    ((false ∷ choice, omega arith, omega arith), λ whole fits. bound_out g gs room c lt least (first whole) (rest whole) fits)

bound_both : (g : Gain) (gs : List Gain) (room c d : ℕ) → IsLeastChoice gs room c → IsLeastChoice gs (room - g.words) d → (t : Bool) (tail : List Bool) → (if t then g.words else 0) + words_by gs tail ≤ room
    → min (g.fram + c) (g.sram + d) ≤ (if t then g.sram else g.fram) + cost_by gs tail
bound_both g gs room c d least least_in true tail fits = omega (arith, least_in.1 tail (omega arith))
bound_both g gs room c d least least_in false tail fits = omega (arith, least.1 tail (omega arith))

pub least_both : (g : Gain) (gs : List Gain) (room c d : ℕ) → g.words ≤ room → IsLeastChoice gs room c → IsLeastChoice gs (room - g.words) d → IsLeastChoice (g ∷ gs) room (min (g.fram + c) (g.sram + d))
least_both g gs room c d le least least_in =
    let (choice, words, cost) = least.0 in
    let (choice', words', cost') = least_in.0 in (
      elim (cases_lt (g.sram + d) (g.fram + c)) [
        | inl h ↦ (true ∷ choice', omega arith, omega arith)
        | inr h ↦ (false ∷ choice, omega arith, omega arith)
      ],
      λ whole fits. bound_both g gs room c d least least_in (first whole) (rest whole) fits,
    )

-- ---- the first gain and those behind it

take_all : (gs : List Gain) (n : ℕ) → length gs ≤ n → take n gs ≡ gs
take_all [] zero le = refl
take_all [] (suc n) le = refl
take_all (g ∷ gs) zero le = absurd (omega arith)
take_all (g ∷ gs) (suc n) le = ap (λ (ts : List Gain). g ∷ ts) (take_all gs n (omega arith))

pub split : (gains : List Gain) (d : Gain) → 1 ≤ length gains → gains ≡ get_or gains 0 d ∷ take (length gains - 1) (drop 1 gains)
split [] d le = absurd (omega arith)
split (g ∷ gs) d le = let fits : length gs ≤ length (g ∷ gs) - 1 = omega arith in ap (λ (ts : List Gain). g ∷ ts) (sym (take_all gs (length (g ∷ gs) - 1) fits))

pub least_out_at : (gains : List Gain) (d : Gain) (room c : ℕ) → 1 ≤ length gains → room < (get_or gains 0 d).words → IsLeastChoice (take (length gains - 1) (drop 1 gains)) room c
    → IsLeastChoice gains room ((get_or gains 0 d).fram + c)
least_out_at gains d room c le lt least =
    subst (λ (gs : List Gain). IsLeastChoice gs room ((get_or gains 0 d).fram + c)) (sym (split gains d le)) (least_out (get_or gains 0 d) (take (length gains - 1) (drop 1 gains)) room c lt least)

pub least_both_at : (gains : List Gain) (d : Gain) (room c e : ℕ) → 1 ≤ length gains → (get_or gains 0 d).words ≤ room → IsLeastChoice (take (length gains - 1) (drop 1 gains)) room c
    → IsLeastChoice (take (length gains - 1) (drop 1 gains)) (room - (get_or gains 0 d).words) e → IsLeastChoice gains room (min ((get_or gains 0 d).fram + c) ((get_or gains 0 d).sram + e))
least_both_at gains d room c e le fits least least_in =
    subst (λ (gs : List Gain). IsLeastChoice gs room (min ((get_or gains 0 d).fram + c) ((get_or gains 0 d).sram + e))) (sym (split gains d le))
    (least_both (get_or gains 0 d) (take (length gains - 1) (drop 1 gains)) room c e fits least least_in)
