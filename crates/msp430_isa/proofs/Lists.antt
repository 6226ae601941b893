-- A list that begins with an instruction's words.
use Rattle.std.proofs.Common.{◌≡◌, ℕ, ◌+◌, ◌≤◌, refl, arith, List, [], ◌∷◌, ◌++◌, length, take, get_or}
use Rattle.msp430_isa.specs.Decoding.{behind}

-- at most one word, x
abbrev pub Takes : List ℕ → ℕ → Type 0
Takes words x = words ≡ take (length words) (x ∷ [])

pub record Laid (words : List ℕ) (w : ℕ) (first second : List ℕ) : Type 0 where
  pub opens : get_or words 0 0 ≡ w
  pub first_is : Takes first (get_or words 1 0)
  pub second_is : Takes second (behind first (get_or words 1 0) (get_or words 2 0))

laid_none : (words : List ℕ) (w : ℕ) → take 1 words ≡ w ∷ [] → Laid words w [] []
laid_none [] w e = cc
laid_none (x ∷ l) w e = record { opens = cc; first_is = refl; second_is = refl }

laid_first : (words : List ℕ) (w a : ℕ) → take 2 words ≡ w ∷ a ∷ [] → Laid words w (a ∷ []) []
laid_first [] w a e = cc
laid_first (x ∷ []) w a e = cc
laid_first (x ∷ y ∷ l) w a e = record { opens = cc; first_is = cc; second_is = refl }

laid_second : (words : List ℕ) (w b : ℕ) → take 2 words ≡ w ∷ b ∷ [] → Laid words w [] (b ∷ [])
laid_second [] w b e = cc
laid_second (x ∷ []) w b e = cc
laid_second (x ∷ y ∷ l) w b e = record { opens = cc; first_is = refl; second_is = cc }

laid_both : (words : List ℕ) (w a b : ℕ) → take 3 words ≡ w ∷ a ∷ b ∷ [] → Laid words w (a ∷ []) (b ∷ [])
laid_both [] w a b e = cc
laid_both (x ∷ []) w a b e = cc
laid_both (x ∷ y ∷ []) w a b e = cc
laid_both (x ∷ y ∷ z ∷ l) w a b e = record { opens = cc; first_is = cc; second_is = cc }

pub laid : (words : List ℕ) (w : ℕ) (first second : List ℕ) → length first ≤ 1 → length second ≤ 1 → take (1 + length first + length second) words ≡ w ∷ (first ++ second) → Laid words w first second
laid words w [] [] h k e = laid_none words w e
laid words w [] (b ∷ []) h k e = laid_second words w b e
laid words w [] (b ∷ c ∷ l) h k e = absurd (omega arith)
laid words w (a ∷ []) [] h k e = laid_first words w a e
laid words w (a ∷ []) (b ∷ []) h k e = laid_both words w a b e
laid words w (a ∷ []) (b ∷ c ∷ l) h k e = absurd (omega arith)
laid words w (a ∷ d ∷ l) second h k e = absurd (omega arith)

lay_none : (words : List ℕ) (w : ℕ) → Laid words w [] [] → 1 ≤ length words → take 1 words ≡ w ∷ []
lay_none [] w e k = absurd (omega arith)
lay_none (x ∷ l) w e k = (let is : x ≡ w = e.opens in cc)

lay_first : (words : List ℕ) (w a : ℕ) → Laid words w (a ∷ []) [] → 2 ≤ length words → take 2 words ≡ w ∷ a ∷ []
lay_first [] w a e k = absurd (omega arith)
lay_first (x ∷ []) w a e k = absurd (omega arith)
lay_first (x ∷ y ∷ l) w a e k = (let is : x ≡ w = e.opens in let f : a ∷ [] ≡ y ∷ [] = e.first_is in cc)

lay_second : (words : List ℕ) (w b : ℕ) → Laid words w [] (b ∷ []) → 2 ≤ length words → take 2 words ≡ w ∷ b ∷ []
lay_second [] w b e k = absurd (omega arith)
lay_second (x ∷ []) w b e k = absurd (omega arith)
lay_second (x ∷ y ∷ l) w b e k = (let is : x ≡ w = e.opens in let s : b ∷ [] ≡ y ∷ [] = e.second_is in cc)

lay_both : (words : List ℕ) (w a b : ℕ) → Laid words w (a ∷ []) (b ∷ []) → 3 ≤ length words → take 3 words ≡ w ∷ a ∷ b ∷ []
lay_both [] w a b e k = absurd (omega arith)
lay_both (x ∷ []) w a b e k = absurd (omega arith)
lay_both (x ∷ y ∷ []) w a b e k = absurd (omega arith)
lay_both (x ∷ y ∷ z ∷ l) w a b e k = (let is : x ≡ w = e.opens in let f : a ∷ [] ≡ y ∷ [] = e.first_is in let s : b ∷ [] ≡ z ∷ [] = e.second_is in cc)

pub lay : (words : List ℕ) (w : ℕ) (first second : List ℕ) → length first ≤ 1 → length second ≤ 1 → Laid words w first second → 1 + length first + length second ≤ length words → take (1 + length first + length second) words ≡ w ∷ (first ++ second)
lay words w [] [] h k e n = lay_none words w e n
lay words w [] (b ∷ []) h k e n = lay_second words w b e n
lay words w [] (b ∷ c ∷ l) h k e n = absurd (omega arith)
lay words w (a ∷ []) [] h k e n = lay_first words w a e n
lay words w (a ∷ []) (b ∷ []) h k e n = lay_both words w a b e n
lay words w (a ∷ []) (b ∷ c ∷ l) h k e n = absurd (omega arith)
lay words w (a ∷ d ∷ l) second h k e n = absurd (omega arith)

-- with one operand at most
pub laid_one : (words : List ℕ) (w : ℕ) (first : List ℕ) → length first ≤ 1 → take (1 + length first) words ≡ w ∷ first → Laid words w first []
laid_one words w [] h e = laid_none words w e
laid_one words w (a ∷ []) h e = laid_first words w a e
laid_one words w (a ∷ b ∷ l) h e = absurd (omega arith)

pub lay_one : (words : List ℕ) (w : ℕ) (first : List ℕ) → length first ≤ 1 → Laid words w first [] → 1 + length first ≤ length words → take (1 + length first) words ≡ w ∷ first
lay_one words w [] h e n = lay_none words w e n
lay_one words w (a ∷ []) h e n = lay_first words w a e n
lay_one words w (a ∷ b ∷ l) h e n = absurd (omega arith)

-- an instruction's own words
pub whole : (w : ℕ) (first second : List ℕ) → length first ≤ 1 → length second ≤ 1 → (take (1 + length first + length second) (w ∷ (first ++ second)) ≡ w ∷ (first ++ second)) × (1 + length first + length second ≤ length (w ∷ (first ++ second)))
whole w [] [] h k = (refl, omega arith)
whole w [] (b ∷ []) h k = (refl, omega arith)
whole w [] (b ∷ c ∷ l) h k = absurd (omega arith)
whole w (a ∷ []) [] h k = (refl, omega arith)
whole w (a ∷ []) (b ∷ []) h k = (refl, omega arith)
whole w (a ∷ []) (b ∷ c ∷ l) h k = absurd (omega arith)
whole w (a ∷ d ∷ l) second h k = absurd (omega arith)

pub whole_one : (w : ℕ) (first : List ℕ) → length first ≤ 1 → (take (1 + length first) (w ∷ first) ≡ w ∷ first) × (1 + length first ≤ length (w ∷ first))
whole_one w [] h = (refl, omega arith)
whole_one w (a ∷ []) h = (refl, omega arith)
whole_one w (a ∷ b ∷ l) h = absurd (omega arith)
