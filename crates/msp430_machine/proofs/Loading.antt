-- Bytes laid into memory, and the words that they are.
use Rattle.std.proofs.Common.{◌≡◌, ℕ, ◌+◌, ◌-◌, ◌*◌, ◌/◌, ◌%◌, ◌<◌, ◌≤◌, true, false, None, List, [], ◌∷◌, length, get_or, replicate, refl, sym, ap, ◌∙◌, subst, arith, ⊎_elim, ◌⊎◌, zero, suc}
use Rattle.std.specs.Prelude.{if◌then◌else◌, ◌==◌, ◌&&◌, nat_le, nat_lt, slice_get, unwrap_or, Bool, map}
use Rattle.std.proofs.lemmas.Bool.Decides.{nat_tests}
use Rattle.std.proofs.lemmas.List.{get_or_past}
use Rattle.ti_txt.specs.Image.{Block, block_of, end_of, Ascend}
use Rattle.ti_txt.specs.declared.image.Segment.{Segment}
use Rattle.ti_txt.specs.Bytes.{byte_in}
use Rattle.msp430_machine.specs.Memory.{half}
use Rattle.msp430_machine.specs.Loading.{byte_over, loaded_word}

pub zero_at : (n a : ℕ) → ◌≡◌ {A = ℕ} (get_or (replicate n 0) a 0) 0
zero_at zero a = refl
zero_at (suc n) zero = refl
zero_at (suc n) (suc a) = zero_at n a

bool_cases : (b : Bool) (P : Type 0) → (b ≡ true → P) → (b ≡ false → P) → P
bool_cases true P holds fails = holds refl
bool_cases false P holds fails = fails refl

-- the first n bytes are laid from start on
abbrev pub laid : ℕ → List ℕ → ℕ → List ℕ → ℕ → ℕ
laid start ys n old a = if nat_le start a && nat_lt a (start + n) then get_or ys (a - start) 0 else get_or old a 0

-- below where blocks begin they have no byte
pub none_below : (low : ℕ) (blocks : List Block) (a : ℕ) → Ascend low blocks → a < low → byte_in blocks a ≡ None
none_below low [] a h below = refl
none_below low (b ∷ rest) a h below =
    let outside : (nat_le b.start a && nat_lt a (b.start + length b.bytes)) ≡ false = grind (arith, nat_tests, h.0) in
    ap (λ c. if c then slice_get b.bytes (a - b.start) else byte_in rest a) outside
    ∙ none_below (end_of b + 1) rest a h.3 (omega (arith, h.0))

-- What is left to be laid, over what is there, stays the same when a block is laid.
over_inside : (low : ℕ) (b : Block) (rest : List Block) (old now : List ℕ) (a : ℕ) → Ascend low (b ∷ rest) → (nat_le b.start a && nat_lt a (end_of b)) ≡ true → get_or now a 0 ≡ byte_over (b ∷ []) old a → byte_over rest now a ≡ byte_over (b ∷ rest) old a
over_inside low b rest old now a h inside e =
    let below : a < end_of b + 1 = grind (arith, nat_tests) in
    ap (λ o. unwrap_or o (get_or now a 0)) (none_below (end_of b + 1) rest a h.3 below)
    ∙ e
    ∙ ap (λ c. unwrap_or (if c then slice_get b.bytes (a - b.start) else None) (get_or old a 0)) inside
    ∙ sym (ap (λ c. unwrap_or (if c then slice_get b.bytes (a - b.start) else byte_in rest a) (get_or old a 0)) inside)

over_outside : (b : Block) (rest : List Block) (old now : List ℕ) (a : ℕ) → (nat_le b.start a && nat_lt a (end_of b)) ≡ false → get_or now a 0 ≡ byte_over (b ∷ []) old a → byte_over rest now a ≡ byte_over (b ∷ rest) old a
over_outside b rest old now a outside e =
    ap (λ v. unwrap_or (byte_in rest a) v) (e ∙ ap (λ c. unwrap_or (if c then slice_get b.bytes (a - b.start) else None) (get_or old a 0)) outside)
    ∙ sym (ap (λ c. unwrap_or (if c then slice_get b.bytes (a - b.start) else byte_in rest a) (get_or old a 0)) outside)

pub one_laid : (low : ℕ) (b : Block) (rest : List Block) (old now : List ℕ) → Ascend low (b ∷ rest) → ((a : ℕ) → get_or now a 0 ≡ byte_over (b ∷ []) old a) → (a : ℕ) → byte_over rest now a ≡ byte_over (b ∷ rest) old a
one_laid low b rest old now h e a =
    bool_cases (nat_le b.start a && nat_lt a (end_of b)) _ (λ inside. over_inside low b rest old now a h inside (e a)) (λ outside. over_outside b rest old now a outside (e a))

pub record Laid (bytes initial : List ℕ) (all left : List Segment) : Type 0 where
  pub long : length bytes ≡ 65536
  pub ascend : (low : ℕ) × Ascend low (map block_of left)
  pub over : (a : ℕ) → byte_over (map block_of left) bytes a ≡ byte_over (map block_of all) initial a

pub laid_step : (old now initial : List ℕ) (all left rest : List Segment) (x : Segment) → left ≡ x ∷ rest → Laid old initial all left → length now ≡ 65536 → ((a : ℕ) → get_or now a 0 ≡ byte_over (block_of x ∷ []) old a) → Laid now initial all rest
laid_step old now initial all left rest x is h long e =
    let ascends : Ascend h.ascend.0 (block_of x ∷ map block_of rest) = subst (λ l. Ascend h.ascend.0 (map block_of l)) is h.ascend.1 in
    record {
      long = long;
      ascend = (end_of (block_of x) + 1, ascends.3);
      over = λ a. one_laid h.ascend.0 (block_of x) (map block_of rest) old now ascends e a ∙ ap (λ l. byte_over (map block_of l) old a) (sym is) ∙ h.over a;
    }

-- ---- Bytes as halves of words

parity : (a : ℕ) → (a % 2 ≡ 0) ⊎ (a % 2 ≡ 1)
parity a = grind arith

half_even : (a w lo hi : ℕ) → a % 2 ≡ 0 → w ≡ lo + 256 * hi → lo < 256 → half a w ≡ lo
half_even a w lo hi e is small =
    let t : (a % 2 == 0) ≡ true = grind (arith, nat_tests) in
    let low : w % 256 ≡ lo = omega arith in
    ap (λ c. if c then w % 256 else w / 256) t ∙ low

half_odd : (a w lo hi : ℕ) → a % 2 ≡ 1 → w ≡ lo + 256 * hi → lo < 256 → half a w ≡ hi
half_odd a w lo hi e is small =
    let t : (a % 2 == 0) ≡ false = grind (arith, nat_tests) in
    let high : w / 256 ≡ hi = omega arith in
    ap (λ c. if c then w % 256 else w / 256) t ∙ high

-- the word from start on that the byte at a stands in
pub half_of_pair : (bytes : List ℕ) (start a w : ℕ) → ((x : ℕ) → get_or bytes x 0 < 256) → start % 2 ≡ 0 → start ≤ a
    → w ≡ get_or bytes (start + 2 * ((a - start) / 2)) 0 + 256 * get_or bytes (start + 2 * ((a - start) / 2) + 1) 0 → half a w ≡ get_or bytes a 0
half_of_pair bytes start a w small even low is =
    ⊎_elim
    (λ e. (let same : start + 2 * ((a - start) / 2) ≡ a = omega arith in half_even a w _ _ e is (small _) ∙ ap (λ x. get_or bytes x 0) same))
    (λ e. (let same : start + 2 * ((a - start) / 2) + 1 ≡ a = omega arith in half_odd a w _ _ e is (small _) ∙ ap (λ x. get_or bytes x 0) same))
    (parity a)

-- ---- Words of a memory

-- a memory that is filled from these bytes
pub word_loaded : (blocks : List Block) (bytes words : List ℕ) (start : ℕ) → ((a : ℕ) → get_or bytes a 0 ≡ byte_over blocks [] a)
    → ((k : ℕ) → k < 16384 → get_or words k 0 ≡ get_or bytes (start + 2 * k) 0 + 256 * get_or bytes (start + 2 * k + 1) 0)
    → length words ≡ 16384 → (k : ℕ) → get_or words k 0 ≡ loaded_word blocks start k
word_loaded blocks bytes words start over within count k =
    let there = byte_over blocks [] (start + 2 * k) + 256 * byte_over blocks [] (start + 2 * k + 1) in
    bool_cases (nat_lt k 16384) (get_or words k 0 ≡ loaded_word blocks start k)
    (λ is. (let below : k < 16384 = grind (arith, nat_tests) in
    within k below
    ∙ ap (λ x. x + 256 * get_or bytes (start + 2 * k + 1) 0) (over (start + 2 * k))
    ∙ ap (λ x. byte_over blocks [] (start + 2 * k) + 256 * x) (over (start + 2 * k + 1))
    ∙ sym (ap (λ c. if c then there else 0) is)))
    (λ other. (let beyond : length words ≤ k = grind (arith, nat_tests) in
    get_or_past words k 0 beyond ∙ sym (ap (λ c. if c then there else 0) other)))
