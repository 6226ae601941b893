-- The words of an image: those of each block, where blocks ascend.
use Rattle.std.proofs.Common.{◌≡◌, ℕ, zero, suc, ◌+◌, ◌*◌, ◌-◌, ◌/◌, ◌%◌, ◌<◌, ◌≤◌, true, false, Some, List, [], ◌∷◌, ◌++◌, length, refl, ap, ◌∙◌, arith}
use Rattle.std.specs.Prelude.{◌&&◌, nat_le, nat_lt, is_some, slice_get, if◌then◌else◌}
use Rattle.std.specs.Option.{option_and_then, option_map}
use Rattle.std.proofs.lemmas.Bool.Decides.{nat_tests}
use Rattle.ti_txt.specs.Image.{Ascend, Block, end_of}
use Rattle.ti_txt.specs.Bytes.{byte_in}
use Rattle.resumed_runs.specs.Bytes.{bytes_of}
use Rattle.cert_rules.specs.Words.{word_in}
use Rattle.cert_rules.specs.Tables.{code_end}
use Rattle.each_image.proofs.Loaded.{bytes-length}

-- ---- Blocks before a block end before it

ascend_to : (low : ℕ) (xs : List Block) (y : Block) (zs : List Block) → Ascend low (xs ++ y ∷ zs) → low ≤ y.start
ascend_to low [] y zs h = h.0
ascend_to low (x ∷ xs) y zs h = (let on = ascend_to (end_of x + 1) xs y zs h.3 in let at = h.0 in omega (arith, on, at))

elsewhere : (start end' a : ℕ) → end' ≤ a → nat_le start a && nat_lt a end' ≡ false
elsewhere start end' a h = grind (arith, nat_tests)

within : (start end' a : ℕ) → start ≤ a → a < end' → nat_le start a && nat_lt a end' ≡ true
within start end' a h k = grind (arith, nat_tests)

pub byte_later : (low : ℕ) (xs : List Block) (y : Block) (zs : List Block) (a : ℕ) → Ascend low (xs ++ y ∷ zs) → y.start ≤ a → byte_in (xs ++ y ∷ zs) a ≡ byte_in (y ∷ zs) a
byte_later low [] y zs a h k = refl
byte_later low (x ∷ xs) y zs a h k =
    let on = ascend_to (end_of x + 1) xs y zs h.3 in
    ap (λ c. if c then slice_get x.bytes (a - x.start) else byte_in (xs ++ y ∷ zs) a) (elsewhere x.start (end_of x) a (omega (arith, on, k)))
    ∙ byte_later (end_of x + 1) xs y zs a h.3 k

byte_here : (y : Block) (zs : List Block) (a : ℕ) → y.start ≤ a → a < end_of y → byte_in (y ∷ zs) a ≡ slice_get y.bytes (a - y.start)
byte_here y zs a h k = ap (λ c. if c then slice_get y.bytes (a - y.start) else byte_in zs a) (within y.start (end_of y) a h k)

-- the segment that holds the byte at 0x8000
pub code_ends : (low : ℕ) (xs : List Block) (y : Block) (zs : List Block) → Ascend low (xs ++ y ∷ zs) → y.start ≡ 0x8000 → 0 < length y.bytes → code_end (xs ++ y ∷ zs) ≡ Some (end_of y)
code_ends low [] y zs h e some = ap (λ c. if c then Some (end_of y) else code_end zs) (within y.start (end_of y) 0x8000 (omega (arith, e)) (omega (arith, e, some)))
code_ends low (x ∷ xs) y zs h e some =
    let on = ascend_to (end_of x + 1) xs y zs h.3 in
    ap (λ c. if c then Some (end_of x) else code_end (xs ++ y ∷ zs)) (elsewhere x.start (end_of x) 0x8000 (omega (arith, on, e)))
    ∙ code_ends (end_of x + 1) xs y zs h.3 e some

-- ---- Words of a block

get_length : (xs : List ℕ) (k w : ℕ) → slice_get xs k ≡ Some w → k < length xs
get_length [] k w e = absurd (let no : false ≡ true = ap (λ o. is_some o) e in cc)
get_length (x ∷ xs) zero w e = omega arith
get_length (x ∷ xs) (suc k) w e = let h = get_length xs k w e in omega (arith, h)

low_byte : (ws : List ℕ) (k w : ℕ) → slice_get ws k ≡ Some w → slice_get (bytes_of ws) (2 * k) ≡ Some (w % 256)
low_byte [] k w e = absurd (let no : false ≡ true = ap (λ o. is_some o) e in cc)
low_byte (v ∷ ws) zero w e = let same : v ≡ w = cc in ap (λ n. Some (n % 256)) same
low_byte (v ∷ ws) (suc k) w e = ap (λ n. slice_get (v % 256 ∷ v / 256 ∷ bytes_of ws) n) (twice k) ∙ low_byte ws k w e
  where
    twice : (n : ℕ) → 2 * suc n ≡ suc (suc (2 * n))
    twice n = omega arith

high_byte : (ws : List ℕ) (k w : ℕ) → slice_get ws k ≡ Some w → slice_get (bytes_of ws) (2 * k + 1) ≡ Some (w / 256)
high_byte [] k w e = absurd (let no : false ≡ true = ap (λ o. is_some o) e in cc)
high_byte (v ∷ ws) zero w e = let same : v ≡ w = cc in ap (λ n. Some (n / 256)) same
high_byte (v ∷ ws) (suc k) w e = ap (λ n. slice_get (v % 256 ∷ v / 256 ∷ bytes_of ws) n) (twice k) ∙ high_byte ws k w e
  where
    twice : (n : ℕ) → 2 * suc n + 1 ≡ suc (suc (2 * n + 1))
    twice n = omega arith

-- the word at an even place of a block of words
pub word_of_block : (low : ℕ) (xs : List Block) (start : ℕ) (ws : List ℕ) (zs : List Block) → Ascend low (xs ++ record { start = start; bytes = bytes_of ws } ∷ zs)
    → (k w : ℕ) → slice_get ws k ≡ Some w → word_in (xs ++ record { start = start; bytes = bytes_of ws } ∷ zs) (start + 2 * k) ≡ Some w
word_of_block low xs start ws zs h k w e =
    let y : Block = record { start = start; bytes = bytes_of ws } in
    let inside = get_length ws k w e in
    let long = bytes-length ws in
    let first : byte_in (xs ++ y ∷ zs) (start + 2 * k) ≡ Some (w % 256) =
    byte_later low xs y zs (start + 2 * k) h (omega arith) ∙ byte_here y zs (start + 2 * k) (omega arith) (omega (arith, inside, long))
    ∙ ap (λ n. slice_get (bytes_of ws) n) (place start (2 * k)) ∙ low_byte ws k w e in
    let second : byte_in (xs ++ y ∷ zs) (start + 2 * k + 1) ≡ Some (w / 256) =
    byte_later low xs y zs (start + 2 * k + 1) h (omega arith) ∙ byte_here y zs (start + 2 * k + 1) (omega arith) (omega (arith, inside, long))
    ∙ ap (λ n. slice_get (bytes_of ws) n) (place_on start (2 * k)) ∙ high_byte ws k w e in
    ap (λ o. option_and_then (λ b. option_map (λ c. b + 256 * c) (byte_in (xs ++ y ∷ zs) (start + 2 * k + 1))) o) first
    ∙ ap (λ o. option_map (λ c. w % 256 + 256 * c) o) second ∙ ap (λ n. Some n) (whole w)
  where
    place : (a n : ℕ) → a + n - a ≡ n
    place a n = omega arith

    place_on : (a n : ℕ) → a + n + 1 - a ≡ n + 1
    place_on a n = omega arith

    whole : (n : ℕ) → n % 256 + 256 * (n / 256) ≡ n
    whole n = omega arith
