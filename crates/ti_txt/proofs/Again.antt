-- The text that is written for an image holds it.
use Rattle.std.proofs.Common.{◌≡◌, ℕ, zero, suc, ◌+◌, ◌-◌, ◌*◌, ◌/◌, ◌%◌, ◌≤◌, ◌<◌, ⊎_elim, List, [], ◌∷◌, ◌++◌, length, flat_map, Option, Some, None, refl, sym, ap, ◌∙◌, arith, subst, true, false, Bool, append_assoc}
use Rattle.std.specs.Prelude.{◌==◌, ◌&&◌, nat_le, nat_lt, slice_get, if◌then◌else◌}
use Rattle.std.specs.Option.{option_and_then, option_or}
use Rattle.std.proofs.lemmas.Bool.{and_from, or_left, or_right, le-leb, le-ltb, ne_eqb, eq-eqb, cases_lt}
use Rattle.std.proofs.lemmas.List.Elements.{All-cons, All-nil}
use Rattle.base_io.specs.Digits.{hex_digit, hex_word}
use Rattle.ti_txt.specs.Bytes.{byte_in}
use Rattle.ti_txt.specs.Grammar.{Holds, Put, Puts, digit_of, fault_of, first_fault, given, is_mapped, is_white, number_from}
use Rattle.ti_txt.specs.Grammar.Puts.{segment, byte, end}
use Rattle.ti_txt.specs.Image.{Ascend, Block, IsImage, IsLoadable, end_of}
use Rattle.ti_txt.specs.Spelling.{AllFit, Fit, block_text, bytes_text, parting, text_of}
use Rattle.ti_txt.specs.Spots.{put_of}
use Rattle.ti_txt.proofs.Simulates.{given_last}
use Rattle.ti_txt.proofs.Swept.{above_block, below_block, in_block}

hex_digits_read : (d : ℕ) → d < 16 → digit_of (hex_digit d) ≡ Some d
hex_digits_read zero h = refl
hex_digits_read (suc zero) h = refl
hex_digits_read (suc (suc zero)) h = refl
hex_digits_read (suc (suc (suc zero))) h = refl
hex_digits_read (suc (suc (suc (suc zero)))) h = refl
hex_digits_read (suc (suc (suc (suc (suc zero))))) h = refl
hex_digits_read (suc (suc (suc (suc (suc (suc zero)))))) h = refl
hex_digits_read (suc (suc (suc (suc (suc (suc (suc zero))))))) h = refl
hex_digits_read (suc (suc (suc (suc (suc (suc (suc (suc zero)))))))) h = refl
hex_digits_read (suc (suc (suc (suc (suc (suc (suc (suc (suc zero))))))))) h = refl
hex_digits_read (suc (suc (suc (suc (suc (suc (suc (suc (suc (suc zero)))))))))) h = refl
hex_digits_read (suc (suc (suc (suc (suc (suc (suc (suc (suc (suc (suc zero))))))))))) h = refl
hex_digits_read (suc (suc (suc (suc (suc (suc (suc (suc (suc (suc (suc (suc zero)))))))))))) h = refl
hex_digits_read (suc (suc (suc (suc (suc (suc (suc (suc (suc (suc (suc (suc (suc zero))))))))))))) h = refl
hex_digits_read (suc (suc (suc (suc (suc (suc (suc (suc (suc (suc (suc (suc (suc (suc zero)))))))))))))) h = refl
hex_digits_read (suc (suc (suc (suc (suc (suc (suc (suc (suc (suc (suc (suc (suc (suc (suc zero))))))))))))))) h = refl
hex_digits_read (suc (suc (suc (suc (suc (suc (suc (suc (suc (suc (suc (suc (suc (suc (suc (suc n)))))))))))))))) h = absurd (omega (arith, h))

byte_value : (b : ℕ) → 16 * (b / 16) + b % 16 ≡ b
byte_value b = omega arith

word_value : (n : ℕ) → 16 * (16 * (16 * (16 * 0 + n / 4096) + n / 256 % 16) + n / 16 % 16) + n % 16 ≡ n
word_value n = omega arith

number_step : (n d : ℕ) (rest : List ℕ) → d < 16 → number_from n (hex_digit d ∷ rest) ≡ number_from (16 * n + d) rest
number_step n d rest h = ap (option_and_then (λ e. number_from (16 * n + e) rest)) (hex_digits_read d h)

word_read : (n : ℕ) → n < 0x10000 → number_from 0 (hex_word n) ≡ Some n
word_read n h =
    number_step 0 (n / 4096) (hex_digit (n / 256 % 16) ∷ hex_digit (n / 16 % 16) ∷ hex_digit (n % 16) ∷ []) (omega (arith, h))
    ∙ (number_step (16 * 0 + n / 4096) (n / 256 % 16) (hex_digit (n / 16 % 16) ∷ hex_digit (n % 16) ∷ []) (omega arith)
    ∙ (number_step (16 * (16 * 0 + n / 4096) + n / 256 % 16) (n / 16 % 16) (hex_digit (n % 16) ∷ []) (omega arith)
    ∙ (number_step (16 * (16 * (16 * 0 + n / 4096) + n / 256 % 16) + n / 16 % 16) (n % 16) [] (omega arith)
    ∙ ap Some (word_value n))))

parting_by : (t : Bool) → is_white (if t then 10 else 32) ≡ true
parting_by true = refl
parting_by false = refl

parting_white : (n : ℕ) (rest : List ℕ) → is_white (parting n rest) ≡ true
parting_white n [] = refl
parting_white n (b ∷ rest) = parting_by (n % 16 == 15)

-- the puts of bytes, of a block and of blocks, as they are written
abbrev byte_puts : ℕ → ℕ → List ℕ → List Put
byte_puts at address [] = []
byte_puts at address (b ∷ bytes) = put_of at address b ∷ byte_puts (at + 3) (address + 1) bytes

abbrev block_puts : ℕ → List Block → List Put
block_puts at [] = []
block_puts at (b ∷ rest) = byte_puts (at + 6) b.start b.bytes ++ block_puts (at + 6 + 3 * length b.bytes) rest

bytes_written : (bytes : List ℕ) (n at address : ℕ) (more : List ℕ) (puts : List Put) → Fit bytes → Puts (at + 3 * length bytes) (Some (address + length bytes)) more puts
    → Puts at (Some address) (bytes_text n bytes ++ more) (byte_puts at address bytes ++ puts)
bytes_written [] n at address more puts fit h =
    let e : at + 3 * 0 ≡ at = omega arith in
    let f : address + 0 ≡ address = omega arith in
    subst (λ k. Puts k (Some address) more puts) e (subst (λ k. Puts (at + 3 * 0) (Some k) more puts) f h)
bytes_written (b ∷ bytes) n at address more puts fit h =
    let e : at + 3 * length (b ∷ bytes) ≡ at + 3 + 3 * length bytes = omega arith in
    let f : address + length (b ∷ bytes) ≡ address + 1 + length bytes = omega arith in
    let small : b / 16 < 16 = omega (arith, fit.0) in
    let low : b % 16 < 16 = omega arith in
    subst (λ v. Puts at (Some address) (bytes_text n (b ∷ bytes) ++ more) (put_of at address v ∷ (byte_puts (at + 3) (address + 1) bytes ++ puts))) (byte_value b)
    (byte at address (hex_digit (b / 16)) (hex_digit (b % 16)) (b / 16) (b % 16) (parting n bytes) (bytes_text (n + 1) bytes ++ more) (byte_puts (at + 3) (address + 1) bytes ++ puts)
    (hex_digits_read (b / 16) small) (hex_digits_read (b % 16) low) (parting_white n bytes)
    (bytes_written bytes (n + 1) (at + 3) (address + 1) more puts fit.1
    (subst (λ k. Puts k (Some (address + 1 + length bytes)) more puts) e (subst (λ k. Puts (at + 3 * length (b ∷ bytes)) (Some k) more puts) f h))))

-- The text that is written for blocks is in the grammar.
blocks_written : (blocks : List Block) (low at : ℕ) (next : Option ℕ) → Ascend low blocks → AllFit blocks
    → Puts at next (flat_map block_text blocks ++ 113 ∷ 10 ∷ []) (block_puts at blocks)
blocks_written [] low at next h fit = end at next (10 ∷ []) (All-cons (λ w. is_white w ≡ true) 10 [] refl (All-nil (λ w. is_white w ≡ true)))
blocks_written (b ∷ rest) low at next h fit =
    let small : b.start < 0x10000 = omega (arith, h.1, h.2.1) in
    let e : at + 6 ≡ at + 4 + 2 = omega arith in
    let tail : List ℕ = flat_map block_text rest ++ 113 ∷ 10 ∷ [] in
    subst (λ text. Puts at next text (block_puts at (b ∷ rest))) (sym (append_assoc (block_text b) (flat_map block_text rest) (113 ∷ 10 ∷ [])))
    (segment at next (hex_word b.start) b.start 10 (bytes_text 0 b.bytes ++ tail) (block_puts at (b ∷ rest)) (omega arith) (omega arith) (word_read b.start small) refl
    (subst (λ k. Puts k (Some b.start) (bytes_text 0 b.bytes ++ tail) (block_puts at (b ∷ rest))) e
    (bytes_written b.bytes 0 (at + 6) b.start tail (block_puts (at + 6 + 3 * length b.bytes) rest) fit.0
    (blocks_written rest (end_of b + 1) (at + 6 + 3 * length b.bytes) (Some (b.start + length b.bytes)) h.3 fit.1))))

-- the addresses of an image are those of the memory
loadable_mapped : (start stop a : ℕ) → IsLoadable start stop → start ≤ a → a < stop → is_mapped a ≡ true
loadable_mapped start stop a l low high = ⊎_elim
    (λ h. or_left (nat_le 0x1800 a && nat_le a 0x19FF) (nat_le 0x4400 a && nat_le a 0xFFFF)
    (and_from (nat_le 0x1800 a) (nat_le a 0x19FF) (le-leb 0x1800 a (omega (arith, l.0, low))) (le-leb a 0x19FF (let k : stop ≤ 0x1A00 = l.2 (omega (arith, low, h)) in omega (arith, k, high)))))
    (λ h. or_right (nat_le 0x1800 a && nat_le a 0x19FF) (nat_le 0x4400 a && nat_le a 0xFFFF)
    (and_from (nat_le 0x4400 a) (nat_le a 0xFFFF) (le-leb 0x4400 a h) (le-leb a 0xFFFF (omega (arith, l.1, high)))))
    (cases_lt a 0x4400)

no_fault : (before : ℕ → Option ℕ) (p : Put) → p.address ≤ 0xFFFF → is_mapped p.address ≡ true → before p.address ≡ None → fault_of before p ≡ None
no_fault before p small m none = let e : nat_lt 0xFFFF p.address ≡ false = le-ltb 0xFFFF p.address small in rw (e, m, none) refl

-- nothing was put from low on
abbrev Free : ℕ → List Put → Type 0
Free low before = (a : ℕ) → low ≤ a → given before a ≡ None

free_more : (before : List Put) (p : Put) → Free p.address before → Free (p.address + 1) (before ++ p ∷ [])
free_more before p h a l = let e : (p.address == a) ≡ false = ne_eqb p.address a (λ k. omega (arith, k, l)) in
    given_last before p a ∙ (ap (λ o. option_or o (if p.address == a then Some p.value else None)) (h a (omega (arith, l))) ∙ ap (λ t. if t then Some p.value else None) e)

bytes_good : (bytes : List ℕ) (at address : ℕ) (before more : List Put) → Free address before → ((k : ℕ) → k < length bytes → (address + k ≤ 0xFFFF) × (is_mapped (address + k) ≡ true))
    → ((now : List Put) → Free (address + length bytes) now → first_fault now more ≡ None) → first_fault before (byte_puts at address bytes ++ more) ≡ None
bytes_good [] at address before more free m rest = let e : address + 0 ≡ address = omega arith in rest before (subst (λ k. Free k before) (sym e) free)
bytes_good (b ∷ bytes) at address before more free m rest =
    let e : address + 0 ≡ address = omega arith in
    let first = m 0 (omega arith) in
    let f : address + length (b ∷ bytes) ≡ address + 1 + length bytes = omega arith in
    ap (λ o. option_or o (first_fault (before ++ put_of at address b ∷ []) (byte_puts (at + 3) (address + 1) bytes ++ more)))
    (no_fault (given before) (put_of at address b) (omega (arith, first.0)) (subst (λ k. is_mapped k ≡ true) e first.1) (free address (omega arith)))
    ∙ bytes_good bytes (at + 3) (address + 1) (before ++ put_of at address b ∷ []) more (free_more before (put_of at address b) free)
    (λ k l. let g : address + suc k ≡ address + 1 + k = omega arith in subst (λ i. (i ≤ 0xFFFF) × (is_mapped i ≡ true)) g (m (suc k) (omega (arith, l))))
    (λ now h. rest now (subst (λ k. Free k now) (sym f) h))

blocks_good : (blocks : List Block) (low at : ℕ) (before : List Put) → Ascend low blocks → Free low before → first_fault before (block_puts at blocks) ≡ None
blocks_good [] low at before h free = refl
blocks_good (b ∷ rest) low at before h free =
    bytes_good b.bytes (at + 6) b.start before (block_puts (at + 6 + 3 * length b.bytes) rest) (λ a l. free a (omega (arith, h.0, l)))
    (λ k l. (omega (arith, h.2.1, l), loadable_mapped b.start (end_of b) (b.start + k) h.2 (omega arith) (omega (arith, l))))
    (λ now g. blocks_good rest (end_of b + 1) (at + 6 + 3 * length b.bytes) now h.3 (λ a l. g a (omega (arith, l))))

given_within : (bytes : List ℕ) (at address : ℕ) (more : List Put) (k : ℕ) → k < length bytes → given (byte_puts at address bytes ++ more) (address + k) ≡ slice_get bytes k
given_within [] at address more k h = absurd (omega (arith, h))
given_within (b ∷ bytes) at address more zero h =
    let e : (address == address + 0) ≡ true = eq-eqb address (address + 0) (omega arith) in
    ap (λ t. if t then Some b else given (byte_puts (at + 3) (address + 1) bytes ++ more) (address + 0)) e
given_within (b ∷ bytes) at address more (suc k) h =
    let e : (address == address + suc k) ≡ false = ne_eqb address (address + suc k) (λ f. omega (arith, f)) in
    let g : address + suc k ≡ address + 1 + k = omega arith in
    ap (λ t. if t then Some b else given (byte_puts (at + 3) (address + 1) bytes ++ more) (address + suc k)) e
    ∙ (ap (given (byte_puts (at + 3) (address + 1) bytes ++ more)) g ∙ given_within bytes (at + 3) (address + 1) more k (omega (arith, h)))

given_outside : (bytes : List ℕ) (at address : ℕ) (more : List Put) (a : ℕ) → ((k : ℕ) → k < length bytes → address + k ≡ a → ⊥) → given (byte_puts at address bytes ++ more) a ≡ given more a
given_outside [] at address more a h = refl
given_outside (b ∷ bytes) at address more a h =
    let e : (address == a) ≡ false = ne_eqb address a (λ f. h 0 (omega arith) (omega (arith, f))) in
    ap (λ t. if t then Some b else given (byte_puts (at + 3) (address + 1) bytes ++ more) a) e
    ∙ given_outside bytes (at + 3) (address + 1) more a (λ k l f. h (suc k) (omega (arith, l)) (omega (arith, f)))

-- The bytes that the text puts are those of the blocks.
blocks_given : (blocks : List Block) (at a : ℕ) → byte_in blocks a ≡ given (block_puts at blocks) a
blocks_given [] at a = refl
blocks_given (b ∷ rest) at a = ⊎_elim
    (λ l. below_block b rest a l ∙ (blocks_given rest (at + 6 + 3 * length b.bytes) a
    ∙ sym (given_outside b.bytes (at + 6) b.start (block_puts (at + 6 + 3 * length b.bytes) rest) a (λ k m e. omega (arith, l, e)))))
    (λ l. ⊎_elim
    (λ m. let e : b.start + (a - b.start) ≡ a = omega (arith, l) in
    in_block b rest a l m ∙ (sym (given_within b.bytes (at + 6) b.start (block_puts (at + 6 + 3 * length b.bytes) rest) (a - b.start) (omega (arith, l, m)))
    ∙ ap (given (block_puts at (b ∷ rest))) e))
    (λ m. above_block b rest a m ∙ (blocks_given rest (at + 6 + 3 * length b.bytes) a
    ∙ sym (given_outside b.bytes (at + 6) b.start (block_puts (at + 6 + 3 * length b.bytes) rest) a (λ k n e. omega (arith, m, n, e)))))
    (cases_lt a (end_of b)))
    (cases_lt a b.start)

-- An image's text holds it.
pub holds_again : (blocks : List Block) → IsImage blocks → AllFit blocks → Holds (text_of blocks) blocks
holds_again blocks image fit = record {
  puts = block_puts 0 blocks;
  written = blocks_written blocks 0 0 None image fit;
  good = blocks_good blocks 0 0 [] image (λ a l. refl);
  image = image;
  bytes = λ a. blocks_given blocks 0 a;
}
