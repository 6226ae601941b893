-- The words of an image are in the machine, and the instruction that the rules see is the one that comes next.
use Rattle.std.proofs.Common.{◌≡◌, ℕ, zero, suc, ◌+◌, ◌-◌, ◌*◌, ◌/◌, ◌%◌, ◌<◌, ◌≤◌, true, false, Option, Some, None, List, [], ◌∷◌, take, refl, sym, ap, ◌∙◌, subst, arith}
use Rattle.std.specs.Prelude.{if◌then◌else◌, ◌==◌, ◌&&◌, nat_le, nat_lt, slice_get, unwrap_or, is_some}
use Rattle.std.specs.Option.{option_and_then, option_map}
use Rattle.std.proofs.lemmas.Bool.{and_parts}
use Rattle.std.proofs.lemmas.Bool.Decides.{nat_tests}
use Rattle.ti_txt.specs.Image.{Block, end_of}
use Rattle.ti_txt.specs.Bytes.{byte_in}
use Rattle.msp430_isa.specs.declared.instr.Instr.{Instr}
use Rattle.msp430_isa.specs.Encoding.{words_of, length_of}
use Rattle.msp430_isa.specs.Decoding.{instruction_at}
use Rattle.msp430_isa.specs.Spelled.{Spells}
use Rattle.msp430_isa.proofs.Spelling.{read_is_spelt, length_few}
use Rattle.msp430_machine.specs.declared.addresses.Region.TheVariants.{Code}
use Rattle.msp430_machine.specs.Addresses.{region}
use Rattle.msp430_machine.specs.Access.{access_fault}
use Rattle.msp430_machine.specs.State.{State}
use Rattle.msp430_machine.specs.Memory.{word_at, word_in as word_in_region, byte_at, half}
use Rattle.msp430_machine.specs.First.{HoldsBytes, HoldsBlocks}
use Rattle.msp430_machine.specs.Steps.{Does, next}
use Rattle.power_core.proofs.Stands.{WordsAt, next_is}
use Rattle.cert_rules.specs.Words.{word_in}
use Rattle.cert_rules.specs.Sheet.{Sheet, word_or_zero, instruction_of, holds_words}

-- ---- Bytes

byte_of_block : (s : State) (a : ℕ) (bytes : List ℕ) (j x : ℕ) → HoldsBytes s a bytes → slice_get bytes j ≡ Some x → byte_at s (a + j) ≡ x
byte_of_block s a [] j x h e = absurd (let no : None ≡ Some x = e in cc)
byte_of_block s a (y ∷ bytes) zero x h e = let same : y ≡ x = cc in let at : a + 0 ≡ a = omega arith in ap (byte_at s) at ∙ h.0 ∙ same
byte_of_block s a (y ∷ bytes) (suc j) x h e = let on : a + 1 + j ≡ a + suc j = omega arith in ap (byte_at s) (sym on) ∙ byte_of_block s (a + 1) bytes j x h.1 e

le_of : (a b : ℕ) → nat_le a b ≡ true → a ≤ b
le_of a b e = grind (arith, nat_tests)

pub byte_held : (s : State) (blocks : List Block) (a x : ℕ) → HoldsBlocks s blocks → byte_in blocks a ≡ Some x → byte_at s a ≡ x
byte_held s [] a x h e = absurd (let no : None ≡ Some x = e in cc)
byte_held s (b ∷ rest) a x h e =
    elim (nat_le b.start a && nat_lt a (end_of b)) as (λ c. (nat_le b.start a && nat_lt a (end_of b)) ≡ c → (if c then slice_get b.bytes (a - b.start) else byte_in rest a) ≡ Some x → byte_at s a ≡ x) [
      | true ↦ λ t k. (let low : b.start ≤ a = le_of b.start a (and_parts (nat_le b.start a) (nat_lt a (end_of b)) t).0 in let on : b.start + (a - b.start) ≡ a = omega (arith, low) in
          ap (byte_at s) (sym on) ∙ byte_of_block s b.start b.bytes (a - b.start) x h.0 k)
      | false ↦ λ t k. byte_held s rest a x h.1 k
    ] refl e

-- ---- Words

two_bytes : (blocks : List Block) (a w : ℕ) → word_in blocks a ≡ Some w → (low : ℕ) × (high : ℕ) × (byte_in blocks a ≡ Some low) × (byte_in blocks (a + 1) ≡ Some high) × (w ≡ low + 256 * high)
two_bytes blocks a w e = by_case (byte_in blocks a) (byte_in blocks (a + 1)) refl refl e
  where
    by_case : (x y : Option ℕ) → byte_in blocks a ≡ x → byte_in blocks (a + 1) ≡ y → option_and_then (λ low. option_map (λ high. low + 256 * high) y) x ≡ Some w
        → (low : ℕ) × (high : ℕ) × (byte_in blocks a ≡ Some low) × (byte_in blocks (a + 1) ≡ Some high) × (w ≡ low + 256 * high)
    by_case None y ex ey k = absurd (let no : None ≡ Some w = k in cc)
    by_case (Some low) None ex ey k = absurd (let no : None ≡ Some w = k in cc)
    by_case (Some low) (Some high) ex ey k = (low, high, ex, ey, (let same : low + 256 * high ≡ w = cc in sym same))

halves : (v low high : ℕ) → v % 256 ≡ low → v / 256 ≡ high → v ≡ low + 256 * high
halves v low high e f = omega (arith, e, f)

even_half : (a v : ℕ) → a % 2 ≡ 0 → half a v ≡ v % 256
even_half a v e = ap (λ n. if n == 0 then v % 256 else v / 256) e

odd_half : (a v : ℕ) → a % 2 ≡ 0 → half (a + 1) v ≡ v / 256
odd_half a v e = let odd : (a + 1) % 2 ≡ 1 = omega (arith, e) in ap (λ n. if n == 0 then v % 256 else v / 256) odd

is_code : (a : ℕ) → 0x8000 ≤ a → region a ≡ Code
is_code a low = grind (arith, nat_tests)

pub code_at : (s : State) (a : ℕ) → 0x8000 ≤ a → word_at s a ≡ s.code ((a - 0x8000) / 2)
code_at s a low = ap (λ r. word_in_region r s a) (is_code a low)

-- where both bytes of a word are read from one number
joined : (s : State) (blocks : List Block) (a w v : ℕ) → HoldsBlocks s blocks → word_in blocks a ≡ Some w → a % 2 ≡ 0 → word_at s a ≡ v → word_at s (a + 1) ≡ v → v ≡ w
joined s blocks a w v h e even here there =
    let p = two_bytes blocks a w e in
    let low : v % 256 ≡ p.0 = sym (even_half a v even) ∙ ap (half a) (sym here) ∙ byte_held s blocks a p.0 h p.2 in
    let high : v / 256 ≡ p.1 = sym (odd_half a v even) ∙ ap (half (a + 1)) (sym there) ∙ byte_held s blocks (a + 1) p.1 h p.3 in
    halves v p.0 p.1 low high ∙ sym p.4

pub code_word : (s : State) (blocks : List Block) (a w : ℕ) → HoldsBlocks s blocks → word_in blocks a ≡ Some w → 0x8000 ≤ a → a % 2 ≡ 0 → s.code ((a - 0x8000) / 2) ≡ w
code_word s blocks a w h e low even =
    let same : (a + 1 - 0x8000) / 2 ≡ (a - 0x8000) / 2 = omega (arith, low, even) in
    joined s blocks a w (s.code ((a - 0x8000) / 2)) h e even (code_at s a low) (code_at s (a + 1) (omega (arith, low)) ∙ ap s.code same)

pub gate_word : (s : State) (blocks : List Block) (w : ℕ) → HoldsBlocks s blocks → word_in blocks 0x1800 ≡ Some w → s.fram 0xC00 ≡ w
gate_word s blocks w h e = joined s blocks 0x1800 w (s.fram 0xC00) h e refl refl refl

pub resume_word : (s : State) (blocks : List Block) (w : ℕ) → HoldsBlocks s blocks → word_in blocks 0x1802 ≡ Some w → s.fram 0xC01 ≡ w
resume_word s blocks w h e = joined s blocks 0x1802 w (s.fram 0xC01) h e refl refl refl

pub saved_word : (s : State) (blocks : List Block) (w : ℕ) → HoldsBlocks s blocks → word_in blocks 0x1804 ≡ Some w → s.fram 0xC02 ≡ w
saved_word s blocks w h e = joined s blocks 0x1804 w (s.fram 0xC02) h e refl refl refl

-- ---- Instructions

-- the image's words, in code that a machine may have
pub record Loaded (blocks : List Block) (code : ℕ → ℕ) : Type 0 where
  pub words : (a w : ℕ) → word_in blocks a ≡ Some w → 0x8000 ≤ a → a % 2 ≡ 0 → code ((a - 0x8000) / 2) ≡ w
  pub small : (k : ℕ) → k < 16384 → code k < 65536

is_there : (o : Option ℕ) → is_some o ≡ true → o ≡ Some (unwrap_or o 0)
is_there None e = absurd (let no : false ≡ true = e in cc)
is_there (Some w) e = refl

zero_or_word : (t : Sheet) (code : ℕ → ℕ) (a : ℕ) → Loaded t.blocks code → 0x8000 ≤ a → a < 0x10000 → a % 2 ≡ 0 → word_or_zero t a < 65536
zero_or_word t code a l low high even = by_case (word_in t.blocks a) refl
  where
    by_case : (o : Option ℕ) → word_in t.blocks a ≡ o → unwrap_or (word_in t.blocks a) 0 < 65536
    by_case None e = subst (λ x. unwrap_or x 0 < 65536) (sym e) (omega arith)
    by_case (Some w) e = subst (λ x. unwrap_or x 0 < 65536) (sym e) (subst (λ v. v < 65536) (l.words a w e low even) (l.small ((a - 0x8000) / 2) (omega (arith, low, high))))

-- so many words from an address on, of three
taken : (t : Sheet) (code : ℕ → ℕ) (a n : ℕ) → Loaded t.blocks code → 0x8000 ≤ a → a % 2 ≡ 0 → n ≤ 3 → holds_words t a n ≡ true
    → WordsAt code ((a - 0x8000) / 2) (take n (word_or_zero t a ∷ word_or_zero t (a + 2) ∷ word_or_zero t (a + 4) ∷ []))
taken t code a zero l low even few h = tt
taken t code a (suc zero) l low even few h = (one, tt)
  where
    one : code ((a - 0x8000) / 2) ≡ word_or_zero t a
    one = l.words a _ (is_there (word_in t.blocks a) (and_parts (is_some (word_in t.blocks a)) true h).0) low even
taken t code a (suc (suc zero)) l low even few h = (one, (two, tt))
  where
    parts : (is_some (word_in t.blocks a) ≡ true) × (is_some (word_in t.blocks (a + 2)) ≡ true)
    parts = let p = and_parts (is_some (word_in t.blocks a)) (is_some (word_in t.blocks (a + 2)) && true) h in (p.0, (and_parts (is_some (word_in t.blocks (a + 2))) true p.1).0)

    one : code ((a - 0x8000) / 2) ≡ word_or_zero t a
    one = l.words a _ (is_there (word_in t.blocks a) parts.0) low even

    two : code ((a - 0x8000) / 2 + 1) ≡ word_or_zero t (a + 2)
    two = let on : (a - 0x8000) / 2 + 1 ≡ (a + 2 - 0x8000) / 2 = omega (arith, low, even) in ap code on ∙ l.words (a + 2) _ (is_there (word_in t.blocks (a + 2)) parts.1) (omega (arith, low)) (omega (arith, even))
taken t code a (suc (suc (suc zero))) l low even few h = (one, (two, (three, tt)))
  where
    parts : (is_some (word_in t.blocks a) ≡ true) × (is_some (word_in t.blocks (a + 2)) ≡ true) × (is_some (word_in t.blocks (a + 2 + 2)) ≡ true)
    parts =
        let p = and_parts (is_some (word_in t.blocks a)) (is_some (word_in t.blocks (a + 2)) && (is_some (word_in t.blocks (a + 2 + 2)) && true)) h in
        let q = and_parts (is_some (word_in t.blocks (a + 2))) (is_some (word_in t.blocks (a + 2 + 2)) && true) p.1 in
        (p.0, q.0, (and_parts (is_some (word_in t.blocks (a + 2 + 2))) true q.1).0)

    one : code ((a - 0x8000) / 2) ≡ word_or_zero t a
    one = l.words a _ (is_there (word_in t.blocks a) parts.0) low even

    two : code ((a - 0x8000) / 2 + 1) ≡ word_or_zero t (a + 2)
    two = let on : (a - 0x8000) / 2 + 1 ≡ (a + 2 - 0x8000) / 2 = omega (arith, low, even) in ap code on ∙ l.words (a + 2) _ (is_there (word_in t.blocks (a + 2)) parts.1) (omega (arith, low)) (omega (arith, even))

    three : code ((a - 0x8000) / 2 + 1 + 1) ≡ word_or_zero t (a + 4)
    three =
        let on : (a - 0x8000) / 2 + 1 + 1 ≡ (a + 4 - 0x8000) / 2 = omega (arith, low, even) in
        let at : a + 2 + 2 ≡ a + 4 = omega arith in
        ap code on ∙ l.words (a + 4) _ (is_there (word_in t.blocks (a + 4)) (subst (λ z. is_some (word_in t.blocks z) ≡ true) at parts.2)) (omega (arith, low)) (omega (arith, even))
taken t code a (suc (suc (suc (suc n)))) l low even few h = absurd (omega (arith, few))

instruction_by : (t : Sheet) (a : ℕ) (i : Instr) → instruction_of t a ≡ Some i → instruction_at (word_or_zero t a) (word_or_zero t (a + 2)) (word_or_zero t (a + 4)) ≡ Some i
instruction_by t a i e = by_case (word_in t.blocks a) refl e
  where
    by_case : (o : Option ℕ) → word_in t.blocks a ≡ o → option_and_then (λ w. instruction_at w (word_or_zero t (a + 2)) (word_or_zero t (a + 4))) o ≡ Some i → instruction_at (word_or_zero t a) (word_or_zero t (a + 2)) (word_or_zero t (a + 4)) ≡ Some i
    by_case None f k = absurd (let no : None ≡ Some i = k in cc)
    by_case (Some w) f k = ap (λ o. instruction_at (unwrap_or o 0) (word_or_zero t (a + 2)) (word_or_zero t (a + 4))) f ∙ k

pub spelt : (t : Sheet) (code : ℕ → ℕ) (a : ℕ) (i : Instr) → Loaded t.blocks code → 0x8000 ≤ a → a + 2 * length_of i ≤ 0xFF80 → 1 ≤ length_of i → a % 2 ≡ 0 → instruction_of t a ≡ Some i
    → Spells (word_or_zero t a ∷ word_or_zero t (a + 2) ∷ word_or_zero t (a + 4) ∷ []) i (length_of i)
spelt t code a i l low room some even e =
    read_is_spelt (word_or_zero t a ∷ word_or_zero t (a + 2) ∷ word_or_zero t (a + 4) ∷ []) i
    (zero_or_word t code (a + 2) l (omega (arith, low)) (omega (arith, room, some)) (omega (arith, even)))
    (zero_or_word t code (a + 4) l (omega (arith, low)) (omega (arith, room, some)) (omega (arith, even)))
    (instruction_by t a i e) (length_few i)

pub comes_next : (t : Sheet) (code : ℕ → ℕ) (a : ℕ) (i : Instr) (s : State) → Loaded t.blocks code → 0x8000 ≤ a → a + 2 * length_of i ≤ 0xFF80 → 1 ≤ length_of i → a % 2 ≡ 0 → instruction_of t a ≡ Some i → holds_words t a (length_of i) ≡ true
    → s.code ≡ code → s.reg 0 ≡ a → access_fault s i ≡ None → next s ≡ Does i
comes_next t code a i s l low room some even e held same pc allowed =
    let k : ℕ = (a - 0x8000) / 2 in
    let sp = spelt t code a i l low room some even e in
    let at : a ≡ 0x8000 + 2 * k = omega (arith, low, even) in
    next_is code s k i same (pc ∙ at) (omega (arith, room, low, even)) sp.allowed
    (subst (λ ws. WordsAt code k ws) (subst (λ n. take n (word_or_zero t a ∷ word_or_zero t (a + 2) ∷ word_or_zero t (a + 4) ∷ []) ≡ words_of i) sp.counted sp.begins)
    (taken t code a (length_of i) l low even (length_few i) held))
    allowed
