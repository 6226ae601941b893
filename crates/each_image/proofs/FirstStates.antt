-- A first state that holds an image whose bytes are bytes.
use Rattle.std.proofs.Common.{◌≡◌, ℕ, zero, suc, ◌+◌, ◌-◌, ◌*◌, ◌<◌, ◌≤◌, true, false, List, [], ◌∷◌, length, get_or, refl, sym, ap, ◌∙◌, subst, arith, ⊎_elim}
use Rattle.std.specs.Prelude.{◌&&◌, if◌then◌else◌, nat_le, nat_lt, unwrap_or, slice_get, None, All, ⊤}
use Rattle.std.proofs.lemmas.Bool.{cases_lt}
use Rattle.std.proofs.lemmas.Bool.Decides.{nat_tests}
use Rattle.std.proofs.lemmas.List.Elements.{All-head, All-tail}
use Rattle.ti_txt.specs.Image.{Ascend, Block, IsImage, end_of}
use Rattle.ti_txt.specs.Bytes.{byte_in}
use Rattle.msp430_machine.specs.State.{Off, State, no_flags}
use Rattle.msp430_machine.specs.First.{HoldsBlocks, IsFirst}
use Rattle.msp430_machine.specs.Loading.{byte_over, loaded_word}
use Rattle.msp430_machine.proofs.Held.{Filled, held}

-- each byte of each block is below 256
abbrev pub AreBytes : List Block → Type 0
AreBytes [] = ⊤
AreBytes (x ∷ blocks) = All (λ v. v < 256) x.bytes × AreBytes blocks

-- off, without charge, with these blocks in memory, and zero everywhere else
abbrev pub loaded : List Block → State
loaded blocks = record {
  phase = Off;
  charge = 0;
  reg = λ r. 0;
  flags = no_flags;
  other_bits = 0;
  sram = λ k. 0;
  fram = λ k. loaded_word blocks 0 k;
  code = λ k. loaded_word blocks 0x8000 k;
  taken = 0;
}

-- ---- Bytes

got_small : (bytes : List ℕ) → All (λ v. v < 256) bytes → (i : ℕ) → unwrap_or (slice_get bytes i) 0 < 256
got_small [] h i = omega arith
got_small (v ∷ bytes) h zero = All-head (λ x. x < 256) v bytes h
got_small (v ∷ bytes) h (suc i) = got_small bytes (All-tail (λ x. x < 256) v bytes h) i

byte_small : (blocks : List Block) → AreBytes blocks → (a : ℕ) → byte_over blocks [] a < 256
byte_small [] h a = omega arith
byte_small (x ∷ blocks) h a =
    elim (nat_le x.start a && nat_lt a (end_of x)) as (λ c. unwrap_or (if c then slice_get x.bytes (a - x.start) else byte_in blocks a) 0 < 256) [
      | true ↦ got_small x.bytes h.0 (a - x.start)
      | false ↦ byte_small blocks h.1 a
    ]

word_small : (blocks : List Block) → AreBytes blocks → (start k : ℕ) → loaded_word blocks start k < 65536
word_small blocks h start k =
    elim (nat_lt k 16384) as (λ c. (if c then byte_over blocks [] (start + 2 * k) + 256 * byte_over blocks [] (start + 2 * k + 1) else 0) < 65536) [
      | true ↦ (let first = byte_small blocks h (start + 2 * k) in let second = byte_small blocks h (start + 2 * k + 1) in omega (arith, first, second))
      | false ↦ omega arith
    ]

-- no block goes beyond memory
none_above : (low : ℕ) (blocks : List Block) → Ascend low blocks → (a : ℕ) → 65536 ≤ a → byte_in blocks a ≡ None
none_above low [] h a high = refl
none_above low (x ∷ blocks) h a high =
    let end = h.2.1 in
    let outside : (nat_le x.start a && nat_lt a (x.start + length x.bytes)) ≡ false = outside_is x.start a (x.start + length x.bytes) (omega (arith, end, high)) in
    ap (λ c. if c then slice_get x.bytes (a - x.start) else byte_in blocks a) outside ∙ none_above (end_of x + 1) blocks h.3 a high
  where
    outside_is : (s a e : ℕ) → e ≤ a → (nat_le s a && nat_lt a e) ≡ false
    outside_is s a e le = grind (arith, nat_tests)

-- ---- All of them, in a list

table : (ℕ → ℕ) → ℕ → ℕ → List ℕ
table f a zero = []
table f a (suc n) = f a ∷ table f (a + 1) n

table_at : (f : ℕ → ℕ) (a n i : ℕ) → i < n → get_or (table f a n) i 0 ≡ f (a + i)
unfolding table
table_at f a zero i low = absurd (omega (arith, low))
table_at f a (suc n) zero low = let e : a ≡ a + 0 = omega arith in ap f e
table_at f a (suc n) (suc i) low = let e : a + 1 + i ≡ a + suc i = omega arith in table_at f (a + 1) n i (omega (arith, low)) ∙ ap f e

table_behind : (f : ℕ → ℕ) (a n i : ℕ) → n ≤ i → get_or (table f a n) i 0 ≡ 0
unfolding table
table_behind f a zero i high = refl
table_behind f a (suc n) zero high = absurd (omega (arith, high))
table_behind f a (suc n) (suc i) high = table_behind f (a + 1) n i (omega (arith, high))

module _ (blocks : List Block) (image : IsImage blocks) (bytes : AreBytes blocks) (n : ℕ) (all : n ≡ 65536) where
  abbrev over : ℕ → ℕ
  over a = byte_over blocks [] a

  listed : (a : ℕ) → get_or (table over 0 n) a 0 ≡ byte_over blocks [] a
  listed a = ⊎_elim
      (λ low. table_at over 0 n a low ∙ (let e : 0 + a ≡ a = omega arith in ap over e))
      (λ high. table_behind over 0 n a high ∙ sym (ap (λ o. unwrap_or o 0) (none_above 0 blocks image a (omega (arith, high, all)))))
      (cases_lt a n)

  paired : (start k : ℕ) → k < 16384 → loaded_word blocks start k ≡ get_or (table over 0 n) (start + 2 * k) 0 + 256 * get_or (table over 0 n) (start + 2 * k + 1) 0
  paired start k low =
      let within : nat_lt k 16384 ≡ true = grind (arith, nat_tests) in
      let first = listed (start + 2 * k) in
      let second = listed (start + 2 * k + 1) in
      ap (λ c. if c then byte_over blocks [] (start + 2 * k) + 256 * byte_over blocks [] (start + 2 * k + 1) else 0) within
      ∙ (let e : byte_over blocks [] (start + 2 * k) + 256 * byte_over blocks [] (start + 2 * k + 1) ≡ get_or (table over 0 n) (start + 2 * k) 0 + 256 * get_or (table over 0 n) (start + 2 * k + 1) 0 = omega (arith, first, second) in e)

  filled : Filled (table over 0 n) (loaded blocks)
  filled = record {
    small = λ a. subst (λ v. v < 256) (sym (listed a)) (byte_small blocks bytes a);
    fram = λ k low. paired 0 k low;
    code = λ k low. paired 0x8000 k low;
  }

  holds : HoldsBlocks (loaded blocks) blocks
  holds = held (table over 0 n) (loaded blocks) blocks image filled listed

first_is : (blocks : List Block) → AreBytes blocks → IsFirst (loaded blocks)
first_is blocks bytes = record {
  off = refl;
  no_charge = refl;
  none_taken = refl;
  registers = λ k lt. omega arith;
  other_bits = refl;
  sram = λ k lt. omega arith;
  fram = λ k lt. word_small blocks bytes 0 k;
  code = λ k lt. word_small blocks bytes 0x8000 k;
}

pub is_held : (blocks : List Block) → IsImage blocks → AreBytes blocks → (s : State) × IsFirst s × HoldsBlocks s blocks
is_held blocks image bytes = (loaded blocks, first_is blocks bytes, holds blocks image bytes 65536 refl)
