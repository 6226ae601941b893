-- A machine whose words are these bytes holds the image that the bytes are.
use Rattle.std.proofs.Common.{◌≡◌, ℕ, ◌+◌, ◌-◌, ◌*◌, ◌/◌, ◌<◌, ◌≤◌, true, false, List, [], ◌∷◌, length, get_or, refl, ap, ◌∙◌, subst, arith, ⊎_elim, add-one}
use Rattle.std.specs.Prelude.{if◌then◌else◌, ◌&&◌, nat_le, nat_lt, slice_get, unwrap_or}
use Rattle.std.proofs.lemmas.Bool.{cases_lt}
use Rattle.std.proofs.lemmas.Bool.Decides.{nat_tests}
use Rattle.std.proofs.lemmas.Option.{unwrap_or-slice_get}
use Rattle.ti_txt.specs.Image.{Block, end_of, Ascend}
use Rattle.ti_txt.specs.Bytes.{byte_in}
use Rattle.msp430_machine.specs.Addresses.{Region, Fram, Code, region}
use Rattle.msp430_machine.specs.State.{State}
use Rattle.msp430_machine.specs.Memory.{half, word_in, byte_at}
use Rattle.msp430_machine.specs.First.{HoldsBytes, HoldsBlocks}
use Rattle.msp430_machine.specs.Loading.{byte_over}
use Rattle.msp430_machine.proofs.Loading.{half_of_pair}

-- the words of FRAM and code are pairs of these bytes
pub record Filled (bytes : List ℕ) (s : State) : Type 0 where
  pub small : (a : ℕ) → get_or bytes a 0 < 256
  pub fram : (k : ℕ) → k < 16384 → s.fram k ≡ get_or bytes (0 + 2 * k) 0 + 256 * get_or bytes (0 + 2 * k + 1) 0
  pub code : (k : ℕ) → k < 16384 → s.code k ≡ get_or bytes (0x8000 + 2 * k) 0 + 256 * get_or bytes (0x8000 + 2 * k + 1) 0

is_fram : (a : ℕ) → 0x1800 ≤ a → a < 0x1A00 → region a ≡ Fram
is_fram a low high = grind (arith, nat_tests)

is_main_fram : (a : ℕ) → 0x4400 ≤ a → a < 0x8000 → region a ≡ Fram
is_main_fram a low high = grind (arith, nat_tests)

is_code : (a : ℕ) → 0x8000 ≤ a → region a ≡ Code
is_code a low = grind (arith, nat_tests)

in_fram : (bytes : List ℕ) (s : State) (a : ℕ) → Filled bytes s → a < 0x8000 → half a (s.fram (a / 2)) ≡ get_or bytes a 0
in_fram bytes s a h high =
    let from_zero : a ≡ a - 0 = omega arith in
    half_of_pair bytes 0 a (s.fram (a / 2)) h.small refl (omega arith)
    (subst (λ x. s.fram (a / 2) ≡ get_or bytes (0 + 2 * (x / 2)) 0 + 256 * get_or bytes (0 + 2 * (x / 2) + 1) 0) from_zero (h.fram (a / 2) (omega arith)))

in_code : (bytes : List ℕ) (s : State) (a : ℕ) → Filled bytes s → 0x8000 ≤ a → a < 0x10000 → half a (s.code ((a - 0x8000) / 2)) ≡ get_or bytes a 0
in_code bytes s a h low high = half_of_pair bytes 0x8000 a (s.code ((a - 0x8000) / 2)) h.small refl low (h.code ((a - 0x8000) / 2) (omega arith))

by_region : (s : State) (a : ℕ) (r : Region) → region a ≡ r → byte_at s a ≡ half a (word_in r s a)
by_region s a r e = ap (λ x. half a (word_in x s a)) e

-- ---- The bytes of an image

-- an address that an image may have a byte at
pub MayHold : ℕ → Type 0
MayHold a = (0x1800 ≤ a) × (a < 0x10000) × (a < 0x4400 → a < 0x1A00)

byte_held : (bytes : List ℕ) (s : State) (a : ℕ) → Filled bytes s → MayHold a → byte_at s a ≡ get_or bytes a 0
unfolding MayHold
byte_held bytes s a h m =
    ⊎_elim
    (λ low. by_region s a Fram (is_fram a m.0 (m.2 low)) ∙ in_fram bytes s a h (omega (arith, low)))
    (λ high. ⊎_elim
    (λ low. by_region s a Fram (is_main_fram a high low) ∙ in_fram bytes s a h low)
    (λ top. by_region s a Code (is_code a top) ∙ in_code bytes s a h top m.1)
    (cases_lt a 0x8000))
    (cases_lt a 0x4400)

holds_bytes : (s : State) (a : ℕ) (ys : List ℕ) → ((j : ℕ) → j < length ys → byte_at s (a + j) ≡ get_or ys j 0) → HoldsBytes s a ys
holds_bytes s a [] h = tt
holds_bytes s a (y ∷ ys) h =
    let here : a + 0 ≡ a = omega arith in (
      subst (λ x. byte_at s x ≡ y) here (h 0 (omega arith)),
      holds_bytes s (a + 1) ys (λ j within. (let on : a + (j + 1) ≡ a + 1 + j = omega arith in subst (λ x. byte_at s x ≡ get_or ys j 0) on (h (j + 1) (omega (arith, within)) ∙ rw add-one refl))),
    )

pub holds_blocks : (s : State) (low : ℕ) (blocks : List Block) → Ascend low blocks → ((a : ℕ) → low ≤ a → MayHold a → byte_at s a ≡ byte_over blocks [] a) → HoldsBlocks s blocks
unfolding MayHold
holds_blocks s low [] h e = tt
holds_blocks s low (b ∷ rest) h e = (
  holds_bytes s b.start b.bytes (λ j within.
      (let may : MayHold (b.start + j) = (omega (arith, h.2.0), omega (arith, h.2.1, within), λ under. omega (arith, h.2.2 (omega (arith, under)), within)) in
      let inside : (nat_le b.start (b.start + j) && nat_lt (b.start + j) (b.start + length b.bytes)) ≡ true = grind (arith, nat_tests) in
      let back : b.start + j - b.start ≡ j = omega arith in
      e (b.start + j) (omega (arith, h.0)) may
      ∙ ap (λ c. unwrap_or (if c then slice_get b.bytes (b.start + j - b.start) else byte_in rest (b.start + j)) 0) inside
      ∙ unwrap_or-slice_get b.bytes (b.start + j - b.start) 0
      ∙ ap (λ k. get_or b.bytes k 0) back)),
  holds_blocks s (end_of b + 1) rest h.3 (λ a above may.
      (let outside : (nat_le b.start a && nat_lt a (b.start + length b.bytes)) ≡ false = grind (arith, nat_tests) in
      e a (omega (arith, h.0, above)) may
      ∙ ap (λ c. unwrap_or (if c then slice_get b.bytes (a - b.start) else byte_in rest a) 0) outside)),
)

pub held : (bytes : List ℕ) (s : State) (blocks : List Block) → Ascend 0 blocks → Filled bytes s → ((a : ℕ) → get_or bytes a 0 ≡ byte_over blocks [] a) → HoldsBlocks s blocks
held bytes s blocks h f e = holds_blocks s 0 blocks h (λ a low may. byte_held bytes s a f may ∙ e a)
