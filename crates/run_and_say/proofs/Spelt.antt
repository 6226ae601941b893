-- The bytes of an image that a device holds fit eight bits, so its text holds it again.
use Rattle.std.proofs.Common.{◌≡◌, ◌≤◌, ◌<◌, ◌+◌, ◌-◌, ◌%◌, ◌/◌, ℕ, Bool, true, false, List, [], ◌∷◌, length, sym, subst, ⊎_elim, arith}
use Rattle.std.specs.Prelude.{if◌then◌else◌, ◌==◌}
use Rattle.std.proofs.lemmas.Bool.{cases_lt}
use Rattle.ti_txt.specs.Grammar.{Holds}
use Rattle.ti_txt.specs.Image.{Ascend, Block, IsImage, end_of}
use Rattle.ti_txt.specs.Spelling.{AllFit, Fit, text_of}
use Rattle.ti_txt.proofs.Again.{holds_again}
use Rattle.ti_txt.proofs.Loading.{holds_one}
use Rattle.msp430_machine.specs.Addresses.{region}
use Rattle.msp430_machine.specs.declared.addresses.Region.{Region}
use Rattle.msp430_machine.specs.declared.addresses.Region.TheVariants.{Code, Fram}
use Rattle.msp430_machine.specs.First.{HoldsBlocks, HoldsBytes, IsFirst}
use Rattle.msp430_machine.specs.Memory.{byte_at, half, word_at, word_in}
use Rattle.msp430_machine.specs.State.{State}
use Rattle.msp430_machine.proofs.Memories.{in_code, in_fram, in_info}

half_small : (a w : ℕ) → w < 65536 → half a w < 256
half_small a w h = by (a % 2 == 0)
  where
    by : (c : Bool) → (if c then w % 256 else w / 256) < 256
    by true = omega arith
    by false = omega (arith, h)

by_region : (s : State) (a : ℕ) (r : Region) → region a ≡ r → word_in r s a < 65536 → byte_at s a < 256
by_region s a r e h = half_small a (word_at s a) (subst (λ x. word_in x s a < 65536) (sym e) h)

-- each byte at an address that an image may have
byte_small : (s : State) (a : ℕ) → IsFirst s → 0x1800 ≤ a → a < 0x10000 → (a < 0x4400 → a < 0x1A00) → byte_at s a < 256
byte_small s a first low top gap =
    ⊎_elim
    (λ under. by_region s a Fram (in_info a low (gap under)) (first.fram (a / 2) (omega (arith, under))))
    (λ above. ⊎_elim
    (λ under. by_region s a Fram (in_fram a above under) (first.fram (a / 2) (omega (arith, under))))
    (λ code. by_region s a Code (in_code a code) (first.code ((a - 0x8000) / 2) (omega (arith, code, top))))
    (cases_lt a 0x8000))
    (cases_lt a 0x4400)

bytes_fit : (s : State) (a : ℕ) (bytes : List ℕ) → IsFirst s → HoldsBytes s a bytes → 0x1800 ≤ a → a + length bytes ≤ 0x10000
    → (a < 0x4400 → a + length bytes ≤ 0x1A00) → Fit bytes
bytes_fit s a [] first h low top gap = tt
bytes_fit s a (b ∷ bytes) first h low top gap = (
  subst (λ x. x < 256) h.0 (byte_small s a first low (omega (arith, top)) (λ under. let end = gap under in omega (arith, end))),
  bytes_fit s (a + 1) bytes first h.1 (omega (arith, low)) (omega (arith, top)) (λ under. let end = gap (omega (arith, under)) in omega (arith, end)),
)

blocks_fit : (s : State) (low : ℕ) (blocks : List Block) → IsFirst s → HoldsBlocks s blocks → Ascend low blocks → AllFit blocks
blocks_fit s low [] first h image = tt
blocks_fit s low (b ∷ rest) first h image = (
  bytes_fit s b.start b.bytes first h.0 image.2.0 image.2.1 image.2.2,
  blocks_fit s (end_of b + 1) rest first h.1 image.3,
)

-- the text of an image that a device holds is that of no other
pub only_image : (s : State) (image other : List Block) → IsFirst s → HoldsBlocks s image → IsImage image → Holds (text_of image) other → other ≡ image
only_image s image other first held is h = holds_one (text_of image) other image h (holds_again image is (blocks_fit s 0 image first held is))
