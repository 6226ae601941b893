-- States that a run begins with.
use Rattle.std.specs.Prelude.{ℕ, ◌≡◌, ◌+◌, ◌*◌, ◌/◌, ◌%◌, List, [], ◌∷◌}
use Rattle.ti_txt.specs.declared.image.Image.{Image}
use Rattle.ti_txt.specs.Image.{Block}
use Rattle.ti_txt.specs.Bytes.{blocks_of}
use Rattle.msp430_machine.specs.State.{Off, State, AreWords}
use Rattle.msp430_machine.specs.Memory.{byte_at}

-- bits 3 and 5 to 7 of some status register: a sum of 8, 32, 64 and 128, of any of them
abbrev pub IsOtherBits : ℕ → Type 0
IsOtherBits n = n ≡ n / 8 % 2 * 8 + n / 32 % 8 * 32

-- off, without charge, nothing taken; each register and each word of memory is any word
pub record IsFirst (s : State) : Type 0 where
  pub off : s.phase ≡ Off
  pub no_charge : s.charge ≡ 0
  pub none_taken : s.taken ≡ 0
  pub registers : AreWords 16 s.reg
  pub other_bits : IsOtherBits s.other_bits
  pub sram : AreWords 1024 s.sram
  pub fram : AreWords 16384 s.fram
  pub code : AreWords 16384 s.code

-- these bytes stand from the address on
abbrev pub HoldsBytes : State → ℕ → List ℕ → Type 0
HoldsBytes s a [] = Unit {0}
HoldsBytes s a (b ∷ bytes) = (byte_at s a ≡ b) × HoldsBytes s (a + 1) bytes

abbrev pub HoldsBlocks : State → List Block → Type 0
HoldsBlocks s [] = Unit {0}
HoldsBlocks s (block ∷ blocks) = HoldsBytes s block.start block.bytes × HoldsBlocks s blocks

-- each byte of the image is there
abbrev pub HoldsImage : Image → State → Type 0
HoldsImage image s = HoldsBlocks s (blocks_of image)
