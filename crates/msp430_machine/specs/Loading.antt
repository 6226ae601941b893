-- The bytes of memory when an image is loaded.
use Rattle.std.specs.Prelude.{ℕ, ◌≡◌, ◌+◌, ◌*◌, ◌<◌, nat_lt, List, [], None, slice_index, unwrap_or, if◌then◌else◌}
use Rattle.ti_txt.specs.Image.{Block}
use Rattle.ti_txt.specs.Bytes.{byte_in, byte_of}
use Rattle.ti_txt.specs.declared.image.Image.{Image}
use Rattle.msp430_machine.specs.State.{Off, State, no_flags, status_word}
use Rattle.msp430_machine.specs.Memory.{byte_at}

-- the byte that blocks put at an address, or else the one that is there
abbrev pub byte_over : List Block → List ℕ → ℕ → ℕ
byte_over blocks bytes a = unwrap_or (byte_in blocks a) (slice_index bytes a)

-- zero in each register, and in memory wherever the image has no byte
pub record IsZeroBut (image : Image) (s : State) : Type 0 where
  pub registers : (r : ℕ) → s.reg r ≡ 0
  pub status : status_word s ≡ 0
  pub bytes : (a : ℕ) → a < 65536 → byte_of image a ≡ None → byte_at s a ≡ 0

-- The word at place k of a memory that begins at this address: of the bytes that blocks put there, or of zeros. FRAM and code have
-- 16,384 words each, and there are none beyond.
abbrev pub loaded_word : List Block → ℕ → ℕ → ℕ
loaded_word blocks start k =
    if nat_lt k 16384 then byte_over blocks [] (start + 2 * k) + 256 * byte_over blocks [] (start + 2 * k + 1) else 0

-- Off, without charge, with these blocks in memory, and zero everywhere else. There is one such state.
pub record IsLoaded (blocks : List Block) (s : State) : Type 0 where
  pub off : s.phase ≡ Off
  pub no_charge : s.charge ≡ 0
  pub none_taken : s.taken ≡ 0
  pub registers : (r : ℕ) → s.reg r ≡ 0
  pub flags : s.flags ≡ no_flags
  pub other_bits : s.other_bits ≡ 0
  pub sram : (k : ℕ) → s.sram k ≡ 0
  pub fram : (k : ℕ) → s.fram k ≡ loaded_word blocks 0 k
  pub code : (k : ℕ) → s.code k ≡ loaded_word blocks 0x8000 k
