-- The one text that is written for an image.
use Rattle.std.specs.Prelude.{◌<◌, ◌≡◌, Result, Ok, Err, ℕ, ◌+◌, ◌/◌, ◌%◌, ◌==◌, List, [], ◌∷◌, ◌++◌, flat_map, if◌then◌else◌}
use Rattle.base_io.specs.Digits.{hex_digit, hex_word}
use Rattle.ti_txt.specs.Image.{Block}

-- What stands behind the byte of this number in its block, before the bytes left: a line feed behind the last byte
-- and behind the sixteenth of a line, else a blank.
abbrev pub parting : ℕ → List ℕ → ℕ
parting n [] = 10
parting n (_ ∷ _) = if n % 16 == 15 then 10 else 32

-- the bytes of a block from this number on, each as two upper-case digits
abbrev pub bytes_text : ℕ → List ℕ → List ℕ
bytes_text n [] = []
bytes_text n (b ∷ rest) = hex_digit (b / 16) ∷ hex_digit (b % 16) ∷ parting n rest ∷ bytes_text (n + 1) rest

-- `@` and the address on a line of their own, and then the bytes
abbrev pub block_text : Block → List ℕ
block_text b = 64 ∷ hex_word b.start ++ 10 ∷ bytes_text 0 b.bytes

-- the blocks, and `q` on the last line
abbrev pub text_of : List Block → List ℕ
text_of blocks = flat_map block_text blocks ++ 113 ∷ 10 ∷ []

-- The text was appended; where there was no memory, something may have been.
abbrev pub Appends : {T E : Type 0} → List ℕ → Result T E → List ℕ → List ℕ → Type 0
Appends text (Ok _) old new = new ≡ old ++ text
Appends text (Err _) old new = (more : List ℕ) × (new ≡ old ++ more)

-- the bytes of blocks fit eight bits
abbrev pub Fit : List ℕ → Type 0
Fit [] = Unit {0}
Fit (b ∷ bytes) = (b < 256) × Fit bytes

abbrev pub AllFit : List Block → Type 0
AllFit [] = Unit {0}
AllFit (b ∷ rest) = Fit b.bytes × AllFit rest
