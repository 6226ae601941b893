-- What an image holds.
use Rattle.std.specs.Prelude.{ℕ, ◌-◌, ◌&&◌, List, [], ◌∷◌, Option, None, map, nat_le, nat_lt, slice_get, if◌then◌else◌}
use Rattle.ti_txt.specs.Image.{Block, block_of, end_of}
use Rattle.ti_txt.specs.declared.image.Image.{Image}

abbrev pub blocks_of : Image → List Block
blocks_of image = map block_of image.segments.items

-- the byte at an address, if a block has one there
abbrev pub byte_in : List Block → ℕ → Option ℕ
byte_in [] address = None
byte_in (b ∷ rest) address = if nat_le b.start address && nat_lt address (end_of b)
    then slice_get b.bytes (address - b.start)
    else byte_in rest address

-- the byte at an address, if the image has one there
abbrev pub byte_of : Image → ℕ → Option ℕ
byte_of image address = byte_in (blocks_of image) address
