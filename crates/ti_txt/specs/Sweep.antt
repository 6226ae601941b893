-- The blocks of a row of cells.
use Rattle.std.specs.Prelude.{ℕ, ◌+◌, ◌-◌, List, [], ◌∷◌, ◌++◌, length, Some, None}
use Rattle.ti_txt.specs.Image.{Block}
use Rattle.ti_txt.specs.Spots.{Cells}

-- the block of the bytes before an address, if there are any
abbrev pub closed : ℕ → List ℕ → List Block
closed address [] = []
closed address (b ∷ bytes) = record { start = address - length (b ∷ bytes); bytes = b ∷ bytes } ∷ []

-- the blocks of the cells from an address on, the first of which goes on behind these bytes
abbrev pub sweep : ℕ → List ℕ → Cells → List Block
sweep address bytes [] = closed address bytes
sweep address bytes (None ∷ rest) = closed address bytes ++ sweep (address + 1) [] rest
sweep address bytes (Some b ∷ rest) = sweep (address + 1) (bytes ++ b ∷ []) rest
