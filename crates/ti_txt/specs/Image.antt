-- What a device's memory is loaded with.
use Rattle.std.specs.Prelude.{ℕ, ◌+◌, ◌<◌, ◌≤◌, List, [], ◌∷◌, length, ⊤}
use Rattle.std.specs.Coded.{Unit-prop, le_prop}
use Rattle.ti_txt.specs.declared.image.Segment.{Segment}

-- bytes from an address on: a segment without where it lies in the program's own memory
pub record Block : Type 0 where
  pub start : ℕ
  pub bytes : List ℕ

abbrev pub block_of : Segment → Block
block_of s = record { start = s.start; bytes = s.bytes.items }

-- the first address behind the block
abbrev pub end_of : Block → ℕ
end_of b = b.start + length b.bytes

-- The addresses from start on that are below end lie in information FRAM (0x1800 to 0x19FF) or in 0x4400 to 0xFFFF.
abbrev pub IsLoadable : ℕ → ℕ → Type 0
IsLoadable start end = (0x1800 ≤ start) × (end ≤ 0x10000) × (start < 0x4400 → end ≤ 0x1A00)

-- From low on: each block has a byte and lies where an image may, and an address at least parts it from the next.
abbrev pub Ascend : ℕ → List Block → Type 0
Ascend low [] = ⊤
Ascend low (b ∷ rest) = (low ≤ b.start) × (0 < length b.bytes) × IsLoadable b.start (end_of b) × Ascend (end_of b + 1) rest

-- the blocks ascend, neither overlap nor touch, and are not empty
abbrev pub IsImage : List Block → Type 0
IsImage blocks = Ascend 0 blocks

pub loadable_prop : (start end : ℕ) → IsProp (IsLoadable start end)
loadable_prop start end x y = λ i. (le_prop x.0 y.0 i, le_prop x.1 y.1 i, λ low. le_prop (x.2 low) (y.2 low) i)

pub ascend_prop : (low : ℕ) (blocks : List Block) → IsProp (Ascend low blocks)
ascend_prop low [] = Unit-prop
ascend_prop low (b ∷ rest) = λ x y. λ i. (le_prop x.0 y.0 i, le_prop x.1 y.1 i, loadable_prop b.start (end_of b) x.2 y.2 i, ascend_prop (end_of b + 1) rest x.3 y.3 i)
