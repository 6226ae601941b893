-- How large numbers of bounds get.
use Rattle.std.specs.Prelude.{◌^◌, ℤ, pos, ◌+ℤ◌, ◌≤ℤ◌}

-- far within 128 bits
abbrev pub IsSmall : ℤ → Type 0
IsSmall z = (pos 0 ≤ℤ (z +ℤ pos (2 ^ 110))) × (z ≤ℤ pos (2 ^ 110))

-- still far within 128 bits
abbrev pub IsWide : ℤ → Type 0
IsWide z = (pos 0 ≤ℤ (z +ℤ pos (2 ^ 120))) × (z ≤ℤ pos (2 ^ 120))
