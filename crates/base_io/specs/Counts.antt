-- Counts of faults, as a store or a sink keeps them. A count that has come to its type's end stands still.
use Rattle.std.specs.Prelude.{◌≡◌, ℕ, ◌+◌, ◌-◌, ◌^◌, ◌≤◌, min, max, Result, Ok, Err}

-- one more, but not past the type's end; a number that is there or above stays
abbrev pub one_more : ℕ → ℕ
one_more n = max n (min (n + 1) (2 ^ 64 - 1))

-- The count rose, or it stands at its type's end.
abbrev pub Rose : ℕ → ℕ → Type 0
Rose before now = min (before + 1) (2 ^ 64 - 1) ≤ now

-- A fault is answered only where the count rose, and nothing else raises it.
abbrev pub CountsFaults : {T E : Type 0} → Result T E → ℕ → ℕ → Type 0
CountsFaults (Ok _) before now = now ≡ before
CountsFaults (Err _) before now = (before ≤ now) × Rose before now
