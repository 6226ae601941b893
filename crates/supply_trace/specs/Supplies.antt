-- What a supply gives.
use Rattle.std.specs.Prelude.{◌≡◌, ◌≤◌, ℕ, List, [], ◌∷◌}
use Rattle.base_io.specs.Counts.{Rose, one_more}
use Rattle.msp430_machine.specs.declared.answer.Refill.{Refill}
use Rattle.supply_trace.specs.declared.supply.Given.{Given}
use Rattle.supply_trace.specs.declared.supply.Given.TheVariants.{Row, Ended, Failed}

-- There is a row, and it stays the first of those that are left.
abbrev pub KeepsSome : List Refill → List Refill → Type 0
KeepsSome [] now = ⊥
KeepsSome (row ∷ rows) now = now ≡ row ∷ rows

-- The first row is given and removed; `Ended` comes exactly where there is none, and a fault takes none.
abbrev pub TakesRow : Given → List Refill → List Refill → Type 0
TakesRow (Row row) before now = before ≡ row ∷ now
TakesRow Ended before now = (before ≡ []) × (now ≡ [])
TakesRow Failed before now = KeepsSome before now

-- A fault is answered only where the count rose, and nothing else raises it.
abbrev pub CountsFault : Given → ℕ → ℕ → Type 0
CountsFault Failed before now = (before ≤ now) × Rose before now
CountsFault (Row row) before now = now ≡ before
CountsFault Ended before now = now ≡ before

-- the rows left, the numbers of the refills that fail, and how many were asked for and have failed
pub record FailingState : Type 0 where
  pub rows : List Refill
  pub calls : List ℕ
  pub asked : ℕ
  pub faults : ℕ

-- a fault is counted
abbrev pub counted : Given → ℕ → ℕ
counted Failed n = one_more n
counted _ n = n
