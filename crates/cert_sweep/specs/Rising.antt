-- Rows that rise by a number.
use Rattle.std.specs.Prelude.{ℕ, ◌+◌, ◌≤◌, nat_le, List, [], ◌∷◌, Option, Some, None, if◌then◌else◌}
use Rattle.std.specs.Coded.{Unit-prop, le_prop}

-- from a number on, each number above the one before
abbrev pub Rises : {A : Type 0} → (A → ℕ) → ℕ → List A → Type 0
Rises key low [] = Unit {0}
Rises key low (x ∷ xs) = (low ≤ key x) × Rises key (key x + 1) xs

pub rises_prop : {A : Type 0} (key : A → ℕ) (low : ℕ) (xs : List A) → IsProp (Rises key low xs)
rises_prop key low [] = Unit-prop
rises_prop key low (x ∷ xs) = λ p q. λ i. (le_prop p.0 q.0 i, rises_prop key (key x + 1) xs p.1 q.1 i)

-- the first row whose number is at least n
abbrev pub first_from : {A : Type 0} → (A → ℕ) → ℕ → List A → Option A
first_from key n [] = None
first_from key n (x ∷ xs) = if nat_le n (key x) then Some x else first_from key n xs
