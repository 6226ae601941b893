-- A whole table, told row by row and weight by weight.
use Rattle.std.specs.Prelude.{◌≡◌, ◌==◌, ⊤, ℕ, false, List, [], ◌∷◌, length}
use Rattle.std.specs.List.{AllByRecursion}
use Rattle.loop_checkpoints.specs.declared.LoopObject.{LoopObject}
use Rattle.loop_checkpoints.specs.declared.LoopWeight.{LoopWeight}
use Rattle.loop_checkpoints.specs.Loops as loops
use Rattle.chain_plans.specs.Weights.{Rows}

-- none of these has the object's number
abbrev pub IsNoneOf : ℕ → List LoopObject → Type 0
IsNoneOf object others = AllByRecursion (λ other. (object == other) ≡ false) (loops.objects others)

-- no two objects of a weight are the same
abbrev pub AllDiffer : List LoopWeight → Type 0
AllDiffer [] = ⊤
AllDiffer (w ∷ ws) = loops.Differ w.objects.items × AllDiffer ws

-- the first stretch of a row fits
abbrev pub IsAlone : ℕ → ℕ → List LoopWeight → Type 0
IsAlone room budget [] = ⊤
IsAlone room budget (w ∷ ws) = loops.Fits w room budget 1

pub record IsRow (room budget count : ℕ) (row : List LoopWeight) : Type 0 where
  pub so_many : length row ≡ count
  pub differ : AllDiffer row
  pub alone : IsAlone room budget row

-- a row for each item, of as many stretches as items are left
abbrev pub AreRows : ℕ → ℕ → Rows → Type 0
AreRows room budget [] = ⊤
AreRows room budget (row ∷ rows) = IsRow room budget (length (row ∷ rows)) row.items × AreRows room budget rows
