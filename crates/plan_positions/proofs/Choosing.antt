-- Objects chosen one by one.
use Rattle.std.proofs.Common.{◌≡◌, ℕ, Bool, true, false, List, [], ◌∷◌, ◌++◌, append_assoc}
use Rattle.std.specs.Prelude.{if◌then◌else◌}
use Rattle.plan_code.specs.Positions.{chosen}

one : (yes : Bool) (o : ℕ) (made rest : List ℕ) → (made ++ (if yes then o ∷ [] else [])) ++ rest ≡ made ++ (if yes then o ∷ rest else rest)
one true o made rest = append_assoc made (o ∷ []) rest
one false o made rest = append_assoc made [] rest

pub chosen_more : (test : ℕ → Bool) (o : ℕ) (os made : List ℕ) → (made ++ (if test o then o ∷ [] else [])) ++ chosen test os ≡ made ++ chosen test (o ∷ os)
chosen_more test o os made = one (test o) o made (chosen test os)
