-- The words with which a global begins.
use Rattle.std.proofs.Common.{◌≡◌, ℕ, zero, suc, ◌≤◌, refl, ap, arith, List, [], ◌∷◌, ◌++◌, take, replicate, Option, Some, None}
use Rattle.c_tree.specs.Meaning.{first_sized}
use Rattle.lowered_graphs.specs.Exprs.{length_or}
use Rattle.c_lower.specs.Beginning.{filled}

-- so many words of a global
filled_is : (n m : ℕ) (ws : List ℕ) → n ≤ m → filled n ws ≡ take n (ws ++ replicate m 0)
filled_is zero m ws h = refl
filled_is (suc n) zero [] h = absurd (omega arith)
filled_is (suc n) zero (w ∷ ws) h = absurd (omega arith)
filled_is (suc n) (suc m) [] h = ap (λ l. 0 ∷ l) (filled_is n m [] (omega arith))
filled_is (suc n) (suc m) (w ∷ ws) h = ap (λ l. w ∷ l) (filled_is n (suc m) ws (omega arith))

pub first_filled : (v : Option ℕ) (ws : List ℕ) → filled (length_or v) ws ≡ first_sized v ws
first_filled None [] = refl
first_filled None (w ∷ ws) = refl
first_filled (Some n) ws = filled_is n n ws (omega arith)
