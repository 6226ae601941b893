-- The words with which a global begins.
use Rattle.std.specs.Prelude.{ℕ, zero, suc, List, [], ◌∷◌}

-- so many words: these, and then zeros
abbrev pub filled : ℕ → List ℕ → List ℕ
filled zero ws = []
filled (suc n) [] = 0 ∷ filled n []
filled (suc n) (w ∷ ws) = w ∷ filled n ws
