-- What a weight costs, by what a read and a write of each object cost.
use Rattle.std.specs.Prelude.{ℕ, zero, suc, ◌+◌, ◌*◌}
use Rattle.item_weights.specs.Weights.{Weight}

-- what a read and a write of each object cost, in energy units
pub record Prices : Type 0 where
  pub read : ℕ → ℕ
  pub write : ℕ → ℕ

-- the sum over the objects below a number
abbrev pub uses_cost : Prices → Weight → ℕ → ℕ
uses_cost p w zero = 0
uses_cost p w (suc o) = (w.reads o * p.read o + w.writes o * p.write o) + uses_cost p w o

-- what a weight costs, where it touches no object from a number on
abbrev pub cost_of : Prices → ℕ → Weight → ℕ
cost_of p objects w = w.base + uses_cost p w objects
