-- What weights cost: joined weights cost what the costs of their parts come to.
use Rattle.std.proofs.Common.{◌≡◌, ℕ, zero, suc, ◌+◌, ◌*◌, ◌≤◌, arith, mul-le-mul_right}
use Rattle.std.specs.Prelude.{max}
use Rattle.item_weights.specs.Weights.{Weight, greater, no_weight, plus, times, with_base}
use Rattle.item_weights.specs.Costs.{Prices, cost_of, uses_cost}

pub record IsCost (C : Weight → ℕ) : Type 0 where
  pub none : C no_weight ≡ 0
  pub sum : (v w : Weight) → C (plus v w) ≡ C v + C w
  pub left : (v w : Weight) → C v ≤ C (greater v w)
  pub right : (v w : Weight) → C w ≤ C (greater v w)
  pub times : (n : ℕ) (w : Weight) → C (times n w) ≡ n * C w
  pub base : (n : ℕ) (w : Weight) → C (with_base n w) ≡ C w + n

module _ (p : Prices) where
  none_uses : (o : ℕ) → uses_cost p no_weight o ≡ 0
  none_uses zero = omega arith
  none_uses (suc o) = let h = none_uses o in omega (arith, h)

  sum_uses : (v w : Weight) (o : ℕ) → uses_cost p (plus v w) o ≡ uses_cost p v o + uses_cost p w o
  sum_uses v w zero = omega arith
  sum_uses v w (suc o) = let h = sum_uses v w o in omega (arith, h)

  left_uses : (v w : Weight) (o : ℕ) → uses_cost p v o ≤ uses_cost p (greater v w) o
  left_uses v w zero = omega arith
  left_uses v w (suc o) =
      let h = left_uses v w o in
      let r : v.reads o * p.read o ≤ max (v.reads o) (w.reads o) * p.read o = mul-le-mul_right (p.read o) (omega arith) in
      let s : v.writes o * p.write o ≤ max (v.writes o) (w.writes o) * p.write o = mul-le-mul_right (p.write o) (omega arith) in
      omega (arith, h, r, s)

  right_uses : (v w : Weight) (o : ℕ) → uses_cost p w o ≤ uses_cost p (greater v w) o
  right_uses v w zero = omega arith
  right_uses v w (suc o) =
      let h = right_uses v w o in
      let r : w.reads o * p.read o ≤ max (v.reads o) (w.reads o) * p.read o = mul-le-mul_right (p.read o) (omega arith) in
      let s : w.writes o * p.write o ≤ max (v.writes o) (w.writes o) * p.write o = mul-le-mul_right (p.write o) (omega arith) in
      omega (arith, h, r, s)

  times_uses : (n : ℕ) (w : Weight) (o : ℕ) → uses_cost p (times n w) o ≡ n * uses_cost p w o
  times_uses n w zero = omega arith
  times_uses n w (suc o) = let h = times_uses n w o in omega (arith, h)

  base_uses : (n : ℕ) (w : Weight) (o : ℕ) → uses_cost p (with_base n w) o ≡ uses_cost p w o
  base_uses n w zero = omega arith
  base_uses n w (suc o) = let h = base_uses n w o in omega (arith, h)

  pub costs : (objects : ℕ) → IsCost (cost_of p objects)
  costs objects = record {
    none = let h = none_uses objects in omega (arith, h);
    sum = λ v w. let h = sum_uses v w objects in omega (arith, h);
    left = λ v w. let h = left_uses v w objects in omega (arith, h);
    right = λ v w. let h = right_uses v w objects in omega (arith, h);
    times = λ n w. let h = times_uses n w objects in omega (arith, h);
    base = λ n w. let h = base_uses n w objects in omega (arith, h);
  }
