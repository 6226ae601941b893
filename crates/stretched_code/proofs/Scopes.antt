-- What is spent at most until control leaves a scope: operations of given prices. Nothing is computed; it is a bound over all that may come.
use Rattle.std.proofs.Common.{◌≡◌, ℕ, zero, suc, ◌-◌, ◌<◌, ◌≤◌, Bool, true, false, sym, ◌∙◌}
use Rattle.laid_code.specs.Flows.{Memory, On, Away, Flow, written}

-- which places are operations of the scope, and what each costs
pub record Scope (Q : Type 0) : Type 0 where
  pub inside : Q → Bool
  pub price : Q → ℕ

module _ (Q : Type 0) (flow : Flow Q) (scope : Scope Q) where
  -- n operations from this place and these words of objects on, as long as control stays in the scope, cost no more than `left`, whatever input words come
  abbrev pub Within : ℕ → Q → Memory → ℕ → Type 0
  Within zero q m left = Unit {0}
  Within (suc n) q m left =
      scope.inside q ≡ true
      → (scope.price q ≤ left)
      × ((w : ℕ) → w < 65536 → (flow.effect q m w).turn ≡ On → Within n (flow.on q) (written m (flow.effect q m w).change) (left - scope.price q))
      × ((w : ℕ) → w < 65536 → (flow.effect q m w).turn ≡ Away → Within n (flow.away q) (written m (flow.effect q m w).change) (left - scope.price q))

  abbrev pub Fits : Q → Memory → ℕ → Type 0
  Fits q m left = (n : ℕ) → Within n q m left

  pub fits_price : (q : Q) (m : Memory) (left : ℕ) → Fits q m left → scope.inside q ≡ true → scope.price q ≤ left
  fits_price q m left fits is = (fits 1 is).0

  pub fits_on : (q : Q) (m : Memory) (left w : ℕ) → Fits q m left → scope.inside q ≡ true → w < 65536 → (flow.effect q m w).turn ≡ On
      → Fits (flow.on q) (written m (flow.effect q m w).change) (left - scope.price q)
  fits_on q m left w fits is low on = λ n. (fits (suc n) is).1 w low on

  pub fits_away : (q : Q) (m : Memory) (left w : ℕ) → Fits q m left → scope.inside q ≡ true → w < 65536 → (flow.effect q m w).turn ≡ Away
      → Fits (flow.away q) (written m (flow.effect q m w).change) (left - scope.price q)
  fits_away q m left w fits is low away = λ n. (fits (suc n) is).2 w low away

  out_by : (n : ℕ) (q : Q) (m : Memory) (left : ℕ) → scope.inside q ≡ false → Within n q m left
  out_by zero q m left out = tt
  out_by (suc n) q m left out = λ is. let no : true ≡ false = sym is ∙ out in absurd cc

  -- outside nothing is spent
  pub fits_out : (q : Q) (m : Memory) (left : ℕ) → scope.inside q ≡ false → Fits q m left
  fits_out q m left out = λ n. out_by n q m left out
