-- Two scopes one behind the other: what is spent in both is no more than what is spent in each.
use Rattle.std.proofs.Common.{◌≡◌, ◌⊎◌, ℕ, zero, suc, ◌+◌, ◌-◌, ◌≤◌, true, false, sym, ap, ◌∙◌, subst, arith, inl, inr}
use Rattle.std.specs.Prelude.{◌||◌, if◌then◌else◌}
use Rattle.laid_code.specs.Flows.{Memory, On, Away, Flow, written}
use Rattle.stretched_code.proofs.Scopes.{Scope, Within, Fits}

module _ (Q : Type 0) (flow : Flow Q) where
  abbrev pub both : Scope Q → Scope Q → Scope Q
  both a b = record { inside = λ q. a.inside q || b.inside q; price = λ q. if a.inside q then a.price q else b.price q }

  -- what fits fits in more
  more_by : (scope : Scope Q) (n : ℕ) (q : Q) (m : Memory) (left more : ℕ) → left ≤ more → Within Q flow scope n q m left → Within Q flow scope n q m more
  more_by scope zero q m left more le h = tt
  more_by scope (suc n) q m left more le h = λ is. (
    (let p = (h is).0 in omega (arith, p, le)),
    (λ w low on. more_by scope n (flow.on q) (written m (flow.effect q m w).change) (left - scope.price q) (more - scope.price q) (omega (arith, le)) ((h is).1 w low on)),
    (λ w low away. more_by scope n (flow.away q) (written m (flow.effect q m w).change) (left - scope.price q) (more - scope.price q) (omega (arith, le)) ((h is).2 w low away)),
  )

  pub fits_more : (scope : Scope Q) (q : Q) (m : Memory) (left more : ℕ) → left ≤ more → Fits Q flow scope q m left → Fits Q flow scope q m more
  fits_more scope q m left more le fits = λ n. more_by scope n q m left more le (fits n)

  module _ (a b : Scope Q) (w : ℕ) where
    -- control never comes back from the second to the first
    pub record NeverBack : Type 0 where
      pub on : (q : Q) (m : Memory) (v : ℕ) → a.inside q ≡ false → b.inside q ≡ true → (flow.effect q m v).turn ≡ On → a.inside (flow.on q) ≡ false
      pub away : (q : Q) (m : Memory) (v : ℕ) → a.inside q ≡ false → b.inside q ≡ true → (flow.effect q m v).turn ≡ Away → a.inside (flow.away q) ≡ false

    -- a place of the first, or one from which the second spends so much at most
    abbrev pub GoesOn : Q → Type 0
    GoesOn q = (a.inside q ≡ true) ⊎ ((a.inside q ≡ false) × ((m : Memory) → Fits Q flow b q m w))

    pub record Leaves : Type 0 where
      pub on : (q : Q) (m : Memory) (v : ℕ) → a.inside q ≡ true → (flow.effect q m v).turn ≡ On → GoesOn (flow.on q)
      pub away : (q : Q) (m : Memory) (v : ℕ) → a.inside q ≡ true → (flow.effect q m v).turn ≡ Away → GoesOn (flow.away q)

    module _ (never : NeverBack) where
      second_by : (n : ℕ) (q : Q) (m : Memory) (left : ℕ) → a.inside q ≡ false → Within Q flow b n q m left → Within Q flow (both a b) n q m left
      second_by zero q m left out h = tt
      second_by (suc n) q m left out h = λ is.
          let in_b : b.inside q ≡ true = sym (ap (λ c. c || b.inside q) out) ∙ is in
          let price : (both a b).price q ≡ b.price q = ap (λ c. if c then a.price q else b.price q) out in
          let p = (h in_b).0 in (
            omega (arith, p, price),
            (λ v low on. subst (λ y. Within Q flow (both a b) n (flow.on q) (written m (flow.effect q m v).change) (left - y)) (sym price)
                (second_by n (flow.on q) (written m (flow.effect q m v).change) (left - b.price q) (never.on q m v out in_b on) ((h in_b).1 v low on))),
            (λ v low away. subst (λ y. Within Q flow (both a b) n (flow.away q) (written m (flow.effect q m v).change) (left - y)) (sym price)
                (second_by n (flow.away q) (written m (flow.effect q m v).change) (left - b.price q) (never.away q m v out in_b away) ((h in_b).2 v low away))),
          )

      module _ (leaves : Leaves) where
        next_by : (n : ℕ) (q : Q) (m : Memory) (left price : ℕ) → price ≤ left → GoesOn q → (a.inside q ≡ true → Within Q flow (both a b) n q m (left - price + w)) → Within Q flow (both a b) n q m (left + w - price)
        next_by n q m left price within (inl still) rest = let e : left - price + w ≡ left + w - price = omega (arith, within) in subst (λ y. Within Q flow (both a b) n q m y) e (rest still)
        next_by n q m left price within (inr out) rest = more_by (both a b) n q m w (left + w - price) (omega (arith, within)) (second_by n q m w out.0 (out.1 m n))

        first_by : (n : ℕ) (q : Q) (m : Memory) (left : ℕ) → a.inside q ≡ true → Within Q flow a n q m left → Within Q flow (both a b) n q m (left + w)
        first_by zero q m left is h = tt
        first_by (suc n) q m left is h = λ inside.
            let price : (both a b).price q ≡ a.price q = ap (λ c. if c then a.price q else b.price q) is in
            let p = (h is).0 in (
              omega (arith, p, price),
              (λ v low on. subst (λ y. Within Q flow (both a b) n (flow.on q) (written m (flow.effect q m v).change) (left + w - y)) (sym price)
                  (next_by n (flow.on q) (written m (flow.effect q m v).change) left (a.price q) p (leaves.on q m v is on)
                  (λ still. first_by n (flow.on q) (written m (flow.effect q m v).change) (left - a.price q) still ((h is).1 v low on)))),
              (λ v low away. subst (λ y. Within Q flow (both a b) n (flow.away q) (written m (flow.effect q m v).change) (left + w - y)) (sym price)
                  (next_by n (flow.away q) (written m (flow.effect q m v).change) left (a.price q) p (leaves.away q m v is away)
                  (λ still. first_by n (flow.away q) (written m (flow.effect q m v).change) (left - a.price q) still ((h is).2 v low away)))),
            )

        -- from a place of the first both spend no more than the sum
        pub fits_both : (q : Q) (m : Memory) (left : ℕ) → a.inside q ≡ true → Fits Q flow a q m left → Fits Q flow (both a b) q m (left + w)
        fits_both q m left is fits = λ n. first_by n q m left is (fits n)

        -- and from a place of the second no more than the second
        pub fits_second : (q : Q) (m : Memory) (left : ℕ) → a.inside q ≡ false → Fits Q flow b q m left → Fits Q flow (both a b) q m left
        fits_second q m left out fits = λ n. second_by n q m left out (fits n)
