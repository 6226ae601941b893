-- Where calls have no cycle, fewer calls than there are functions nest: each function has a rank below their number, and calls go down.
use Rattle.std.proofs.Common.{◌≡◌, ℕ, zero, suc, ◌+◌, ◌<◌, ◌≤◌, ◌⊎◌, Bool, true, false, List, length, ap, subst, sym, inl, inr, arith}
use Rattle.std.specs.Prelude.{nat_lt, if◌then◌else◌, Contains, slice_get}
use Rattle.std.proofs.lemmas.Bool.Decides.{leb_tells}
use Rattle.std.proofs.lemmas.Bool.{cases_eq}
use Rattle.flow_graph.specs.declared.graph.Graph.{Graph}
use Rattle.flow_graph.specs.Owned.{operations}
use Rattle.flow_graph.specs.Rules.{IsGraph, doing_in, height_of}
use Rattle.flow_graph.proofs.ClosedLemmas.{graphs_are_closed}
use Rattle.call_depth.specs.Depth.{Calls, Lead}
use Rattle.call_depth.specs.Levels.{AreWithin}

-- ---- how many functions are lower

lower_tells : (a b : ℕ) → ((nat_lt a b ≡ true) × (a < b)) ⊎ ((nat_lt a b ≡ false) × (b ≤ a))
lower_tells a b = elim (leb_tells (suc a) b) [
  | inl t ↦ inl (t.0, let h = t.1 in omega (arith, h))
  | inr f ↦ inr (f.0, let h = f.1 in omega (arith, h))
]

module _ (heights : List ℕ) where
  abbrev one_if : Bool → ℕ
  one_if b = if b then 1 else 0

  abbrev height : ℕ → ℕ
  height f = height_of heights f

  -- of the first so many functions those below a height
  abbrev lower : ℕ → ℕ → ℕ
  lower zero h = 0
  lower (suc j) h = one_if (nat_lt (height j) h) + lower j h

  lower_few : (n h : ℕ) → lower n h ≤ n
  lower_few zero h = omega arith
  lower_few (suc j) h = let r = lower_few j h in elim (lower_tells (height j) h) [
    | inl t ↦ let e = ap one_if t.0 in omega (arith, e, r)
    | inr f ↦ let e = ap one_if f.0 in omega (arith, e, r)
  ]

  lower_more : (n h k : ℕ) → h ≤ k → lower n h ≤ lower n k
  lower_more zero h k le = omega arith
  lower_more (suc j) h k le = let r = lower_more j h k le in elim (lower_tells (height j) h) [
    | inl t ↦ elim (lower_tells (height j) k) [
      | inl u ↦ let e = ap one_if t.0 in let d = ap one_if u.0 in omega (arith, e, d, r)
      | inr u ↦ absurd (let a = t.1 in let b = u.1 in omega (arith, a, b, le))
    ]
    | inr f ↦ let e = ap one_if f.0 in omega (arith, e, r)
  ]

  lower_less : (n c k : ℕ) → c < n → height c < k → lower n (height c) < lower n k
  lower_less zero c k lt below = absurd (omega (arith, lt))
  lower_less (suc j) c k lt below = elim (cases_eq c j) [
    | inl same ↦
        let r = lower_more j (height j) k (subst (λ i. height i ≤ k) same (omega (arith, below))) in
        let here = subst (λ i. height i < k) same below in
        subst (λ i. lower (suc j) (height i) < lower (suc j) k) (sym same) (elim (lower_tells (height j) (height j)) [
          | inl t ↦ absurd (let a = t.1 in omega (arith, a))
          | inr f ↦ elim (lower_tells (height j) k) [
            | inl u ↦ let e = ap one_if f.0 in let d = ap one_if u.0 in omega (arith, e, d, r)
            | inr u ↦ absurd (let a = u.1 in omega (arith, a, here))
          ]
        ])
    | inr other ↦
        let r = lower_less j c k (omega (arith, lt, other)) below in
        elim (lower_tells (height j) (height c)) [
          | inl t ↦ elim (lower_tells (height j) k) [
            | inl u ↦ let e = ap one_if t.0 in let d = ap one_if u.0 in omega (arith, e, d, r)
            | inr u ↦ absurd (let a = t.1 in let b = u.1 in omega (arith, a, b, below))
          ]
          | inr f ↦ let e = ap one_if f.0 in omega (arith, e, r)
        ]
  ]

  lower_small : (n f : ℕ) → f < n → lower n (height f) < n
  lower_small n f lt = let a = lower_less n f (suc (height f)) lt (omega arith) in let b = lower_few n (suc (height f)) in omega (arith, a, b)

-- ---- a graph by the rules

module _ (g : Graph) (rules : IsGraph g) where
  abbrev many : ℕ
  many = length g.functions

  abbrev rank : ℕ → ℕ
  rank f = lower rules.heights many (height_of rules.heights f)

  callee : (f h : ℕ) → Calls (operations g) f h → (h < many) × (height_of rules.heights h < height_of rules.heights f)
  callee f h c =
      rules.calls f h (subst (λ x. Contains (doing_in (slice_get g.functions x)).calls h) c.own ((graphs_are_closed g rules).calls c.number c.op h c.behind c.is_there c.calls))

  callee_lower : (f h : ℕ) → Calls (operations g) f h → rank h < rank f
  callee_lower f h c = let e = callee f h c in lower_less rules.heights many h (height_of rules.heights f) e.0 e.1

  led_lower : (n to : ℕ) → Lead (operations g) g.main n to → (to < many) × (n + rank to ≤ rank g.main)
  led_lower zero to e = subst (λ x. (x < many) × (0 + rank x ≤ rank g.main)) e (rules.main, omega arith)
  led_lower (suc n) to (last, led, c) =
      let before = (led_lower n last led).1 in
      let less = callee_lower last to c in
      ((callee last to c).0, omega (arith, before, less))

  pub within : AreWithin (operations g) many g.main
  within = record {
    there = λ n to led. (led_lower n to led).0;
    few = λ n to led. let r = (led_lower n to led).1 in let s = lower_small rules.heights many g.main rules.main in omega (arith, r, s);
  }
