-- Told weights, added, are the told sum.
use Rattle.std.proofs.Common.{◌≡◌, ◌<◌, ◌+◌, ◌^◌, ◌++◌, ℕ, zero, suc, List, [], ◌∷◌, inl, inr, refl, sym, ap, ◌∙◌, arith}
use Rattle.std.proofs.lemmas.Bool.{cases_lt}
use Rattle.item_weights.specs.declared.uses.Use.{Use}
use Rattle.item_weights.specs.Weights.{Weight, kept, plus}
use Rattle.chain_units.specs.Known.{both, with_use, with_uses}
use Rattle.chain_units.specs.Sums.{Above}
use Rattle.chain_units.proofs.Adding.{use_before, use_behind, use_same}
use Rattle.checkpoint_graph.specs.Knowing.{told, use_of, uses_from}
use Rattle.checkpoint_graph.proofs.ToldUses.{above_from, use_none, use_some}

-- a use whose object lies before those of others stays before them
stays : (u : Use) (us vs : List Use) → Above u.object vs → with_uses (u ∷ us) vs ≡ u ∷ with_uses us vs
stays u us [] above = refl
stays u us (v ∷ vs) above = ap (λ (ws : List Use). with_uses ws vs) (use_behind u v us above.0) ∙ stays u (with_use us v) vs above.1

comes_first : (v : Use) (us : List Use) → Above v.object us → with_use us v ≡ v ∷ us
comes_first v [] above = refl
comes_first v (u ∷ us) above = use_before u v us above.0

abbrev one : ℕ → ℕ → ℕ → Use
one o r s = record { object = o; reads = r; writes = s }

-- the uses of one object in both lists
module _ (o : ℕ) (us vs ws : List Use) (above_us : Above o us) (above_vs : Above o vs) (rest : with_uses us vs ≡ ws) where
  both_none : (a b c d : ℕ) → a + b ≡ 0 → c + d ≡ 0 → with_uses (use_of o a b ++ us) (use_of o c d ++ vs) ≡ use_of o (kept (a + c)) (kept (b + d)) ++ ws
  both_none a b c d e f =
      ap (λ (xs : List Use). with_uses (xs ++ us) (use_of o c d ++ vs)) (use_none o a b e)
      ∙ (ap (λ (xs : List Use). with_uses us (xs ++ vs)) (use_none o c d f)
      ∙ (rest ∙ sym (ap (λ (xs : List Use). xs ++ ws) (use_none o (kept (a + c)) (kept (b + d)) (omega (arith, e, f))))))

  left_one : (a b c d : ℕ) → 0 < a + b → a < 2 ^ 63 + 1 → b < 2 ^ 63 + 1 → c + d ≡ 0 → with_uses (use_of o a b ++ us) (use_of o c d ++ vs) ≡ use_of o (kept (a + c)) (kept (b + d)) ++ ws
  left_one a b c d lt small small' f =
      let r : kept (a + c) ≡ a = omega (arith, f, small) in
      let s : kept (b + d) ≡ b = omega (arith, f, small') in
      ap (λ (xs : List Use). with_uses (xs ++ us) (use_of o c d ++ vs)) (use_some o a b lt)
      ∙ (ap (λ (xs : List Use). with_uses (one o a b ∷ us) (xs ++ vs)) (use_none o c d f)
      ∙ (stays (one o a b) us vs above_vs
      ∙ (ap (λ (xs : List Use). one o a b ∷ xs) rest
      ∙ sym (ap (λ (xs : List Use). xs ++ ws) (ap (λ (n : ℕ). use_of o n (kept (b + d))) r ∙ (ap (λ (n : ℕ). use_of o a n) s ∙ use_some o a b lt))))))

  right_one : (a b c d : ℕ) → a + b ≡ 0 → 0 < c + d → c < 2 ^ 63 + 1 → d < 2 ^ 63 + 1 → with_uses (use_of o a b ++ us) (use_of o c d ++ vs) ≡ use_of o (kept (a + c)) (kept (b + d)) ++ ws
  right_one a b c d e lt small small' =
      let r : kept (a + c) ≡ c = omega (arith, e, small) in
      let s : kept (b + d) ≡ d = omega (arith, e, small') in
      ap (λ (xs : List Use). with_uses (xs ++ us) (use_of o c d ++ vs)) (use_none o a b e)
      ∙ (ap (λ (xs : List Use). with_uses us (xs ++ vs)) (use_some o c d lt)
      ∙ (ap (λ (xs : List Use). with_uses xs vs) (comes_first (one o c d) us above_us)
      ∙ (stays (one o c d) us vs above_vs
      ∙ (ap (λ (xs : List Use). one o c d ∷ xs) rest
      ∙ sym (ap (λ (xs : List Use). xs ++ ws) (ap (λ (n : ℕ). use_of o n (kept (b + d))) r ∙ (ap (λ (n : ℕ). use_of o c n) s ∙ use_some o c d lt)))))))

  both_one : (a b c d : ℕ) → 0 < a + b → 0 < c + d → with_uses (use_of o a b ++ us) (use_of o c d ++ vs) ≡ use_of o (kept (a + c)) (kept (b + d)) ++ ws
  both_one a b c d lt lt' =
      let m = one o (kept (a + c)) (kept (b + d)) in
      ap (λ (xs : List Use). with_uses (xs ++ us) (use_of o c d ++ vs)) (use_some o a b lt)
      ∙ (ap (λ (xs : List Use). with_uses (one o a b ∷ us) (xs ++ vs)) (use_some o c d lt')
      ∙ (ap (λ (xs : List Use). with_uses xs vs) (use_same (one o a b) (one o c d) us refl)
      ∙ (stays m us vs above_vs
      ∙ (ap (λ (xs : List Use). m ∷ xs) rest ∙ sym (ap (λ (xs : List Use). xs ++ ws) (use_some o (kept (a + c)) (kept (b + d)) (omega (arith, lt))))))))

  one_object : (a b c d : ℕ) → a < 2 ^ 63 + 1 → b < 2 ^ 63 + 1 → c < 2 ^ 63 + 1 → d < 2 ^ 63 + 1 → with_uses (use_of o a b ++ us) (use_of o c d ++ vs) ≡ use_of o (kept (a + c)) (kept (b + d)) ++ ws
  one_object a b c d p q r s = elim (cases_lt 0 (a + b)) [
    | inl lt ↦ elim (cases_lt 0 (c + d)) [ inl lt' ↦ both_one a b c d lt lt' | inr le ↦ left_one a b c d lt p q (omega (arith, le)) ]
    | inr le ↦ elim (cases_lt 0 (c + d)) [ inl lt' ↦ right_one a b c d (omega (arith, le)) lt' r s | inr le' ↦ both_none a b c d (omega (arith, le)) (omega (arith, le')) ]
  ]

module _ (v w : Weight) where
  sum_same : (m n : ℕ) → kept (kept m + kept n) ≡ kept (m + n)
  sum_same m n = omega arith

  uses_sum : (o n : ℕ) → with_uses (uses_from v o n) (uses_from w o n) ≡ uses_from (plus v w) o n
  uses_sum o zero = refl
  uses_sum o (suc n) =
      one_object o (uses_from v (suc o) n) (uses_from w (suc o) n) (uses_from (plus v w) (suc o) n) (above_from v o (suc o) n (omega arith)) (above_from w o (suc o) n (omega arith)) (uses_sum (suc o) n)
      (kept (v.reads o)) (kept (v.writes o)) (kept (w.reads o)) (kept (w.writes o)) (omega arith) (omega arith) (omega arith) (omega arith)
      ∙ (ap (λ (r : ℕ). use_of o r (kept (kept (v.writes o) + kept (w.writes o))) ++ uses_from (plus v w) (suc o) n) (sum_same (v.reads o) (w.reads o))
      ∙ ap (λ (s : ℕ). use_of o (kept (v.reads o + w.reads o)) s ++ uses_from (plus v w) (suc o) n) (sum_same (v.writes o) (w.writes o)))

  pub told_sum : (objects : ℕ) → both (told objects v) (told objects w) ≡ told objects (plus v w)
  told_sum objects = λ i. record { base = sum_same v.base w.base i; uses = uses_sum 0 objects i }
