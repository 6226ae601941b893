-- One statement more.
use Rattle.std.proofs.Common.{◌≡◌, ◌∙◌, ◌-◌, ◌<◌, ◌++◌, ℕ, zero, suc, sym, ap, append_assoc, arith}
use Rattle.generated_programs.specs.Generated.{Text, next, statement, statements}

first_of : (n x : ℕ) → 0 < n → statements n x ≡ statement (next x) (next (next x)) (next (next (next x))) ++ statements (n - 1) (next (next (next x)))
first_of zero x lt = absurd (omega (arith, lt))
first_of (suc n) x lt = ap (λ k. statement (next x) (next (next x)) (next (next (next x))) ++ statements k (next (next (next x)))) (omega arith)

pub step : (before after whole : Text) (left x p q r : ℕ) → p ≡ next x → q ≡ next p → r ≡ next q → 0 < left → after ≡ before ++ statement p q r
    → before ++ statements left x ≡ whole → after ++ statements (left - 1) r ≡ whole
step before after whole left x p q r e f g lt is all =
    let q_is : q ≡ next (next x) = f ∙ ap next e in
    let r_is : r ≡ next (next (next x)) = g ∙ ap next q_is in
    ap (λ t. t ++ statements (left - 1) r) is
    ∙ append_assoc before (statement p q r) (statements (left - 1) r)
    ∙ ap (λ k. before ++ (statement k q r ++ statements (left - 1) r)) e
    ∙ ap (λ k. before ++ (statement (next x) k r ++ statements (left - 1) r)) q_is
    ∙ ap (λ k. before ++ (statement (next x) (next (next x)) k ++ statements (left - 1) k)) r_is
    ∙ sym (ap (λ t. before ++ t) (first_of left x lt))
    ∙ all
