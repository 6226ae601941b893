-- The first word of a row of words.
use Rattle.std.proofs.Common.{◌≡◌, ℕ, zero, suc, ◌+◌, ◌-◌, ◌<◌, Bool, false, Some, ap, arith}
use Rattle.std.specs.Prelude.{if◌then◌else◌}
use Rattle.cert_rules.specs.Slots.{first_word}

pub first_further : (p : ℕ → Bool) (a n : ℕ) → 0 < n → p a ≡ false → first_word p (a + 2) (n - 1) ≡ first_word p a n
first_further p a zero some off = absurd (omega (arith, some))
first_further p a (suc n) some off =
    let less : suc n - 1 ≡ n = omega arith in
    let skip : first_word p a (suc n) ≡ first_word p (a + 2) n = ap (λ b. if b then Some a else first_word p (a + 2) n) off in
    cc
