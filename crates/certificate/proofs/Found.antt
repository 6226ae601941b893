-- Where the first mark stands.
use Rattle.std.proofs.Common.{◌≡◌, ◌==◌, ℕ, Bool, true, false, List, length, refl, sym, arith, le_refl}
use Rattle.std.specs.List.{position_or_len}
use Rattle.std.proofs.lemmas.List.Sums.{position_or_len_is}
use Rattle.memchr.specs.Find.{NoneBefore, Nowhere, Passes, is_byte}

is_false : (b : Bool) → ¬ (b ≡ true) → b ≡ false
is_false true h = absurd (h refl)
is_false false h = refl

pub nowhere : (m : ℕ) (text : List ℕ) → Nowhere (Passes (is_byte m) text) 0 (length text) → length text ≡ position_or_len (λ b. b == m) text
nowhere m text h =
    sym (position_or_len_is (λ b. b == m) text (length text) 0 (le_refl (length text)) (λ k l. is_false _ (h k (omega arith) l)) (λ l. absurd (omega (arith, l))))

pub first : (m : ℕ) (text : List ℕ) (at : ℕ) → NoneBefore (Passes (is_byte m) text) 0 (length text) at → Passes (is_byte m) text at → at ≡ position_or_len (λ b. b == m) text
first m text at none is =
    sym (position_or_len_is (λ b. b == m) text at 0 (omega (arith, none.high)) (λ k l. is_false _ (none.before k (omega arith) l)) (λ _. is))
