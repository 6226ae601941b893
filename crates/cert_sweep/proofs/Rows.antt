-- Rows of words and of addresses, one further.
use Rattle.std.proofs.Common.{◌≡◌, ℕ, zero, suc, ◌+◌, ◌-◌, ◌<◌, Bool, true, false, Option, None, Some, refl, ap, sym, ◌∙◌, arith}
use Rattle.std.specs.Prelude.{◌&&◌, ◌||◌, is_some, nat_le, if◌then◌else◌}
use Rattle.cert_rules.specs.Words.{word_in}
use Rattle.cert_rules.specs.Calls.{least_word}
use Rattle.cert_rules.specs.Sheet.{Sheet, holds_words, any_point, is_point}

pub holds_further : (t : Sheet) (a n : ℕ) → 0 < n → is_some (word_in t.blocks a) ≡ true → holds_words t (a + 2) (n - 1) ≡ holds_words t a n
holds_further t a zero some is = absurd (omega (arith, some))
holds_further t a (suc n) some is =
    let less : suc n - 1 ≡ n = omega arith in
    ap (λ k. holds_words t (a + 2) k) less ∙ sym (ap (λ b. b && holds_words t (a + 2) n) is)

pub points_further : (t : Sheet) (a n : ℕ) → 0 < n → is_point t a ≡ false → any_point t (a + 1) (n - 1) ≡ any_point t a n
points_further t a zero some off = absurd (omega (arith, some))
points_further t a (suc n) some off =
    let less : suc n - 1 ≡ n = omega arith in
    ap (λ k. any_point t (a + 1) k) less ∙ sym (ap (λ b. b || any_point t (a + 1) n) off)

-- the least of three
pub least_three : (x y z : Option ℕ) → least_word (least_word x y) z ≡ least_word x (least_word y z)
least_three None y z = refl
least_three (Some a) None z = refl
least_three (Some a) (Some b) None = chosen (nat_le a b)
  where
    chosen : (c : Bool) → least_word (if c then Some a else Some b) None ≡ (if c then Some a else Some b)
    chosen true = refl
    chosen false = refl
least_three (Some a) (Some b) (Some d) = grind arith

pub least_last : (x : Option ℕ) → least_word x None ≡ x
least_last None = refl
least_last (Some a) = refl
