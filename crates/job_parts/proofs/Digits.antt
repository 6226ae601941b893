-- Decimal digits as `parse` reads them.
use Rattle.std.proofs.Common.{◌≡◌, ◌&&◌, ◌<◌, ◌≤◌, ◌^◌, ℕ, Bool, true, false, List, [], ◌∷◌, Some, None, refl, sym, ap, inl, inr, arith, true≢false, nat_le}
use Rattle.std.specs.Prelude.{if◌then◌else◌}
use Rattle.std.proofs.lemmas.Bool.{cases_Bool, leb-true, le-leb, and_parts}
use Rattle.std.specs.Char.{is_ascii_digit}
use Rattle.std.specs.List.{list_all}
use Rattle.std.specs.Str.Parse.{AllDigits, IsNumeral, digits_value, without_leading_plus}
use Rattle.std.proofs.lemmas.Str.{digit_value_digit}
use Rattle.std.proofs.lemmas.Str.Parse.{without_leading_plus_none}
use Rattle.job_parts.specs.Words.{is_decimal, number}

digits : (w : List ℕ) → list_all is_ascii_digit w ≡ true → AllDigits 10 w
digits [] e = tt
digits (c ∷ cs) e =
    let (here, rest) = and_parts (is_ascii_digit c) (list_all is_ascii_digit cs) e in
    let (low, high) = and_parts (nat_le 48 c) (nat_le c 57) here in
    let first : 48 ≤ c = leb-true 48 c low in
    let last : c ≤ 57 = leb-true c 57 high in
    let value = digit_value_digit c (first, last) in
    (omega (arith, value), digits cs rest)

pub numeral : (w : List ℕ) → is_decimal w ≡ true → IsNumeral 10 w × (without_leading_plus w ≡ w)
numeral [] e = absurd (true≢false (sym e))
numeral (c ∷ cs) e =
    let all : list_all is_ascii_digit (c ∷ cs) ≡ true = e in
    let (here, rest) = and_parts (is_ascii_digit c) (list_all is_ascii_digit cs) all in
    let (low, high) = and_parts (nat_le 48 c) (nat_le c 57) here in
    let first : 48 ≤ c = leb-true 48 c low in
    let last : c ≤ 57 = leb-true c 57 high in
    ((omega arith, digits (c ∷ cs) all), without_leading_plus_none (c ∷ cs) (λ (h : c ≡ 43). omega (arith, h)))

pub no_decimal : (w : List ℕ) (least most : ℕ) → is_decimal w ≡ false → None ≡ number least most w
no_decimal w least most e = rw e

pub in_range : (w : List ℕ) (least most n : ℕ) → is_decimal w ≡ true → n ≡ digits_value 10 w → least ≤ n → n ≤ most → Some n ≡ number least most w
in_range w least most n e is low high =
    let a : nat_le least (digits_value 10 w) ≡ true = le-leb least (digits_value 10 w) (omega arith) in
    let b : nat_le (digits_value 10 w) most ≡ true = le-leb (digits_value 10 w) most (omega arith) in
    rw (e, a, b) (ap (λ (m : ℕ). Some m) is)

and_false : (b : Bool) → (b && false) ≡ false
and_false true = refl
and_false false = refl

out : (b c d : Bool) (n : ℕ) → (c && d) ≡ false → None ≡ (if b && (c && d) then Some n else None)
out true c d n e = rw e
out false c d n e = refl

pub out_of_range : (w : List ℕ) (least most : ℕ) → (nat_le least (digits_value 10 w) && nat_le (digits_value 10 w) most) ≡ false → None ≡ number least most w
out_of_range w least most e = out (is_decimal w) (nat_le least (digits_value 10 w)) (nat_le (digits_value 10 w) most) (digits_value 10 w) e

pub too_big : (w : List ℕ) (least most : ℕ) → is_decimal w ≡ true → ((IsNumeral 10 (without_leading_plus w) × (digits_value 10 (without_leading_plus w) < 2 ^ 64)) → ⊥) → most < 2 ^ 64
    → None ≡ number least most w
too_big w least most e over fits =
    let (num, same) = numeral w e in
    elim (cases_Bool (nat_le (digits_value 10 w) most)) [
      | inl b ↦
          let small : digits_value 10 w < 2 ^ 64 = omega (arith, leb-true (digits_value 10 w) most b) in
          absurd (over (rw same (num, small)))
      | inr b ↦ out_of_range w least most (rw b (and_false (nat_le least (digits_value 10 w))))
    ]
