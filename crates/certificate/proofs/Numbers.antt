-- What numbers and words spell.
use Rattle.std.proofs.Common.{◌≡◌, ◌∙◌, ◌+◌, ◌-◌, ◌*◌, ◌/◌, ◌%◌, ◌^◌, ◌==◌, ◌≤◌, ◌<◌, ℕ, List, [], ◌∷◌, Some, None, false, true, refl, sym, ap, length, arith, inl, inr, get_or, ne_eqb, le-leb, leb-true, lt-ltb, le-ltb}
use Rattle.std.proofs.lemmas.Bool.{cases_Bool, eqb-false, and_parts, cases_lt, lt-leb, and_right}
use Rattle.std.specs.Prelude.{option_and_then, if◌then◌else◌, ◌&&◌, nat_le, nat_lt}
use Rattle.std.specs.Char.{digit_value}
use Rattle.std.specs.Fmt.{decimal}
use Rattle.std.specs.Str.Parse.{AllDigits, digits_value, digits_value_after}
use Rattle.std.proofs.lemmas.Str.{digit_value_digit}
use Rattle.std.proofs.lemmas.Str.Parse.{IsNumeralModel, digit_from_value}
use Rattle.std.proofs.lemmas.Fmt.{decimal_nonempty, first_decimal, digits_decimal, digits_value-decimal, decimal-digits_value, decimal_digit as decimal_one}
use Rattle.base_io.specs.Digits.{hex_digit, hex_word}
use Rattle.certificate.specs.Grammar.{IsNumber}
use Rattle.certificate.specs.Fields.{decimal_digit, longer_number, number_behind, number_of, upper_digit, word_of}
use Rattle.certificate.proofs.Marks.{IsPlain, Plain, else_some, if_some, none_not, some_is, then_some, map_some}

model : IsNumeralModel (AllDigits 10) (digits_value 10)
model = record { to = λ ds d. d; from = λ ds d. d; same = λ ds d. refl }

digit_told : (c d : ℕ) → decimal_digit c ≡ Some d → (digit_value c ≡ d) × (digit_value c < 10)
digit_told c d e =
    let i = if_some (nat_le 48 c && nat_le c 57) (c - 48) d e in
    let p = and_parts (nat_le 48 c) (nat_le c 57) i.0 in
    let low = leb-true 48 c p.0 in
    let high = leb-true c 57 p.1 in
    let v = digit_value_digit c (low, high) in
    let same = i.1 in
    (omega arith, omega arith)

digit_back : (c : ℕ) → digit_value c < 10 → decimal_digit c ≡ Some (digit_value c)
digit_back c small =
    let r = digit_from_value c small in
    let low : 48 ≤ c = r.0 in
    let high : c ≤ 57 = r.1 in
    let v = digit_value_digit c r in
    let is : c - 48 ≡ digit_value c = omega arith in
    let a : nat_le 48 c ≡ true = le-leb 48 c low in
    let b : nat_le c 57 ≡ true = le-leb c 57 high in
    rw (a, b) (ap (λ d. Some d) is)

longer_told : (n d k : ℕ) → longer_number n d ≡ Some k → (n * 10 + d ≡ k) × (k < 9223372036854775808)
longer_told n d k e =
    let i = if_some (nat_le (n * 10 + d) 9223372036854775807) (n * 10 + d) k e in
    let l = leb-true (n * 10 + d) 9223372036854775807 i.0 in
    let same = i.1 in
    (same, omega arith)

longer_back : (n d : ℕ) → n * 10 + d < 9223372036854775808 → longer_number n d ≡ Some (n * 10 + d)
longer_back n d l = let a : nat_le (n * 10 + d) 9223372036854775807 ≡ true = le-leb (n * 10 + d) 9223372036854775807 (omega arith) in rw a refl

behind_told : (t : List ℕ) (n m : ℕ) → number_behind n t ≡ Some m → AllDigits 10 t × (digits_value_after 10 n t ≡ m) × (n < 9223372036854775808 → m < 9223372036854775808)
behind_told [] n m e = let same = some_is n m e in (tt, same, λ l. omega arith)
behind_told (c ∷ t) n m e =
    let a = then_some (option_and_then (longer_number n) (decimal_digit c)) (λ m. number_behind m t) m e in
    let b = then_some (decimal_digit c) (longer_number n) a.0 a.1 in
    let d = digit_told c b.0 b.1 in
    let k = longer_told n b.0 a.0 b.2 in
    let r = behind_told t a.0 m a.2 in
    let same : n * 10 + digit_value c ≡ a.0 = ap (λ d. n * 10 + d) d.0 ∙ k.0 in
    ((d.1, r.0), ap (λ k. digits_value_after 10 k t) same ∙ r.1, λ l. r.2 k.1)

pub number_told : (t : List ℕ) (n : ℕ) → number_of t ≡ Some n → IsNumber n × (t ≡ decimal n)
number_told [] n e = none_not n e
number_told (c ∷ []) n e =
    let r = behind_told (c ∷ []) 0 n e in
    let small : n < 9223372036854775808 = r.2 (omega arith) in
    (small, sym (decimal-digits_value model (c ∷ []) r.0 (omega arith) (λ z. refl) (rw r.1 (omega arith))) ∙ ap decimal r.1)
number_told (c ∷ d ∷ ds) n e =
    let f = else_some (c == 48) (number_behind 0 (c ∷ d ∷ ds)) n e in
    let r = behind_told (c ∷ d ∷ ds) 0 n f.1 in
    let small : n < 9223372036854775808 = r.2 (omega arith) in
    (small, sym (decimal-digits_value model (c ∷ d ∷ ds) r.0 (omega arith) (λ z. absurd (eqb-false c 48 f.0 z)) (rw r.1 (omega arith))) ∙ ap decimal r.1)

grows : (t : List ℕ) (n : ℕ) → n ≤ digits_value_after 10 n t
grows [] n = omega arith
grows (c ∷ t) n = omega (arith, grows t (n * 10 + digit_value c))

behind_back : (t : List ℕ) (n : ℕ) → AllDigits 10 t → digits_value_after 10 n t < 9223372036854775808 → number_behind n t ≡ Some (digits_value_after 10 n t)
behind_back [] n d l = refl
behind_back (c ∷ t) n d l =
    let one = digit_back c d.0 in
    let two = longer_back n (digit_value c) (omega (arith, grows t (n * 10 + digit_value c))) in
    rw (one, two) (behind_back t (n * 10 + digit_value c) d.1 l)

of_back : (t : List ℕ) → AllDigits 10 t → 0 < length t → (get_or t 0 0 ≡ 48 → length t ≡ 1) → digits_value 10 t < 9223372036854775808 → number_of t ≡ Some (digits_value 10 t)
of_back [] d some lead l = absurd (omega arith)
of_back (c ∷ []) d some lead l = behind_back (c ∷ []) 0 d l
of_back (c ∷ e ∷ t) d some lead l =
    let unlike : (c == 48) ≡ false = ne_eqb c 48 (λ z. let k = lead z in omega arith) in
    rw unlike (behind_back (c ∷ e ∷ t) 0 d l)

lead_of : (n : ℕ) → n < 2 ^ 64 → get_or (decimal n) 0 0 ≡ 48 → length (decimal n) ≡ 1
lead_of n l z = elim (cases_lt 0 n) [
  | inl some ↦ absurd (let k = first_decimal n some l in omega arith)
  | inr none ↦ let e : decimal n ≡ (48 + n) ∷ [] = decimal_one n (omega arith) in ap length e
]

pub number_back : (n : ℕ) → IsNumber n → number_of (decimal n) ≡ Some n
number_back n l =
    let small : n < 2 ^ 64 = omega arith in
    let v : digits_value 10 (decimal n) ≡ n = digits_value-decimal model n small in
    of_back (decimal n) (digits_decimal model n small) (decimal_nonempty n small) (lead_of n small) (rw v l) ∙ ap (λ k. Some k) v

digits_plain : (t : List ℕ) → AllDigits 10 t → Plain t
digits_plain [] d = tt
digits_plain (c ∷ t) d = let r = digit_from_value c d.0 in let low : 48 ≤ c = r.0 in let high : c ≤ 57 = r.1 in ((low, omega arith, λ e. omega arith), digits_plain t d.1)

pub decimal_plain : (n : ℕ) → IsNumber n → Plain (decimal n)
decimal_plain n l = digits_plain (decimal n) (digits_decimal model n (omega arith))

pub decimal_some : (n : ℕ) → IsNumber n → 0 < length (decimal n)
decimal_some n l = decimal_nonempty n (omega arith)

-- ---- Words

upper_told : (b x : ℕ) → upper_digit b ≡ Some x → (x < 16) × (b ≡ hex_digit x)
upper_told b x e = elim (cases_Bool (nat_le 48 b && nat_le b 57)) [
  | inl is ↦
      let p = and_parts (nat_le 48 b) (nat_le b 57) is in
      let low = leb-true 48 b p.0 in
      let high = leb-true b 57 p.1 in
      let k : Some (b - 48) ≡ Some x = rw is at e in
      let same = some_is (b - 48) x k in
      let t : nat_lt x 10 ≡ true = lt-ltb x 10 (omega arith) in
      (omega arith, rw t (omega arith))
  | inr unlike ↦
      let k : (if nat_le 65 b && nat_le b 70 then Some (b - 55) else None) ≡ Some x = rw unlike at e in
      let i = if_some (nat_le 65 b && nat_le b 70) (b - 55) x k in
      let p = and_parts (nat_le 65 b) (nat_le b 70) i.0 in
      let low = leb-true 65 b p.0 in
      let high = leb-true b 70 p.1 in
      let same = i.1 in
      let t : nat_lt x 10 ≡ false = le-ltb x 10 (omega arith) in
      (omega arith, rw t (omega arith))
]

upper_back : (x : ℕ) → x < 16 → upper_digit (hex_digit x) ≡ Some x
upper_back x l = elim (cases_lt x 10) [
  | inl less ↦
      let t : nat_lt x 10 ≡ true = lt-ltb x 10 less in
      let a : nat_le 48 (48 + x) ≡ true = le-leb 48 (48 + x) (omega arith) in
      let b : nat_le (48 + x) 57 ≡ true = le-leb (48 + x) 57 (omega arith) in
      rw (t, a, b) (ap (λ d. Some d) (omega arith))
  | inr more ↦
      let t : nat_lt x 10 ≡ false = le-ltb x 10 more in
      let b : nat_le (55 + x) 57 ≡ false = lt-leb (55 + x) 57 (omega arith) in
      let unlike : (nat_le 48 (55 + x) && nat_le (55 + x) 57) ≡ false = and_right _ _ b in
      let c : nat_le 65 (55 + x) ≡ true = le-leb 65 (55 + x) (omega arith) in
      let d : nat_le (55 + x) 70 ≡ true = le-leb (55 + x) 70 (omega arith) in
      rw (t, unlike, c, d) (ap (λ d. Some d) (omega arith))
]

hex_plain_digit : (x : ℕ) → x < 16 → IsPlain (hex_digit x)
hex_plain_digit x l = elim (cases_lt x 10) [
  | inl less ↦ let t : nat_lt x 10 ≡ true = lt-ltb x 10 less in rw t (omega arith, omega arith, λ e. omega arith)
  | inr more ↦ let t : nat_lt x 10 ≡ false = le-ltb x 10 more in rw t (omega arith, omega arith, λ e. omega arith)
]

pub hex_plain : (w : ℕ) → w < 65536 → Plain (hex_word w)
hex_plain w l =
    (hex_plain_digit (w / 4096) (omega arith), (hex_plain_digit (w / 256 % 16) (omega arith), (hex_plain_digit (w / 16 % 16) (omega arith), (hex_plain_digit (w % 16) (omega arith), tt))))

four : (a b c d : ℕ) → a < 16 → b < 16 → c < 16 → d < 16
    → (hex_digit a ∷ hex_digit b ∷ hex_digit c ∷ hex_digit d ∷ []) ≡ hex_word (4096 * a + 256 * b + 16 * c + d)
four a b c d la lb lc ld =
    let w : ℕ = 4096 * a + 256 * b + 16 * c + d in
    let ea : a ≡ w / 4096 = omega arith in
    let eb : b ≡ w / 256 % 16 = omega arith in
    let ec : c ≡ w / 16 % 16 = omega arith in
    let ed : d ≡ w % 16 = omega arith in
    λ i. hex_digit (ea i) ∷ hex_digit (eb i) ∷ hex_digit (ec i) ∷ hex_digit (ed i) ∷ []

pub word_told : (t : List ℕ) (w : ℕ) → word_of t ≡ Some w → (w < 65536) × (t ≡ hex_word w)
word_told [] w e = none_not w e
word_told (a ∷ []) w e = none_not w e
word_told (a ∷ b ∷ []) w e = none_not w e
word_told (a ∷ b ∷ c ∷ []) w e = none_not w e
word_told (a ∷ b ∷ c ∷ d ∷ f ∷ r) w e = none_not w e
word_told (a ∷ b ∷ c ∷ d ∷ []) w e =
    let x = then_some (upper_digit a) _ w e in
    let y = then_some (upper_digit b) _ w x.2 in
    let z = then_some (upper_digit c) _ w y.2 in
    let u = map_some (upper_digit d) _ w z.2 in
    let p = upper_told a x.0 x.1 in
    let q = upper_told b y.0 y.1 in
    let r = upper_told c z.0 z.1 in
    let s = upper_told d u.0 u.1 in
    let v : 4096 * x.0 + 256 * y.0 + 16 * z.0 + u.0 ≡ w = u.2 in
    let la = p.0 in
    let lb = q.0 in
    let lc = r.0 in
    let ld = s.0 in
    (omega arith, (λ i. p.1 i ∷ q.1 i ∷ r.1 i ∷ s.1 i ∷ []) ∙ four x.0 y.0 z.0 u.0 la lb lc ld ∙ ap hex_word v)

pub word_back : (w : ℕ) → w < 65536 → word_of (hex_word w) ≡ Some w
word_back w l =
    let a = upper_back (w / 4096) (omega arith) in
    let b = upper_back (w / 256 % 16) (omega arith) in
    let c = upper_back (w / 16 % 16) (omega arith) in
    let d = upper_back (w % 16) (omega arith) in
    let is : 4096 * (w / 4096) + 256 * (w / 256 % 16) + 16 * (w / 16 % 16) + w % 16 ≡ w = omega arith in
    rw (a, b, c, d) (ap (λ k. Some k) is)
