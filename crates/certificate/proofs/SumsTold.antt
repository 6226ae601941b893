-- What sums spell.
use Rattle.std.proofs.Common.{◌≡◌, ◌∙◌, ◌+◌, ◌-◌, ◌==◌, ◌≤◌, ◌<◌, ◌++◌, ℕ, ℤ, pos, negsuc, List, [], ◌∷◌, Some, Bool, false, true, refl, sym, ap, ap₂, subst, length, arith, inl, inr, map, suc, eqb-true, ne_eqb, le-leb, leb-true}
use Rattle.std.proofs.lemmas.Bool.{cases_Bool, eqb-false, or_cases, or_from, true≢false}
use Rattle.std.specs.Prelude.{option_and_then, if◌then◌else◌, nat_le, flat_map}
use Rattle.std.specs.Fmt.{decimal, signed_decimal}
use Rattle.certificate.specs.declared.cert.Term.{Term}
use Rattle.certificate.specs.Rows.{Spent}
use Rattle.certificate.specs.Texts.{Lacks}
use Rattle.certificate.specs.Grammar.{IsNumber, IsBase, IsTerm, AreTerms, IsSpent, rank}
use Rattle.certificate.specs.Spelling.{slot_text, spent_text, term_text}
use Rattle.certificate.specs.Fields.{after_mark, before_mark, number_of, slot_above}
use Rattle.certificate.specs.Sums.{Signed, base_from, few_terms, is_sign, spent_field, sum_of, sum_parts, term_of, terms_of, with_byte}
use Rattle.certificate.proofs.Marks.{From, Plain, after_lacks, before_lacks, cut_some, either, else_some, from_append, from_less, if_some, map_some, none_not, plain_from, plain_lacks, some_is, then_some}
use Rattle.certificate.proofs.Numbers.{decimal_plain, decimal_some, number_back, number_told}
use Rattle.certificate.proofs.Parts.{above_back, above_told, slot_plain}

abbrev sign_of : Bool → ℕ
sign_of minus = if minus then 45 else 43

abbrev signed_text : Signed → List ℕ
signed_text p = sign_of p.0 ∷ p.1

abbrev signs_text : List Signed → List ℕ
signs_text ps = flat_map signed_text ps

abbrev whole_text : (List ℕ × List Signed) → List ℕ
whole_text r = r.0 ++ signs_text r.1

sign_is : (b : ℕ) → is_sign b ≡ true → b ≡ sign_of (b == 45)
sign_is b s = elim (cases_Bool (b == 45)) [
  | inl is ↦ rw is (eqb-true b 45 is)
  | inr unlike ↦ rw unlike (elim (or_cases (b == 43) (b == 45) s) [ inl plus ↦ eqb-true b 43 plus | inr minus ↦ absurd (true≢false (sym minus ∙ unlike)) ])
]

sum_step : (b : ℕ) (t : List ℕ) (r : List ℕ × List Signed) → t ≡ whole_text r → b ∷ t ≡ whole_text (with_byte b r)
sum_step b t r e = elim (cases_Bool (is_sign b)) [
  | inl is ↦ let w : whole_text (with_byte b r) ≡ sign_of (b == 45) ∷ (r.0 ++ signs_text r.1) = rw is refl in (λ i. sign_is b is i ∷ e i) ∙ sym w
  | inr unlike ↦ let w : whole_text (with_byte b r) ≡ b ∷ (r.0 ++ signs_text r.1) = rw unlike refl in ap (λ l. b ∷ l) e ∙ sym w
]

sum_told : (t : List ℕ) → t ≡ whole_text (sum_parts t)
sum_told [] = refl
sum_told (b ∷ t) = sum_step b t (sum_parts t) (sum_told t)

abbrev NoSigns : List ℕ → Type 0
NoSigns [] = Unit {0}
NoSigns (b ∷ t) = (is_sign b ≡ false) × NoSigns t

abbrev AllNoSigns : List Signed → Type 0
AllNoSigns [] = Unit {0}
AllNoSigns (p ∷ ps) = NoSigns p.1 × AllNoSigns ps

onto : (a t : List ℕ) (ps : List Signed) → sum_parts t ≡ ([], ps) → NoSigns a → sum_parts (a ++ t) ≡ (a, ps)
onto [] t ps e n = e
onto (c ∷ a) t ps e n =
    let unlike : is_sign c ≡ false = n.0 in
    let w : with_byte c (a, ps) ≡ (c ∷ a, ps) = rw unlike refl in
    ap (with_byte c) (onto a t ps e n.1) ∙ w

sign_tells : (m : Bool) → (is_sign (sign_of m) ≡ true) × ((sign_of m == 45) ≡ m)
sign_tells true = (refl, refl)
sign_tells false = (refl, refl)

sums_back : (ps : List Signed) → AllNoSigns ps → sum_parts (signs_text ps) ≡ ([], ps)
sums_back [] n = refl
sums_back (p ∷ ps) n =
    let s = sign_tells p.0 in
    let is : is_sign (sign_of p.0) ≡ true = s.0 in
    let w : with_byte (sign_of p.0) (p.1, ps) ≡ ([], (sign_of p.0 == 45, p.1) ∷ ps) = rw is refl in
    ap (with_byte (sign_of p.0)) (onto p.1 (signs_text ps) ps (sums_back ps n.1) n.0) ∙ w ∙ ap (λ m. ([], (m, p.1) ∷ ps)) s.1

-- ---- Terms

abbrev part_of_term : Term → List ℕ
part_of_term t = decimal t.factor ++ 42 ∷ slot_text t.of

abbrev signed_of : Term → Signed
signed_of t = (t.minus, part_of_term t)

term_told : (low : ℕ) (minus : Bool) (t : List ℕ) (x : Term) → term_of low minus t ≡ Some x → IsTerm low x × (x.minus ≡ minus) × (t ≡ part_of_term x)
term_told low minus t x e =
    let a = then_some (number_of (before_mark 42 t)) _ x e in
    let b = map_some (slot_above low (after_mark 42 t)) _ x a.2 in
    let n = number_told (before_mark 42 t) a.0 a.1 in
    let s = above_told low (after_mark 42 t) b.0 b.1 in
    let cut = cut_some 42 t b.0 (slot_above low) refl b.1 in
    let is : IsTerm low (record { minus = minus; factor = a.0; of = b.0 }) = (s.0, s.1, n.0) in
    subst (λ x. IsTerm low x × (x.minus ≡ minus) × (t ≡ part_of_term x)) b.2 (is, refl, cut ∙ ap₂ (λ l r. l ++ 42 ∷ r) n.1 s.2)

terms_told : (low : ℕ) (ps : List Signed) (ts : List Term) → terms_of low ps ≡ Some ts → AreTerms low ts × (signs_text ps ≡ flat_map term_text ts)
terms_told low [] ts e = let k = some_is [] ts e in (subst (AreTerms low) k tt, ap (flat_map term_text) k)
terms_told low (p ∷ ps) ts e =
    let a = then_some (term_of low p.0 p.1) _ ts e in
    let b = map_some (terms_of (rank a.0.of + 1) ps) _ ts a.2 in
    let s = term_told low p.0 p.1 a.0 a.1 in
    let r = terms_told (rank a.0.of + 1) ps b.0 b.1 in
    let text : signs_text (p ∷ ps) ≡ flat_map term_text (a.0 ∷ b.0) = λ i. (sign_of (sym s.1 i) ∷ s.2 i) ++ r.1 i in
    (subst (AreTerms low) b.2 (s.0, r.0), text ∙ ap (flat_map term_text) b.2)

signs_same : (ts : List Term) → signs_text (map signed_of ts) ≡ flat_map term_text ts
signs_same [] = refl
signs_same (t ∷ ts) = ap (λ l. term_text t ++ l) (signs_same ts)

term_by : (low : ℕ) (t front slot : List ℕ) (x : Term) → before_mark 42 t ≡ front → after_mark 42 t ≡ slot → number_of front ≡ Some x.factor → slot_above low slot ≡ Some x.of → term_of low x.minus t ≡ Some x
term_by low t front slot x b a n s = rw (b, n, a, s) refl

term_back : (low : ℕ) (x : Term) → IsTerm low x → term_of low x.minus (part_of_term x) ≡ Some x
term_back low x h =
    let d : List ℕ = decimal x.factor in
    let lacks : Lacks 42 d = plain_lacks 42 d (λ b q e. let k = q.0 in omega arith) (decimal_plain x.factor h.2) in
    term_by low (decimal x.factor ++ 42 ∷ slot_text x.of) d (slot_text x.of) x (before_lacks 42 d (slot_text x.of) lacks) (after_lacks 42 d _ lacks) (number_back x.factor h.2) (above_back low x.of h.0 h.1)

terms_back : (low : ℕ) (ts : List Term) → AreTerms low ts → terms_of low (map signed_of ts) ≡ Some ts
terms_back low [] h = refl
terms_back low (t ∷ ts) h = terms_more low t.minus (part_of_term t) (map signed_of ts) t ts (term_back low t h.0) (terms_back (rank t.of + 1) ts h.1)
  where
    terms_more : (low : ℕ) (m : Bool) (p : List ℕ) (ps : List Signed) (t : Term) (ts : List Term) → term_of low m p ≡ Some t → terms_of (rank t.of + 1) ps ≡ Some ts → terms_of low ((m, p) ∷ ps) ≡ Some (t ∷ ts)
    terms_more low m p ps t ts a b = rw (a, b) refl

plain_no_signs : (t : List ℕ) → Plain t → NoSigns t
plain_no_signs [] p = tt
plain_no_signs (b ∷ t) p = (let low = p.0.0 in or_from _ _ (ne_eqb b 43 (λ e. omega arith)) (ne_eqb b 45 (λ e. omega arith)), plain_no_signs t p.1)

no_signs_append : (a b : List ℕ) → NoSigns a → NoSigns b → NoSigns (a ++ b)
no_signs_append [] b p q = q
no_signs_append (c ∷ a) b p q = (p.0, no_signs_append a b p.1 q)

terms_no_signs : (low : ℕ) (ts : List Term) → AreTerms low ts → AllNoSigns (map signed_of ts)
terms_no_signs low [] h = tt
terms_no_signs low (t ∷ ts) h =
    (no_signs_append (decimal t.factor) _ (plain_no_signs _ (decimal_plain t.factor h.0.2)) (refl, plain_no_signs _ (slot_plain t.of h.0.1)), terms_no_signs (rank t.of + 1) ts h.1)

terms_from : (low : ℕ) (ts : List Term) → AreTerms low ts → From 33 (flat_map term_text ts)
terms_from low [] h = tt
terms_from low (t ∷ ts) h =
    from_append 33 (term_text t) (flat_map term_text ts)
    (sign_low t.minus, from_append 33 (decimal t.factor) _ (from_less 48 33 _ (omega arith) (plain_from _ (decimal_plain t.factor h.0.2))) (omega arith, from_less 48 33 _ (omega arith) (plain_from _ (slot_plain t.of h.0.1))))
    (terms_from (rank t.of + 1) ts h.1)
  where
    sign_low : (m : Bool) → 33 ≤ sign_of m
    sign_low true = omega arith
    sign_low false = omega arith

base_from_33 : (z : ℤ) → IsBase z → From 33 (signed_decimal z)
base_from_33 (pos n) h = from_less 48 33 _ (omega arith) (plain_from _ (decimal_plain n h))
base_from_33 (negsuc n) h = (omega arith, from_less 48 33 _ (omega arith) (plain_from _ (decimal_plain (suc n) (omega arith))))

pub spent_text_from : (s : Spent) → IsSpent s → From 33 (spent_text s)
spent_text_from s h = from_append 33 (signed_decimal s.base) _ (base_from_33 s.base h.0) (terms_from 0 s.terms h.2)

-- ---- Sums

few_told : (ts us : List Term) → few_terms ts ≡ Some us → (length us ≤ 80) × (ts ≡ us)
few_told ts us e =
    let i = if_some (nat_le (length ts) 80) ts us e in
    (subst (λ l. length l ≤ 80) i.1 (leb-true (length ts) 80 i.0), i.1)

abbrev SumTold : Bool → List ℕ → Spent → Type 0
SumTold minus t s = (n : ℕ) × IsNumber n × (base_from minus n ≡ Some s.base) × (length s.terms ≤ 80) × AreTerms 0 s.terms × (t ≡ decimal n ++ flat_map term_text s.terms)

sum_of_told : (minus : Bool) (t : List ℕ) (s : Spent) → sum_of minus t ≡ Some s → SumTold minus t s
sum_of_told minus t s e =
    let a = then_some (number_of ((sum_parts t).0)) _ s e in
    let b = then_some (base_from minus a.0) _ s a.2 in
    let c = map_some (option_and_then few_terms (terms_of 0 ((sum_parts t).1))) _ s b.2 in
    let d = then_some (terms_of 0 ((sum_parts t).1)) few_terms c.0 c.1 in
    let n = number_told ((sum_parts t).0) a.0 a.1 in
    let f = few_told d.0 c.0 d.2 in
    let ts = terms_told 0 ((sum_parts t).1) d.0 d.1 in
    subst (SumTold minus t) c.2
    (a.0, n.0, b.1, f.0, subst (AreTerms 0) f.1 ts.0, sum_told t ∙ ap₂ (λ l r. l ++ r) n.1 (ts.1 ∙ ap (flat_map term_text) f.1))

minus_told : (n : ℕ) (z : ℤ) → IsNumber n → base_from true n ≡ Some z → IsBase z × (45 ∷ decimal n ≡ signed_decimal z)
minus_told n z l e =
    let i = else_some (n == 0) (Some (negsuc (n - 1))) z e in
    let some : n ≡ 0 → ⊥ = eqb-false n 0 i.0 in
    let k = some_is (negsuc (n - 1)) z i.1 in
    let up : n ≡ suc (n - 1) = omega arith in
    let is : IsBase (negsuc (n - 1)) = omega arith in
    (subst IsBase k is, ap (λ n. 45 ∷ decimal n) up ∙ ap signed_decimal k)

plus_told : (n : ℕ) (z : ℤ) → IsNumber n → base_from false n ≡ Some z → IsBase z × (decimal n ≡ signed_decimal z)
plus_told n z l e = let k = some_is (pos n) z e in (subst IsBase k l, ap signed_decimal k)

pub spent_told : (t : List ℕ) (s : Spent) → spent_field t ≡ Some s → IsSpent s × (t ≡ spent_text s)
spent_told [] s e = none_not s e
spent_told (c ∷ t) s e = elim (either (c == 45) (sum_of true t) (sum_of false (c ∷ t)) s e) [
  | inl k ↦
      let a = sum_of_told true t s k.1 in
      let b = minus_told a.0 s.base a.1 a.2 in
      let text : (c ∷ t) ≡ 45 ∷ (decimal a.0 ++ flat_map term_text s.terms) = ap₂ (λ c t. c ∷ t) (eqb-true c 45 k.0) a.5 in
      ((b.0, a.3, a.4), text ∙ ap (λ l. l ++ flat_map term_text s.terms) b.1)
  | inr k ↦
      let a = sum_of_told false (c ∷ t) s k in
      let b = plus_told a.0 s.base a.1 a.2 in
      ((b.0, a.3, a.4), a.5 ∙ ap (λ l. l ++ flat_map term_text s.terms) b.1)
]

sum_by : (minus : Bool) (t d : List ℕ) (ps : List Signed) (n : ℕ) (z : ℤ) (ts : List Term) → sum_parts t ≡ (d, ps) → number_of d ≡ Some n → base_from minus n ≡ Some z
    → terms_of 0 ps ≡ Some ts → nat_le (length ts) 80 ≡ true → sum_of minus t ≡ Some (record { base = z; terms = ts })
sum_by minus t d ps n z ts e a b c f = rw (e, a, b, c, f) refl

sum_cut : (n : ℕ) (ts : List Term) → IsNumber n → AreTerms 0 ts → sum_parts (decimal n ++ flat_map term_text ts) ≡ (decimal n, map signed_of ts)
sum_cut n ts l h =
    onto (decimal n) (flat_map term_text ts) (map signed_of ts) (ap sum_parts (sym (signs_same ts)) ∙ sums_back (map signed_of ts) (terms_no_signs 0 ts h)) (plain_no_signs _ (decimal_plain n l))

no_minus : (a b : List ℕ) → Plain a → 0 < length a → spent_field (a ++ b) ≡ sum_of false (a ++ b)
no_minus [] b p l = absurd (omega arith)
no_minus (c ∷ a) b p l = let low = p.0.0 in let unlike : (c == 45) ≡ false = ne_eqb c 45 (λ e. omega arith) in rw unlike refl

back_by : (z : ℤ) (ts : List Term) → IsBase z → length ts ≤ 80 → AreTerms 0 ts → spent_field (signed_decimal z ++ flat_map term_text ts) ≡ Some (record { base = z; terms = ts })
back_by (pos n) ts b f h =
    no_minus (decimal n) (flat_map term_text ts) (decimal_plain n b) (decimal_some n b)
    ∙ sum_by false (decimal n ++ flat_map term_text ts) (decimal n) (map signed_of ts) n (pos n) ts (sum_cut n ts b h) (number_back n b) refl (terms_back 0 ts h) (le-leb (length ts) 80 f)
back_by (negsuc k) ts b f h =
    let l : IsNumber (suc k) = omega arith in
    let unlike : (suc k == 0) ≡ false = ne_eqb (suc k) 0 (λ e. omega arith) in
    let down : suc k - 1 ≡ k = omega arith in
    let z : base_from true (suc k) ≡ Some (negsuc k) = rw unlike (ap (λ n. Some (negsuc n)) down) in
    sum_by true (decimal (suc k) ++ flat_map term_text ts) (decimal (suc k)) (map signed_of ts) (suc k) (negsuc k) ts (sum_cut (suc k) ts l h) (number_back (suc k) l) z (terms_back 0 ts h) (le-leb (length ts) 80 f)

pub spent_back : (s : Spent) → IsSpent s → spent_field (spent_text s) ≡ Some s
spent_back s h = back_by s.base s.terms h.0 h.1 h.2
