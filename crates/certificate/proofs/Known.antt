-- What facts spell.
use Rattle.std.proofs.Common.{◌≡◌, ◌∙◌, ◌+◌, ◌==◌, ◌≤◌, ◌++◌, ℕ, List, [], ◌∷◌, Some, None, Bool, false, true, refl, sym, ap, ap₂, subst, length, arith, inl, inr, map, append-nil, length-append, eqb-true, le-leb, leb-true, lt-ltb, ltb-false, le-ltb}
use Rattle.std.proofs.lemmas.Bool.{cases_Bool, and_parts}
use Rattle.std.specs.Prelude.{if◌then◌else◌, ◌&&◌, nat_le, nat_lt}
use Rattle.std.specs.Str.{bytes_eq}
use Rattle.std.specs.Fmt.{decimal}
use Rattle.std.specs.List.{join_with_byte}
use Rattle.std.proofs.lemmas.Slice.Eq.{bytes_eq-Decides}
use Rattle.certificate.specs.declared.cert.Slot.{Slot}
use Rattle.certificate.specs.declared.cert.Fact.{Fact}
use Rattle.certificate.specs.Texts.{Lacks}
use Rattle.certificate.specs.Grammar.{IsNumber, IsSlot, IsFact, AreFacts, rank}
use Rattle.certificate.specs.Spelling.{fact_text, facts_text, slot_text}
use Rattle.certificate.specs.Fields.{after_mark, before_mark, parts_of, number_of, slot_above, fact_from, fact_to, fact_behind_dot, fact_in, fact_of, facts_of, facts_field}
use Rattle.certificate.proofs.Marks.{From, after_all, after_lacks, apart, before_all, before_lacks, cut_some, else_some, from_append, from_less, if_some, lacks_append, map_some, none_not, plain_from, plain_lacks, some_is, then_some}
use Rattle.certificate.proofs.Numbers.{decimal_plain, number_back, number_told}
use Rattle.certificate.proofs.Pieces.{some_parts}
use Rattle.certificate.proofs.Lists.{AllFrom, AllLack, join_from, parts_back, parts_told}
use Rattle.certificate.proofs.Parts.{above_back, above_told, join_longer, no_dash, slot_plain}

-- HI, or HI and `e`
abbrev high_text : ℕ → Bool → List ℕ
high_text greatest even = decimal greatest ++ (if even then 101 ∷ [] else [])

from_told : (x : Slot) (least greatest : ℕ) (even : Bool) (f : Fact) → fact_from x least greatest even ≡ Some f
    → (least ≤ greatest) × (greatest ≤ 65535) × (record { of = x; least = least; greatest = greatest; even = even } ≡ f)
from_told x least greatest even f e =
    let i = if_some (nat_le least greatest && nat_le greatest 65535) (record { of = x; least = least; greatest = greatest; even = even }) f e in
    let p = and_parts (nat_le least greatest) (nat_le greatest 65535) i.0 in
    (leb-true least greatest p.0, leb-true greatest 65535 p.1, i.1)

abbrev Told : Slot → ℕ → Fact → List ℕ → Type 0
Told x least f t = (f.of ≡ x) × (f.least ≡ least) × (least ≤ f.greatest) × (f.greatest ≤ 65535) × (t ≡ high_text f.greatest f.even)

no_length : (l : List ℕ) → length l ≤ 0 → l ≡ []
no_length [] h = refl
no_length (x ∷ l) h = absurd (omega arith)

high_is : (t : List ℕ) (greatest : ℕ) (even : Bool) → before_mark 101 t ≡ decimal greatest → length (after_mark 101 t) ≤ 0
    → nat_lt (length (before_mark 101 t)) (length t) ≡ even → t ≡ high_text greatest even
high_is t greatest even b none e = elim (apart 101 t) [
  | inl cut ↦
      let size : length t ≡ length (before_mark 101 t) + (1 + length (after_mark 101 t)) = ap length cut ∙ length-append (before_mark 101 t) (101 ∷ after_mark 101 t) ∙ omega arith in
      let is : even ≡ true = sym e ∙ lt-ltb (length (before_mark 101 t)) (length t) (omega arith) in
      let text : t ≡ decimal greatest ++ 101 ∷ [] = cut ∙ ap₂ (λ b r. b ++ 101 ∷ r) b (no_length (after_mark 101 t) none) in
      text ∙ sym (ap (high_text greatest) is)
  | inr all ↦
      let size : length t ≡ length (before_mark 101 t) = ap length all.0 in
      let is : even ≡ false = sym e ∙ le-ltb (length (before_mark 101 t)) (length t) (omega arith) in
      let text : t ≡ decimal greatest ++ [] = all.0 ∙ b ∙ sym (append-nil (decimal greatest)) in
      text ∙ sym (ap (high_text greatest) is)
]

to_told : (x : Slot) (least : ℕ) (t : List ℕ) (f : Fact) → fact_to x least t ≡ Some f → Told x least f t
to_told x least t f e =
    let n = else_some (nat_lt 0 (length (after_mark 101 t))) _ f e in
    let a = then_some (number_of (before_mark 101 t)) _ f n.1 in
    let h = number_told (before_mark 101 t) a.0 a.1 in
    let g = from_told x least a.0 (nat_lt (length (before_mark 101 t)) (length t)) f a.2 in
    let none : length (after_mark 101 t) ≤ 0 = ltb-false 0 (length (after_mark 101 t)) n.0 in
    subst (λ f. Told x least f t) g.2 (refl, refl, g.0, g.1, high_is t a.0 _ h.1 none refl)

behind_told : (x : Slot) (least : ℕ) (t : List ℕ) (f : Fact) → fact_behind_dot x least t ≡ Some f → (r : List ℕ) × (t ≡ 46 ∷ r) × Told x least f r
behind_told x least [] f e = none_not f e
behind_told x least (c ∷ t) f e = elim (cases_Bool (c == 46)) [
  | inl is ↦ let k : fact_to x least t ≡ Some f = rw is at e in (t, ap (λ c. c ∷ t) (eqb-true c 46 is), to_told x least t f k)
  | inr unlike ↦ let k : None ≡ Some f = rw unlike at e in none_not f k
]

in_told : (x : Slot) (t : List ℕ) (f : Fact) → fact_in x t ≡ Some f
    → (f.of ≡ x) × (f.least ≤ f.greatest) × (f.greatest ≤ 65535) × (t ≡ decimal f.least ++ 46 ∷ 46 ∷ high_text f.greatest f.even)
in_told x t f e =
    let a = then_some (number_of (before_mark 46 t)) _ f e in
    let n = number_told (before_mark 46 t) a.0 a.1 in
    let cut = cut_some 46 t f (fact_behind_dot x a.0) refl a.2 in
    let b = behind_told x a.0 (after_mark 46 t) f a.2 in
    let told = b.2 in (
      told.0,
      subst (λ l. l ≤ f.greatest) (sym told.1) told.2,
      told.3,
      cut ∙ ap₂ (λ l r. l ++ 46 ∷ r) (n.1 ∙ ap decimal (sym told.1)) (b.1 ∙ ap (λ r. 46 ∷ r) told.4),
    )

pub fact_told : (low : ℕ) (t : List ℕ) (f : Fact) → fact_of low t ≡ Some f → IsFact low f × (t ≡ fact_text f)
fact_told low t f e =
    let a = then_some (slot_above low (before_mark 61 t)) _ f e in
    let s = above_told low (before_mark 61 t) a.0 a.1 in
    let cut = cut_some 61 t f (fact_in a.0) refl a.2 in
    let i = in_told a.0 (after_mark 61 t) f a.2 in (
      (subst (λ y. low ≤ rank y) (sym i.0) s.0, subst IsSlot (sym i.0) s.1, i.1, i.2),
      cut ∙ ap₂ (λ l r. l ++ 61 ∷ r) (s.2 ∙ ap slot_text (sym i.0)) i.3,
    )

-- ---- and back

from_back : (f : Fact) → f.least ≤ f.greatest → f.greatest ≤ 65535 → fact_from f.of f.least f.greatest f.even ≡ Some f
from_back f l g =
    let a : nat_le f.least f.greatest ≡ true = le-leb f.least f.greatest l in
    let b : nat_le f.greatest 65535 ≡ true = le-leb f.greatest 65535 g in
    rw (a, b) refl

small : (n : ℕ) → n ≤ 65535 → IsNumber n
small n l = omega arith

to_by : (x : Slot) (least : ℕ) (t front : List ℕ) (greatest : ℕ) (even : Bool) (f : Fact) → length (after_mark 101 t) ≡ 0 → before_mark 101 t ≡ front
    → number_of front ≡ Some greatest → nat_lt (length front) (length t) ≡ even → fact_from x least greatest even ≡ Some f → fact_to x least t ≡ Some f
to_by x least t front greatest even f none b n l e = rw (none, b, n, l) e

to_back : (f : Fact) → f.least ≤ f.greatest → f.greatest ≤ 65535 → fact_to f.of f.least (high_text f.greatest f.even) ≡ Some f
to_back f l g =
    let d : List ℕ = decimal f.greatest in
    let lacks : Lacks 101 d = plain_lacks 101 d (λ b q e. let k = q.1 in omega arith) (decimal_plain f.greatest (small f.greatest g)) in
    let n : number_of d ≡ Some f.greatest = number_back f.greatest (small f.greatest g) in
    elim (cases_Bool f.even) [
      | inl is ↦
          let t : high_text f.greatest f.even ≡ d ++ 101 ∷ [] = rw is refl in
          let longer : nat_lt (length d) (length (d ++ 101 ∷ [])) ≡ f.even = lt-ltb _ _ (omega (arith, length-append d (101 ∷ []))) ∙ sym is in
          ap (fact_to f.of f.least) t
          ∙ to_by f.of f.least (d ++ 101 ∷ []) d f.greatest f.even f (ap length (after_lacks 101 d [] lacks)) (before_lacks 101 d [] lacks) n longer (from_back f l g)
      | inr unlike ↦
          let t : high_text f.greatest f.even ≡ d = (let u : high_text f.greatest f.even ≡ d ++ [] = rw unlike refl in u) ∙ append-nil d in
          let same : nat_lt (length d) (length d) ≡ f.even = le-ltb _ _ (omega arith) ∙ sym unlike in
          ap (fact_to f.of f.least) t
          ∙ to_by f.of f.least d d f.greatest f.even f (ap length (after_all 101 d lacks)) (before_all 101 d lacks) n same (from_back f l g)
    ]

in_by : (x : Slot) (t low high : List ℕ) (least : ℕ) (f : Fact) → before_mark 46 t ≡ low → after_mark 46 t ≡ 46 ∷ high → number_of low ≡ Some least
    → fact_to x least high ≡ Some f → fact_in x t ≡ Some f
in_by x t low high least f b a n e = rw (b, n, a) e

in_back : (f : Fact) → f.least ≤ f.greatest → f.greatest ≤ 65535 → fact_in f.of (decimal f.least ++ 46 ∷ 46 ∷ high_text f.greatest f.even) ≡ Some f
in_back f l g =
    let d : List ℕ = decimal f.least in
    let lacks : Lacks 46 d = plain_lacks 46 d (λ b q e. let k = q.0 in omega arith) (decimal_plain f.least (small f.least (omega arith))) in
    in_by f.of (decimal f.least ++ 46 ∷ 46 ∷ high_text f.greatest f.even) d (high_text f.greatest f.even) f.least f (before_lacks 46 d (46 ∷ high_text f.greatest f.even) lacks) (after_lacks 46 d _ lacks) (number_back f.least (small f.least (omega arith))) (to_back f l g)

fact_by : (low : ℕ) (t slot range : List ℕ) (x : Slot) (f : Fact) → before_mark 61 t ≡ slot → after_mark 61 t ≡ range → slot_above low slot ≡ Some x → fact_in x range ≡ Some f → fact_of low t ≡ Some f
fact_by low t slot range x f b a s e = rw (b, s, a) e

pub fact_back : (low : ℕ) (f : Fact) → IsFact low f → fact_of low (fact_text f) ≡ Some f
fact_back low f h =
    let s : List ℕ = slot_text f.of in
    let lacks : Lacks 61 s = plain_lacks 61 s (λ b q e. q.2 e) (slot_plain f.of h.1) in
    fact_by low (slot_text f.of ++ 61 ∷ (decimal f.least ++ 46 ∷ 46 ∷ high_text f.greatest f.even)) s (decimal f.least ++ 46 ∷ 46 ∷ high_text f.greatest f.even) f.of f (before_lacks 61 s (decimal f.least ++ 46 ∷ 46 ∷ high_text f.greatest f.even) lacks) (after_lacks 61 s _ lacks) (above_back low f.of h.0 h.1) (in_back f h.2 h.3)

-- ---- Lists of facts

facts_told : (low : ℕ) (ps : List (List ℕ)) (fs : List Fact) → facts_of low ps ≡ Some fs → AreFacts low fs × (ps ≡ map fact_text fs)
facts_told low [] fs e = let k = some_is [] fs e in (subst (AreFacts low) k tt, ap (map fact_text) k)
facts_told low (p ∷ ps) fs e =
    let a = then_some (fact_of low p) _ fs e in
    let b = map_some (facts_of (rank a.0.of + 1) ps) _ fs a.2 in
    let s = fact_told low p a.0 a.1 in
    let r = facts_told (rank a.0.of + 1) ps b.0 b.1 in
    (subst (AreFacts low) b.2 (s.0, r.0), (λ i. s.1 i ∷ r.1 i) ∙ ap (map fact_text) b.2)

facts_back : (low : ℕ) (fs : List Fact) → AreFacts low fs → facts_of low (map fact_text fs) ≡ Some fs
facts_back low [] h = refl
facts_back low (f ∷ fs) h = facts_more low (fact_text f) (map fact_text fs) f fs (fact_back low f h.0) (facts_back (rank f.of + 1) fs h.1)
  where
    facts_more : (low : ℕ) (p : List ℕ) (ps : List (List ℕ)) (f : Fact) (fs : List Fact) → fact_of low p ≡ Some f → facts_of (rank f.of + 1) ps ≡ Some fs → facts_of low (p ∷ ps) ≡ Some (f ∷ fs)
    facts_more low p ps f fs a b = rw (a, b) refl

high_from : (low : ℕ) (f : Fact) → low ≤ 48 → f.greatest ≤ 65535 → From low (high_text f.greatest f.even)
high_from low f l g = from_append low (decimal f.greatest) _ (from_less 48 low _ l (plain_from _ (decimal_plain f.greatest (small f.greatest g)))) (ends f.even)
  where
    ends : (b : Bool) → From low (if b then 101 ∷ [] else [])
    ends true = (omega arith, tt)
    ends false = tt

high_no_comma : (f : Fact) → f.greatest ≤ 65535 → Lacks 44 (high_text f.greatest f.even)
high_no_comma f g = lacks_append 44 (decimal f.greatest) _ (plain_lacks 44 _ (λ b q e. let k = q.0 in omega arith) (decimal_plain f.greatest (small f.greatest g))) (ends f.even)
  where
    ends : (b : Bool) → Lacks 44 (if b then 101 ∷ [] else [])
    ends true = (refl, tt)
    ends false = tt

fact_from_33 : (low : ℕ) (f : Fact) → IsFact low f → From 33 (fact_text f)
fact_from_33 low f h =
    from_append 33 (slot_text f.of) _ (from_less 48 33 _ (omega arith) (plain_from _ (slot_plain f.of h.1))) (
      omega arith,
      from_append 33 (decimal f.least) _ (from_less 48 33 _ (omega arith) (plain_from _ (decimal_plain f.least (let a = h.2 in let b = h.3 in small f.least (omega arith)))))
          (omega arith, (omega arith, high_from 33 f (omega arith) h.3)),
    )

fact_no_comma : (low : ℕ) (f : Fact) → IsFact low f → Lacks 44 (fact_text f)
fact_no_comma low f h =
    lacks_append 44 (slot_text f.of) _ (plain_lacks 44 _ (λ b q e. let k = q.0 in omega arith) (slot_plain f.of h.1)) (
      refl,
      lacks_append 44 (decimal f.least) _ (plain_lacks 44 _ (λ b q e. let k = q.0 in omega arith) (decimal_plain f.least (let a = h.2 in let b = h.3 in small f.least (omega arith))))
          (refl, (refl, high_no_comma f h.3)),
    )

facts_no_comma : (low : ℕ) (fs : List Fact) → AreFacts low fs → AllLack 44 (map fact_text fs)
facts_no_comma low [] h = tt
facts_no_comma low (f ∷ fs) h = (fact_no_comma low f h.0, facts_no_comma (rank f.of + 1) fs h.1)

facts_all_from : (low : ℕ) (fs : List Fact) → AreFacts low fs → AllFrom 33 (map fact_text fs)
facts_all_from low [] h = tt
facts_all_from low (f ∷ fs) h = (fact_from_33 low f h.0, facts_all_from (rank f.of + 1) fs h.1)

pub facts_text_from : (fs : List Fact) → AreFacts 0 fs → From 33 (facts_text fs)
facts_text_from [] h = (omega arith, tt)
facts_text_from (f ∷ fs) h = join_from 44 33 (fact_text f ∷ map fact_text fs) (omega arith) (facts_all_from 0 (f ∷ fs) h)

pub facts_field_told : (t : List ℕ) (fs : List Fact) → facts_field t ≡ Some fs → AreFacts 0 fs × (t ≡ facts_text fs)
facts_field_told t fs e = elim (cases_Bool (bytes_eq t (45 ∷ []))) [
  | inl is ↦
      let k : Some [] ≡ Some fs = rw is at e in
      let n = some_is [] fs k in
      (subst (AreFacts 0) n tt, (bytes_eq-Decides t (45 ∷ [])).0 is ∙ ap facts_text n)
  | inr unlike ↦
      let k : facts_of 0 (parts_of 44 t) ≡ Some fs = rw unlike at e in
      let r = facts_told 0 (parts_of 44 t) fs k in
      (r.0, sym (parts_told 44 t) ∙ ap (join_with_byte 44) r.1 ∙ some_facts fs r.1)
]
  where
    some_facts : (fs : List Fact) → parts_of 44 t ≡ map fact_text fs → join_with_byte 44 (map fact_text fs) ≡ facts_text fs
    some_facts [] e = absurd (let l = ap length e in let n = some_parts 44 t in omega arith)
    some_facts (f ∷ fs) e = refl

pub facts_field_back : (fs : List Fact) → AreFacts 0 fs → facts_field (facts_text fs) ≡ Some fs
facts_field_back [] h = refl
facts_field_back (f ∷ fs) h =
    let t : List ℕ = join_with_byte 44 (map fact_text (f ∷ fs)) in
    let size = length-append (slot_text f.of) (61 ∷ (decimal f.least ++ 46 ∷ 46 ∷ high_text f.greatest f.even)) in
    let more = length-append (decimal f.least) (46 ∷ 46 ∷ high_text f.greatest f.even) in
    let long : length (fact_text f) ≤ length t = join_longer 44 (fact_text f) (map fact_text fs) in
    let unlike : bytes_eq t (45 ∷ []) ≡ false = no_dash t (λ e. let l = ap length e in omega arith) in
    let cut : parts_of 44 t ≡ map fact_text (f ∷ fs) = parts_back 44 (fact_text f) (map fact_text fs) (facts_no_comma 0 (f ∷ fs) h) in
    facts_field_by t (f ∷ fs) unlike (ap (facts_of 0) cut ∙ facts_back 0 (f ∷ fs) h)
  where
    facts_field_by : (t : List ℕ) (fs : List Fact) → bytes_eq t (45 ∷ []) ≡ false → facts_of 0 (parts_of 44 t) ≡ Some fs → facts_field t ≡ Some fs
    facts_field_by t fs unlike e = rw unlike e
