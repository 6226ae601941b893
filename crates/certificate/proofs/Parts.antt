-- What spans, slots and facts spell.
use Rattle.std.proofs.Common.{◌≡◌, ◌∙◌, ◌+◌, ◌/◌, ◌%◌, ◌==◌, ◌≤◌, ◌<◌, ◌++◌, ◌⊎◌, ℕ, List, [], ◌∷◌, Some, Bool, false, true, refl, sym, ap, subst, length, arith, inl, inr, map, length-append, ne_eqb, eqb-true, le-leb, leb-true}
use Rattle.std.proofs.lemmas.Bool.{cases_Bool, and_parts, true≢false}
use Rattle.std.specs.Prelude.{◌&&◌, ◌||◌, nat_le, nat_lt}
use Rattle.std.specs.Str.{bytes_eq}
use Rattle.std.specs.Fmt.{decimal}
use Rattle.std.specs.List.{join_with_byte}
use Rattle.std.proofs.lemmas.Slice.Eq.{bytes_eq-Decides}
use Rattle.base_io.specs.Digits.{hex_digit, hex_word}
use Rattle.certificate.specs.declared.cert.Span.{Span}
use Rattle.certificate.specs.declared.cert.Slot.{Slot}
use Rattle.certificate.specs.declared.cert.Slot.TheVariants.{Reg, Word}
use Rattle.certificate.specs.Texts.{Lacks}
use Rattle.certificate.specs.Grammar.{IsSpan, AreSpans, IsSlot, is_data, is_sram, rank}
use Rattle.certificate.specs.Spelling.{parts, slot_text, span_text, spans_text}
use Rattle.certificate.specs.Fields.{parts_of, number_of, word_of, span_from, span_of, spans_of, spans_field, register_of, address_of, slot_of, slot_above}
use Rattle.certificate.proofs.Marks.{From, Plain, from_append, if_none, if_some, lacks_append, map_some, none_not, plain_from, plain_lacks, some_is, then_some, from_less}
use Rattle.certificate.proofs.Numbers.{decimal_plain, hex_plain, number_back, number_told, word_back, word_told}
use Rattle.certificate.proofs.Pieces.{some_parts}
use Rattle.certificate.proofs.Lists.{AllFrom, AllLack, join_from, parts_back, parts_told}

-- ---- Spans

pub span_told : (low : ℕ) (t : List ℕ) (s : Span) → span_of low t ≡ Some s → IsSpan low s × (t ≡ span_text s)
span_told low [] s e = none_not s e
span_told low (a ∷ []) s e = none_not s e
span_told low (a ∷ b ∷ []) s e = none_not s e
span_told low (a ∷ b ∷ c ∷ []) s e = none_not s e
span_told low (a ∷ b ∷ c ∷ d ∷ []) s e = none_not s e
span_told low (a ∷ b ∷ c ∷ d ∷ m ∷ high) s e =
    let i = if_none (m == 45) _ s e in
    let x = then_some (word_of (a ∷ b ∷ c ∷ d ∷ [])) _ s i.1 in
    let y = then_some (word_of high) _ s x.2 in
    let p = word_told (a ∷ b ∷ c ∷ d ∷ []) x.0 x.1 in
    let q = word_told high y.0 y.1 in
    let f = if_some (nat_le low x.0 && nat_le x.0 y.0 && (x.0 % 2 == 0) && (y.0 % 2 == 0)) (record { lo = x.0; hi = y.0 }) s y.2 in
    let ends : (nat_le low x.0 ≡ true) × (nat_le x.0 y.0 ≡ true) × ((x.0 % 2 == 0) ≡ true) × ((y.0 % 2 == 0) ≡ true) = four_true _ _ _ _ f.0 in
    let hi : y.0 < 65536 = q.0 in
    let is : IsSpan low (record { lo = x.0; hi = y.0 }) = (leb-true low x.0 ends.0, leb-true x.0 y.0 ends.1, hi, ends.2, ends.3) in
    let text : (a ∷ b ∷ c ∷ d ∷ m ∷ high) ≡ hex_word x.0 ++ 45 ∷ hex_word y.0 = ap (λ k. a ∷ b ∷ c ∷ d ∷ k ∷ high) (eqb-true m 45 i.0) ∙ (λ i. p.1 i ++ 45 ∷ q.1 i) in
    (subst (IsSpan low) f.1 is, text ∙ ap span_text f.1)
  where
    four_true : (a b c d : Bool) → (a && b && c && d) ≡ true → (a ≡ true) × (b ≡ true) × (c ≡ true) × (d ≡ true)
    four_true true true true true e = (refl, refl, refl, refl)
    four_true true true true false e = absurd (true≢false (sym e))
    four_true true true false d e = absurd (true≢false (sym e))
    four_true true false c d e = absurd (true≢false (sym e))
    four_true false b c d e = absurd (true≢false (sym e))

span_made : (low a b : ℕ) (t : List ℕ) (s : Span) → t ≡ hex_word a → word_of t ≡ Some a → word_of (hex_word b) ≡ Some b → span_from low a b ≡ Some s → span_of low (hex_word a ++ 45 ∷ hex_word b) ≡ Some s
span_made low a b t s e p q f =
    let first : word_of (hex_word a) ≡ Some a = subst (λ l. word_of l ≡ Some a) e p in
    rw (first, q) f

pub span_back : (low : ℕ) (s : Span) → IsSpan low s → span_of low (span_text s) ≡ Some s
span_back low s h =
    let lo : s.lo < 65536 = let a = h.1 in let b = h.2 in omega arith in
    let a : nat_le low s.lo ≡ true = le-leb low s.lo h.0 in
    let b : nat_le s.lo s.hi ≡ true = le-leb s.lo s.hi h.1 in
    let f : span_from low s.lo s.hi ≡ Some s = rw (a, b, h.3, h.4) refl in
    span_made low s.lo s.hi (hex_word s.lo) s refl (word_back s.lo lo) (word_back s.hi h.2) f

pub spans_told : (low : ℕ) (ps : List (List ℕ)) (ss : List Span) → spans_of low ps ≡ Some ss → AreSpans low ss × (ps ≡ map span_text ss)
spans_told low [] ss e = let k = some_is [] ss e in (subst (AreSpans low) k tt, ap (map span_text) k)
spans_told low (p ∷ ps) ss e =
    let a = then_some (span_of low p) _ ss e in
    let b = map_some (spans_of (a.0.hi + 2) ps) _ ss a.2 in
    let s = span_told low p a.0 a.1 in
    let r = spans_told (a.0.hi + 2) ps b.0 b.1 in
    (subst (AreSpans low) b.2 (s.0, r.0), (λ i. s.1 i ∷ r.1 i) ∙ ap (map span_text) b.2)

pub spans_back : (low : ℕ) (ss : List Span) → AreSpans low ss → spans_of low (map span_text ss) ≡ Some ss
spans_back low [] h = refl
spans_back low (s ∷ ss) h =
    let a = span_back low s h.0 in
    let b = spans_back (s.hi + 2) ss h.1 in
    spans_more low (span_text s) (map span_text ss) s ss a b
  where
    spans_more : (low : ℕ) (p : List ℕ) (ps : List (List ℕ)) (s : Span) (ss : List Span) → span_of low p ≡ Some s → spans_of (s.hi + 2) ps ≡ Some ss → spans_of low (p ∷ ps) ≡ Some (s ∷ ss)
    spans_more low p ps s ss a b = rw (a, b) refl

span_from_33 : (low : ℕ) (s : Span) → IsSpan low s → From 33 (span_text s)
span_from_33 low s h =
    let lo : s.lo < 65536 = let a = h.1 in let b = h.2 in omega arith in
    from_append 33 (hex_word s.lo) (45 ∷ hex_word s.hi) (from_less 48 33 (hex_word s.lo) (omega arith) (plain_from (hex_word s.lo) (hex_plain s.lo lo)))
    (omega arith, from_less 48 33 (hex_word s.hi) (omega arith) (plain_from (hex_word s.hi) (hex_plain s.hi h.2)))

plain_no_comma : (t : List ℕ) → Plain t → Lacks 44 t
plain_no_comma t p = plain_lacks 44 t (λ b q e. let low = q.0 in omega arith) p

span_no_comma : (low : ℕ) (s : Span) → IsSpan low s → Lacks 44 (span_text s)
span_no_comma low s h =
    let lo : s.lo < 65536 = let a = h.1 in let b = h.2 in omega arith in
    lacks_append 44 (hex_word s.lo) (45 ∷ hex_word s.hi) (plain_no_comma (hex_word s.lo) (hex_plain s.lo lo)) (refl, plain_no_comma (hex_word s.hi) (hex_plain s.hi h.2))

spans_no_comma : (low : ℕ) (ss : List Span) → AreSpans low ss → AllLack 44 (map span_text ss)
spans_no_comma low [] h = tt
spans_no_comma low (s ∷ ss) h = (span_no_comma low s h.0, spans_no_comma (s.hi + 2) ss h.1)

spans_all_from : (low : ℕ) (ss : List Span) → AreSpans low ss → AllFrom 33 (map span_text ss)
spans_all_from low [] h = tt
spans_all_from low (s ∷ ss) h = (span_from_33 low s h.0, spans_all_from (s.hi + 2) ss h.1)

pub spans_text_from : (ss : List Span) → AreSpans 0 ss → From 33 (spans_text ss)
spans_text_from [] h = (omega arith, tt)
spans_text_from (s ∷ ss) h = join_from 44 33 (span_text s ∷ map span_text ss) (omega arith) (spans_all_from 0 (s ∷ ss) h)

-- parts that begin with a plain byte and go on are no dash
pub no_dash : (t : List ℕ) → (t ≡ 45 ∷ [] → ⊥) → bytes_eq t (45 ∷ []) ≡ false
no_dash t unlike = elim (cases_Bool (bytes_eq t (45 ∷ []))) [ inl is ↦ absurd (unlike ((bytes_eq-Decides t (45 ∷ [])).0 is)) | inr f ↦ f ]

-- what begins with one text has its length at least
pub join_longer : (m : ℕ) (p : List ℕ) (ps : List (List ℕ)) → length p ≤ length (join_with_byte m (p ∷ ps))
join_longer m p [] = omega arith
join_longer m p (q ∷ ps) = omega (arith, length-append p (m ∷ join_with_byte m (q ∷ ps)))

parts_some : (ps : List (List ℕ)) (p : List ℕ) (rest : List (List ℕ)) → ps ≡ p ∷ rest → parts ps ≡ join_with_byte 44 ps
parts_some ps p rest e = subst (λ l. parts l ≡ join_with_byte 44 l) (sym e) refl

pub spans_field_told : (t : List ℕ) (ss : List Span) → spans_field t ≡ Some ss → AreSpans 0 ss × (t ≡ spans_text ss)
spans_field_told t ss e = elim (cases_Bool (bytes_eq t (45 ∷ []))) [
  | inl is ↦
      let k : Some [] ≡ Some ss = rw is at e in
      let n = some_is [] ss k in
      (subst (AreSpans 0) n tt, (bytes_eq-Decides t (45 ∷ [])).0 is ∙ ap spans_text n)
  | inr unlike ↦
      let k : spans_of 0 (parts_of 44 t) ≡ Some ss = rw unlike at e in
      let r = spans_told 0 (parts_of 44 t) ss k in
      (r.0, sym (parts_told 44 t) ∙ ap (join_with_byte 44) r.1 ∙ some_spans ss r.1)
]
  where
    some_spans : (ss : List Span) → parts_of 44 t ≡ map span_text ss → join_with_byte 44 (map span_text ss) ≡ spans_text ss
    some_spans [] e = absurd (let l = ap length e in let n = some_parts 44 t in omega arith)
    some_spans (s ∷ ss) e = refl

pub spans_field_back : (ss : List Span) → AreSpans 0 ss → spans_field (spans_text ss) ≡ Some ss
spans_field_back [] h = refl
spans_field_back (s ∷ ss) h =
    let t : List ℕ = join_with_byte 44 (map span_text (s ∷ ss)) in
    let long : 9 ≤ length t = join_longer 44 (span_text s) (map span_text ss) in
    let unlike : bytes_eq t (45 ∷ []) ≡ false = no_dash t (λ e. let l = ap length e in omega arith) in
    let cut : parts_of 44 t ≡ map span_text (s ∷ ss) = parts_back 44 (span_text s) (map span_text ss) (spans_no_comma 0 (s ∷ ss) h) in
    spans_field_by t (s ∷ ss) unlike (ap (spans_of 0) cut ∙ spans_back 0 (s ∷ ss) h)
  where
    spans_field_by : (t : List ℕ) (ss : List Span) → bytes_eq t (45 ∷ []) ≡ false → spans_of 0 (parts_of 44 t) ≡ Some ss → spans_field t ≡ Some ss
    spans_field_by t ss unlike e = rw unlike e

-- ---- Slots

pub slot_told : (t : List ℕ) (x : Slot) → slot_of t ≡ Some x → IsSlot x × (t ≡ slot_text x)
slot_told [] x e = none_not x e
slot_told (c ∷ t) x e = elim (cases_Bool (c == 82)) [
  | inl is ↦
      let k : register_of t ≡ Some x = rw is at e in
      let a = then_some (number_of t) _ x k in
      let f = if_some (nat_le 4 a.0 && nat_le a.0 15) (Reg a.0) x a.2 in
      let p = and_parts (nat_le 4 a.0) (nat_le a.0 15) f.0 in
      let n = number_told t a.0 a.1 in
      let s : IsSlot (Reg a.0) = (leb-true 4 a.0 p.0, leb-true a.0 15 p.1) in
      (subst IsSlot f.1 s, (λ i. eqb-true c 82 is i ∷ n.1 i) ∙ ap slot_text f.1)
  | inr unlike ↦
      let k : address_of (c ∷ t) ≡ Some x = rw unlike at e in
      let a = then_some (word_of (c ∷ t)) _ x k in
      let f = if_some ((is_sram a.0 || is_data a.0) && (a.0 % 2 == 0)) (Word a.0) x a.2 in
      let p = and_parts (is_sram a.0 || is_data a.0) (a.0 % 2 == 0) f.0 in
      let w = word_told (c ∷ t) a.0 a.1 in
      let s : IsSlot (Word a.0) = (p.0, p.1) in
      (subst IsSlot f.1 s, w.1 ∙ ap slot_text f.1)
]

word_small : (a : ℕ) → (is_sram a || is_data a) ≡ true → a < 65536
word_small a h = elim (cases_or _ _ h) [
  | inl s ↦ let p = and_parts (nat_le 0x1C00 a) (nat_le a 0x23FF) s in let l = leb-true a 0x23FF p.1 in omega arith
  | inr d ↦ let p = and_parts (nat_le 0x4400 a) (nat_le a 0x7EFF) d in let l = leb-true a 0x7EFF p.1 in omega arith
]
  where
    cases_or : (x y : Bool) → (x || y) ≡ true → (x ≡ true) ⊎ (y ≡ true)
    cases_or true y e = inl refl
    cases_or false y e = inr e

pub slot_plain : (x : Slot) → IsSlot x → Plain (slot_text x)
slot_plain (Reg r) h = ((omega arith, omega arith, λ e. omega arith), let l = h.1 in decimal_plain r (omega arith))
slot_plain (Word a) h = hex_plain a (word_small a h.0)

hex_no_r : (d : ℕ) → d < 16 → (hex_digit d == 82) ≡ false
hex_no_r d l = elim (cases_Bool (nat_lt d 10)) [
  | inl is ↦ rw is (ne_eqb (48 + d) 82 (λ e. omega arith))
  | inr unlike ↦ rw unlike (ne_eqb (55 + d) 82 (λ e. omega arith))
]

pub slot_back : (x : Slot) → IsSlot x → slot_of (slot_text x) ≡ Some x
slot_back (Reg r) h =
    let n : number_of (decimal r) ≡ Some r = let l = h.1 in number_back r (omega arith) in
    let a : nat_le 4 r ≡ true = le-leb 4 r h.0 in
    let b : nat_le r 15 ≡ true = le-leb r 15 h.1 in
    by_number (decimal r) r n a b
  where
    by_number : (t : List ℕ) (r : ℕ) → number_of t ≡ Some r → nat_le 4 r ≡ true → nat_le r 15 ≡ true → slot_of (82 ∷ t) ≡ Some (Reg r)
    by_number t r n a b = rw (n, a, b) refl
slot_back (Word a) h =
    let l : a < 65536 = word_small a h.0 in
    by_word (hex_digit (a / 4096)) (hex_digit (a / 256 % 16) ∷ hex_digit (a / 16 % 16) ∷ hex_digit (a % 16) ∷ []) a (hex_no_r (a / 4096) (omega arith)) (word_back a l) h.0 h.1
  where
    by_word : (c : ℕ) (t : List ℕ) (a : ℕ) → (c == 82) ≡ false → word_of (c ∷ t) ≡ Some a → (is_sram a || is_data a) ≡ true → (a % 2 == 0) ≡ true → slot_of (c ∷ t) ≡ Some (Word a)
    by_word c t a unlike w i e = rw (unlike, w, i, e) refl

pub above_told : (low : ℕ) (t : List ℕ) (x : Slot) → slot_above low t ≡ Some x → (low ≤ rank x) × IsSlot x × (t ≡ slot_text x)
above_told low t x e =
    let a = then_some (slot_of t) _ x e in
    let f = if_some (nat_le low (rank a.0)) a.0 x a.2 in
    let s = slot_told t a.0 a.1 in
    let l = leb-true low (rank a.0) f.0 in
    (subst (λ y. low ≤ rank y) f.1 l, subst IsSlot f.1 s.0, s.1 ∙ ap slot_text f.1)

pub above_back : (low : ℕ) (x : Slot) → low ≤ rank x → IsSlot x → slot_above low (slot_text x) ≡ Some x
above_back low x l h =
    let s = slot_back x h in
    let a : nat_le low (rank x) ≡ true = le-leb low (rank x) l in
    by_slot low (slot_text x) x s a
  where
    by_slot : (low : ℕ) (t : List ℕ) (x : Slot) → slot_of t ≡ Some x → nat_le low (rank x) ≡ true → slot_above low t ≡ Some x
    by_slot low t x s a = rw (s, a) refl
