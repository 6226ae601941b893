-- Lists of ranges and of spans, and what they hold.
use Rattle.std.proofs.Common.{◌≡◌, ℕ, ◌+◌, ◌<◌, Bool, true, false, List, [], ◌∷◌, ◌++◌, Option, Some, None, refl, sym, ap, ◌∙◌, arith}
use Rattle.std.specs.Prelude.{if◌then◌else◌, ◌&&◌, ◌||◌, ◌==◌, not, nat_le, filter, max, min}
use Rattle.std.proofs.lemmas.Bool.Decides.{nat_tests}
use Rattle.certificate.specs.declared.cert.Slot.{Slot}
use Rattle.certificate.specs.declared.cert.Slot.TheVariants.{Reg, Word}
use Rattle.certificate.specs.declared.cert.Span.{Span}
use Rattle.certificate.specs.declared.cert.Fact.{Fact}
use Rattle.certificate.specs.Grammar.{AreFacts, rank}
use Rattle.cert_rules.specs.Slots.{same_slot, is_held, is_sram, in_spans}
use Rattle.cert_rules.specs.Ranges as rules
use Rattle.cert_rules.specs.Known as rules_known
use Rattle.cert_state.specs.declared.range.Range.{Range}
use Rattle.cert_state.specs.declared.values.Held.{Held}
use Rattle.cert_state.specs.Views.{range_in, range_in_both, or_range, ranged, AllKept}

equal_numbers : (a b : ℕ) → (a == b) ≡ true → a ≡ b
equal_numbers a b h = grind (arith, nat_tests)

same_number : (a : ℕ) → (a == a) ≡ true
same_number a = grind (arith, nat_tests)

pub slots_equal : (x y : Slot) → same_slot x y ≡ true → x ≡ y
slots_equal (Reg r) (Reg q) h = ap (λ n. Reg n) (equal_numbers r q h)
slots_equal (Word a) (Word b) h = ap (λ n. Word n) (equal_numbers a b h)
slots_equal (Reg r) (Word b) h = absurd (let no : false ≡ true = h in cc)
slots_equal (Word a) (Reg q) h = absurd (let no : false ≡ true = h in cc)

pub slot_same : (x : Slot) → same_slot x x ≡ true
slot_same (Reg r) = same_number r
slot_same (Word a) = same_number a

flip_numbers : (a b : ℕ) → (a == b) ≡ (b == a)
flip_numbers a b = grind (arith, nat_tests)

pub slots_flip : (x y : Slot) → same_slot x y ≡ same_slot y x
slots_flip (Reg r) (Reg q) = flip_numbers r q
slots_flip (Word a) (Word b) = flip_numbers a b
slots_flip (Reg r) (Word b) = refl
slots_flip (Word a) (Reg q) = refl

-- ---- Ranges of slots

either : {A : Type 0} (b : Bool) (o : Option A) → o ≡ (if b then o else o)
either true o = refl
either false o = refl

-- those that are left hold what they held
left_here : (p : Slot → Bool) (h : Held) (held : List Held) (x : Slot) → h.of ≡ x → same_slot h.of x ≡ true
    → range_in (filter (λ k. not (p k.of)) held) x ≡ (if p x then None else range_in held x)
    → range_in (filter (λ k. not (p k.of)) (h ∷ held)) x ≡ (if p x then None else Some (ranged h.range))
left_here p h held x same e rest =
    elim (p h.of) as (λ b. p h.of ≡ b → range_in (if not b then h ∷ filter (λ k. not (p k.of)) held else filter (λ k. not (p k.of)) held) x ≡ (if p x then None else Some (ranged h.range))) [
      | true ↦ λ hit.
          let here : p x ≡ true = ap p (sym same) ∙ hit in
          rest ∙ ap (λ b. if b then None else range_in held x) here ∙ sym (ap (λ b. if b then None else Some (ranged h.range)) here)
      | false ↦ λ miss.
          let here : p x ≡ false = ap p (sym same) ∙ miss in
          ap (λ c. if c then Some (ranged h.range) else range_in (filter (λ k. not (p k.of)) held) x) e ∙ sym (ap (λ b. if b then None else Some (ranged h.range)) here)
    ] refl

left_there : (p : Slot → Bool) (h : Held) (held : List Held) (x : Slot) → same_slot h.of x ≡ false
    → range_in (filter (λ k. not (p k.of)) held) x ≡ (if p x then None else range_in held x)
    → range_in (filter (λ k. not (p k.of)) (h ∷ held)) x ≡ (if p x then None else range_in held x)
left_there p h held x e rest =
    elim (p h.of) as (λ b. range_in (if not b then h ∷ filter (λ k. not (p k.of)) held else filter (λ k. not (p k.of)) held) x ≡ (if p x then None else range_in held x)) [
      | true ↦ rest
      | false ↦ ap (λ c. if c then Some (ranged h.range) else range_in (filter (λ k. not (p k.of)) held) x) e ∙ rest
    ]

pub range_left : (p : Slot → Bool) (held : List Held) (x : Slot) → range_in (filter (λ h. not (p h.of)) held) x ≡ (if p x then None else range_in held x)
range_left p [] x = either (p x) None
range_left p (h ∷ held) x =
    elim (same_slot h.of x) as (λ c. same_slot h.of x ≡ c → range_in (filter (λ k. not (p k.of)) (h ∷ held)) x ≡ (if p x then None else (if c then Some (ranged h.range) else range_in held x))) [
      | true ↦ λ e. left_here p h held x (slots_equal h.of x e) e (range_left p held x)
      | false ↦ λ e. left_there p h held x e (range_left p held x)
    ] refl

-- one more behind the others

range_behind : (front behind : List Held) (x : Slot) → range_in (front ++ behind) x ≡ or_range (range_in front x) (range_in behind x)
range_behind [] behind x = refl
range_behind (h ∷ front) behind x = elim (same_slot h.of x) as (λ c. (if c then Some (ranged h.range) else range_in (front ++ behind) x) ≡ or_range (if c then Some (ranged h.range) else range_in front x) (range_in behind x)) [
  | true ↦ refl
  | false ↦ range_behind front behind x
]

pub range_with : (held : List Held) (w : Slot) (r : Range) (x : Slot)
    → range_in (filter (λ h. not (same_slot h.of w)) held ++ record { of = w; range = r } ∷ []) x ≡ (if same_slot x w then Some (ranged r) else range_in held x)
range_with held w r x =
    let own : List Held = record { of = w; range = r } ∷ [] in
    range_behind (filter (λ h. not (same_slot h.of w)) held) own x
    ∙ ap (λ o. or_range o (range_in own x)) (range_left (λ y. same_slot y w) held x)
    ∙ ap (λ c. or_range (if same_slot x w then None else range_in held x) (if c then Some (ranged r) else None)) (slots_flip w x)
    ∙ last (same_slot x w) (range_in held x)
  where
    last : (c : Bool) (o : Option rules.Range) → or_range (if c then None else o) (if c then Some (ranged r) else None) ≡ (if c then Some (ranged r) else o)
    last true o = refl
    last false None = refl
    last false (Some q) = refl

-- a fact goes over to the ranges
pub fact_moved : (held new : List Held) (h : Held) (f : Fact) (more : List Fact) (x : Slot) → new ≡ held ++ h ∷ [] → h.of ≡ f.of → ranged h.range ≡ record { least = f.least; greatest = f.greatest; even = f.even }
    → range_in_both new more x ≡ range_in_both held (f ∷ more) x
fact_moved held new h f more x is of range =
    let own : List Held = h ∷ [] in
    ap (λ l. range_in_both l more x) is
    ∙ ap (λ o. or_range o (rules_known.range_in more x)) (range_behind held own x)
    ∙ ap (λ y. or_range (or_range (range_in held x) (if same_slot y x then Some (ranged h.range) else None)) (rules_known.range_in more x)) of
    ∙ ap (λ r. or_range (or_range (range_in held x) (if same_slot f.of x then Some r else None)) (rules_known.range_in more x)) range
    ∙ last (range_in held x) (same_slot f.of x)
  where
    last : (o : Option rules.Range) (b : Bool) → or_range (or_range o (if b then Some (record { least = f.least; greatest = f.greatest; even = f.even }) else None)) (rules_known.range_in more x)
        ≡ or_range o (if b then Some (record { least = f.least; greatest = f.greatest; even = f.even }) else rules_known.range_in more x)
    last (Some r) b = refl
    last None true = refl
    last None false = refl

pub kept_of : (low : ℕ) (facts : List Fact) → AreFacts low facts → AllKept facts
kept_of low [] h = tt
kept_of low (f ∷ facts) h = ((h.0.2, h.0.3), kept_of (rank f.of + 1) facts h.1)

-- ---- A slot is given a range

pub given_by : (held from new : List Held) (w v : Slot) (r : Range) (x : Slot) → is_held w ≡ true → v ≡ w → from ≡ held → new ≡ filter (λ h. not (same_slot h.of v)) from ++ record { of = v; range = r } ∷ []
    → range_in new x ≡ (if same_slot x w && is_held w then Some (ranged r) else range_in held x)
given_by held from new w v r x is same old list =
    ap (λ l. range_in l x) list
    ∙ ap (λ l. range_in (filter (λ h. not (same_slot h.of v)) l ++ record { of = v; range = r } ∷ []) x) old
    ∙ range_with held v r x
    ∙ ap (λ y. if same_slot x y then Some (ranged r) else range_in held x) same
    ∙ ap (λ b. if b then Some (ranged r) else range_in held x) (and_true (same_slot x w) (is_held w) is)
  where
    and_true : (a b : Bool) → b ≡ true → a ≡ (a && b)
    and_true true b e = sym e
    and_true false b e = refl

pub forgot_by : (p : Slot → Bool) (held from new : List Held) (x : Slot) (o : Option rules.Range) → from ≡ held → new ≡ filter (λ h. not (p h.of)) from → range_in held x ≡ o → range_in new x ≡ (if p x then None else o)
forgot_by p held from new x o old list was =
    ap (λ l. range_in l x) list ∙ ap (λ l. range_in (filter (λ h. not (p h.of)) l) x) old ∙ range_left p held x ∙ ap (λ r. if p x then None else r) was

pub not_given : (held : List Held) (w : Slot) (r : Range) (x : Slot) → is_held w ≡ false → range_in held x ≡ (if same_slot x w && is_held w then Some (ranged r) else range_in held x)
not_given held w r x off = ap (λ b. if b then Some (ranged r) else range_in held x) (sym (and_false (same_slot x w) (is_held w) off))
  where
    and_false : (a b : Bool) → b ≡ false → (a && b) ≡ false
    and_false true b e = e
    and_false false b e = refl

-- ---- Spans

pub spans_more : (spans : List Span) (s : Span) (a : ℕ) → in_spans (spans ++ s ∷ []) a ≡ ((nat_le s.lo a && nat_le a s.hi) || in_spans spans a)
spans_more [] s a = refl
spans_more (t ∷ spans) s a = ap (λ b. (nat_le t.lo a && nat_le a t.hi) || b) (spans_more spans s a) ∙ swapped (nat_le t.lo a && nat_le a t.hi) (nat_le s.lo a && nat_le a s.hi) (in_spans spans a)
  where
    swapped : (x y z : Bool) → (x || (y || z)) ≡ (y || (x || z))
    swapped true true z = refl
    swapped true false z = refl
    swapped false y z = refl

-- the part of a range that lies in SRAM
pub sram_part : (least greatest a : ℕ) → (nat_le (max least 0x1C00) a && nat_le a (min greatest 0x23FF)) ≡ (nat_le least a && nat_le a greatest && is_sram a)
sram_part least greatest a = grind (arith, nat_tests)

pub no_sram_part : (least greatest a : ℕ) → min greatest 0x23FF < max least 0x1C00 → (nat_le least a && nat_le a greatest && is_sram a) ≡ false
no_sram_part least greatest a h = grind (arith, nat_tests)

pub freshened_by : (spans new : List Span) (s : Span) (least greatest a : ℕ) → new ≡ spans ++ s ∷ [] → s.lo ≡ max least 0x1C00 → s.hi ≡ min greatest 0x23FF
    → in_spans new a ≡ ((nat_le least a && nat_le a greatest && is_sram a) || in_spans spans a)
freshened_by spans new s least greatest a is lo hi =
    ap (λ l. in_spans l a) is
    ∙ spans_more spans s a
    ∙ ap (λ n. (nat_le n a && nat_le a s.hi) || in_spans spans a) lo
    ∙ ap (λ n. (nat_le (max least 0x1C00) a && nat_le a n) || in_spans spans a) hi
    ∙ ap (λ b. b || in_spans spans a) (sram_part least greatest a)

pub not_freshened : (spans : List Span) (least greatest a : ℕ) → min greatest 0x23FF < max least 0x1C00 → in_spans spans a ≡ ((nat_le least a && nat_le a greatest && is_sram a) || in_spans spans a)
not_freshened spans least greatest a h = ap (λ b. b || in_spans spans a) (sym (no_sram_part least greatest a h))
