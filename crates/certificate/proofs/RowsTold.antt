-- What rows spell.
use Rattle.std.proofs.Common.{◌≡◌, ◌∙◌, ◌<◌, ◌++◌, ℕ, List, [], ◌∷◌, Option, Some, None, true, refl, ap, ap₂, subst, arith, inl, inr}
use Rattle.std.proofs.lemmas.Bool.{cases_Bool}
use Rattle.std.specs.Prelude.{option_map, if◌then◌else◌, codes, ◌&&◌}
use Rattle.std.specs.Str.{bytes_eq}
use Rattle.std.specs.Fmt.{decimal}
use Rattle.std.proofs.lemmas.Slice.Eq.{bytes_eq-Decides}
use Rattle.base_io.specs.Digits.{hex_word}
use Rattle.certificate.specs.declared.cert.StretchRow.{StretchRow}
use Rattle.certificate.specs.Rows.{Flat, Function, Point}
use Rattle.certificate.specs.Line.{Line, budget, function, stretch, point, end}
use Rattle.certificate.specs.Texts.{Lacks}
use Rattle.certificate.specs.Grammar.{IsFlat, IsFunction, IsNumber, IsPoint, IsRow, IsStretch, all_fresh, all_have_facts}
use Rattle.certificate.specs.Spelling.{facts_text, flat_text, row_text, spans_text, spent_text}
use Rattle.certificate.specs.Fields.{facts_field, number_of, spans_field, word_of}
use Rattle.certificate.specs.Sums.{spent_field}
use Rattle.certificate.specs.Lines.{field, flat_in, function_in, good_point, kind_in, point_in, rest, stretch_in}
use Rattle.certificate.specs.Reading.{read_row}
use Rattle.certificate.proofs.Marks.{From, after_lacks, before_lacks, cut_some, either, from_less, if_none, if_some, lacks_append, lacks_below, map_some, plain_from, some_is, then_some}
use Rattle.certificate.proofs.Numbers.{decimal_plain, hex_plain, number_back, number_told, word_back, word_told}
use Rattle.certificate.proofs.Parts.{spans_field_back, spans_field_told, spans_text_from}
use Rattle.certificate.proofs.Known.{facts_field_back, facts_field_told, facts_text_from}
use Rattle.certificate.proofs.SumsTold.{spent_back, spent_text_from, spent_told}

is_text : (t u : List ℕ) → bytes_eq t u ≡ true → t ≡ u
is_text t u e = (bytes_eq-Decides t u).0 e

abbrev with_blank : List ℕ → List ℕ → List ℕ
with_blank a b = a ++ 32 ∷ b

-- ---- Stretches

abbrev stretch_body : StretchRow → List ℕ
stretch_body s = with_blank (hex_word s.head) (with_blank (decimal s.chain) (with_blank (decimal s.turns) (decimal s.cost)))

stretch_told : (t : List ℕ) (s : StretchRow) → stretch_in t ≡ Some s → IsStretch s × (t ≡ stretch_body s)
stretch_told t s e =
    let a = then_some (word_of (field t)) _ s e in
    let b = then_some (number_of (field (rest t))) _ s a.2 in
    let c = then_some (number_of (field (rest (rest t)))) _ s b.2 in
    let d = map_some (number_of (rest (rest (rest t)))) _ s c.2 in
    let w = word_told (field t) a.0 a.1 in
    let n = number_told (field (rest t)) b.0 b.1 in
    let m = number_told (field (rest (rest t))) c.0 c.1 in
    let k = number_told (rest (rest (rest t))) d.0 d.1 in
    let one = cut_some 32 t b.0 (λ u. number_of (field u)) refl b.1 in
    let two = cut_some 32 (rest t) c.0 (λ u. number_of (field u)) refl c.1 in
    let three = cut_some 32 (rest (rest t)) d.0 number_of refl d.1 in
    let row : StretchRow = record { head = a.0; chain = b.0; turns = c.0; cost = d.0 } in
    let is : IsStretch row = (w.0, n.0, m.0, k.0) in
    let text : t ≡ stretch_body row = one ∙ ap₂ with_blank w.1 (two ∙ ap₂ with_blank n.1 (three ∙ ap₂ with_blank m.1 k.1)) in
    (subst IsStretch d.2 is, text ∙ ap stretch_body d.2)

stretch_by : (t u v a b c d : List ℕ) (s : StretchRow) → field t ≡ a → rest t ≡ u → field u ≡ b → rest u ≡ v → field v ≡ c → rest v ≡ d
    → word_of a ≡ Some s.head → number_of b ≡ Some s.chain → number_of c ≡ Some s.turns → number_of d ≡ Some s.cost → stretch_in t ≡ Some s
stretch_by t u v a b c d s f1 r1 f2 r2 f3 r3 w n m k = rw (f1, r1, f2, r2, f3, r3, w, n, m, k) refl

word_low : (w : ℕ) → w < 65536 → From 33 (hex_word w)
word_low w l = from_less 48 33 (hex_word w) (omega arith) (plain_from (hex_word w) (hex_plain w l))

number_low : (n : ℕ) → IsNumber n → From 33 (decimal n)
number_low n l = from_less 48 33 _ (omega arith) (plain_from _ (decimal_plain n l))

no_blank : (t : List ℕ) → From 33 t → Lacks 32 t
no_blank t f = lacks_below 32 33 t (omega arith) f

no_feed : (t : List ℕ) → From 33 t → Lacks 10 t
no_feed t f = lacks_below 10 33 t (omega arith) f

blank_no_feed : (a b : List ℕ) → From 33 a → Lacks 10 b → Lacks 10 (with_blank a b)
blank_no_feed a b f l = lacks_append 10 a (32 ∷ b) (no_feed a f) (refl, l)

front : (a b : List ℕ) → From 33 a → field (with_blank a b) ≡ a
front a b f = before_lacks 32 a b (no_blank a f)

back : (a b : List ℕ) → From 33 a → rest (with_blank a b) ≡ b
back a b f = after_lacks 32 a b (no_blank a f)

stretch_back : (s : StretchRow) → IsStretch s → stretch_in (stretch_body s) ≡ Some s
stretch_back s h =
    let a = word_low s.head h.0 in
    let b = number_low s.chain h.1 in
    let c = number_low s.turns h.2 in
    stretch_by (stretch_body s) (with_blank (decimal s.chain) (with_blank (decimal s.turns) (decimal s.cost))) (with_blank (decimal s.turns) (decimal s.cost)) (hex_word s.head) (decimal s.chain) (decimal s.turns) (decimal s.cost) s
    (front _ _ a) (back (hex_word s.head) _ a) (front _ (with_blank (decimal s.turns) (decimal s.cost)) b) (back _ _ b) (front _ (decimal s.cost) c) (back _ _ c)
    (word_back s.head h.0) (number_back s.chain h.1) (number_back s.turns h.2) (number_back s.cost h.3)

stretch_lacks : (s : StretchRow) → IsStretch s → Lacks 10 (stretch_body s)
stretch_lacks s h =
    blank_no_feed (hex_word s.head) _ (word_low s.head h.0) (blank_no_feed _ _ (number_low s.chain h.1) (blank_no_feed _ _ (number_low s.turns h.2) (no_feed _ (number_low s.cost h.3))))

-- ---- Functions

abbrev flat_body : Flat → List ℕ
flat_body f = with_blank (decimal f.cost) (spans_text f.writes)

flat_told : (t : List ℕ) (f : Flat) → flat_in t ≡ Some f → IsFlat (Some f) × (t ≡ flat_body f)
flat_told t f e =
    let a = then_some (number_of (field t)) _ f e in
    let b = map_some (spans_field (rest t)) _ f a.2 in
    let n = number_told (field t) a.0 a.1 in
    let s = spans_field_told (rest t) b.0 b.1 in
    let one = cut_some 32 t b.0 spans_field refl b.1 in
    let row : Flat = record { cost = a.0; writes = b.0 } in
    let is : IsFlat (Some row) = (n.0, s.0) in
    (subst (λ f. IsFlat (Some f)) b.2 is, (one ∙ ap₂ with_blank n.1 s.1) ∙ ap flat_body b.2)

flat_by : (t a b : List ℕ) (f : Flat) → field t ≡ a → rest t ≡ b → number_of a ≡ Some f.cost → spans_field b ≡ Some f.writes → flat_in t ≡ Some f
flat_by t a b f f1 r1 n s = rw (f1, r1, n, s) refl

flat_back : (f : Flat) → IsFlat (Some f) → flat_in (flat_body f) ≡ Some f
flat_back f h = let a = number_low f.cost h.0 in flat_by (flat_body f) _ _ f (front _ _ a) (back _ _ a) (number_back f.cost h.0) (spans_field_back f.writes h.1)

kind_told : (t : List ℕ) (k : Option Flat) → kind_in t ≡ Some k → IsFlat k × (t ≡ flat_text k)
kind_told t k e = elim (cases_Bool (bytes_eq t (codes "split"))) [
  | inl is ↦
      let o : Some None ≡ Some k = rw is at e in
      let n = some_is None k o in
      (subst IsFlat n tt, is_text t (codes "split") is ∙ ap flat_text n)
  | inr unlike ↦
      let o : (if bytes_eq (field t) (codes "flat") then option_map (λ f. Some f) (flat_in (rest t)) else None) ≡ Some k = rw unlike at e in
      let i = if_none (bytes_eq (field t) (codes "flat")) _ k o in
      let a = map_some (flat_in (rest t)) _ k i.1 in
      let f = flat_told (rest t) a.0 a.1 in
      let one = cut_some 32 t a.0 flat_in refl a.1 in
      let text : t ≡ flat_text (Some a.0) = one ∙ ap₂ with_blank (is_text (field t) (codes "flat") i.0) f.1 in
      (subst IsFlat a.2 f.0, text ∙ ap flat_text a.2)
]

kind_back : (k : Option Flat) → IsFlat k → kind_in (flat_text k) ≡ Some k
kind_back None h = refl
kind_back (Some f) h = ap (option_map (λ f. Some f)) (flat_back f h)

kind_lacks : (k : Option Flat) → IsFlat k → Lacks 10 (flat_text k)
kind_lacks None h = (refl, (refl, (refl, (refl, (refl, tt)))))
kind_lacks (Some f) h = (refl, (refl, (refl, (refl, (refl, blank_no_feed _ _ (number_low f.cost h.0) (no_feed _ (spans_text_from f.writes h.1)))))))

abbrev function_body : Function → List ℕ
function_body f = with_blank (hex_word f.start) (with_blank (hex_word f.end) (with_blank (decimal f.height) (flat_text f.flat)))

function_told : (t : List ℕ) (f : Function) → function_in t ≡ Some f → IsFunction f × (t ≡ function_body f)
function_told t f e =
    let a = then_some (word_of (field t)) _ f e in
    let b = then_some (word_of (field (rest t))) _ f a.2 in
    let c = then_some (number_of (field (rest (rest t)))) _ f b.2 in
    let d = map_some (kind_in (rest (rest (rest t)))) _ f c.2 in
    let w = word_told (field t) a.0 a.1 in
    let n = word_told (field (rest t)) b.0 b.1 in
    let m = number_told (field (rest (rest t))) c.0 c.1 in
    let k = kind_told (rest (rest (rest t))) d.0 d.1 in
    let one = cut_some 32 t b.0 (λ u. word_of (field u)) refl b.1 in
    let two = cut_some 32 (rest t) c.0 (λ u. number_of (field u)) refl c.1 in
    let three = cut_some 32 (rest (rest t)) d.0 kind_in refl d.1 in
    let row : Function = record { start = a.0; end = b.0; height = c.0; flat = d.0 } in
    let is : IsFunction row = (w.0, n.0, m.0, k.0) in
    let text : t ≡ function_body row = one ∙ ap₂ with_blank w.1 (two ∙ ap₂ with_blank n.1 (three ∙ ap₂ with_blank m.1 k.1)) in
    (subst IsFunction d.2 is, text ∙ ap function_body d.2)

function_by : (t u v a b c d : List ℕ) (f : Function) → field t ≡ a → rest t ≡ u → field u ≡ b → rest u ≡ v → field v ≡ c → rest v ≡ d
    → word_of a ≡ Some f.start → word_of b ≡ Some f.end → number_of c ≡ Some f.height → kind_in d ≡ Some f.flat → function_in t ≡ Some f
function_by t u v a b c d f f1 r1 f2 r2 f3 r3 w n m k = rw (f1, r1, f2, r2, f3, r3, w, n, m, k) refl

function_back : (f : Function) → IsFunction f → function_in (function_body f) ≡ Some f
function_back f h =
    let a = word_low f.start h.0 in
    let b = word_low f.end h.1 in
    let c = number_low f.height h.2 in
    function_by (function_body f) (with_blank (hex_word f.end) (with_blank (decimal f.height) (flat_text f.flat))) (with_blank (decimal f.height) (flat_text f.flat)) (hex_word f.start) (hex_word f.end) (decimal f.height) (flat_text f.flat) f
    (front _ _ a) (back (hex_word f.start) _ a) (front _ (with_blank (decimal f.height) (flat_text f.flat)) b) (back (hex_word f.end) _ b) (front _ (flat_text f.flat) c) (back _ _ c)
    (word_back f.start h.0) (word_back f.end h.1) (number_back f.height h.2) (kind_back f.flat h.3)

function_lacks : (f : Function) → IsFunction f → Lacks 10 (function_body f)
function_lacks f h =
    blank_no_feed (hex_word f.start) (with_blank (hex_word f.end) (with_blank (decimal f.height) (flat_text f.flat))) (word_low f.start h.0) (blank_no_feed (hex_word f.end) _ (word_low f.end h.1) (blank_no_feed _ _ (number_low f.height h.2) (kind_lacks f.flat h.3)))

-- ---- Points

abbrev point_body : Point → List ℕ
point_body p = with_blank (hex_word p.address) (with_blank (hex_word p.stretch) (with_blank (spent_text p.spent) (with_blank (facts_text p.facts) (spans_text p.fresh))))

point_told : (t : List ℕ) (p : Point) → point_in t ≡ Some p → IsPoint p × (t ≡ point_body p)
point_told t p e =
    let a = then_some (word_of (field t)) _ p e in
    let b = then_some (word_of (field (rest t))) _ p a.2 in
    let c = then_some (spent_field (field (rest (rest t)))) _ p b.2 in
    let d = then_some (facts_field (field (rest (rest (rest t))))) _ p c.2 in
    let f = then_some (spans_field (rest (rest (rest (rest t))))) _ p d.2 in
    let row : Point = record { address = a.0; stretch = b.0; spent = c.0; facts = d.0; fresh = f.0 } in
    let g = if_some (all_have_facts d.0 c.0.terms && all_fresh f.0 d.0) row p f.2 in
    let w = word_told (field t) a.0 a.1 in
    let n = word_told (field (rest t)) b.0 b.1 in
    let m = spent_told (field (rest (rest t))) c.0 c.1 in
    let k = facts_field_told (field (rest (rest (rest t)))) d.0 d.1 in
    let q = spans_field_told (rest (rest (rest (rest t)))) f.0 f.1 in
    let one = cut_some 32 t b.0 (λ u. word_of (field u)) refl b.1 in
    let two = cut_some 32 (rest t) c.0 (λ u. spent_field (field u)) refl c.1 in
    let three = cut_some 32 (rest (rest t)) d.0 (λ u. facts_field (field u)) refl d.1 in
    let last = cut_some 32 (rest (rest (rest t))) f.0 spans_field refl f.1 in
    let is : IsPoint row = record { address = w.0; stretch = n.0; spent = m.0; facts = k.0; spans = q.0; together = g.0 } in
    let text : t ≡ point_body row = one ∙ ap₂ with_blank w.1 (two ∙ ap₂ with_blank n.1 (three ∙ ap₂ with_blank m.1 (last ∙ ap₂ with_blank k.1 q.1))) in
    (subst IsPoint g.1 is, text ∙ ap point_body g.1)

point_by : (t u v x a b c d f : List ℕ) (p : Point) → field t ≡ a → rest t ≡ u → field u ≡ b → rest u ≡ v → field v ≡ c → rest v ≡ x → field x ≡ d → rest x ≡ f
    → word_of a ≡ Some p.address → word_of b ≡ Some p.stretch → spent_field c ≡ Some p.spent → facts_field d ≡ Some p.facts → spans_field f ≡ Some p.fresh → good_point p ≡ Some p → point_in t ≡ Some p
point_by t u v x a b c d f p f1 r1 f2 r2 f3 r3 f4 r4 w n m k q g = rw (f1, r1, f2, r2, f3, r3, f4, r4, w, n, m, k, q) g

point_back : (p : Point) → IsPoint p → point_in (point_body p) ≡ Some p
point_back p h =
    let a = word_low p.address h.address in
    let b = word_low p.stretch h.stretch in
    let c = spent_text_from p.spent h.spent in
    let d = facts_text_from p.facts h.facts in
    let together = h.together in
    let good : good_point p ≡ Some p = rw together refl in
    point_by (point_body p) (with_blank (hex_word p.stretch) (with_blank (spent_text p.spent) (with_blank (facts_text p.facts) (spans_text p.fresh)))) (with_blank (spent_text p.spent) (with_blank (facts_text p.facts) (spans_text p.fresh))) (with_blank (facts_text p.facts) (spans_text p.fresh)) (hex_word p.address) (hex_word p.stretch) (spent_text p.spent) (facts_text p.facts) (spans_text p.fresh) p
    (front _ _ a) (back (hex_word p.address) _ a) (front _ (with_blank (spent_text p.spent) (with_blank (facts_text p.facts) (spans_text p.fresh))) b) (back (hex_word p.stretch) _ b) (front _ (with_blank (facts_text p.facts) (spans_text p.fresh)) c) (back _ _ c) (front _ (spans_text p.fresh) d) (back _ _ d)
    (word_back p.address h.address) (word_back p.stretch h.stretch) (spent_back p.spent h.spent) (facts_field_back p.facts h.facts) (spans_field_back p.fresh h.spans) good

point_lacks : (p : Point) → IsPoint p → Lacks 10 (point_body p)
point_lacks p h =
    blank_no_feed (hex_word p.address) (with_blank (hex_word p.stretch) (with_blank (spent_text p.spent) (with_blank (facts_text p.facts) (spans_text p.fresh)))) (word_low p.address h.address) (blank_no_feed (hex_word p.stretch) _ (word_low p.stretch h.stretch) (blank_no_feed _ _ (spent_text_from p.spent h.spent)
    (blank_no_feed _ _ (facts_text_from p.facts h.facts) (no_feed _ (spans_text_from p.fresh h.spans)))))

-- ---- Rows

-- a kind's name and a row behind it
named : {A : Type 0} (t name : List ℕ) (r : List ℕ → Option A) (x : A) (body : List ℕ) → r [] ≡ None → bytes_eq (field t) name ≡ true → r (rest t) ≡ Some x → rest t ≡ body → t ≡ with_blank name body
named t name r x body none is some e = cut_some 32 t x r none some ∙ ap₂ with_blank (is_text (field t) name is) e

abbrev RowTold : List ℕ → Line → Type 0
RowTold t r = IsRow r × (t ≡ row_text r)

budget_row : (t : List ℕ) (r : Line) → bytes_eq (field t) (codes "budget") ≡ true → option_map budget (number_of (rest t)) ≡ Some r → RowTold t r
budget_row t r is e =
    let a = map_some (number_of (rest t)) budget r e in
    let n = number_told (rest t) a.0 a.1 in
    subst (RowTold t) a.2 (n.0, named t (codes "budget") number_of a.0 _ refl is a.1 n.1)

function_row : (t : List ℕ) (r : Line) → bytes_eq (field t) (codes "F") ≡ true → option_map function (function_in (rest t)) ≡ Some r → RowTold t r
function_row t r is e =
    let a = map_some (function_in (rest t)) function r e in
    let n = function_told (rest t) a.0 a.1 in
    subst (RowTold t) a.2 (n.0, named t (codes "F") function_in a.0 _ refl is a.1 n.1)

stretch_row : (t : List ℕ) (r : Line) → bytes_eq (field t) (codes "S") ≡ true → option_map stretch (stretch_in (rest t)) ≡ Some r → RowTold t r
stretch_row t r is e =
    let a = map_some (stretch_in (rest t)) stretch r e in
    let n = stretch_told (rest t) a.0 a.1 in
    subst (RowTold t) a.2 (n.0, named t (codes "S") stretch_in a.0 _ refl is a.1 n.1)

point_row : (t : List ℕ) (r : Line) → bytes_eq (field t) (codes "P") ≡ true → option_map point (point_in (rest t)) ≡ Some r → RowTold t r
point_row t r is e =
    let a = map_some (point_in (rest t)) point r e in
    let n = point_told (rest t) a.0 a.1 in
    subst (RowTold t) a.2 (n.0, named t (codes "P") point_in a.0 _ refl is a.1 n.1)

pub row_told : (t : List ℕ) (r : Line) → read_row t ≡ Some r → IsRow r × (t ≡ row_text r)
row_told t r e = elim (either (bytes_eq t (codes "end")) _ _ r e) [
  | inl a ↦ subst (RowTold t) (some_is end r a.1) (tt, is_text t (codes "end") a.0)
  | inr e1 ↦ elim (either (bytes_eq (field t) (codes "P")) _ _ r e1) [
    | inl a ↦ point_row t r a.0 a.1
    | inr e2 ↦ elim (either (bytes_eq (field t) (codes "S")) _ _ r e2) [
      | inl a ↦ stretch_row t r a.0 a.1
      | inr e3 ↦ elim (either (bytes_eq (field t) (codes "F")) _ _ r e3) [
        | inl a ↦ function_row t r a.0 a.1
        | inr e4 ↦ let i = if_none (bytes_eq (field t) (codes "budget")) _ r e4 in budget_row t r i.0 i.1
      ]
    ]
  ]
]

pub row_back : (r : Line) → IsRow r → read_row (row_text r) ≡ Some r
row_back (budget n) h = ap (option_map budget) (number_back n h)
row_back (function f) h = ap (option_map function) (function_back f h)
row_back (stretch s) h = ap (option_map stretch) (stretch_back s h)
row_back (point p) h = ap (option_map point) (point_back p h)
row_back end h = refl

pub row_lacks : (r : Line) → IsRow r → Lacks 10 (row_text r)
row_lacks (budget n) h = (refl, (refl, (refl, (refl, (refl, (refl, (refl, no_feed _ (number_low n h))))))))
row_lacks (function f) h = (refl, (refl, function_lacks f h))
row_lacks (stretch s) h = (refl, (refl, stretch_lacks s h))
row_lacks (point p) h = (refl, (refl, point_lacks p h))
row_lacks end h = (refl, (refl, (refl, tt)))
