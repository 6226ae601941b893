-- The text of a certificate. Each certificate has one text.
use Rattle.std.specs.Prelude.{ℕ, List, [], ◌∷◌, ◌++◌, flat_map, map, Option, Some, None, codes, if◌then◌else◌}
use Rattle.std.specs.Fmt.{decimal, signed_decimal}
use Rattle.std.specs.List.{join_with_byte}
use Rattle.base_io.specs.Digits.{hex_word}
use Rattle.certificate.specs.declared.cert.Span.{Span}
use Rattle.certificate.specs.declared.cert.Slot.{Slot}
use Rattle.certificate.specs.declared.cert.Slot.TheVariants.{Reg, Word}
use Rattle.certificate.specs.declared.cert.Term.{Term}
use Rattle.certificate.specs.declared.cert.Fact.{Fact}
use Rattle.certificate.specs.declared.cert.StretchRow.{StretchRow}
use Rattle.certificate.specs.Rows.{Flat, Function, Spent, Point, Certificate}
use Rattle.certificate.specs.Line.{Line, budget, function, stretch, point, end, rows_of}

-- ---- Parts of a field

-- parts, with a comma between each two; `-` where there is none
abbrev pub parts : List (List ℕ) → List ℕ
parts [] = 45 ∷ []
parts (p ∷ rest) = join_with_byte 44 (p ∷ rest)

-- LO-HI
abbrev pub span_text : Span → List ℕ
span_text s = hex_word s.lo ++ 45 ∷ hex_word s.hi

abbrev pub spans_text : List Span → List ℕ
spans_text spans = parts (map span_text spans)

-- R4 to R15, or an address
abbrev pub slot_text : Slot → List ℕ
slot_text (Reg r) = 82 ∷ decimal r
slot_text (Word a) = hex_word a

-- +C*W or -C*W
abbrev pub term_text : Term → List ℕ
term_text t = (if t.minus then 45 else 43) ∷ (decimal t.factor ++ 42 ∷ slot_text t.of)

abbrev pub spent_text : Spent → List ℕ
spent_text s = signed_decimal s.base ++ flat_map term_text s.terms

-- W=LO..HI, and `e` where the value is known even
abbrev pub fact_text : Fact → List ℕ
fact_text f = slot_text f.of ++ 61 ∷ (decimal f.least ++ 46 ∷ 46 ∷ (decimal f.greatest ++ (if f.even then 101 ∷ [] else [])))

abbrev pub facts_text : List Fact → List ℕ
facts_text facts = parts (map fact_text facts)

-- ---- Lines

-- fields with a blank between each two
abbrev pub fields : List (List ℕ) → List ℕ
fields f = join_with_byte 32 f

abbrev pub flat_text : Option Flat → List ℕ
flat_text None = codes "split"
flat_text (Some f) = fields (codes "flat" ∷ decimal f.cost ∷ spans_text f.writes ∷ [])

abbrev pub function_text : Function → List ℕ
function_text f = fields (codes "F" ∷ hex_word f.start ∷ hex_word f.end ∷ decimal f.height ∷ flat_text f.flat ∷ [])

abbrev pub stretch_text : StretchRow → List ℕ
stretch_text s = fields (codes "S" ∷ hex_word s.head ∷ decimal s.chain ∷ decimal s.turns ∷ decimal s.cost ∷ [])

abbrev pub point_text : Point → List ℕ
point_text p = fields (codes "P" ∷ hex_word p.address ∷ hex_word p.stretch ∷ spent_text p.spent ∷ facts_text p.facts ∷ spans_text p.fresh ∷ [])

abbrev pub row_text : Line → List ℕ
row_text (budget n) = fields (codes "budget" ∷ decimal n ∷ [])
row_text (function f) = function_text f
row_text (stretch s) = stretch_text s
row_text (point p) = point_text p
row_text end = codes "end"

abbrev pub first_line : List ℕ
first_line = codes "schematic-cert 1"

-- a line with its line feed
abbrev pub fed_line : List ℕ → List ℕ
fed_line line = line ++ 10 ∷ []

abbrev pub rows_text : List Line → List ℕ
rows_text rows = flat_map (λ row. fed_line (row_text row)) rows

-- the first line, and a line for each row
abbrev pub text_of : Certificate → List ℕ
text_of c = fed_line first_line ++ rows_text (rows_of c)
