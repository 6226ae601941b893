-- Which rows and which certificates there are.
use Rattle.std.specs.Prelude.{ℕ, ◌≡◌, ◌+◌, ◌%◌, ◌==◌, ◌<◌, ◌≤◌, nat_le, Bool, true, ◌&&◌, ◌||◌, not, List, [], ◌∷◌, length, Option, Some, None, ℤ, pos, negsuc}
use Rattle.std.specs.List.{list_all, list_any}
use Rattle.certificate.specs.declared.cert.Span.{Span}
use Rattle.certificate.specs.declared.cert.Slot.{Slot}
use Rattle.certificate.specs.declared.cert.Slot.TheVariants.{Reg, Word}
use Rattle.certificate.specs.declared.cert.Term.{Term}
use Rattle.certificate.specs.declared.cert.Fact.{Fact}
use Rattle.certificate.specs.declared.cert.StretchRow.{StretchRow}
use Rattle.certificate.specs.Rows.{Flat, Function, Spent, Point, Certificate}
use Rattle.certificate.specs.Line.{Line, budget, function, stretch, point, end}

-- numbers are below 2^63
abbrev pub IsNumber : ℕ → Type 0
IsNumber n = n < 9223372036854775808

-- a number, or one that isn't 0 with a minus
abbrev pub IsBase : ℤ → Type 0
IsBase (pos n) = IsNumber n
IsBase (negsuc n) = IsNumber (n + 1)

-- Spans of words from an address on: even ends, ascending, apart or touching.
abbrev pub IsSpan : ℕ → Span → Type 0
IsSpan low s = (low ≤ s.lo) × (s.lo ≤ s.hi) × (s.hi < 65536) × ((s.lo % 2 == 0) ≡ true) × ((s.hi % 2 == 0) ≡ true)

abbrev pub AreSpans : ℕ → List Span → Type 0
AreSpans low [] = Unit {0}
AreSpans low (s ∷ spans) = IsSpan low s × AreSpans (s.hi + 2) spans

abbrev pub is_sram : ℕ → Bool
is_sram a = nat_le 0x1C00 a && nat_le a 0x23FF

abbrev pub is_data : ℕ → Bool
is_data a = nat_le 0x4400 a && nat_le a 0x7EFF

-- R4 to R15, or a word of SRAM or data
abbrev pub IsSlot : Slot → Type 0
IsSlot (Reg r) = (4 ≤ r) × (r ≤ 15)
IsSlot (Word a) = ((is_sram a || is_data a) ≡ true) × ((a % 2 == 0) ≡ true)

-- registers come first
abbrev pub rank : Slot → ℕ
rank (Reg r) = r
rank (Word a) = 16 + a

-- each slot of terms, and of facts, stands behind those of lower rank
abbrev pub IsTerm : ℕ → Term → Type 0
IsTerm low t = (low ≤ rank t.of) × IsSlot t.of × IsNumber t.factor

abbrev pub AreTerms : ℕ → List Term → Type 0
AreTerms low [] = Unit {0}
AreTerms low (t ∷ terms) = IsTerm low t × AreTerms (rank t.of + 1) terms

abbrev pub IsFact : ℕ → Fact → Type 0
IsFact low f = (low ≤ rank f.of) × IsSlot f.of × (f.least ≤ f.greatest) × (f.greatest ≤ 65535)

abbrev pub AreFacts : ℕ → List Fact → Type 0
AreFacts low [] = Unit {0}
AreFacts low (f ∷ facts) = IsFact low f × AreFacts (rank f.of + 1) facts

-- each slot of a term has its fact
abbrev pub same_slot : Slot → Slot → Bool
same_slot a b = rank a == rank b

abbrev pub has_fact : List Fact → Slot → Bool
has_fact facts x = list_any (λ f. same_slot f.of x) facts

abbrev pub all_have_facts : List Fact → List Term → Bool
all_have_facts facts terms = list_all (λ t. has_fact facts t.of) terms

-- a word of SRAM that a fact speaks of is fresh
abbrev pub lies_in : List Span → ℕ → Bool
lies_in spans a = list_any (λ s. nat_le s.lo a && nat_le a s.hi) spans

abbrev pub is_fresh_slot : List Span → Slot → Bool
is_fresh_slot spans (Reg r) = true
is_fresh_slot spans (Word a) = not (is_sram a) || lies_in spans a

abbrev pub all_fresh : List Span → List Fact → Bool
all_fresh spans facts = list_all (λ f. is_fresh_slot spans f.of) facts

-- a base, and at most 80 terms
abbrev pub IsSpent : Spent → Type 0
IsSpent s = IsBase s.base × (length s.terms ≤ 80) × AreTerms 0 s.terms

pub record IsPoint (p : Point) : Type 0 where
  pub address : p.address < 65536
  pub stretch : p.stretch < 65536
  pub spent : IsSpent p.spent
  pub facts : AreFacts 0 p.facts
  pub spans : AreSpans 0 p.fresh
  -- with a fact for each slot of a term, and each word of SRAM that a fact speaks of fresh
  pub together : (all_have_facts p.facts p.spent.terms && all_fresh p.fresh p.facts) ≡ true

abbrev pub IsFlat : Option Flat → Type 0
IsFlat None = Unit {0}
IsFlat (Some f) = IsNumber f.cost × AreSpans 0 f.writes

abbrev pub IsFunction : Function → Type 0
IsFunction f = (f.start < 65536) × (f.end < 65536) × IsNumber f.height × IsFlat f.flat

abbrev pub IsStretch : StretchRow → Type 0
IsStretch s = (s.head < 65536) × IsNumber s.chain × IsNumber s.turns × IsNumber s.cost

-- the row stands in the grammar
abbrev pub IsRow : Line → Type 0
IsRow (budget n) = IsNumber n
IsRow (function f) = IsFunction f
IsRow (stretch s) = IsStretch s
IsRow (point p) = IsPoint p
IsRow end = Unit {0}

-- functions, stretches and points each rise strictly
abbrev pub AreFunctions : ℕ → List Function → Type 0
AreFunctions low [] = Unit {0}
AreFunctions low (f ∷ functions) = (low ≤ f.start) × IsFunction f × AreFunctions (f.start + 1) functions

abbrev pub AreStretches : ℕ → List StretchRow → Type 0
AreStretches low [] = Unit {0}
AreStretches low (s ∷ stretches) = (low ≤ s.head) × IsStretch s × AreStretches (s.head + 1) stretches

abbrev pub ArePoints : ℕ → List Point → Type 0
ArePoints low [] = Unit {0}
ArePoints low (p ∷ points) = (low ≤ p.address) × IsPoint p × ArePoints (p.address + 1) points

pub record IsCertificate (c : Certificate) : Type 0 where
  pub budget : IsNumber c.budget
  pub some : 1 ≤ length c.functions
  pub functions : AreFunctions 0 c.functions
  pub stretches : AreStretches 0 c.stretches
  pub points : ArePoints 0 c.points
