-- That a certificate keeps the rules has one proof at most, so it may be a part of a type.
use Rattle.std.specs.Prelude.{ℕ, ◌+◌, List, [], ◌∷◌, Option, Some, None, ℤ, pos, negsuc}
use Rattle.std.specs.Coded.{Unit-prop, le_prop, ×_prop}
use mathlib.Core.Bool.{Bool-set}
use Rattle.certificate.specs.declared.cert.Span.{Span}
use Rattle.certificate.specs.declared.cert.Slot.{Slot}
use Rattle.certificate.specs.declared.cert.Slot.TheVariants.{Reg, Word}
use Rattle.certificate.specs.declared.cert.Term.{Term}
use Rattle.certificate.specs.declared.cert.Fact.{Fact}
use Rattle.certificate.specs.declared.cert.StretchRow.{StretchRow}
use Rattle.certificate.specs.Rows.{Flat, Function, Spent, Point, Certificate}
use Rattle.certificate.specs.Grammar.{IsBase, IsSpan, AreSpans, IsSlot, rank, AreTerms, AreFacts, IsSpent, IsPoint, IsFlat, IsFunction, IsStretch, AreFunctions, AreStretches, ArePoints, IsCertificate}

base_prop : (z : ℤ) → IsProp (IsBase z)
base_prop (pos n) = le_prop
base_prop (negsuc n) = le_prop

span_prop : (low : ℕ) (s : Span) → IsProp (IsSpan low s)
span_prop low s x y = λ i. (le_prop x.0 y.0 i, le_prop x.1 y.1 i, le_prop x.2 y.2 i, Bool-set _ _ x.3 y.3 i, Bool-set _ _ x.4 y.4 i)

spans_prop : (low : ℕ) (spans : List Span) → IsProp (AreSpans low spans)
spans_prop low [] = Unit-prop
spans_prop low (s ∷ spans) = ×_prop (span_prop low s) (spans_prop (s.hi + 2) spans)

slot_prop : (x : Slot) → IsProp (IsSlot x)
slot_prop (Reg r) = ×_prop le_prop le_prop
slot_prop (Word a) = ×_prop (Bool-set _ _) (Bool-set _ _)

terms_prop : (low : ℕ) (terms : List Term) → IsProp (AreTerms low terms)
terms_prop low [] = Unit-prop
terms_prop low (t ∷ terms) = λ x y. λ i. ((le_prop x.0.0 y.0.0 i, slot_prop t.of x.0.1 y.0.1 i, le_prop x.0.2 y.0.2 i), terms_prop (rank t.of + 1) terms x.1 y.1 i)

facts_prop : (low : ℕ) (facts : List Fact) → IsProp (AreFacts low facts)
facts_prop low [] = Unit-prop
facts_prop low (f ∷ facts) = λ x y. λ i.
    ((le_prop x.0.0 y.0.0 i, slot_prop f.of x.0.1 y.0.1 i, le_prop x.0.2 y.0.2 i, le_prop x.0.3 y.0.3 i), facts_prop (rank f.of + 1) facts x.1 y.1 i)

spent_prop : (s : Spent) → IsProp (IsSpent s)
spent_prop s x y = λ i. (base_prop s.base x.0 y.0 i, le_prop x.1 y.1 i, terms_prop 0 s.terms x.2 y.2 i)

point_prop : (p : Point) → IsProp (IsPoint p)
point_prop p x y = λ i. record {
  address = le_prop x.address y.address i;
  stretch = le_prop x.stretch y.stretch i;
  spent = spent_prop p.spent x.spent y.spent i;
  facts = facts_prop 0 p.facts x.facts y.facts i;
  spans = spans_prop 0 p.fresh x.spans y.spans i;
  together = Bool-set _ _ x.together y.together i;
}

flat_prop : (f : Option Flat) → IsProp (IsFlat f)
flat_prop None = Unit-prop
flat_prop (Some f) = ×_prop le_prop (spans_prop 0 f.writes)

function_prop : (f : Function) → IsProp (IsFunction f)
function_prop f x y = λ i. (le_prop x.0 y.0 i, le_prop x.1 y.1 i, le_prop x.2 y.2 i, flat_prop f.flat x.3 y.3 i)

stretch_prop : (s : StretchRow) → IsProp (IsStretch s)
stretch_prop s x y = λ i. (le_prop x.0 y.0 i, le_prop x.1 y.1 i, le_prop x.2 y.2 i, le_prop x.3 y.3 i)

functions_prop : (low : ℕ) (functions : List Function) → IsProp (AreFunctions low functions)
functions_prop low [] = Unit-prop
functions_prop low (f ∷ functions) = λ x y. λ i. (le_prop x.0 y.0 i, function_prop f x.1 y.1 i, functions_prop (f.start + 1) functions x.2 y.2 i)

stretches_prop : (low : ℕ) (stretches : List StretchRow) → IsProp (AreStretches low stretches)
stretches_prop low [] = Unit-prop
stretches_prop low (s ∷ stretches) = λ x y. λ i. (le_prop x.0 y.0 i, stretch_prop s x.1 y.1 i, stretches_prop (s.head + 1) stretches x.2 y.2 i)

points_prop : (low : ℕ) (points : List Point) → IsProp (ArePoints low points)
points_prop low [] = Unit-prop
points_prop low (p ∷ points) = λ x y. λ i. (le_prop x.0 y.0 i, point_prop p x.1 y.1 i, points_prop (p.address + 1) points x.2 y.2 i)

pub certificate_prop : (c : Certificate) → IsProp (IsCertificate c)
certificate_prop c x y = λ i. record {
  budget = le_prop x.budget y.budget i;
  some = le_prop x.some y.some i;
  functions = functions_prop 0 c.functions x.functions y.functions i;
  stretches = stretches_prop 0 c.stretches x.stretches y.stretches i;
  points = points_prop 0 c.points x.points y.points i;
}
