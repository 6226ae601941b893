-- The rows of a certificate, without where they lie in the program's own memory.
use Rattle.std.specs.Prelude.{ℕ, List, map, Option}
use Rattle.std.specs.Prelude.{ℤ}
use Rattle.std.specs.Option.{option_map}
use Rattle.certificate.specs.declared.cert.FunctionRow.{FunctionRow}
use Rattle.certificate.specs.declared.cert.FlatPart.{FlatPart}
use Rattle.certificate.specs.declared.cert.StretchRow.{StretchRow}
use Rattle.certificate.specs.declared.cert.PointRow.{PointRow}
use Rattle.certificate.specs.declared.cert.Span.{Span}
use Rattle.certificate.specs.declared.cert.Affine.{Affine}
use Rattle.certificate.specs.declared.cert.Term.{Term}
use Rattle.certificate.specs.declared.cert.Fact.{Fact}

-- a function without heads: what it costs, and what it may write
pub record Flat : Type 0 where
  pub cost : ℕ
  pub writes : List Span

pub record Function : Type 0 where
  pub start : ℕ
  pub end : ℕ
  pub height : ℕ
  pub flat : Option Flat

-- base and terms: at most so much is spent
pub record Spent : Type 0 where
  pub base : ℤ
  pub terms : List Term

pub record Point : Type 0 where
  pub address : ℕ
  pub stretch : ℕ
  pub spent : Spent
  pub facts : List Fact
  pub fresh : List Span

pub record Certificate : Type 0 where
  pub budget : ℕ
  pub functions : List Function
  pub stretches : List StretchRow
  pub points : List Point

abbrev pub spent_of : Affine → Spent
spent_of a = record { base = a.base; terms = a.terms.items }

abbrev pub flat_of : FlatPart → Flat
flat_of f = record { cost = f.cost; writes = f.writes.items }

abbrev pub kind_of : Option FlatPart → Option Flat
kind_of flat = option_map flat_of flat

abbrev pub function_of : FunctionRow → Function
function_of f = record { start = f.start; end = f.end; height = f.height; flat = kind_of f.flat }

abbrev pub point_of : PointRow → Point
point_of p = record {
  address = p.address;
  stretch = p.stretch;
  spent = spent_of p.spent;
  facts = p.facts.items;
  fresh = p.fresh.items;
}

-- the certificate of a budget and rows
abbrev pub certificate_from : ℕ → List FunctionRow → List StretchRow → List PointRow → Certificate
certificate_from budget functions stretches points = record {
  budget = budget;
  functions = map function_of functions;
  stretches = stretches;
  points = map point_of points;
}
