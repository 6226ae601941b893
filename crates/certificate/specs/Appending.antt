-- Texts that are appended.
use Rattle.std.specs.Prelude.{ℕ, ◌≡◌, List, [], ◌∷◌, ◌++◌, None, Some, Result, Ok, Err}
use Rattle.certificate.specs.Line.{Line, budget, function, stretch, point, end}
use Rattle.certificate.specs.Rows as rows
use Rattle.certificate.specs.declared.cert.StretchRow.{StretchRow}
use Rattle.certificate.specs.declared.fault.CertText.{CertText}
use Rattle.certificate.specs.declared.fault.CertText.TheVariants as fault
use Rattle.certificate.specs.Reading.{Progress, fault_at_end}

-- The text was appended; where there was no memory, something may have been.
abbrev pub Appends : {T E : Type 0} → List ℕ → Result T E → List ℕ → List ℕ → Type 0
Appends text (Ok _) old new = new ≡ old ++ text
Appends text (Err _) old new = (more : List ℕ) × (new ≡ old ++ more)

-- parts, each behind a comma
abbrev pub more_parts : List (List ℕ) → List ℕ
more_parts [] = []
more_parts (p ∷ parts) = 44 ∷ (p ++ more_parts parts)

-- the rows of one kind among others
abbrev pub functions_in : List Line → List rows.Function
functions_in [] = []
functions_in (function f ∷ rest) = f ∷ functions_in rest
functions_in (budget n ∷ rest) = functions_in rest
functions_in (stretch s ∷ rest) = functions_in rest
functions_in (point p ∷ rest) = functions_in rest
functions_in (end ∷ rest) = functions_in rest

abbrev pub stretches_in : List Line → List StretchRow
stretches_in [] = []
stretches_in (stretch s ∷ rest) = s ∷ stretches_in rest
stretches_in (budget n ∷ rest) = stretches_in rest
stretches_in (function f ∷ rest) = stretches_in rest
stretches_in (point p ∷ rest) = stretches_in rest
stretches_in (end ∷ rest) = stretches_in rest

abbrev pub points_in : List Line → List rows.Point
points_in [] = []
points_in (point p ∷ rest) = p ∷ points_in rest
points_in (budget n ∷ rest) = points_in rest
points_in (function f ∷ rest) = points_in rest
points_in (stretch s ∷ rest) = points_in rest
points_in (end ∷ rest) = points_in rest

-- the last budget, or this number where there is none
abbrev pub budget_in : ℕ → List Line → ℕ
budget_in n [] = n
budget_in n (budget b ∷ rest) = budget_in b rest
budget_in n (function f ∷ rest) = budget_in n rest
budget_in n (stretch s ∷ rest) = budget_in n rest
budget_in n (point p ∷ rest) = budget_in n rest
budget_in n (end ∷ rest) = budget_in n rest

-- a row put behind those of its kind
abbrev pub with_row : rows.Certificate → Line → rows.Certificate
with_row c (budget n) = record { budget = n; functions = c.functions; stretches = c.stretches; points = c.points }
with_row c (function f) = record { budget = c.budget; functions = c.functions ++ f ∷ []; stretches = c.stretches; points = c.points }
with_row c (stretch s) = record { budget = c.budget; functions = c.functions; stretches = c.stretches ++ s ∷ []; points = c.points }
with_row c (point p) = record { budget = c.budget; functions = c.functions; stretches = c.stretches; points = c.points ++ p ∷ [] }
with_row c end = c

-- The rows of a text that has ended; or where it has its fault; or there was no memory.
abbrev pub RowsRead : {R : Type 0} → (R → List Line) → Result R CertText → (List Line × Progress) → Type 0
RowsRead rows (Ok given) wanted = (rows given ≡ wanted.0) × (fault_at_end wanted.1 ≡ None)
RowsRead rows (Err (fault.BadLine at)) wanted = fault_at_end wanted.1 ≡ Some at
RowsRead rows (Err fault.Memory) wanted = Unit {0}
