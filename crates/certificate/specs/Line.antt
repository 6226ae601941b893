-- The rows of a certificate as its lines have them.
use Rattle.std.specs.Prelude.{ℕ, List, [], ◌∷◌, ◌++◌, map}
use Rattle.certificate.specs.declared.cert.StretchRow.{StretchRow}
use Rattle.certificate.specs.Rows as rows
use Rattle.certificate.specs.Rows.{Certificate}

-- what a line behind the first one says
pub data Line : Type 0 where
  budget : ℕ → Line
  function : rows.Function → Line
  stretch : StretchRow → Line
  point : rows.Point → Line
  end : Line

-- the rows in their order: the budget, all functions, all stretches, all points, and the end
abbrev pub rows_of : Certificate → List Line
rows_of c = budget c.budget ∷ (map function c.functions ++ (map stretch c.stretches ++ (map point c.points ++ end ∷ [])))
