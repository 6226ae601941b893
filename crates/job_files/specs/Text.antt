-- Texts as lists of bytes, and the name of the output.
use Rattle.std.specs.Prelude.{ℕ, List, codes}

abbrev pub Text : Type 0
Text = List ℕ

-- the name of the output
abbrev pub output : Text
output = codes "-"
