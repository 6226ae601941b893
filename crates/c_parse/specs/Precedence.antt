-- The tree of operands with operators between them (C11 6.5.5 to 6.5.14): all of them associate to the left.
use Rattle.std.specs.Prelude.{ℕ, zero, suc, List, [], ◌∷◌, Bool, false, cond, codes, nat_lt, ◌||◌}
use Rattle.std.specs.Str.{bytes_eq}
use Rattle.c_parse.specs.declared.raw.Raw.{Raw, out-Raw}
use Rattle.c_parse.specs.declared.raw.Raw.TheVariants.{Node}
use Rattle.c_parse.specs.declared.raw.Raw.TheOpen.{Raw-F}
use Rattle.c_parse.specs.declared.raw.RawRule.TheVariants.{Binary}

abbrev pub among : List ℕ → List (List ℕ) → Bool
among text [] = false
among text (word ∷ words) = bytes_eq text word || among text words

-- operators by how tightly they bind, the loosest first
abbrev pub operator_rows : List (List (List ℕ))
operator_rows =
    (codes "||" ∷ []) ∷
    (codes "&&" ∷ []) ∷
    (codes "|" ∷ []) ∷
    (codes "^" ∷ []) ∷
    (codes "&" ∷ []) ∷
    (codes "==" ∷ codes "!=" ∷ []) ∷
    (codes "<" ∷ codes ">" ∷ codes "<=" ∷ codes ">=" ∷ []) ∷
    (codes "<<" ∷ codes ">>" ∷ []) ∷
    (codes "+" ∷ codes "-" ∷ []) ∷
    (codes "*" ∷ codes "/" ∷ codes "%" ∷ []) ∷ []

-- The number of the first row that has the text, or of rows where none has it.
abbrev pub row_of : List (List (List ℕ)) → List ℕ → ℕ
row_of [] text = zero
row_of (row ∷ rows) text = cond (among text row) zero (suc (row_of rows text))

abbrev pub text_of_layer : Raw-F Raw → List ℕ
text_of_layer (Raw-F.Leaf _ text _) = text
text_of_layer _ = []

abbrev pub text_of : Raw → List ℕ
text_of raw = text_of_layer (out-Raw raw)

-- How tightly an operator binds: 0 the loosest, 9 the tightest, and 10 what is no operator.
unfoldable pub level_of : Raw → ℕ
level_of operator = row_of operator_rows (text_of operator)

pub data Operands : Type 0 where
  operand : Raw → Operands
  joined : Operands → Raw → Operands → Operands

-- One more operator with its right operand: its left operand reaches back over the operators that bind as tightly or more.
abbrev pub join : Operands → Raw → Operands → Operands
join (operand a) operator b = joined (operand a) operator b
join (joined left first right) operator b =
    cond (nat_lt (level_of first) (level_of operator)) (joined left first (join right operator b)) (joined (joined left first right) operator b)

abbrev pub gather : Operands → List Raw → Operands
gather operands (operator ∷ b ∷ rest) = gather (join operands operator (operand b)) rest
gather operands _ = operands

abbrev pub raw_of : Operands → Raw
raw_of (operand a) = Node Binary (a ∷ [])
raw_of (joined left operator right) = Node Binary (raw_of left ∷ operator ∷ raw_of right ∷ [])

abbrev pub tree_of : List Raw → Raw
tree_of [] = Node Binary []
tree_of (first ∷ rest) = raw_of (gather (operand first) rest)
