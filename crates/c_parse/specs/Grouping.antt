-- How operators group their operands (C11 6.5.5 to 6.5.14).
use Rattle.std.specs.Prelude.{◌≡◌, ℕ, List, [], ◌∷◌, ◌++◌, ◌+◌, ◌<◌, ◌≤◌, Option, None}
use Rattle.c_parse.specs.declared.class.Class.{Class}
use Rattle.c_parse.specs.declared.raw.Raw.{Raw}
use Rattle.c_parse.specs.declared.raw.Raw.TheVariants.{Node}
use Rattle.c_parse.specs.declared.raw.RawRule.TheVariants.{Binary}
use Rattle.c_parse.specs.Grammar.{Form, program, binary, Symbol, sub, weight, Nested, ahead, Derives, leaf, node, DeriveAll, none, more, IsText}
use Rattle.c_parse.specs.Precedence.{level_of, tree_of}

abbrev pub IsOperator : Raw → Type 0
IsOperator operator = level_of operator < 10

-- an operand, and then operators, each with an operand behind it
abbrev pub IsOperation : List Raw → Type 0
IsOperation [] = ⊥
IsOperation (operand ∷ []) = Unit {0}
IsOperation (operand ∷ operator ∷ rest) = IsOperator operator × IsOperation rest

-- An expression of a level, and its tree: one operand; or an operator that binds as the level does or more tightly, on its left an expression
-- of the operator's own level, and on its right one of the next level. So additive-expression: additive-expression + multiplicative-expression.
pub data Grouped : ℕ → List Raw → Raw → Type 0 where
  alone : (level : ℕ) (operand : Raw) → Grouped level (operand ∷ []) (Node Binary (operand ∷ []))
  between : (level : ℕ) (parts left right : List Raw) (operator a b : Raw)
      → level ≤ level_of operator → IsOperator operator → parts ≡ left ++ operator ∷ right
      → Grouped (level_of operator) left a → Grouped (level_of operator + 1) right b
      → Grouped level parts (Node Binary (a ∷ operator ∷ b ∷ []))

-- The parts of a binary expression, operands with operators between them, and their tree.
abbrev pub IsLevelled : Form → List Raw → Type 0
IsLevelled binary parts = Grouped 0 parts (tree_of parts)
IsLevelled _ parts = Unit {0}

-- In a derivation the operands of each binary expression are grouped by the levels of their operators.
abbrev mutual
  pub AreGrouped : (depth : ℕ) (symbol : Symbol) (raws : List Raw) (words : List Nested) (next : Option Class) → Derives depth symbol raws words next → Type 0
  AreGrouped _ _ _ _ _ (leaf depth class word next is lies) = Unit {0}
  AreGrouped _ _ _ _ _ (node depth form symbols parts raws words next one ok made all) = IsLevelled form parts × AllGrouped (depth + weight form) symbols parts words next all

  pub AllGrouped : (depth : ℕ) (symbols : List Symbol) (raws : List Raw) (words : List Nested) (next : Option Class) → DeriveAll depth symbols raws words next → Type 0
  AllGrouped _ _ _ _ _ (none depth next) = Unit {0}
  AllGrouped _ _ _ _ _ (more depth symbol symbols raws parts all front rest words next first others e1 e2) =
      AreGrouped depth symbol raws front (ahead rest next) first × AllGrouped depth symbols parts rest next others

abbrev pub IsGroupedText : (text : List Nested) (raw : Raw) → IsText text raw → Type 0
IsGroupedText text raw derives = AreGrouped 0 (sub program) (raw ∷ []) text None derives
