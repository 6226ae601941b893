-- How the parser counts, token by token, the binary operators of the expression that is part of no other.
use Rattle.std.specs.Prelude.{ℕ, zero, suc, List, [], ◌∷◌, ◌+◌, ◌≤◌, take}
use Rattle.c_parse.specs.declared.class.Class.{Class}
use Rattle.c_parse.specs.declared.class.Class.TheVariants.{Name, Number, Plus, Minus, Star, Divide, Shift, Relation, Equality, Ampersand, Caret, Bar, AndAnd, BarBar, Complement, Question, Colon, Comma, Open, Close, OpenIndex, CloseIndex, Char, Sign, Short, Int, Fixed, If, While, For, Switch}
use Rattle.c_parse.specs.declared.tally.Last.{Last}
use Rattle.c_parse.specs.declared.tally.Last.TheVariants.{Operand, TypeWord, Head, Other}
use Rattle.c_parse.specs.declared.tally.Tally.{Tally}
use Rattle.c_parse.specs.Words.{Word}

-- No expression has begun.
abbrev pub outside : Last → Tally
outside last = record { brackets = 0; operators = 0; last = last }

abbrev pub behind : Last → Tally → Tally
behind last tally = record { brackets = tally.brackets; operators = tally.operators; last = last }

-- A sign is a binary operator where it stands behind an operand.
abbrev pub added : Last → ℕ → ℕ
added Operand operators = operators + 1
added _ operators = operators

abbrev pub operated : Tally → Tally
operated tally = record { brackets = tally.brackets; operators = added tally.last tally.operators; last = Other }

-- a bracket of an expression, or its ?
abbrev pub deeper : Tally → Tally
deeper tally = record { brackets = tally.brackets + 1; operators = tally.operators; last = Other }

-- The ( of a statement is no part of an expression.
abbrev pub opening : Last → Tally → Tally
opening Head tally = outside Other
opening _ tally = deeper tally

-- Behind a cast an operand begins, behind any other ) one ends.
abbrev pub closed : Last → Last
closed TypeWord = Other
closed _ = Operand

-- What ends the expression where no bracket is open in it.
abbrev pub closing : ℕ → Last → ℕ → Tally
closing zero last operators = outside Other
closing (suc brackets) last operators = record { brackets = brackets; operators = operators; last = last }

abbrev pub parting : ℕ → ℕ → Tally
parting zero operators = outside Other
parting (suc brackets) operators = record { brackets = suc brackets; operators = operators; last = Other }

-- Behind a token of this class; what stands in no expression ends it.
abbrev pub counted : Tally → Class → Tally
counted tally Name = behind Operand tally
counted tally Number = behind Operand tally
counted tally Plus = operated tally
counted tally Minus = operated tally
counted tally Star = operated tally
counted tally Divide = operated tally
counted tally Shift = operated tally
counted tally Relation = operated tally
counted tally Equality = operated tally
counted tally Ampersand = operated tally
counted tally Caret = operated tally
counted tally Bar = operated tally
counted tally AndAnd = operated tally
counted tally BarBar = operated tally
counted tally Complement = behind Other tally
counted tally Question = deeper tally
counted tally OpenIndex = deeper tally
counted tally Open = opening tally.last tally
counted tally Close = closing tally.brackets (closed tally.last) tally.operators
counted tally CloseIndex = closing tally.brackets Operand tally.operators
counted tally Colon = closing tally.brackets Other tally.operators
counted tally Comma = parting tally.brackets tally.operators
counted tally Char = behind TypeWord tally
counted tally Sign = behind TypeWord tally
counted tally Short = behind TypeWord tally
counted tally Int = behind TypeWord tally
counted tally Fixed = behind TypeWord tally
counted tally If = outside Head
counted tally While = outside Head
counted tally For = outside Head
counted tally Switch = outside Head
counted tally _ = outside Other

abbrev pub tally_of : Tally → List Word → Tally
tally_of tally [] = tally
tally_of tally (word ∷ words) = tally_of (counted tally word.class) words

-- How many binary operators the expression has that is being read behind these words and is part of no other.
abbrev pub operator_count : List Word → ℕ
operator_count words = (tally_of (outside Other) words).operators

-- Nowhere has such an expression more than 1,000.
pub record IsSparse (words : List Word) : Type 0 where
  pub few : (n : ℕ) → operator_count (take n words) ≤ 1000
