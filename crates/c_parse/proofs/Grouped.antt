-- The parts of a binary form are operands with operators between them, so their tree groups them by the levels of C.
use Rattle.std.proofs.Common.{◌≡◌, List, [], ◌∷◌, ◌++◌, ℕ, Option, Bool, true, ◌&&◌, refl, sym, ap, subst, ◌∙◌, ◌+◌, append-nil}
use Rattle.std.specs.Prelude.{All}
use Rattle.std.proofs.lemmas.List.Elements.{All-nil, All-cons, All-head, All-tail}
use Rattle.c_parse.specs.declared.class.Class.{Class}
use Rattle.c_parse.specs.declared.raw.Raw.{Raw}
use Rattle.c_parse.specs.declared.raw.Raw.TheVariants.{Node}
use Rattle.c_parse.specs.declared.raw.RawRule.TheVariants.{Unary as OfUnary}
use Rattle.c_parse.specs.Grammar.{Form, program, binary, operations, unary, Symbol, token, sub, alternatives, operators, operated, OneOf, here, there, make, weight, Nested, word_at, IsReal, ahead, Derives, leaf, node, DeriveAll, none, more, IsText}
use Rattle.c_parse.specs.Grouping.{IsOperator, IsOperation, IsLevelled, AreGrouped, AllGrouped, IsGroupedText}
use Rattle.c_parse.proofs.Truth.{both_left, both_right}
use Rattle.c_parse.proofs.Groups.{some_tree}
use Rattle.c_parse.proofs.Operators.{of_operator, operator_word}

-- one tree
record One (raws : List Raw) : Type 0 where
  tree : Raw
  is : raws ≡ tree ∷ []

record OneOperator (raws : List Raw) : Type 0 where
  operator : Raw
  is : raws ≡ operator ∷ []
  operates : IsOperator operator

-- What the trees of a symbol are.
abbrev Fact : Symbol → List Raw → Type 0
Fact (token class) raws = of_operator class ≡ true → OneOperator raws
Fact (sub unary) raws = One raws
Fact (sub operations) raws = (operand : Raw) → IsOperation (operand ∷ raws)
Fact (sub _) raws = Unit {0}

data Facts : List Symbol → List Raw → Type 0 where
  no_more : Facts [] []
  first_of : (symbol : Symbol) (symbols : List Symbol) (raws parts all : List Raw) → Fact symbol raws → Facts symbols parts → all ≡ raws ++ parts → Facts (symbol ∷ symbols) all

-- an operator's alternative
record Operated (symbols : List Symbol) : Type 0 where
  class : Class
  is : symbols ≡ token class ∷ sub unary ∷ sub operations ∷ []
  operates : of_operator class ≡ true

abbrev all_operate : List Class → Bool
all_operate [] = true
all_operate (class ∷ others) = of_operator class && all_operate others

operated_so : (list : List Class) (symbols : List Symbol) → all_operate list ≡ true → OneOf symbols (operated list) → Operated symbols
operated_so [] symbols e one_is = elim one_is [ ]
operated_so (class ∷ others) _ e (here _) = record { class = class; is = refl; operates = both_left (of_operator class) (all_operate others) e }
operated_so (class ∷ others) symbols e (there _ _ one_is) = operated_so others symbols (both_right (of_operator class) (all_operate others) e) one_is

operated_parts : (class : Class) (parts : List Raw) → of_operator class ≡ true → Facts (token class ∷ sub unary ∷ sub operations ∷ []) parts → (operand : Raw) → IsOperation (operand ∷ parts)
operated_parts class parts known (first_of _ _ raws1 parts1 _ f1 (first_of _ _ raws2 parts2 _ f2 (first_of _ _ raws3 _ _ f3 no_more e3) e2) e1) operand =
    let o : OneOperator raws1 = f1 known in
    let u : One raws2 = f2 in
    let third : parts2 ≡ raws3 = e3 ∙ append-nil raws3 in
    let second : parts1 ≡ u.tree ∷ raws3 = e2 ∙ ap (λ x. x ++ parts2) u.is ∙ ap (λ x. u.tree ∷ x) third in
    let whole : parts ≡ o.operator ∷ u.tree ∷ raws3 = e1 ∙ ap (λ x. x ++ parts1) o.is ∙ ap (λ x. o.operator ∷ x) second in
    let P : List Raw → Type 0 = λ x. IsOperation (operand ∷ x) in
    subst P (sym whole) (o.operates, f3 u.tree)

binary_parts : (parts : List Raw) → Facts (sub unary ∷ sub operations ∷ []) parts → IsOperation parts
binary_parts parts (first_of _ _ raws1 parts1 _ f1 (first_of _ _ raws2 _ _ f2 no_more e2) e1) =
    let u : One raws1 = f1 in
    let second : parts1 ≡ raws2 = e2 ∙ append-nil raws2 in
    let whole : parts ≡ u.tree ∷ raws2 = e1 ∙ ap (λ x. x ++ parts1) u.is ∙ ap (λ x. u.tree ∷ x) second in
    subst IsOperation (sym whole) (f2 u.tree)

none_parts : (parts : List Raw) → Facts [] parts → parts ≡ []
none_parts _ no_more = refl

operations_parts : (symbols : List Symbol) (parts : List Raw) → OneOf symbols (alternatives operations) → Facts symbols parts → (operand : Raw) → IsOperation (operand ∷ parts)
operations_parts _ parts (here _) f operand = let P : List Raw → Type 0 = λ x. IsOperation (operand ∷ x) in subst P (sym (none_parts parts f)) tt
operations_parts symbols parts (there _ _ one_is) f operand =
    let o : Operated symbols = operated_so operators symbols refl one_is in
    let P : List Symbol → Type 0 = λ s. Facts s parts in
    operated_parts o.class parts o.operates (subst P o.is f) operand

fact_by : (form : Form) (symbols : List Symbol) (parts raws : List Raw) → OneOf symbols (alternatives form) → raws ≡ make form parts → Facts symbols parts → Fact (sub form) raws
fact_by unary symbols parts raws one_is made f = record { tree = Node OfUnary parts; is = made }
fact_by operations symbols parts raws one_is made f = λ operand. let P : List Raw → Type 0 = λ x. IsOperation (operand ∷ x) in subst P (sym made) (operations_parts symbols parts one_is f operand)
fact_by _ symbols parts raws one_is made f = tt

real_front : (front rest : List Nested) → All IsReal (front ++ rest) → All IsReal front
real_front [] rest real = All-nil IsReal
real_front (n ∷ front) rest real = All-cons IsReal n front (All-head IsReal n (front ++ rest) real) (real_front front rest (All-tail IsReal n (front ++ rest) real))

real_rest : (front rest : List Nested) → All IsReal (front ++ rest) → All IsReal rest
real_rest [] rest real = real
real_rest (n ∷ front) rest real = real_rest front rest (All-tail IsReal n (front ++ rest) real)

mutual
  fact_of : (depth : ℕ) (symbol : Symbol) (raws : List Raw) (words : List Nested) (next : Option Class) → Derives depth symbol raws words next → All IsReal words → Fact symbol raws
  fact_of _ _ _ _ _ (leaf depth class word next is lies) real = λ known. record { operator = word.leaf; is = refl; operates = operator_word (word_at word) (All-head IsReal word [] real) (ap of_operator is ∙ known) }
  fact_of _ _ _ _ _ (node depth form symbols parts raws words next one_is ok made all) real = fact_by form symbols parts raws one_is made (facts_of (depth + weight form) symbols parts words next all real)

  facts_of : (depth : ℕ) (symbols : List Symbol) (raws : List Raw) (words : List Nested) (next : Option Class) → DeriveAll depth symbols raws words next → All IsReal words → Facts symbols raws
  facts_of _ _ _ _ _ (none depth next) real = no_more
  facts_of _ _ _ _ _ (more depth symbol symbols raws parts all front rest words next first others e1 e2) real =
      let both : All IsReal (front ++ rest) = subst (All IsReal) e2 real in
      first_of symbol symbols raws parts all (fact_of depth symbol raws front (ahead rest next) first (real_front front rest both)) (facts_of depth symbols parts rest next others (real_rest front rest both)) e1

level_so : (form : Form) (symbols : List Symbol) (parts : List Raw) → OneOf symbols (alternatives form) → Facts symbols parts → IsLevelled form parts
level_so binary _ parts (here _) f = some_tree parts (binary_parts parts f)
level_so binary symbols parts (there _ _ one_is) f = elim one_is [ ]
level_so _ symbols parts one_is f = tt

mutual
  grouped_so : (depth : ℕ) (symbol : Symbol) (raws : List Raw) (words : List Nested) (next : Option Class) (d : Derives depth symbol raws words next) → All IsReal words → AreGrouped depth symbol raws words next d
  grouped_so _ _ _ _ _ (leaf depth class word next is lies) real = tt
  grouped_so _ _ _ _ _ (node depth form symbols parts raws words next one_is ok made all) real =
      (level_so form symbols parts one_is (facts_of (depth + weight form) symbols parts words next all real), grouped_all (depth + weight form) symbols parts words next all real)

  grouped_all : (depth : ℕ) (symbols : List Symbol) (raws : List Raw) (words : List Nested) (next : Option Class) (d : DeriveAll depth symbols raws words next) → All IsReal words → AllGrouped depth symbols raws words next d
  grouped_all _ _ _ _ _ (none depth next) real = tt
  grouped_all _ _ _ _ _ (more depth symbol symbols raws parts all front rest words next first others e1 e2) real =
      let both : All IsReal (front ++ rest) = subst (All IsReal) e2 real in
      (grouped_so depth symbol raws front (ahead rest next) first (real_front front rest both), grouped_all depth symbols parts rest next others (real_rest front rest both))

pub grouped_text : (text : List Nested) (raw : Raw) (derives : IsText text raw) → All IsReal text → IsGroupedText text raw derives
grouped_text text raw derives real = grouped_so 0 (sub program) (raw ∷ []) text _ derives real
