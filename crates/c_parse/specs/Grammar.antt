-- The grammar of the C profile: for each form its alternatives, and the trees that they give.
use Rattle.std.specs.Prelude.{◌≡◌, ℕ, List, [], ◌∷◌, ◌++◌, Option, Some, None, Bool, true, false, not, length, map, take, slice_index, ◌<◌, ◌≤◌, ◌+◌, All}
use Rattle.c_parse.specs.declared.class.Class.{Class}
use Rattle.c_parse.specs.declared.class.Class.TheVariants.{Name, Number, Plus, Minus, Star, Divide, Shift, Relation, Equality, Ampersand, Caret, Bar, AndAnd, BarBar, Complement, Question, Colon, Semicolon, Comma, Open, Close, OpenIndex, CloseIndex, OpenBrace, CloseBrace, Equals, Compound, Increment, Static, Const, Void, Char, Sign, Short, Int, Fixed, Break, Continue, Return, If, Else, While, Do, For, Switch, Case, Default}
use Rattle.c_parse.specs.declared.raw.RawRule.{RawRule}
use Rattle.c_parse.specs.declared.raw.RawRule.TheVariants.{Program as OfProgram, External as OfExternal, Params as OfParams, Param as OfParam, Declarator as OfDeclarator, Block as OfBlock, Item as OfItem, Declaration as OfDeclaration, Statement as OfStatement, Group as OfGroup, Label as OfLabel, Action as OfAction, Target as OfTarget, Assign as OfAssign, Expr as OfExpr, Unary as OfUnary, Primary as OfPrimary, TypeName as OfTypeName}
use Rattle.c_parse.specs.declared.raw.Raw.{Raw}
use Rattle.c_parse.specs.declared.raw.Raw.TheVariants.{Node}
use Rattle.c_parse.specs.Endings.{ends_in_jump, have_names}
use Rattle.c_parse.specs.Precedence.{tree_of}
pub use Rattle.c_parse.specs.Words.{Word, Genuine}
pub use Rattle.c_parse.specs.declared.form.Within.{Within}
pub use Rattle.c_parse.specs.declared.form.Within.TheVariants.{Body as in_body, Switch as in_switch, Loop as in_loop}
pub use Rattle.c_parse.specs.declared.form.Form.{Form}
pub use Rattle.c_parse.specs.declared.form.Form.TheVariants.{Program as program, Externals as externals, External as external, Unstatic as unstatic, Titled as titled, Signature as signature, Ending as ending, Params as params, ParamList as param_list, MoreParams as more_params, Param as param, ParamName as param_name, Declarators as declarators, MoreDeclarators as more_declarators, Declarator as declarator, Initial as initial, ListInitial as list_initial, MoreValues as more_values, NextValue as next_value, Block as block, Items as items, Item as item, Declaration as declaration, Statement as statement, ElsePart as else_part, Returned as returned, ForFirst as for_first, Tested as tested, Stepped as stepped, Groups as groups, Group as group, Labelled as labelled, Label as label, Action as action, Target as target, Subscript as subscript, Subscripted as subscripted, Assign as assign, Expr as expr, Choice as choice, Chosen as chosen, Binary as binary, Operations as operations, Unary as unary, Operand as operand, CastType as cast_type, Primary as primary, Grouped as grouped, Passed as passed, Arguments as arguments, MoreArguments as more_arguments, TypeName as type_name, AfterChar as after_char, AfterSign as after_sign, AfterShort as after_short, AfterInt as after_int, AfterSignShort as after_sign_short, AfterSignInt as after_sign_int, AfterShortInt as after_short_int}
pub use Rattle.c_parse.specs.declared.form.Symbol.{Symbol}
pub use Rattle.c_parse.specs.declared.form.Symbol.TheVariants.{Token as token, Sub as sub}

-- The parts of a form that has no rule stand among the parts of the form round it; it is held where the parser has to know where it ends.
pub data Shape : Type 0 where
  spliced : Shape
  held : Shape
  noded : RawRule → Shape
  levelled : Shape

abbrev pub shape_of : Form → Shape
shape_of program = noded OfProgram
shape_of external = noded OfExternal
shape_of (params _) = noded OfParams
shape_of param = noded OfParam
shape_of declarator = noded OfDeclarator
shape_of (block _) = noded OfBlock
shape_of (item _) = noded OfItem
shape_of declaration = noded OfDeclaration
shape_of (statement _) = noded OfStatement
shape_of (group _ _) = noded OfGroup
shape_of label = noded OfLabel
shape_of action = noded OfAction
shape_of target = noded OfTarget
shape_of assign = noded OfAssign
shape_of expr = noded OfExpr
shape_of binary = levelled
shape_of unary = noded OfUnary
shape_of primary = noded OfPrimary
shape_of type_name = noded OfTypeName
shape_of operand = held
shape_of grouped = held
shape_of subscripted = held
shape_of passed = held
shape_of cast_type = held
shape_of chosen = held
shape_of _ = spliced

-- What parts of this shape stand for.
abbrev pub shaped : Shape → List Raw → List Raw
shaped spliced parts = parts
shaped held parts = parts
shaped (noded r) parts = Node r parts ∷ []
shaped levelled parts = tree_of parts ∷ []

abbrev pub make : Form → List Raw → List Raw
make form parts = shaped (shape_of form) parts

-- where the body of a switch stands
abbrev pub switched : Within → Within
switched in_body = in_switch
switched within = within

-- break stands in a loop or a switch, continue in a loop
abbrev pub jumps : Within → List (List Symbol)
jumps in_body = []
jumps in_switch = (token Break ∷ token Semicolon ∷ []) ∷ []
jumps in_loop = (token Break ∷ token Semicolon ∷ []) ∷ (token Continue ∷ token Semicolon ∷ []) ∷ []

-- a definition's parameters have names
abbrev pub bodies : Bool → List (List Symbol)
bodies true = (sub (block in_body) ∷ []) ∷ []
bodies false = []

-- behind a group that ends in no jump stands no other
abbrev pub more_groups : Within → Bool → List (List Symbol)
more_groups within true = (sub (group within true) ∷ sub (groups within true) ∷ []) ∷ (sub (group within false) ∷ sub (groups within false) ∷ []) ∷ []
more_groups within false = []

-- Operators between operands; precedence is in their tree.
abbrev pub operators : List Class
operators = Star ∷ Divide ∷ Plus ∷ Minus ∷ Shift ∷ Relation ∷ Equality ∷ Ampersand ∷ Caret ∷ Bar ∷ AndAnd ∷ BarBar ∷ []

abbrev pub operated : List Class → List (List Symbol)
operated [] = []
operated (operator ∷ others) = (token operator ∷ sub unary ∷ sub operations ∷ []) ∷ operated others

-- The alternatives of a form, one in a line.
abbrev pub alternatives : Form → List (List Symbol)
alternatives program =
    (sub externals ∷ []) ∷ []
alternatives externals =
    [] ∷
    (sub external ∷ sub externals ∷ []) ∷ []
alternatives external =
    (token Static ∷ sub unstatic ∷ []) ∷
    (sub unstatic ∷ []) ∷ []
alternatives unstatic =
    (token Const ∷ sub type_name ∷ sub declarators ∷ token Semicolon ∷ []) ∷
    (token Void ∷ token Name ∷ token Open ∷ sub signature ∷ []) ∷
    (sub type_name ∷ sub titled ∷ []) ∷ []
alternatives titled =
    (token Name ∷ token Open ∷ sub signature ∷ []) ∷
    (sub declarators ∷ token Semicolon ∷ []) ∷ []
alternatives signature =
    (sub (params true) ∷ token Close ∷ sub (ending true) ∷ []) ∷
    (sub (params false) ∷ token Close ∷ sub (ending false) ∷ []) ∷ []
alternatives (ending named) =
    (token Semicolon ∷ []) ∷ bodies named
alternatives (params named) =
    (sub param_list ∷ []) ∷ []
alternatives param_list =
    [] ∷
    (token Void ∷ []) ∷
    (sub param ∷ sub more_params ∷ []) ∷ []
alternatives more_params =
    [] ∷
    (token Comma ∷ sub param ∷ sub more_params ∷ []) ∷ []
alternatives param =
    (token Const ∷ sub type_name ∷ sub param_name ∷ []) ∷
    (sub type_name ∷ sub param_name ∷ []) ∷ []
alternatives param_name =
    [] ∷
    (token Name ∷ []) ∷ []
alternatives declarators =
    (sub declarator ∷ sub more_declarators ∷ []) ∷ []
alternatives more_declarators =
    [] ∷
    (token Comma ∷ sub declarator ∷ sub more_declarators ∷ []) ∷ []
alternatives declarator =
    (token Name ∷ sub initial ∷ []) ∷ []
alternatives initial =
    [] ∷
    (token Equals ∷ sub expr ∷ []) ∷
    (token OpenIndex ∷ sub expr ∷ token CloseIndex ∷ sub list_initial ∷ []) ∷ []
alternatives list_initial =
    [] ∷
    (token Equals ∷ token OpenBrace ∷ sub expr ∷ sub more_values ∷ token CloseBrace ∷ []) ∷ []
alternatives more_values =
    [] ∷
    (token Comma ∷ sub next_value ∷ []) ∷ []
alternatives next_value =
    [] ∷
    (sub expr ∷ sub more_values ∷ []) ∷ []
alternatives (block within) =
    (token OpenBrace ∷ sub (items within) ∷ token CloseBrace ∷ []) ∷ []
alternatives (items within) =
    [] ∷
    (sub (item within) ∷ sub (items within) ∷ []) ∷ []
alternatives (item within) =
    (sub declaration ∷ []) ∷
    (sub (statement within) ∷ []) ∷ []
alternatives declaration =
    (token Const ∷ sub type_name ∷ sub declarators ∷ token Semicolon ∷ []) ∷
    (sub type_name ∷ sub declarators ∷ token Semicolon ∷ []) ∷ []
alternatives (statement within) =
    (sub (block within) ∷ []) ∷
    (token Semicolon ∷ []) ∷
    (sub action ∷ token Semicolon ∷ []) ∷
    (token Return ∷ sub returned ∷ token Semicolon ∷ []) ∷
    (token If ∷ token Open ∷ sub expr ∷ token Close ∷ sub (statement within) ∷ sub (else_part within) ∷ []) ∷
    (token While ∷ token Open ∷ sub expr ∷ token Close ∷ sub (statement in_loop) ∷ []) ∷
    (token Do ∷ sub (statement in_loop) ∷ token While ∷ token Open ∷ sub expr ∷ token Close ∷ token Semicolon ∷ []) ∷
    (token For ∷ token Open ∷ sub for_first ∷ sub tested ∷ token Semicolon ∷ sub stepped ∷ token Close ∷ sub (statement in_loop) ∷ []) ∷
    (token Switch ∷ token Open ∷ sub expr ∷ token Close ∷ token OpenBrace ∷ sub (groups (switched within) true) ∷ token CloseBrace ∷ []) ∷
    jumps within
alternatives (else_part within) =
    [] ∷
    (token Else ∷ sub (statement within) ∷ []) ∷ []
alternatives returned =
    [] ∷
    (sub expr ∷ []) ∷ []
alternatives for_first =
    (sub declaration ∷ []) ∷
    (sub action ∷ token Semicolon ∷ []) ∷
    (token Semicolon ∷ []) ∷ []
alternatives tested =
    [] ∷
    (sub expr ∷ []) ∷ []
alternatives stepped =
    [] ∷
    (sub action ∷ []) ∷ []
alternatives (groups within ended) =
    [] ∷ more_groups within ended
alternatives (group within ended) =
    (sub label ∷ sub (labelled within) ∷ []) ∷ []
alternatives (labelled within) =
    [] ∷
    (sub label ∷ sub (labelled within) ∷ []) ∷
    (sub (item within) ∷ sub (items within) ∷ []) ∷ []
alternatives label =
    (token Case ∷ sub expr ∷ token Colon ∷ []) ∷
    (token Default ∷ token Colon ∷ []) ∷ []
alternatives action =
    (sub target ∷ sub assign ∷ sub expr ∷ []) ∷
    (sub target ∷ token Increment ∷ []) ∷
    (token Increment ∷ sub target ∷ []) ∷
    (sub expr ∷ []) ∷ []
alternatives target =
    (token Name ∷ sub subscript ∷ []) ∷ []
alternatives subscript =
    [] ∷
    (token OpenIndex ∷ sub subscripted ∷ []) ∷ []
alternatives subscripted =
    (sub expr ∷ token CloseIndex ∷ []) ∷ []
alternatives assign =
    (token Equals ∷ []) ∷
    (token Compound ∷ []) ∷ []
alternatives expr =
    (sub binary ∷ sub choice ∷ []) ∷ []
alternatives choice =
    [] ∷
    (token Question ∷ sub chosen ∷ []) ∷ []
alternatives chosen =
    (sub expr ∷ token Colon ∷ sub expr ∷ []) ∷ []
alternatives binary =
    (sub unary ∷ sub operations ∷ []) ∷ []
alternatives operations =
    [] ∷ operated operators
alternatives unary =
    (token Plus ∷ sub operand ∷ []) ∷
    (token Minus ∷ sub operand ∷ []) ∷
    (token Complement ∷ sub operand ∷ []) ∷
    (token Open ∷ sub cast_type ∷ sub operand ∷ []) ∷
    (sub primary ∷ []) ∷ []
alternatives operand =
    (sub unary ∷ []) ∷ []
alternatives cast_type =
    (sub type_name ∷ token Close ∷ []) ∷ []
alternatives primary =
    (token Number ∷ []) ∷
    (token Name ∷ sub subscript ∷ []) ∷
    (token Name ∷ token Open ∷ sub passed ∷ []) ∷
    (token Open ∷ sub grouped ∷ []) ∷ []
alternatives grouped =
    (sub expr ∷ token Close ∷ []) ∷ []
alternatives passed =
    (sub arguments ∷ token Close ∷ []) ∷ []
alternatives arguments =
    [] ∷
    (sub expr ∷ sub more_arguments ∷ []) ∷ []
alternatives more_arguments =
    [] ∷
    (token Comma ∷ sub expr ∷ sub more_arguments ∷ []) ∷ []
alternatives type_name =
    (token Fixed ∷ []) ∷
    (token Char ∷ sub after_char ∷ []) ∷
    (token Sign ∷ sub after_sign ∷ []) ∷
    (token Short ∷ sub after_short ∷ []) ∷
    (token Int ∷ sub after_int ∷ []) ∷ []
-- The words of one type stand in any order.
alternatives after_char =
    [] ∷
    (token Sign ∷ []) ∷ []
alternatives after_sign =
    [] ∷
    (token Char ∷ []) ∷
    (token Short ∷ sub after_sign_short ∷ []) ∷
    (token Int ∷ sub after_sign_int ∷ []) ∷ []
alternatives after_short =
    [] ∷
    (token Sign ∷ sub after_sign_short ∷ []) ∷
    (token Int ∷ sub after_short_int ∷ []) ∷ []
alternatives after_int =
    [] ∷
    (token Sign ∷ sub after_sign_int ∷ []) ∷
    (token Short ∷ sub after_short_int ∷ []) ∷ []
alternatives after_sign_short =
    [] ∷
    (token Int ∷ []) ∷ []
alternatives after_sign_int =
    [] ∷
    (token Short ∷ []) ∷ []
alternatives after_short_int =
    [] ∷
    (token Sign ∷ []) ∷ []

-- The symbols are one of these alternatives.
pub data OneOf (symbols : List Symbol) : List (List Symbol) → Type 0 where
  here : (others : List (List Symbol)) → OneOf symbols (symbols ∷ others)
  there : (other : List Symbol) (others : List (List Symbol)) → OneOf symbols others → OneOf symbols (other ∷ others)

abbrev pub is_else : Option Class → Bool
is_else (Some Else) = true
is_else _ = false

abbrev pub is_label : Option Class → Bool
is_label (Some Case) = true
is_label (Some Default) = true
is_label _ = false

abbrev pub same_answer : Bool → Bool → Bool
same_answer true told = told
same_answer false told = not told

abbrev pub allows_else : List Symbol → Option Class → Bool
allows_else [] next = not (is_else next)
allows_else _ next = true

abbrev pub allows_labels : List Symbol → Option Class → Bool
allows_labels [] next = not (is_label next)
allows_labels _ next = true

-- What is asked of an alternative besides its symbols: an else goes with the nearest if, so an if without else stands only where no else
-- comes next; a label behind a label is of the same group, so nothing stands behind a label only where no label comes next; groups that end in a jump and those that don't, and parameters that all have names and those that don't, are told apart.
abbrev pub allows : Form → List Symbol → List Raw → Option Class → Bool
allows (else_part _) symbols parts next = allows_else symbols next
allows (labelled _) symbols parts next = allows_labels symbols next
allows (group _ ended) symbols parts next = same_answer ended (ends_in_jump parts)
allows (params named) symbols parts next = same_answer named (have_names parts)
allows _ symbols parts next = true

-- How much deeper the tokens of such a part are nested than the part itself: by one in a statement, in what a unary operator or a cast is applied
-- to, and between a (, [ or ? of an expression and its end.
abbrev pub weight : Form → ℕ
weight (statement _) = 1
weight operand = 1
weight grouped = 1
weight subscripted = 1
weight passed = 1
weight cast_type = 1
weight chosen = 1
weight _ = 0

-- A token in a text, with its level there: how deep it is nested.
pub record Nested : Type 0 where
  pub class : Class
  pub leaf : Raw
  pub level : ℕ

-- the class of the token that stands in front of these, behind which comes next
abbrev pub ahead : List Nested → Option Class → Option Class
ahead [] next = next
ahead (word ∷ _) next = Some word.class

-- The tokens derive the trees from the symbol, which stands this deep, where a token of this class comes next.
mutual
  pub data Derives : ℕ → Symbol → List Raw → List Nested → Option Class → Type 0 where
    leaf : (depth : ℕ) (class : Class) (word : Nested) (next : Option Class) → word.class ≡ class → word.level ≡ depth → Derives depth (token class) (word.leaf ∷ []) (word ∷ []) next
    node : (depth : ℕ) (form : Form) (symbols : List Symbol) (parts raws : List Raw) (words : List Nested) (next : Option Class)
        → OneOf symbols (alternatives form) → allows form symbols parts next ≡ true → raws ≡ make form parts
        → DeriveAll (depth + weight form) symbols parts words next → Derives depth (sub form) raws words next

  pub data DeriveAll : ℕ → List Symbol → List Raw → List Nested → Option Class → Type 0 where
    none : (depth : ℕ) (next : Option Class) → DeriveAll depth [] [] [] next
    more : (depth : ℕ) (symbol : Symbol) (symbols : List Symbol) (raws parts all : List Raw) (front rest words : List Nested) (next : Option Class)
        → Derives depth symbol raws front (ahead rest next) → DeriveAll depth symbols parts rest next → all ≡ raws ++ parts → words ≡ front ++ rest
        → DeriveAll depth (symbol ∷ symbols) all words next

-- A token that stands in no expression; or an expression that is part of no other, with whether each of its tokens is a binary operator.
pub data Piece : Type 0 where
  apart : Piece
  whole : List Bool → Piece

-- The tokens that stand in such a form itself are binary operators.
abbrev pub holds_operators : Form → Bool
holds_operators operations = true
holds_operators _ = false

abbrev pub is_expression : Form → Bool
is_expression expr = true
is_expression _ = false

-- Which tokens are binary operators, where the symbol stands in such a form.
abbrev mutual
  pub marks : Form → (depth : ℕ) (symbol : Symbol) (raws : List Raw) (words : List Nested) (next : Option Class) → Derives depth symbol raws words next → List Bool
  marks form _ _ _ _ _ (leaf depth class word next is lies) = holds_operators form ∷ []
  marks outer _ _ _ _ _ (node depth form symbols parts raws words next one ok made all) = marks_all form (depth + weight form) symbols parts words next all

  pub marks_all : Form → (depth : ℕ) (symbols : List Symbol) (raws : List Raw) (words : List Nested) (next : Option Class) → DeriveAll depth symbols raws words next → List Bool
  marks_all form _ _ _ _ _ (none depth next) = []
  marks_all form _ _ _ _ _ (more depth symbol symbols raws parts all front rest words next first others e1 e2) =
      marks form depth symbol raws front (ahead rest next) first ++ marks_all form depth symbols parts rest next others

abbrev pub piece_of : Bool → List Bool → List Piece → List Piece
piece_of true marked parts = whole marked ∷ []
piece_of false marked parts = parts

-- The expressions that are part of no other, and the tokens round them.
abbrev mutual
  pub pieces : (depth : ℕ) (symbol : Symbol) (raws : List Raw) (words : List Nested) (next : Option Class) → Derives depth symbol raws words next → List Piece
  pieces _ _ _ _ _ (leaf depth class word next is lies) = apart ∷ []
  pieces _ _ _ _ _ (node depth form symbols parts raws words next one ok made all) =
      piece_of (is_expression form) (marks_all form (depth + weight form) symbols parts words next all) (pieces_all (depth + weight form) symbols parts words next all)

  pub pieces_all : (depth : ℕ) (symbols : List Symbol) (raws : List Raw) (words : List Nested) (next : Option Class) → DeriveAll depth symbols raws words next → List Piece
  pieces_all _ _ _ _ _ (none depth next) = []
  pieces_all _ _ _ _ _ (more depth symbol symbols raws parts all front rest words next first others e1 e2) =
      pieces depth symbol raws front (ahead rest next) first ++ pieces_all depth symbols parts rest next others

abbrev pub one : Bool → ℕ
one true = 1
one false = 0

-- how many of them are operators, up to each
abbrev pub counted_from : ℕ → List Bool → List ℕ
counted_from n [] = []
counted_from n (is_operator ∷ others) = (n + one is_operator) ∷ counted_from (n + one is_operator) others

-- At each token the number of binary operators, up to it, of the expression that holds it and is part of no other; 0 where there is none.
abbrev pub operator_counts : List Piece → List ℕ
operator_counts [] = []
operator_counts (apart ∷ others) = 0 ∷ operator_counts others
operator_counts (whole marked ∷ others) = counted_from 0 marked ++ operator_counts others

-- the token without its level, and with one
abbrev pub word_at : Nested → Word
word_at nested = record { class = nested.class; leaf = nested.leaf }

abbrev pub nested_at : ℕ → Word → Nested
nested_at level word = record { class = word.class; leaf = word.leaf; level = level }

abbrev pub bare : List Nested → List Word
bare text = map word_at text

-- The tokens at these levels are a text of the grammar, and this is its tree.
abbrev pub IsText : List Nested → Raw → Type 0
IsText text raw = Derives 0 (sub program) (raw ∷ []) text None

abbrev pub counts_in : (text : List Nested) (raw : Raw) → IsText text raw → List ℕ
counts_in text raw derives = operator_counts (pieces 0 (sub program) (raw ∷ []) text None derives)

-- a leaf that is a token of the word's class
abbrev pub IsReal : Nested → Type 0
IsReal nested = Genuine (word_at nested)

-- Some text of the grammar begins with these tokens at these levels, and goes on with tokens.
pub record Begins (front : List Nested) : Type 0 where
  pub more : List Nested
  pub real : All IsReal more
  pub raw : Raw
  pub text : IsText (front ++ more) raw

-- The words are a text of the grammar, and this is its tree.
pub record Parses (words : List Word) (raw : Raw) : Type 0 where
  pub text : List Nested
  pub are : bare text ≡ words
  pub derives : IsText text raw

-- Some text of the grammar begins with these words.
pub record IsOpen (words : List Word) : Type 0 where
  pub front : List Nested
  pub are : bare front ≡ words
  pub begins : Begins front

-- Some text of the grammar begins with these words and has this one behind them, at this level.
pub record StandsAt (level : ℕ) (before : List Word) (word : Word) : Type 0 where
  pub front : List Nested
  pub are : bare front ≡ before
  pub begins : Begins (front ++ nested_at level word ∷ [])

-- How deep tokens may be nested.
abbrev pub IsShallow : Nested → Type 0
IsShallow nested = nested.level ≤ 64

-- Some text of the grammar begins with these words, none of which is nested too deep there or is one binary operator too many.
pub record IsFit (words : List Word) : Type 0 where
  pub front : List Nested
  pub are : bare front ≡ words
  pub shallow : All IsShallow front
  pub begins : Begins front
  pub few : (i : ℕ) → i < length words → slice_index (counts_in (front ++ begins.more) begins.raw begins.text) i ≤ 1000

-- The fault stands at the first word with which the words are nested too deep, have too many operators, or begin no text of the grammar.
pub record FirstFault (words : List Word) (at : ℕ) : Type 0 where
  pub within : at < length words
  pub before : IsFit (take at words)
  pub stops : IsFit (take (at + 1) words) → ⊥

-- The words begin a text of the grammar, and are none: the fault stands at the end.
pub record EndsEarly (words : List Word) : Type 0 where
  pub begins : IsFit words
  pub not_whole : (raw : Raw) → Parses words raw → ⊥

-- The last of the words is a (, [ or ?.
abbrev pub is_bracket : Class → Bool
is_bracket Open = true
is_bracket OpenIndex = true
is_bracket Question = true
is_bracket _ = false

abbrev pub ends_in_bracket : List Word → Bool
ends_in_bracket [] = false
ends_in_bracket (last ∷ []) = is_bracket last.class
ends_in_bracket (first ∷ second ∷ rest) = ends_in_bracket (second ∷ rest)

-- This word is nested too deep behind these: it stands deeper than level 64 in some text of the grammar, or it is the 1,001st binary operator of an
-- expression there that is part of no other (where it is the first fault), or it fits no text behind them and stands
-- right behind a (, [ or ? in which tokens are nested too deep. What would begin with a word doesn't count where it fits nothing.
pub data IsTooDeep (before : List Word) (word : Word) : Type 0 where
  in_text : (level : ℕ) → 64 < level → StandsAt level before word → IsTooDeep before word
  in_bracket : (level : ℕ) (other : Word) → Genuine other → 64 < level → (IsOpen (before ++ word ∷ []) → ⊥) → ends_in_bracket before ≡ true → StandsAt level before other → IsTooDeep before word
  one_operator_more : (front : List Nested) (last : Nested) (b : Begins (front ++ last ∷ [])) → bare front ≡ before → word_at last ≡ word
      → 1000 < slice_index (counts_in ((front ++ last ∷ []) ++ b.more) b.raw b.text) (length front) → IsTooDeep before word
