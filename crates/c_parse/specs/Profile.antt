-- Which tokens begin what the profile leaves out of C, where no text of the grammar goes on with them.
use Rattle.std.specs.Prelude.{◌≡◌, ◌⊎◌, ℕ, ◌+◌, ◌-◌, ◌<◌, List, [], ◌∷◌, ◌++◌, Bool, true, false, cond, ◌&&◌, ◌||◌, nat_eq, map, reverse, All, codes}
use Rattle.c_lex.specs.declared.token.TokenKind.{TokenKind}
use Rattle.c_lex.specs.declared.token.TokenKind.TheVariants as kind
use Rattle.c_parse.specs.declared.class.Class.{Class}
use Rattle.c_parse.specs.declared.class.Class.TheVariants.{Name, Star, Ampersand, Comma, Open, Close, OpenIndex, CloseIndex, OpenBrace, CloseBrace, Equals, Compound, Increment, Member, Static, Void, Char, Sign, Short, Int, Fixed, Switch, Case, Default, Unused}
use Rattle.c_parse.specs.declared.left_out.LeftOut.{LeftOut}
use Rattle.c_parse.specs.declared.left_out.LeftOut.TheVariants.{Nowhere, Anywhere, InFunction, InCast, AsPointer, AsDeclarator, AsIndex, AsComma, AsLabel}
use Rattle.c_parse.specs.declared.raw.Raw.TheVariants.{Leaf}
use Rattle.c_parse.specs.Classes.{class_of}
use Rattle.c_parse.specs.Words.{Word}
use Rattle.c_parse.specs.Grammar.{Nested, bare, Begins, IsShallow, IsOpen, StandsAt, ends_in_bracket}

-- Where a token of the class is one of those left out: members, ++ and -- and assignments in an expression, and keywords of C11 without use, wherever
-- they stand; static, void, pointers, declarators in parentheses, arrays of arrays, the comma operator and a group that runs on into the next, where C has them.
abbrev pub left_out : Class → LeftOut
left_out Unused = Anywhere
left_out Member = Anywhere
left_out Increment = Anywhere
left_out Equals = Anywhere
left_out Compound = Anywhere
left_out Static = InFunction
left_out Void = InCast
left_out Star = AsPointer
left_out Ampersand = AsPointer
left_out Open = AsDeclarator
left_out OpenIndex = AsIndex
left_out Comma = AsComma
left_out Case = AsLabel
left_out Default = AsLabel
left_out _ = Nowhere

-- ---- What may stand next

-- Some text of the grammar begins with these words, none of which is nested too deep there.
pub record MayBegin (words : List Word) : Type 0 where
  pub front : List Nested
  pub are : bare front ≡ words
  pub shallow : All IsShallow front
  pub begins : Begins front

-- a token of this kind with these bytes, wherever it stands
abbrev pub spelt : TokenKind → List ℕ → Word
spelt kind bytes = record { class = class_of kind bytes; leaf = Leaf kind bytes (record { line = 1; column = 1 }) }

-- Some text of the grammar goes on with this token behind these words.
abbrev pub MayStand : List Word → TokenKind → List ℕ → Type 0
MayStand before kind bytes = IsOpen (before ++ spelt kind bytes ∷ [])

-- An operand, a place or a declarator may begin, each of them with a name.
abbrev pub MayName : List Word → Type 0
MayName before = MayStand before kind.Name (codes "a")

-- An operand may begin, with a number.
abbrev pub MayCount : List Word → Type 0
MayCount before = MayStand before (kind.Number 0 false) (codes "0")

-- An expression may end: one that a ? may go on with.
abbrev pub MayAsk : List Word → Type 0
MayAsk before = MayStand before kind.Sign (codes "?")

-- What a brace has opened may end.
abbrev pub MayShut : List Word → Type 0
MayShut before = MayStand before kind.Sign (codes "}")

-- the end of a cast, and what is cast
abbrev pub end_of_cast : List Word
end_of_cast = spelt kind.Sign (codes ")") ∷ spelt (kind.Number 0 false) (codes "0") ∷ []

-- a cast's type and what stands behind it
abbrev pub rest_of_cast : List Word
rest_of_cast = spelt kind.Keyword (codes "int") ∷ end_of_cast

-- ---- What stands last

-- the classes of the words, the last first
abbrev pub nearest : List Word → List Class
nearest words = reverse (map (λ word. word.class) words)

abbrev pub is_type_word : Class → Bool
is_type_word Char = true
is_type_word Sign = true
is_type_word Short = true
is_type_word Int = true
is_type_word Fixed = true
is_type_word _ = false

abbrev pub is_void : Class → Bool
is_void Void = true
is_void _ = false

abbrev pub is_increment : Class → Bool
is_increment Increment = true
is_increment _ = false

abbrev pub is_switch : Class → Bool
is_switch Switch = true
is_switch _ = false

abbrev pub is_close : Class → Bool
is_close Close = true
is_close _ = false

abbrev pub is_close_index : Class → Bool
is_close_index CloseIndex = true
is_close_index _ = false

-- The first of these passes the test.
abbrev pub begins : (Class → Bool) → List Class → Bool
begins test [] = false
begins test (first ∷ _) = test first

-- x++ stands last, or ++x, or the ] of ++x[i]: behind any other ] that ends an index an operator or a comma fits
abbrev pub is_stepped : Class → Class → Bool
is_stepped Increment Name = true
is_stepped Increment CloseIndex = true
is_stepped Name Increment = true
is_stepped CloseIndex _ = true
is_stepped _ _ = false

abbrev pub ends_in_step : List Class → Bool
ends_in_step (last ∷ other ∷ _) = is_stepped last other
ends_in_step _ = false

-- a name right behind a type: a parameter's, since behind a variable's a [ fits
abbrev pub is_parameter : Class → Class → Bool
is_parameter Name type = is_type_word type
is_parameter _ _ = false

abbrev pub ends_in_parameter : List Class → Bool
ends_in_parameter (last ∷ other ∷ _) = is_parameter last other
ends_in_parameter _ = false

-- ---- Brackets that are open

abbrev pub is_opening : Class → Bool
is_opening Open = true
is_opening OpenIndex = true
is_opening OpenBrace = true
is_opening _ = false

abbrev pub is_closing : Class → Bool
is_closing Close = true
is_closing CloseIndex = true
is_closing CloseBrace = true
is_closing _ = false

abbrev pub is_open_brace : Class → Bool
is_open_brace OpenBrace = true
is_open_brace _ = false

-- Going outwards over a bracket: so many are closed behind it.
abbrev pub closed_behind : ℕ → Class → ℕ
closed_behind closed last = cond (is_closing last) (closed + 1) (cond (is_opening last) (closed - 1) closed)

-- A brace that is open stands behind a ), where so many brackets are closed behind these: outside functions braces stand behind = alone.
abbrev pub has_body : ℕ → List Class → Bool
has_body closed [] = false
has_body closed (last ∷ rest) = (nat_eq closed 0 && (is_open_brace last && begins is_close rest)) || has_body (closed_behind closed last) rest

-- What stands in front of the innermost bracket that is open, where so many are closed behind these.
abbrev pub outside : ℕ → List Class → List Class
outside closed [] = []
outside closed (last ∷ rest) = cond (nat_eq closed 0 && is_opening last) rest (outside (closed_behind closed last) rest)

-- switch ( .. ) stands last
abbrev pub ends_in_switch : List Class → Bool
ends_in_switch [] = false
ends_in_switch (last ∷ rest) = is_close last && begins is_switch (outside 0 rest)

-- The innermost bracket that is open is the brace of a switch.
abbrev pub is_in_switch : List Class → Bool
is_in_switch classes = ends_in_switch (outside 0 classes)

-- ---- What is left out

-- A name is declared next: it may stand there where no operand may and where no ++ stands before it, and behind void.
abbrev pub Declares : List Word → Type 0
Declares before = (MayName before × (MayCount before → ⊥) × (begins is_increment (nearest before) ≡ false)) ⊎ (begins is_void (nearest before) ≡ true)

-- A cast's type stands here, or goes on: it, the ) and the operand are nested no deeper than void would be.
abbrev pub Casts : List Word → Type 0
Casts before = MayBegin (before ++ rest_of_cast) ⊎ ((begins is_type_word (nearest before) ≡ true) × MayBegin (before ++ end_of_cast))

-- Behind these words a token begins what is left out so.
abbrev pub IsLeftOut : LeftOut → List Word → Type 0
IsLeftOut Nowhere before = ⊥
IsLeftOut Anywhere before = Unit {0}
IsLeftOut InFunction before = has_body 0 (nearest before) ≡ true
IsLeftOut InCast before = Casts before
IsLeftOut AsPointer before = MayName before ⊎ (begins is_void (nearest before) ≡ true)
IsLeftOut AsDeclarator before = Declares before
IsLeftOut AsIndex before = (begins is_close_index (nearest before) ≡ true) ⊎ (ends_in_parameter (nearest before) ≡ true)
IsLeftOut AsComma before = MayAsk before ⊎ (ends_in_step (nearest before) ≡ true)
IsLeftOut AsLabel before = (is_in_switch (nearest before) ≡ true) × MayShut before

-- What is known of the words before a token at fault that isn't nested too deep: a text begins with them, and where the last is a (, [ or ? tokens behind it aren't
-- nested too deep.
pub record IsRoomy (before : List Word) : Type 0 where
  pub fit : MayBegin before
  pub room : (level : ℕ) (other : Word) → 64 < level → ends_in_bracket before ≡ true → StandsAt level before other → ⊥

-- The answer tells whether this is so.
abbrev pub Tells : Bool → Type 0 → Type 0
Tells true P = P
Tells false P = P → ⊥
