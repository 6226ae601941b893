-- What the parser answers: the tree of a text in which no token is nested too deep and no expression has too many operators, or where the first fault stands and which it is.
use Rattle.std.specs.Prelude.{◌≡◌, ℕ, List, slice_get, slice_index, take, Some, All, ◌≤◌}
use Rattle.base_io.specs.declared.place.Place.{Place}
use Rattle.c_lex.specs.Cut.{first_place, place_behind}
use Rattle.c_lex.specs.declared.token.Token.{Token}
use Rattle.c_parse.specs.declared.class.Class.{Class}
use Rattle.c_parse.specs.declared.raw.Raw.{Raw}
use Rattle.c_parse.specs.Grammar.{Nested, bare, IsShallow, IsText, counts_in, FirstFault, EndsEarly, IsTooDeep}
use Rattle.c_parse.specs.Profile.{IsLeftOut, left_out}
use Rattle.c_parse.specs.Words.{Word, word_of, words_of}
use Rattle.c_parse.specs.declared.fault.ParseFault.{ParseFault}
use Rattle.c_parse.specs.declared.fault.ParseFault.TheVariants.{Unexpected, NotInProfile, TooDeep, Memory}

-- The words are a text of the grammar in which no token is nested too deep and no expression has too many operators, and this is its tree.
pub record IsTreeOf (words : List Word) (raw : Raw) : Type 0 where
  pub text : List Nested
  pub are : bare text ≡ words
  pub shallow : All IsShallow text
  pub derives : IsText text raw
  pub few : (i : ℕ) → slice_index (counts_in text raw derives) i ≤ 1000

-- The first fault stands at this token.
pub record IsAt (text : List ℕ) (tokens : List Token) (i : ℕ) (token : Token) (place : Place) : Type 0 where
  pub first : FirstFault (words_of text tokens) i
  pub token_is : slice_get tokens i ≡ Some token
  pub place_is : place ≡ token.place

abbrev pub IsDeepAt : List ℕ → List Token → ℕ → Token → Type 0
IsDeepAt text tokens i token = IsTooDeep (take i (words_of text tokens)) (word_of text token)

abbrev pub IsLeftOutAt : List ℕ → List Token → ℕ → Token → Type 0
IsLeftOutAt text tokens i token = IsLeftOut (left_out (word_of text token).class) (take i (words_of text tokens))

-- At a token that isn't nested too deep, with which no text of the grammar goes on and which begins nothing that the profile leaves out; where all tokens
-- go on and are no text, one byte past the end.
pub data IsUnexpectedAt (text : List ℕ) (tokens : List Token) (place : Place) : Type 0 where
  at_token : (i : ℕ) (token : Token) → IsAt text tokens i token place → (IsDeepAt text tokens i token → ⊥) → (IsLeftOutAt text tokens i token → ⊥) → IsUnexpectedAt text tokens place
  at_end : EndsEarly (words_of text tokens) → place ≡ place_behind first_place text → IsUnexpectedAt text tokens place

-- At a token that isn't nested too deep and begins what the profile leaves out.
pub data IsOutsideAt (text : List ℕ) (tokens : List Token) (place : Place) : Type 0 where
  left_out_token : (i : ℕ) (token : Token) → IsAt text tokens i token place → (IsDeepAt text tokens i token → ⊥) → IsLeftOutAt text tokens i token → IsOutsideAt text tokens place

-- At a token that is nested too deep, or is one binary operator too many.
pub data IsTooDeepAt (text : List ℕ) (tokens : List Token) (place : Place) : Type 0 where
  deep_token : (i : ℕ) (token : Token) → IsAt text tokens i token place → IsDeepAt text tokens i token → IsTooDeepAt text tokens place

-- The tokens of the text have this fault; want of memory says nothing of them.
abbrev pub IsCause : List ℕ → List Token → ParseFault → Type 0
IsCause text tokens (Unexpected at) = IsUnexpectedAt text tokens at
IsCause text tokens (NotInProfile at) = IsOutsideAt text tokens at
IsCause text tokens (TooDeep at) = IsTooDeepAt text tokens at
IsCause text tokens Memory = Unit {0}

-- The fault at a token that isn't nested too deep.
abbrev pub IsFlat : List Word → Class → Place → ParseFault → Type 0
IsFlat before class place (Unexpected at) = (at ≡ place) × (IsLeftOut (left_out class) before → ⊥)
IsFlat before class place (NotInProfile at) = (at ≡ place) × IsLeftOut (left_out class) before
IsFlat before class place (TooDeep at) = ⊥
IsFlat before class place Memory = Unit {0}
