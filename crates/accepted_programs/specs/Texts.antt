-- What is known of the tokens of a text: a name isn't spelled as a bracket, and a number is a word.
use Rattle.std.specs.Prelude.{◌≡◌, ℕ, List, ◌^◌, true, false, codes, nat_lt, All}
use Rattle.std.specs.Str.{bytes_eq}
use Rattle.base_io.specs.declared.place.Place.{Place}
use Rattle.c_lex.specs.declared.token.TokenKind.{TokenKind}
use Rattle.c_lex.specs.declared.token.TokenKind.TheVariants as token
use Rattle.c_parse.specs.declared.raw.Raw.TheVariants.{Leaf}
use Rattle.c_parse.specs.declared.raw.Raw.{Raw}
use Rattle.c_parse.specs.Classes.{class_of}
use Rattle.c_parse.specs.Grammar.{Nested, word_at, IsText}
use Rattle.c_parse.specs.Words.{Word}

abbrev pub IsPlausible : TokenKind → List ℕ → Type 0
IsPlausible token.Name text = bytes_eq text (codes "(") ≡ false
IsPlausible (token.Number n unsigned) text = nat_lt n (2 ^ 16) ≡ true
IsPlausible _ text = Unit {0}

-- a token of its class, as the tokens of each text are
pub record IsWord (word : Word) : Type 0 where
  pub kind : TokenKind
  pub bytes : List ℕ
  pub place : Place
  pub leaf : word.leaf ≡ Leaf kind bytes place
  pub class : word.class ≡ class_of kind bytes
  pub plausible : IsPlausible kind bytes

-- The tree is that of a text of the grammar, whose words are tokens of a text.
pub record IsRead (raw : Raw) : Type 0 where
  pub text : List Nested
  pub words : All (λ nested. IsWord (word_at nested)) text
  pub derives : IsText text raw
