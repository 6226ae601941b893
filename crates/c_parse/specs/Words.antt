-- The words that the grammar speaks of, made of tokens.
use Rattle.std.specs.Prelude.{◌≡◌, ℕ, List, ◌-◌, take, drop, map}
use Rattle.c_lex.specs.declared.token.Token.{Token}
use Rattle.c_lex.specs.declared.token.TokenKind.{TokenKind}
use Rattle.base_io.specs.declared.place.Place.{Place}
use Rattle.c_parse.specs.declared.class.Class.{Class}
use Rattle.c_parse.specs.declared.raw.Raw.{Raw}
use Rattle.c_parse.specs.declared.raw.Raw.TheVariants.{Leaf}
use Rattle.c_parse.specs.Classes.{class_of}

-- A token: its class, and its leaf in a tree.
pub record Word : Type 0 where
  pub class : Class
  pub leaf : Raw

-- the bytes of a token of this text
abbrev pub bytes_of : List ℕ → Token → List ℕ
bytes_of text token = take (token.end - token.start) (drop token.start text)

-- the word that a token of this text is
abbrev pub word_of : List ℕ → Token → Word
word_of text token = record { class = class_of token.kind (bytes_of text token); leaf = Leaf token.kind (bytes_of text token) token.place }

abbrev pub words_of : List ℕ → List Token → List Word
words_of text tokens = map (word_of text) tokens

-- The leaf is one token, and the word has its class.
pub record Genuine (word : Word) : Type 0 where
  pub kind : TokenKind
  pub bytes : List ℕ
  pub place : Place
  pub leaf : word.leaf ≡ Leaf kind bytes place
  pub class : word.class ≡ class_of kind bytes
