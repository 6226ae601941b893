-- The forms of tokens (C11 6.4), and what the bytes of such a form are.
use Rattle.std.specs.Prelude.{◌≡◌, ℕ, ◌<◌, ◌≤◌, Bool, true, false, List, [], ◌∷◌, ◌||◌, ◌&&◌, nat_lt, if◌then◌else◌, length, take, Option, Some, None, is_some, Result, Ok, Err}
use Rattle.std.specs.List.{list_all}
use Rattle.c_lex.specs.Bytes.{is_nondigit, is_digit, is_name_byte, is_number_byte}
use Rattle.c_lex.specs.Words.{is_keyword, is_sign}
use Rattle.c_lex.specs.Literals.{number_kind, character}
use Rattle.c_lex.specs.declared.piece.Cause.{Cause}
use Rattle.c_lex.specs.declared.piece.Cause.TheVariants.{BadByte}
use Rattle.c_lex.specs.declared.piece.Piece.{Piece}
use Rattle.c_lex.specs.declared.piece.Piece.TheVariants.{Take, Stop}
use Rattle.c_lex.specs.declared.token.TokenKind.{TokenKind}
use Rattle.c_lex.specs.declared.token.TokenKind.TheVariants.{Name, Number, Sign, Keyword}

-- a name or keyword: a letter or `_`, and then letters, `_` and digits (6.4.2.1)
abbrev pub is_word : List ℕ → Bool
is_word [] = false
is_word (b ∷ rest) = is_nondigit b && list_all is_name_byte rest

-- a number: a digit, and then digits and letters, whether or not its base and suffix allow them (6.4.8)
abbrev pub is_number : List ℕ → Bool
is_number [] = false
is_number (b ∷ rest) = is_digit b && list_all is_number_byte rest

-- a word, a number, a character literal or a sign
abbrev pub has_form : List ℕ → Bool
has_form bytes = is_word bytes || is_number bytes || is_some (character bytes) || is_sign bytes

-- the first n bytes are the longest beginning of the text that has a token's form
pub record IsLongest (text : List ℕ) (n : ℕ) : Type 0 where
  pub within : n ≤ length text
  pub form : has_form (take n text) ≡ true
  pub longest : (m : ℕ) → n < m → m ≤ length text → has_form (take m text) ≡ false

-- no beginning of the text has a token's form
pub record HasNone (text : List ℕ) : Type 0 where
  pub none : (m : ℕ) → m ≤ length text → has_form (take m text) ≡ false

-- a name has at most 63 bytes
abbrev pub word_kind : List ℕ → Result TokenKind Cause
word_kind word =
    if nat_lt 63 (length word) then Err BadByte
    else if is_keyword word then Ok Keyword
    else Ok Name

abbrev pub character_kind : Option ℕ → Result TokenKind Cause
character_kind None = Ok Sign
character_kind (Some value) = Ok (Number value false)

-- what bytes that have a token's form are
abbrev pub kind_of : List ℕ → Result TokenKind Cause
kind_of bytes =
    if is_word bytes then word_kind bytes
    else if is_number bytes then number_kind bytes
    else character_kind (character bytes)

-- a token of n bytes, or the fault that stands in its place
abbrev pub taken : Result TokenKind Cause → ℕ → Piece
taken (Ok kind) n = Take kind n
taken (Err cause) n = Stop cause
