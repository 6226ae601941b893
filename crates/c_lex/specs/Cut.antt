-- How a text is cut into its tokens, and where its first fault stands.
use Rattle.std.specs.Prelude.{◌≡◌, ◌≢◌, ◌<◌, ◌≤◌, length, ℕ, List, [], ◌∷◌, ◌+◌, ◌-◌, ◌==◌, if◌then◌else◌, take, drop, Some, None, Ok}
use Rattle.base_io.specs.declared.place.Place.{Place}
use Rattle.c_lex.specs.Bytes.{line_feed, quote}
use Rattle.c_lex.specs.Gaps.{gap, past}
use Rattle.c_lex.specs.Tokens.{IsLongest, HasNone, kind_of, taken}
use Rattle.c_lex.specs.declared.spot.Spot.{Spot}
use Rattle.c_lex.specs.declared.spot.Before.{Before}
use Rattle.c_lex.specs.declared.spot.Before.TheVariants.{NoToken, TokenOnLine}
use Rattle.c_lex.specs.declared.piece.Cause.{Cause}
use Rattle.c_lex.specs.declared.piece.Cause.TheVariants.{BadByte, BadLiteral, TooBig, OpenComment, HashLine}
use Rattle.c_lex.specs.declared.piece.Piece.{Piece}
use Rattle.c_lex.specs.declared.piece.Piece.TheVariants.{Skip, Take, Stop}
use Rattle.c_lex.specs.declared.token.Token.{Token}
use Rattle.c_lex.specs.declared.token.LexFault.{LexFault}
use Rattle.c_lex.specs.declared.token.LexFault.TheVariants as fault

-- a quote that begins no character literal, or a byte that begins nothing
abbrev pub no_token : List ℕ → Cause
no_token [] = BadByte
no_token (b ∷ rest) = if b == quote then BadLiteral else BadByte

-- The piece stands at the front of the text: what lies between tokens, else the longest that has a token's form, else a fault.
pub data Stands (before : Before) (text : List ℕ) (piece : Piece) : Type 0 where
  between : gap before text ≡ Some piece → Stands before text piece
  token : (n : ℕ) → gap before text ≡ None → IsLongest text n → piece ≡ taken (kind_of (take n text)) n → Stands before text piece
  nothing : gap before text ≡ None → HasNone text → piece ≡ Stop (no_token text) → Stands before text piece

abbrev pub first_place : Place
first_place = record { line = 1; column = 1 }

-- the place behind these bytes: lines end with a line feed, and columns are counted in bytes
abbrev pub place_behind : Place → List ℕ → Place
place_behind place [] = place
place_behind place (b ∷ bytes) =
    place_behind (if b == line_feed then record { line = place.line + 1; column = 1 } else record { line = place.line; column = place.column + 1 }) bytes

-- where a text begins
abbrev pub start : Spot
start = record { at = 0; place = first_place; before = NoToken }

-- behind so many bytes of the text that is left
abbrev pub behind : Spot → Before → ℕ → List ℕ → Spot
behind spot before n text = record { at = spot.at + n; place = place_behind spot.place (take n text); before = before }

-- These pieces stand one after another from a spot of the text to another, with what is left of it behind each.
abbrev pub Passes : Spot → List ℕ → List Piece → Spot → List ℕ → Type 0
Passes spot text [] end rest = (spot ≡ end) × (text ≡ rest)
Passes spot text (Skip n ∷ pieces) end rest =
    Stands spot.before text (Skip n) × Passes (behind spot (past spot.before text) n text) (drop n text) pieces end rest
Passes spot text (Take kind n ∷ pieces) end rest =
    Stands spot.before text (Take kind n) × Passes (behind spot TokenOnLine n text) (drop n text) pieces end rest
Passes spot text (Stop cause ∷ pieces) end rest = ⊥

-- the tokens among the pieces
abbrev pub tokens_of : Spot → List ℕ → List Piece → List Token
tokens_of spot text [] = []
tokens_of spot text (Skip n ∷ pieces) = tokens_of (behind spot (past spot.before text) n text) (drop n text) pieces
tokens_of spot text (Take kind n ∷ pieces) =
    record { kind = kind; start = spot.at; end = spot.at + n; place = spot.place }
    ∷ tokens_of (behind spot TokenOnLine n text) (drop n text) pieces
tokens_of spot text (Stop cause ∷ pieces) = []

-- The text is cut into these tokens.
pub record Cut (text : List ℕ) (tokens : List Token) : Type 0 where
  pub pieces : List Piece
  pub end : Spot
  pub whole : Passes start text pieces end []
  pub are : tokens ≡ tokens_of start text pieces

abbrev pub fault_at : Cause → Place → LexFault
fault_at BadByte place = fault.BadByte place
fault_at BadLiteral place = fault.BadLiteral place
fault_at TooBig place = fault.TooBig place
fault_at OpenComment place = fault.OpenComment place
fault_at HashLine place = fault.HashLine place

-- The text is cut up to a place at which this fault stands.
pub record Faulty (text : List ℕ) (fault : LexFault) : Type 0 where
  pub pieces : List Piece
  pub spot : Spot
  pub rest : List ℕ
  pub cause : Cause
  pub before : Passes start text pieces spot rest
  pub more : rest ≢ []
  pub stops : Stands spot.before rest (Stop cause)
  pub is : fault ≡ fault_at cause spot.place

-- The token has bytes of the text, they are the longest that begin there and have a token's form, and it has their kind and the place behind all bytes before it.
pub record IsIn (text : List ℕ) (token : Token) : Type 0 where
  pub some : token.start < token.end
  pub within : token.end ≤ length text
  pub longest : IsLongest (drop token.start text) (token.end - token.start)
  pub kind : kind_of (take (token.end - token.start) (drop token.start text)) ≡ Ok token.kind
  pub place : token.place ≡ place_behind first_place (take token.start text)
