-- What the scanner answers, by the first byte. The definition of tokens doesn't rest on it.
use Rattle.std.specs.Prelude.{ℕ, ◌<◌, ◌≤◌, false, List, [], ◌∷◌, ◌==◌, ◌&&◌, max, if◌then◌else◌, length, take, Option, Some, None}
use Rattle.std.specs.List.{prefix_len}
use Rattle.c_lex.specs.Bytes.{begins, is_nondigit, is_digit, is_name_byte, is_number_byte, is_plain, quote, backslash}
use Rattle.c_lex.specs.Words.{signs}
use Rattle.c_lex.specs.Literals.{number_kind, escaped}
use Rattle.c_lex.specs.Tokens.{word_kind, taken}
use Rattle.c_lex.specs.Gaps.{gap}
use Rattle.c_lex.specs.declared.piece.Cause.TheVariants.{BadByte, BadLiteral}
use Rattle.c_lex.specs.declared.piece.Piece.{Piece}
use Rattle.c_lex.specs.declared.piece.Piece.TheVariants.{Skip, Take, Stop}
use Rattle.c_lex.specs.declared.spot.Before.{Before}
use Rattle.c_lex.specs.declared.token.TokenKind.TheVariants.{Number, Sign}

-- the length of the longest of the words that begins the text, or 0
abbrev pub longest : List (List ℕ) → List ℕ → ℕ
longest [] text = 0
longest (word ∷ words) text = if begins text word then max (length word) (longest words text) else longest words text

abbrev pub escape_piece : Option ℕ → ℕ → Piece
escape_piece None b = Stop BadLiteral
escape_piece (Some value) b = if b == quote then Take (Number value false) 4 else Stop BadLiteral

-- what stands behind a quote
abbrev pub character_piece : List ℕ → Piece
character_piece [] = Stop BadLiteral
character_piece (a ∷ []) = Stop BadLiteral
character_piece (a ∷ b ∷ []) = Stop BadLiteral
character_piece (a ∷ b ∷ c ∷ []) = if is_plain b && (c == quote) then Take (Number b false) 3 else Stop BadLiteral
character_piece (a ∷ b ∷ c ∷ d ∷ rest) =
    if b == backslash then escape_piece (escaped c) d
    else if is_plain b && (c == quote) then Take (Number b false) 3
    else Stop BadLiteral

abbrev pub sign_piece : ℕ → Piece
sign_piece n = if n == 0 then Stop BadByte else Take Sign n

abbrev pub scan_token : List ℕ → Piece
scan_token [] = Stop BadByte
scan_token (b ∷ rest) =
    let text = b ∷ rest in
    if is_nondigit b then taken (word_kind (take (prefix_len is_name_byte text) text)) (prefix_len is_name_byte text)
    else if is_digit b then taken (number_kind (take (prefix_len is_number_byte text) text)) (prefix_len is_number_byte text)
    else if b == quote then character_piece text
    else sign_piece (longest signs text)

abbrev pub scan_behind : Option Piece → List ℕ → Piece
scan_behind None text = scan_token text
scan_behind (Some piece) text = piece

unfoldable pub scan : Before → List ℕ → Piece
scan before text = scan_behind (gap before text) text

-- A piece that isn't a fault takes at least one byte, and no more than there are.
abbrev pub Advances : Piece → ℕ → Type 0
Advances (Skip n) room = (0 < n) × (n ≤ room)
Advances (Take kind n) room = (0 < n) × (n ≤ room)
Advances (Stop cause) room = Unit {0}
