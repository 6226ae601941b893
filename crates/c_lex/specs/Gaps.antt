-- What stands between tokens: white space, comments, and lines that begin with `#`.
use Rattle.std.specs.Prelude.{ℕ, Bool, List, [], ◌∷◌, ◌+◌, ◌==◌, ◌&&◌, not, if◌then◌else◌, take, drop, codes, Option, Some, None}
use Rattle.std.specs.List.{prefix_len, list_all}
use Rattle.std.specs.Option.{option_map}
use Rattle.c_lex.specs.Bytes.{begins, is_blank, line_feed, hash}
use Rattle.c_lex.specs.declared.piece.Cause.TheVariants.{BadByte, OpenComment, HashLine}
use Rattle.c_lex.specs.declared.piece.Piece.{Piece}
use Rattle.c_lex.specs.declared.piece.Piece.TheVariants.{Skip, Stop}
use Rattle.c_lex.specs.declared.spot.Before.{Before}
use Rattle.c_lex.specs.declared.spot.Before.TheVariants.{NoToken, TokenAbove, TokenOnLine}

-- how many bytes stand before the end of the line
abbrev pub line_len : List ℕ → ℕ
line_len text = prefix_len (λ b. not (b == line_feed)) text

-- where the end of a comment first stands
abbrev pub close_at : List ℕ → Option ℕ
close_at [] = None
close_at (b ∷ rest) = if begins (b ∷ rest) (codes "*/") then Some 0 else option_map (λ n. n + 1) (close_at rest)

-- a comment with so many bytes between its marks
abbrev pub comment_to : Option ℕ → Piece
comment_to None = Stop OpenComment
comment_to (Some n) = Skip (n + 4)

-- the one line that is passed, of 19 bytes, with white space behind it
abbrev pub is_include : List ℕ → Bool
is_include line = begins line (codes "#include <stdint.h>") && list_all is_blank (drop 19 line)

-- a line that begins with `#` is no token, and a `#` behind a token of its line begins none
abbrev pub hash_piece : Before → List ℕ → Piece
hash_piece NoToken text = if is_include (take (line_len text) text) then Skip (line_len text) else Stop HashLine
hash_piece TokenAbove text = Stop HashLine
hash_piece TokenOnLine text = Stop BadByte

-- what stands at the front of the text, if it is no token
abbrev pub gap : Before → List ℕ → Option Piece
gap before [] = None
gap before (b ∷ rest) =
    let text = b ∷ rest in
    if is_blank b then Some (Skip 1)
    else if begins text (codes "//") then Some (Skip (line_len text))
    else if begins text (codes "/*") then Some (comment_to (close_at (drop 2 text)))
    else if b == hash then Some (hash_piece before text)
    else None

abbrev pub new_line : Before → Before
new_line NoToken = NoToken
new_line TokenAbove = TokenAbove
new_line TokenOnLine = TokenAbove

-- what stands before a spot behind such a piece of the text
abbrev pub past : Before → List ℕ → Before
past before [] = before
past before (b ∷ rest) = if b == line_feed then new_line before else before
