-- The value and the type of a literal (C11 6.4.4.1 and 6.4.4.4).
use Rattle.std.specs.Prelude.{ℕ, Bool, List, [], ◌∷◌, ◌+◌, ◌-◌, ◌*◌, ◌==◌, ◌||◌, ◌&&◌, not, nat_le, nat_lt, if◌then◌else◌, fold, length, take, drop, slice_index, codes, Option, Some, None, Result, Ok, Err}
use Rattle.std.specs.List.{list_all}
use Rattle.c_lex.specs.Bytes.{begins, is_plain, line_feed, carriage_return, quote, backslash}
use Rattle.c_lex.specs.declared.piece.Cause.{Cause}
use Rattle.c_lex.specs.declared.piece.Cause.TheVariants.{BadLiteral, TooBig}
use Rattle.c_lex.specs.declared.token.TokenKind.{TokenKind}
use Rattle.c_lex.specs.declared.token.TokenKind.TheVariants.{Number}

-- the value of a digit, `0` to `9`, `a` to `f` or `A` to `F`; 16 where the byte is none
abbrev pub digit_of : ℕ → ℕ
digit_of b =
    if nat_le 48 b && nat_le b 57 then b - 48
    else if nat_le 97 b && nat_le b 102 then b - 87
    else if nat_le 65 b && nat_le b 70 then b - 55
    else 16

-- every byte is a digit of the base
abbrev pub are_digits : ℕ → List ℕ → Bool
are_digits base digits = list_all (λ b. nat_lt (digit_of b) base) digits

abbrev pub value_of : ℕ → List ℕ → ℕ
value_of base digits = fold (λ n b. n * base + digit_of b) 0 digits

-- the base that a number's first bytes tell, and how many of them are no digits
abbrev pub base_of : List ℕ → ℕ × ℕ
base_of number =
    if begins number (codes "0x") || begins number (codes "0X") then (16, 2)
    else if begins number (codes "0") then (8, 0)
    else (10, 0)

-- whether the last byte is `u` (117) or `U` (85)
abbrev pub ends_in_suffix : List ℕ → Bool
ends_in_suffix word = let last = slice_index word (length word - 1) in (last == 117) || (last == 85)

-- what digits of a base stand for, with a suffix or without
abbrev pub number_of : ℕ → Bool → List ℕ → Result TokenKind Cause
number_of base suffixed digits =
    if (length digits == 0) || not (are_digits base digits) then Err BadLiteral
    else if nat_lt 65535 (value_of base digits) then Err TooBig
    else if nat_lt 32767 (value_of base digits) && (base == 10) && not suffixed then Err TooBig
    else Ok (Number (value_of base digits) (suffixed || nat_lt 32767 (value_of base digits)))

-- what a number stands for
abbrev pub number_kind : List ℕ → Result TokenKind Cause
number_kind word =
    let suffixed = ends_in_suffix word in
    let body = if suffixed then take (length word - 1) word else word in
    number_of (base_of body).0 suffixed (drop (base_of body).1 body)

-- the byte that a backslash and this letter stand for
abbrev pub escaped : ℕ → Option ℕ
escaped letter =
    if letter == 110 then Some line_feed  -- n
    else if letter == 116 then Some 9  -- t
    else if letter == 114 then Some carriage_return  -- r
    else if letter == 48 then Some 0  -- 0
    else if letter == backslash then Some backslash
    else if letter == quote then Some quote
    else None

-- the value of a character literal: a plain byte or an escape between quotes
abbrev pub character : List ℕ → Option ℕ
character [] = None
character (a ∷ []) = None
character (a ∷ b ∷ []) = None
character (a ∷ b ∷ c ∷ []) = if (a == quote) && is_plain b && (c == quote) then Some b else None
character (a ∷ b ∷ c ∷ d ∷ []) = if (a == quote) && (b == backslash) && (d == quote) then escaped c else None
character (a ∷ b ∷ c ∷ d ∷ e ∷ rest) = None
