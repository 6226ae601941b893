-- The text of a supply: a row on each line.
use Rattle.std.specs.Prelude.{◌≡◌, ℕ, ◌+◌, ◌==◌, ◌&&◌, ◌||◌, Bool, true, false, List, [], ◌∷◌, Option, Some, None, length, take, drop, is_some, option_map, option_and_then, if◌then◌else◌, nat_le, codes}
use Rattle.std.specs.List.{list_all, before_first, after_first, slice_split, filter_map}
use Rattle.std.specs.Str.{bytes_eq}
use Rattle.std.specs.Char.{digit_value, is_digit}
use Rattle.std.specs.Str.Parse.{digits_value, digits_value_after}
use Rattle.supply_trace.specs.declared.text.TraceFault.{TraceFault}
use Rattle.supply_trace.specs.declared.text.TraceFault.TheVariants.{BadLine, Memory}
use denote.Bor.{Bor}
use Rattle.msp430_machine.specs.declared.answer.Refill.{Refill}

-- the number that the digits write behind those of n, if they are digits and it is at most a thousand million
abbrev pub amount_behind : ℕ → List ℕ → Option ℕ
amount_behind n digits =
    if list_all (λ c. is_digit c 10) digits && nat_le (digits_value_after 10 n digits) 1000000000
    then Some (digits_value_after 10 n digits) else None

-- an amount is a decimal digit or more
abbrev pub amount_of : List ℕ → Option ℕ
amount_of [] = None
amount_of (c ∷ digits) = amount_behind 0 (c ∷ digits)

-- four hexadecimal digits
abbrev pub junk_of : List ℕ → Option ℕ
junk_of (a ∷ b ∷ c ∷ d ∷ []) =
    if list_all (λ digit. is_digit digit 16) (a ∷ b ∷ c ∷ d ∷ []) then Some (digits_value 16 (a ∷ b ∷ c ∷ d ∷ [])) else None
junk_of _ = None

-- what stands behind the blank: `keep`, or `lose HHHH`
abbrev pub refill_of : ℕ → List ℕ → Option Refill
refill_of amount words =
    if bytes_eq words (codes "keep") then Some (record { amount = amount; keep = true; junk = 0 })
    else if bytes_eq (take 5 words) (codes "lose ")
    then option_map (λ junk. record { amount = amount; keep = false; junk = junk }) (junk_of (drop 5 words))
    else None

abbrev pub is_blank : ℕ → Bool
is_blank b = b == 32

-- the row that a line spells, if it does
abbrev pub row_of : List ℕ → Option Refill
row_of line =
    option_and_then (λ amount. refill_of amount (after_first is_blank line)) (amount_of (before_first is_blank line))

abbrev pub is_feed : ℕ → Bool
is_feed b = b == 10

-- the lines of a text, without their line feeds; behind a last line feed stands an empty line
abbrev pub lines_of : List ℕ → List (List ℕ)
lines_of text = slice_split is_feed text

abbrev pub is_empty : List ℕ → Bool
is_empty [] = true
is_empty (_ ∷ _) = false

-- A line may be empty.
abbrev pub is_line : List ℕ → Bool
is_line line = is_some (row_of line) || is_empty line

-- where the first line begins that is neither empty nor a row, if there is one; the lines begin at this offset
abbrev pub bad_line : ℕ → List (List ℕ) → Option ℕ
bad_line at [] = None
bad_line at (line ∷ behind) = if is_line line then bad_line (at + length line + 1) behind else Some at

-- the rows that lines spell
abbrev pub rows_of : List (List ℕ) → List Refill
rows_of lines = filter_map row_of lines

-- Each line of the text is empty or spells a row, and these are the rows.
abbrev pub SpellsRows : List ℕ → List Refill → Type 0
SpellsRows text rows = (bad_line 0 (lines_of text) ≡ None) × (rows ≡ rows_of (lines_of text))

-- There is a line that is neither, and the first such line begins there; or there was no memory.
abbrev pub SpellsNoRows : List ℕ → TraceFault → Type 0
SpellsNoRows text (BadLine at) = bad_line 0 (lines_of text) ≡ Some at
SpellsNoRows text Memory = Unit {0}

-- the lines behind a line, where a line feed stands behind it
abbrev pub lines_behind : Option (Bor (List ℕ)) → List (List ℕ)
lines_behind None = []
lines_behind (Some text) = lines_of text.now

-- a digit's value, if it is a digit in this radix
abbrev pub digit_of : ℕ → ℕ → Option ℕ
digit_of radix c = if is_digit c radix then Some (digit_value c) else None
