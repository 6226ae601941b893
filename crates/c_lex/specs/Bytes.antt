-- The classes of the bytes of a program text (C11 5.2.1 and 6.4).
use Rattle.std.specs.Prelude.{ℕ, Bool, List, ◌==◌, ◌||◌, ◌&&◌, not, nat_le, nat_eq}
use Rattle.std.specs.List.{starts_with}

abbrev pub line_feed : ℕ
line_feed = 10

abbrev pub carriage_return : ℕ
carriage_return = 13

-- `#`
abbrev pub hash : ℕ
hash = 35

-- `'`
abbrev pub quote : ℕ
quote = 39

-- `\`
abbrev pub backslash : ℕ
backslash = 92

-- white space: space, tab, line feed, vertical tab, form feed, carriage return
abbrev pub is_blank : ℕ → Bool
is_blank b = (b == 32) || (nat_le 9 b && nat_le b 13)

-- `0` to `9`
abbrev pub is_digit : ℕ → Bool
is_digit b = nat_le 48 b && nat_le b 57

-- `A` to `Z`, `a` to `z`
abbrev pub is_letter : ℕ → Bool
is_letter b = (nat_le 65 b && nat_le b 90) || (nat_le 97 b && nat_le b 122)

-- what a name begins with: a letter or `_`
abbrev pub is_nondigit : ℕ → Bool
is_nondigit b = is_letter b || (b == 95)

-- what a name goes on with
abbrev pub is_name_byte : ℕ → Bool
is_name_byte b = is_nondigit b || is_digit b

-- what a number goes on with
abbrev pub is_number_byte : ℕ → Bool
is_number_byte b = is_letter b || is_digit b

-- a byte that stands for itself in a character literal
abbrev pub is_plain : ℕ → Bool
is_plain b = not (b == quote) && not (b == backslash) && not (b == line_feed) && not (b == carriage_return)

abbrev pub begins : List ℕ → List ℕ → Bool
begins text front = starts_with nat_eq text front
