-- What the operators give (C11 6.5.3.3 to 6.5.14). A value is a whole number in its type's range, and its word is that number modulo 65,536.
-- Each operator is a function on whole numbers of which the type keeps what it can hold, or a trap. Where the implementation may choose, it chose:
-- a signed sum that is too big wraps, as a conversion does; `>>` of a negative value is arithmetic; the least int divided by -1 is the least int.
use Rattle.std.specs.Prelude.{ℕ, zero, suc, ◌/◌, ◌^◌, Bool, true, false, not, Option, Some, None, ℤ, pos, negsuc, ◌+ℤ◌, ◌-ℤ◌, ◌*ℤ◌, neg_ℤ, int_lt, int_div, int_rem, nat_lt, nat_abs, ◌==◌, ◌&&◌, ◌||◌, if◌then◌else◌, bit_and, bit_or, bit_xor}
use Rattle.std.specs.Int.{cast_signed, int_rem_euclid, w16, w8}
use Rattle.c_values.specs.declared.ops.Ty.{Ty}
use Rattle.c_values.specs.declared.ops.Ty.TheVariants.{I8, U8, I16, U16}
use Rattle.c_values.specs.declared.ops.UnaryOp.{UnaryOp}
use Rattle.c_values.specs.declared.ops.UnaryOp.TheVariants as unary
use Rattle.c_values.specs.declared.ops.BinaryOp.{BinaryOp}
use Rattle.c_values.specs.declared.ops.BinaryOp.TheVariants as binary

-- z modulo m, from 0 to m - 1
abbrev pub modulo : ℤ → ℕ → ℕ
modulo z m = nat_abs (int_rem_euclid z (pos m))

-- the word of a whole number
abbrev pub word : ℤ → ℕ
word z = modulo z (2 ^ 16)

-- the value that a word stands for at a type
abbrev pub value : Ty → ℕ → ℤ
value I8 w = cast_signed w16 w
value U8 w = pos w
value I16 w = cast_signed w16 w
value U16 w = pos w

-- what is left of a whole number at a type
abbrev pub wrapped : Ty → ℤ → ℤ
wrapped I8 z = cast_signed w8 (modulo z (2 ^ 8))
wrapped U8 z = pos (modulo z (2 ^ 8))
wrapped I16 z = cast_signed w16 (modulo z (2 ^ 16))
wrapped U16 z = pos (modulo z (2 ^ 16))

-- the word of what is left of a whole number at a type
abbrev pub kept : Ty → ℤ → ℕ
kept ty z = word (wrapped ty z)

-- a word of one type, converted to another
abbrev pub converted : Ty → Ty → ℕ → ℕ
converted to from w = kept to (value from w)

abbrev pub from_test : Bool → ℕ
from_test true = 1
from_test false = 0

-- a test takes 0 as false, and all else as true
abbrev pub is_set : ℕ → Bool
is_set zero = false
is_set (suc w) = true

-- the numbers of the traps
abbrev pub divide_trap : ℕ
divide_trap = 1

abbrev pub index_trap : ℕ
index_trap = 2

abbrev pub shift_trap : ℕ
shift_trap = 3

-- a word, or the number of a trap
pub data Worked : Type 0 where
  Gives : ℕ → Worked
  Traps : ℕ → Worked

abbrev pub unary_of : Ty → UnaryOp → ℕ → ℕ
unary_of ty unary.Plus w = w
unary_of ty unary.Minus w = kept ty (neg_ℤ (value ty w))
unary_of ty unary.Inv w = kept ty (neg_ℤ (value ty w) -ℤ pos 1)
unary_of ty unary.Not w = from_test (not (is_set w))

-- a divisor of 0 traps, and else the quotient or remainder stands
abbrev pub unless_zero : ℕ → ℕ → Worked
unless_zero zero w = Traps divide_trap
unless_zero (suc d) w = Gives w

-- a count below 0 or not below the width of the type traps; types are of 16 bits here
abbrev pub shifted : ℤ → (ℕ → ℕ) → Worked
shifted (pos n) f = if nat_lt n 16 then Gives (f n) else Traps shift_trap
shifted (negsuc n) f = Traps shift_trap

-- a value divided by 2 ^ n, rounded down
abbrev pub halved : ℤ → ℕ → ℤ
halved (pos a) n = pos (a / 2 ^ n)
halved (negsuc a) n = negsuc (a / 2 ^ n)

-- an operator on words of the type `ty`; the count of a shift has the type `by`
abbrev pub binary_of : Ty → Ty → BinaryOp → ℕ → ℕ → Worked
binary_of ty by binary.Mul x y = Gives (kept ty (value ty x *ℤ value ty y))
binary_of ty by binary.Div x y = unless_zero y (kept ty (int_div (value ty x) (value ty y)))
binary_of ty by binary.Rem x y = unless_zero y (kept ty (int_rem (value ty x) (value ty y)))
binary_of ty by binary.Add x y = Gives (kept ty (value ty x +ℤ value ty y))
binary_of ty by binary.Sub x y = Gives (kept ty (value ty x -ℤ value ty y))
binary_of ty by binary.Shl x y = shifted (value by y) (λ n. kept ty (value ty x *ℤ pos (2 ^ n)))
binary_of ty by binary.Shr x y = shifted (value by y) (λ n. kept ty (halved (value ty x) n))
binary_of ty by binary.Less x y = Gives (from_test (int_lt (value ty x) (value ty y)))
binary_of ty by binary.Greater x y = Gives (from_test (int_lt (value ty y) (value ty x)))
binary_of ty by binary.LessEq x y = Gives (from_test (not (int_lt (value ty y) (value ty x))))
binary_of ty by binary.GreaterEq x y = Gives (from_test (not (int_lt (value ty x) (value ty y))))
-- values of one type are equal where their words are, and the bits of a value are those of its word
binary_of ty by binary.Equal x y = Gives (from_test (x == y))
binary_of ty by binary.NotEqual x y = Gives (from_test (not (x == y)))
binary_of ty by binary.BitAnd x y = Gives (bit_and x y)
binary_of ty by binary.BitXor x y = Gives (bit_xor x y)
binary_of ty by binary.BitOr x y = Gives (bit_or x y)
-- where both operands are evaluated; C evaluates the second only as needed, and so does the meaning of a program
binary_of ty by binary.And x y = Gives (from_test (is_set x && is_set y))
binary_of ty by binary.Or x y = Gives (from_test (is_set x || is_set y))

-- the place of an element, or none outside of the array
abbrev pub within : ℕ → ℤ → Option ℕ
within length (pos n) = if nat_lt n length then Some n else None
within length (negsuc n) = None
