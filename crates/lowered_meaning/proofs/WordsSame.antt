-- Operators give the same words where their operands are taken as int and as unsigned int.
use Rattle.std.proofs.Common.{◌≡◌, ℕ, suc, ◌+◌, ◌*◌, ◌-◌, ◌%◌, ◌^◌, ◌<◌, ◌≤◌, Bool, true, false, refl, sym, ap, ◌∙◌, subst, arith, ◌⊎◌, inl, inr}
use Rattle.std.proofs.lemmas.Bool.{cases_lt}
use Rattle.std.specs.Prelude.{ℤ, pos, negsuc, ◌+ℤ◌, ◌*ℤ◌, ◌-ℤ◌, neg_ℤ, nat_abs, nat_lt, if◌then◌else◌, ⊤}
use Rattle.std.specs.Int.{cast_signed, int_wrap, w16}
use Rattle.std.proofs.lemmas.Int.{int_rem_euclid_is, wrapping_mul-bits}
use Rattle.c_values.specs.declared.ops.Ty.{Ty}
use Rattle.c_values.specs.declared.ops.Ty.TheVariants.{I8, U8, I16, U16}
use Rattle.c_values.specs.Values.{kept, value, word, modulo, Worked, Gives, Traps, from_test, binary_of, unary_of, shifted, unless_zero, shift_trap, within}
use Rattle.c_values.specs.declared.ops.UnaryOp.{UnaryOp}
use Rattle.c_values.specs.declared.ops.UnaryOp.TheVariants as unary
use Rattle.c_values.specs.declared.ops.BinaryOp.{BinaryOp}
use Rattle.c_values.specs.declared.ops.BinaryOp.TheVariants as binary
use Rattle.std.proofs.lemmas.Nat.{and_le_l, or_lt, xor_lt}
use Rattle.lowered_meaning.proofs.NumberLemmas.{kept_same, sum_same, difference_same, negation_same, complement_same, within_same, shifted_same}

word_signed : (k : ℕ) → k < 2 ^ 16 → word (cast_signed w16 k) ≡ k
word_signed k h = grind arith

modulo_pos : (k : ℕ) → modulo (pos k) (2 ^ 16) ≡ k % 2 ^ 16
modulo_pos k = refl

pub kept_below : (ty : Ty) (z : ℤ) → kept ty z < 2 ^ 16
kept_below ty z = grind arith

times_pos : (x y : ℕ) → pos x *ℤ pos y ≡ pos (x * y)
times_pos x y = refl

twice : (n : ℕ) → n % 2 ^ 16 ≡ n % 2 ^ 16 % 2 ^ 16
twice n = omega arith

pub times_same : (x y : ℕ) → x < 2 ^ 16 → y < 2 ^ 16 → kept U16 (value I16 x *ℤ value I16 y) ≡ kept U16 (value U16 x *ℤ value U16 y)
unfolding int_wrap
times_same x y p q =
    sym (kept_same (value I16 x *ℤ value I16 y)) ∙ (ap word (sym (wrapping_mul-bits w16 x y p q)) ∙ (word_signed (x * y % 2 ^ 16) (omega arith) ∙ twice (x * y)))

negative : (x : ℕ) → 2 ^ 15 ≤ x → x < 2 ^ 16 → cast_signed w16 x ≡ negsuc (65535 - x)
negative x l h = grind arith

positive : (x : ℕ) → x < 2 ^ 15 → cast_signed w16 x ≡ pos x
positive x h = grind arith

less_taken : (m n : ℕ) → neg_ℤ (pos m) +ℤ pos (m + n) ≡ pos n
less_taken m n = grind arith

from_negative : (a k x : ℕ) → suc a + x ≡ 65536 → negsuc a *ℤ pos k +ℤ pos (k * 65536) ≡ pos (x * k)
from_negative a k x e = let f : k * 65536 ≡ suc a * k + x * k = ap (λ n. k * n) (sym e) ∙ grind arith in rw f (less_taken (suc a * k) (x * k))

pub product_same : (x k : ℕ) → x < 2 ^ 16 → kept U16 (value I16 x *ℤ pos k) ≡ kept U16 (value U16 x *ℤ pos k)
product_same x k p = by_case (cases_lt x (2 ^ 15))
  where
    by_case : ((x < 2 ^ 15) ⊎ (2 ^ 15 ≤ x)) → kept U16 (value I16 x *ℤ pos k) ≡ kept U16 (value U16 x *ℤ pos k)
    by_case (inl h) = ap (λ z. kept U16 (z *ℤ pos k)) (positive x h)
    by_case (inr h) = ap (λ z. kept U16 (z *ℤ pos k)) (negative x h p)
        ∙ ap (λ z. word (pos (nat_abs z))) (int_rem_euclid_is (negsuc (65535 - x) *ℤ pos k) (pos 65536) 65536 k (x * k) (omega arith) refl (from_negative (65535 - x) k x (omega (arith, h, p))))

-- ---- operators by their types

-- the types that operators work in
pub data IsWide : Ty → Type 0 where
  WideInt : IsWide I16
  WideUnsigned : IsWide U16

pub sum_of : (ty : Ty) (x y : ℕ) → IsWide ty → x < 2 ^ 16 → y < 2 ^ 16 → kept U16 (value U16 x +ℤ value U16 y) ≡ kept ty (value ty x +ℤ value ty y)
sum_of I16 x y is p q = sym (kept_same (value I16 x +ℤ value I16 y) ∙ sum_same x y p q)
sum_of U16 x y is p q = refl
sum_of I8 x y is p q = elim is [ ]
sum_of U8 x y is p q = elim is [ ]

pub difference_of : (ty : Ty) (x y : ℕ) → IsWide ty → x < 2 ^ 16 → y < 2 ^ 16 → kept U16 (value U16 x -ℤ value U16 y) ≡ kept ty (value ty x -ℤ value ty y)
difference_of I16 x y is p q = sym (kept_same (value I16 x -ℤ value I16 y) ∙ difference_same x y p q)
difference_of U16 x y is p q = refl
difference_of I8 x y is p q = elim is [ ]
difference_of U8 x y is p q = elim is [ ]

pub times_of : (ty : Ty) (x y : ℕ) → IsWide ty → x < 2 ^ 16 → y < 2 ^ 16 → kept U16 (value U16 x *ℤ value U16 y) ≡ kept ty (value ty x *ℤ value ty y)
times_of I16 x y is p q = sym (kept_same (value I16 x *ℤ value I16 y) ∙ times_same x y p q)
times_of U16 x y is p q = refl
times_of I8 x y is p q = elim is [ ]
times_of U8 x y is p q = elim is [ ]

pub product_of : (ty : Ty) (x k : ℕ) → IsWide ty → x < 2 ^ 16 → kept U16 (value U16 x *ℤ pos k) ≡ kept ty (value ty x *ℤ pos k)
product_of I16 x k is p = sym (kept_same (value I16 x *ℤ pos k) ∙ product_same x k p)
product_of U16 x k is p = refl
product_of I8 x k is p = elim is [ ]
product_of U8 x k is p = elim is [ ]

-- the count of a shift is the same number at either type, and so are functions of it that agree
pub shift_of : (by : Ty) (y : ℕ) (f h : ℕ → ℕ) → IsWide by → y < 2 ^ 16 → ((n : ℕ) → f n ≡ h n) → shifted (value U16 y) f ≡ shifted (value by y) h
shift_of U16 y f h is q e = ap (λ w. if nat_lt y 16 then Gives w else Traps shift_trap) (e y)
shift_of I16 y f h is q e = ap (λ w. if nat_lt y 16 then Gives w else Traps shift_trap) (e y) ∙ sym (shifted_same y h q)
shift_of I8 y f h is q e = elim is [ ]
shift_of U8 y f h is q e = elim is [ ]

pub negation_of : (ty : Ty) (x : ℕ) → IsWide ty → x < 2 ^ 16 → kept U16 (neg_ℤ (value U16 x)) ≡ kept ty (neg_ℤ (value ty x))
negation_of I16 x is p = sym (kept_same (neg_ℤ (value I16 x)) ∙ negation_same x p)
negation_of U16 x is p = refl
negation_of I8 x is p = elim is [ ]
negation_of U8 x is p = elim is [ ]

pub complement_of : (ty : Ty) (x : ℕ) → IsWide ty → x < 2 ^ 16 → kept U16 (neg_ℤ (value U16 x) -ℤ pos 1) ≡ kept ty (neg_ℤ (value ty x) -ℤ pos 1)
complement_of I16 x is p = sym (kept_same (neg_ℤ (value I16 x) -ℤ pos 1) ∙ complement_same x p)
complement_of U16 x is p = refl
complement_of I8 x is p = elim is [ ]
complement_of U8 x is p = elim is [ ]

-- ---- results are words

worked_word : Worked → ℕ
worked_word (Gives n) = n
worked_word (Traps t) = 0

-- what an operator gives is below 2 ^ 16
abbrev pub IsBelow : Worked → Type 0
IsBelow (Gives n) = n < 2 ^ 16
IsBelow (Traps t) = ⊤

pub below_of : (w : Worked) (n : ℕ) → IsBelow w → w ≡ Gives n → n < 2 ^ 16
below_of w n h e = subst IsBelow e h

test_below : (b : Bool) → from_test b < 2 ^ 16
test_below true = omega arith
test_below false = omega arith

unless_below : (y w : ℕ) → w < 2 ^ 16 → IsBelow (unless_zero y w)
unless_below ℕ.zero w h = tt
unless_below (suc y) w h = h

shifted_below : (z : ℤ) (f : ℕ → ℕ) → ((n : ℕ) → f n < 2 ^ 16) → IsBelow (shifted z f)
shifted_below (negsuc n) f h = tt
shifted_below (pos n) f h = by_case (nat_lt n 16)
  where
    by_case : (b : Bool) → IsBelow (if b then Gives (f n) else Traps shift_trap)
    by_case true = h n
    by_case false = tt

pub binary_below : (ty by : Ty) (op : BinaryOp) (x y : ℕ) → x < 2 ^ 16 → y < 2 ^ 16 → IsBelow (binary_of ty by op x y)
binary_below ty by binary.Mul x y p q = kept_below ty _
binary_below ty by binary.Div x y p q = unless_below y _ (kept_below ty _)
binary_below ty by binary.Rem x y p q = unless_below y _ (kept_below ty _)
binary_below ty by binary.Add x y p q = kept_below ty _
binary_below ty by binary.Sub x y p q = kept_below ty _
binary_below ty by binary.Shl x y p q = shifted_below (value by y) _ (λ n. kept_below ty _)
binary_below ty by binary.Shr x y p q = shifted_below (value by y) _ (λ n. kept_below ty _)
binary_below ty by binary.Less x y p q = test_below _
binary_below ty by binary.Greater x y p q = test_below _
binary_below ty by binary.LessEq x y p q = test_below _
binary_below ty by binary.GreaterEq x y p q = test_below _
binary_below ty by binary.Equal x y p q = test_below _
binary_below ty by binary.NotEqual x y p q = test_below _
binary_below ty by binary.BitAnd x y p q = omega (arith, and_le_l x y, p)
binary_below ty by binary.BitXor x y p q = xor_lt 16 x y p q
binary_below ty by binary.BitOr x y p q = or_lt 16 x y p q
binary_below ty by binary.And x y p q = test_below _
binary_below ty by binary.Or x y p q = test_below _

pub unary_below : (ty : Ty) (op : UnaryOp) (x : ℕ) → x < 2 ^ 16 → unary_of ty op x < 2 ^ 16
unary_below ty unary.Plus x p = p
unary_below ty unary.Minus x p = kept_below ty _
unary_below ty unary.Inv x p = kept_below ty _
unary_below ty unary.Not x p = test_below _

-- ---- conversions

pub whole_int : (w : ℕ) → w < 2 ^ 16 → kept I16 (cast_signed w16 w) ≡ w
whole_int w p = grind arith

pub whole_int_pos : (w : ℕ) → w < 2 ^ 16 → kept I16 (pos w) ≡ w
whole_int_pos w p = kept_same (pos w) ∙ grind arith

pub whole_unsigned : (w : ℕ) → w < 2 ^ 16 → kept U16 (cast_signed w16 w) ≡ w
whole_unsigned w p = sym (kept_same (cast_signed w16 w)) ∙ whole_int w p

pub whole_unsigned_pos : (w : ℕ) → w < 2 ^ 16 → kept U16 (pos w) ≡ w
whole_unsigned_pos w p = grind arith

-- an index is within an array by its word alone, whatever its type
pub index_of : (ty : Ty) (n i : ℕ) → n ≤ 1024 → i < 2 ^ 16 → within n (value ty i) ≡ within n (pos i)
index_of I8 n i le p = within_same n i le p
index_of U8 n i le p = refl
index_of I16 n i le p = within_same n i le p
index_of U16 n i le p = refl
