-- The operation of each operator and of each conversion gives what the operator gives.
use Rattle.std.proofs.Common.{◌≡◌, ◌≢◌, ℕ, zero, suc, ◌^◌, ◌<◌, Bool, true, false, Option, Some, None, refl, sym, ap, arith}
use Rattle.std.specs.Prelude.{⊤, not, ◌==◌}
use Rattle.c_values.specs.declared.ops.Ty.{Ty}
use Rattle.c_values.specs.declared.ops.Ty.TheVariants.{I8, U8, I16, U16}
use Rattle.c_values.specs.declared.ops.UnaryOp.TheVariants as unary
use Rattle.c_values.specs.declared.ops.BinaryOp.{BinaryOp}
use Rattle.c_values.specs.declared.ops.BinaryOp.TheVariants as binary
use Rattle.c_values.specs.Values.{Worked, Gives, converted, binary_of, unary_of, from_test, is_set}
use Rattle.flow_graph.specs.declared.graph.OpKind.{OpKind}
use Rattle.flow_graph.specs.declared.graph.OpKind.TheVariants as kind
use Rattle.flow_graph.specs.Operations.{gives}
use Rattle.lowered_graphs.specs.Operators.{by_sign, binary_kind, is_exchanged, conversion_kind}
use Rattle.lowered_meaning.proofs.TrackLemmas.{IsWorked}
use Rattle.lowered_meaning.proofs.NumberLemmas.{char_same, signed_char_same}
use Rattle.lowered_meaning.proofs.WordsSame.{IsWide, WideInt, WideUnsigned, sum_of, difference_of, times_of, product_of, shift_of, negation_of, complement_of, whole_int, whole_int_pos, whole_unsigned, whole_unsigned_pos}

-- ---- operators of two operands

pub signed_works : (ty : Ty) (k l : OpKind) → IsWorked k → IsWorked l → IsWorked (by_sign ty k l)
signed_works I8 k l x y = x
signed_works I16 k l x y = x
signed_works U8 k l x y = y
signed_works U16 k l x y = y

-- the operation goes on
pub operator_works : (op : BinaryOp) (ty : Ty) → IsWorked (binary_kind op ty)
operator_works binary.Mul ty = record { effect = λ op a b s. refl; next = λ n. refl }
operator_works binary.Div ty = signed_works ty kind.DivS kind.DivU (record { effect = λ op a b s. refl; next = λ n. refl }) (record { effect = λ op a b s. refl; next = λ n. refl })
operator_works binary.Rem ty = signed_works ty kind.RemS kind.RemU (record { effect = λ op a b s. refl; next = λ n. refl }) (record { effect = λ op a b s. refl; next = λ n. refl })
operator_works binary.Add ty = record { effect = λ op a b s. refl; next = λ n. refl }
operator_works binary.Sub ty = record { effect = λ op a b s. refl; next = λ n. refl }
operator_works binary.Shl ty = record { effect = λ op a b s. refl; next = λ n. refl }
operator_works binary.Shr ty = signed_works ty kind.ShrS kind.ShrU (record { effect = λ op a b s. refl; next = λ n. refl }) (record { effect = λ op a b s. refl; next = λ n. refl })
operator_works binary.Less ty = signed_works ty kind.LtS kind.LtU (record { effect = λ op a b s. refl; next = λ n. refl }) (record { effect = λ op a b s. refl; next = λ n. refl })
operator_works binary.Greater ty = signed_works ty kind.LtS kind.LtU (record { effect = λ op a b s. refl; next = λ n. refl }) (record { effect = λ op a b s. refl; next = λ n. refl })
operator_works binary.LessEq ty = signed_works ty kind.LeS kind.LeU (record { effect = λ op a b s. refl; next = λ n. refl }) (record { effect = λ op a b s. refl; next = λ n. refl })
operator_works binary.GreaterEq ty = signed_works ty kind.LeS kind.LeU (record { effect = λ op a b s. refl; next = λ n. refl }) (record { effect = λ op a b s. refl; next = λ n. refl })
operator_works binary.Equal ty = record { effect = λ op a b s. refl; next = λ n. refl }
operator_works binary.NotEqual ty = record { effect = λ op a b s. refl; next = λ n. refl }
operator_works binary.BitAnd ty = record { effect = λ op a b s. refl; next = λ n. refl }
operator_works binary.BitXor ty = record { effect = λ op a b s. refl; next = λ n. refl }
operator_works binary.BitOr ty = record { effect = λ op a b s. refl; next = λ n. refl }
operator_works binary.And ty = record { effect = λ op a b s. refl; next = λ n. refl }
operator_works binary.Or ty = record { effect = λ op a b s. refl; next = λ n. refl }

abbrev pub gives_ordered : Bool → OpKind → ℕ → ℕ → Worked
gives_ordered true k x y = gives k y x
gives_ordered false k x y = gives k x y

-- and gives what the operator gives
pub operator_gives : (op : BinaryOp) (ty by : Ty) (x y : ℕ) → IsWide ty → IsWide by → x < 2 ^ 16 → y < 2 ^ 16 → op ≢ binary.And → op ≢ binary.Or
    → gives_ordered (is_exchanged op) (binary_kind op ty) x y ≡ binary_of ty by op x y
operator_gives binary.Mul ty by x y t b p q f g = ap Gives (times_of ty x y t p q)
operator_gives binary.Div ty by x y WideInt b p q f g = refl
operator_gives binary.Div ty by x y WideUnsigned b p q f g = refl
operator_gives binary.Rem ty by x y WideInt b p q f g = refl
operator_gives binary.Rem ty by x y WideUnsigned b p q f g = refl
operator_gives binary.Add ty by x y t b p q f g = ap Gives (sum_of ty x y t p q)
operator_gives binary.Sub ty by x y t b p q f g = ap Gives (difference_of ty x y t p q)
operator_gives binary.Shl ty by x y t b p q f g = shift_of by y _ _ b q (λ n. product_of ty x (2 ^ n) t p)
operator_gives binary.Shr ty by x y WideInt b p q f g = shift_of by y _ _ b q (λ n. refl)
operator_gives binary.Shr ty by x y WideUnsigned b p q f g = shift_of by y _ _ b q (λ n. refl)
operator_gives binary.Less ty by x y WideInt b p q f g = refl
operator_gives binary.Less ty by x y WideUnsigned b p q f g = refl
operator_gives binary.Greater ty by x y WideInt b p q f g = refl
operator_gives binary.Greater ty by x y WideUnsigned b p q f g = refl
operator_gives binary.LessEq ty by x y WideInt b p q f g = refl
operator_gives binary.LessEq ty by x y WideUnsigned b p q f g = refl
operator_gives binary.GreaterEq ty by x y WideInt b p q f g = refl
operator_gives binary.GreaterEq ty by x y WideUnsigned b p q f g = refl
operator_gives binary.Equal ty by x y t b p q f g = refl
operator_gives binary.NotEqual ty by x y t b p q f g = refl
operator_gives binary.BitAnd ty by x y t b p q f g = refl
operator_gives binary.BitXor ty by x y t b p q f g = refl
operator_gives binary.BitOr ty by x y t b p q f g = refl
operator_gives binary.And ty by x y t b p q f g = absurd (f refl)
operator_gives binary.Or ty by x y t b p q f g = absurd (g refl)

-- ---- operators of one operand

pub minus_gives : (ty : Ty) (x b : ℕ) → IsWide ty → x < 2 ^ 16 → gives kind.Neg x b ≡ Gives (unary_of ty unary.Minus x)
minus_gives ty x b t p = ap Gives (negation_of ty x t p)

pub inv_gives : (ty : Ty) (x b : ℕ) → IsWide ty → x < 2 ^ 16 → gives kind.Inv x b ≡ Gives (unary_of ty unary.Inv x)
inv_gives ty x b t p = ap Gives (complement_of ty x t p)

not_zero : (x : ℕ) → (suc x == 0) ≡ false
not_zero x = grind arith

pub not_gives : (ty : Ty) (x : ℕ) → gives kind.Eq x 0 ≡ Gives (unary_of ty unary.Not x)
not_gives ty zero = refl
not_gives ty (suc x) = ap (λ b. Gives (from_test b)) (not_zero x)

pub truth_gives : (x : ℕ) → gives kind.Ne x 0 ≡ Gives (from_test (is_set x))
truth_gives zero = refl
truth_gives (suc x) = ap (λ b. Gives (from_test (not b))) (not_zero x)

-- ---- conversions

-- an operation that gives the value, or a word that has it already
abbrev pub ConvertsBy : Option OpKind → ℕ → ℕ → Type 0
ConvertsBy None w v = v ≡ w
ConvertsBy (Some k) w v = gives k w 0 ≡ Gives v

-- a conversion of a char to its own type, which is none
abbrev pub is_idle : Ty → Ty → Bool
is_idle U8 U8 = true
is_idle I8 I8 = true
is_idle _ _ = false

pub converts : (to from : Ty) (w : ℕ) → w < 2 ^ 16 → is_idle to from ≡ false → ConvertsBy (conversion_kind to from) w (converted to from w)
converts U8 U8 w p e = cc
converts U8 I8 w p e = ap Gives (sym (char_same w p))
converts U8 I16 w p e = ap Gives (sym (char_same w p))
converts U8 U16 w p e = refl
converts I8 I8 w p e = cc
converts I8 U8 w p e = refl
converts I8 I16 w p e = ap Gives (sym (signed_char_same w p))
converts I8 U16 w p e = refl
converts I16 I8 w p e = whole_int w p
converts I16 U8 w p e = whole_int_pos w p
converts I16 I16 w p e = whole_int w p
converts I16 U16 w p e = whole_int_pos w p
converts U16 I8 w p e = whole_unsigned w p
converts U16 U8 w p e = whole_unsigned_pos w p
converts U16 I16 w p e = whole_unsigned w p
converts U16 U16 w p e = whole_unsigned_pos w p

-- such an operation goes on
abbrev pub WorksIfAny : Option OpKind → Type 0
WorksIfAny None = ⊤
WorksIfAny (Some k) = IsWorked k

pub conversion_works : (to from : Ty) → WorksIfAny (conversion_kind to from)
conversion_works U8 U8 = tt
conversion_works U8 I8 = record { effect = λ op a b s. refl; next = λ n. refl }
conversion_works U8 I16 = record { effect = λ op a b s. refl; next = λ n. refl }
conversion_works U8 U16 = record { effect = λ op a b s. refl; next = λ n. refl }
conversion_works I8 U8 = record { effect = λ op a b s. refl; next = λ n. refl }
conversion_works I8 I8 = tt
conversion_works I8 I16 = record { effect = λ op a b s. refl; next = λ n. refl }
conversion_works I8 U16 = record { effect = λ op a b s. refl; next = λ n. refl }
conversion_works I16 U8 = tt
conversion_works I16 I8 = tt
conversion_works I16 I16 = tt
conversion_works I16 U16 = tt
conversion_works U16 U8 = tt
conversion_works U16 I8 = tt
conversion_works U16 I16 = tt
conversion_works U16 U16 = tt
