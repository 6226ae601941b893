-- The types of operands and results (C11 6.3.1.1, 6.3.1.8 and 6.5.3.3 to 6.5.14).
use Rattle.std.specs.Prelude.{ℕ, Bool, true, false, if◌then◌else◌}
use Rattle.c_values.specs.declared.ops.Ty.{Ty}
use Rattle.c_values.specs.declared.ops.Ty.TheVariants.{I8, U8, I16, U16}
use Rattle.c_values.specs.declared.ops.UnaryOp.{UnaryOp}
use Rattle.c_values.specs.declared.ops.UnaryOp.TheVariants as unary
use Rattle.c_values.specs.declared.ops.BinaryOp.{BinaryOp}
use Rattle.c_values.specs.declared.ops.BinaryOp.TheVariants as binary

-- integer promotion (C11 6.3.1.1): an int holds each value of a type of 8 bits; `short` and `int` are both of 16 bits
abbrev pub promoted : Ty → Ty
promoted I8 = I16
promoted U8 = I16
promoted I16 = I16
promoted U16 = U16

-- of two promoted types, unsigned int where one of them is (C11 6.3.1.8)
abbrev pub unsigned_if_one_is : Ty → Ty → Ty
unsigned_if_one_is I16 I16 = I16
unsigned_if_one_is _ _ = U16

-- the common type of two operands: each is promoted, and then the signed one gives way
abbrev pub common : Ty → Ty → Ty
common a b = unsigned_if_one_is (promoted a) (promoted b)

-- How an operator takes its operands: as they are where it only tests them (C11 6.5.13, 6.5.14), each promoted by itself
-- where they are shifts' (6.5.7), and else both in their common type.
pub data Taken : Type 0 where
  AsTheyAre : Taken
  EachPromoted : Taken
  InCommon : Taken

abbrev pub taken_by : BinaryOp → Taken
taken_by binary.And = AsTheyAre
taken_by binary.Or = AsTheyAre
taken_by binary.Shl = EachPromoted
taken_by binary.Shr = EachPromoted
taken_by _ = InCommon

abbrev pub left_taken : Taken → Ty → Ty → Ty
left_taken AsTheyAre a b = a
left_taken EachPromoted a b = promoted a
left_taken InCommon a b = common a b

abbrev pub right_taken : Taken → Ty → Ty → Ty
right_taken AsTheyAre a b = b
right_taken EachPromoted a b = promoted b
right_taken InCommon a b = common a b

-- the type to which the first operand is converted, of operands of the types a and b
abbrev pub left_type : BinaryOp → Ty → Ty → Ty
left_type op a b = left_taken (taken_by op) a b

-- the type to which the second operand is converted
abbrev pub right_type : BinaryOp → Ty → Ty → Ty
right_type op a b = right_taken (taken_by op) a b

-- a comparison, `&&` and `||` give an int, 0 or 1 (C11 6.5.8, 6.5.9, 6.5.13, 6.5.14)
abbrev pub is_test : BinaryOp → Bool
is_test binary.Less = true
is_test binary.Greater = true
is_test binary.LessEq = true
is_test binary.GreaterEq = true
is_test binary.Equal = true
is_test binary.NotEqual = true
is_test binary.And = true
is_test binary.Or = true
is_test _ = false

-- the type of the result: an int of a test, and else the type of the converted first operand
abbrev pub result_type : BinaryOp → Ty → Ty → Ty
result_type op a b = if is_test op then I16 else left_type op a b

-- the type to which the one operand is converted: `!` tests it as it is, the others promote it (C11 6.5.3.3)
abbrev pub operand_type : UnaryOp → Ty → Ty
operand_type unary.Not ty = ty
operand_type _ ty = promoted ty

-- the type of the result: `!` gives an int
abbrev pub unary_type : UnaryOp → Ty → Ty
unary_type unary.Not ty = I16
unary_type _ ty = promoted ty
