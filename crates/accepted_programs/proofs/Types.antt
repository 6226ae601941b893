-- The types that the rules give operands and results are those that a sound program has.
use Rattle.std.proofs.Common.{◌≡◌, refl, true, Some}
use Rattle.c_values.specs.declared.ops.Ty.{Ty}
use Rattle.c_values.specs.declared.ops.Ty.TheVariants.{I8, U8, I16, U16}
use Rattle.c_values.specs.declared.ops.UnaryOp.{UnaryOp}
use Rattle.c_values.specs.declared.ops.UnaryOp.TheVariants as unary
use Rattle.c_values.specs.declared.ops.BinaryOp.{BinaryOp}
use Rattle.c_values.specs.declared.ops.BinaryOp.TheVariants as binary
use Rattle.c_tree.specs.Nodes.{same_type}
use Rattle.c_typing.specs.Conversions.{promoted, common, left_type, right_type, result_type, operand_type, unary_type}
use Rattle.sound_programs.specs.Sound.{unary_fits, binary_fits, choice_fits}

pub same_refl : (a : Ty) → same_type a a ≡ true
same_refl I8 = refl
same_refl U8 = refl
same_refl I16 = refl
same_refl U16 = refl

pub same_is : (a b : Ty) → same_type a b ≡ true → a ≡ b
same_is I8 I8 h = refl
same_is U8 U8 h = refl
same_is I16 I16 h = refl
same_is U16 U16 h = refl
same_is I8 U8 h = cc
same_is I8 I16 h = cc
same_is I8 U16 h = cc
same_is U8 I8 h = cc
same_is U8 I16 h = cc
same_is U8 U16 h = cc
same_is I16 I8 h = cc
same_is I16 U8 h = cc
same_is I16 U16 h = cc
same_is U16 I8 h = cc
same_is U16 U8 h = cc
same_is U16 I16 h = cc

-- a promoted type is one of two
pub by_promoted : (P : Ty → Type 0) → P I16 → P U16 → (a : Ty) → P (promoted a)
by_promoted P p q I8 = p
by_promoted P p q U8 = p
by_promoted P p q I16 = p
by_promoted P p q U16 = q

-- and so is a common one
pub by_common : (P : Ty → Type 0) → P I16 → P U16 → (a b : Ty) → P (common a b)
by_common P p q I8 I8 = p
by_common P p q I8 U8 = p
by_common P p q I8 I16 = p
by_common P p q I8 U16 = q
by_common P p q U8 I8 = p
by_common P p q U8 U8 = p
by_common P p q U8 I16 = p
by_common P p q U8 U16 = q
by_common P p q I16 I8 = p
by_common P p q I16 U8 = p
by_common P p q I16 I16 = p
by_common P p q I16 U16 = q
by_common P p q U16 I8 = q
by_common P p q U16 U8 = q
by_common P p q U16 I16 = q
by_common P p q U16 U16 = q

pub unary_ok : (op : UnaryOp) (a : Ty) → unary_fits op (Some (Some (operand_type op a))) (unary_type op a) ≡ true
unary_ok unary.Not a = refl
unary_ok unary.Plus a = by_promoted (λ c. unary_fits unary.Plus (Some (Some c)) c ≡ true) refl refl a
unary_ok unary.Minus a = by_promoted (λ c. unary_fits unary.Minus (Some (Some c)) c ≡ true) refl refl a
unary_ok unary.Inv a = by_promoted (λ c. unary_fits unary.Inv (Some (Some c)) c ≡ true) refl refl a

pub binary_ok : (op : BinaryOp) (a b : Ty) → binary_fits op (Some (Some (left_type op a b))) (Some (Some (right_type op a b))) (result_type op a b) ≡ true
binary_ok binary.Mul a b = by_common (λ c. binary_fits binary.Mul (Some (Some c)) (Some (Some c)) c ≡ true) refl refl a b
binary_ok binary.Div a b = by_common (λ c. binary_fits binary.Div (Some (Some c)) (Some (Some c)) c ≡ true) refl refl a b
binary_ok binary.Rem a b = by_common (λ c. binary_fits binary.Rem (Some (Some c)) (Some (Some c)) c ≡ true) refl refl a b
binary_ok binary.Add a b = by_common (λ c. binary_fits binary.Add (Some (Some c)) (Some (Some c)) c ≡ true) refl refl a b
binary_ok binary.Sub a b = by_common (λ c. binary_fits binary.Sub (Some (Some c)) (Some (Some c)) c ≡ true) refl refl a b
binary_ok binary.Shl a b = by_promoted (λ c. binary_fits binary.Shl (Some (Some c)) (Some (Some (promoted b))) c ≡ true) (by_promoted (λ d. binary_fits binary.Shl (Some (Some I16)) (Some (Some d)) I16 ≡ true) refl refl b) (by_promoted (λ d. binary_fits binary.Shl (Some (Some U16)) (Some (Some d)) U16 ≡ true) refl refl b) a
binary_ok binary.Shr a b = by_promoted (λ c. binary_fits binary.Shr (Some (Some c)) (Some (Some (promoted b))) c ≡ true) (by_promoted (λ d. binary_fits binary.Shr (Some (Some I16)) (Some (Some d)) I16 ≡ true) refl refl b) (by_promoted (λ d. binary_fits binary.Shr (Some (Some U16)) (Some (Some d)) U16 ≡ true) refl refl b) a
binary_ok binary.Less a b = by_common (λ c. binary_fits binary.Less (Some (Some c)) (Some (Some c)) I16 ≡ true) refl refl a b
binary_ok binary.Greater a b = by_common (λ c. binary_fits binary.Greater (Some (Some c)) (Some (Some c)) I16 ≡ true) refl refl a b
binary_ok binary.LessEq a b = by_common (λ c. binary_fits binary.LessEq (Some (Some c)) (Some (Some c)) I16 ≡ true) refl refl a b
binary_ok binary.GreaterEq a b = by_common (λ c. binary_fits binary.GreaterEq (Some (Some c)) (Some (Some c)) I16 ≡ true) refl refl a b
binary_ok binary.Equal a b = by_common (λ c. binary_fits binary.Equal (Some (Some c)) (Some (Some c)) I16 ≡ true) refl refl a b
binary_ok binary.NotEqual a b = by_common (λ c. binary_fits binary.NotEqual (Some (Some c)) (Some (Some c)) I16 ≡ true) refl refl a b
binary_ok binary.BitAnd a b = by_common (λ c. binary_fits binary.BitAnd (Some (Some c)) (Some (Some c)) c ≡ true) refl refl a b
binary_ok binary.BitXor a b = by_common (λ c. binary_fits binary.BitXor (Some (Some c)) (Some (Some c)) c ≡ true) refl refl a b
binary_ok binary.BitOr a b = by_common (λ c. binary_fits binary.BitOr (Some (Some c)) (Some (Some c)) c ≡ true) refl refl a b
binary_ok binary.And a b = refl
binary_ok binary.Or a b = refl

pub choice_ok : (c a b : Ty) → choice_fits (Some (Some c)) (Some (Some (common a b))) (Some (Some (common a b))) (common a b) ≡ true
choice_ok c a b = by_common (λ t. choice_fits (Some (Some c)) (Some (Some t)) (Some (Some t)) t ≡ true) refl refl a b
