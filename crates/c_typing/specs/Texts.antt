-- Which operator or type a token spells.
use Rattle.std.specs.Prelude.{ℕ, ◌∷◌, [], List, Bool, true, false, if◌then◌else◌, codes, ◌||◌}
use Rattle.std.specs.Str.{bytes_eq}
use Rattle.c_values.specs.declared.ops.Ty.{Ty}
use Rattle.c_values.specs.declared.ops.Ty.TheVariants.{I8, U8, I16, U16}
use Rattle.c_values.specs.declared.ops.UnaryOp.{UnaryOp}
use Rattle.c_values.specs.declared.ops.UnaryOp.TheVariants as unary
use Rattle.c_values.specs.declared.ops.BinaryOp.{BinaryOp}
use Rattle.c_values.specs.declared.ops.BinaryOp.TheVariants as binary

abbrev pub is_empty : List ℕ → Bool
is_empty [] = true
is_empty (_ ∷ _) = false

abbrev pub has : List ℕ → List (List ℕ) → Bool
has word [] = false
has word (other ∷ others) = bytes_eq other word || has word others

-- The words of a type stand in any order (C11 6.7.2): plain `char` is unsigned, `short` and `int` have sixteen bits.
abbrev pub type_of_words : List (List ℕ) → Ty
type_of_words words =
    if has (codes "uint8_t") words then U8 else
    if has (codes "int8_t") words then I8 else
    if has (codes "uint16_t") words then U16 else
    if has (codes "char") words then (if has (codes "signed") words then I8 else U8) else
    if has (codes "unsigned") words then U16 else I16

abbrev pub unary_op : List ℕ → UnaryOp
unary_op text =
    if bytes_eq text (codes "+") then unary.Plus else
    if bytes_eq text (codes "-") then unary.Minus else
    if bytes_eq text (codes "~") then unary.Inv else unary.Not

abbrev pub relation_op : List ℕ → BinaryOp
relation_op text =
    if bytes_eq text (codes "<") then binary.Less else
    if bytes_eq text (codes ">") then binary.Greater else
    if bytes_eq text (codes "<=") then binary.LessEq else
    if bytes_eq text (codes ">=") then binary.GreaterEq else
    if bytes_eq text (codes "==") then binary.Equal else
    if bytes_eq text (codes "!=") then binary.NotEqual else
    if bytes_eq text (codes "&&") then binary.And else binary.Or

abbrev pub binary_op : List ℕ → BinaryOp
binary_op text =
    if bytes_eq text (codes "*") then binary.Mul else
    if bytes_eq text (codes "/") then binary.Div else
    if bytes_eq text (codes "%") then binary.Rem else
    if bytes_eq text (codes "+") then binary.Add else
    if bytes_eq text (codes "-") then binary.Sub else
    if bytes_eq text (codes "<<") then binary.Shl else
    if bytes_eq text (codes ">>") then binary.Shr else
    if bytes_eq text (codes "&") then binary.BitAnd else
    if bytes_eq text (codes "^") then binary.BitXor else
    if bytes_eq text (codes "|") then binary.BitOr else relation_op text

-- the operator of an assignment with an operator
abbrev pub compound_op : List ℕ → BinaryOp
compound_op text =
    if bytes_eq text (codes "*=") then binary.Mul else
    if bytes_eq text (codes "/=") then binary.Div else
    if bytes_eq text (codes "%=") then binary.Rem else
    if bytes_eq text (codes "+=") then binary.Add else
    if bytes_eq text (codes "-=") then binary.Sub else
    if bytes_eq text (codes "<<=") then binary.Shl else
    if bytes_eq text (codes ">>=") then binary.Shr else
    if bytes_eq text (codes "&=") then binary.BitAnd else
    if bytes_eq text (codes "^=") then binary.BitXor else binary.BitOr

abbrev pub increment_op : List ℕ → BinaryOp
increment_op text = if bytes_eq text (codes "++") then binary.Add else binary.Sub
