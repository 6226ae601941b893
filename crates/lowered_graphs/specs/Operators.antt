-- Which operation an operator or a conversion is.
use Rattle.std.specs.Prelude.{Bool, true, false, Option, Some, None}
use Rattle.c_values.specs.declared.ops.Ty.{Ty}
use Rattle.c_values.specs.declared.ops.Ty.TheVariants.{I8, U8, I16, U16}
use Rattle.c_values.specs.declared.ops.UnaryOp.{UnaryOp}
use Rattle.c_values.specs.declared.ops.UnaryOp.TheVariants as unary
use Rattle.c_values.specs.declared.ops.BinaryOp.{BinaryOp}
use Rattle.c_values.specs.declared.ops.BinaryOp.TheVariants as binary
use Rattle.base_io.specs.declared.place.Place.{Place}
use Rattle.flow_graph.specs.declared.graph.Operand.{Operand}
use Rattle.flow_graph.specs.declared.graph.OpKind.{OpKind}
use Rattle.flow_graph.specs.declared.graph.OpKind.TheVariants as kind
use Rattle.lowered_graphs.specs.Making.{Emit, pure, make_of, zero_operand}

-- the first where values of the type may be negative
abbrev pub by_sign : Ty → OpKind → OpKind → OpKind
by_sign I8 k l = k
by_sign I16 k l = k
by_sign U8 k l = l
by_sign U16 k l = l

abbrev pub binary_kind : BinaryOp → Ty → OpKind
binary_kind binary.Mul ty = kind.Mul
binary_kind binary.Div ty = by_sign ty kind.DivS kind.DivU
binary_kind binary.Rem ty = by_sign ty kind.RemS kind.RemU
binary_kind binary.Add ty = kind.Add
binary_kind binary.Sub ty = kind.Sub
binary_kind binary.Shl ty = kind.Shl
binary_kind binary.Shr ty = by_sign ty kind.ShrS kind.ShrU
binary_kind binary.Less ty = by_sign ty kind.LtS kind.LtU
binary_kind binary.Greater ty = by_sign ty kind.LtS kind.LtU
binary_kind binary.LessEq ty = by_sign ty kind.LeS kind.LeU
binary_kind binary.GreaterEq ty = by_sign ty kind.LeS kind.LeU
binary_kind binary.Equal ty = kind.Eq
binary_kind binary.NotEqual ty = kind.Ne
binary_kind binary.BitAnd ty = kind.BitAnd
binary_kind binary.BitXor ty = kind.BitXor
binary_kind binary.BitOr ty = kind.BitOr
binary_kind binary.And ty = kind.BitAnd
binary_kind binary.Or ty = kind.BitOr

-- `a > b` is `b < a`, and `a >= b` is `b <= a`
abbrev pub is_exchanged : BinaryOp → Bool
is_exchanged binary.Greater = true
is_exchanged binary.GreaterEq = true
is_exchanged _ = false

abbrev pub make_ordered : Bool → OpKind → Operand → Operand → Place → Emit Operand
make_ordered true k a b at = make_of k b a at
make_ordered false k a b at = make_of k a b at

-- an operator on words of the type `ty`; `&&` and `||` are none
abbrev pub make_binary : BinaryOp → Ty → Operand → Operand → Place → Emit Operand
make_binary op ty a b at = make_ordered (is_exchanged op) (binary_kind op ty) a b at

abbrev pub make_unary : UnaryOp → Operand → Place → Emit Operand
make_unary unary.Plus a at = pure a
make_unary unary.Minus a at = make_of kind.Neg a zero_operand at
make_unary unary.Inv a at = make_of kind.Inv a zero_operand at
make_unary unary.Not a at = make_of kind.Eq a zero_operand at

-- the operation of a conversion: none to 16 bits, nor where the value is known by its type to be in range
abbrev pub conversion_kind : (to : Ty) → (from : Ty) → Option OpKind
conversion_kind U8 U8 = None
conversion_kind U8 _ = Some kind.ToU8
conversion_kind I8 I8 = None
conversion_kind I8 _ = Some kind.ToS8
conversion_kind _ _ = None

abbrev pub make_some : Option OpKind → Operand → Place → Emit Operand
make_some None a at = pure a
make_some (Some k) a at = make_of k a zero_operand at

abbrev pub make_conversion : (to : Ty) → (from : Ty) → Operand → Place → Emit Operand
make_conversion to from a at = make_some (conversion_kind to from) a at
