-- An expression as its first operand and what comes behind it.
use Rattle.std.specs.Prelude.{ℕ, ◌%◌, ◌^◌, Bool, ◌||◌, ◌++◌, List, [], ◌∷◌, map, slice_get}
use Rattle.base_io.specs.declared.place.Place.{Place}
use Rattle.c_values.specs.declared.ops.Ty.{Ty}
use Rattle.c_values.specs.declared.ops.BinaryOp.{BinaryOp}
use Rattle.c_values.specs.declared.ops.BinaryOp.TheVariants as binary
use Rattle.c_tree.specs.declared.tree.Expr.{Expr}
use Rattle.c_tree.specs.declared.tree.ExprKind.{out-ExprKind}
use Rattle.c_tree.specs.declared.tree.ExprKind.TheOpen.{ExprKind-F}
use Rattle.c_tree.specs.Layer.{ExprLayer}
use Rattle.flow_graph.specs.declared.graph.Operand.{Operand}
use Rattle.flow_graph.specs.declared.graph.Operand.TheVariants.{Const}
use Rattle.flow_graph.specs.declared.graph.OpKind.TheVariants as kind
use Rattle.lowered_graphs.specs.Making.{Emit, ◌>>=◌, pure, zero_operand, numbered, make_of, test_of}
use Rattle.lowered_graphs.specs.Operators.{make_conversion, make_unary}
use Rattle.lowered_graphs.specs.Exprs.{Setting, LoweredExpr, lowered, calls, callees_of, read_scalar, load, output, arguments_onto, call, second, both_arms, either_arms, choice_arms}

-- whether an operand behind the first one calls, or one behind the expression
abbrev pub late_first : Setting → ExprLayer → Bool → Bool
late_first s (ExprKind-F.Binary op a b) later = later || calls (lowered s b)
late_first s (ExprKind-F.Cond c a b) later = later || (calls (lowered s a) || calls (lowered s b))
late_first s _ later = later

-- what comes behind the first operand of an operator
abbrev pub behind_first : BinaryOp → Ty → LoweredExpr → Place → Bool → Operand → Emit Operand
behind_first binary.And ty b at later x = numbered (test_of x at) >>= both_arms b at later
behind_first binary.Or ty b at later x = numbered (test_of x at) >>= either_arms b at later
behind_first op ty b at later x = second op ty b at later x

abbrev pub behind_test : LoweredExpr → LoweredExpr → Place → Bool → Operand → Emit Operand
behind_test a b at later x = numbered (test_of x at) >>= choice_arms a b at later

-- what comes behind the first operand
abbrev pub rest_of : Setting → ExprLayer → Place → Ty → Bool → Operand → Emit Operand
rest_of s (ExprKind-F.Element x i) at ty later a = load s x a at
rest_of s (ExprKind-F.Convert e) at ty later a = make_conversion ty e.ty a at
rest_of s (ExprKind-F.Unary op e) at ty later a = make_unary op a at
rest_of s (ExprKind-F.Binary op a b) at ty later x = behind_first op a.ty (lowered s b) at later x
rest_of s (ExprKind-F.Cond c a b) at ty later x = behind_test (lowered s a) (lowered s b) at later x
rest_of s (ExprKind-F.Output e) at ty later a = output a at
rest_of s _ at ty later a = pure a

-- an expression, and whether what stands behind it calls
pub record Waiting : Type 0 where
  pub expr : Expr
  pub later : Bool

abbrev pub waiting : Expr → Bool → Waiting
waiting e later = record { expr = e; later = later }

-- what comes behind the operand that is the first of the first of these, which is that of the next, and so on
abbrev pub rests_of : Setting → List Waiting → Operand → Emit Operand
rests_of s [] x = pure x
rests_of s (w ∷ ws) x = rest_of s (out-ExprKind w.expr.kind) w.expr.place w.expr.ty w.later x >>= rests_of s ws

-- the functions that are called behind the first operand, and by the expression itself
abbrev pub behind_callees : Setting → ExprLayer → List ℕ
behind_callees s (ExprKind-F.Binary op a b) = (lowered s b).callees
behind_callees s (ExprKind-F.Cond c a b) = (lowered s a).callees ++ (lowered s b).callees
behind_callees s (ExprKind-F.Call f args) = callees_of (map (lowered s) args) ++ f ∷ []
behind_callees s _ = []

abbrev pub call_of : Setting → ℕ → List LoweredExpr → Place → Bool → Emit Operand
call_of s f args at later = arguments_onto [] later args >>= (λ operands. call s f (slice_get s.program.functions f) operands at)

-- what an expression is lowered to that has no first operand
abbrev pub leaf_of : Setting → ExprLayer → Place → Bool → Emit Operand
leaf_of s (ExprKind-F.Number w) at later = pure (Const (w % 2 ^ 16))
leaf_of s (ExprKind-F.Var x) at later = read_scalar s x at later
leaf_of s (ExprKind-F.Call f args) at later = call_of s f (map (lowered s) args) at later
leaf_of s ExprKind-F.Input at later = make_of kind.Input zero_operand zero_operand at
leaf_of s _ at later = pure zero_operand

-- an expression, and then what comes behind it
abbrev pub waited : Setting → Expr → Bool → List Waiting → Emit Operand
waited s e later ws = (lowered s e).emit later >>= rests_of s ws
