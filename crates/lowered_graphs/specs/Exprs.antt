-- What an expression is lowered to (C11 6.5, operands from left to right). A number or a variable is an operand and has no operation, but for a global
-- scalar that is copied first where a later operand of the same full expression calls a function of the program.
use Rattle.std.specs.Prelude.{ℕ, ◌%◌, ◌^◌, ◌++◌, Bool, true, false, Option, Some, None, List, [], ◌∷◌, map, slice_get, slice_index_or, ◌||◌, ◌&&◌, if◌then◌else◌}
use Rattle.base_io.specs.declared.place.Place.{Place}
use Rattle.c_values.specs.declared.ops.Ty.{Ty}
use Rattle.c_values.specs.declared.ops.UnaryOp.{UnaryOp}
use Rattle.c_values.specs.declared.ops.BinaryOp.{BinaryOp}
use Rattle.c_values.specs.declared.ops.BinaryOp.TheVariants as binary
use Rattle.c_tree.specs.declared.tree.Variable.{Variable}
use Rattle.c_tree.specs.declared.tree.Expr.{Expr}
use Rattle.c_tree.specs.declared.tree.ExprKind.TheFolds.{fold-Expr}
use Rattle.c_tree.specs.declared.tree.ExprKind.TheOpen.{ExprKind-F, Expr-F}
use Rattle.c_tree.specs.declared.tree.Function.{Function}
use Rattle.c_tree.specs.declared.tree.Program.{Program}
use Rattle.c_tree.specs.Layer.{ExprLayer}
use Rattle.flow_graph.specs.declared.graph.Operand.{Operand}
use Rattle.flow_graph.specs.declared.graph.Operand.TheVariants.{Const, Object}
use Rattle.flow_graph.specs.declared.graph.OpKind.TheVariants as kind
use Rattle.flow_graph.specs.declared.graph.ArrayUse.{ArrayUse}
use Rattle.flow_graph.specs.declared.graph.Op.{Op}
use Rattle.flow_graph.specs.declared.graph.Item.{Item}
use Rattle.flow_graph.specs.declared.graph.Item.TheVariants as item
use Rattle.lowered_graphs.specs.declared.homes.Homes.{Homes}
use Rattle.lowered_graphs.specs.Making.{Emit, ◌>>=◌, ◌>>◌, pure, nothing, give, inside, zero_operand, op_of, numbered, one, temporary, make, make_of, copy_into, plain, test_of, go}
use Rattle.lowered_graphs.specs.Operators.{make_binary, make_unary, make_conversion}

pub record Setting : Type 0 where
  pub program : Program
  pub homes : Homes

abbrev pub setting_of : Program → Homes → Setting
setting_of p homes = record { program = p; homes = homes }

abbrev pub home_in : Homes → ℕ → ℕ
home_in homes x = slice_index_or homes.variables x 0

abbrev pub home : Setting → ℕ → ℕ
home s x = home_in s.homes x

abbrev pub result_home : Setting → ℕ → ℕ
result_home s f = slice_index_or s.homes.results f 0

abbrev pub place_of : Setting → ℕ → ℕ
place_of s f = slice_index_or s.homes.places f 0

abbrev pub is_global_in : Option Variable → Bool
is_global_in None = false
is_global_in (Some v) = v.global

abbrev pub is_global : Setting → ℕ → Bool
is_global s x = is_global_in (slice_get s.program.variables x)

abbrev pub length_or : Option ℕ → ℕ
length_or None = 1
length_or (Some n) = n

abbrev pub length_in : Option Variable → ℕ
length_in None = 0
length_in (Some v) = length_or v.length

abbrev pub array_use : Setting → ℕ → ArrayUse
array_use s x = record { object = home s x; length = length_in (slice_get s.program.variables x) }

-- What an expression is lowered to: its type, the functions that it calls, and its operations with the operand that holds its value, by whether a
-- later operand calls.
pub record LoweredExpr : Type 0 where
  pub ty : Ty
  pub callees : List ℕ
  pub emit : Bool → Emit Operand

abbrev pub has_any : {A : Type 0} → List A → Bool
has_any [] = false
has_any (x ∷ xs) = true

abbrev pub calls : LoweredExpr → Bool
calls e = has_any e.callees

abbrev pub callees_of : List LoweredExpr → List ℕ
callees_of [] = []
callees_of (e ∷ es) = e.callees ++ callees_of es

-- ---- variables

-- a scalar that stands before a call: what is called may write a global
abbrev pub read_scalar : Setting → ℕ → Place → Bool → Emit Operand
read_scalar s x at later = if later && is_global s x then make_of kind.Copy (Object (home s x)) zero_operand at else pure (Object (home s x))

abbrev pub load : Setting → ℕ → Operand → Place → Emit Operand
load s x i at = make kind.Load i zero_operand (Some (array_use s x)) at

-- ---- `&&`, `||` and `?:`

-- an arm that ends in its value, and goes on behind the branch
abbrev pub set_new : (Operand → ℕ → ℕ → Op) → Operand → Place → Emit ℕ
set_new f a at = temporary >>= (λ t. one (f a t) >> (one (go at) >> pure t))

-- a branch, and the temporary that its arms write
abbrev pub branched : Op → List Item → List Item → ℕ → Emit Operand
branched test a b t = give (item.Branch test a b) >> pure (Object t)

abbrev pub is_set_op : Place → Operand → ℕ → ℕ → Op
is_set_op at a t = op_of kind.Ne (Some t) a zero_operand None at

abbrev pub copy_op : Place → Operand → ℕ → ℕ → Op
copy_op at a t = op_of kind.Copy (Some t) a zero_operand None at

-- the arms of a branch: the one where the test is passed makes the temporary that both write
abbrev pub arms : Op → Emit ℕ → (ℕ → Emit (Unit {0})) → Emit Operand
arms test a b = inside a >>= (λ x. inside (b x.value) >>= (λ y. branched test x.items y.items x.value))

-- a value whose truth a new temporary takes, and the same for its word
abbrev pub new_truth : LoweredExpr → Place → Bool → Emit ℕ
new_truth e at later = e.emit later >>= (λ y. set_new (is_set_op at) y at)

abbrev pub new_copy : LoweredExpr → Place → Bool → Emit ℕ
new_copy e at later = e.emit later >>= (λ y. set_new (copy_op at) y at)

-- the same for a temporary that is there
abbrev pub truth_into : LoweredExpr → Place → Bool → ℕ → Emit (Unit {0})
truth_into e at later t = e.emit later >>= (λ y. one (is_set_op at y t))

abbrev pub copy_into_temporary : LoweredExpr → Place → Bool → ℕ → Emit (Unit {0})
copy_into_temporary e at later t = e.emit later >>= (λ y. one (copy_op at y t))

-- `a && b`: b's truth, or 0
abbrev pub both_arms : LoweredExpr → Place → Bool → Op → Emit Operand
both_arms b at later test = arms test (new_truth b at later) (λ t. one (copy_op at (Const 0) t))

abbrev pub both : LoweredExpr → LoweredExpr → Place → Bool → Emit Operand
both a b at later = a.emit (later || calls b) >>= (λ x. numbered (test_of x at) >>= both_arms b at later)

-- `a || b`: 1, or b's truth
abbrev pub either_arms : LoweredExpr → Place → Bool → Op → Emit Operand
either_arms b at later test = arms test (set_new (copy_op at) (Const 1) at) (truth_into b at later)

abbrev pub either_of : LoweredExpr → LoweredExpr → Place → Bool → Emit Operand
either_of a b at later = a.emit (later || calls b) >>= (λ x. numbered (test_of x at) >>= either_arms b at later)

abbrev pub choice_arms : LoweredExpr → LoweredExpr → Place → Bool → Op → Emit Operand
choice_arms a b at later test = arms test (new_copy a at (later || calls b)) (copy_into_temporary b at later)

abbrev pub choice : LoweredExpr → LoweredExpr → LoweredExpr → Place → Bool → Emit Operand
choice c a b at later = c.emit (later || (calls a || calls b)) >>= (λ x. numbered (test_of x at) >>= choice_arms a b at later)

abbrev pub second : BinaryOp → Ty → LoweredExpr → Place → Bool → Operand → Emit Operand
second op ty b at later x = b.emit later >>= (λ y. make_binary op ty x y at)

abbrev pub ordinary : BinaryOp → Ty → LoweredExpr → LoweredExpr → Place → Bool → Emit Operand
ordinary op ty a b at later = a.emit (later || calls b) >>= second op ty b at later

abbrev pub binary_of : BinaryOp → LoweredExpr → LoweredExpr → Place → Bool → Emit Operand
binary_of binary.And a b at later = both a b at later
binary_of binary.Or a b at later = either_of a b at later
binary_of op a b at later = ordinary op a.ty a b at later

-- ---- calls

-- the arguments' operands, behind those that are there
abbrev pub arguments_onto : List Operand → Bool → List LoweredExpr → Emit (List Operand)
arguments_onto xs later [] = pure xs
arguments_onto xs later (e ∷ es) = e.emit (later || has_any (callees_of es)) >>= (λ a. arguments_onto (xs ++ a ∷ []) later es)

-- each parameter takes its argument
abbrev pub copy_arguments : Setting → List ℕ → List Operand → Place → Emit (Unit {0})
copy_arguments s [] operands at = nothing
copy_arguments s (x ∷ xs) [] at = nothing
copy_arguments s (x ∷ xs) (a ∷ operands) at = copy_into (home s x) a at >> copy_arguments s xs operands at

abbrev pub call_to : Setting → ℕ → Place → Emit (Unit {0})
call_to s f at = numbered (plain kind.Call zero_operand at) >>= (λ op. give (item.CallTo op (place_of s f)))

abbrev pub take_result : Setting → ℕ → Option Ty → Place → Emit Operand
take_result s f None at = pure zero_operand
take_result s f (Some ty) at = make_of kind.Copy (Object (result_home s f)) zero_operand at

abbrev pub call : Setting → ℕ → Option Function → List Operand → Place → Emit Operand
call s f None operands at = pure zero_operand
call s f (Some fn) operands at = copy_arguments s fn.params operands at >> (call_to s f at >> take_result s f fn.result at)

-- ---- expressions

abbrev pub KindOf : Type 0
KindOf = Place → Ty → LoweredExpr

abbrev pub output : Operand → Place → Emit Operand
output a at = one (plain kind.Output a at) >> pure zero_operand

abbrev pub conversion : (to : Ty) → (from : Ty) → LoweredExpr → Place → Bool → Emit Operand
conversion to from e at later = e.emit later >>= (λ a. make_conversion to from a at)

abbrev pub unary : UnaryOp → LoweredExpr → Place → Bool → Emit Operand
unary op a at later = a.emit later >>= (λ x. make_unary op x at)

abbrev pub put : LoweredExpr → Place → Bool → Emit Operand
put e at later = e.emit later >>= (λ a. output a at)

-- a level of an expression of the type `ty`, by what its parts are lowered to; a call of `out` has no value
abbrev pub emit_by : Setting → ExprKind-F KindOf LoweredExpr → Place → Ty → Bool → Emit Operand
emit_by s (ExprKind-F.Number w) at ty later = pure (Const (w % 2 ^ 16))
emit_by s (ExprKind-F.Var x) at ty later = read_scalar s x at later
emit_by s (ExprKind-F.Element x i) at ty later = i.emit later >>= (λ a. load s x a at)
emit_by s (ExprKind-F.Convert e) at ty later = conversion ty e.ty e at later
emit_by s (ExprKind-F.Unary op a) at ty later = unary op a at later
emit_by s (ExprKind-F.Binary op a b) at ty later = binary_of op a b at later
emit_by s (ExprKind-F.Cond c a b) at ty later = choice c a b at later
emit_by s (ExprKind-F.Call f args) at ty later = arguments_onto [] later args >>= (λ operands. call s f (slice_get s.program.functions f) operands at)
emit_by s ExprKind-F.Input at ty later = make_of kind.Input zero_operand zero_operand at
emit_by s (ExprKind-F.Output e) at ty later = put e at later

abbrev pub callees_by : ExprKind-F KindOf LoweredExpr → List ℕ
callees_by (ExprKind-F.Number w) = []
callees_by (ExprKind-F.Var x) = []
callees_by (ExprKind-F.Element x i) = i.callees
callees_by (ExprKind-F.Convert e) = e.callees
callees_by (ExprKind-F.Unary op a) = a.callees
callees_by (ExprKind-F.Binary op a b) = a.callees ++ b.callees
callees_by (ExprKind-F.Cond c a b) = c.callees ++ (a.callees ++ b.callees)
callees_by (ExprKind-F.Call f args) = callees_of args ++ f ∷ []
callees_by ExprKind-F.Input = []
callees_by (ExprKind-F.Output e) = e.callees

abbrev pub lowered_by : Setting → ExprKind-F KindOf LoweredExpr → KindOf
lowered_by s k at ty = record { ty = ty; callees = callees_by k; emit = emit_by s k at ty }

abbrev pub own_lowered : Expr-F KindOf LoweredExpr → LoweredExpr
own_lowered x = x.kind x.place x.ty

unfoldable pub lowered : Setting → Expr → LoweredExpr
lowered s e = fold-Expr KindOf LoweredExpr (lowered_by s) own_lowered e

-- a full expression: no operand stands behind it
abbrev pub full : Setting → Expr → Emit Operand
full s e = (lowered s e).emit false

-- what the parts of a level are lowered to
abbrev pub parts : Setting → ExprLayer → ExprKind-F KindOf LoweredExpr
parts s (ExprKind-F.Number w) = ExprKind-F.Number w
parts s (ExprKind-F.Var x) = ExprKind-F.Var x
parts s (ExprKind-F.Element x i) = ExprKind-F.Element x (lowered s i)
parts s (ExprKind-F.Convert e) = ExprKind-F.Convert (lowered s e)
parts s (ExprKind-F.Unary op a) = ExprKind-F.Unary op (lowered s a)
parts s (ExprKind-F.Binary op a b) = ExprKind-F.Binary op (lowered s a) (lowered s b)
parts s (ExprKind-F.Cond c a b) = ExprKind-F.Cond (lowered s c) (lowered s a) (lowered s b)
parts s (ExprKind-F.Call f args) = ExprKind-F.Call f (map (lowered s) args)
parts s ExprKind-F.Input = ExprKind-F.Input
parts s (ExprKind-F.Output e) = ExprKind-F.Output (lowered s e)
