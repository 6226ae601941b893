-- Loops of a known number of turns: `for (T i = a; i < b; i++)`, with `++i` or `i += 1` as well, where a and b are constant expressions from 0 up to the
-- greatest value of T, and the body neither assigns to i nor leaves the loop, goes on to its step, or returns.
use Rattle.std.specs.Prelude.{ℕ, ◌-◌, ◌%◌, ◌^◌, Bool, true, false, Option, Some, None, List, [], ◌∷◌, map, slice_get, is_none, ◌==◌, ◌&&◌, nat_le, ℤ, pos, negsuc, if◌then◌else◌}
use Rattle.std.specs.Option.{option_map, option_and_then}
use Rattle.base_io.specs.declared.place.Place.{Place}
use Rattle.c_values.specs.declared.ops.Ty.{Ty}
use Rattle.c_values.specs.declared.ops.Ty.TheVariants.{I8, U8, I16, U16}
use Rattle.c_values.specs.declared.ops.BinaryOp.{BinaryOp}
use Rattle.c_values.specs.declared.ops.BinaryOp.TheVariants as binary
use Rattle.c_values.specs.Values.{Worked, Gives, Traps, value, converted, from_test, is_set, unary_of, binary_of}
use Rattle.c_tree.specs.Nodes.{same_type, decides}
use Rattle.c_tree.specs.declared.tree.Variable.{Variable}
use Rattle.c_tree.specs.declared.tree.Expr.{Expr}
use Rattle.c_tree.specs.declared.tree.ExprKind.{out-ExprKind}
use Rattle.c_tree.specs.declared.tree.ExprKind.TheFolds.{fold-Expr}
use Rattle.c_tree.specs.declared.tree.ExprKind.TheOpen.{ExprKind-F, Expr-F}
use Rattle.c_tree.specs.declared.tree.Action.{Action}
use Rattle.c_tree.specs.declared.tree.Action.TheVariants as action
use Rattle.c_tree.specs.declared.tree.Declared.{Declared}
use Rattle.c_tree.specs.declared.tree.ForFirst.{ForFirst}
use Rattle.c_tree.specs.declared.tree.ForFirst.TheVariants as first
use Rattle.c_tree.specs.declared.tree.Program.{Program}
use Rattle.c_tree.specs.Layer.{ExprLayer}
use Rattle.lowered_graphs.specs.declared.loops.Count.{Count}

-- ---- constant expressions: literals, unary operators and casts, binary operators, and the conversions that these imply (C11 6.6)

-- of an expression: its type, whether it is made of such parts, and its word, unless it traps
pub record Constant : Type 0 where
  pub ty : Ty
  pub made : Bool
  pub word : Option ℕ

abbrev pub given : Worked → Option ℕ
given (Gives w) = Some w
given (Traps t) = None

-- the second operand is not evaluated where the first decides
abbrev pub second_word : BinaryOp → Constant → Constant → ℕ → Option ℕ
second_word op a b x = if decides op x then Some (from_test (is_set x)) else option_and_then (λ y. given (binary_of a.ty b.ty op x y)) b.word

abbrev pub KindConstant : Type 0
KindConstant = Ty → Constant

abbrev pub is_made : ExprKind-F KindConstant Constant → Bool
is_made (ExprKind-F.Number w) = true
is_made (ExprKind-F.Convert e) = e.made
is_made (ExprKind-F.Unary op a) = a.made
is_made (ExprKind-F.Binary op a b) = a.made && b.made
is_made _ = false

abbrev pub word_by : Ty → ExprKind-F KindConstant Constant → Option ℕ
word_by ty (ExprKind-F.Number w) = Some (w % 2 ^ 16)
word_by ty (ExprKind-F.Convert e) = option_map (converted ty e.ty) e.word
word_by ty (ExprKind-F.Unary op a) = option_map (unary_of a.ty op) a.word
word_by ty (ExprKind-F.Binary op a b) = option_and_then (second_word op a b) a.word
word_by ty _ = None

abbrev pub constant_by : ExprKind-F KindConstant Constant → KindConstant
constant_by k ty = record { ty = ty; made = is_made k; word = word_by ty k }

abbrev pub own_constant : Expr-F KindConstant Constant → Constant
own_constant x = x.kind x.ty

unfoldable pub constant : Expr → Constant
constant e = fold-Expr KindConstant Constant constant_by own_constant e

-- what is known of the parts of a level
abbrev pub constant_parts : ExprLayer → ExprKind-F KindConstant Constant
constant_parts (ExprKind-F.Number w) = ExprKind-F.Number w
constant_parts (ExprKind-F.Var x) = ExprKind-F.Var x
constant_parts (ExprKind-F.Element x i) = ExprKind-F.Element x (constant i)
constant_parts (ExprKind-F.Convert e) = ExprKind-F.Convert (constant e)
constant_parts (ExprKind-F.Unary op a) = ExprKind-F.Unary op (constant a)
constant_parts (ExprKind-F.Binary op a b) = ExprKind-F.Binary op (constant a) (constant b)
constant_parts (ExprKind-F.Cond c a b) = ExprKind-F.Cond (constant c) (constant a) (constant b)
constant_parts (ExprKind-F.Call f args) = ExprKind-F.Call f (map constant args)
constant_parts ExprKind-F.Input = ExprKind-F.Input
constant_parts (ExprKind-F.Output e) = ExprKind-F.Output (constant e)

-- ---- what the text says, without the conversions that it implies

abbrev pub same_place : Place → Place → Bool
same_place a b = (a.line == b.line) && (a.column == b.column)

-- a conversion that is implied has the place of its operand; one that is written stands before it
abbrev pub inner_of : Expr → ExprLayer → Expr
inner_of e (ExprKind-F.Convert a) = if same_place e.place a.place then a else e
inner_of e _ = e

-- an expression has at most one implied conversion
abbrev pub as_written : Expr → Expr
as_written e = inner_of e (out-ExprKind e.kind)

abbrev pub greatest : Ty → ℕ
greatest I8 = 127
greatest U8 = 255
greatest I16 = 32767
greatest U16 = 65535

abbrev pub at_most : ℕ → ℤ → Option ℕ
at_most n (pos k) = if nat_le k n then Some k else None
at_most n (negsuc k) = None

abbrev pub bound_of : Ty → Constant → Option ℕ
bound_of ty c = if c.made then option_and_then (λ w. at_most (greatest ty) (value c.ty w)) c.word else None

-- a bound as it is written: a constant expression whose value is from 0 up to the greatest of the type
abbrev pub bound : Ty → Expr → Option ℕ
bound ty e = bound_of ty (constant (as_written e))

-- ---- the parts of such a loop

abbrev pub is_variable : ℕ → ExprLayer → Bool
is_variable x (ExprKind-F.Var y) = x == y
is_variable x _ = false

abbrev pub is_named : ℕ → Expr → Bool
is_named x e = is_variable x (out-ExprKind (as_written e).kind)

abbrev pub is_one : ExprLayer → Bool
is_one (ExprKind-F.Number w) = w == 1
is_one _ = false

abbrev pub is_int_one : Expr → Bool
is_int_one e = same_type e.ty I16 && is_one (out-ExprKind e.kind)

abbrev pub by_one : Option Expr → Bool
by_one None = true
by_one (Some e) = is_int_one (as_written e)

abbrev pub is_add : BinaryOp → Bool
is_add binary.Add = true
is_add _ = false

abbrev pub steps_up : ℕ → Option Action → Bool
steps_up x None = false
steps_up x (Some (action.Update to at op ty by)) = (to.variable == x) && (is_none to.index && (is_add op && by_one by))
steps_up x (Some _) = false

abbrev pub below_by : ℕ → Ty → ExprLayer → Option ℕ
below_by x ty (ExprKind-F.Binary binary.Less a b) = if is_named x a && nat_le (greatest ty) (greatest a.ty) then bound ty b else None
below_by x ty _ = None

abbrev pub below : ℕ → Ty → Option Expr → Option ℕ
below x ty None = None
below x ty (Some e) = below_by x ty (out-ExprKind e.kind)

-- how often the body is run
abbrev pub turns : Count → ℕ
turns c = c.to - c.from

abbrev pub count_to : Declared → ℕ → Option ℕ → Option Count
count_to d a None = None
count_to d a (Some b) = Some (record { variable = d.variable; place = d.place; from = a; to = b })

abbrev pub count_from : Declared → Ty → Option Expr → Option ℕ → Option Count
count_from d ty test None = None
count_from d ty test (Some a) = count_to d a (below d.variable ty test)

abbrev pub count_scalar : Declared → Option Variable → List Expr → Option Expr → Option Count
count_scalar d (Some v) (e ∷ []) test = if is_none v.length then count_from d v.ty test (bound v.ty e) else None
count_scalar d _ _ test = None

abbrev pub count_declared : Program → Declared → Option Expr → Option Action → Option Count
count_declared p d test step = if steps_up d.variable step then count_scalar d (slice_get p.variables d.variable) d.values test else None

-- the head of such a loop
abbrev pub count_head : Program → Option ForFirst → Option Expr → Option Action → Option Count
count_head p (Some (first.Declare (d ∷ []))) test step = count_declared p d test step
count_head p _ test step = None
