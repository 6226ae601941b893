-- Which programs are sound: they name only what they have, and use it with its types (C11 6.5 to 6.9).
use Rattle.std.specs.Prelude.{◌≡◌, ℕ, ◌+◌, ◌<◌, ◌≤◌, ◌^◌, Bool, true, false, not, Option, Some, None, List, [], ◌∷◌, map, length, slice_get, is_none, is_some, nat_le, nat_lt, ◌&&◌, ◌||◌, if◌then◌else◌}
use Rattle.base_io.specs.declared.place.Place.{Place}
use Rattle.c_values.specs.declared.ops.Ty.{Ty}
use Rattle.c_values.specs.declared.ops.Ty.TheVariants.{I8, U8, I16, U16}
use Rattle.c_values.specs.declared.ops.UnaryOp.{UnaryOp}
use Rattle.c_values.specs.declared.ops.UnaryOp.TheVariants as unary
use Rattle.c_values.specs.declared.ops.BinaryOp.{BinaryOp}
use Rattle.c_values.specs.declared.ops.BinaryOp.TheVariants as binary
use Rattle.c_tree.specs.declared.tree.Variable.{Variable}
use Rattle.c_tree.specs.declared.tree.Expr.{Expr}
use Rattle.c_tree.specs.declared.tree.ExprKind.TheFolds.{fold-Expr}
use Rattle.c_tree.specs.declared.tree.ExprKind.TheOpen.{ExprKind-F, Expr-F}
use Rattle.c_tree.specs.declared.tree.Target.{Target}
use Rattle.c_tree.specs.declared.tree.Action.{Action}
use Rattle.c_tree.specs.declared.tree.Action.TheVariants as action
use Rattle.c_tree.specs.declared.tree.Declared.{Declared}
use Rattle.std.specs.Option.{option_map}
use Rattle.c_tree.specs.declared.tree.Stmt.{Stmt}
use Rattle.c_tree.specs.declared.tree.Group.{Group}
use Rattle.c_tree.specs.declared.tree.BlockItem.{BlockItem}
use Rattle.c_tree.specs.declared.tree.BlockItem.TheFolds.{fold-Stmt, fold-BlockItem, fold-Group}
use Rattle.c_tree.specs.declared.tree.BlockItem.TheOpen.{StmtKind-F, BlockItem-F, Group-F, Stmt-F}
use Rattle.c_tree.specs.declared.tree.ForFirst.{ForFirst}
use Rattle.c_tree.specs.declared.tree.ForFirst.TheVariants as first
use Rattle.c_tree.specs.declared.tree.Label.{Label}
use Rattle.c_tree.specs.declared.tree.Function.{Function}
use Rattle.c_tree.specs.declared.tree.Program.{Program}
use Rattle.c_tree.specs.Layer.{ExprLayer, StmtLayer, ItemLayer}
use Rattle.c_tree.specs.Nodes.{same_type}

-- ---- types

-- What is known of an expression: nothing where it isn't well typed, and else the type of its value, which is none where it is void.
abbrev pub Typing : Type 0
Typing = Option (Option Ty)

abbrev pub value_if : Bool → Ty → Typing
value_if true ty = Some (Some ty)
value_if false ty = None

abbrev pub void_if : Bool → Typing
void_if true = Some None
void_if false = None

-- it is well typed and has a value
abbrev pub has_value : Typing → Bool
has_value None = false
has_value (Some None) = false
has_value (Some (Some ty)) = true

-- it has a value of this type
abbrev pub has_type : Ty → Typing → Bool
has_type ty None = false
has_type ty (Some None) = false
has_type ty (Some (Some other)) = same_type ty other

-- the types that integer promotion gives (C11 6.3.1.1)
abbrev pub is_promoted : Ty → Bool
is_promoted I8 = false
is_promoted U8 = false
is_promoted I16 = true
is_promoted U16 = true

abbrev pub promoted : Ty → Ty
promoted I8 = I16
promoted U8 = I16
promoted I16 = I16
promoted U16 = U16

abbrev pub has_promoted : Typing → Bool
has_promoted t = has_type I16 t || has_type U16 t

-- both operands are converted to their common type (C11 6.3.1.8)
abbrev pub have_common : Typing → Typing → Bool
have_common a b = (has_type I16 a && has_type I16 b) || (has_type U16 a && has_type U16 b)

-- ---- operators

-- `&&` and `||`, which only test their operands (C11 6.5.13, 6.5.14)
abbrev pub is_test : BinaryOp → Bool
is_test binary.And = true
is_test binary.Or = true
is_test _ = false

-- shifts, whose operands are promoted each by itself (C11 6.5.7)
abbrev pub is_shift : BinaryOp → Bool
is_shift binary.Shl = true
is_shift binary.Shr = true
is_shift _ = false

-- comparisons, which give an int (C11 6.5.8, 6.5.9)
abbrev pub is_comparison : BinaryOp → Bool
is_comparison binary.Less = true
is_comparison binary.Greater = true
is_comparison binary.LessEq = true
is_comparison binary.GreaterEq = true
is_comparison binary.Equal = true
is_comparison binary.NotEqual = true
is_comparison _ = false

-- an operator of one operand, and the type of its result: `!` takes its operand as it is (C11 6.5.3.3)
abbrev pub unary_fits : UnaryOp → Typing → Ty → Bool
unary_fits unary.Not a ty = has_value a && same_type ty I16
unary_fits _ a ty = is_promoted ty && has_type ty a

-- an operator of two operands, and the type of its result
abbrev pub binary_fits : BinaryOp → Typing → Typing → Ty → Bool
binary_fits op a b ty =
    if is_test op then (has_value a && (has_value b && same_type ty I16)) else
    if is_shift op then (is_promoted ty && (has_type ty a && has_promoted b)) else
    if is_comparison op then (have_common a b && same_type ty I16) else
    is_promoted ty && (has_type ty a && has_type ty b)

-- the arms of `?:` have their common type (C11 6.5.15)
abbrev pub choice_fits : Typing → Typing → Typing → Ty → Bool
choice_fits c a b ty = has_value c && (is_promoted ty && (has_type ty a && has_type ty b))

-- ---- names

-- a variable without elements, of this type
abbrev pub is_scalar : Ty → Option Variable → Bool
is_scalar ty None = false
is_scalar ty (Some v) = is_none v.length && same_type v.ty ty

-- an array of elements of this type
abbrev pub is_array : Ty → Option Variable → Bool
is_array ty None = false
is_array ty (Some v) = is_some v.length && same_type v.ty ty

-- a parameter takes an argument of its type (C11 6.5.2.2)
abbrev pub takes : Option Variable → Typing → Bool
takes None a = false
takes (Some v) a = is_none v.length && has_type v.ty a

-- there are as many arguments as parameters, and each has its parameter's type
abbrev pub arguments_fit : Program → List ℕ → List Typing → Bool
arguments_fit p [] [] = true
arguments_fit p (x ∷ xs) (a ∷ as') = takes (slice_get p.variables x) a && arguments_fit p xs as'
arguments_fit p _ _ = false

abbrev pub result_typing : Ty → Option Ty → Typing
result_typing ty None = void_if (same_type ty U16)
result_typing ty (Some result) = value_if (same_type ty result) ty

abbrev pub call_typing : Program → List Typing → Ty → Option Function → Typing
call_typing p args ty None = None
call_typing p args ty (Some f) = if arguments_fit p f.params args then result_typing ty f.result else None

-- ---- expressions

-- a level of an expression of the type `ty`, by what is known of its parts
abbrev pub typing_by : Program → ExprKind-F (Ty → Typing) Typing → Ty → Typing
typing_by p (ExprKind-F.Number w) ty = value_if (is_promoted ty && nat_lt w (2 ^ 16)) ty
typing_by p (ExprKind-F.Var x) ty = value_if (is_scalar ty (slice_get p.variables x)) ty
typing_by p (ExprKind-F.Element x i) ty = value_if (is_array ty (slice_get p.variables x) && has_value i) ty
typing_by p (ExprKind-F.Convert e) ty = value_if (has_value e && not (has_type ty e)) ty
typing_by p (ExprKind-F.Unary op a) ty = value_if (unary_fits op a ty) ty
typing_by p (ExprKind-F.Binary op a b) ty = value_if (binary_fits op a b ty) ty
typing_by p (ExprKind-F.Cond c a b) ty = value_if (choice_fits c a b ty) ty
typing_by p (ExprKind-F.Call f args) ty = call_typing p args ty (slice_get p.functions f)
typing_by p ExprKind-F.Input ty = value_if (same_type ty U16) ty
typing_by p (ExprKind-F.Output e) ty = void_if (has_type U16 e && same_type ty U16)

abbrev pub own_typing : Expr-F (Ty → Typing) Typing → Typing
own_typing x = x.kind x.ty

-- what is known of an expression of a program
unfoldable pub typing : Program → Expr → Typing
typing p e = fold-Expr (Ty → Typing) Typing (typing_by p) own_typing e

-- what is known of the parts of a level
abbrev pub known : Program → ExprLayer → ExprKind-F (Ty → Typing) Typing
known p (ExprKind-F.Number w) = ExprKind-F.Number w
known p (ExprKind-F.Var x) = ExprKind-F.Var x
known p (ExprKind-F.Element x i) = ExprKind-F.Element x (typing p i)
known p (ExprKind-F.Convert e) = ExprKind-F.Convert (typing p e)
known p (ExprKind-F.Unary op a) = ExprKind-F.Unary op (typing p a)
known p (ExprKind-F.Binary op a b) = ExprKind-F.Binary op (typing p a) (typing p b)
known p (ExprKind-F.Cond c a b) = ExprKind-F.Cond (typing p c) (typing p a) (typing p b)
known p (ExprKind-F.Call f args) = ExprKind-F.Call f (map (typing p) args)
known p ExprKind-F.Input = ExprKind-F.Input
known p (ExprKind-F.Output e) = ExprKind-F.Output (typing p e)

-- ---- assignments

abbrev pub target_fits : Program → Variable → Option Expr → Bool
target_fits p v None = is_none v.length
target_fits p v (Some index) = is_some v.length && has_value (typing p index)

-- the value is of the type of what is assigned to (C11 6.5.16.1)
abbrev pub assign_fits : Program → Option Expr → Expr → Option Variable → Bool
assign_fits p index value None = false
assign_fits p index value (Some v) = target_fits p v index && has_type v.ty (typing p value)

-- the operators of assignments: those that neither test nor compare
abbrev pub is_compound : BinaryOp → Bool
is_compound op = not (is_test op || is_comparison op)

-- `++` and `--`
abbrev pub is_step : BinaryOp → Bool
is_step binary.Add = true
is_step binary.Sub = true
is_step _ = false

-- The type `ty` in which an assignment with an operator to an object of the type `own` is worked out (C11 6.5.16.2)
abbrev pub works_in : Program → BinaryOp → Ty → Ty → Option Expr → Bool
works_in p op own ty None = is_step op && same_type ty (promoted own)
works_in p op own ty (Some e) =
    if is_shift op then (same_type ty (promoted own) && has_promoted (typing p e)) else
    is_compound op && ((same_type ty (promoted own) || same_type ty U16) && has_type ty (typing p e))

abbrev pub update_fits : Program → Option Expr → BinaryOp → Ty → Option Expr → Option Variable → Bool
update_fits p index op ty by None = false
update_fits p index op ty by (Some v) = target_fits p v index && works_in p op v.ty ty by

abbrev pub action_fits : Program → Action → Bool
action_fits p (action.Assign to value) = assign_fits p to.index value (slice_get p.variables to.variable)
action_fits p (action.Update to at op ty by) = update_fits p to.index op ty by (slice_get p.variables to.variable)
action_fits p (action.Value e) = is_some (typing p e)

-- ---- declarations

-- how many values a variable may be given
abbrev pub capacity : Option ℕ → ℕ
capacity None = 1
capacity (Some n) = n

abbrev pub values_fit : Program → Ty → List Expr → Bool
values_fit p ty [] = true
values_fit p ty (e ∷ es) = has_type ty (typing p e) && values_fit p ty es

-- an object of a function, with values for no more than its elements (C11 6.7.9)
abbrev pub declared_as : Program → List Expr → Option Variable → Bool
declared_as p values None = false
declared_as p values (Some v) = not v.global && (nat_le (length values) (capacity v.length) && values_fit p v.ty values)

abbrev pub declared_fit : Program → List Declared → Bool
declared_fit p [] = true
declared_fit p (d ∷ ds) = declared_as p d.values (slice_get p.variables d.variable) && declared_fit p ds

-- ---- statements

abbrev pub all_hold : List Bool → Bool
all_hold [] = true
all_hold (b ∷ bs) = b && all_hold bs

abbrev pub holds_or_none : Option Bool → Bool
holds_or_none None = true
holds_or_none (Some b) = b

abbrev pub tests : Program → Option Expr → Bool
tests p None = true
tests p (Some e) = has_value (typing p e)

-- a `return` gives a value of the function's type, or none where it is void (C11 6.8.6.4)
abbrev pub return_fits : Program → Option Ty → Option Expr → Bool
return_fits p None None = true
return_fits p (Some ty) (Some e) = has_type ty (typing p e)
return_fits p _ _ = false

abbrev pub first_fits : Program → Option ForFirst → Bool
first_fits p None = true
first_fits p (Some (first.Declare ds)) = declared_fit p ds
first_fits p (Some (first.Act a)) = action_fits p a

abbrev pub step_fits : Program → Option Action → Bool
step_fits p None = true
step_fits p (Some a) = action_fits p a

-- labels hold words
abbrev pub label_fits : Option ℕ → Bool
label_fits None = true
label_fits (Some w) = nat_lt w (2 ^ 16)

abbrev pub labels_fit : List Label → Bool
labels_fit [] = true
labels_fit (l ∷ ls) = label_fits l.value && labels_fit ls

abbrev pub item_by : Program → BlockItem-F Bool Bool Bool Bool → Bool
item_by p (BlockItem-F.Declare ds) = declared_fit p ds
item_by p (BlockItem-F.«BlockItem::Act» s) = s

-- a level of a statement of a function with this result, by whether its parts are well typed
abbrev pub stmt_by : Program → Option Ty → StmtKind-F Bool Bool Bool Bool → Bool
stmt_by p r (StmtKind-F.Block items) = all_hold items
stmt_by p r StmtKind-F.Empty = true
stmt_by p r (StmtKind-F.«StmtKind::Act» a) = action_fits p a
stmt_by p r StmtKind-F.Break = true
stmt_by p r StmtKind-F.Continue = true
stmt_by p r (StmtKind-F.Return e) = return_fits p r e
stmt_by p r (StmtKind-F.If c a b) = has_value (typing p c) && (a && holds_or_none b)
stmt_by p r (StmtKind-F.While c body) = has_value (typing p c) && body
stmt_by p r (StmtKind-F.Do body c) = body && has_value (typing p c)
stmt_by p r (StmtKind-F.For f c step body) = first_fits p f && (tests p c && (step_fits p step && body))
stmt_by p r (StmtKind-F.Switch e groups) = has_promoted (typing p e) && all_hold groups

-- a group begins with a label
abbrev pub is_labelled : List Label → Bool
is_labelled [] = false
is_labelled (_ ∷ _) = true

abbrev pub group_by : Group-F Bool Bool Bool Bool → Bool
group_by g = is_labelled g.labels && (labels_fit g.labels && all_hold g.items)

abbrev pub own_stmt : Stmt-F Bool Bool Bool Bool → Bool
own_stmt s = s.kind

-- whether a statement of a function with this result is well typed
unfoldable pub stmt_fits : Program → Option Ty → Stmt → Bool
stmt_fits p r s = fold-Stmt Bool Bool Bool Bool (item_by p) (stmt_by p r) group_by own_stmt s

unfoldable pub item_fits : Program → Option Ty → BlockItem → Bool
item_fits p r b = fold-BlockItem Bool Bool Bool Bool (item_by p) (stmt_by p r) group_by own_stmt b

unfoldable pub group_fits : Program → Option Ty → Group → Bool
group_fits p r g = fold-Group Bool Bool Bool Bool (item_by p) (stmt_by p r) group_by own_stmt g

-- whether the parts of a level are well typed
abbrev pub parts_fit : Program → Option Ty → StmtLayer → StmtKind-F Bool Bool Bool Bool
parts_fit p r (StmtKind-F.Block items) = StmtKind-F.Block (map (item_fits p r) items)
parts_fit p r StmtKind-F.Empty = StmtKind-F.Empty
parts_fit p r (StmtKind-F.«StmtKind::Act» a) = StmtKind-F.«StmtKind::Act» a
parts_fit p r StmtKind-F.Break = StmtKind-F.Break
parts_fit p r StmtKind-F.Continue = StmtKind-F.Continue
parts_fit p r (StmtKind-F.Return e) = StmtKind-F.Return e
parts_fit p r (StmtKind-F.If c a b) = StmtKind-F.If c (stmt_fits p r a) (option_map (stmt_fits p r) b)
parts_fit p r (StmtKind-F.While c body) = StmtKind-F.While c (stmt_fits p r body)
parts_fit p r (StmtKind-F.Do body c) = StmtKind-F.Do (stmt_fits p r body) c
parts_fit p r (StmtKind-F.For f c step body) = StmtKind-F.For f c step (stmt_fits p r body)
parts_fit p r (StmtKind-F.Switch e groups) = StmtKind-F.Switch e (map (group_fits p r) groups)

abbrev pub item_parts_fit : Program → Option Ty → ItemLayer → BlockItem-F Bool Bool Bool Bool
item_parts_fit p r (BlockItem-F.Declare ds) = BlockItem-F.Declare ds
item_parts_fit p r (BlockItem-F.«BlockItem::Act» s) = BlockItem-F.«BlockItem::Act» (stmt_fits p r s)

-- ---- programs

-- parameters are scalars of a function
abbrev pub is_parameter : Option Variable → Bool
is_parameter None = false
is_parameter (Some v) = is_none v.length && not v.global

abbrev pub parameters_fit : Program → List ℕ → Bool
parameters_fit p [] = true
parameters_fit p (x ∷ xs) = is_parameter (slice_get p.variables x) && parameters_fit p xs

abbrev pub functions_fit : Program → List Function → Bool
functions_fit p [] = true
functions_fit p (f ∷ fs) = parameters_fit p f.params && (stmt_fits p f.result f.body && functions_fit p fs)

-- an array has 1 to 1,024 elements
abbrev pub length_fits : Option ℕ → Bool
length_fits None = true
length_fits (Some n) = nat_le 1 n && nat_le n 1024

abbrev pub words_fit : List ℕ → Bool
words_fit [] = true
words_fit (w ∷ ws) = nat_lt w (2 ^ 16) && words_fit ws

-- only an object of the file has first words, and no more than elements
abbrev pub first_words_fit : Variable → Bool
first_words_fit v = if v.global then nat_le (length v.first) (capacity v.length) && words_fit v.first else nat_le (length v.first) 0

abbrev pub variables_fit : List Variable → Bool
variables_fit [] = true
variables_fit (v ∷ vs) = length_fits v.length && (first_words_fit v && variables_fit vs)

abbrev pub no_parameters : List ℕ → Bool
no_parameters [] = true
no_parameters (_ ∷ _) = false

abbrev pub is_int : Option Ty → Bool
is_int None = false
is_int (Some ty) = same_type ty I16

-- `main` is an int function without parameters (C11 5.1.2.2.1)
abbrev pub is_main : Option Function → Bool
is_main None = false
is_main (Some f) = no_parameters f.params && is_int f.result
