-- What each node of a program does (C11 6.5 and 6.8, with operands from left to right).
-- Steps begin at nine places: at each expression, each statement and each turn of a loop (`to_depth`), each declarator, each element of a local
-- array, each label tested, the operator of an assignment with an operator, each of its conversions, and a return that is implied.
-- An absent variable or function, or an initialiser that doesn't fit, is met by some harmless equation: no typed program comes there.
use Rattle.std.specs.Prelude.{ℕ, zero, suc, ◌+◌, ◌%◌, ◌^◌, ◌++◌, Bool, true, false, not, Option, Some, None, List, [], ◌∷◌, replicate, slice_get, is_none, ◌==◌, ◌||◌, if◌then◌else◌}
use Rattle.c_values.specs.declared.ops.Ty.{Ty}
use Rattle.c_values.specs.declared.ops.Ty.TheVariants.{I8, U8, I16, U16}
use Rattle.c_values.specs.declared.ops.BinaryOp.{BinaryOp}
use Rattle.c_values.specs.declared.ops.BinaryOp.TheVariants as binary
use Rattle.c_values.specs.Values.{converted, from_test, is_set, unary_of, binary_of}
use Rattle.c_tree.specs.declared.tree.Variable.{Variable}
use Rattle.c_tree.specs.declared.tree.Expr.{Expr}
use Rattle.c_tree.specs.declared.tree.ExprKind.{out-ExprKind}
use Rattle.c_tree.specs.declared.tree.ExprKind.TheOpen.{ExprKind-F}
use Rattle.c_tree.specs.declared.tree.Action.{Action}
use Rattle.c_tree.specs.declared.tree.Action.TheVariants as action
use Rattle.c_tree.specs.declared.tree.Declared.{Declared}
use Rattle.c_tree.specs.declared.tree.Stmt.{Stmt}
use Rattle.c_tree.specs.declared.tree.StmtKind.{out-StmtKind}
use Rattle.c_tree.specs.declared.tree.BlockItem.{BlockItem, out-BlockItem}
use Rattle.c_tree.specs.declared.tree.BlockItem.TheOpen.{StmtKind-F, BlockItem-F}
use Rattle.c_tree.specs.declared.tree.ForFirst.{ForFirst}
use Rattle.c_tree.specs.declared.tree.ForFirst.TheVariants as first
use Rattle.c_tree.specs.declared.tree.Group.{Group}
use Rattle.c_tree.specs.declared.tree.Label.{Label}
use Rattle.c_tree.specs.declared.tree.Function.{Function}
use Rattle.c_tree.specs.declared.tree.Program.{Program}
use Rattle.c_tree.specs.declared.leaving.Leaving.{Leaving}
use Rattle.c_tree.specs.declared.leaving.Leaving.TheVariants.{Next, Broke, Continued, Returned}
use Rattle.c_tree.specs.Layer.{ExprLayer, StmtLayer, ItemLayer}
use Rattle.c_tree.specs.Runs.{Part, ◌>>=◌, ◌>>◌, pure, stop, skip, either, begin, begin_each, put, take_word, set_words, read, write_place, write, word_or_trap, read_at, write_at}

-- what the nodes within a node do, and the turns of a loop
pub record Within : Type 0 where
  pub expr : Expr → Part ℕ
  pub stmt : Stmt → Part Leaving
  pub turns : Stmt → Part Leaving

-- ---- expressions

-- the values of arguments, from left to right, behind those that are there
abbrev pub values_onto : (Expr → Part ℕ) → List ℕ → List Expr → Part (List ℕ)
values_onto f vs [] = pure vs
values_onto f vs (e ∷ es) = f e >>= (λ v. values_onto f (vs ++ v ∷ []) es)

-- parameters take the arguments
abbrev pub bind : List ℕ → List ℕ → Part (Unit {0})
bind [] vs = skip
bind (x ∷ xs) [] = skip
bind (x ∷ xs) (v ∷ vs) = write x v >> bind xs vs

abbrev pub implied_return : Part ℕ
implied_return = begin >> pure 0

-- The value of a call, by how the function's body is left. Falling off its end is an implied return, a step, and gives 0.
abbrev pub come_back : Leaving → Part ℕ
come_back (Returned w) = pure w
come_back Next = implied_return
come_back Broke = implied_return
come_back Continued = implied_return

abbrev pub run_body : (Stmt → Part Leaving) → Stmt → Part ℕ
run_body stmt body = stmt body >>= come_back

-- a call of a function of the program
abbrev pub enter : (Stmt → Part Leaving) → Option Function → List ℕ → Part ℕ
enter stmt None vs = pure 0
enter stmt (Some f) vs = bind f.params vs >> run_body stmt f.body

-- the first operand decides: `&&` where it is 0, `||` where it isn't
abbrev pub decides : BinaryOp → ℕ → Bool
decides binary.And x = not (is_set x)
decides binary.Or x = is_set x
decides _ x = false

-- the second operand, and then the operator
abbrev pub worked_by : (Expr → Part ℕ) → BinaryOp → Expr → Expr → ℕ → Part ℕ
worked_by f op a b x = f b >>= (λ y. word_or_trap (binary_of a.ty b.ty op x y))

-- the same, unless the first operand decides
abbrev pub second_by : (Expr → Part ℕ) → BinaryOp → Expr → Expr → ℕ → Part ℕ
second_by f op a b x = either (decides op x) (pure (from_test (is_set x))) (worked_by f op a b x)

abbrev pub binary_by : (Expr → Part ℕ) → BinaryOp → Expr → Expr → Part ℕ
binary_by f op a b = f a >>= second_by f op a b

-- the operand that a word leads to
abbrev pub choice_by : (Expr → Part ℕ) → Expr → Expr → ℕ → Part ℕ
choice_by f a b w = either (is_set w) (f a) (f b)

-- an expression, or a number where there is none
abbrev pub value_or : (Expr → Part ℕ) → ℕ → Option Expr → Part ℕ
value_or f k None = pure k
value_or f k (Some e) = f e

-- a level of an expression of the type `ty`
abbrev pub expr_by : Program → Within → Ty → ExprLayer → Part ℕ
expr_by p d ty (ExprKind-F.Number w) = pure (w % 2 ^ 16)
expr_by p d ty (ExprKind-F.Var x) = read x
expr_by p d ty (ExprKind-F.Element x i) = d.expr i >>= (λ k. read_at x i.ty k)
expr_by p d ty (ExprKind-F.Convert e) = d.expr e >>= (λ w. pure (converted ty e.ty w))
expr_by p d ty (ExprKind-F.Unary op a) = d.expr a >>= (λ w. pure (unary_of a.ty op w))
expr_by p d ty (ExprKind-F.Binary op a b) = binary_by d.expr op a b
expr_by p d ty (ExprKind-F.Cond c a b) = d.expr c >>= choice_by d.expr a b
expr_by p d ty (ExprKind-F.Call f args) = values_onto d.expr [] args >>= enter d.stmt (slice_get p.functions f)
expr_by p d ty ExprKind-F.Input = take_word
expr_by p d ty (ExprKind-F.Output e) = d.expr e >>= (λ w. put w >> pure 0)

-- ---- assignments

-- the range of an index is tested at the store
abbrev pub store_by : ℕ → Option Expr → ℕ → ℕ → Part (Unit {0})
store_by x None i w = write x w
store_by x (Some e) i w = write_at x e.ty i w

abbrev pub load_by : ℕ → Option Expr → ℕ → Part ℕ
load_by x None i = read x
load_by x (Some e) i = read_at x e.ty i

abbrev pub same_type : Ty → Ty → Bool
same_type I8 I8 = true
same_type U8 U8 = true
same_type I16 I16 = true
same_type U16 U16 = true
same_type _ _ = false

abbrev pub type_in : Option Variable → Ty
type_in None = U16
type_in (Some v) = v.ty

abbrev pub type_of : Program → ℕ → Ty
type_of p x = type_in (slice_get p.variables x)

-- a conversion to another type is a node
abbrev pub conversion : Ty → Ty → Part (Unit {0})
conversion to from = either (same_type to from) skip begin

-- the operator, and the conversion of the value read
abbrev pub begin_operator : Ty → Ty → Part (Unit {0})
begin_operator own ty = begin >> conversion ty own

-- the nodes of an assignment with an operator: the result's conversion, the operator, and the conversion of the value read
abbrev pub begin_update : Ty → Ty → Part (Unit {0})
begin_update own ty = conversion own ty >> begin_operator own ty

-- these nodes begun, and then the value read
abbrev pub opened : Ty → Ty → ℕ → Option Expr → ℕ → Part ℕ
opened own ty x index i = begin_update own ty >> load_by x index i

abbrev pub amount_type : Ty → Option Expr → Ty
amount_type ty None = ty
amount_type ty (Some e) = e.ty

-- what comes behind the right side y, where x was read: the operator, worked out in `ty`, and the store
abbrev pub finish_by : Ty → ℕ → Option Expr → BinaryOp → Ty → Ty → ℕ → ℕ → ℕ → Part (Unit {0})
finish_by own v index op ty by i x y = word_or_trap (binary_of ty by op (converted ty own x) y) >>= (λ w. store_by v index i (converted own ty w))

-- what comes behind the index i: the value read, and then the right side, which is 1 for `++` and `--`
abbrev pub finished_by : Ty → (Expr → Part ℕ) → ℕ → Option Expr → BinaryOp → Ty → Option Expr → ℕ → ℕ → Part (Unit {0})
finished_by own f v index op ty by i x = value_or f 1 by >>= finish_by own v index op ty (amount_type ty by) i x

abbrev pub updated_by : Ty → (Expr → Part ℕ) → ℕ → Option Expr → BinaryOp → Ty → Option Expr → ℕ → Part (Unit {0})
updated_by own f v index op ty by i = opened own ty v index i >>= finished_by own f v index op ty by i

abbrev pub update_by : Ty → (Expr → Part ℕ) → ℕ → Option Expr → BinaryOp → Ty → Option Expr → Part (Unit {0})
update_by own f v index op ty by = value_or f 0 index >>= updated_by own f v index op ty by

abbrev pub assigned_by : (Expr → Part ℕ) → ℕ → Option Expr → Expr → ℕ → Part (Unit {0})
assigned_by f v index e i = f e >>= store_by v index i

abbrev pub assign_by : (Expr → Part ℕ) → ℕ → Option Expr → Expr → Part (Unit {0})
assign_by f v index e = value_or f 0 index >>= assigned_by f v index e

abbrev pub act_by : Program → (Expr → Part ℕ) → Action → Part (Unit {0})
act_by p f (action.Value e) = f e >> skip
act_by p f (action.Assign to e) = assign_by f to.variable to.index e
act_by p f (action.Update to place op ty by) = update_by (type_of p to.variable) f to.variable to.index op ty by

abbrev pub act_opt : Program → (Expr → Part ℕ) → Option Action → Part (Unit {0})
act_opt p f None = skip
act_opt p f (Some a) = act_by p f a

-- ---- declarations

-- the values of a list go into the elements from the k-th on
abbrev pub fill : (Expr → Part ℕ) → ℕ → ℕ → List Expr → Part (Unit {0})
fill f x k [] = skip
fill f x k (e ∷ es) = f e >>= (λ w. write_place x k w >> fill f x (k + 1) es)

-- an array of zeros; each element is a step
abbrev pub open_array : ℕ → ℕ → Part (Unit {0})
open_array x n = set_words x (replicate n 0) >> begin_each n

abbrev pub declare_scalar : (Expr → Part ℕ) → ℕ → Expr → Part (Unit {0})
declare_scalar f x e = f e >>= write x

abbrev pub declare_array : (Expr → Part ℕ) → ℕ → ℕ → List Expr → Part (Unit {0})
declare_array f x n es = open_array x n >> fill f x 0 es

-- a local is zero before it takes its initialiser's values, each time
abbrev pub declare_sized : (Expr → Part ℕ) → ℕ → Option ℕ → List Expr → Part (Unit {0})
declare_sized f x None [] = write x 0
declare_sized f x None (e ∷ es) = declare_scalar f x e
declare_sized f x (Some n) es = declare_array f x n es

abbrev pub declare_at : (Expr → Part ℕ) → ℕ → Option Variable → List Expr → Part (Unit {0})
declare_at f x None es = skip
declare_at f x (Some v) es = declare_sized f x v.length es

abbrev pub declare_each : Program → (Expr → Part ℕ) → List Declared → Part (Unit {0})
declare_each p f [] = skip
declare_each p f (d ∷ ds) = begin >> (declare_at f d.variable (slice_get p.variables d.variable) d.values >> declare_each p f ds)

-- ---- statements

-- a statement is left otherwise than to what follows it
abbrev pub ends : Leaving → Bool
ends Next = false
ends Broke = true
ends Continued = true
ends (Returned w) = true

-- what follows, unless the part before it was left otherwise
abbrev pub then_on : Leaving → Part Leaving → Part Leaving
then_on l p = either (ends l) (pure l) p

abbrev pub item_by : Program → (Expr → Part ℕ) → (Stmt → Part Leaving) → ItemLayer → Part Leaving
item_by p f g (BlockItem-F.Declare ds) = declare_each p f ds >> pure Next
item_by p f g (BlockItem-F.«BlockItem::Act» s) = g s

abbrev pub items_by : Program → (Expr → Part ℕ) → (Stmt → Part Leaving) → List BlockItem → Part Leaving
items_by p f g [] = pure Next
items_by p f g (b ∷ bs) = item_by p f g (out-BlockItem b) >>= (λ l. then_on l (items_by p f g bs))

abbrev pub first_by : Program → (Expr → Part ℕ) → Option ForFirst → Part (Unit {0})
first_by p f None = skip
first_by p f (Some (first.Declare ds)) = declare_each p f ds
first_by p f (Some (first.Act a)) = act_by p f a

abbrev pub no_by : (Stmt → Part Leaving) → Option Stmt → Part Leaving
no_by g None = pure Next
no_by g (Some s) = g s

-- the arm that a word leads to
abbrev pub arm_by : (Stmt → Part Leaving) → Stmt → Option Stmt → ℕ → Part Leaving
arm_by g a b w = either (is_set w) (g a) (no_by g b)

-- ---- switch

-- each label is a step
abbrev pub begin_labels : List Label → Part (Unit {0})
begin_labels [] = skip
begin_labels (l ∷ ls) = begin >> begin_labels ls

abbrev pub has_default : List Label → Bool
has_default [] = false
has_default (l ∷ ls) = is_none l.value || has_default ls

abbrev pub is_label : ℕ → Option ℕ → Bool
is_label w None = false
is_label w (Some v) = w == v

abbrev pub has_label : ℕ → List Label → Bool
has_label w [] = false
has_label w (l ∷ ls) = is_label w l.value || has_label w ls

-- the items of the group with `default`, if there is one
abbrev pub default_items : List Group → List BlockItem
default_items [] = []
default_items (g ∷ gs) = if has_default g.labels then g.items else default_items gs

abbrev pub tested : ℕ → List Label → Part Bool
tested w labels = begin_labels labels >> pure (has_label w labels)

-- a group is entered where a label has the word; each label is tested, but none of a group that has `default`
abbrev pub is_chosen : ℕ → List Label → Part Bool
is_chosen w labels = either (has_default labels) (pure false) (tested w labels)

-- the items that a word leads to, group by group, and else the others
abbrev pub chosen : ℕ → List BlockItem → List Group → Part (List BlockItem)
chosen w others [] = pure others
chosen w others (g ∷ gs) = is_chosen w g.labels >>= (λ found. either found (pure g.items) (chosen w others gs))

-- how a `switch` is left
abbrev pub left_switch : Leaving → Leaving
left_switch Broke = Next
left_switch l = l

abbrev pub switched_by : Program → Within → List BlockItem → Part Leaving
switched_by p d items = items_by p d.expr d.stmt items >>= (λ l. pure (left_switch l))

abbrev pub switch_by : Program → Within → List Group → ℕ → Part Leaving
switch_by p d groups w = chosen w (default_items groups) groups >>= switched_by p d

-- a level of a statement s
abbrev pub stmt_by : Program → Within → Stmt → StmtLayer → Part Leaving
stmt_by p d s (StmtKind-F.Block items) = items_by p d.expr d.stmt items
stmt_by p d s StmtKind-F.Empty = pure Next
stmt_by p d s (StmtKind-F.«StmtKind::Act» a) = act_by p d.expr a >> pure Next
stmt_by p d s StmtKind-F.Break = pure Broke
stmt_by p d s StmtKind-F.Continue = pure Continued
stmt_by p d s (StmtKind-F.Return e) = value_or d.expr 0 e >>= (λ w. pure (Returned w))
stmt_by p d s (StmtKind-F.If c a b) = d.expr c >>= arm_by d.stmt a b
stmt_by p d s (StmtKind-F.While c body) = d.turns s
stmt_by p d s (StmtKind-F.Do body c) = d.turns s
stmt_by p d s (StmtKind-F.For f c step body) = first_by p d.expr f >> d.turns s
stmt_by p d s (StmtKind-F.Switch e groups) = d.expr e >>= switch_by p d groups

-- ---- loops. A turn answers how the loop is left, or nothing where another turn follows.

-- another turn follows a body that was left so
abbrev pub goes_on : Leaving → Bool
goes_on Next = true
goes_on Continued = true
goes_on Broke = false
goes_on (Returned w) = false

-- how a loop is left, by how its body was
abbrev pub left_loop : Leaving → Leaving
left_loop (Returned w) = Returned w
left_loop _ = Next

-- another turn where the test at the end is passed
abbrev pub again : ℕ → Option Leaving
again w = if is_set w then None else Some Next

-- the test at the end
abbrev pub last_test : Within → Expr → Part (Option Leaving)
last_test d c = d.expr c >>= (λ w. pure (again w))

-- the same, where the body was left to it
abbrev pub do_by : Within → Expr → Leaving → Part (Option Leaving)
do_by d c l = either (goes_on l) (last_test d c) (pure (Some (left_loop l)))

abbrev pub step_on : Program → Within → Option Action → Part (Option Leaving)
step_on p d step = act_opt p d.expr step >> pure None

abbrev pub stepped_by : Program → Within → Option Action → Leaving → Part (Option Leaving)
stepped_by p d step l = either (goes_on l) (step_on p d step) (pure (Some (left_loop l)))

abbrev pub full_turn : Program → Within → Stmt → Option Action → Part (Option Leaving)
full_turn p d body step = d.stmt body >>= stepped_by p d step

-- the body and then the step, where the test at the start gave a word that is true
abbrev pub body_by : Program → Within → Stmt → Option Action → ℕ → Part (Option Leaving)
body_by p d body step w = either (is_set w) (full_turn p d body step) (pure (Some Next))

-- one turn of a loop; a `for` without a test goes on as at 1
abbrev pub turn_by : Program → Within → StmtLayer → Part (Option Leaving)
turn_by p d (StmtKind-F.While c body) = d.expr c >>= body_by p d body None
turn_by p d (StmtKind-F.Do body c) = d.stmt body >>= do_by d c
turn_by p d (StmtKind-F.For f c step body) = value_or d.expr 1 c >>= body_by p d body step
turn_by p d _ = pure (Some Next)

-- the turns behind a turn
abbrev pub next_turn : Part Leaving → Option Leaving → Part Leaving
next_turn turns None = turns
next_turn turns (Some l) = pure l

-- What nodes do, to a depth of nodes and turns within each other. Each of them begins a step first, so a run of n steps never comes deeper than n.
unfoldable pub to_depth : Program → ℕ → Within
to_depth p zero = record { expr = λ e. stop; stmt = λ s. stop; turns = λ s. stop }
to_depth p (suc n) = record {
  expr = λ e. begin >> expr_by p (to_depth p n) e.ty (out-ExprKind e.kind);
  stmt = λ s. begin >> stmt_by p (to_depth p n) s (out-StmtKind s.kind);
  turns = λ s. begin >> (turn_by p (to_depth p n) (out-StmtKind s.kind) >>= next_turn ((to_depth p n).turns s));
}
