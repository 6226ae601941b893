-- How many nodes a program has: its statements, declarators, expressions and labels, one more for each loop and for each array of a function, and
-- one for each return that is implied.
use Rattle.std.specs.Prelude.{ℕ, ◌+◌, Bool, true, false, Option, Some, None, List, [], ◌∷◌, map, length, slice_get, is_none, if◌then◌else◌}
use Rattle.std.specs.Option.{option_map}
use Rattle.c_values.specs.declared.ops.Ty.{Ty}
use Rattle.c_tree.specs.declared.tree.Variable.{Variable}
use Rattle.c_tree.specs.declared.tree.Expr.{Expr}
use Rattle.c_tree.specs.declared.tree.ExprKind.TheFolds.{fold-Expr}
use Rattle.c_tree.specs.declared.tree.ExprKind.TheOpen.{ExprKind-F, Expr-F}
use Rattle.c_tree.specs.declared.tree.Action.{Action}
use Rattle.c_tree.specs.declared.tree.Action.TheVariants as action
use Rattle.c_tree.specs.declared.tree.Declared.{Declared}
use Rattle.c_tree.specs.declared.tree.Stmt.{Stmt}
use Rattle.c_tree.specs.declared.tree.StmtKind.{out-StmtKind}
use Rattle.c_tree.specs.declared.tree.Group.{Group}
use Rattle.c_tree.specs.declared.tree.BlockItem.{BlockItem, out-BlockItem}
use Rattle.c_tree.specs.declared.tree.BlockItem.TheFolds.{fold-Stmt, fold-BlockItem, fold-Group}
use Rattle.c_tree.specs.declared.tree.BlockItem.TheOpen.{StmtKind-F, BlockItem-F, Group-F, Stmt-F}
use Rattle.c_tree.specs.declared.tree.ForFirst.{ForFirst}
use Rattle.c_tree.specs.declared.tree.ForFirst.TheVariants as first
use Rattle.c_tree.specs.declared.tree.Function.{Function}
use Rattle.c_tree.specs.declared.tree.Program.{Program}
use Rattle.c_tree.specs.Layer.{ExprLayer, StmtLayer, ItemLayer}
use Rattle.c_tree.specs.Nodes.{same_type, type_of}

abbrev pub sum_of : List ℕ → ℕ
sum_of [] = 0
sum_of (n ∷ ns) = n + sum_of ns

abbrev pub or_none : Option ℕ → ℕ
or_none None = 0
or_none (Some n) = n

-- ---- expressions

-- of the parts of an expression, by those of each
abbrev pub parts_nodes : ExprKind-F ℕ ℕ → ℕ
parts_nodes (ExprKind-F.Number w) = 0
parts_nodes (ExprKind-F.Var x) = 0
parts_nodes (ExprKind-F.Element x i) = i
parts_nodes (ExprKind-F.Convert e) = e
parts_nodes (ExprKind-F.Unary op a) = a
parts_nodes (ExprKind-F.Binary op a b) = a + b
parts_nodes (ExprKind-F.Cond c a b) = c + (a + b)
parts_nodes (ExprKind-F.Call f args) = sum_of args
parts_nodes ExprKind-F.Input = 0
parts_nodes (ExprKind-F.Output e) = e

abbrev pub own_nodes : Expr-F ℕ ℕ → ℕ
own_nodes x = 1 + x.kind

unfoldable pub expr_nodes : Expr → ℕ
expr_nodes e = fold-Expr ℕ ℕ parts_nodes own_nodes e

-- the nodes of each part
abbrev pub counted : ExprLayer → ExprKind-F ℕ ℕ
counted (ExprKind-F.Number w) = ExprKind-F.Number w
counted (ExprKind-F.Var x) = ExprKind-F.Var x
counted (ExprKind-F.Element x i) = ExprKind-F.Element x (expr_nodes i)
counted (ExprKind-F.Convert e) = ExprKind-F.Convert (expr_nodes e)
counted (ExprKind-F.Unary op a) = ExprKind-F.Unary op (expr_nodes a)
counted (ExprKind-F.Binary op a b) = ExprKind-F.Binary op (expr_nodes a) (expr_nodes b)
counted (ExprKind-F.Cond c a b) = ExprKind-F.Cond (expr_nodes c) (expr_nodes a) (expr_nodes b)
counted (ExprKind-F.Call f args) = ExprKind-F.Call f (map expr_nodes args)
counted ExprKind-F.Input = ExprKind-F.Input
counted (ExprKind-F.Output e) = ExprKind-F.Output (expr_nodes e)

abbrev pub opt_nodes : Option Expr → ℕ
opt_nodes None = 0
opt_nodes (Some e) = expr_nodes e

abbrev pub exprs_nodes : List Expr → ℕ
exprs_nodes [] = 0
exprs_nodes (e ∷ es) = expr_nodes e + exprs_nodes es

-- ---- assignments and declarations

-- the operator of an assignment, and the conversions of the value read and of the result
abbrev pub update_nodes : Ty → Ty → ℕ
update_nodes own ty = if same_type own ty then 1 else 3

-- what is assigned to is no node, but its index is one
abbrev pub action_nodes : Program → Action → ℕ
action_nodes p (action.Assign to value) = opt_nodes to.index + expr_nodes value
action_nodes p (action.Update to at op ty by) = opt_nodes to.index + (opt_nodes by + update_nodes (type_of p to.variable) ty)
action_nodes p (action.Value e) = expr_nodes e

abbrev pub declarator_nodes : Option Variable → ℕ
declarator_nodes None = 1
declarator_nodes (Some v) = if is_none v.length then 1 else 2

abbrev pub declared_nodes : Program → List Declared → ℕ
declared_nodes p [] = 0
declared_nodes p (d ∷ ds) = (declarator_nodes (slice_get p.variables d.variable) + exprs_nodes d.values) + declared_nodes p ds

-- ---- statements

abbrev pub first_nodes : Program → Option ForFirst → ℕ
first_nodes p None = 0
first_nodes p (Some (first.Declare ds)) = declared_nodes p ds
first_nodes p (Some (first.Act a)) = action_nodes p a

abbrev pub step_nodes : Program → Option Action → ℕ
step_nodes p None = 0
step_nodes p (Some a) = action_nodes p a

abbrev pub item_nodes_by : Program → BlockItem-F ℕ ℕ ℕ ℕ → ℕ
item_nodes_by p (BlockItem-F.Declare ds) = declared_nodes p ds
item_nodes_by p (BlockItem-F.«BlockItem::Act» s) = s

-- of the parts of a statement, by those of each; a loop is one more for its turns
abbrev pub kind_nodes_by : Program → StmtKind-F ℕ ℕ ℕ ℕ → ℕ
kind_nodes_by p (StmtKind-F.Block items) = sum_of items
kind_nodes_by p StmtKind-F.Empty = 0
kind_nodes_by p (StmtKind-F.«StmtKind::Act» a) = action_nodes p a
kind_nodes_by p StmtKind-F.Break = 0
kind_nodes_by p StmtKind-F.Continue = 0
kind_nodes_by p (StmtKind-F.Return e) = opt_nodes e
kind_nodes_by p (StmtKind-F.If c a b) = expr_nodes c + (a + or_none b)
kind_nodes_by p (StmtKind-F.While c body) = 1 + (expr_nodes c + body)
kind_nodes_by p (StmtKind-F.Do body c) = 1 + (body + expr_nodes c)
kind_nodes_by p (StmtKind-F.For f c step body) = 1 + (first_nodes p f + (opt_nodes c + (step_nodes p step + body)))
kind_nodes_by p (StmtKind-F.Switch e groups) = expr_nodes e + sum_of groups

abbrev pub group_nodes_by : Group-F ℕ ℕ ℕ ℕ → ℕ
group_nodes_by g = length g.labels + sum_of g.items

abbrev pub stmt_nodes_by : Stmt-F ℕ ℕ ℕ ℕ → ℕ
stmt_nodes_by s = 1 + s.kind

unfoldable pub stmt_nodes : Program → Stmt → ℕ
stmt_nodes p s = fold-Stmt ℕ ℕ ℕ ℕ (item_nodes_by p) (kind_nodes_by p) group_nodes_by stmt_nodes_by s

unfoldable pub item_nodes : Program → BlockItem → ℕ
item_nodes p b = fold-BlockItem ℕ ℕ ℕ ℕ (item_nodes_by p) (kind_nodes_by p) group_nodes_by stmt_nodes_by b

unfoldable pub group_nodes : Program → Group → ℕ
group_nodes p g = fold-Group ℕ ℕ ℕ ℕ (item_nodes_by p) (kind_nodes_by p) group_nodes_by stmt_nodes_by g

-- the nodes of each part
abbrev pub counted_stmt : Program → StmtLayer → StmtKind-F ℕ ℕ ℕ ℕ
counted_stmt p (StmtKind-F.Block items) = StmtKind-F.Block (map (item_nodes p) items)
counted_stmt p StmtKind-F.Empty = StmtKind-F.Empty
counted_stmt p (StmtKind-F.«StmtKind::Act» a) = StmtKind-F.«StmtKind::Act» a
counted_stmt p StmtKind-F.Break = StmtKind-F.Break
counted_stmt p StmtKind-F.Continue = StmtKind-F.Continue
counted_stmt p (StmtKind-F.Return e) = StmtKind-F.Return e
counted_stmt p (StmtKind-F.If c a b) = StmtKind-F.If c (stmt_nodes p a) (option_map (stmt_nodes p) b)
counted_stmt p (StmtKind-F.While c body) = StmtKind-F.While c (stmt_nodes p body)
counted_stmt p (StmtKind-F.Do body c) = StmtKind-F.Do (stmt_nodes p body) c
counted_stmt p (StmtKind-F.For f c step body) = StmtKind-F.For f c step (stmt_nodes p body)
counted_stmt p (StmtKind-F.Switch e groups) = StmtKind-F.Switch e (map (group_nodes p) groups)

abbrev pub counted_item : Program → ItemLayer → BlockItem-F ℕ ℕ ℕ ℕ
counted_item p (BlockItem-F.Declare ds) = BlockItem-F.Declare ds
counted_item p (BlockItem-F.«BlockItem::Act» s) = BlockItem-F.«BlockItem::Act» (stmt_nodes p s)

-- ---- functions

abbrev pub is_return : StmtLayer → Bool
is_return (StmtKind-F.Return e) = true
is_return _ = false

abbrev pub is_return_item : ItemLayer → Bool
is_return_item (BlockItem-F.«BlockItem::Act» s) = is_return (out-StmtKind s.kind)
is_return_item _ = false

abbrev pub ends_in_return : List BlockItem → Bool
ends_in_return [] = false
ends_in_return (last ∷ []) = is_return_item (out-BlockItem last)
ends_in_return (first ∷ second ∷ rest) = ends_in_return (second ∷ rest)

-- a body that doesn't end in `return` has one that is implied
abbrev pub implied_nodes : StmtLayer → ℕ
implied_nodes (StmtKind-F.Block items) = if ends_in_return items then 0 else 1
implied_nodes _ = 1

abbrev pub functions_nodes : Program → List Function → ℕ
functions_nodes p [] = 0
functions_nodes p (f ∷ fs) = (stmt_nodes p f.body + implied_nodes (out-StmtKind f.body.kind)) + functions_nodes p fs

abbrev pub nodes_of : Program → ℕ
nodes_of p = functions_nodes p p.functions
