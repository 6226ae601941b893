-- Programs whose calls have no cycle: each function has a height, and calls only functions of lesser heights.
use Rattle.std.specs.Prelude.{ℕ, ◌+◌, Bool, true, false, Option, Some, None, List, [], ◌∷◌, map, slice_index_or, nat_lt, ◌&&◌}
use Rattle.std.specs.Option.{option_map}
use Rattle.c_tree.specs.declared.tree.Expr.{Expr}
use Rattle.c_tree.specs.declared.tree.ExprKind.TheFolds.{fold-Expr}
use Rattle.c_tree.specs.declared.tree.ExprKind.TheOpen.{ExprKind-F, Expr-F}
use Rattle.c_tree.specs.declared.tree.Action.{Action}
use Rattle.c_tree.specs.declared.tree.Action.TheVariants as action
use Rattle.c_tree.specs.declared.tree.Declared.{Declared}
use Rattle.c_tree.specs.declared.tree.Stmt.{Stmt}
use Rattle.c_tree.specs.declared.tree.Group.{Group}
use Rattle.c_tree.specs.declared.tree.BlockItem.{BlockItem}
use Rattle.c_tree.specs.declared.tree.BlockItem.TheFolds.{fold-Stmt, fold-BlockItem, fold-Group}
use Rattle.c_tree.specs.declared.tree.BlockItem.TheOpen.{StmtKind-F, BlockItem-F, Group-F, Stmt-F}
use Rattle.c_tree.specs.declared.tree.ForFirst.{ForFirst}
use Rattle.c_tree.specs.declared.tree.ForFirst.TheVariants as first
use Rattle.c_tree.specs.declared.tree.Function.{Function}
use Rattle.c_tree.specs.Layer.{ExprLayer, StmtLayer, ItemLayer}
use Rattle.sound_programs.specs.Sound.{all_hold, holds_or_none}

-- the heights of the functions, by their numbers, and the height below which calls are to go
pub record Below : Type 0 where
  pub heights : List ℕ
  pub height : ℕ

abbrev pub is_below : Below → ℕ → Bool
is_below b f = nat_lt (slice_index_or b.heights f 0) b.height

-- ---- expressions

-- of a level of an expression, by whether the calls of its parts go below
abbrev pub calls_by : Below → ExprKind-F Bool Bool → Bool
calls_by b (ExprKind-F.Number w) = true
calls_by b (ExprKind-F.Var x) = true
calls_by b (ExprKind-F.Element x i) = i
calls_by b (ExprKind-F.Convert e) = e
calls_by b (ExprKind-F.Unary op a) = a
calls_by b (ExprKind-F.Binary op x y) = x && y
calls_by b (ExprKind-F.Cond c x y) = c && (x && y)
calls_by b (ExprKind-F.Call f args) = is_below b f && all_hold args
calls_by b ExprKind-F.Input = true
calls_by b (ExprKind-F.Output e) = e

abbrev pub own_calls : Expr-F Bool Bool → Bool
own_calls x = x.kind

unfoldable pub calls_below : Below → Expr → Bool
calls_below b e = fold-Expr Bool Bool (calls_by b) own_calls e

abbrev pub parts_below : Below → ExprLayer → ExprKind-F Bool Bool
parts_below b (ExprKind-F.Number w) = ExprKind-F.Number w
parts_below b (ExprKind-F.Var x) = ExprKind-F.Var x
parts_below b (ExprKind-F.Element x i) = ExprKind-F.Element x (calls_below b i)
parts_below b (ExprKind-F.Convert e) = ExprKind-F.Convert (calls_below b e)
parts_below b (ExprKind-F.Unary op a) = ExprKind-F.Unary op (calls_below b a)
parts_below b (ExprKind-F.Binary op x y) = ExprKind-F.Binary op (calls_below b x) (calls_below b y)
parts_below b (ExprKind-F.Cond c x y) = ExprKind-F.Cond (calls_below b c) (calls_below b x) (calls_below b y)
parts_below b (ExprKind-F.Call f args) = ExprKind-F.Call f (map (calls_below b) args)
parts_below b ExprKind-F.Input = ExprKind-F.Input
parts_below b (ExprKind-F.Output e) = ExprKind-F.Output (calls_below b e)

abbrev pub opt_below : Below → Option Expr → Bool
opt_below b None = true
opt_below b (Some e) = calls_below b e

abbrev pub exprs_below : Below → List Expr → Bool
exprs_below b [] = true
exprs_below b (e ∷ es) = calls_below b e && exprs_below b es

-- ---- assignments and declarations

abbrev pub action_below : Below → Action → Bool
action_below b (action.Assign to value) = opt_below b to.index && calls_below b value
action_below b (action.Update to at op ty by) = opt_below b to.index && opt_below b by
action_below b (action.Value e) = calls_below b e

abbrev pub declared_below : Below → List Declared → Bool
declared_below b [] = true
declared_below b (d ∷ ds) = exprs_below b d.values && declared_below b ds

-- ---- statements

abbrev pub first_below : Below → Option ForFirst → Bool
first_below b None = true
first_below b (Some (first.Declare ds)) = declared_below b ds
first_below b (Some (first.Act a)) = action_below b a

abbrev pub step_below : Below → Option Action → Bool
step_below b None = true
step_below b (Some a) = action_below b a

abbrev pub item_calls_by : Below → BlockItem-F Bool Bool Bool Bool → Bool
item_calls_by b (BlockItem-F.Declare ds) = declared_below b ds
item_calls_by b (BlockItem-F.«BlockItem::Act» s) = s

-- of a level of a statement, by whether the calls of its parts go below
abbrev pub stmt_calls_by : Below → StmtKind-F Bool Bool Bool Bool → Bool
stmt_calls_by b (StmtKind-F.Block items) = all_hold items
stmt_calls_by b StmtKind-F.Empty = true
stmt_calls_by b (StmtKind-F.«StmtKind::Act» a) = action_below b a
stmt_calls_by b StmtKind-F.Break = true
stmt_calls_by b StmtKind-F.Continue = true
stmt_calls_by b (StmtKind-F.Return e) = opt_below b e
stmt_calls_by b (StmtKind-F.If c x y) = calls_below b c && (x && holds_or_none y)
stmt_calls_by b (StmtKind-F.While c body) = calls_below b c && body
stmt_calls_by b (StmtKind-F.Do body c) = body && calls_below b c
stmt_calls_by b (StmtKind-F.For f c step body) = first_below b f && (opt_below b c && (step_below b step && body))
stmt_calls_by b (StmtKind-F.Switch e groups) = calls_below b e && all_hold groups

abbrev pub group_calls_by : Group-F Bool Bool Bool Bool → Bool
group_calls_by g = all_hold g.items

abbrev pub own_stmt_calls : Stmt-F Bool Bool Bool Bool → Bool
own_stmt_calls s = s.kind

unfoldable pub stmt_below : Below → Stmt → Bool
stmt_below b s = fold-Stmt Bool Bool Bool Bool (item_calls_by b) (stmt_calls_by b) group_calls_by own_stmt_calls s

unfoldable pub item_below : Below → BlockItem → Bool
item_below b i = fold-BlockItem Bool Bool Bool Bool (item_calls_by b) (stmt_calls_by b) group_calls_by own_stmt_calls i

unfoldable pub group_below : Below → Group → Bool
group_below b g = fold-Group Bool Bool Bool Bool (item_calls_by b) (stmt_calls_by b) group_calls_by own_stmt_calls g

abbrev pub stmt_parts_below : Below → StmtLayer → StmtKind-F Bool Bool Bool Bool
stmt_parts_below b (StmtKind-F.Block items) = StmtKind-F.Block (map (item_below b) items)
stmt_parts_below b StmtKind-F.Empty = StmtKind-F.Empty
stmt_parts_below b (StmtKind-F.«StmtKind::Act» a) = StmtKind-F.«StmtKind::Act» a
stmt_parts_below b StmtKind-F.Break = StmtKind-F.Break
stmt_parts_below b StmtKind-F.Continue = StmtKind-F.Continue
stmt_parts_below b (StmtKind-F.Return e) = StmtKind-F.Return e
stmt_parts_below b (StmtKind-F.If c x y) = StmtKind-F.If c (stmt_below b x) (option_map (stmt_below b) y)
stmt_parts_below b (StmtKind-F.While c body) = StmtKind-F.While c (stmt_below b body)
stmt_parts_below b (StmtKind-F.Do body c) = StmtKind-F.Do (stmt_below b body) c
stmt_parts_below b (StmtKind-F.For f c step body) = StmtKind-F.For f c step (stmt_below b body)
stmt_parts_below b (StmtKind-F.Switch e groups) = StmtKind-F.Switch e (map (group_below b) groups)

abbrev pub item_parts_below : Below → ItemLayer → BlockItem-F Bool Bool Bool Bool
item_parts_below b (BlockItem-F.Declare ds) = BlockItem-F.Declare ds
item_parts_below b (BlockItem-F.«BlockItem::Act» s) = BlockItem-F.«BlockItem::Act» (stmt_below b s)

-- ---- programs

-- the calls of functions, of which the first has number k, go below these heights
abbrev pub functions_below : List ℕ → ℕ → List Function → Bool
functions_below heights k [] = true
functions_below heights k (f ∷ fs) = stmt_below (record { heights = heights; height = slice_index_or heights k 0 }) f.body && functions_below heights (k + 1) fs
