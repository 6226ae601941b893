-- What is sought in expressions and statements.
use Rattle.std.specs.Prelude.{ℕ, Bool, true, false, ◌||◌, ◌&&◌, ◌==◌, Option, Some, None, List, [], ◌∷◌}
use Rattle.c_tree.specs.declared.tree.Expr.{Expr}
use Rattle.c_tree.specs.declared.tree.Stmt.{Stmt}
use Rattle.c_tree.specs.declared.tree.Group.{Group}
use Rattle.c_tree.specs.declared.tree.BlockItem.{BlockItem}
use Rattle.c_tree.specs.declared.tree.BlockItem.TheOpen.{StmtKind-F, BlockItem-F}
use Rattle.c_tree.specs.declared.tree.Declared.{Declared}
use Rattle.c_tree.specs.declared.tree.Action.{Action}
use Rattle.c_tree.specs.declared.tree.Action.TheVariants as action
use Rattle.c_tree.specs.declared.tree.ForFirst.{ForFirst}
use Rattle.c_tree.specs.declared.tree.ForFirst.TheVariants as first
use Rattle.c_tree.specs.Layer.{StmtLayer, ItemLayer}
use Rattle.lowered_graphs.specs.Exprs.{Setting, has_any}
use Rattle.lowered_graphs.specs.Stmts.{Within, LoweredStmt, holds, lowered_stmt, lowered_item, expr_callees}
use Rattle.c_lower.specs.declared.calling.Callee.{Callee}
use Rattle.c_lower.specs.declared.calling.Callee.TheVariants.{Any, Function}
use Rattle.c_lower.specs.declared.holding.Sought.{Sought}
use Rattle.c_lower.specs.declared.holding.Sought.TheVariants as sought

-- whether one of these functions is meant
abbrev pub is_among : Callee → List ℕ → Bool
is_among Any fs = has_any fs
is_among (Function f) fs = holds f fs

-- whether a statement has what is sought
abbrev pub has : Sought → LoweredStmt → Bool
has sought.Break x = x.breaks
has sought.Continue x = x.continues
has sought.Return x = x.returns
has (sought.Assigned v) x = holds v x.assigned
has (sought.Call f) x = holds f x.callees

-- ---- by the parts of a statement

abbrev pub expr_has : Setting → Sought → Expr → Bool
expr_has s (sought.Call f) e = holds f (expr_callees s e)
expr_has s _ e = false

abbrev pub opt_has : Setting → Sought → Option Expr → Bool
opt_has s k None = false
opt_has s k (Some e) = expr_has s k e

abbrev pub exprs_have : Setting → Sought → List Expr → Bool
exprs_have s k [] = false
exprs_have s k (e ∷ es) = expr_has s k e || exprs_have s k es

abbrev pub is_assigned : Sought → ℕ → Bool
is_assigned (sought.Assigned v) x = v == x
is_assigned _ x = false

abbrev pub action_has : Setting → Sought → Action → Bool
action_has s k (action.Value e) = expr_has s k e
action_has s k (action.Assign to e) = is_assigned k to.variable || (opt_has s k to.index || expr_has s k e)
action_has s k (action.Update to at op ty by) = is_assigned k to.variable || (opt_has s k to.index || opt_has s k by)

abbrev pub opt_action_has : Setting → Sought → Option Action → Bool
opt_action_has s k None = false
opt_action_has s k (Some a) = action_has s k a

abbrev pub declared_have : Setting → Sought → List Declared → Bool
declared_have s k [] = false
declared_have s k (d ∷ ds) = exprs_have s k d.values || declared_have s k ds

abbrev pub first_has : Setting → Sought → Option ForFirst → Bool
first_has s k None = false
first_has s k (Some (first.Declare ds)) = declared_have s k ds
first_has s k (Some (first.Act a)) = action_has s k a

abbrev pub stmt_has : Within → Sought → Stmt → Bool
stmt_has w k s = has k (lowered_stmt w s)

abbrev pub opt_stmt_has : Within → Sought → Option Stmt → Bool
opt_stmt_has w k None = false
opt_stmt_has w k (Some s) = stmt_has w k s

abbrev pub items_have : Within → Sought → List BlockItem → Bool
items_have w k [] = false
items_have w k (b ∷ bs) = has k (lowered_item w b) || items_have w k bs

abbrev pub groups_have : Within → Sought → List Group → Bool
groups_have w k [] = false
groups_have w k (g ∷ gs) = items_have w k g.items || groups_have w k gs

-- a `break` or a `continue` in a loop is the loop's
abbrev pub leaves_loops : Sought → Bool
leaves_loops sought.Break = false
leaves_loops sought.Continue = false
leaves_loops _ = true

-- a `break` in a switch is the switch's
abbrev pub leaves_switches : Sought → Bool
leaves_switches sought.Break = false
leaves_switches _ = true

abbrev pub is_break : Sought → Bool
is_break sought.Break = true
is_break _ = false

abbrev pub is_continue : Sought → Bool
is_continue sought.Continue = true
is_continue _ = false

abbrev pub is_return : Sought → Bool
is_return sought.Return = true
is_return _ = false

abbrev pub for_has : Within → Sought → Option ForFirst → Option Expr → Option Action → Stmt → Bool
for_has w k f c step body = leaves_loops k && (first_has w.setting k f || (opt_has w.setting k c || (opt_action_has w.setting k step || stmt_has w k body)))

abbrev pub layer_has : Within → Sought → StmtLayer → Bool
layer_has w k (StmtKind-F.Block items) = items_have w k items
layer_has w k StmtKind-F.Empty = false
layer_has w k (StmtKind-F.«StmtKind::Act» a) = action_has w.setting k a
layer_has w k StmtKind-F.Break = is_break k
layer_has w k StmtKind-F.Continue = is_continue k
layer_has w k (StmtKind-F.Return e) = is_return k || opt_has w.setting k e
layer_has w k (StmtKind-F.If c x y) = expr_has w.setting k c || (stmt_has w k x || opt_stmt_has w k y)
layer_has w k (StmtKind-F.While c body) = expr_has w.setting k c || (leaves_loops k && stmt_has w k body)
layer_has w k (StmtKind-F.Do body c) = (leaves_loops k && stmt_has w k body) || expr_has w.setting k c
layer_has w k (StmtKind-F.For f c step body) = for_has w k f c step body
layer_has w k (StmtKind-F.Switch e groups) = expr_has w.setting k e || (leaves_switches k && groups_have w k groups)

abbrev pub layer_item : Within → Sought → ItemLayer → Bool
layer_item w k (BlockItem-F.Declare ds) = declared_have w.setting k ds
layer_item w k (BlockItem-F.«BlockItem::Act» s) = stmt_has w k s
