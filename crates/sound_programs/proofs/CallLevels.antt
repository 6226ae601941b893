-- Where the calls of an expression or a statement go, by its parts.
use Rattle.std.proofs.Common.{◌≡◌, refl, sym, ◌∙◌, Bool}
use Rattle.std.specs.Prelude.{None, Some, map}
use Rattle.c_tree.specs.Layer.{ExprLayer, StmtLayer, ItemLayer}
use Rattle.c_tree.specs.declared.tree.Expr.{Expr}
use Rattle.c_tree.specs.declared.tree.ExprKind.{ExprKind, out-ExprKind}
use Rattle.c_tree.specs.declared.tree.ExprKind.TheOpen.{ExprKind-F}
use Rattle.c_tree.specs.declared.tree.ExprKind.TheFolds.{map-ExprKind, fold-ExprKind, fold_out-ExprKind, fold_out-Expr}
use Rattle.c_tree.specs.declared.tree.Stmt.{Stmt}
use Rattle.c_tree.specs.declared.tree.Group.{Group}
use Rattle.c_tree.specs.declared.tree.BlockItem.{BlockItem, out-BlockItem}
use Rattle.c_tree.specs.declared.tree.BlockItem.TheOpen.{StmtKind-F, BlockItem-F}
use Rattle.c_tree.specs.declared.tree.BlockItem.TheFolds.{map-StmtKind, map-BlockItem, fold-StmtKind, fold_out-StmtKind, fold_out-Stmt, fold_out-Group, fold_out-BlockItem}
use Rattle.c_tree.specs.declared.tree.StmtKind.{StmtKind, out-StmtKind}
use Rattle.sound_programs.specs.Sound.{all_hold}
use Rattle.sound_programs.specs.Calls.{Below, calls_by, own_calls, calls_below, parts_below, item_calls_by, stmt_calls_by, group_calls_by, own_stmt_calls, stmt_below, item_below, group_below, stmt_parts_below, item_parts_below}

-- ---- expressions

of_kind : Below → ExprKind → Bool
of_kind d k = fold-ExprKind Bool Bool (calls_by d) own_calls k

mapped : (d : Below) (x : ExprLayer) → calls_by d (map-ExprKind ExprKind Expr Bool Bool (of_kind d) (calls_below d) x) ≡ calls_by d (parts_below d x)
mapped d (ExprKind-F.Number w) = refl
mapped d (ExprKind-F.Var x) = refl
mapped d (ExprKind-F.Element x i) = refl
mapped d (ExprKind-F.Convert e) = refl
mapped d (ExprKind-F.Unary op a) = refl
mapped d (ExprKind-F.Binary op a b) = refl
mapped d (ExprKind-F.Cond c a b) = refl
mapped d (ExprKind-F.Call f args) = refl
mapped d ExprKind-F.Input = refl
mapped d (ExprKind-F.Output e) = refl

kind_level : (d : Below) (k : ExprKind) → of_kind d k ≡ calls_by d (parts_below d (out-ExprKind k))
unfolding calls_below of_kind
kind_level d k = fold_out-ExprKind Bool Bool (calls_by d) own_calls k ∙ mapped d (out-ExprKind k)

pub expr_level : (d : Below) (e : Expr) → calls_by d (parts_below d (out-ExprKind e.kind)) ≡ calls_below d e
unfolding calls_below of_kind
expr_level d e = sym (kind_level d e.kind) ∙ sym (fold_out-Expr Bool Bool (calls_by d) own_calls e)

-- ---- statements

of_stmt : Below → StmtKind → Bool
of_stmt d k = fold-StmtKind Bool Bool Bool Bool (item_calls_by d) (stmt_calls_by d) group_calls_by own_stmt_calls k

mapped_stmt : (d : Below) (x : StmtLayer)
    → stmt_calls_by d (map-StmtKind BlockItem StmtKind Group Stmt Bool Bool Bool Bool (item_below d) (of_stmt d) (group_below d) (stmt_below d) x) ≡ stmt_calls_by d (stmt_parts_below d x)
mapped_stmt d (StmtKind-F.Block items) = refl
mapped_stmt d StmtKind-F.Empty = refl
mapped_stmt d (StmtKind-F.«StmtKind::Act» a) = refl
mapped_stmt d StmtKind-F.Break = refl
mapped_stmt d StmtKind-F.Continue = refl
mapped_stmt d (StmtKind-F.Return e) = refl
mapped_stmt d (StmtKind-F.If c a None) = refl
mapped_stmt d (StmtKind-F.If c a (Some b)) = refl
mapped_stmt d (StmtKind-F.While c body) = refl
mapped_stmt d (StmtKind-F.Do body c) = refl
mapped_stmt d (StmtKind-F.For f c step body) = refl
mapped_stmt d (StmtKind-F.Switch e groups) = refl

mapped_item : (d : Below) (x : ItemLayer)
    → item_calls_by d (map-BlockItem BlockItem StmtKind Group Stmt Bool Bool Bool Bool (item_below d) (of_stmt d) (group_below d) (stmt_below d) x) ≡ item_calls_by d (item_parts_below d x)
mapped_item d (BlockItem-F.Declare ds) = refl
mapped_item d (BlockItem-F.«BlockItem::Act» s) = refl

stmt_kind_level : (d : Below) (k : StmtKind) → of_stmt d k ≡ stmt_calls_by d (stmt_parts_below d (out-StmtKind k))
unfolding stmt_below item_below group_below of_stmt
stmt_kind_level d k = fold_out-StmtKind Bool Bool Bool Bool (item_calls_by d) (stmt_calls_by d) group_calls_by own_stmt_calls k ∙ mapped_stmt d (out-StmtKind k)

pub stmt_level : (d : Below) (s : Stmt) → stmt_calls_by d (stmt_parts_below d (out-StmtKind s.kind)) ≡ stmt_below d s
unfolding stmt_below item_below group_below of_stmt
stmt_level d s = sym (stmt_kind_level d s.kind) ∙ sym (fold_out-Stmt Bool Bool Bool Bool (item_calls_by d) (stmt_calls_by d) group_calls_by own_stmt_calls s)

pub item_level : (d : Below) (b : BlockItem) → item_calls_by d (item_parts_below d (out-BlockItem b)) ≡ item_below d b
unfolding stmt_below item_below group_below of_stmt
item_level d b = sym (mapped_item d (out-BlockItem b)) ∙ sym (fold_out-BlockItem Bool Bool Bool Bool (item_calls_by d) (stmt_calls_by d) group_calls_by own_stmt_calls b)

pub group_level : (d : Below) (g : Group) → all_hold (map (item_below d) g.items) ≡ group_below d g
unfolding stmt_below item_below group_below of_stmt
group_level d g = sym (fold_out-Group Bool Bool Bool Bool (item_calls_by d) (stmt_calls_by d) group_calls_by own_stmt_calls g)
