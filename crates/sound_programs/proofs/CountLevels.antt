-- How many nodes an expression or a statement has, by its parts.
use Rattle.std.proofs.Common.{◌≡◌, refl, sym, ap, ◌∙◌, ℕ, ◌+◌, length}
use Rattle.std.specs.Prelude.{None, Some, map}
use Rattle.c_tree.specs.Layer.{ExprLayer, StmtLayer, ItemLayer}
use Rattle.c_tree.specs.declared.tree.Expr.{Expr}
use Rattle.c_tree.specs.declared.tree.ExprKind.{ExprKind, out-ExprKind}
use Rattle.c_tree.specs.declared.tree.ExprKind.TheOpen.{ExprKind-F}
use Rattle.c_tree.specs.declared.tree.ExprKind.TheFolds.{map-ExprKind, fold-ExprKind, fold_out-ExprKind, fold_out-Expr}
use Rattle.c_tree.specs.declared.tree.Program.{Program}
use Rattle.c_tree.specs.declared.tree.Stmt.{Stmt}
use Rattle.c_tree.specs.declared.tree.Group.{Group}
use Rattle.c_tree.specs.declared.tree.BlockItem.{BlockItem, out-BlockItem}
use Rattle.c_tree.specs.declared.tree.BlockItem.TheOpen.{StmtKind-F, BlockItem-F}
use Rattle.c_tree.specs.declared.tree.BlockItem.TheFolds.{map-StmtKind, map-BlockItem, fold-StmtKind, fold_out-StmtKind, fold_out-Stmt, fold_out-Group, fold_out-BlockItem}
use Rattle.c_tree.specs.declared.tree.StmtKind.{StmtKind, out-StmtKind}
use Rattle.sound_programs.specs.Counted.{sum_of, parts_nodes, own_nodes, expr_nodes, counted, item_nodes_by, kind_nodes_by, group_nodes_by, stmt_nodes_by, stmt_nodes, item_nodes, group_nodes, counted_stmt, counted_item}

-- ---- expressions

of_kind : ExprKind → ℕ
of_kind k = fold-ExprKind ℕ ℕ parts_nodes own_nodes k

mapped : (x : ExprLayer) → parts_nodes (map-ExprKind ExprKind Expr ℕ ℕ of_kind expr_nodes x) ≡ parts_nodes (counted x)
mapped (ExprKind-F.Number w) = refl
mapped (ExprKind-F.Var x) = refl
mapped (ExprKind-F.Element x i) = refl
mapped (ExprKind-F.Convert e) = refl
mapped (ExprKind-F.Unary op a) = refl
mapped (ExprKind-F.Binary op a b) = refl
mapped (ExprKind-F.Cond c a b) = refl
mapped (ExprKind-F.Call f args) = refl
mapped ExprKind-F.Input = refl
mapped (ExprKind-F.Output e) = refl

kind_level : (k : ExprKind) → of_kind k ≡ parts_nodes (counted (out-ExprKind k))
unfolding expr_nodes of_kind
kind_level k = fold_out-ExprKind ℕ ℕ parts_nodes own_nodes k ∙ mapped (out-ExprKind k)

pub expr_level : (e : Expr) → 1 + parts_nodes (counted (out-ExprKind e.kind)) ≡ expr_nodes e
unfolding expr_nodes of_kind
expr_level e = ap (λ n. 1 + n) (sym (kind_level e.kind)) ∙ sym (fold_out-Expr ℕ ℕ parts_nodes own_nodes e)

-- ---- statements

of_stmt : Program → StmtKind → ℕ
of_stmt p k = fold-StmtKind ℕ ℕ ℕ ℕ (item_nodes_by p) (kind_nodes_by p) group_nodes_by stmt_nodes_by k

mapped_stmt : (p : Program) (x : StmtLayer)
    → kind_nodes_by p (map-StmtKind BlockItem StmtKind Group Stmt ℕ ℕ ℕ ℕ (item_nodes p) (of_stmt p) (group_nodes p) (stmt_nodes p) x) ≡ kind_nodes_by p (counted_stmt p x)
mapped_stmt p (StmtKind-F.Block items) = refl
mapped_stmt p StmtKind-F.Empty = refl
mapped_stmt p (StmtKind-F.«StmtKind::Act» a) = refl
mapped_stmt p StmtKind-F.Break = refl
mapped_stmt p StmtKind-F.Continue = refl
mapped_stmt p (StmtKind-F.Return e) = refl
mapped_stmt p (StmtKind-F.If c a None) = refl
mapped_stmt p (StmtKind-F.If c a (Some b)) = refl
mapped_stmt p (StmtKind-F.While c body) = refl
mapped_stmt p (StmtKind-F.Do body c) = refl
mapped_stmt p (StmtKind-F.For f c step body) = refl
mapped_stmt p (StmtKind-F.Switch e groups) = refl

mapped_item : (p : Program) (x : ItemLayer)
    → item_nodes_by p (map-BlockItem BlockItem StmtKind Group Stmt ℕ ℕ ℕ ℕ (item_nodes p) (of_stmt p) (group_nodes p) (stmt_nodes p) x) ≡ item_nodes_by p (counted_item p x)
mapped_item p (BlockItem-F.Declare ds) = refl
mapped_item p (BlockItem-F.«BlockItem::Act» s) = refl

stmt_kind_level : (p : Program) (k : StmtKind) → of_stmt p k ≡ kind_nodes_by p (counted_stmt p (out-StmtKind k))
unfolding stmt_nodes item_nodes group_nodes of_stmt
stmt_kind_level p k = fold_out-StmtKind ℕ ℕ ℕ ℕ (item_nodes_by p) (kind_nodes_by p) group_nodes_by stmt_nodes_by k ∙ mapped_stmt p (out-StmtKind k)

pub stmt_level : (p : Program) (s : Stmt) → 1 + kind_nodes_by p (counted_stmt p (out-StmtKind s.kind)) ≡ stmt_nodes p s
unfolding stmt_nodes item_nodes group_nodes of_stmt
stmt_level p s = ap (λ n. 1 + n) (sym (stmt_kind_level p s.kind)) ∙ sym (fold_out-Stmt ℕ ℕ ℕ ℕ (item_nodes_by p) (kind_nodes_by p) group_nodes_by stmt_nodes_by s)

pub item_level : (p : Program) (b : BlockItem) → item_nodes_by p (counted_item p (out-BlockItem b)) ≡ item_nodes p b
unfolding stmt_nodes item_nodes group_nodes of_stmt
item_level p b = sym (mapped_item p (out-BlockItem b)) ∙ sym (fold_out-BlockItem ℕ ℕ ℕ ℕ (item_nodes_by p) (kind_nodes_by p) group_nodes_by stmt_nodes_by b)

pub group_level : (p : Program) (g : Group) → length g.labels + sum_of (map (item_nodes p) g.items) ≡ group_nodes p g
unfolding stmt_nodes item_nodes group_nodes of_stmt
group_level p g = sym (fold_out-Group ℕ ℕ ℕ ℕ (item_nodes_by p) (kind_nodes_by p) group_nodes_by stmt_nodes_by g)
