-- What a statement is lowered to, by its parts.
use Rattle.std.proofs.Common.{◌≡◌, refl, sym, ap, ◌∙◌}
use Rattle.std.specs.Prelude.{None, Some}
use Rattle.c_tree.specs.Layer.{StmtLayer, ItemLayer}
use Rattle.c_tree.specs.declared.tree.Stmt.{Stmt}
use Rattle.c_tree.specs.declared.tree.Group.{Group}
use Rattle.c_tree.specs.declared.tree.BlockItem.{BlockItem, out-BlockItem}
use Rattle.c_tree.specs.declared.tree.BlockItem.TheOpen.{StmtKind-F, BlockItem-F}
use Rattle.c_tree.specs.declared.tree.BlockItem.TheFolds.{map-StmtKind, map-BlockItem, fold-StmtKind, fold_out-StmtKind, fold_out-Stmt, fold_out-Group, fold_out-BlockItem}
use Rattle.c_tree.specs.declared.tree.StmtKind.{StmtKind, out-StmtKind}
use Rattle.lowered_graphs.specs.Stmts.{Within, LoweredStmt, LoweredGroup, KindOf, lowered_by, item_by, group_by, own_stmt, lowered_stmt, lowered_item, lowered_group, stmt_parts, item_parts, group_parts}

kind_lowered : Within → StmtKind → KindOf
kind_lowered w k = fold-StmtKind LoweredStmt KindOf LoweredGroup LoweredStmt (item_by w) (lowered_by w) group_by own_stmt k

mapped_stmt : (w : Within) (x : StmtLayer)
    → lowered_by w (map-StmtKind BlockItem StmtKind Group Stmt LoweredStmt KindOf LoweredGroup LoweredStmt (lowered_item w) (kind_lowered w) (lowered_group w) (lowered_stmt w) x) ≡ lowered_by w (stmt_parts w x)
mapped_stmt w (StmtKind-F.Block items) = refl
mapped_stmt w StmtKind-F.Empty = refl
mapped_stmt w (StmtKind-F.«StmtKind::Act» a) = refl
mapped_stmt w StmtKind-F.Break = refl
mapped_stmt w StmtKind-F.Continue = refl
mapped_stmt w (StmtKind-F.Return e) = refl
mapped_stmt w (StmtKind-F.If c x None) = refl
mapped_stmt w (StmtKind-F.If c x (Some y)) = refl
mapped_stmt w (StmtKind-F.While c body) = refl
mapped_stmt w (StmtKind-F.Do body c) = refl
mapped_stmt w (StmtKind-F.For f c step body) = refl
mapped_stmt w (StmtKind-F.Switch e groups) = refl

mapped_item : (w : Within) (x : ItemLayer)
    → item_by w (map-BlockItem BlockItem StmtKind Group Stmt LoweredStmt KindOf LoweredGroup LoweredStmt (lowered_item w) (kind_lowered w) (lowered_group w) (lowered_stmt w) x) ≡ item_by w (item_parts w x)
mapped_item w (BlockItem-F.Declare ds) = refl
mapped_item w (BlockItem-F.«BlockItem::Act» s) = refl

kind_level : (w : Within) (k : StmtKind) → kind_lowered w k ≡ lowered_by w (stmt_parts w (out-StmtKind k))
unfolding lowered_stmt lowered_item lowered_group kind_lowered
kind_level w k = fold_out-StmtKind LoweredStmt KindOf LoweredGroup LoweredStmt (item_by w) (lowered_by w) group_by own_stmt k ∙ mapped_stmt w (out-StmtKind k)

pub stmt_level : (w : Within) (s : Stmt) → lowered_by w (stmt_parts w (out-StmtKind s.kind)) s.place ≡ lowered_stmt w s
unfolding lowered_stmt kind_lowered
stmt_level w s = ap (λ f. f s.place) (sym (kind_level w s.kind)) ∙ sym (fold_out-Stmt LoweredStmt KindOf LoweredGroup LoweredStmt (item_by w) (lowered_by w) group_by own_stmt s)

pub item_level : (w : Within) (b : BlockItem) → item_by w (item_parts w (out-BlockItem b)) ≡ lowered_item w b
unfolding lowered_stmt lowered_item lowered_group kind_lowered
item_level w b = sym (mapped_item w (out-BlockItem b)) ∙ sym (fold_out-BlockItem LoweredStmt KindOf LoweredGroup LoweredStmt (item_by w) (lowered_by w) group_by own_stmt b)

pub group_level : (w : Within) (g : Group) → group_parts w g ≡ lowered_group w g
unfolding lowered_item lowered_group
group_level w g = sym (fold_out-Group LoweredStmt KindOf LoweredGroup LoweredStmt (item_by w) (lowered_by w) group_by own_stmt g)
