-- What is known of an expression or a statement, by what is known of its parts.
use Rattle.std.proofs.Common.{◌≡◌, refl, sym, ap, ◌∙◌, Bool}
use Rattle.std.specs.Prelude.{Option, None, Some, map, ◌&&◌}
use Rattle.c_values.specs.declared.ops.Ty.{Ty}
use Rattle.c_tree.specs.Layer.{ExprLayer, StmtLayer, ItemLayer}
use Rattle.c_tree.specs.declared.tree.Expr.{Expr}
use Rattle.c_tree.specs.declared.tree.ExprKind.{ExprKind, out-ExprKind}
use Rattle.c_tree.specs.declared.tree.ExprKind.TheOpen.{ExprKind-F}
use Rattle.c_tree.specs.declared.tree.ExprKind.TheFolds.{map-ExprKind, fold-ExprKind, fold_out-ExprKind, fold_out-Expr}
use Rattle.c_tree.specs.declared.tree.Program.{Program}
use Rattle.c_tree.specs.declared.tree.Stmt.{Stmt}
use Rattle.c_tree.specs.declared.tree.Group.{Group}
use Rattle.c_tree.specs.declared.tree.BlockItem.{BlockItem, out-BlockItem}
use Rattle.c_tree.specs.declared.tree.BlockItem.TheOpen.{StmtKind-F, BlockItem-F}
use Rattle.c_tree.specs.declared.tree.BlockItem.TheFolds.{map-StmtKind, map-BlockItem, fold-StmtKind, fold_out-StmtKind, fold_out-Stmt, fold_out-Group, fold_out-BlockItem}
use Rattle.c_tree.specs.declared.tree.StmtKind.{StmtKind, out-StmtKind}
use Rattle.sound_programs.specs.Sound.{Typing, typing, typing_by, own_typing, known, stmt_by, stmt_fits, parts_fit, item_by, item_fits, item_parts_fit, group_by, group_fits, own_stmt, is_labelled, labels_fit, all_hold}

-- ---- expressions

kind_typing : Program → ExprKind → Ty → Typing
kind_typing p k = fold-ExprKind (Ty → Typing) Typing (typing_by p) own_typing k

mapped : (p : Program) (x : ExprLayer) → typing_by p (map-ExprKind ExprKind Expr (Ty → Typing) Typing (kind_typing p) (typing p) x) ≡ typing_by p (known p x)
mapped p (ExprKind-F.Number w) = refl
mapped p (ExprKind-F.Var x) = refl
mapped p (ExprKind-F.Element x i) = refl
mapped p (ExprKind-F.Convert e) = refl
mapped p (ExprKind-F.Unary op a) = refl
mapped p (ExprKind-F.Binary op a b) = refl
mapped p (ExprKind-F.Cond c a b) = refl
mapped p (ExprKind-F.Call f args) = refl
mapped p ExprKind-F.Input = refl
mapped p (ExprKind-F.Output e) = refl

kind_level : (p : Program) (k : ExprKind) → kind_typing p k ≡ typing_by p (known p (out-ExprKind k))
unfolding typing kind_typing
kind_level p k = fold_out-ExprKind (Ty → Typing) Typing (typing_by p) own_typing k ∙ mapped p (out-ExprKind k)

pub typing_level : (p : Program) (e : Expr) → typing_by p (known p (out-ExprKind e.kind)) e.ty ≡ typing p e
unfolding typing kind_typing
typing_level p e = ap (λ f. f e.ty) (sym (kind_level p e.kind)) ∙ sym (fold_out-Expr (Ty → Typing) Typing (typing_by p) own_typing e)

-- ---- statements

kind_fits : Program → Option Ty → StmtKind → Bool
kind_fits p r k = fold-StmtKind Bool Bool Bool Bool (item_by p) (stmt_by p r) group_by own_stmt k

mapped_stmt : (p : Program) (r : Option Ty) (x : StmtLayer)
    → stmt_by p r (map-StmtKind BlockItem StmtKind Group Stmt Bool Bool Bool Bool (item_fits p r) (kind_fits p r) (group_fits p r) (stmt_fits p r) x) ≡ stmt_by p r (parts_fit p r x)
mapped_stmt p r (StmtKind-F.Block items) = refl
mapped_stmt p r StmtKind-F.Empty = refl
mapped_stmt p r (StmtKind-F.«StmtKind::Act» a) = refl
mapped_stmt p r StmtKind-F.Break = refl
mapped_stmt p r StmtKind-F.Continue = refl
mapped_stmt p r (StmtKind-F.Return e) = refl
mapped_stmt p r (StmtKind-F.If c a None) = refl
mapped_stmt p r (StmtKind-F.If c a (Some b)) = refl
mapped_stmt p r (StmtKind-F.While c body) = refl
mapped_stmt p r (StmtKind-F.Do body c) = refl
mapped_stmt p r (StmtKind-F.For f c step body) = refl
mapped_stmt p r (StmtKind-F.Switch e groups) = refl

mapped_item : (p : Program) (r : Option Ty) (x : ItemLayer)
    → item_by p (map-BlockItem BlockItem StmtKind Group Stmt Bool Bool Bool Bool (item_fits p r) (kind_fits p r) (group_fits p r) (stmt_fits p r) x) ≡ item_by p (item_parts_fit p r x)
mapped_item p r (BlockItem-F.Declare ds) = refl
mapped_item p r (BlockItem-F.«BlockItem::Act» s) = refl

stmt_kind_level : (p : Program) (r : Option Ty) (k : StmtKind) → kind_fits p r k ≡ stmt_by p r (parts_fit p r (out-StmtKind k))
unfolding stmt_fits item_fits group_fits kind_fits
stmt_kind_level p r k = fold_out-StmtKind Bool Bool Bool Bool (item_by p) (stmt_by p r) group_by own_stmt k ∙ mapped_stmt p r (out-StmtKind k)

pub stmt_level : (p : Program) (r : Option Ty) (s : Stmt) → stmt_by p r (parts_fit p r (out-StmtKind s.kind)) ≡ stmt_fits p r s
unfolding stmt_fits kind_fits
stmt_level p r s = sym (stmt_kind_level p r s.kind) ∙ sym (fold_out-Stmt Bool Bool Bool Bool (item_by p) (stmt_by p r) group_by own_stmt s)

pub item_level : (p : Program) (r : Option Ty) (b : BlockItem) → item_by p (item_parts_fit p r (out-BlockItem b)) ≡ item_fits p r b
unfolding stmt_fits item_fits group_fits kind_fits
item_level p r b = sym (mapped_item p r (out-BlockItem b)) ∙ sym (fold_out-BlockItem Bool Bool Bool Bool (item_by p) (stmt_by p r) group_by own_stmt b)

pub group_level : (p : Program) (r : Option Ty) (g : Group) → (is_labelled g.labels && (labels_fit g.labels && all_hold (map (item_fits p r) g.items))) ≡ group_fits p r g
unfolding item_fits group_fits
group_level p r g = sym (fold_out-Group Bool Bool Bool Bool (item_by p) (stmt_by p r) group_by own_stmt g)
