-- The variables that a statement declares, by its parts.
use Rattle.std.proofs.Common.{◌≡◌, refl, sym, ap, ◌∙◌, List, [], ◌∷◌, ◌++◌, map, Ok, Err}
use Rattle.std.specs.Prelude.{Result, IfOk}
use Rattle.c_tree.specs.declared.tree.Expr.{Expr}
use Rattle.c_tree.specs.declared.tree.Group.{Group}
use Rattle.c_tree.specs.declared.tree.Stmt.{Stmt}
use Rattle.c_tree.specs.declared.tree.Declared.{Declared}
use Rattle.c_tree.specs.declared.tree.BlockItem.{BlockItem, out-BlockItem}
use Rattle.c_tree.specs.declared.tree.BlockItem.TheOpen.{StmtKind-F, BlockItem-F}
use Rattle.c_tree.specs.declared.tree.StmtKind.{out-StmtKind}
use Rattle.c_tree.specs.Layer.{StmtLayer}
use Rattle.lowered_graphs.specs.Stmts.{Within, lowered_stmt, lowered_item, lowered_group, all_of, all_of_groups, declares, declared_locals, locals_by, stmt_parts, item_by, item_parts}
use Rattle.lowered_graphs.proofs.StmtLevels.{stmt_level, item_level, group_level}
use Rattle.c_lower.specs.Naming.{items_locals, groups_locals}

-- what holds where something is given, put otherwise
pub ok_then : {A E P Q : Type 0} (r : Result A E) → IfOk r (λ u. P) → (P → Q) → IfOk r (λ u. Q)
ok_then (Ok x) h f = f h
ok_then (Err e) h f = h

pub stmt_locals : (w : Within) (s : Stmt) → locals_by (stmt_parts w (out-StmtKind s.kind)) ≡ (lowered_stmt w s).locals
stmt_locals w s = ap (λ x. x.locals) (stmt_level w s)

pub item_declared : (w : Within) (b : BlockItem) (ds : List Declared) → out-BlockItem b ≡ BlockItem-F.Declare ds → declares w ds ≡ lowered_item w b
item_declared w b ds h = sym (ap (λ x. item_by w (item_parts w x)) h) ∙ item_level w b

pub item_acted : (w : Within) (b : BlockItem) (s : Stmt) → out-BlockItem b ≡ BlockItem-F.«BlockItem::Act» s → lowered_stmt w s ≡ lowered_item w b
item_acted w b s h = sym (ap (λ x. item_by w (item_parts w x)) h) ∙ item_level w b

pub item_declares : (w : Within) (b : BlockItem) (ds : List Declared) → out-BlockItem b ≡ BlockItem-F.Declare ds → declared_locals ds ≡ (lowered_item w b).locals
item_declares w b ds h = sym (ap (λ x. (item_by w (item_parts w x)).locals) h) ∙ ap (λ x. x.locals) (item_level w b)

pub item_acts : (w : Within) (b : BlockItem) (s : Stmt) → out-BlockItem b ≡ BlockItem-F.«BlockItem::Act» s → (lowered_stmt w s).locals ≡ (lowered_item w b).locals
item_acts w b s h = sym (ap (λ x. (item_by w (item_parts w x)).locals) h) ∙ ap (λ x. x.locals) (item_level w b)

groups_all : (w : Within) (gs : List Group) → all_of_groups (λ x. x.locals) (map (lowered_group w) gs) ≡ groups_locals w gs
groups_all w [] = refl
groups_all w (g ∷ gs) = ap (λ x. all_of (λ z. z.locals) x.items ++ all_of_groups (λ z. z.locals) (map (lowered_group w) gs)) (sym (group_level w g))
    ∙ ap (λ l. items_locals w g.items ++ l) (groups_all w gs)

pub switch_locals : (w : Within) (l : StmtLayer) (e : Expr) (gs : List Group) → l ≡ StmtKind-F.Switch e gs → groups_locals w gs ≡ locals_by (stmt_parts w l)
switch_locals w l e gs h = sym (groups_all w gs) ∙ sym (ap (λ x. locals_by (stmt_parts w x)) h)
