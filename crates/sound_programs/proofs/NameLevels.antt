-- What is known of the names and of the jumps of an expression or a statement, by what is known of its parts.
use Rattle.std.proofs.Common.{◌≡◌, refl, sym, ◌∙◌, Bool, ℕ, List}
use Rattle.std.specs.Prelude.{None, Some, map}
use Rattle.std.specs.Option.{option_map}
use Rattle.c_tree.specs.Layer.{ExprLayer, StmtLayer, ItemLayer}
use Rattle.c_tree.specs.declared.tree.Expr.{Expr}
use Rattle.c_tree.specs.declared.tree.ExprKind.{ExprKind, out-ExprKind}
use Rattle.c_tree.specs.declared.tree.ExprKind.TheOpen.{ExprKind-F}
use Rattle.c_tree.specs.declared.tree.ExprKind.TheFolds.{map-ExprKind, fold-ExprKind, fold_out-ExprKind, fold_out-Expr}
use Rattle.c_tree.specs.declared.tree.Stmt.{Stmt}
use Rattle.c_tree.specs.declared.tree.Group.{Group}
use Rattle.c_tree.specs.declared.tree.BlockItem.{BlockItem, out-BlockItem}
use Rattle.c_tree.specs.declared.tree.BlockItem.TheOpen.{StmtKind-F, BlockItem-F}
use Rattle.c_tree.specs.declared.tree.BlockItem.TheFolds.{map-StmtKind, map-BlockItem, fold-StmtKind, fold_out-StmtKind, fold_out-Stmt, fold_out-Group, fold_out-BlockItem}
use Rattle.c_tree.specs.declared.tree.StmtKind.{StmtKind, out-StmtKind}
use Rattle.sound_programs.specs.Scoped.{Scope, names, names_by, own_names, Scoped, ScopedGroup, scoped, scoped_item, scoped_group, item_by, kind_by, group_by, own_stmt, locals, item_locals, group_locals, stmt_numbers_by, item_numbers_by, group_numbers_by, own_numbers, joined}

-- ---- expressions

-- what is known of the parts of a level
abbrev pub named : ExprLayer → ExprKind-F (Scope → Bool) (Scope → Bool)
named (ExprKind-F.Number w) = ExprKind-F.Number w
named (ExprKind-F.Var x) = ExprKind-F.Var x
named (ExprKind-F.Element x i) = ExprKind-F.Element x (names i)
named (ExprKind-F.Convert e) = ExprKind-F.Convert (names e)
named (ExprKind-F.Unary op a) = ExprKind-F.Unary op (names a)
named (ExprKind-F.Binary op a b) = ExprKind-F.Binary op (names a) (names b)
named (ExprKind-F.Cond c a b) = ExprKind-F.Cond (names c) (names a) (names b)
named (ExprKind-F.Call f args) = ExprKind-F.Call f (map names args)
named ExprKind-F.Input = ExprKind-F.Input
named (ExprKind-F.Output e) = ExprKind-F.Output (names e)

kind_names : ExprKind → Scope → Bool
kind_names k = fold-ExprKind (Scope → Bool) (Scope → Bool) names_by own_names k

mapped : (x : ExprLayer) → names_by (map-ExprKind ExprKind Expr (Scope → Bool) (Scope → Bool) kind_names names x) ≡ names_by (named x)
mapped (ExprKind-F.Number w) = refl
mapped (ExprKind-F.Var x) = refl
mapped (ExprKind-F.Element x i) = refl
mapped (ExprKind-F.Convert e) = refl
mapped (ExprKind-F.Unary op a) = refl
mapped (ExprKind-F.Binary op a b) = refl
mapped (ExprKind-F.Cond c a b) = refl
mapped (ExprKind-F.Call f args) = refl
mapped ExprKind-F.Input = refl
mapped (ExprKind-F.Output e) = refl

kind_level : (k : ExprKind) → kind_names k ≡ names_by (named (out-ExprKind k))
unfolding names kind_names
kind_level k = fold_out-ExprKind (Scope → Bool) (Scope → Bool) names_by own_names k ∙ mapped (out-ExprKind k)

pub names_level : (e : Expr) → names_by (named (out-ExprKind e.kind)) ≡ names e
unfolding names kind_names
names_level e = sym (kind_level e.kind) ∙ sym (fold_out-Expr (Scope → Bool) (Scope → Bool) names_by own_names e)

-- ---- statements

abbrev pub scoped_parts : StmtLayer → StmtKind-F Scoped Scoped ScopedGroup Scoped
scoped_parts (StmtKind-F.Block items) = StmtKind-F.Block (map scoped_item items)
scoped_parts StmtKind-F.Empty = StmtKind-F.Empty
scoped_parts (StmtKind-F.«StmtKind::Act» a) = StmtKind-F.«StmtKind::Act» a
scoped_parts StmtKind-F.Break = StmtKind-F.Break
scoped_parts StmtKind-F.Continue = StmtKind-F.Continue
scoped_parts (StmtKind-F.Return e) = StmtKind-F.Return e
scoped_parts (StmtKind-F.If c x y) = StmtKind-F.If c (scoped x) (option_map scoped y)
scoped_parts (StmtKind-F.While c body) = StmtKind-F.While c (scoped body)
scoped_parts (StmtKind-F.Do body c) = StmtKind-F.Do (scoped body) c
scoped_parts (StmtKind-F.For f c step body) = StmtKind-F.For f c step (scoped body)
scoped_parts (StmtKind-F.Switch e groups) = StmtKind-F.Switch e (map scoped_group groups)

abbrev pub scoped_item_parts : ItemLayer → BlockItem-F Scoped Scoped ScopedGroup Scoped
scoped_item_parts (BlockItem-F.Declare ds) = BlockItem-F.Declare ds
scoped_item_parts (BlockItem-F.«BlockItem::Act» s) = BlockItem-F.«BlockItem::Act» (scoped s)

kind_scoped : StmtKind → Scoped
kind_scoped k = fold-StmtKind Scoped Scoped ScopedGroup Scoped item_by kind_by group_by own_stmt k

mapped_stmt : (x : StmtLayer) → kind_by (map-StmtKind BlockItem StmtKind Group Stmt Scoped Scoped ScopedGroup Scoped scoped_item kind_scoped scoped_group scoped x) ≡ kind_by (scoped_parts x)
mapped_stmt (StmtKind-F.Block items) = refl
mapped_stmt StmtKind-F.Empty = refl
mapped_stmt (StmtKind-F.«StmtKind::Act» a) = refl
mapped_stmt StmtKind-F.Break = refl
mapped_stmt StmtKind-F.Continue = refl
mapped_stmt (StmtKind-F.Return e) = refl
mapped_stmt (StmtKind-F.If c a None) = refl
mapped_stmt (StmtKind-F.If c a (Some b)) = refl
mapped_stmt (StmtKind-F.While c body) = refl
mapped_stmt (StmtKind-F.Do body c) = refl
mapped_stmt (StmtKind-F.For f c step body) = refl
mapped_stmt (StmtKind-F.Switch e groups) = refl

mapped_item : (x : ItemLayer) → item_by (map-BlockItem BlockItem StmtKind Group Stmt Scoped Scoped ScopedGroup Scoped scoped_item kind_scoped scoped_group scoped x) ≡ item_by (scoped_item_parts x)
mapped_item (BlockItem-F.Declare ds) = refl
mapped_item (BlockItem-F.«BlockItem::Act» s) = refl

stmt_kind_level : (k : StmtKind) → kind_scoped k ≡ kind_by (scoped_parts (out-StmtKind k))
unfolding scoped scoped_item scoped_group kind_scoped
stmt_kind_level k = fold_out-StmtKind Scoped Scoped ScopedGroup Scoped item_by kind_by group_by own_stmt k ∙ mapped_stmt (out-StmtKind k)

pub scoped_level : (s : Stmt) → kind_by (scoped_parts (out-StmtKind s.kind)) ≡ scoped s
unfolding scoped kind_scoped
scoped_level s = sym (stmt_kind_level s.kind) ∙ sym (fold_out-Stmt Scoped Scoped ScopedGroup Scoped item_by kind_by group_by own_stmt s)

pub scoped_item_level : (b : BlockItem) → item_by (scoped_item_parts (out-BlockItem b)) ≡ scoped_item b
unfolding scoped scoped_item scoped_group kind_scoped
scoped_item_level b = sym (mapped_item (out-BlockItem b)) ∙ sym (fold_out-BlockItem Scoped Scoped ScopedGroup Scoped item_by kind_by group_by own_stmt b)

pub scoped_group_level : (g : Group) → record { labels = g.labels; items = map scoped_item g.items } ≡ scoped_group g
unfolding scoped_item scoped_group
scoped_group_level g = sym (fold_out-Group Scoped Scoped ScopedGroup Scoped item_by kind_by group_by own_stmt g)

-- ---- locals

abbrev pub locals_parts : StmtLayer → StmtKind-F (List ℕ) (List ℕ) (List ℕ) (List ℕ)
locals_parts (StmtKind-F.Block items) = StmtKind-F.Block (map item_locals items)
locals_parts StmtKind-F.Empty = StmtKind-F.Empty
locals_parts (StmtKind-F.«StmtKind::Act» a) = StmtKind-F.«StmtKind::Act» a
locals_parts StmtKind-F.Break = StmtKind-F.Break
locals_parts StmtKind-F.Continue = StmtKind-F.Continue
locals_parts (StmtKind-F.Return e) = StmtKind-F.Return e
locals_parts (StmtKind-F.If c x y) = StmtKind-F.If c (locals x) (option_map locals y)
locals_parts (StmtKind-F.While c body) = StmtKind-F.While c (locals body)
locals_parts (StmtKind-F.Do body c) = StmtKind-F.Do (locals body) c
locals_parts (StmtKind-F.For f c step body) = StmtKind-F.For f c step (locals body)
locals_parts (StmtKind-F.Switch e groups) = StmtKind-F.Switch e (map group_locals groups)

abbrev pub locals_item_parts : ItemLayer → BlockItem-F (List ℕ) (List ℕ) (List ℕ) (List ℕ)
locals_item_parts (BlockItem-F.Declare ds) = BlockItem-F.Declare ds
locals_item_parts (BlockItem-F.«BlockItem::Act» s) = BlockItem-F.«BlockItem::Act» (locals s)

kind_locals : StmtKind → List ℕ
kind_locals k = fold-StmtKind (List ℕ) (List ℕ) (List ℕ) (List ℕ) item_numbers_by stmt_numbers_by group_numbers_by own_numbers k

mapped_locals : (x : StmtLayer) → stmt_numbers_by (map-StmtKind BlockItem StmtKind Group Stmt (List ℕ) (List ℕ) (List ℕ) (List ℕ) item_locals kind_locals group_locals locals x) ≡ stmt_numbers_by (locals_parts x)
mapped_locals (StmtKind-F.Block items) = refl
mapped_locals StmtKind-F.Empty = refl
mapped_locals (StmtKind-F.«StmtKind::Act» a) = refl
mapped_locals StmtKind-F.Break = refl
mapped_locals StmtKind-F.Continue = refl
mapped_locals (StmtKind-F.Return e) = refl
mapped_locals (StmtKind-F.If c a None) = refl
mapped_locals (StmtKind-F.If c a (Some b)) = refl
mapped_locals (StmtKind-F.While c body) = refl
mapped_locals (StmtKind-F.Do body c) = refl
mapped_locals (StmtKind-F.For f c step body) = refl
mapped_locals (StmtKind-F.Switch e groups) = refl

mapped_item_locals : (x : ItemLayer) → item_numbers_by (map-BlockItem BlockItem StmtKind Group Stmt (List ℕ) (List ℕ) (List ℕ) (List ℕ) item_locals kind_locals group_locals locals x) ≡ item_numbers_by (locals_item_parts x)
mapped_item_locals (BlockItem-F.Declare ds) = refl
mapped_item_locals (BlockItem-F.«BlockItem::Act» s) = refl

locals_kind_level : (k : StmtKind) → kind_locals k ≡ stmt_numbers_by (locals_parts (out-StmtKind k))
unfolding locals item_locals group_locals kind_locals
locals_kind_level k = fold_out-StmtKind (List ℕ) (List ℕ) (List ℕ) (List ℕ) item_numbers_by stmt_numbers_by group_numbers_by own_numbers k ∙ mapped_locals (out-StmtKind k)

pub locals_level : (s : Stmt) → stmt_numbers_by (locals_parts (out-StmtKind s.kind)) ≡ locals s
unfolding locals kind_locals
locals_level s = sym (locals_kind_level s.kind) ∙ sym (fold_out-Stmt (List ℕ) (List ℕ) (List ℕ) (List ℕ) item_numbers_by stmt_numbers_by group_numbers_by own_numbers s)

pub item_locals_level : (b : BlockItem) → item_numbers_by (locals_item_parts (out-BlockItem b)) ≡ item_locals b
unfolding locals item_locals group_locals kind_locals
item_locals_level b = sym (mapped_item_locals (out-BlockItem b)) ∙ sym (fold_out-BlockItem (List ℕ) (List ℕ) (List ℕ) (List ℕ) item_numbers_by stmt_numbers_by group_numbers_by own_numbers b)

pub group_locals_level : (g : Group) → joined (map item_locals g.items) ≡ group_locals g
unfolding item_locals group_locals
group_locals_level g = sym (fold_out-Group (List ℕ) (List ℕ) (List ℕ) (List ℕ) item_numbers_by stmt_numbers_by group_numbers_by own_numbers g)
