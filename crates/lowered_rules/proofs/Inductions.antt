-- Induction over expressions and over statements, a level at a time.
use Rattle.std.proofs.Common.{ℕ, zero, suc, ◌≤◌, Option, Some, None, List, [], ◌∷◌, arith}
use Rattle.std.specs.Prelude.{⊤, map}
use Rattle.c_tree.specs.declared.tree.Expr.{Expr}
use Rattle.c_tree.specs.declared.tree.ExprKind.{out-ExprKind}
use Rattle.c_tree.specs.declared.tree.ExprKind.TheOpen.{ExprKind-F}
use Rattle.c_tree.specs.declared.tree.Program.{Program}
use Rattle.c_tree.specs.declared.tree.Stmt.{Stmt}
use Rattle.c_tree.specs.declared.tree.StmtKind.{out-StmtKind}
use Rattle.c_tree.specs.declared.tree.Group.{Group}
use Rattle.c_tree.specs.declared.tree.BlockItem.{BlockItem, out-BlockItem}
use Rattle.c_tree.specs.declared.tree.BlockItem.TheOpen.{StmtKind-F, BlockItem-F}
use Rattle.c_tree.specs.Layer.{ExprLayer, StmtLayer, ItemLayer}
use Rattle.sound_programs.specs.Counted.{sum_of, parts_nodes, expr_nodes, counted, item_nodes_by, kind_nodes_by, stmt_nodes, item_nodes, group_nodes, counted_stmt, counted_item}
use Rattle.sound_programs.proofs.CountLevels.{expr_level, stmt_level, item_level, group_level}

-- ---- expressions

abbrev pub EachExpr : (Expr → Type 0) → List Expr → Type 0
EachExpr P [] = ⊤
EachExpr P (e ∷ es) = P e × EachExpr P es

abbrev pub ExprParts : (Expr → Type 0) → ExprLayer → Type 0
ExprParts P (ExprKind-F.Number w) = ⊤
ExprParts P (ExprKind-F.Var x) = ⊤
ExprParts P (ExprKind-F.Element x i) = P i
ExprParts P (ExprKind-F.Convert e) = P e
ExprParts P (ExprKind-F.Unary op a) = P a
ExprParts P (ExprKind-F.Binary op a b) = P a × P b
ExprParts P (ExprKind-F.Cond c a b) = P c × P a × P b
ExprParts P (ExprKind-F.Call f args) = EachExpr P args
ExprParts P ExprKind-F.Input = ⊤
ExprParts P (ExprKind-F.Output e) = P e

module _ (P : Expr → Type 0) (step : (e : Expr) → ExprParts P (out-ExprKind e.kind) → P e) where
  each_expr : (n : ℕ) → ((e : Expr) → expr_nodes e ≤ n → P e) → (es : List Expr) → sum_of (map expr_nodes es) ≤ n → EachExpr P es
  each_expr n h [] le = tt
  each_expr n h (e ∷ es) le = (h e (omega (arith, le)), each_expr n h es (omega (arith, le)))

  expr_parts : (n : ℕ) → ((e : Expr) → expr_nodes e ≤ n → P e) → (x : ExprLayer) → parts_nodes (counted x) ≤ n → ExprParts P x
  expr_parts n h (ExprKind-F.Number w) le = tt
  expr_parts n h (ExprKind-F.Var x) le = tt
  expr_parts n h (ExprKind-F.Element x i) le = h i le
  expr_parts n h (ExprKind-F.Convert e) le = h e le
  expr_parts n h (ExprKind-F.Unary op a) le = h a le
  expr_parts n h (ExprKind-F.Binary op a b) le = (h a (omega (arith, le)), h b (omega (arith, le)))
  expr_parts n h (ExprKind-F.Cond c a b) le = (h c (omega (arith, le)), h a (omega (arith, le)), h b (omega (arith, le)))
  expr_parts n h (ExprKind-F.Call f args) le = each_expr n h args le
  expr_parts n h ExprKind-F.Input le = tt
  expr_parts n h (ExprKind-F.Output e) le = h e le

  by_nodes : (n : ℕ) (e : Expr) → expr_nodes e ≤ n → P e
  by_nodes zero e le = absurd (omega (arith, le, expr_level e))
  by_nodes (suc n) e le = step e (expr_parts n (by_nodes n) (out-ExprKind e.kind) (omega (arith, le, expr_level e)))

  pub expr_induction : (e : Expr) → P e
  expr_induction e = by_nodes (expr_nodes e) e (omega arith)

-- ---- statements

abbrev pub ItemPart : (Stmt → Type 0) → ItemLayer → Type 0
ItemPart P (BlockItem-F.Declare ds) = ⊤
ItemPart P (BlockItem-F.«BlockItem::Act» s) = P s

abbrev pub EachItem : (Stmt → Type 0) → List BlockItem → Type 0
EachItem P [] = ⊤
EachItem P (b ∷ bs) = ItemPart P (out-BlockItem b) × EachItem P bs

abbrev pub EachGroup : (Stmt → Type 0) → List Group → Type 0
EachGroup P [] = ⊤
EachGroup P (g ∷ gs) = EachItem P g.items × EachGroup P gs

abbrev pub OptPart : (Stmt → Type 0) → Option Stmt → Type 0
OptPart P None = ⊤
OptPart P (Some s) = P s

abbrev pub StmtParts : (Stmt → Type 0) → StmtLayer → Type 0
StmtParts P (StmtKind-F.Block items) = EachItem P items
StmtParts P StmtKind-F.Empty = ⊤
StmtParts P (StmtKind-F.«StmtKind::Act» a) = ⊤
StmtParts P StmtKind-F.Break = ⊤
StmtParts P StmtKind-F.Continue = ⊤
StmtParts P (StmtKind-F.Return e) = ⊤
StmtParts P (StmtKind-F.If c x y) = P x × OptPart P y
StmtParts P (StmtKind-F.While c body) = P body
StmtParts P (StmtKind-F.Do body c) = P body
StmtParts P (StmtKind-F.For f c step body) = P body
StmtParts P (StmtKind-F.Switch e groups) = EachGroup P groups

-- the program counts the nodes, and any one does
module _ (p : Program) (P : Stmt → Type 0) (step : (s : Stmt) → StmtParts P (out-StmtKind s.kind) → P s) where
  abbrev Smaller : ℕ → Type 0
  Smaller n = (s : Stmt) → stmt_nodes p s ≤ n → P s

  item_part : (n : ℕ) → Smaller n → (x : ItemLayer) → item_nodes_by p (counted_item p x) ≤ n → ItemPart P x
  item_part n h (BlockItem-F.Declare ds) le = tt
  item_part n h (BlockItem-F.«BlockItem::Act» s) le = h s le

  each_item : (n : ℕ) → Smaller n → (bs : List BlockItem) → sum_of (map (item_nodes p) bs) ≤ n → EachItem P bs
  each_item n h [] le = tt
  each_item n h (b ∷ bs) le = (item_part n h (out-BlockItem b) (omega (arith, le, item_level p b)), each_item n h bs (omega (arith, le)))

  each_group : (n : ℕ) → Smaller n → (gs : List Group) → sum_of (map (group_nodes p) gs) ≤ n → EachGroup P gs
  each_group n h [] le = tt
  each_group n h (g ∷ gs) le = (each_item n h g.items (omega (arith, le, group_level p g)), each_group n h gs (omega (arith, le)))

  stmt_parts : (n : ℕ) → Smaller n → (x : StmtLayer) → kind_nodes_by p (counted_stmt p x) ≤ n → StmtParts P x
  stmt_parts n h (StmtKind-F.Block items) le = each_item n h items le
  stmt_parts n h StmtKind-F.Empty le = tt
  stmt_parts n h (StmtKind-F.«StmtKind::Act» a) le = tt
  stmt_parts n h StmtKind-F.Break le = tt
  stmt_parts n h StmtKind-F.Continue le = tt
  stmt_parts n h (StmtKind-F.Return e) le = tt
  stmt_parts n h (StmtKind-F.If c x None) le = (h x (omega (arith, le)), tt)
  stmt_parts n h (StmtKind-F.If c x (Some y)) le = (h x (omega (arith, le)), h y (omega (arith, le)))
  stmt_parts n h (StmtKind-F.While c body) le = h body (omega (arith, le))
  stmt_parts n h (StmtKind-F.Do body c) le = h body (omega (arith, le))
  stmt_parts n h (StmtKind-F.For f c step body) le = h body (omega (arith, le))
  stmt_parts n h (StmtKind-F.Switch e groups) le = each_group n h groups (omega (arith, le))

  stmt_by_nodes : (n : ℕ) (s : Stmt) → stmt_nodes p s ≤ n → P s
  stmt_by_nodes zero s le = absurd (omega (arith, le, stmt_level p s))
  stmt_by_nodes (suc n) s le = step s (stmt_parts n (stmt_by_nodes n) (out-StmtKind s.kind) (omega (arith, le, stmt_level p s)))

  pub stmt_induction : (s : Stmt) → P s
  stmt_induction s = stmt_by_nodes (stmt_nodes p s) s (omega arith)
