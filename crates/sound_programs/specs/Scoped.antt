-- Programs whose names are in scope (C11 6.2.1), whose jumps stand where they may (C11 6.8.6), and whose switches have each label once (C11 6.8.4.2).
use Rattle.std.specs.Prelude.{ℕ, ◌+◌, ◌++◌, Bool, true, false, not, Option, Some, None, List, [], ◌∷◌, ◌&&◌, ◌||◌, ◌==◌, nat_lt, IsTrue, slice_get, codes}
use Rattle.std.specs.Str.{bytes_eq}
use Rattle.c_tree.specs.declared.tree.Variable.{Variable}
use Rattle.c_tree.specs.declared.tree.Expr.{Expr}
use Rattle.c_tree.specs.declared.tree.ExprKind.TheFolds.{fold-Expr}
use Rattle.c_tree.specs.declared.tree.ExprKind.TheOpen.{ExprKind-F, Expr-F}
use Rattle.c_tree.specs.declared.tree.Action.{Action}
use Rattle.c_tree.specs.declared.tree.Action.TheVariants as action
use Rattle.c_tree.specs.declared.tree.Declared.{Declared}
use Rattle.c_tree.specs.declared.tree.ForFirst.{ForFirst}
use Rattle.c_tree.specs.declared.tree.ForFirst.TheVariants as first
use Rattle.c_tree.specs.declared.tree.Label.{Label}
use Rattle.c_tree.specs.declared.tree.Stmt.{Stmt}
use Rattle.c_tree.specs.declared.tree.Group.{Group}
use Rattle.c_tree.specs.declared.tree.BlockItem.{BlockItem}
use Rattle.c_tree.specs.declared.tree.BlockItem.TheFolds.{fold-Stmt, fold-BlockItem, fold-Group}
use Rattle.c_tree.specs.declared.tree.BlockItem.TheOpen.{StmtKind-F, BlockItem-F, Group-F, Stmt-F}
use Rattle.c_tree.specs.declared.tree.Function.{Function}
use Rattle.c_tree.specs.declared.tree.Program.{Program}
use Rattle.c_tree.specs.Nodes.{has_label, has_default}

-- the variables in scope, by their numbers
abbrev pub Scope : Type 0
Scope = List ℕ

abbrev pub holds : ℕ → Scope → Bool
holds x [] = false
holds x (y ∷ ys) = (x == y) || holds x ys

-- ---- expressions

abbrev pub all_in : Scope → List (Scope → Bool) → Bool
all_in scope [] = true
all_in scope (f ∷ fs) = f scope && all_in scope fs

abbrev pub names_by : ExprKind-F (Scope → Bool) (Scope → Bool) → Scope → Bool
names_by (ExprKind-F.Number w) scope = true
names_by (ExprKind-F.Var x) scope = holds x scope
names_by (ExprKind-F.Element x i) scope = holds x scope && i scope
names_by (ExprKind-F.Convert e) scope = e scope
names_by (ExprKind-F.Unary op a) scope = a scope
names_by (ExprKind-F.Binary op a b) scope = a scope && b scope
names_by (ExprKind-F.Cond c a b) scope = c scope && (a scope && b scope)
names_by (ExprKind-F.Call f args) scope = all_in scope args
names_by ExprKind-F.Input scope = true
names_by (ExprKind-F.Output e) scope = e scope

abbrev pub own_names : Expr-F (Scope → Bool) (Scope → Bool) → Scope → Bool
own_names x = x.kind

-- whether an expression names variables in scope alone
unfoldable pub names : Expr → Scope → Bool
names e = fold-Expr (Scope → Bool) (Scope → Bool) names_by own_names e

abbrev pub names_opt : Option Expr → Scope → Bool
names_opt None scope = true
names_opt (Some e) scope = names e scope

abbrev pub names_each : List Expr → Scope → Bool
names_each [] scope = true
names_each (e ∷ es) scope = names e scope && names_each es scope

-- ---- actions and declarations

abbrev pub action_names : Action → Scope → Bool
action_names (action.Assign to e) scope = holds to.variable scope && (names_opt to.index scope && names e scope)
action_names (action.Update to at op ty by) scope = holds to.variable scope && (names_opt to.index scope && names_opt by scope)
action_names (action.Value e) scope = names e scope

abbrev pub opt_action_names : Option Action → Scope → Bool
opt_action_names None scope = true
opt_action_names (Some a) scope = action_names a scope

-- a variable is in scope behind its declarator
abbrev pub declared_names : List Declared → Scope → Bool
declared_names [] scope = true
declared_names (d ∷ ds) scope = names_each d.values scope && declared_names ds (d.variable ∷ scope)

abbrev pub declared_behind : List Declared → Scope → Scope
declared_behind [] scope = scope
declared_behind (d ∷ ds) scope = declared_behind ds (d.variable ∷ scope)

abbrev pub first_names : Option ForFirst → Scope → Bool
first_names None scope = true
first_names (Some (first.Declare ds)) scope = declared_names ds scope
first_names (Some (first.Act a)) scope = action_names a scope

abbrev pub first_behind : Option ForFirst → Scope → Scope
first_behind (Some (first.Declare ds)) scope = declared_behind ds scope
first_behind _ scope = scope

-- ---- labels

-- no label stands a second time, nor `default`
abbrev pub is_new : Option ℕ → List Label → Bool
is_new None others = not (has_default others)
is_new (Some w) others = not (has_label w others)

abbrev pub labels_differ : List Label → Bool
labels_differ [] = true
labels_differ (l ∷ ls) = is_new l.value ls && labels_differ ls

-- ---- statements

-- where a statement stands: whether a `break` and a `continue` may stand there
pub record Stand : Type 0 where
  pub breaks : Bool
  pub continues : Bool

abbrev pub in_body : Stand
in_body = record { breaks = false; continues = false }

abbrev pub in_loop : Stand
in_loop = record { breaks = true; continues = true }

abbrev pub in_switch : Stand → Stand
in_switch w = record { breaks = true; continues = w.continues }

-- of a statement or an item: whether its names are in scope and its jumps stand where they may; the scope behind it; whether it ends a group
pub record Scoped : Type 0 where
  pub fits : Stand → Scope → Bool
  pub behind : Scope → Scope
  pub ends : Bool

-- of a group of a switch: its labels, and its items
pub record ScopedGroup : Type 0 where
  pub labels : List Label
  pub items : List Scoped

abbrev pub each_fits : Stand → Scope → List Scoped → Bool
each_fits w scope [] = true
each_fits w scope (x ∷ xs) = x.fits w scope && each_fits w (x.behind scope) xs

abbrev pub last_ends : List Scoped → Bool
last_ends [] = false
last_ends (x ∷ []) = x.ends
last_ends (x ∷ y ∷ rest) = last_ends (y ∷ rest)

-- each group but the last ends in a jump, or in a block that ends so
abbrev pub groups_fit : Stand → Scope → List ScopedGroup → Bool
groups_fit w scope [] = true
groups_fit w scope (g ∷ []) = each_fits w scope g.items
groups_fit w scope (g ∷ h ∷ rest) = last_ends g.items && (each_fits w scope g.items && groups_fit w scope (h ∷ rest))

abbrev pub all_labels : List ScopedGroup → List Label
all_labels [] = []
all_labels (g ∷ gs) = g.labels ++ all_labels gs

abbrev pub opt_fits : Stand → Scope → Option Scoped → Bool
opt_fits w scope None = true
opt_fits w scope (Some x) = x.fits w scope

abbrev pub fits_by : StmtKind-F Scoped Scoped ScopedGroup Scoped → Stand → Scope → Bool
fits_by (StmtKind-F.Block items) w scope = each_fits w scope items
fits_by StmtKind-F.Empty w scope = true
fits_by (StmtKind-F.«StmtKind::Act» a) w scope = action_names a scope
fits_by StmtKind-F.Break w scope = w.breaks
fits_by StmtKind-F.Continue w scope = w.continues
fits_by (StmtKind-F.Return e) w scope = names_opt e scope
fits_by (StmtKind-F.If c x y) w scope = names c scope && (x.fits w scope && opt_fits w scope y)
fits_by (StmtKind-F.While c body) w scope = names c scope && body.fits in_loop scope
fits_by (StmtKind-F.Do body c) w scope = body.fits in_loop scope && names c scope
fits_by (StmtKind-F.For f c step body) w scope =
    first_names f scope && (names_opt c (first_behind f scope) && (opt_action_names step (first_behind f scope) && body.fits in_loop (first_behind f scope)))
fits_by (StmtKind-F.Switch e groups) w scope = names e scope && (labels_differ (all_labels groups) && groups_fit (in_switch w) scope groups)

abbrev pub ends_by : StmtKind-F Scoped Scoped ScopedGroup Scoped → Bool
ends_by StmtKind-F.Break = true
ends_by StmtKind-F.Continue = true
ends_by (StmtKind-F.Return e) = true
ends_by (StmtKind-F.Block items) = last_ends items
ends_by _ = false

-- what a statement declares is in scope inside of it alone
abbrev pub kind_by : StmtKind-F Scoped Scoped ScopedGroup Scoped → Scoped
kind_by k = record { fits = fits_by k; behind = λ scope. scope; ends = ends_by k }

abbrev pub item_by : BlockItem-F Scoped Scoped ScopedGroup Scoped → Scoped
item_by (BlockItem-F.Declare ds) = record { fits = λ w scope. declared_names ds scope; behind = declared_behind ds; ends = false }
item_by (BlockItem-F.«BlockItem::Act» s) = s

abbrev pub group_by : Group-F Scoped Scoped ScopedGroup Scoped → ScopedGroup
group_by g = record { labels = g.labels; items = g.items }

abbrev pub own_stmt : Stmt-F Scoped Scoped ScopedGroup Scoped → Scoped
own_stmt s = s.kind

unfoldable pub scoped : Stmt → Scoped
scoped s = fold-Stmt Scoped Scoped ScopedGroup Scoped item_by kind_by group_by own_stmt s

unfoldable pub scoped_item : BlockItem → Scoped
scoped_item b = fold-BlockItem Scoped Scoped ScopedGroup Scoped item_by kind_by group_by own_stmt b

unfoldable pub scoped_group : Group → ScopedGroup
scoped_group g = fold-Group Scoped Scoped ScopedGroup Scoped item_by kind_by group_by own_stmt g

-- ---- programs

abbrev pub global_or : Bool → ℕ → Scope → Scope
global_or true x xs = x ∷ xs
global_or false x xs = xs

-- the objects of the file, of variables of which the first has number x
abbrev pub globals_from : ℕ → List Variable → Scope
globals_from x [] = []
globals_from x (v ∷ vs) = global_or v.global x (globals_from (x + 1) vs)

abbrev pub functions_scoped : Scope → List Function → Bool
functions_scoped globals [] = true
functions_scoped globals (f ∷ fs) = (scoped f.body).fits in_body (f.params ++ globals) && functions_scoped globals fs

-- ---- what is declared, in the order of the text

abbrev pub numbers_of : List Declared → List ℕ
numbers_of [] = []
numbers_of (d ∷ ds) = d.variable ∷ numbers_of ds

abbrev pub first_numbers : Option ForFirst → List ℕ
first_numbers (Some (first.Declare ds)) = numbers_of ds
first_numbers _ = []

abbrev pub joined : List (List ℕ) → List ℕ
joined [] = []
joined (xs ∷ others) = xs ++ joined others

abbrev pub numbers_opt : Option (List ℕ) → List ℕ
numbers_opt None = []
numbers_opt (Some xs) = xs

abbrev pub stmt_numbers_by : StmtKind-F (List ℕ) (List ℕ) (List ℕ) (List ℕ) → List ℕ
stmt_numbers_by (StmtKind-F.Block items) = joined items
stmt_numbers_by (StmtKind-F.If c x y) = x ++ numbers_opt y
stmt_numbers_by (StmtKind-F.While c body) = body
stmt_numbers_by (StmtKind-F.Do body c) = body
stmt_numbers_by (StmtKind-F.For f c step body) = first_numbers f ++ body
stmt_numbers_by (StmtKind-F.Switch e groups) = joined groups
stmt_numbers_by _ = []

abbrev pub item_numbers_by : BlockItem-F (List ℕ) (List ℕ) (List ℕ) (List ℕ) → List ℕ
item_numbers_by (BlockItem-F.Declare ds) = numbers_of ds
item_numbers_by (BlockItem-F.«BlockItem::Act» s) = s

abbrev pub group_numbers_by : Group-F (List ℕ) (List ℕ) (List ℕ) (List ℕ) → List ℕ
group_numbers_by g = joined g.items

abbrev pub own_numbers : Stmt-F (List ℕ) (List ℕ) (List ℕ) (List ℕ) → List ℕ
own_numbers s = s.kind

-- the locals of a statement
unfoldable pub locals : Stmt → List ℕ
locals s = fold-Stmt (List ℕ) (List ℕ) (List ℕ) (List ℕ) item_numbers_by stmt_numbers_by group_numbers_by own_numbers s

unfoldable pub item_locals : BlockItem → List ℕ
item_locals b = fold-BlockItem (List ℕ) (List ℕ) (List ℕ) (List ℕ) item_numbers_by stmt_numbers_by group_numbers_by own_numbers b

unfoldable pub group_locals : Group → List ℕ
group_locals g = fold-Group (List ℕ) (List ℕ) (List ℕ) (List ℕ) item_numbers_by stmt_numbers_by group_numbers_by own_numbers g

-- the parameters and locals of all functions
abbrev pub introduced : List Function → List ℕ
introduced [] = []
introduced (f ∷ fs) = (f.params ++ locals f.body) ++ introduced fs

-- each number is above the one before it
abbrev pub ascends : List ℕ → Bool
ascends [] = true
ascends (x ∷ []) = true
ascends (x ∷ y ∷ rest) = nat_lt x y && ascends (y ∷ rest)

-- the function is `main` by its name (C11 5.1.2.2.1)
abbrev pub is_named_main : Option Function → Bool
is_named_main None = false
is_named_main (Some f) = bytes_eq f.name (codes "main")

-- Names are in scope, jumps and labels stand where they may, each parameter and local is introduced once, in one function, in the order of the
-- numbers, and `main` is what the program says it is.
pub record IsScoped (p : Program) : Type 0 where
  pub names : IsTrue (functions_scoped (globals_from 0 p.variables) p.functions)
  pub once : IsTrue (ascends (introduced p.functions))
  pub main : IsTrue (is_named_main (slice_get p.functions p.main))
