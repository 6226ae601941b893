-- Every statement, from what its expressions, actions and declarations do: one induction over statements within each other, at every depth of the meaning.
use Rattle.std.proofs.Common.{◌≡◌, ℕ, zero, suc, ◌≤◌, false, Option, Some, None, List, [], ◌∷◌, length, ◌⊎◌, inr}
use Rattle.std.specs.Prelude.{⊤}
use Rattle.c_tree.specs.declared.tree.Declared.{Declared}
use Rattle.c_tree.specs.declared.tree.Expr.{Expr}
use Rattle.c_tree.specs.declared.tree.Action.{Action}
use Rattle.c_tree.specs.declared.tree.ForFirst.{ForFirst}
use Rattle.c_tree.specs.declared.tree.ForFirst.TheVariants as first
use Rattle.c_tree.specs.declared.tree.Group.{Group}
use Rattle.c_tree.specs.declared.tree.Stmt.{Stmt}
use Rattle.c_tree.specs.declared.tree.StmtKind.{out-StmtKind}
use Rattle.c_tree.specs.declared.tree.BlockItem.{BlockItem, out-BlockItem}
use Rattle.c_tree.specs.declared.tree.BlockItem.TheOpen.{StmtKind-F, BlockItem-F}
use Rattle.c_tree.specs.declared.tree.Program.{Program}
use Rattle.c_tree.specs.Layer.{StmtLayer, ItemLayer}
use Rattle.c_tree.specs.Runs.{State}
use Rattle.c_tree.specs.Nodes as meaning
use Rattle.c_tree.specs.Nodes.{to_depth, act_by, act_opt, declare_each, first_by, item_by, items_by, stmt_by, turn_by, next_turn, value_or}
use Rattle.sound_programs.specs.Counted.{action_nodes, declared_nodes, stmt_nodes}
use Rattle.flow_graph.specs.declared.graph.Graph.{Graph}
use Rattle.lowered_graphs.specs.Exprs.{Setting}
use Rattle.lowered_graphs.specs.Stmts.{Within, act, declare, lowered_stmt, count_of}
use Rattle.lowered_graphs.specs.Counted.{greatest}
use Rattle.lowered_graphs.specs.declared.loops.Count.{Count}
use Rattle.lowered_graphs.specs.declared.positions.Position.{Position}
use Rattle.lowered_meaning.specs.Keeps.{Ground, HasHomes}
use Rattle.lowered_meaning.specs.Leaves.{Callee, StmtTracks, ActTracks, Upwards}
use Rattle.lowered_meaning.proofs.AssignActions.{ExprOk, OptOk}
use Rattle.lowered_meaning.proofs.AssignStores.{Storable, size_of}
use Rattle.lowered_meaning.proofs.CallsParameters.{Enters}
use Rattle.lowered_meaning.proofs.CallsBodies.{OnDone}
use Rattle.lowered_meaning.proofs.ReturnLemmas.{within, ReturnFits}
use Rattle.lowered_meaning.proofs.DoLoops.{IsNotContinued}
use Rattle.lowered_meaning.proofs.CountedLevels.{OnBoth, words_in}
use Rattle.lowered_meaning.proofs.CountedHeads.{Head, VarTyped}

-- the scope behind declarators
abbrev pub Behind : (ℕ → Type 0) → List Declared → ℕ → Type 0
Behind scope [] = scope
Behind scope (d ∷ ds) = Behind (λ y. (y ≡ d.variable) ⊎ scope y) ds

pub behind_wider : (scope : ℕ → Type 0) (ds : List Declared) (x : ℕ) → scope x → Behind scope ds x
behind_wider scope [] x is = is
behind_wider scope (d ∷ ds) x is = behind_wider (λ y. (y ≡ d.variable) ⊎ scope y) ds x (inr is)

abbrev pub FirstScope : (ℕ → Type 0) → Option ForFirst → ℕ → Type 0
FirstScope scope (Some (first.Declare ds)) = Behind scope ds
FirstScope scope _ = scope

pub first_wider : (scope : ℕ → Type 0) (o : Option ForFirst) (x : ℕ) → scope x → FirstScope scope o x
first_wider scope None x is = is
first_wider scope (Some (first.Act a)) x is = is
first_wider scope (Some (first.Declare ds)) x is = behind_wider scope ds x is

-- What a statement owes, node by node.
module _ (g : Graph) (f : Callee) (most : ℕ) where
  abbrev pub w : Ground
  w = f.ground

  abbrev pub p : Program
  p = f.ground.setting.program

  abbrev pub s : Setting
  s = f.ground.setting

  abbrev pub D : ℕ → meaning.Within
  D j = to_depth p j

  abbrev pub W : Within
  W = within f

  abbrev pub ExprOks : (ℕ → Type 0) → Expr → Type 0
  ExprOks scope e = (j : ℕ) → ExprOk g w scope most (D j).expr e

  abbrev pub OptOks : (ℕ → Type 0) → Option Expr → Type 0
  OptOks scope o = (j : ℕ) → OptOk g w scope most (D j).expr o

  pub record ActOks (scope : ℕ → Type 0) (a : Action) : Type 0 where
    pub tracks : (j : ℕ) → ActTracks g w scope scope most (action_nodes p a) (act_by p (D j).expr a) (act s a)
    pub up : Upwards (act s a)

  pub record DeclareOks (scope : ℕ → Type 0) (ds : List Declared) : Type 0 where
    pub tracks : (j : ℕ) → ActTracks g w scope (Behind scope ds) most (declared_nodes p ds) (declare_each p (D j).expr ds) (declare s ds)
    pub up : Upwards (declare s ds)

  abbrev pub FirstOks : (ℕ → Type 0) → Option ForFirst → Type 0
  FirstOks scope None = ⊤
  FirstOks scope (Some (first.Declare ds)) = DeclareOks scope ds
  FirstOks scope (Some (first.Act a)) = ActOks scope a

  abbrev pub StepOks : (ℕ → Type 0) → Option Action → Type 0
  StepOks scope None = ⊤
  StepOks scope (Some a) = ActOks scope a

  -- a loop of a known number of turns: its variable, its types and that its body leaves the variable
  pub record CountedFits (scope : ℕ → Type 0) (first' : Option ForFirst) (test : Option Expr) (step : Option Action) (body : Stmt) (count : Count) (h : Head p first' test step count) : Type 0 where
    pub enters : Enters w scope (FirstScope scope first') count.variable
    pub can : Storable w (FirstScope scope first') count.variable
    pub single : size_of w count.variable ≡ 1
    pub value_wide : greatest h.variable.ty ≤ greatest h.value.ty
    pub right_wide : greatest h.variable.ty ≤ greatest h.right.ty
    pub left_wide : greatest h.variable.ty ≤ greatest h.left.ty
    pub step_wide : greatest h.variable.ty ≤ greatest h.ty
    pub typed : VarTyped count.variable h.variable.ty h.left
    pub keeps : (j : ℕ) (d : State) → OnBoth (λ l e. words_in count.variable e ≡ words_in count.variable d) ((D j).stmt body d)

  abbrev pub CountedOk : (ℕ → Type 0) → Option ForFirst → Option Expr → Option Action → Stmt → Type 0
  CountedOk scope first' test step body = (count : Count) → count_of s first' test step (lowered_stmt W body) ≡ Some count → (h : Head p first' test step count) → CountedFits scope first' test step body count h

  abbrev pub OptStmt : ((ℕ → Type 0) → Stmt → Type 0) → (ℕ → Type 0) → Option Stmt → Type 0
  OptStmt R scope None = ⊤
  OptStmt R scope (Some x) = R scope x

  abbrev pub ItemOk : ((ℕ → Type 0) → Stmt → Type 0) → (ℕ → Type 0) → ItemLayer → Type 0
  ItemOk R scope (BlockItem-F.Declare ds) = DeclareOks scope ds
  ItemOk R scope (BlockItem-F.«BlockItem::Act» x) = R scope x

  abbrev pub ItemScope : (ℕ → Type 0) → ItemLayer → ℕ → Type 0
  ItemScope scope (BlockItem-F.Declare ds) = Behind scope ds
  ItemScope scope (BlockItem-F.«BlockItem::Act» x) = scope

  abbrev pub ItemsOk : ((ℕ → Type 0) → Stmt → Type 0) → (ℕ → Type 0) → List BlockItem → Type 0
  ItemsOk R scope [] = ⊤
  ItemsOk R scope (b ∷ bs) = ItemOk R scope (out-BlockItem b) × ItemsOk R (ItemScope scope (out-BlockItem b)) bs

  abbrev pub GroupsOks : ((ℕ → Type 0) → Stmt → Type 0) → (ℕ → Type 0) → List Group → Type 0
  GroupsOks R scope [] = ⊤
  GroupsOks R scope (x ∷ xs) = ((1 ≤ length x.labels) × ItemsOk R scope x.items) × GroupsOks R scope xs

  abbrev pub LevelOk : ((ℕ → Type 0) → Stmt → Type 0) → (ℕ → Type 0) → StmtLayer → Type 0
  LevelOk R scope (StmtKind-F.Block items) = ItemsOk R scope items
  LevelOk R scope StmtKind-F.Empty = ⊤
  LevelOk R scope (StmtKind-F.«StmtKind::Act» a) = ActOks scope a
  LevelOk R scope StmtKind-F.Break = ⊤
  LevelOk R scope StmtKind-F.Continue = ⊤
  LevelOk R scope (StmtKind-F.Return e) = ReturnFits f scope e × OptOks scope e
  LevelOk R scope (StmtKind-F.If c x y) = ExprOks scope c × R scope x × OptStmt R scope y
  LevelOk R scope (StmtKind-F.While c body) = ExprOks scope c × R scope body
  LevelOk R scope (StmtKind-F.Do body c) = ExprOks scope c × R scope body × ((lowered_stmt W body).continues ≡ false → (j : ℕ) (d : State) → OnDone IsNotContinued ((D j).stmt body d))
  LevelOk R scope (StmtKind-F.For first' test step body) =
      FirstOks scope first' × OptOks (FirstScope scope first') test × StepOks (FirstScope scope first') step × R (FirstScope scope first') body × CountedOk scope first' test step body
  LevelOk R scope (StmtKind-F.Switch e groups) = HasHomes w scope × ExprOks scope e × GroupsOks R scope groups

  -- of a statement, to so many statements within each other
  abbrev pub StmtOk : ℕ → (ℕ → Type 0) → Stmt → Type 0
  StmtOk zero scope x = ⊤
  StmtOk (suc m) scope x = LevelOk (StmtOk m) scope (out-StmtKind x.kind)

  -- what a statement does, at every depth, wherever it stands
  pub record Good (scope : ℕ → Type 0) (x : Stmt) : Type 0 where
    pub up : (last : Position) → Upwards ((lowered_stmt W x).emit last)
    pub tracks : (last : Position) (j : ℕ) → StmtTracks g f scope most (stmt_nodes p x) last ((D j).stmt x) ((lowered_stmt W x).emit last)
