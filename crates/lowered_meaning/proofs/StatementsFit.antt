-- Every statement of a sound program whose names are in scope owes what it is to owe.
use Rattle.std.proofs.Common.{◌≡◌, ◌≢◌, ℕ, zero, suc, ◌≤◌, true, false, Option, Some, None, List, [], ◌∷◌, length, refl, sym, ◌∙◌, subst, arith, ◌⊎◌}
use Rattle.c_values.specs.declared.ops.Ty.{Ty}
use Rattle.c_tree.specs.declared.tree.Expr.{Expr}
use Rattle.c_tree.specs.declared.tree.Action.{Action}
use Rattle.c_tree.specs.declared.tree.Declared.{Declared}
use Rattle.c_tree.specs.declared.tree.Stmt.{Stmt}
use Rattle.c_tree.specs.declared.tree.StmtKind.{out-StmtKind}
use Rattle.c_tree.specs.declared.tree.BlockItem.{BlockItem, out-BlockItem}
use Rattle.c_tree.specs.declared.tree.BlockItem.TheOpen.{StmtKind-F, BlockItem-F}
use Rattle.c_tree.specs.declared.tree.ForFirst.{ForFirst}
use Rattle.c_tree.specs.declared.tree.ForFirst.TheVariants as first
use Rattle.c_tree.specs.declared.tree.Group.{Group}
use Rattle.c_tree.specs.declared.tree.Label.{Label}
use Rattle.c_tree.specs.declared.tree.Program.{Program}
use Rattle.c_tree.specs.Layer.{StmtLayer, ItemLayer}
use Rattle.c_tree.specs.Runs.{State}
use Rattle.c_tree.specs.Nodes.{to_depth, act_by, declare_each}
use Rattle.sound_programs.specs.Sound.{is_labelled, return_fits}
use Rattle.sound_programs.specs.Scoped.{Scope, declared_behind, first_behind, in_loop, in_switch, numbers_of}
use Rattle.sound_programs.specs.Scoped as scoping
use Rattle.sound_programs.specs.Counted.{action_nodes, declared_nodes}
use Rattle.flow_graph.specs.declared.graph.Graph.{Graph}
use Rattle.lowered_graphs.specs.Exprs.{result_home}
use Rattle.lowered_graphs.specs.Stmts.{act, declare, lowered_stmt}
use Rattle.lowered_meaning.specs.Keeps.{Ground, HasHomes}
use Rattle.lowered_meaning.specs.Leaves.{Callee, ActTracks}
use Rattle.lowered_meaning.proofs.AssignActions.{ExprOk, acted}
use Rattle.lowered_meaning.proofs.AssignNodes.{ActFits, act_tracked}
use Rattle.lowered_meaning.proofs.CallsBodies.{OnDone}
use Rattle.lowered_meaning.proofs.CallsFalls.{IsApart}
use Rattle.lowered_meaning.proofs.DeclareNodes.{BehindAll, AllDeclared, declared_grows, declared_tracked}
use Rattle.lowered_meaning.proofs.DoLoops.{IsNotContinued}
use Rattle.lowered_meaning.proofs.ReturnLemmas.{within, ReturnFits}
use Rattle.lowered_meaning.proofs.StmtInduction.{Behind, FirstScope, ExprOks, OptOks, ActOks, DeclareOks, FirstOks, StepOks, CountedOk, OptStmt, ItemOk, ItemScope, ItemsOk, GroupsOks, LevelOk, StmtOk}
use Rattle.lowered_meaning.proofs.FitExprs.{Fit, Grounded, Covers}
use Rattle.lowered_meaning.proofs.FitActions.{AreLocal, covers_over, act_fit, declaration_fit}
use Rattle.lowered_meaning.proofs.ActionsGrow.{act_up}
use Rattle.lowered_meaning.proofs.GoodStmts.{Good, GoodDeclared, GoodAction, FitOpt, GoodFirst, GoodStep, GoodItem, item_behind, GoodItems, GoodGroups, GoodOpt, GoodLayer, good_level, own_local}

-- the scope behind declarators covers their names
covers_behind : (w : Ground) (scope : ℕ → Type 0) (xs : Scope) (ds : List Declared) → Covers w scope xs → AreLocal w (numbers_of ds) → Covers w (Behind scope ds) (declared_behind ds xs)
covers_behind w scope xs [] covers own = covers
covers_behind w scope xs (d ∷ ds) covers own = covers_behind w (λ y. (y ≡ d.variable) ⊎ scope y) (d.variable ∷ xs) ds (covers_over w scope xs d.variable covers own.0) own.1

labels_some : (ls : List Label) → is_labelled ls ≡ true → 1 ≤ length ls
labels_some [] h = cc
labels_some (l ∷ ls) h = omega arith

module _ (g : Graph) (f : Callee) (most : ℕ) (May : ℕ → Type 0) (some : 1 ≤ most) (grounded : Grounded f.ground)
    (each : (j : ℕ) (scope : ℕ → Type 0) (xs : Scope) → Covers f.ground scope xs → (e : Expr) → Fit f.ground.setting xs May e → ExprOk g f.ground scope most (to_depth f.ground.setting.program j).expr e)
    (continued : (body : Stmt) → (lowered_stmt (within f) body).continues ≡ false → (j : ℕ) (d : State) → OnDone IsNotContinued ((to_depth f.ground.setting.program j).stmt body d))
    (apart : f.is_main ≡ false → f.result ≢ None → IsApart f.ground (λ x. f.ground.has_object x ≡ true) (result_home f.ground.setting f.ground.function))
    (counted : (scope : ℕ → Type 0) (xs : Scope) (st : scoping.Stand) (o : Option ForFirst) (test : Option Expr) (step : Option Action) (body : Stmt) → Covers f.ground scope xs
    → GoodLayer f.ground f.is_main f.result May st xs (StmtKind-F.For o test step body) → CountedOk g f most scope o test step body) where
  abbrev w : Ground
  w = f.ground

  abbrev p : Program
  p = w.setting.program

  -- ---- the parts of statements

  exprs : (scope : ℕ → Type 0) (xs : Scope) → Covers w scope xs → (e : Expr) → Fit w.setting xs May e → ExprOks g f most scope e
  exprs scope xs covers e fit j = each j scope xs covers e fit

  opts : (scope : ℕ → Type 0) (xs : Scope) → Covers w scope xs → (o : Option Expr) → FitOpt w f.is_main f.result May xs o → OptOks g f most scope o
  opts scope xs covers None fit j = tt
  opts scope xs covers (Some e) fit j = each j scope xs covers e fit

  acts : (scope : ℕ → Type 0) (xs : Scope) → Covers w scope xs → (a : Action) → GoodAction w f.is_main f.result May xs a → ActOks g f most scope a
  acts scope xs covers a good = record {
    tracks = λ j. acted g w scope scope most (action_nodes p a) (act_by p (to_depth p j).expr a) (act w.setting a) (act_tracked g w scope most (to_depth p j).expr grounded.owns a (fits j));
    up = act_up g w scope most (to_depth p 0).expr grounded.owns covers.homes a (fits 0);
  }
    where
      fits : (j : ℕ) → ActFits g w scope most (to_depth p j).expr grounded.owns a
      fits j = act_fit g w most (to_depth p j).expr May grounded (each j) scope xs covers a good.typed good.named good.called

  behind_same : (j : ℕ) (scope : ℕ → Type 0) (ds : List Declared) → BehindAll g w most (to_depth p j).expr grounded.owns some scope ds ≡ Behind scope ds
  behind_same j scope [] = refl
  behind_same j scope (d ∷ ds) = behind_same j (λ y. (y ≡ d.variable) ⊎ scope y) ds

  declarations : (scope : ℕ → Type 0) (xs : Scope) → Covers w scope xs → (ds : List Declared) → GoodDeclared w f.is_main f.result May xs ds → DeclareOks g f most scope ds
  declarations scope xs covers ds good = record {
    tracks = λ j. subst (λ S. ActTracks g w scope S most (declared_nodes p ds) (declare_each p (to_depth p j).expr ds) (declare w.setting ds)) (behind_same j scope ds)
        (acted g w scope (BehindAll g w most (to_depth p j).expr grounded.owns some scope ds) most (declared_nodes p ds) (declare_each p (to_depth p j).expr ds) (declare w.setting ds)
        (declared_tracked g w most (to_depth p j).expr grounded.owns some scope ds (fits j)));
    up = declared_grows g w most (to_depth p 0).expr grounded.owns some scope ds (fits 0);
  }
    where
      fits : (j : ℕ) → AllDeclared g w most (to_depth p j).expr grounded.owns some scope ds
      fits j = declaration_fit g w most (to_depth p j).expr May grounded (each j) some scope xs covers ds good.typed good.named good.called (own_local w ds good.local)

  firsts : (scope : ℕ → Type 0) (xs : Scope) → Covers w scope xs → (o : Option ForFirst) → GoodFirst w f.is_main f.result May xs o → FirstOks g f most scope o
  firsts scope xs covers None good = tt
  firsts scope xs covers (Some (first.Declare ds)) good = declarations scope xs covers ds good
  firsts scope xs covers (Some (first.Act a)) good = acts scope xs covers a good

  first_covers : (scope : ℕ → Type 0) (xs : Scope) → Covers w scope xs → (o : Option ForFirst) → GoodFirst w f.is_main f.result May xs o → Covers w (FirstScope scope o) (first_behind o xs)
  first_covers scope xs covers None good = covers
  first_covers scope xs covers (Some (first.Declare ds)) good = covers_behind w scope xs ds covers (own_local w ds good.local)
  first_covers scope xs covers (Some (first.Act a)) good = covers

  steps : (scope : ℕ → Type 0) (xs : Scope) → Covers w scope xs → (o : Option Action) → GoodStep w f.is_main f.result May xs o → StepOks g f most scope o
  steps scope xs covers None good = tt
  steps scope xs covers (Some a) good = acts scope xs covers a good

  -- the object of the result is none of a variable in scope
  apart_in : (scope : ℕ → Type 0) → HasHomes w scope → f.is_main ≡ false → f.result ≢ None → IsApart w scope (result_home w.setting w.function)
  apart_in scope homes main ne = let h = apart main ne in record { own = h.own; before = h.before; single = h.single; apart = λ x is. h.apart x (homes x is).0 }

  returns : (scope : ℕ → Type 0) → HasHomes w scope → (e : Option Expr) → return_fits p f.result e ≡ true → ReturnFits f scope e
  returns scope homes e h = by_result f.result refl e h
    where
      by_result : (r : Option Ty) → f.result ≡ r → (o : Option Expr) → return_fits p r o ≡ true → ReturnFits f scope o
      by_result None q None h = λ main. q
      by_result None q (Some e) h = cc
      by_result (Some ty) q None h = cc
      by_result (Some ty) q (Some e) h = λ main. ((ty, q), apart_in scope homes main (λ n. no_some ty (sym n ∙ q)))
        where
          no_some : (ty : Ty) → None ≡ Some ty → ⊥
          no_some ty n = cc

  -- ---- statements within each other

  module _ (m : ℕ) (ih : (st : scoping.Stand) (scope : ℕ → Type 0) (xs : Scope) (x : Stmt) → Covers w scope xs → Good w f.is_main f.result May st xs x → StmtOk g f most m scope x) where
    abbrev R : (ℕ → Type 0) → Stmt → Type 0
    R = StmtOk g f most m

    item_ok : (st : scoping.Stand) (scope : ℕ → Type 0) (xs : Scope) (L : ItemLayer) → Covers w scope xs → GoodItem w f.is_main f.result May st xs L → ItemOk g f most R scope L
    item_ok st scope xs (BlockItem-F.Declare ds) covers good = declarations scope xs covers ds good
    item_ok st scope xs (BlockItem-F.«BlockItem::Act» x) covers good = ih st scope xs x covers good

    item_covers : (st : scoping.Stand) (scope : ℕ → Type 0) (xs : Scope) (L : ItemLayer) → Covers w scope xs → GoodItem w f.is_main f.result May st xs L → Covers w (ItemScope g f most scope L) (item_behind w f.is_main f.result May L xs)
    item_covers st scope xs (BlockItem-F.Declare ds) covers good = covers_behind w scope xs ds covers (own_local w ds good.local)
    item_covers st scope xs (BlockItem-F.«BlockItem::Act» x) covers good = covers

    items_ok : (st : scoping.Stand) (scope : ℕ → Type 0) (xs : Scope) (bs : List BlockItem) → Covers w scope xs → GoodItems w f.is_main f.result May st xs bs → ItemsOk g f most R scope bs
    items_ok st scope xs [] covers good = tt
    items_ok st scope xs (b ∷ bs) covers good = (
      item_ok st scope xs (out-BlockItem b) covers good.0,
      items_ok st (ItemScope g f most scope (out-BlockItem b)) (item_behind w f.is_main f.result May (out-BlockItem b) xs) bs (item_covers st scope xs (out-BlockItem b) covers good.0) good.1,
    )

    groups_ok : (st : scoping.Stand) (scope : ℕ → Type 0) (xs : Scope) (gs : List Group) → Covers w scope xs → GoodGroups w f.is_main f.result May st xs gs → GroupsOks g f most R scope gs
    groups_ok st scope xs [] covers good = tt
    groups_ok st scope xs (x ∷ gs) covers good = ((labels_some x.labels good.0.labelled, items_ok st scope xs x.items covers good.0.items), groups_ok st scope xs gs covers good.1)

    arm_ok : (st : scoping.Stand) (scope : ℕ → Type 0) (xs : Scope) (o : Option Stmt) → Covers w scope xs → GoodOpt w f.is_main f.result May st xs o → OptStmt g f most R scope o
    arm_ok st scope xs None covers good = tt
    arm_ok st scope xs (Some x) covers good = ih st scope xs x covers good

    level_ok : (st : scoping.Stand) (scope : ℕ → Type 0) (xs : Scope) (L : StmtLayer) → Covers w scope xs → GoodLayer w f.is_main f.result May st xs L → LevelOk g f most R scope L
    level_ok st scope xs (StmtKind-F.Block items) covers good = items_ok st scope xs items covers good
    level_ok st scope xs StmtKind-F.Empty covers good = tt
    level_ok st scope xs (StmtKind-F.«StmtKind::Act» a) covers good = acts scope xs covers a good
    level_ok st scope xs StmtKind-F.Break covers good = tt
    level_ok st scope xs StmtKind-F.Continue covers good = tt
    level_ok st scope xs (StmtKind-F.Return e) covers good = (returns scope covers.homes e good.0, opts scope xs covers e good.1)
    level_ok st scope xs (StmtKind-F.If c x y) covers good = (exprs scope xs covers c good.0, ih st scope xs x covers good.1, arm_ok st scope xs y covers good.2)
    level_ok st scope xs (StmtKind-F.While c body) covers good = (exprs scope xs covers c good.0, ih in_loop scope xs body covers good.1)
    level_ok st scope xs (StmtKind-F.Do body c) covers good = (exprs scope xs covers c good.1, ih in_loop scope xs body covers good.0, λ e j d. continued body e j d)
    level_ok st scope xs (StmtKind-F.For o test step body) covers good =
        let behind = first_covers scope xs covers o good.0 in (
          firsts scope xs covers o good.0,
          opts (FirstScope scope o) (first_behind o xs) behind test good.1,
          steps (FirstScope scope o) (first_behind o xs) behind step good.2,
          ih in_loop (FirstScope scope o) (first_behind o xs) body behind good.3,
          counted scope xs st o test step body covers good,
        )
    level_ok st scope xs (StmtKind-F.Switch e groups) covers good = (covers.homes, exprs scope xs covers e good.0, groups_ok (in_switch st) scope xs groups covers good.2)

  -- a good statement owes what it is to owe, to any depth of statements within each other
  pub stmt_ok : (m : ℕ) (st : scoping.Stand) (scope : ℕ → Type 0) (xs : Scope) (x : Stmt) → Covers w scope xs → Good w f.is_main f.result May st xs x → StmtOk g f most m scope x
  stmt_ok zero st scope xs x covers good = tt
  stmt_ok (suc m) st scope xs x covers good = level_ok m (stmt_ok m) st scope xs (out-StmtKind x.kind) covers (good_level w f.is_main f.result May st xs x good)
