-- What soundness and scoping say of the parts of a statement, a level at a time.
use Rattle.std.proofs.Common.{◌≡◌, ◌≢◌, ℕ, Bool, true, Option, Some, None, List, [], ◌∷◌, ◌++◌, refl, sym, ap, ◌∙◌, subst}
use Rattle.std.specs.Prelude.{⊤, map, ◌&&◌}
use Rattle.std.specs.Option.{option_map}
use Rattle.c_values.specs.declared.ops.Ty.{Ty}
use Rattle.c_tree.specs.declared.tree.Expr.{Expr}
use Rattle.c_tree.specs.declared.tree.Action.{Action}
use Rattle.c_tree.specs.declared.tree.Declared.{Declared}
use Rattle.c_tree.specs.declared.tree.Stmt.{Stmt}
use Rattle.c_tree.specs.declared.tree.StmtKind.{out-StmtKind}
use Rattle.c_tree.specs.declared.tree.BlockItem.{BlockItem, out-BlockItem}
use Rattle.c_tree.specs.declared.tree.BlockItem.TheOpen.{StmtKind-F, BlockItem-F}
use Rattle.c_tree.specs.declared.tree.ForFirst.{ForFirst}
use Rattle.c_tree.specs.declared.tree.ForFirst.TheVariants as first
use Rattle.c_tree.specs.declared.tree.Group.{Group}
use Rattle.c_tree.specs.declared.tree.Program.{Program}
use Rattle.c_tree.specs.Layer.{StmtLayer, ItemLayer}
use Rattle.sound_programs.specs.Sound as sound
use Rattle.sound_programs.specs.Sound.{typing, has_value, has_type, has_promoted, all_hold, holds_or_none, tests, return_fits, first_fits, step_fits, action_fits, declared_fit, labels_fit, is_labelled, stmt_fits, item_fits, group_fits, parts_fit, item_parts_fit}
use Rattle.sound_programs.specs.Scoped as scoping
use Rattle.sound_programs.specs.Scoped.{Scope, Scoped, ScopedGroup, names, names_opt, action_names, opt_action_names, declared_names, declared_behind, first_names, first_behind, in_loop, in_switch, each_fits, groups_fit, opt_fits, last_ends, all_labels, labels_differ, scoped, scoped_item, scoped_group, numbers_of}
use Rattle.sound_programs.proofs.SoundLevels as fits_level
use Rattle.sound_programs.proofs.NameLevels.{scoped_parts, scoped_item_parts, scoped_level, scoped_item_level, scoped_group_level}
use Rattle.lowered_graphs.specs.Stmts as lower
use Rattle.lowered_graphs.specs.Stmts.{LoweredStmt, lowered_stmt, lowered_item, lowered_group, lowered_by, stmt_parts, item_parts, group_parts, all_of, all_in, all_of_groups, callees_by, locals_by, first_locals, declared_locals, expr_callees, opt_callees, action_callees, opt_action_callees, declared_callees, first_callees}
use Rattle.lowered_graphs.proofs.StmtLevels.{stmt_level, item_level, group_level}
use Rattle.lowered_meaning.specs.Keeps.{Ground}
use Rattle.lowered_meaning.proofs.FitParts.{both_parts, typed_value, typed_type, typed_promoted, Each, each_left, each_right}
use Rattle.lowered_meaning.proofs.FitExprs.{Fit}
use Rattle.lowered_meaning.proofs.FitActions.{IsLocal, AreLocal}

-- variables of the function's own, each of them once
abbrev pub OwnOnce : Ground → List ℕ → Type 0
OwnOnce w [] = ⊤
OwnOnce w (x ∷ xs) = IsLocal w x × Each (λ y. x ≢ y) xs × OwnOnce w xs

own_left : (w : Ground) (xs ys : List ℕ) → OwnOnce w (xs ++ ys) → OwnOnce w xs
own_left w [] ys h = tt
own_left w (x ∷ xs) ys h = (h.0, each_left (λ y. x ≢ y) xs ys h.1, own_left w xs ys h.2)

own_right : (w : Ground) (xs ys : List ℕ) → OwnOnce w (xs ++ ys) → OwnOnce w ys
own_right w [] ys h = h
own_right w (x ∷ xs) ys h = own_right w xs ys h.2

pub own_local : (w : Ground) (ds : List Declared) → OwnOnce w (declared_locals ds) → AreLocal w (numbers_of ds)
own_local w [] h = tt
own_local w (d ∷ ds) h = (h.0, own_local w ds h.2)

-- of a function on this ground, with this result: what a statement is said of that is sound and in scope, and calls only what it may
module _ (w : Ground) (is_main : Bool) (result : Option Ty) (May : ℕ → Type 0) where
  abbrev p : Program
  p = w.setting.program

  abbrev pub within : lower.Within
  within = record { setting = w.setting; function = w.function; is_main = is_main }

  pub record Good (st : scoping.Stand) (xs : Scope) (s : Stmt) : Type 0 where
    pub typed : stmt_fits p result s ≡ true
    pub fits : (scoped s).fits st xs ≡ true
    pub called : Each May (lowered_stmt within s).callees
    pub local : OwnOnce w (lowered_stmt within s).locals

  pub record GoodDeclared (xs : Scope) (ds : List Declared) : Type 0 where
    pub typed : declared_fit p ds ≡ true
    pub named : declared_names ds xs ≡ true
    pub called : Each May (declared_callees w.setting ds)
    pub local : OwnOnce w (declared_locals ds)

  pub record GoodAction (xs : Scope) (a : Action) : Type 0 where
    pub typed : action_fits p a ≡ true
    pub named : action_names a xs ≡ true
    pub called : Each May (action_callees w.setting a)

  -- an expression, or none
  abbrev pub FitOpt : Scope → Option Expr → Type 0
  FitOpt xs None = ⊤
  FitOpt xs (Some e) = Fit w.setting xs May e

  abbrev pub GoodFirst : Scope → Option ForFirst → Type 0
  GoodFirst xs None = ⊤
  GoodFirst xs (Some (first.Declare ds)) = GoodDeclared xs ds
  GoodFirst xs (Some (first.Act a)) = GoodAction xs a

  abbrev pub GoodStep : Scope → Option Action → Type 0
  GoodStep xs None = ⊤
  GoodStep xs (Some a) = GoodAction xs a

  abbrev pub GoodItem : scoping.Stand → Scope → ItemLayer → Type 0
  GoodItem st xs (BlockItem-F.Declare ds) = GoodDeclared xs ds
  GoodItem st xs (BlockItem-F.«BlockItem::Act» s) = Good st xs s

  abbrev pub item_behind : ItemLayer → Scope → Scope
  item_behind (BlockItem-F.Declare ds) xs = declared_behind ds xs
  item_behind (BlockItem-F.«BlockItem::Act» s) xs = xs

  abbrev pub GoodItems : scoping.Stand → Scope → List BlockItem → Type 0
  GoodItems st xs [] = ⊤
  GoodItems st xs (b ∷ bs) = GoodItem st xs (out-BlockItem b) × GoodItems st (item_behind (out-BlockItem b) xs) bs

  pub record GoodGroup (st : scoping.Stand) (xs : Scope) (g : Group) : Type 0 where
    pub labelled : is_labelled g.labels ≡ true
    pub words : labels_fit g.labels ≡ true
    pub items : GoodItems st xs g.items

  abbrev pub GoodGroups : scoping.Stand → Scope → List Group → Type 0
  GoodGroups st xs [] = ⊤
  GoodGroups st xs (g ∷ gs) = GoodGroup st xs g × GoodGroups st xs gs

  abbrev pub GoodOpt : scoping.Stand → Scope → Option Stmt → Type 0
  GoodOpt st xs None = ⊤
  GoodOpt st xs (Some s) = Good st xs s

  -- what is said of the parts of a level
  abbrev pub GoodLayer : scoping.Stand → Scope → StmtLayer → Type 0
  GoodLayer st xs (StmtKind-F.Block items) = GoodItems st xs items
  GoodLayer st xs StmtKind-F.Empty = ⊤
  GoodLayer st xs (StmtKind-F.«StmtKind::Act» a) = GoodAction xs a
  GoodLayer st xs StmtKind-F.Break = st.breaks ≡ true
  GoodLayer st xs StmtKind-F.Continue = st.continues ≡ true
  GoodLayer st xs (StmtKind-F.Return e) = (return_fits p result e ≡ true) × FitOpt xs e
  GoodLayer st xs (StmtKind-F.If c a b) = Fit w.setting xs May c × Good st xs a × GoodOpt st xs b
  GoodLayer st xs (StmtKind-F.While c body) = Fit w.setting xs May c × Good in_loop xs body
  GoodLayer st xs (StmtKind-F.Do body c) = Good in_loop xs body × Fit w.setting xs May c
  GoodLayer st xs (StmtKind-F.For f c step body) = GoodFirst xs f × FitOpt (first_behind f xs) c × GoodStep (first_behind f xs) step × Good in_loop (first_behind f xs) body
      × OwnOnce w (first_locals f ++ (lowered_stmt within body).locals)
  GoodLayer st xs (StmtKind-F.Switch e groups) = Fit w.setting xs May e × (has_promoted (typing p e) ≡ true) × GoodGroups (in_switch st) xs groups

  -- ---- items

  abbrev C : Stmt → List ℕ
  C s = (lowered_stmt within s).callees

  item_good : (st : scoping.Stand) (xs : Scope) (b : BlockItem) → item_fits p result b ≡ true → (scoped_item b).fits st xs ≡ true → Each May (lowered_item within b).callees → OwnOnce w (lowered_item within b).locals → GoodItem st xs (out-BlockItem b)
  item_good st xs b t f c l = by_layer (out-BlockItem b) (fits_level.item_level p result b ∙ t) (ap (λ z. z.fits st xs) (scoped_item_level b) ∙ f) (subst (λ z. Each May z.callees) (sym (item_level within b)) c) (subst (λ z. OwnOnce w z.locals) (sym (item_level within b)) l)
    where
      by_layer : (L : ItemLayer) → sound.item_by p (item_parts_fit p result L) ≡ true → (scoping.item_by (scoped_item_parts L)).fits st xs ≡ true → Each May (lower.item_by within (item_parts within L)).callees
          → OwnOnce w (lower.item_by within (item_parts within L)).locals → GoodItem st xs L
      by_layer (BlockItem-F.Declare ds) t f c l = record { typed = t; named = f; called = c; local = l }
      by_layer (BlockItem-F.«BlockItem::Act» s) t f c l = record { typed = t; fits = f; called = c; local = l }

  -- the scope behind an item
  behind_is : (xs : Scope) (b : BlockItem) → (scoped_item b).behind xs ≡ item_behind (out-BlockItem b) xs
  behind_is xs b = ap (λ z. z.behind xs) (sym (scoped_item_level b)) ∙ by_layer (out-BlockItem b)
    where
      by_layer : (L : ItemLayer) → (scoping.item_by (scoped_item_parts L)).behind xs ≡ item_behind L xs
      by_layer (BlockItem-F.Declare ds) = refl
      by_layer (BlockItem-F.«BlockItem::Act» s) = ap (λ z. z.behind xs) (sym (scoped_level s))

  items_good : (st : scoping.Stand) (xs : Scope) (bs : List BlockItem) → all_hold (map (item_fits p result) bs) ≡ true → each_fits st xs (map scoped_item bs) ≡ true → Each May (all_of (λ z. z.callees) (map (lowered_item within) bs))
      → OwnOnce w (all_of (λ z. z.locals) (map (lowered_item within) bs)) → GoodItems st xs bs
  items_good st xs [] t f c l = tt
  items_good st xs (b ∷ bs) t f c l =
      let i = both_parts (item_fits p result b) (all_hold (map (item_fits p result) bs)) t in
      let j = both_parts ((scoped_item b).fits st xs) (each_fits st ((scoped_item b).behind xs) (map scoped_item bs)) f in
      let cs : List ℕ = all_of (λ z. z.callees) (map (lowered_item within) bs) in (
        item_good st xs b i.0 j.0 (each_left May (lowered_item within b).callees cs c) (own_left w (lowered_item within b).locals (all_of (λ z. z.locals) (map (lowered_item within) bs)) l),
        items_good st (item_behind (out-BlockItem b) xs) bs i.1 (subst (λ ys. each_fits st ys (map scoped_item bs) ≡ true) (behind_is xs b) j.1) (each_right May (lowered_item within b).callees cs c)
            (own_right w (lowered_item within b).locals (all_of (λ z. z.locals) (map (lowered_item within) bs)) l),
      )

  -- ---- groups

  -- the items of each group fit in the scope around the `switch`
  abbrev EachGroup : scoping.Stand → Scope → List ScopedGroup → Type 0
  EachGroup st xs [] = ⊤
  EachGroup st xs (g ∷ gs) = (each_fits st xs g.items ≡ true) × EachGroup st xs gs

  groups_each : (st : scoping.Stand) (xs : Scope) (gs : List ScopedGroup) → groups_fit st xs gs ≡ true → EachGroup st xs gs
  groups_each st xs [] h = tt
  groups_each st xs (g ∷ []) h = (h, tt)
  groups_each st xs (g ∷ k ∷ rest) h =
      let i = both_parts (last_ends g.items) (each_fits st xs g.items && groups_fit st xs (k ∷ rest)) h in
      let j = both_parts (each_fits st xs g.items) (groups_fit st xs (k ∷ rest)) i.1 in
      (j.0, groups_each st xs (k ∷ rest) j.1)

  group_good : (st : scoping.Stand) (xs : Scope) (g : Group) → group_fits p result g ≡ true → each_fits st xs (scoped_group g).items ≡ true → Each May (all_of (λ z. z.callees) (lowered_group within g).items)
      → OwnOnce w (all_of (λ z. z.locals) (lowered_group within g).items) → GoodGroup st xs g
  group_good st xs g t f c l =
      let i = both_parts (is_labelled g.labels) (labels_fit g.labels && all_hold (map (item_fits p result) g.items)) (fits_level.group_level p result g ∙ t) in
      let j = both_parts (labels_fit g.labels) (all_hold (map (item_fits p result) g.items)) i.1 in
      record {
        labelled = i.0;
        words = j.0;
        items = items_good st xs g.items j.1 (ap (λ z. each_fits st xs z.items) (scoped_group_level g) ∙ f) (subst (λ z. Each May (all_of (λ y. y.callees) z.items)) (sym (group_level within g)) c)
            (subst (λ z. OwnOnce w (all_of (λ y. y.locals) z.items)) (sym (group_level within g)) l);
      }

  groups_good : (st : scoping.Stand) (xs : Scope) (gs : List Group) → all_hold (map (group_fits p result) gs) ≡ true → EachGroup st xs (map scoped_group gs) → Each May (all_of_groups (λ z. z.callees) (map (lowered_group within) gs))
      → OwnOnce w (all_of_groups (λ z. z.locals) (map (lowered_group within) gs)) → GoodGroups st xs gs
  groups_good st xs [] t f c l = tt
  groups_good st xs (g ∷ gs) t f c l =
      let i = both_parts (group_fits p result g) (all_hold (map (group_fits p result) gs)) t in
      let own : List ℕ = all_of (λ z. z.callees) (lowered_group within g).items in
      let cs : List ℕ = all_of_groups (λ z. z.callees) (map (lowered_group within) gs) in (
        group_good st xs g i.0 f.0 (each_left May own cs c) (own_left w (all_of (λ z. z.locals) (lowered_group within g).items) (all_of_groups (λ z. z.locals) (map (lowered_group within) gs)) l),
        groups_good st xs gs i.1 f.1 (each_right May own cs c) (own_right w (all_of (λ z. z.locals) (lowered_group within g).items) (all_of_groups (λ z. z.locals) (map (lowered_group within) gs)) l),
      )

  -- ---- other parts

  opt_good : (xs : Scope) (e : Option Expr) → tests p e ≡ true → names_opt e xs ≡ true → Each May (opt_callees w.setting e) → FitOpt xs e
  opt_good xs None t n c = tt
  opt_good xs (Some e) t n c = record { typed = typed_value (typing p e) t; named = n; called = c }

  return_good : (xs : Scope) (r : Option Ty) (e : Option Expr) → return_fits p r e ≡ true → names_opt e xs ≡ true → Each May (opt_callees w.setting e) → FitOpt xs e
  return_good xs r None t n c = tt
  return_good xs None (Some e) t n c = cc
  return_good xs (Some ty) (Some e) t n c = record { typed = typed_type ty (typing p e) t; named = n; called = c }

  first_good : (xs : Scope) (f : Option ForFirst) → first_fits p f ≡ true → first_names f xs ≡ true → Each May (first_callees w.setting f) → OwnOnce w (first_locals f) → GoodFirst xs f
  first_good xs None t n c l = tt
  first_good xs (Some (first.Declare ds)) t n c l = record { typed = t; named = n; called = c; local = l }
  first_good xs (Some (first.Act a)) t n c l = record { typed = t; named = n; called = c }

  step_good : (xs : Scope) (a : Option Action) → step_fits p a ≡ true → opt_action_names a xs ≡ true → Each May (opt_action_callees w.setting a) → GoodStep xs a
  step_good xs None t n c = tt
  step_good xs (Some a) t n c = record { typed = t; named = n; called = c }

  arm_good : (st : scoping.Stand) (xs : Scope) (b : Option Stmt) → holds_or_none (option_map (stmt_fits p result) b) ≡ true → opt_fits st xs (option_map scoped b) ≡ true
      → Each May (all_in (λ z. z.callees) (option_map (lowered_stmt within) b)) → OwnOnce w (all_in (λ z. z.locals) (option_map (lowered_stmt within) b)) → GoodOpt st xs b
  arm_good st xs None t f c l = tt
  arm_good st xs (Some s) t f c l = record { typed = t; fits = f; called = c; local = l }

  -- ---- a level

  layer_good : (st : scoping.Stand) (xs : Scope) (L : StmtLayer) → sound.stmt_by p result (parts_fit p result L) ≡ true → scoping.fits_by (scoped_parts L) st xs ≡ true → Each May (callees_by w.setting (stmt_parts within L))
      → OwnOnce w (locals_by (stmt_parts within L)) → GoodLayer st xs L
  layer_good st xs (StmtKind-F.Block items) t f c l = items_good st xs items t f c l
  layer_good st xs StmtKind-F.Empty t f c l = tt
  layer_good st xs (StmtKind-F.«StmtKind::Act» a) t f c l = record { typed = t; named = f; called = c }
  layer_good st xs StmtKind-F.Break t f c l = f
  layer_good st xs StmtKind-F.Continue t f c l = f
  layer_good st xs (StmtKind-F.Return e) t f c l = (t, return_good xs result e t f c)
  layer_good st xs (StmtKind-F.If e a b) t f c l =
      let arms : List ℕ = C a ++ all_in (λ z. z.callees) (option_map (lowered_stmt within) b) in
      let i = both_parts (has_value (typing p e)) (stmt_fits p result a && holds_or_none (option_map (stmt_fits p result) b)) t in
      let j = both_parts (stmt_fits p result a) (holds_or_none (option_map (stmt_fits p result) b)) i.1 in
      let m = both_parts (names e xs) ((scoped a).fits st xs && opt_fits st xs (option_map scoped b)) f in
      let n = both_parts ((scoped a).fits st xs) (opt_fits st xs (option_map scoped b)) m.1 in
      let rest = each_right May (expr_callees w.setting e) arms c in (
        record { typed = typed_value (typing p e) i.0; named = m.0; called = each_left May (expr_callees w.setting e) arms c },
        record {
          typed = j.0;
          fits = n.0;
          called = each_left May (C a) (all_in (λ z. z.callees) (option_map (lowered_stmt within) b)) rest;
          local = own_left w (lowered_stmt within a).locals (all_in (λ z. z.locals) (option_map (lowered_stmt within) b)) l;
        },
        arm_good st xs b j.1 n.1 (each_right May (C a) (all_in (λ z. z.callees) (option_map (lowered_stmt within) b)) rest) (own_right w (lowered_stmt within a).locals (all_in (λ z. z.locals) (option_map (lowered_stmt within) b)) l),
      )
  layer_good st xs (StmtKind-F.While e body) t f c l =
      let i = both_parts (has_value (typing p e)) (stmt_fits p result body) t in
      let m = both_parts (names e xs) ((scoped body).fits in_loop xs) f in (
        record { typed = typed_value (typing p e) i.0; named = m.0; called = each_left May (expr_callees w.setting e) (C body) c },
        record { typed = i.1; fits = m.1; called = each_right May (expr_callees w.setting e) (C body) c; local = l },
      )
  layer_good st xs (StmtKind-F.Do body e) t f c l =
      let i = both_parts (stmt_fits p result body) (has_value (typing p e)) t in
      let m = both_parts ((scoped body).fits in_loop xs) (names e xs) f in (
        record { typed = i.0; fits = m.0; called = each_left May (C body) (expr_callees w.setting e) c; local = l },
        record { typed = typed_value (typing p e) i.1; named = m.1; called = each_right May (C body) (expr_callees w.setting e) c },
      )
  layer_good st xs (StmtKind-F.For h e step body) t f c l =
      let ys : Scope = first_behind h xs in
      let i = both_parts (first_fits p h) (tests p e && (step_fits p step && stmt_fits p result body)) t in
      let j = both_parts (tests p e) (step_fits p step && stmt_fits p result body) i.1 in
      let k = both_parts (step_fits p step) (stmt_fits p result body) j.1 in
      let m = both_parts (first_names h xs) (names_opt e ys && (opt_action_names step ys && (scoped body).fits in_loop ys)) f in
      let n = both_parts (names_opt e ys) (opt_action_names step ys && (scoped body).fits in_loop ys) m.1 in
      let o = both_parts (opt_action_names step ys) ((scoped body).fits in_loop ys) n.1 in
      let tail : List ℕ = opt_action_callees w.setting step ++ C body in
      let behind = each_right May (first_callees w.setting h) (opt_callees w.setting e ++ tail) c in
      let last = each_right May (opt_callees w.setting e) tail behind in (
        first_good xs h i.0 m.0 (each_left May (first_callees w.setting h) (opt_callees w.setting e ++ tail) c) (own_left w (first_locals h) (lowered_stmt within body).locals l),
        opt_good ys e j.0 n.0 (each_left May (opt_callees w.setting e) tail behind),
        step_good ys step k.0 o.0 (each_left May (opt_action_callees w.setting step) (C body) last),
        record { typed = k.1; fits = o.1; called = each_right May (opt_action_callees w.setting step) (C body) last; local = own_right w (first_locals h) (lowered_stmt within body).locals l },
        l,
      )
  layer_good st xs (StmtKind-F.Switch e groups) t f c l =
      let i = both_parts (has_promoted (typing p e)) (all_hold (map (group_fits p result) groups)) t in
      let m = both_parts (names e xs) (labels_differ (all_labels (map scoped_group groups)) && groups_fit (in_switch st) xs (map scoped_group groups)) f in
      let n = both_parts (labels_differ (all_labels (map scoped_group groups))) (groups_fit (in_switch st) xs (map scoped_group groups)) m.1 in
      let cs : List ℕ = all_of_groups (λ z. z.callees) (map (lowered_group within) groups) in (
        record { typed = typed_promoted (typing p e) i.0; named = m.0; called = each_left May (expr_callees w.setting e) cs c },
        i.0,
        groups_good (in_switch st) xs groups i.1 (groups_each (in_switch st) xs (map scoped_group groups) n.1) (each_right May (expr_callees w.setting e) cs c) l,
      )

  -- a good statement has good parts
  pub good_level : (st : scoping.Stand) (xs : Scope) (s : Stmt) → Good st xs s → GoodLayer st xs (out-StmtKind s.kind)
  good_level st xs s h =
      layer_good st xs (out-StmtKind s.kind) (fits_level.stmt_level p result s ∙ h.typed) (ap (λ z. z.fits st xs) (scoped_level s) ∙ h.fits) (subst (λ z. Each May z.callees) (sym (stmt_level within s)) h.called)
      (subst (λ z. OwnOnce w z.locals) (sym (stmt_level within s)) h.local)
