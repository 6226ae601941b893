-- Statements that leave a variable as it is: none in them assigns to it or declares it, and they call only functions that are clear of it.
use Rattle.std.proofs.Common.{◌≡◌, ℕ, zero, suc, Bool, true, false, Option, Some, None, List, [], ◌∷◌, ◌++◌, refl, sym, subst}
use Rattle.std.specs.Prelude.{⊤, map, slice_get, if◌then◌else◌}
use Rattle.std.specs.Option.{option_map}
use Rattle.c_values.specs.Values.{is_set}
use Rattle.c_tree.specs.declared.tree.Expr.{Expr}
use Rattle.c_tree.specs.declared.tree.ExprKind.{out-ExprKind}
use Rattle.c_tree.specs.declared.tree.Action.{Action}
use Rattle.c_tree.specs.declared.tree.Stmt.{Stmt}
use Rattle.c_tree.specs.declared.tree.StmtKind.{out-StmtKind}
use Rattle.c_tree.specs.declared.tree.BlockItem.{BlockItem, out-BlockItem}
use Rattle.c_tree.specs.declared.tree.BlockItem.TheOpen.{StmtKind-F, BlockItem-F}
use Rattle.c_tree.specs.declared.tree.ForFirst.{ForFirst}
use Rattle.c_tree.specs.declared.tree.ForFirst.TheVariants as first
use Rattle.c_tree.specs.declared.tree.Group.{Group}
use Rattle.c_tree.specs.declared.tree.Label.{Label}
use Rattle.c_tree.specs.declared.tree.Function.{Function}
use Rattle.c_tree.specs.declared.tree.Program.{Program}
use Rattle.c_tree.specs.declared.leaving.Leaving.{Leaving}
use Rattle.c_tree.specs.declared.leaving.Leaving.TheVariants.{Next, Broke, Continued, Returned}
use Rattle.c_tree.specs.Layer.{StmtLayer, ItemLayer}
use Rattle.c_tree.specs.Runs.{◌>>=◌, pure, either}
use Rattle.c_tree.specs.Nodes.{Within, ends, then_on, item_by, items_by, first_by, no_by, arm_by, begin_labels, has_default, has_label, default_items, tested, is_chosen, chosen, left_switch, switched_by, switch_by, stmt_by, goes_on, left_loop, again, last_test, do_by, step_on, stepped_by, full_turn, body_by, turn_by, next_turn, value_or, act_by, act_opt, declare_each, expr_by, to_depth}
use Rattle.lowered_graphs.specs.Exprs.{Setting}
use Rattle.lowered_graphs.specs.Stmts as lower
use Rattle.lowered_graphs.specs.Stmts.{LoweredStmt, LoweredGroup, KindOf, lowered_stmt, lowered_item, lowered_group, lowered_by, stmt_parts, item_parts, group_parts, all_of, all_in, all_of_groups, assigned_by, locals_by, callees_by, action_assigned, first_assigned, opt_assigned, first_locals, expr_callees, opt_callees, action_callees, opt_action_callees, first_callees, declares}
use Rattle.lowered_graphs.proofs.ExprLevels.{lowered_level}
use Rattle.lowered_graphs.proofs.StmtLevels.{stmt_level, item_level, group_level}
use Rattle.lowered_meaning.proofs.FitParts.{Each, each_left, each_right}
use Rattle.lowered_meaning.proofs.LeavesVariable.{Leaves, LeavesTo, Any, left_told, left_on, left_then, left_either, left_pure, left_skip, left_begun}
use Rattle.lowered_meaning.proofs.LeavesExprs.{Other, Apart, ClearBody, leaves_layer, leaves_or, leaves_act, leaves_act_opt, leaves_declared}

module _ (p : Program) (x : ℕ) (Clear : ℕ → Type 0) (closed : (f : ℕ) (fn : Function) → slice_get p.functions f ≡ Some fn → Clear f → ClearBody p x Clear fn) where
  abbrev A : LoweredStmt → Type 0
  A l = Apart p x Clear l

  abbrev O : ℕ → Type 0
  O y = Other p x Clear y

  -- ---- the parts of a list of items, and of groups

  abbrev pub ItemsApart : lower.Within → List BlockItem → Type 0
  ItemsApart w [] = ⊤
  ItemsApart w (b ∷ bs) = A (lowered_item w b) × ItemsApart w bs

  abbrev pub GroupsApart : lower.Within → List Group → Type 0
  GroupsApart w [] = ⊤
  GroupsApart w (g ∷ gs) = ItemsApart w g.items × GroupsApart w gs

  items_apart : (w : lower.Within) (bs : List BlockItem) → Each O (all_of (λ l. l.assigned) (map (lowered_item w) bs)) → Each O (all_of (λ l. l.locals) (map (lowered_item w) bs))
      → Each Clear (all_of (λ l. l.callees) (map (lowered_item w) bs)) → ItemsApart w bs
  items_apart w [] written ls cs = tt
  items_apart w (b ∷ bs) written ls cs = (
    record {
      assigned = each_left O (lowered_item w b).assigned (all_of (λ l. l.assigned) (map (lowered_item w) bs)) written;
      locals = each_left O (lowered_item w b).locals (all_of (λ l. l.locals) (map (lowered_item w) bs)) ls;
      callees = each_left Clear (lowered_item w b).callees (all_of (λ l. l.callees) (map (lowered_item w) bs)) cs;
    },
    items_apart w bs (each_right O (lowered_item w b).assigned (all_of (λ l. l.assigned) (map (lowered_item w) bs)) written)
        (each_right O (lowered_item w b).locals (all_of (λ l. l.locals) (map (lowered_item w) bs)) ls)
        (each_right Clear (lowered_item w b).callees (all_of (λ l. l.callees) (map (lowered_item w) bs)) cs),
  )

  -- the lists of a group are those of its items
  groups_apart : (w : lower.Within) (gs : List Group) → Each O (all_of_groups (λ l. l.assigned) (map (lowered_group w) gs)) → Each O (all_of_groups (λ l. l.locals) (map (lowered_group w) gs))
      → Each Clear (all_of_groups (λ l. l.callees) (map (lowered_group w) gs)) → GroupsApart w gs
  groups_apart w [] written ls cs = tt
  groups_apart w (g ∷ gs) written ls cs = (
    items_apart w g.items (subst (λ h. Each O (all_of (λ l. l.assigned) h.items)) same (each_left O (all_of (λ l. l.assigned) (lowered_group w g).items) (all_of_groups (λ l. l.assigned) (map (lowered_group w) gs)) written))
        (subst (λ h. Each O (all_of (λ l. l.locals) h.items)) same (each_left O (all_of (λ l. l.locals) (lowered_group w g).items) (all_of_groups (λ l. l.locals) (map (lowered_group w) gs)) ls))
        (subst (λ h. Each Clear (all_of (λ l. l.callees) h.items)) same (each_left Clear (all_of (λ l. l.callees) (lowered_group w g).items) (all_of_groups (λ l. l.callees) (map (lowered_group w) gs)) cs)),
    groups_apart w gs (each_right O (all_of (λ l. l.assigned) (lowered_group w g).items) (all_of_groups (λ l. l.assigned) (map (lowered_group w) gs)) written)
        (each_right O (all_of (λ l. l.locals) (lowered_group w g).items) (all_of_groups (λ l. l.locals) (map (lowered_group w) gs)) ls)
        (each_right Clear (all_of (λ l. l.callees) (lowered_group w g).items) (all_of_groups (λ l. l.callees) (map (lowered_group w) gs)) cs),
  )
    where
      same : lowered_group w g ≡ group_parts w g
      same = sym (group_level w g)

  -- an arm that may be none
  abbrev OptApart : lower.Within → Option Stmt → Type 0
  OptApart w None = ⊤
  OptApart w (Some s) = A (lowered_stmt w s)

  opt_apart : (w : lower.Within) (o : Option Stmt) → Each O (all_in (λ l. l.assigned) (option_map (lowered_stmt w) o)) → Each O (all_in (λ l. l.locals) (option_map (lowered_stmt w) o))
      → Each Clear (all_in (λ l. l.callees) (option_map (lowered_stmt w) o)) → OptApart w o
  opt_apart w None written ls cs = tt
  opt_apart w (Some s) written ls cs = record { assigned = written; locals = ls; callees = cs }

  module _ (d : Within) (exprs : (s : Setting) (e : Expr) → Each Clear (expr_callees s e) → Leaves x (d.expr e))
      (stmts : (w : lower.Within) (s : Stmt) → A (lowered_stmt w s) → Leaves x (d.stmt s))
      (turns : (w : lower.Within) (s : Stmt) → A (lowered_stmt w s) → Leaves x (d.turns s)) where
    -- ---- items

    leaves_item : (w : lower.Within) (b : BlockItem) → A (lowered_item w b) → Leaves x (item_by p d.expr d.stmt (out-BlockItem b))
    leaves_item w b h = by_layer (out-BlockItem b) (subst A (sym (item_level w b)) h)
      where
        by_layer : (L : ItemLayer) → A (lower.item_by w (item_parts w L)) → Leaves x (item_by p d.expr d.stmt L)
        by_layer (BlockItem-F.Declare es) k = left_then x (declare_each p d.expr es) (pure Next) (leaves_declared p x Clear closed d exprs stmts w.setting es k.locals k.callees) (left_pure x Next)
        by_layer (BlockItem-F.«BlockItem::Act» s) k = stmts w s k

    leaves_items : (w : lower.Within) (bs : List BlockItem) → ItemsApart w bs → Leaves x (items_by p d.expr d.stmt bs)
    leaves_items w [] h = left_pure x Next
    leaves_items w (b ∷ bs) h = left_on x (item_by p d.expr d.stmt (out-BlockItem b)) (λ l. then_on l (items_by p d.expr d.stmt bs)) (leaves_item w b h.0)
        (λ l. left_either x (ends l) (pure l) (items_by p d.expr d.stmt bs) (left_pure x l) (leaves_items w bs h.1))

    -- ---- switch

    leaves_labels : (ls : List Label) → Leaves x (begin_labels ls)
    leaves_labels [] = left_skip x
    leaves_labels (l ∷ ls) = left_begun x (begin_labels ls) (leaves_labels ls)

    leaves_is_chosen : (v : ℕ) (ls : List Label) → Leaves x (is_chosen v ls)
    leaves_is_chosen v ls = left_either x (has_default ls) (pure false) (tested v ls) (left_pure x false)
        (left_then x (begin_labels ls) (pure (has_label v ls)) (leaves_labels ls) (left_pure x (has_label v ls)))

    default_apart : (w : lower.Within) (gs : List Group) → GroupsApart w gs → ItemsApart w (default_items gs)
    default_apart w [] h = tt
    default_apart w (g ∷ gs) h = by_label (has_default g.labels) (default_apart w gs h.1)
      where
        by_label : (b : Bool) → ItemsApart w (default_items gs) → ItemsApart w (if b then g.items else default_items gs)
        by_label true rest = h.0
        by_label false rest = rest

    leaves_chosen : (w : lower.Within) (v : ℕ) (others : List BlockItem) (gs : List Group) → ItemsApart w others → GroupsApart w gs → LeavesTo x (ItemsApart w) (chosen v others gs)
    leaves_chosen w v others [] o h = λ e. (o, refl)
    leaves_chosen w v others (g ∷ gs) o h = left_told x (Any x) (ItemsApart w) (is_chosen v g.labels) (λ found. either found (pure g.items) (chosen v others gs)) (leaves_is_chosen v g.labels) (λ found is. by_found found (leaves_chosen w v others gs o h.1))
      where
        by_found : (found : Bool) → LeavesTo x (ItemsApart w) (chosen v others gs) → LeavesTo x (ItemsApart w) (either found (pure g.items) (chosen v others gs))
        by_found true rest = λ e. (h.0, refl)
        by_found false rest = rest

    leaves_switch : (w : lower.Within) (v : ℕ) (gs : List Group) → GroupsApart w gs → Leaves x (switch_by p d gs v)
    leaves_switch w v gs h = left_told x (ItemsApart w) (Any x) (chosen v (default_items gs) gs) (switched_by p d) (leaves_chosen w v (default_items gs) gs (default_apart w gs h) h)
        (λ items is. left_on x (items_by p d.expr d.stmt items) (λ l. pure (left_switch l)) (leaves_items w items is) (λ l. left_pure x (left_switch l)))

    -- ---- a level of a statement

    leaves_first : (w : lower.Within) (o : Option ForFirst) → Each O (first_assigned o) → Each O (first_locals o) → Each Clear (first_callees w.setting o) → Leaves x (first_by p d.expr o)
    leaves_first w None written ls cs = left_skip x
    leaves_first w (Some (first.Declare es)) written ls cs = leaves_declared p x Clear closed d exprs stmts w.setting es ls cs
    leaves_first w (Some (first.Act a)) written ls cs = leaves_act p x Clear closed d exprs stmts w.setting a written cs

    leaves_no : (w : lower.Within) (o : Option Stmt) → OptApart w o → Leaves x (no_by d.stmt o)
    leaves_no w None h = left_pure x Next
    leaves_no w (Some s) h = stmts w s h

    abbrev Level : lower.Within → StmtLayer → Type 0
    Level w L = Each O (assigned_by (stmt_parts w L)) × Each O (locals_by (stmt_parts w L)) × Each Clear (callees_by w.setting (stmt_parts w L))

    -- the two arms of an `if`
    if_arms : (w : lower.Within) (c : Expr) (a : Stmt) (b : Option Stmt) → Level w (StmtKind-F.If c a b) → Each Clear (expr_callees w.setting c) × A (lowered_stmt w a) × OptApart w b
    if_arms w c a b h =
        let l : LoweredStmt = lowered_stmt w a in
        let written : List ℕ = all_in (λ z. z.assigned) (option_map (lowered_stmt w) b) in
        let ls : List ℕ = all_in (λ z. z.locals) (option_map (lowered_stmt w) b) in
        let cs : List ℕ = all_in (λ z. z.callees) (option_map (lowered_stmt w) b) in
        let rest : Each Clear (l.callees ++ cs) = each_right Clear (expr_callees w.setting c) (l.callees ++ cs) h.2 in (
          each_left Clear (expr_callees w.setting c) (l.callees ++ cs) h.2,
          record { assigned = each_left O l.assigned written h.0; locals = each_left O l.locals ls h.1; callees = each_left Clear l.callees cs rest },
          opt_apart w b (each_right O l.assigned written h.0) (each_right O l.locals ls h.1) (each_right Clear l.callees cs rest),
        )

    leaves_stmt : (w : lower.Within) (s : Stmt) (L : StmtLayer) → A (lowered_stmt w s) → Level w L → Leaves x (stmt_by p d s L)
    leaves_stmt w s (StmtKind-F.Block items) h k = leaves_items w items (items_apart w items k.0 k.1 k.2)
    leaves_stmt w s StmtKind-F.Empty h k = left_pure x Next
    leaves_stmt w s (StmtKind-F.«StmtKind::Act» a) h k = left_then x (act_by p d.expr a) (pure Next) (leaves_act p x Clear closed d exprs stmts w.setting a k.0 k.2) (left_pure x Next)
    leaves_stmt w s StmtKind-F.Break h k = left_pure x Broke
    leaves_stmt w s StmtKind-F.Continue h k = left_pure x Continued
    leaves_stmt w s (StmtKind-F.Return e) h k = left_on x (value_or d.expr 0 e) (λ v. pure (Returned v)) (leaves_or p x Clear closed d exprs stmts w.setting 0 e k.2) (λ v. left_pure x (Returned v))
    leaves_stmt w s (StmtKind-F.If c a b) h k =
        let r = if_arms w c a b k in
        left_on x (d.expr c) (arm_by d.stmt a b) (exprs w.setting c r.0) (λ v. left_either x (is_set v) (d.stmt a) (no_by d.stmt b) (stmts w a r.1) (leaves_no w b r.2))
    leaves_stmt w s (StmtKind-F.While c body) h k = turns w s h
    leaves_stmt w s (StmtKind-F.Do body c) h k = turns w s h
    leaves_stmt w s (StmtKind-F.For f c step body) h k =
        let l : LoweredStmt = lowered_stmt w body in
        left_then x (first_by p d.expr f) (d.turns s)
        (leaves_first w f (each_left O (first_assigned f) (opt_assigned step ++ l.assigned) k.0) (each_left O (first_locals f) l.locals k.1)
        (each_left Clear (first_callees w.setting f) (opt_callees w.setting c ++ (opt_action_callees w.setting step ++ l.callees)) k.2))
        (turns w s h)
    leaves_stmt w s (StmtKind-F.Switch e groups) h k =
        let cs : List ℕ = all_of_groups (λ l. l.callees) (map (lowered_group w) groups) in
        left_on x (d.expr e) (switch_by p d groups) (exprs w.setting e (each_left Clear (expr_callees w.setting e) cs k.2))
        (λ v. leaves_switch w v groups (groups_apart w groups k.0 k.1 (each_right Clear (expr_callees w.setting e) cs k.2)))

    -- ---- a turn of a loop

    leaves_full : (w : lower.Within) (body : Stmt) (step : Option Action) → A (lowered_stmt w body) → Each O (opt_assigned step) → Each Clear (opt_action_callees w.setting step) → Leaves x (full_turn p d body step)
    leaves_full w body step h written cs = left_on x (d.stmt body) (stepped_by p d step) (stmts w body h)
        (λ l. left_either x (goes_on l) (step_on p d step) (pure (Some (left_loop l)))
        (left_then x {A = Unit {0}} {B = Option Leaving} (act_opt p d.expr step) (pure None) (leaves_act_opt p x Clear closed d exprs stmts w.setting step written cs) (left_pure x {A = Option Leaving} None)) (left_pure x (Some (left_loop l))))

    leaves_body : (w : lower.Within) (body : Stmt) (step : Option Action) (v : ℕ) → A (lowered_stmt w body) → Each O (opt_assigned step) → Each Clear (opt_action_callees w.setting step) → Leaves x (body_by p d body step v)
    leaves_body w body step v h written cs = left_either x (is_set v) (full_turn p d body step) (pure (Some Next)) (leaves_full w body step h written cs) (left_pure x (Some Next))

    leaves_turn : (w : lower.Within) (L : StmtLayer) → Level w L → Leaves x (turn_by p d L)
    leaves_turn w (StmtKind-F.While c body) k =
        let l : LoweredStmt = lowered_stmt w body in
        left_on x (d.expr c) (body_by p d body None) (exprs w.setting c (each_left Clear (expr_callees w.setting c) l.callees k.2))
        (λ v. leaves_body w body None v (record { assigned = k.0; locals = k.1; callees = each_right Clear (expr_callees w.setting c) l.callees k.2 }) tt tt)
    leaves_turn w (StmtKind-F.Do body c) k =
        let l : LoweredStmt = lowered_stmt w body in
        left_on x (d.stmt body) (do_by d c) (stmts w body (record { assigned = k.0; locals = k.1; callees = each_left Clear l.callees (expr_callees w.setting c) k.2 }))
        (λ m. left_either x (goes_on m) (last_test d c) (pure (Some (left_loop m)))
        (left_on x (d.expr c) (λ v. pure (again v)) (exprs w.setting c (each_right Clear l.callees (expr_callees w.setting c) k.2)) (λ v. left_pure x (again v))) (left_pure x (Some (left_loop m))))
    leaves_turn w (StmtKind-F.For f c step body) k =
        let l : LoweredStmt = lowered_stmt w body in
        let written : Each O (opt_assigned step ++ l.assigned) = each_right O (first_assigned f) (opt_assigned step ++ l.assigned) k.0 in
        let cs : Each Clear (opt_callees w.setting c ++ (opt_action_callees w.setting step ++ l.callees)) = each_right Clear (first_callees w.setting f) (opt_callees w.setting c ++ (opt_action_callees w.setting step ++ l.callees)) k.2 in
        let ds : Each Clear (opt_action_callees w.setting step ++ l.callees) = each_right Clear (opt_callees w.setting c) (opt_action_callees w.setting step ++ l.callees) cs in
        left_on x (value_or d.expr 1 c) (body_by p d body step) (leaves_or p x Clear closed d exprs stmts w.setting 1 c (each_left Clear (opt_callees w.setting c) (opt_action_callees w.setting step ++ l.callees) cs))
        (λ v. leaves_body w body step v
        (record { assigned = each_right O (opt_assigned step) l.assigned written; locals = each_right O (first_locals f) l.locals k.1; callees = each_right Clear (opt_action_callees w.setting step) l.callees ds })
        (each_left O (opt_assigned step) l.assigned written) (each_left Clear (opt_action_callees w.setting step) l.callees ds))
    leaves_turn w (StmtKind-F.Block items) k = left_pure x (Some Next)
    leaves_turn w StmtKind-F.Empty k = left_pure x (Some Next)
    leaves_turn w (StmtKind-F.«StmtKind::Act» a) k = left_pure x (Some Next)
    leaves_turn w StmtKind-F.Break k = left_pure x (Some Next)
    leaves_turn w StmtKind-F.Continue k = left_pure x (Some Next)
    leaves_turn w (StmtKind-F.Return e) k = left_pure x (Some Next)
    leaves_turn w (StmtKind-F.If c a b) k = left_pure x (Some Next)
    leaves_turn w (StmtKind-F.Switch e groups) k = left_pure x (Some Next)

  -- ---- at every depth

  -- what a depth leaves
  record At (d : Within) : Type 0 where
    pub exprs : (s : Setting) (e : Expr) → Each Clear (expr_callees s e) → Leaves x (d.expr e)
    pub stmts : (w : lower.Within) (s : Stmt) → A (lowered_stmt w s) → Leaves x (d.stmt s)
    pub turns : (w : lower.Within) (s : Stmt) → A (lowered_stmt w s) → Leaves x (d.turns s)

  level : (w : lower.Within) (s : Stmt) → A (lowered_stmt w s)
      → Each O (assigned_by (stmt_parts w (out-StmtKind s.kind))) × Each O (locals_by (stmt_parts w (out-StmtKind s.kind))) × Each Clear (callees_by w.setting (stmt_parts w (out-StmtKind s.kind)))
  level w s h = let k : A (lowered_by w (stmt_parts w (out-StmtKind s.kind)) s.place) = subst A (sym (stmt_level w s)) h in (k.assigned, k.locals, k.callees)

  module _ (j : ℕ) (at : At (to_depth p j)) where
    next : (o : Option Leaving) (w : lower.Within) (s : Stmt) → A (lowered_stmt w s) → Leaves x (next_turn ((to_depth p j).turns s) o)
    next None w s h = at.turns w s h
    next (Some l) w s h = left_pure x l

    deeper : At (to_depth p (suc j))
    unfolding to_depth
    deeper = record {
      exprs = λ s e h. left_begun x (expr_by p (to_depth p j) e.ty (out-ExprKind e.kind))
          (leaves_layer p x Clear closed (to_depth p j) at.exprs at.stmts s (out-ExprKind e.kind) e.ty (subst (λ l. Each Clear l.callees) (sym (lowered_level s e)) h));
      stmts = λ w s h. left_begun x (stmt_by p (to_depth p j) s (out-StmtKind s.kind)) (leaves_stmt (to_depth p j) at.exprs at.stmts at.turns w s (out-StmtKind s.kind) h (level w s h));
      turns = λ w s h. left_begun x (turn_by p (to_depth p j) (out-StmtKind s.kind) >>= next_turn ((to_depth p j).turns s))
          (left_on x (turn_by p (to_depth p j) (out-StmtKind s.kind)) (next_turn ((to_depth p j).turns s)) (leaves_turn (to_depth p j) at.exprs at.stmts at.turns w (out-StmtKind s.kind) (level w s h))
          (λ o. next o w s h));
    }

  none : At (to_depth p 0)
  unfolding to_depth
  none = record { exprs = λ s e h d. tt; stmts = λ w s h d. tt; turns = λ w s h d. tt }

  each_depth : (j : ℕ) → At (to_depth p j)
  each_depth zero = none
  each_depth (suc j) = deeper j (each_depth j)

  -- a statement that is apart leaves the variable, at every depth
  pub leaves_variable : (w : lower.Within) (s : Stmt) → A (lowered_stmt w s) → (j : ℕ) → Leaves x ((to_depth p j).stmt s)
  leaves_variable w s h j = (each_depth j).stmts w s h
