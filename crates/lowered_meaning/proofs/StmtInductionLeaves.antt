-- How a statement is left, over the meaning alone: by `break`, `continue` or `return` only where it holds one of its own.
use Rattle.std.proofs.Common.{◌≡◌, ℕ, zero, suc, Bool, true, false, Option, Some, None, List, [], ◌∷◌, refl, sym, ap, ◌∙◌, subst}
use Rattle.std.specs.Prelude.{if◌then◌else◌, ◌||◌, ⊤, map}
use Rattle.c_values.specs.Values.{is_set}
use Rattle.c_tree.specs.declared.tree.Expr.{Expr}
use Rattle.c_tree.specs.declared.tree.Action.{Action}
use Rattle.c_tree.specs.declared.tree.Group.{Group}
use Rattle.c_tree.specs.declared.tree.Stmt.{Stmt}
use Rattle.c_tree.specs.declared.tree.StmtKind.{out-StmtKind}
use Rattle.c_tree.specs.declared.tree.BlockItem.{BlockItem, out-BlockItem}
use Rattle.c_tree.specs.declared.tree.BlockItem.TheOpen.{StmtKind-F, BlockItem-F}
use Rattle.c_tree.specs.declared.tree.Program.{Program}
use Rattle.c_tree.specs.declared.leaving.Leaving.{Leaving}
use Rattle.c_tree.specs.declared.leaving.Leaving.TheVariants.{Next, Broke, Continued, Returned}
use Rattle.c_tree.specs.Layer.{StmtLayer, ItemLayer}
use Rattle.c_tree.specs.Runs.{Event, State, Got, Done, Trapped, Stopped, Part, behind_events, go_on, pure, either, begin, ◌>>=◌, ◌>>◌}
use Rattle.c_tree.specs.Nodes as meaning
use Rattle.c_tree.specs.Nodes.{to_depth, act_opt, declare_each, first_by, act_by, value_or, then_on, item_by, items_by, arm_by, has_default, has_label, is_chosen, chosen, left_switch, switched_by, switch_by, stmt_by, goes_on, left_loop, again, last_test, do_by, step_on, stepped_by, full_turn, body_by, turn_by, next_turn}
use Rattle.lowered_graphs.specs.Stmts as lower
use Rattle.lowered_graphs.specs.Stmts.{Within, LoweredStmt, LoweredGroup, lowered_stmt, lowered_item, lowered_group, stmt_parts, item_parts, group_parts, any_of, any_in, any_of_groups, breaks_by, continues_by, returns_by}
use Rattle.sound_programs.specs.Counted.{is_return, is_return_item, ends_in_return}
use Rattle.lowered_graphs.specs.GraphOf.{ends_by}
use Rattle.lowered_graphs.proofs.StmtLevels.{stmt_level, item_level, group_level}
use Rattle.lowered_meaning.proofs.CallsBodies.{OnDone, IsReturned}
use Rattle.lowered_meaning.proofs.CallsFalls.{IsBodyLeft}
use Rattle.lowered_meaning.proofs.DoLoops.{IsNotContinued}

-- ---- what holds of answers, one part after another

done_behind : {A : Type 0} (Q : A → Type 0) (es : List Event) (got : Got A) → OnDone Q got → OnDone Q (behind_events es got)
done_behind Q es (Done fs v d) h = h
done_behind Q es (Trapped fs t) h = tt
done_behind Q es (Stopped fs) h = tt

pub done_on : {A B : Type 0} (P : A → Type 0) (Q : B → Type 0) (p : Part A) (f : A → Part B) → ((s : State) → OnDone P (p s)) → ((a : A) → P a → (s : State) → OnDone Q (f a s)) → (s : State) → OnDone Q ((p >>= f) s)
done_on {A} {B} P Q p f h next s = by_got (p s) (h s)
  where
    by_got : (got : Got A) → OnDone P got → OnDone Q (go_on got f)
    by_got (Done es a s') k = done_behind Q es (f a s') (next a k s')
    by_got (Trapped es t) k = tt
    by_got (Stopped es) k = tt

done_any : {A : Type 0} (got : Got A) → OnDone (λ a. ⊤) got
done_any (Done es a s) = tt
done_any (Trapped es t) = tt
done_any (Stopped es) = tt

-- whatever stands before
done_then : {A B : Type 0} (Q : B → Type 0) (p : Part A) (f : A → Part B) → ((a : A) (s : State) → OnDone Q (f a s)) → (s : State) → OnDone Q ((p >>= f) s)
done_then Q p f next s = done_on (λ a. ⊤) Q p f (λ s'. done_any (p s')) (λ a k s'. next a s') s

pub done_more : {A : Type 0} (P Q : A → Type 0) (got : Got A) → ((a : A) → P a → Q a) → OnDone P got → OnDone Q got
done_more P Q (Done es a s) f h = f a h
done_more P Q (Trapped es t) f h = tt
done_more P Q (Stopped es) f h = tt

-- ---- how a part may be left

-- by `break`, by `continue` and by `return` only where it is said
abbrev pub Allowed : (breaks continues returns : Bool) → Leaving → Type 0
Allowed b c r Next = ⊤
Allowed b c r Broke = b ≡ true
Allowed b c r Continued = c ≡ true
Allowed b c r (Returned v) = r ≡ true

pub allowed_more : (b c r b' c' r' : Bool) → (b ≡ true → b' ≡ true) → (c ≡ true → c' ≡ true) → (r ≡ true → r' ≡ true) → (l : Leaving) → Allowed b c r l → Allowed b' c' r' l
allowed_more b c r b' c' r' fb fc fr Next h = tt
allowed_more b c r b' c' r' fb fc fr Broke h = fb h
allowed_more b c r b' c' r' fb fc fr Continued h = fc h
allowed_more b c r b' c' r' fb fc fr (Returned v) h = fr h

or_one : (a b : Bool) → a ≡ true → (a || b) ≡ true
or_one true b e = refl
or_one false b e = cc

or_two : (a b : Bool) → b ≡ true → (a || b) ≡ true
or_two true b e = refl
or_two false b e = e

abbrev TurnAllowed : Bool → Option Leaving → Type 0
TurnAllowed r None = ⊤
TurnAllowed r (Some l) = Allowed false false r l

module _ (p : Program) (W : Within) where
  abbrev L : Stmt → LoweredStmt
  L x = lowered_stmt W x

  abbrev StmtLeft : LoweredStmt → Part Leaving → Type 0
  StmtLeft l q = (s : State) → OnDone (Allowed l.breaks l.continues l.returns) (q s)

  -- to a depth
  pub record LeftWithin (d : meaning.Within) : Type 0 where
    pub stmt : (x : Stmt) → StmtLeft (L x) (d.stmt x)
    pub turns : (x : Stmt) (s : State) → OnDone (Allowed false false (L x).returns) (d.turns x s)

  module _ (d : meaning.Within) (h : LeftWithin d) where
    item_left : (b : BlockItem) → StmtLeft (lowered_item W b) (item_by p d.expr d.stmt (out-BlockItem b))
    item_left b = subst (λ l. StmtLeft l (item_by p d.expr d.stmt (out-BlockItem b))) (item_level W b) (by_layer (out-BlockItem b))
      where
        by_layer : (l : ItemLayer) → StmtLeft (lower.item_by W (item_parts W l)) (item_by p d.expr d.stmt l)
        by_layer (BlockItem-F.Declare ds) = done_then (Allowed false false false) (declare_each p d.expr ds) (λ u. pure Next) (λ u s. tt)
        by_layer (BlockItem-F.«BlockItem::Act» x) = h.stmt x

    items_left : (items : List BlockItem) (s : State) → OnDone (Allowed (any_of (λ x. x.breaks) (map (lowered_item W) items)) (any_of (λ x. x.continues) (map (lowered_item W) items)) (any_of (λ x. x.returns) (map (lowered_item W) items)))
        (items_by p d.expr d.stmt items s)
    items_left [] = λ s. tt
    items_left (b ∷ bs) = done_on (Allowed l.breaks l.continues l.returns) (Allowed (l.breaks || any_of (λ x. x.breaks) ls) (l.continues || any_of (λ x. x.continues) ls) (l.returns || any_of (λ x. x.returns) ls))
        (item_by p d.expr d.stmt (out-BlockItem b)) (λ k. then_on k (items_by p d.expr d.stmt bs)) (item_left b) (λ k q s. by_leaving (items_left bs) k q s)
      where
        l : LoweredStmt
        l = lowered_item W b

        ls : List LoweredStmt
        ls = map (lowered_item W) bs

        Goal : Leaving → Type 0
        Goal = Allowed (l.breaks || any_of (λ x. x.breaks) ls) (l.continues || any_of (λ x. x.continues) ls) (l.returns || any_of (λ x. x.returns) ls)

        by_leaving : ((s : State) → OnDone (Allowed (any_of (λ x. x.breaks) ls) (any_of (λ x. x.continues) ls) (any_of (λ x. x.returns) ls)) (items_by p d.expr d.stmt bs s))
            → (k : Leaving) → Allowed l.breaks l.continues l.returns k → (s : State) → OnDone Goal (then_on k (items_by p d.expr d.stmt bs) s)
        by_leaving rest Next q s = done_more (Allowed (any_of (λ x. x.breaks) ls) (any_of (λ x. x.continues) ls) (any_of (λ x. x.returns) ls)) Goal (items_by p d.expr d.stmt bs s)
            (λ k i. allowed_more (any_of (λ x. x.breaks) ls) (any_of (λ x. x.continues) ls) (any_of (λ x. x.returns) ls) (l.breaks || any_of (λ x. x.breaks) ls) (l.continues || any_of (λ x. x.continues) ls) (l.returns || any_of (λ x. x.returns) ls)
            (or_two l.breaks (any_of (λ x. x.breaks) ls)) (or_two l.continues (any_of (λ x. x.continues) ls)) (or_two l.returns (any_of (λ x. x.returns) ls)) k i) (rest s)
        by_leaving rest Broke q s = or_one l.breaks (any_of (λ x. x.breaks) ls) q
        by_leaving rest Continued q s = or_one l.continues (any_of (λ x. x.continues) ls) q
        by_leaving rest (Returned v) q s = or_one l.returns (any_of (λ x. x.returns) ls) q

    -- ---- switch

    -- what these items hold, the groups hold
    abbrev Within' : List BlockItem → List LoweredGroup → Type 0
    Within' items gs = (any_of (λ x. x.continues) (map (lowered_item W) items) ≡ true → any_of_groups (λ x. x.continues) gs ≡ true) × (any_of (λ x. x.returns) (map (lowered_item W) items) ≡ true → any_of_groups (λ x. x.returns) gs ≡ true)

    here : (g : Group) (gs : List LoweredGroup) → Within' g.items (group_parts W g ∷ gs)
    here g gs = (or_one (any_of (λ x. x.continues) (map (lowered_item W) g.items)) (any_of_groups (λ x. x.continues) gs), or_one (any_of (λ x. x.returns) (map (lowered_item W) g.items)) (any_of_groups (λ x. x.returns) gs))

    further : (items : List BlockItem) (g : Group) (gs : List LoweredGroup) → Within' items gs → Within' items (group_parts W g ∷ gs)
    further items g gs q = (λ e. or_two (any_of (λ x. x.continues) (map (lowered_item W) g.items)) (any_of_groups (λ x. x.continues) gs) (q.0 e), λ e. or_two (any_of (λ x. x.returns) (map (lowered_item W) g.items)) (any_of_groups (λ x. x.returns) gs) (q.1 e))

    default_within : (gs : List Group) → Within' (meaning.default_items gs) (map (group_parts W) gs)
    default_within [] = (λ e. e, λ e. e)
    default_within (g ∷ gs) = by_default (has_default g.labels) (default_within gs)
      where
        by_default : (b : Bool) → Within' (meaning.default_items gs) (map (group_parts W) gs) → Within' (if b then g.items else meaning.default_items gs) (group_parts W g ∷ map (group_parts W) gs)
        by_default true q = here g (map (group_parts W) gs)
        by_default false q = further (meaning.default_items gs) g (map (group_parts W) gs) q

    chosen_within : (v : ℕ) (others : List BlockItem) (all : List LoweredGroup) (gs : List Group) → Within' others all → ((items : List BlockItem) → Within' items (map (group_parts W) gs) → Within' items all) → (s : State)
        → OnDone (λ items. Within' items all) (chosen v others gs s)
    chosen_within v others all [] q into = λ s. q
    chosen_within v others all (g ∷ gs) q into = done_then (λ items. Within' items all) (is_chosen v g.labels) (λ found. either found (pure g.items) (chosen v others gs))
        (λ found s. by_found found (chosen_within v others all gs q (λ items k. into items (further items g (map (group_parts W) gs) k))) s)
      where
        by_found : (found : Bool) → ((s : State) → OnDone (λ items. Within' items all) (chosen v others gs s)) → (s : State) → OnDone (λ items. Within' items all) (either found (pure g.items) (chosen v others gs) s)
        by_found true rest s = into g.items (here g (map (group_parts W) gs))
        by_found false rest s = rest s

    same_groups : (gs : List Group) → map (group_parts W) gs ≡ map (lowered_group W) gs
    same_groups [] = refl
    same_groups (g ∷ gs) = ap (λ x. x ∷ map (group_parts W) gs) (group_level W g) ∙ ap (λ xs. lowered_group W g ∷ xs) (same_groups gs)

    switch_left : (gs : List Group) (v : ℕ) (s : State) → OnDone (Allowed false (any_of_groups (λ x. x.continues) (map (lowered_group W) gs)) (any_of_groups (λ x. x.returns) (map (lowered_group W) gs))) (switch_by p d gs v s)
    switch_left gs v = subst (λ all. (s : State) → OnDone (Allowed false (any_of_groups (λ x. x.continues) all) (any_of_groups (λ x. x.returns) all)) (switch_by p d gs v s)) (same_groups gs)
        (done_on (λ items. Within' items all) Goal (chosen v (meaning.default_items gs) gs) (switched_by p d) (chosen_within v (meaning.default_items gs) all gs (default_within gs) (λ items q. q))
        (λ items q. done_on (Items' items) Goal (items_by p d.expr d.stmt items) (λ l. pure (left_switch l)) (items_left items) (λ l k s. by_leaving items q l k)))
      where
        all : List LoweredGroup
        all = map (group_parts W) gs

        Goal : Leaving → Type 0
        Goal = Allowed false (any_of_groups (λ x. x.continues) all) (any_of_groups (λ x. x.returns) all)

        Items' : List BlockItem → Leaving → Type 0
        Items' items = Allowed (any_of (λ x. x.breaks) (map (lowered_item W) items)) (any_of (λ x. x.continues) (map (lowered_item W) items)) (any_of (λ x. x.returns) (map (lowered_item W) items))

        by_leaving : (items : List BlockItem) → Within' items all → (l : Leaving) → Items' items l → Goal (left_switch l)
        by_leaving items q Next k = tt
        by_leaving items q Broke k = tt
        by_leaving items q Continued k = q.0 k
        by_leaving items q (Returned v') k = q.1 k

    -- ---- a level

    layer_left : (x : Stmt) (l : StmtLayer) → (L x).returns ≡ returns_by (stmt_parts W l) → (s : State) → OnDone (Allowed (breaks_by (stmt_parts W l)) (continues_by (stmt_parts W l)) (returns_by (stmt_parts W l))) (stmt_by p d x l s)
    layer_left x (StmtKind-F.Block items) e = items_left items
    layer_left x StmtKind-F.Empty e = λ s. tt
    layer_left x (StmtKind-F.«StmtKind::Act» a) e = done_then (Allowed false false false) (act_by p d.expr a) (λ u. pure Next) (λ u s. tt)
    layer_left x StmtKind-F.Break e = λ s. refl
    layer_left x StmtKind-F.Continue e = λ s. refl
    layer_left x (StmtKind-F.Return o) e = done_then (Allowed false false true) (value_or d.expr 0 o) (λ v. pure (Returned v)) (λ v s. refl)
    layer_left x (StmtKind-F.If c a None) e = done_then Goal (d.expr c) (arm_by d.stmt a None) (λ v s. by_arm (is_set v) s)
      where
        Goal : Leaving → Type 0
        Goal = Allowed ((L a).breaks || false) ((L a).continues || false) ((L a).returns || false)

        by_arm : (b : Bool) (s : State) → OnDone Goal (either b (d.stmt a) (pure Next) s)
        by_arm true s = done_more (Allowed (L a).breaks (L a).continues (L a).returns) Goal (d.stmt a s)
            (λ l i. allowed_more (L a).breaks (L a).continues (L a).returns ((L a).breaks || false) ((L a).continues || false) ((L a).returns || false) (or_one (L a).breaks false) (or_one (L a).continues false) (or_one (L a).returns false) l i) (h.stmt a s)
        by_arm false s = tt
    layer_left x (StmtKind-F.If c a (Some b)) e = done_then Goal (d.expr c) (arm_by d.stmt a (Some b)) (λ v s. by_arm (is_set v) s)
      where
        Goal : Leaving → Type 0
        Goal = Allowed ((L a).breaks || (L b).breaks) ((L a).continues || (L b).continues) ((L a).returns || (L b).returns)

        by_arm : (t : Bool) (s : State) → OnDone Goal (either t (d.stmt a) (d.stmt b) s)
        by_arm true s = done_more (Allowed (L a).breaks (L a).continues (L a).returns) Goal (d.stmt a s)
            (λ l i. allowed_more (L a).breaks (L a).continues (L a).returns ((L a).breaks || (L b).breaks) ((L a).continues || (L b).continues) ((L a).returns || (L b).returns)
            (or_one (L a).breaks (L b).breaks) (or_one (L a).continues (L b).continues) (or_one (L a).returns (L b).returns) l i) (h.stmt a s)
        by_arm false s = done_more (Allowed (L b).breaks (L b).continues (L b).returns) Goal (d.stmt b s)
            (λ l i. allowed_more (L b).breaks (L b).continues (L b).returns ((L a).breaks || (L b).breaks) ((L a).continues || (L b).continues) ((L a).returns || (L b).returns)
            (or_two (L a).breaks (L b).breaks) (or_two (L a).continues (L b).continues) (or_two (L a).returns (L b).returns) l i) (h.stmt b s)
    layer_left x (StmtKind-F.While c body) e = λ s. subst (λ r. OnDone (Allowed false false r) (d.turns x s)) e (h.turns x s)
    layer_left x (StmtKind-F.Do body c) e = λ s. subst (λ r. OnDone (Allowed false false r) (d.turns x s)) e (h.turns x s)
    layer_left x (StmtKind-F.For o c step body) e = done_then (Allowed false false (L body).returns) (first_by p d.expr o) (λ u. d.turns x) (λ u s. subst (λ r. OnDone (Allowed false false r) (d.turns x s)) e (h.turns x s))
    layer_left x (StmtKind-F.Switch c groups) e = done_then (Allowed false (any_of_groups (λ y. y.continues) (map (lowered_group W) groups)) (any_of_groups (λ y. y.returns) (map (lowered_group W) groups))) (d.expr c) (switch_by p d groups) (λ v s. switch_left groups v s)

    -- ---- turns

    -- out of a loop, by how its body was left
    out_of : (body : Stmt) (l : Leaving) → Allowed (L body).breaks (L body).continues (L body).returns l → Allowed false false (L body).returns (left_loop l)
    out_of body Next q = tt
    out_of body Broke q = tt
    out_of body Continued q = tt
    out_of body (Returned v) q = q

    stepped : (body : Stmt) (step : Option Action) (l : Leaving) → Allowed (L body).breaks (L body).continues (L body).returns l → (s : State) → OnDone (TurnAllowed (L body).returns) (stepped_by p d step l s)
    stepped body step Next q = done_then (TurnAllowed (L body).returns) (act_opt p d.expr step) (λ u. pure None) (λ u s. tt)
    stepped body step Continued q = done_then (TurnAllowed (L body).returns) (act_opt p d.expr step) (λ u. pure None) (λ u s. tt)
    stepped body step Broke q = λ s. tt
    stepped body step (Returned v) q = λ s. q

    bodied : (body : Stmt) (step : Option Action) (v : ℕ) (s : State) → OnDone (TurnAllowed (L body).returns) (body_by p d body step v s)
    bodied body step v s = by_set (is_set v)
      where
        by_set : (b : Bool) → OnDone (TurnAllowed (L body).returns) (either b (full_turn p d body step) (pure (Some Next)) s)
        by_set true = done_on (Allowed (L body).breaks (L body).continues (L body).returns) (TurnAllowed (L body).returns) (d.stmt body) (stepped_by p d step) (h.stmt body) (λ l q s'. stepped body step l q s') s
        by_set false = tt

    tested_again : (r : Bool) (v : ℕ) → TurnAllowed r (again v)
    tested_again r v = by_set (is_set v)
      where
        by_set : (b : Bool) → TurnAllowed r (if b then None else Some Next)
        by_set true = tt
        by_set false = tt

    done_by : (body : Stmt) (c : Expr) (l : Leaving) → Allowed (L body).breaks (L body).continues (L body).returns l → (s : State) → OnDone (TurnAllowed (L body).returns) (do_by d c l s)
    done_by body c Next q = done_then (TurnAllowed (L body).returns) (d.expr c) (λ v. pure (again v)) (λ v s. tested_again (L body).returns v)
    done_by body c Continued q = done_then (TurnAllowed (L body).returns) (d.expr c) (λ v. pure (again v)) (λ v s. tested_again (L body).returns v)
    done_by body c Broke q = λ s. tt
    done_by body c (Returned v) q = λ s. q

    turn_left : (l : StmtLayer) (s : State) → OnDone (TurnAllowed (returns_by (stmt_parts W l))) (turn_by p d l s)
    turn_left (StmtKind-F.While c body) = done_then (TurnAllowed (L body).returns) (d.expr c) (body_by p d body None) (λ v s. bodied body None v s)
    turn_left (StmtKind-F.Do body c) = done_on (Allowed (L body).breaks (L body).continues (L body).returns) (TurnAllowed (L body).returns) (d.stmt body) (do_by d c) (h.stmt body) (λ l q s. done_by body c l q s)
    turn_left (StmtKind-F.For o c step body) = done_then (TurnAllowed (L body).returns) (value_or d.expr 1 c) (body_by p d body step) (λ v s. bodied body step v s)
    turn_left (StmtKind-F.Block items) = λ s. tt
    turn_left StmtKind-F.Empty = λ s. tt
    turn_left (StmtKind-F.«StmtKind::Act» a) = λ s. tt
    turn_left StmtKind-F.Break = λ s. tt
    turn_left StmtKind-F.Continue = λ s. tt
    turn_left (StmtKind-F.Return o) = λ s. tt
    turn_left (StmtKind-F.If c a b) = λ s. tt
    turn_left (StmtKind-F.Switch c groups) = λ s. tt

    next_left : (r : Bool) (rest : Part Leaving) (o : Option Leaving) → TurnAllowed r o → ((s : State) → OnDone (Allowed false false r) (rest s)) → (s : State) → OnDone (Allowed false false r) (next_turn rest o s)
    next_left r rest None q i = i
    next_left r rest (Some l) q i = λ s. q

  -- at every depth
  pub left_depth : (n : ℕ) → LeftWithin (to_depth p n)
  unfolding to_depth
  left_depth zero = record { stmt = λ x s. tt; turns = λ x s. tt }
  left_depth (suc n) =
      let h : LeftWithin (to_depth p n) = left_depth n in
      record {
        stmt = λ x. subst (λ l. StmtLeft l (begin >> stmt_by p (to_depth p n) x (out-StmtKind x.kind))) (stmt_level W x)
            (done_then (Allowed (breaks_by (stmt_parts W (out-StmtKind x.kind))) (continues_by (stmt_parts W (out-StmtKind x.kind))) (returns_by (stmt_parts W (out-StmtKind x.kind)))) begin (λ u. stmt_by p (to_depth p n) x (out-StmtKind x.kind))
            (λ u s. layer_left (to_depth p n) h x (out-StmtKind x.kind) (ap (λ l. l.returns) (sym (stmt_level W x))) s));
        turns = λ x. done_then (Allowed false false (L x).returns) begin (λ u. turn_by p (to_depth p n) (out-StmtKind x.kind) >>= next_turn ((to_depth p n).turns x))
            (λ u s. done_on (TurnAllowed (L x).returns) (Allowed false false (L x).returns) (turn_by p (to_depth p n) (out-StmtKind x.kind)) (next_turn ((to_depth p n).turns x))
            (λ s'. subst (λ r. OnDone (TurnAllowed r) (turn_by p (to_depth p n) (out-StmtKind x.kind) s')) (ap (λ l. l.returns) (stmt_level W x)) (turn_left (to_depth p n) h (out-StmtKind x.kind) s'))
            (λ o q s'. next_left (to_depth p n) h (L x).returns ((to_depth p n).turns x) o q (h.turns x) s') s);
      }

  -- no `continue` of its own: not left by one
  pub never_continues : (x : Stmt) → (L x).continues ≡ false → (j : ℕ) (s : State) → OnDone IsNotContinued ((to_depth p j).stmt x s)
  never_continues x e j s = done_more (Allowed (L x).breaks (L x).continues (L x).returns) IsNotContinued ((to_depth p j).stmt x s) (λ l q. by_leaving l q) ((left_depth j).stmt x s)
    where
      by_leaving : (l : Leaving) → Allowed (L x).breaks (L x).continues (L x).returns l → IsNotContinued l
      by_leaving Next q = tt
      by_leaving Broke q = tt
      by_leaving (Returned v) q = tt
      by_leaving Continued q = not_both (L x).continues e q
        where
          not_both : (b : Bool) → b ≡ false → b ≡ true → ⊥
          not_both true k i = cc
          not_both false k i = cc

  -- the body of a function, which holds no `break` or `continue` of its own
  pub body_left : (x : Stmt) → (L x).breaks ≡ false → (L x).continues ≡ false → (j : ℕ) (s : State) → OnDone IsBodyLeft ((to_depth p j).stmt x s)
  body_left x eb ec j s = done_more (Allowed (L x).breaks (L x).continues (L x).returns) IsBodyLeft ((to_depth p j).stmt x s) (λ l q. by_leaving l q) ((left_depth j).stmt x s)
    where
      not_both : (b : Bool) → b ≡ false → b ≡ true → ⊥
      not_both true k i = cc
      not_both false k i = cc

      by_leaving : (l : Leaving) → Allowed (L x).breaks (L x).continues (L x).returns l → IsBodyLeft l
      by_leaving Next q = tt
      by_leaving Broke q = not_both (L x).breaks eb q
      by_leaving Continued q = not_both (L x).continues ec q
      by_leaving (Returned v) q = tt

  -- ---- a body that ends in `return`

  abbrev IsNotNext : Leaving → Type 0
  IsNotNext Next = ⊥
  IsNotNext _ = ⊤

  return_stmt : (x : Stmt) → is_return (out-StmtKind x.kind) ≡ true → (j : ℕ) (s : State) → OnDone IsReturned ((to_depth p j).stmt x s)
  unfolding to_depth
  return_stmt x e zero = λ s. tt
  return_stmt x e (suc i) = done_then IsReturned begin (λ u. stmt_by p (to_depth p i) x (out-StmtKind x.kind)) (λ u s. by_layer (out-StmtKind x.kind) e s)
    where
      by_layer : (l : StmtLayer) → is_return l ≡ true → (s : State) → OnDone IsReturned (stmt_by p (to_depth p i) x l s)
      by_layer (StmtKind-F.Return o) q = done_then IsReturned (value_or (to_depth p i).expr 0 o) (λ v. pure (Returned v)) (λ v s. tt)
      by_layer (StmtKind-F.Block items) q = cc
      by_layer StmtKind-F.Empty q = cc
      by_layer (StmtKind-F.«StmtKind::Act» a) q = cc
      by_layer StmtKind-F.Break q = cc
      by_layer StmtKind-F.Continue q = cc
      by_layer (StmtKind-F.If c a b) q = cc
      by_layer (StmtKind-F.While c body) q = cc
      by_layer (StmtKind-F.Do body c) q = cc
      by_layer (StmtKind-F.For o c step body) q = cc
      by_layer (StmtKind-F.Switch c groups) q = cc

  items_end : (i : ℕ) (items : List BlockItem) → ends_in_return items ≡ true → (s : State) → OnDone IsNotNext (items_by p (to_depth p i).expr (to_depth p i).stmt items s)
  items_end i [] e = cc
  items_end i (b ∷ []) e = done_on IsReturned IsNotNext (item_by p (to_depth p i).expr (to_depth p i).stmt (out-BlockItem b)) (λ l. then_on l (pure Next)) (by_layer (out-BlockItem b) e) (λ l q s. by_leaving l q s)
    where
      by_layer : (l : ItemLayer) → is_return_item l ≡ true → (s : State) → OnDone IsReturned (item_by p (to_depth p i).expr (to_depth p i).stmt l s)
      by_layer (BlockItem-F.Declare ds) q = cc
      by_layer (BlockItem-F.«BlockItem::Act» x) q = return_stmt x q i

      by_leaving : (l : Leaving) → IsReturned l → (s : State) → OnDone IsNotNext (then_on l (pure Next) s)
      by_leaving Next q s = q
      by_leaving Broke q s = tt
      by_leaving Continued q s = tt
      by_leaving (Returned v) q s = tt
  items_end i (b ∷ b2 ∷ bs) e = done_then IsNotNext (item_by p (to_depth p i).expr (to_depth p i).stmt (out-BlockItem b)) (λ l. then_on l (items_by p (to_depth p i).expr (to_depth p i).stmt (b2 ∷ bs))) (λ l s. by_leaving (items_end i (b2 ∷ bs) e) l s)
    where
      by_leaving : ((s : State) → OnDone IsNotNext (items_by p (to_depth p i).expr (to_depth p i).stmt (b2 ∷ bs) s)) → (l : Leaving) (s : State) → OnDone IsNotNext (then_on l (items_by p (to_depth p i).expr (to_depth p i).stmt (b2 ∷ bs)) s)
      by_leaving rest Next s = rest s
      by_leaving rest Broke s = tt
      by_leaving rest Continued s = tt
      by_leaving rest (Returned v) s = tt

  body_ends : (x : Stmt) → ends_by (out-StmtKind x.kind) ≡ true → (j : ℕ) (s : State) → OnDone IsNotNext ((to_depth p j).stmt x s)
  unfolding to_depth
  body_ends x e zero = λ s. tt
  body_ends x e (suc i) = done_then IsNotNext begin (λ u. stmt_by p (to_depth p i) x (out-StmtKind x.kind)) (λ u s. by_layer (out-StmtKind x.kind) e s)
    where
      by_layer : (l : StmtLayer) → ends_by l ≡ true → (s : State) → OnDone IsNotNext (stmt_by p (to_depth p i) x l s)
      by_layer (StmtKind-F.Block items) q = items_end i items q
      by_layer (StmtKind-F.Return o) q = cc
      by_layer StmtKind-F.Empty q = cc
      by_layer (StmtKind-F.«StmtKind::Act» a) q = cc
      by_layer StmtKind-F.Break q = cc
      by_layer StmtKind-F.Continue q = cc
      by_layer (StmtKind-F.If c a b) q = cc
      by_layer (StmtKind-F.While c body) q = cc
      by_layer (StmtKind-F.Do body c) q = cc
      by_layer (StmtKind-F.For o c step body) q = cc
      by_layer (StmtKind-F.Switch c groups) q = cc

  done_both : (P Q R : Leaving → Type 0) (got : Got Leaving) → ((l : Leaving) → P l → Q l → R l) → OnDone P got → OnDone Q got → OnDone R got
  done_both P Q R (Done es l s) f h i = f l h i
  done_both P Q R (Trapped es t) f h i = tt
  done_both P Q R (Stopped es) f h i = tt

  -- is left by one
  pub body_returned : (x : Stmt) → (L x).breaks ≡ false → (L x).continues ≡ false → ends_by (out-StmtKind x.kind) ≡ true → (j : ℕ) (s : State) → OnDone IsReturned ((to_depth p j).stmt x s)
  body_returned x eb ec e j s = done_both IsBodyLeft IsNotNext IsReturned ((to_depth p j).stmt x s) (λ l q k. by_leaving l q k) (body_left x eb ec j s) (body_ends x e j s)
    where
      by_leaving : (l : Leaving) → IsBodyLeft l → IsNotNext l → IsReturned l
      by_leaving Next q k = k
      by_leaving Broke q k = q
      by_leaving Continued q k = q
      by_leaving (Returned v) q k = tt
