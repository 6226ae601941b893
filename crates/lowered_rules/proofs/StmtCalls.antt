-- What a typed statement calls and declares: functions that are there and lower, and variables of the function.
use Rattle.std.proofs.Common.{◌≡◌, ℕ, Bool, true, false, Option, Some, None, List, [], ◌∷◌, ◌++◌, refl, sym, subst}
use Rattle.std.specs.Prelude.{⊤, ◌&&◌, not, map, slice_get, length, nat_le}
use Rattle.std.proofs.lemmas.Bool.{and_parts, false≢true}
use Rattle.c_values.specs.declared.ops.Ty.{Ty}
use Rattle.c_values.specs.declared.ops.BinaryOp.{BinaryOp}
use Rattle.c_tree.specs.Nodes.{same_type}
use Rattle.c_tree.specs.declared.tree.Variable.{Variable}
use Rattle.c_tree.specs.declared.tree.Expr.{Expr}
use Rattle.c_tree.specs.declared.tree.ExprKind.{out-ExprKind}
use Rattle.c_tree.specs.declared.tree.ExprKind.TheOpen.{ExprKind-F}
use Rattle.c_tree.specs.declared.tree.Action.{Action}
use Rattle.c_tree.specs.declared.tree.Action.TheVariants as action
use Rattle.c_tree.specs.declared.tree.Declared.{Declared}
use Rattle.c_tree.specs.declared.tree.ForFirst.{ForFirst}
use Rattle.c_tree.specs.declared.tree.ForFirst.TheVariants as first
use Rattle.c_tree.specs.declared.tree.Function.{Function}
use Rattle.c_tree.specs.declared.tree.Program.{Program}
use Rattle.c_tree.specs.declared.tree.Stmt.{Stmt}
use Rattle.c_tree.specs.declared.tree.StmtKind.{out-StmtKind}
use Rattle.c_tree.specs.declared.tree.Group.{Group}
use Rattle.c_tree.specs.declared.tree.BlockItem.{BlockItem, out-BlockItem}
use Rattle.c_tree.specs.declared.tree.BlockItem.TheOpen.{StmtKind-F, BlockItem-F}
use Rattle.c_tree.specs.Layer.{ExprLayer, StmtLayer, ItemLayer}
use Rattle.sound_programs.specs.Calls.{Below, is_below, calls_below, calls_by, parts_below, opt_below, exprs_below, action_below, declared_below, first_below, step_below, stmt_below, item_below, group_below, item_calls_by, stmt_calls_by, stmt_parts_below, item_parts_below}
use Rattle.sound_programs.proofs.CallLevels as calling
use Rattle.sound_programs.specs.Sound as sound
use Rattle.sound_programs.specs.Sound.{typing, has_value, has_type, has_promoted, is_shift, is_compound, promoted, target_fits, assign_fits, update_fits, works_in, action_fits, step_fits, declared_as, declared_fit, values_fit, capacity, return_fits, tests, first_fits, stmt_fits, item_fits, group_fits, stmt_by, parts_fit, item_parts_fit, all_hold, holds_or_none, is_labelled, labels_fit}
use Rattle.sound_programs.proofs.SoundLevels as sounds
use Rattle.lowered_graphs.specs.Exprs.{Setting, LoweredExpr, callees_of, callees_by, lowered, parts}
use Rattle.lowered_graphs.specs.Stmts.{Within, LoweredStmt, LoweredGroup, all_of, all_of_groups, item_by, stmt_parts, item_parts, lowered_stmt, lowered_item, lowered_group, expr_callees, opt_callees, exprs_callees, action_callees, opt_action_callees, declared_callees, first_callees, first_locals, declared_locals, locals_by, callees_by as stmt_callees_by}
use Rattle.lowered_graphs.proofs.ExprLevels.{lowered_level}
use Rattle.lowered_graphs.proofs.StmtLevels.{stmt_level, item_level, group_level}
use Rattle.lowered_rules.proofs.Inductions.{EachExpr, ExprParts, expr_induction, EachItem, EachGroup, ItemPart, StmtParts, stmt_induction}
use Rattle.lowered_rules.proofs.EachLemmas.{Each, each_append}
use Rattle.lowered_rules.proofs.TypedParts.{Typed, EachTyped, TypedLayer, typed_parts, value_typed, type_typed, promoted_typed, if_either}

module _ (w : Within) (b : Below) where
  abbrev s : Setting
  s = w.setting

  abbrev p : Program
  p = w.setting.program

  -- a function that may be called
  pub record Lower (f : ℕ) : Type 0 where
    pub function : Function
    pub there : slice_get p.functions f ≡ Some function
    pub below : is_below b f ≡ true

  -- ---- expressions

  abbrev CallsLower : Expr → Type 0
  CallsLower e = Typed p e → calls_below b e ≡ true → Each Lower (expr_callees s e)

  arguments : (es : List Expr) → EachExpr CallsLower es → EachTyped p es → all_hold (map (calls_below b) es) ≡ true → Each Lower (callees_of (map (lowered s) es))
  arguments [] h t c = tt
  arguments (e ∷ es) h t c =
      let q = and_parts (calls_below b e) (all_hold (map (calls_below b) es)) c in
      each_append Lower (lowered s e).callees (callees_of (map (lowered s) es)) (h.0 t.0 q.0) (arguments es h.1 t.1 q.1)

  layer : (x : ExprLayer) (ty : Ty) → ExprParts CallsLower x → TypedLayer p ty x → calls_by b (parts_below b x) ≡ true → Each Lower (callees_by (parts s x))
  layer (ExprKind-F.Number n) ty h t c = tt
  layer (ExprKind-F.Var x) ty h t c = tt
  layer (ExprKind-F.Element x i) ty h t c = h t.1 c
  layer (ExprKind-F.Convert e) ty h t c = h t c
  layer (ExprKind-F.Unary op a) ty h t c = h t c
  layer (ExprKind-F.Binary op x y) ty h t c =
      let q = and_parts (calls_below b x) (calls_below b y) c in each_append Lower (lowered s x).callees (lowered s y).callees (h.0 t.0 q.0) (h.1 t.1 q.1)
  layer (ExprKind-F.Cond d x y) ty h t c =
      let q = and_parts (calls_below b d) (calls_below b x && calls_below b y) c in
      let r = and_parts (calls_below b x) (calls_below b y) q.1 in
      each_append Lower (lowered s d).callees ((lowered s x).callees ++ (lowered s y).callees) (h.0 t.0 q.0) (each_append Lower (lowered s x).callees (lowered s y).callees (h.1 t.1 r.0) (h.2 t.2 r.1))
  layer (ExprKind-F.Call f args) ty h t c =
      let q = and_parts (is_below b f) (all_hold (map (calls_below b) args)) c in
      each_append Lower (callees_of (map (lowered s) args)) (f ∷ []) (arguments args h t.2 q.1) (record { function = t.0; there = t.1; below = q.0 }, tt)
  layer ExprKind-F.Input ty h t c = tt
  layer (ExprKind-F.Output e) ty h t c = h t c

  pub expr_low : (e : Expr) → Typed p e → calls_below b e ≡ true → Each Lower (expr_callees s e)
  expr_low = expr_induction CallsLower (λ e h t c.
      subst (λ (l : LoweredExpr). Each Lower l.callees) (lowered_level s e) (layer (out-ExprKind e.kind) e.ty h (typed_parts p e t) (subst (λ q. q ≡ true) (sym (calling.expr_level b e)) c)))

  abbrev OptTyped : Option Expr → Type 0
  OptTyped None = ⊤
  OptTyped (Some e) = Typed p e

  opt_low : (e : Option Expr) → OptTyped e → opt_below b e ≡ true → Each Lower (opt_callees s e)
  opt_low None t c = tt
  opt_low (Some e) t c = expr_low e t c

  values_low : (ty : Ty) (es : List Expr) → values_fit p ty es ≡ true → exprs_below b es ≡ true → Each Lower (exprs_callees s es)
  values_low ty [] f c = tt
  values_low ty (e ∷ es) f c =
      let q = and_parts (has_type ty (typing p e)) (values_fit p ty es) f in
      let r = and_parts (calls_below b e) (exprs_below b es) c in
      each_append Lower (expr_callees s e) (exprs_callees s es) (expr_low e (type_typed ty (typing p e) q.0) r.0) (values_low ty es q.1 r.1)

  -- ---- actions and declarations

  index_typed : (v : Variable) (i : Option Expr) → target_fits p v i ≡ true → OptTyped i
  index_typed v None f = tt
  index_typed v (Some i) f = value_typed (typing p i) (and_parts _ (has_value (typing p i)) f).1

  right_typed : (op : BinaryOp) (own ty : Ty) (by : Option Expr) → works_in p op own ty by ≡ true → OptTyped by
  right_typed op own ty None f = tt
  right_typed op own ty (Some e) f = if_either (Typed p e) (is_shift op) _ _
      (λ a. promoted_typed (typing p e) (and_parts (same_type ty (promoted own)) (has_promoted (typing p e)) a).1)
      (λ a. type_typed ty (typing p e) (and_parts _ (has_type ty (typing p e)) (and_parts (is_compound op) _ a).1).1) f

  assign_low : (v : Option Variable) (i : Option Expr) (e : Expr) → assign_fits p i e v ≡ true → (opt_below b i && calls_below b e) ≡ true → Each Lower (opt_callees s i ++ expr_callees s e)
  assign_low None i e f c = absurd (false≢true f)
  assign_low (Some v) i e f c =
      let q = and_parts (target_fits p v i) (has_type v.ty (typing p e)) f in
      let r = and_parts (opt_below b i) (calls_below b e) c in
      each_append Lower (opt_callees s i) (expr_callees s e) (opt_low i (index_typed v i q.0) r.0) (expr_low e (type_typed v.ty (typing p e) q.1) r.1)

  update_low : (v : Option Variable) (i : Option Expr) (op : BinaryOp) (ty : Ty) (by : Option Expr) → update_fits p i op ty by v ≡ true → (opt_below b i && opt_below b by) ≡ true → Each Lower (opt_callees s i ++ opt_callees s by)
  update_low None i op ty by f c = absurd (false≢true f)
  update_low (Some v) i op ty by f c =
      let q = and_parts (target_fits p v i) (works_in p op v.ty ty by) f in
      let r = and_parts (opt_below b i) (opt_below b by) c in
      each_append Lower (opt_callees s i) (opt_callees s by) (opt_low i (index_typed v i q.0) r.0) (opt_low by (right_typed op v.ty ty by q.1) r.1)

  action_low : (a : Action) → action_fits p a ≡ true → action_below b a ≡ true → Each Lower (action_callees s a)
  action_low (action.Value e) f c = expr_low e f c
  action_low (action.Assign to e) f c = assign_low (slice_get p.variables to.variable) to.index e f c
  action_low (action.Update to at op ty by) f c = update_low (slice_get p.variables to.variable) to.index op ty by f c

  step_low : (a : Option Action) → step_fits p a ≡ true → step_below b a ≡ true → Each Lower (opt_action_callees s a)
  step_low None f c = tt
  step_low (Some a) f c = action_low a f c

  -- a variable of a function
  pub record Inner (x : ℕ) : Type 0 where
    pub variable : Variable
    pub there : slice_get p.variables x ≡ Some variable
    pub own : variable.global ≡ false

  not_true : (q : Bool) → not q ≡ true → q ≡ false
  not_true true h = absurd (false≢true h)
  not_true false h = refl

  declared_inner : (x : ℕ) (es : List Expr) (v : Option Variable) → slice_get p.variables x ≡ v → declared_as p es v ≡ true → exprs_below b es ≡ true → Inner x × Each Lower (exprs_callees s es)
  declared_inner x es None e f c = absurd (false≢true f)
  declared_inner x es (Some v) e f c =
      let q = and_parts (not v.global) (nat_le (length es) (capacity v.length) && values_fit p v.ty es) f in
      let r = and_parts (nat_le (length es) (capacity v.length)) (values_fit p v.ty es) q.1 in
      (record { variable = v; there = e; own = not_true v.global q.0 }, values_low v.ty es r.1 c)

  declared_low : (ds : List Declared) → declared_fit p ds ≡ true → declared_below b ds ≡ true → Each Lower (declared_callees s ds) × Each Inner (declared_locals ds)
  declared_low [] f c = (tt, tt)
  declared_low (d ∷ ds) f c =
      let q = and_parts (declared_as p d.values (slice_get p.variables d.variable)) (declared_fit p ds) f in
      let r = and_parts (exprs_below b d.values) (declared_below b ds) c in
      let x = declared_inner d.variable d.values (slice_get p.variables d.variable) refl q.0 r.0 in
      let y = declared_low ds q.1 r.1 in
      (each_append Lower (exprs_callees s d.values) (declared_callees s ds) x.1 y.0, (x.0, y.1))

  first_low : (f : Option ForFirst) → first_fits p f ≡ true → first_below b f ≡ true → Each Lower (first_callees s f) × Each Inner (first_locals f)
  first_low None f c = (tt, tt)
  first_low (Some (first.Declare ds)) f c = declared_low ds f c
  first_low (Some (first.Act a)) f c = (action_low a f c, tt)

  -- ---- statements

  module _ (r : Option Ty) where
    pub record Tells (called declared : List ℕ) : Type 0 where
      pub callees : Each Lower called
      pub locals : Each Inner declared

    abbrev IsTold : Stmt → Type 0
    IsTold t = stmt_fits p r t ≡ true → stmt_below b t ≡ true → Tells (lowered_stmt w t).callees (lowered_stmt w t).locals

    tells_both : (a c x y : List ℕ) → Tells a x → Tells c y → Tells (a ++ c) (x ++ y)
    tells_both a c x y h j = record { callees = each_append Lower a c h.callees j.callees; locals = each_append Inner x y h.locals j.locals }

    tells_on : (a c x : List ℕ) → Each Lower a → Tells c x → Tells (a ++ c) x
    tells_on a c x h j = record { callees = each_append Lower a c h j.callees; locals = j.locals }

    item_layer : (x : ItemLayer) → ItemPart IsTold x → sound.item_by p (item_parts_fit p r x) ≡ true → item_calls_by b (item_parts_below b x) ≡ true → Tells (item_by w (item_parts w x)).callees (item_by w (item_parts w x)).locals
    item_layer (BlockItem-F.Declare ds) h f c = let d = declared_low ds f c in record { callees = d.0; locals = d.1 }
    item_layer (BlockItem-F.«BlockItem::Act» t) h f c = h f c

    item_told : (i : BlockItem) → ItemPart IsTold (out-BlockItem i) → item_fits p r i ≡ true → item_below b i ≡ true → Tells (lowered_item w i).callees (lowered_item w i).locals
    item_told i h f c =
        subst (λ (l : LoweredStmt). Tells l.callees l.locals) (item_level w i)
        (item_layer (out-BlockItem i) h (subst (λ q. q ≡ true) (sym (sounds.item_level p r i)) f) (subst (λ q. q ≡ true) (sym (calling.item_level b i)) c))

    list_told : (is : List BlockItem) → EachItem IsTold is → all_hold (map (item_fits p r) is) ≡ true → all_hold (map (item_below b) is) ≡ true → Tells (all_of (λ x. x.callees) (map (lowered_item w) is)) (all_of (λ x. x.locals) (map (lowered_item w) is))
    list_told [] h f c = record { callees = tt; locals = tt }
    list_told (i ∷ is) h f c =
        let q = and_parts (item_fits p r i) (all_hold (map (item_fits p r) is)) f in
        let k = and_parts (item_below b i) (all_hold (map (item_below b) is)) c in
        tells_both (lowered_item w i).callees _ (lowered_item w i).locals _ (item_told i h.0 q.0 k.0) (list_told is h.1 q.1 k.1)

    group_told : (g : Group) → EachItem IsTold g.items → group_fits p r g ≡ true → group_below b g ≡ true → Tells (all_of (λ x. x.callees) (lowered_group w g).items) (all_of (λ x. x.locals) (lowered_group w g).items)
    group_told g h f c =
        let f0 = subst (λ q. q ≡ true) (sym (sounds.group_level p r g)) f in
        let f1 = and_parts (is_labelled g.labels) (labels_fit g.labels && all_hold (map (item_fits p r) g.items)) f0 in
        let f2 = and_parts (labels_fit g.labels) (all_hold (map (item_fits p r) g.items)) f1.1 in
        subst (λ (l : LoweredGroup). Tells (all_of (λ x. x.callees) l.items) (all_of (λ x. x.locals) l.items)) (group_level w g)
        (list_told g.items h f2.1 (subst (λ q. q ≡ true) (sym (calling.group_level b g)) c))

    groups_told : (gs : List Group) → EachGroup IsTold gs → all_hold (map (group_fits p r) gs) ≡ true → all_hold (map (group_below b) gs) ≡ true
        → Tells (all_of_groups (λ x. x.callees) (map (lowered_group w) gs)) (all_of_groups (λ x. x.locals) (map (lowered_group w) gs))
    groups_told [] h f c = record { callees = tt; locals = tt }
    groups_told (g ∷ gs) h f c =
        let q = and_parts (group_fits p r g) (all_hold (map (group_fits p r) gs)) f in
        let k = and_parts (group_below b g) (all_hold (map (group_below b) gs)) c in
        tells_both (all_of (λ x. x.callees) (lowered_group w g).items) _ (all_of (λ x. x.locals) (lowered_group w g).items) _ (group_told g h.0 q.0 k.0) (groups_told gs h.1 q.1 k.1)

    return_low : (res : Option Ty) (e : Option Expr) → return_fits p res e ≡ true → opt_below b e ≡ true → Each Lower (opt_callees s e)
    return_low res None f c = tt
    return_low None (Some e) f c = absurd (false≢true f)
    return_low (Some ty) (Some e) f c = expr_low e (type_typed ty (typing p e) f) c

    test_low : (e : Option Expr) → tests p e ≡ true → opt_below b e ≡ true → Each Lower (opt_callees s e)
    test_low None f c = tt
    test_low (Some e) f c = expr_low e (value_typed (typing p e) f) c

    stmt_layer : (x : StmtLayer) → StmtParts IsTold x → stmt_by p r (parts_fit p r x) ≡ true → stmt_calls_by b (stmt_parts_below b x) ≡ true → Tells (stmt_callees_by s (stmt_parts w x)) (locals_by (stmt_parts w x))
    stmt_layer (StmtKind-F.Block is) h f c = list_told is h f c
    stmt_layer StmtKind-F.Empty h f c = record { callees = tt; locals = tt }
    stmt_layer (StmtKind-F.«StmtKind::Act» a) h f c = record { callees = action_low a f c; locals = tt }
    stmt_layer StmtKind-F.Break h f c = record { callees = tt; locals = tt }
    stmt_layer StmtKind-F.Continue h f c = record { callees = tt; locals = tt }
    stmt_layer (StmtKind-F.Return e) h f c = record { callees = return_low r e f c; locals = tt }
    stmt_layer (StmtKind-F.If e x None) h f c =
        let q = and_parts (has_value (typing p e)) (stmt_fits p r x && true) f in
        let k = and_parts (calls_below b e) (stmt_below b x && true) c in
        let t = h.0 (and_parts (stmt_fits p r x) true q.1).0 (and_parts (stmt_below b x) true k.1).0 in
        tells_on (expr_callees s e) _ _ (expr_low e (value_typed (typing p e) q.0) k.0) (tells_both (lowered_stmt w x).callees [] (lowered_stmt w x).locals [] t (record { callees = tt; locals = tt }))
    stmt_layer (StmtKind-F.If e x (Some y)) h f c =
        let q = and_parts (has_value (typing p e)) (stmt_fits p r x && stmt_fits p r y) f in
        let k = and_parts (calls_below b e) (stmt_below b x && stmt_below b y) c in
        let q2 = and_parts (stmt_fits p r x) (stmt_fits p r y) q.1 in
        let k2 = and_parts (stmt_below b x) (stmt_below b y) k.1 in
        tells_on (expr_callees s e) _ _ (expr_low e (value_typed (typing p e) q.0) k.0)
        (tells_both (lowered_stmt w x).callees (lowered_stmt w y).callees (lowered_stmt w x).locals (lowered_stmt w y).locals (h.0 q2.0 k2.0) (h.1 q2.1 k2.1))
    stmt_layer (StmtKind-F.While e body) h f c =
        let q = and_parts (has_value (typing p e)) (stmt_fits p r body) f in
        let k = and_parts (calls_below b e) (stmt_below b body) c in
        tells_on (expr_callees s e) (lowered_stmt w body).callees (lowered_stmt w body).locals (expr_low e (value_typed (typing p e) q.0) k.0) (h q.1 k.1)
    stmt_layer (StmtKind-F.Do body e) h f c =
        let q = and_parts (stmt_fits p r body) (has_value (typing p e)) f in
        let k = and_parts (stmt_below b body) (calls_below b e) c in
        let t = h q.0 k.0 in
        record { callees = each_append Lower (lowered_stmt w body).callees (expr_callees s e) t.callees (expr_low e (value_typed (typing p e) q.1) k.1); locals = t.locals }
    stmt_layer (StmtKind-F.For g e step body) h f c =
        let f1 = and_parts (first_fits p g) (tests p e && (step_fits p step && stmt_fits p r body)) f in
        let f2 = and_parts (tests p e) (step_fits p step && stmt_fits p r body) f1.1 in
        let f3 = and_parts (step_fits p step) (stmt_fits p r body) f2.1 in
        let c1 = and_parts (first_below b g) (opt_below b e && (step_below b step && stmt_below b body)) c in
        let c2 = and_parts (opt_below b e) (step_below b step && stmt_below b body) c1.1 in
        let c3 = and_parts (step_below b step) (stmt_below b body) c2.1 in
        let x = first_low g f1.0 c1.0 in
        tells_both (first_callees s g) _ (first_locals g) (lowered_stmt w body).locals (record { callees = x.0; locals = x.1 })
        (tells_on (opt_callees s e) _ _ (test_low e f2.0 c2.0) (tells_on (opt_action_callees s step) (lowered_stmt w body).callees (lowered_stmt w body).locals (step_low step f3.0 c3.0) (h f3.1 c3.1)))
    stmt_layer (StmtKind-F.Switch e gs) h f c =
        let q = and_parts (has_promoted (typing p e)) (all_hold (map (group_fits p r) gs)) f in
        let k = and_parts (calls_below b e) (all_hold (map (group_below b) gs)) c in
        tells_on (expr_callees s e) _ _ (expr_low e (promoted_typed (typing p e) q.0) k.0) (groups_told gs h q.1 k.1)

    pub stmt_tells : (t : Stmt) → IsTold t
    stmt_tells = stmt_induction p IsTold (λ t h f c.
        subst (λ (l : LoweredStmt). Tells l.callees l.locals) (stmt_level w t)
        (stmt_layer (out-StmtKind t.kind) h (subst (λ q. q ≡ true) (sym (sounds.stmt_level p r t)) f) (subst (λ q. q ≡ true) (sym (calling.stmt_level b t)) c)))
