-- A statement takes as many temporaries, and has the same jumps, locals, assigned variables and calls, wherever the objects stand.
use Rattle.std.proofs.Common.{◌≡◌, ℕ, ◌+◌, Bool, false, Option, Some, None, List, [], ◌∷◌, ◌++◌, refl, ap, subst, ◌∙◌, arith}
use Rattle.std.specs.Prelude.{⊤, ◌||◌, map, slice_get, is_none, if◌then◌else◌, not}
use Rattle.base_io.specs.declared.place.Place.{Place}
use Rattle.c_values.specs.declared.ops.Ty.{Ty}
use Rattle.c_values.specs.declared.ops.BinaryOp.{BinaryOp}
use Rattle.c_tree.specs.Nodes.{type_of, has_default}
use Rattle.c_tree.specs.declared.tree.Variable.{Variable}
use Rattle.c_tree.specs.declared.tree.Expr.{Expr}
use Rattle.c_tree.specs.declared.tree.Target.{Target}
use Rattle.c_tree.specs.declared.tree.Action.{Action}
use Rattle.c_tree.specs.declared.tree.Action.TheVariants as action
use Rattle.c_tree.specs.declared.tree.Declared.{Declared}
use Rattle.c_tree.specs.declared.tree.ForFirst.{ForFirst}
use Rattle.c_tree.specs.declared.tree.ForFirst.TheVariants as first
use Rattle.c_tree.specs.declared.tree.Function.{Function}
use Rattle.c_tree.specs.declared.tree.Label.{Label}
use Rattle.c_tree.specs.declared.tree.Program.{Program}
use Rattle.c_tree.specs.declared.tree.Stmt.{Stmt}
use Rattle.c_tree.specs.declared.tree.StmtKind.{out-StmtKind}
use Rattle.c_tree.specs.declared.tree.Group.{Group}
use Rattle.c_tree.specs.declared.tree.BlockItem.{BlockItem, out-BlockItem}
use Rattle.c_tree.specs.declared.tree.BlockItem.TheOpen.{StmtKind-F, BlockItem-F}
use Rattle.c_tree.specs.Layer.{StmtLayer, ItemLayer}
use Rattle.flow_graph.specs.declared.graph.Operand.{Operand}
use Rattle.flow_graph.specs.declared.graph.Operand.TheVariants.{Const}
use Rattle.flow_graph.specs.declared.graph.Op.{Op}
use Rattle.flow_graph.specs.declared.graph.Item.{Item}
use Rattle.flow_graph.specs.declared.graph.OpKind.TheVariants as kind
use Rattle.lowered_graphs.specs.declared.homes.Homes.{Homes}
use Rattle.lowered_graphs.specs.declared.loops.Count.{Count}
use Rattle.lowered_graphs.specs.declared.positions.Position.{Position}
use Rattle.lowered_graphs.specs.declared.positions.Position.TheVariants.{Anywhere, LastOfGroup, Body, LastOfBody}
use Rattle.lowered_graphs.specs.Making.{Counts, Made, Emit, made_on, nothing, one, plain, numbered, test_of, make_of, zero_operand}
use Rattle.lowered_graphs.specs.Operators.{make_binary, make_conversion}
use Rattle.lowered_graphs.specs.Exprs.{Setting, array_use, lowered, full, calls, has_any}
use Rattle.lowered_graphs.specs.Counted.{count_head}
use Rattle.lowered_graphs.specs.Stmts as stmts
use Rattle.lowered_graphs.specs.Stmts.{Within, LoweredStmt, LoweredGroup, calls_in, index_of, store_to, load_from, right_side, assign, finish_update, update, act, act_opt, zero_array, fill_one, fill, declare_scalar, declare_array, declare_one, declare, each_item, last_position, break_at, return_op, return_main, return_from, return_at, test, test_opt, no_arm, yes_arm, if_at, loop_at, do_at, do_by_step, do_by_test, do_step, is_counted, if_counted, counted_loop, first_of, for_loop, for_by, for_at, count_of, labels, more_labels, one_more_label, group_items, default_items, group_branch, groups_from, all_groups, give_switch, switch_at, lowered_by, item_by, stmt_parts, item_parts, group_parts, lowered_stmt, lowered_item, lowered_group, any_of, all_of, any_of_groups, all_of_groups, expr_callees, opt_callees, exprs_callees, action_callees, opt_action_callees, declared_callees, first_callees, first_assigned, opt_assigned, first_locals}
use Rattle.lowered_graphs.specs.GraphOf.{body, implied, implied_return, return_zero, ends_by}
use Rattle.lowered_graphs.proofs.StmtLevels.{stmt_level, item_level, group_level}
use Rattle.lowered_rules.proofs.Inductions.{EachItem, EachGroup, ItemPart, StmtParts, stmt_induction}
use Rattle.lowered_rules.proofs.ExprTemps as temps
use Rattle.lowered_rules.proofs.ExprTemps.{AlikeExpr, expr_alike}

module _ (k : ℕ) (p : Program) (homes others : Homes) where
  abbrev S : Setting
  S = record { program = p; homes = homes }

  abbrev T : Setting
  T = record { program = p; homes = others }

  abbrev Alike : {A B : Type 0} → Emit A → Emit B → Type 0
  Alike e f = temps.Alike k e f

  on : {A B C D : Type 0} (x : Emit A) (y : Emit B) (f : A → Emit C) (g : B → Emit D) → Alike x y → ((a : A) (b : B) → Alike (f a) (g b)) → Alike (λ c. made_on (x c) f) (λ c. made_on (y c) g)
  on x y f g h j c d e = j (x c).value (y d).value (x c).counts (y d).counts (h c d e)

  E : (e : Expr) → AlikeExpr k (lowered S e) (lowered T e)
  E e = expr_alike k p homes others e

  alike_full : (e : Expr) → Alike (full S e) (full T e)
  alike_full e = (E e).emit false false refl

  callees_same : (e : Expr) → expr_callees S e ≡ expr_callees T e
  callees_same e = (E e).callees

  opt_same : (e : Option Expr) → opt_callees S e ≡ opt_callees T e
  opt_same None = refl
  opt_same (Some e) = callees_same e

  both_lists : (a b c d : List ℕ) → a ≡ c → b ≡ d → a ++ b ≡ c ++ d
  both_lists a b c d e f = ap (λ l. l ++ b) e ∙ ap (λ l. c ++ l) f

  -- ---- actions

  calls_same : (e : Expr) → calls (lowered S e) ≡ calls (lowered T e)
  calls_same e = ap has_any (callees_same e)

  calls_in_same : (e : Option Expr) → calls_in S e ≡ calls_in T e
  calls_in_same None = refl
  calls_in_same (Some e) = calls_same e

  alike_index : (i : Option Expr) (later after : Bool) → later ≡ after → Alike (index_of S i later) (index_of T i after)
  alike_index None later after e c d f = f
  alike_index (Some i) later after e c d f = (E i).emit later after e c d f

  alike_store : (to : Target) (i j a b : Operand) → Alike (store_to S to i a) (store_to T to j b)
  alike_store to i j a b = temps.alike_if k (is_none to.index) (is_none to.index) _ _ _ _ refl (λ c d e. e) (λ c d e. e)

  alike_load_from : (to : Target) (i j : Operand) (later after : Bool) → later ≡ after → Alike (load_from S to i later) (load_from T to j after)
  alike_load_from to i j later after e = temps.alike_if k (is_none to.index) (is_none to.index) _ _ _ _ refl (temps.alike_read k p homes others to.variable to.place later after e) (λ c d f. omega (arith, f))

  alike_right : (e : Option Expr) → Alike (right_side S e) (right_side T e)
  alike_right None c d f = f
  alike_right (Some e) c d f = alike_full e c d f

  alike_finish : (to : Target) (at : Place) (op : BinaryOp) (ty : Ty) (i x y j u v : Operand) → Alike (finish_update S to at op ty i x y) (finish_update T to at op ty j u v)
  alike_finish to at op ty i x y j u v = on (make_binary op ty x y at) (make_binary op ty u v at) (λ a c. made_on (make_conversion (type_of p to.variable) ty a at c) (λ q. store_to S to i q)) (λ b c. made_on (make_conversion (type_of p to.variable) ty b at c) (λ q. store_to T to j q)) (temps.alike_binary k op ty ty x y u v at refl) (λ a b.
      on (make_conversion (type_of p to.variable) ty a at) (make_conversion (type_of p to.variable) ty b at) (λ q. store_to S to i q) (λ q. store_to T to j q) (temps.alike_conversion k (type_of p to.variable) ty ty a b at refl) (λ q r. alike_store to i j q r))

  pub alike_act : (a : Action) → Alike (act S a) (act T a)
  alike_act (action.Value e) = on (full S e) (full T e) (λ _. nothing) (λ _. nothing) (alike_full e) (λ a b c d f. f)
  alike_act (action.Assign to e) = λ c d f.
      let mi : Made Operand = index_of S to.index (calls (lowered S e)) c in
      let ni : Made Operand = index_of T to.index (calls (lowered T e)) d in
      let me : Made Operand = full S e mi.counts in
      let ne : Made Operand = full T e ni.counts in
      alike_store to mi.value ni.value me.value ne.value me.counts ne.counts (alike_full e mi.counts ni.counts (alike_index to.index (calls (lowered S e)) (calls (lowered T e)) (calls_same e) c d f))
  alike_act (action.Update to at op ty by) = λ c d f.
      let mi : Made Operand = index_of S to.index (calls_in S by) c in
      let ni : Made Operand = index_of T to.index (calls_in T by) d in
      let mw : Made Operand = load_from S to mi.value (calls_in S by) mi.counts in
      let nw : Made Operand = load_from T to ni.value (calls_in T by) ni.counts in
      let mx : Made Operand = make_conversion ty (type_of p to.variable) mw.value at mw.counts in
      let nx : Made Operand = make_conversion ty (type_of p to.variable) nw.value at nw.counts in
      let my : Made Operand = right_side S by mx.counts in
      let ny : Made Operand = right_side T by nx.counts in
      alike_finish to at op ty mi.value mx.value my.value ni.value nx.value ny.value my.counts ny.counts
      (alike_right by mx.counts nx.counts
      (temps.alike_conversion k ty (type_of p to.variable) (type_of p to.variable) mw.value nw.value at refl mw.counts nw.counts
      (alike_load_from to mi.value ni.value (calls_in S by) (calls_in T by) (calls_in_same by) mi.counts ni.counts
      (alike_index to.index (calls_in S by) (calls_in T by) (calls_in_same by) c d f))))

  alike_act_opt : (a : Option Action) → Alike (act_opt S a) (act_opt T a)
  alike_act_opt None c d f = f
  alike_act_opt (Some a) c d f = alike_act a c d f

  action_same : (a : Action) → action_callees S a ≡ action_callees T a
  action_same (action.Value e) = callees_same e
  action_same (action.Assign to e) = both_lists (opt_callees S to.index) (expr_callees S e) (opt_callees T to.index) (expr_callees T e) (opt_same to.index) (callees_same e)
  action_same (action.Update to at op ty by) = both_lists (opt_callees S to.index) (opt_callees S by) (opt_callees T to.index) (opt_callees T by) (opt_same to.index) (opt_same by)

  opt_action_same : (a : Option Action) → opt_action_callees S a ≡ opt_action_callees T a
  opt_action_same None = refl
  opt_action_same (Some a) = action_same a

  -- ---- declarations

  alike_fill : (x i : ℕ) (es : List Expr) (at : Place) → Alike (fill S (array_use S x) i es at) (fill T (array_use T x) i es at)
  alike_fill x i [] at c d f = f
  alike_fill x i (e ∷ es) at c d f = alike_fill x (i + 1) es at (fill_one S (array_use S x) i e at c).counts (fill_one T (array_use T x) i e at d).counts (alike_full e c d f)

  alike_scalar : (x : ℕ) (es : List Expr) (at : Place) → Alike (declare_scalar S x es at) (declare_scalar T x es at)
  alike_scalar x [] at c d f = f
  alike_scalar x (e ∷ es) at c d f = alike_full e c d f

  alike_one : (v : Option Variable) (d : Declared) → Alike (declare_one S v d) (declare_one T v d)
  alike_one None d x y f = f
  alike_one (Some v) d x y f = temps.alike_if k (is_none v.length) (is_none v.length) (declare_scalar S d.variable d.values d.place) (declare_array S d.variable d.values d.place) (declare_scalar T d.variable d.values d.place) (declare_array T d.variable d.values d.place) refl
      (alike_scalar d.variable d.values d.place)
      (on (zero_array (array_use S d.variable) d.place) (zero_array (array_use T d.variable) d.place) (λ _. fill S (array_use S d.variable) 0 d.values d.place) (λ _. fill T (array_use T d.variable) 0 d.values d.place) (λ a b e. omega (arith, e)) (λ a b. alike_fill d.variable 0 d.values d.place)) x y f

  pub alike_declare : (ds : List Declared) → Alike (declare S ds) (declare T ds)
  alike_declare [] c d f = f
  alike_declare (x ∷ xs) c d f = alike_declare xs (declare_one S (slice_get p.variables x.variable) x c).counts (declare_one T (slice_get p.variables x.variable) x d).counts (alike_one (slice_get p.variables x.variable) x c d f)

  exprs_same : (es : List Expr) → exprs_callees S es ≡ exprs_callees T es
  exprs_same [] = refl
  exprs_same (e ∷ es) = both_lists (expr_callees S e) (exprs_callees S es) (expr_callees T e) (exprs_callees T es) (callees_same e) (exprs_same es)

  declared_same : (ds : List Declared) → declared_callees S ds ≡ declared_callees T ds
  declared_same [] = refl
  declared_same (d ∷ ds) = both_lists (exprs_callees S d.values) (declared_callees S ds) (exprs_callees T d.values) (declared_callees T ds) (exprs_same d.values) (declared_same ds)

  first_same : (f : Option ForFirst) → first_callees S f ≡ first_callees T f
  first_same None = refl
  first_same (Some (first.Declare ds)) = declared_same ds
  first_same (Some (first.Act a)) = action_same a

  -- ---- statements

  pub record AlikeStmt (l m : LoweredStmt) : Type 0 where
    pub emit : (last : Position) → Alike (l.emit last) (m.emit last)
    pub breaks : l.breaks ≡ m.breaks
    pub continues : l.continues ≡ m.continues
    pub returns : l.returns ≡ m.returns
    pub assigned : l.assigned ≡ m.assigned
    pub locals : l.locals ≡ m.locals
    pub callees : l.callees ≡ m.callees

  module _ (n : ℕ) (is_main : Bool) where
    abbrev pub U : Within
    U = record { setting = S; function = n; is_main = is_main }

    abbrev pub V : Within
    V = record { setting = T; function = n; is_main = is_main }

    abbrev pub IsAlike : Stmt → Type 0
    IsAlike s = AlikeStmt (lowered_stmt U s) (lowered_stmt V s)

    alike_return_op : (last : Position) (f g : ℕ → Op) → Alike (return_op last f) (return_op last g)
    alike_return_op Anywhere f g c d e = e
    alike_return_op LastOfGroup f g c d e = e
    alike_return_op Body f g c d e = e
    alike_return_op LastOfBody f g c d e = e

    alike_main : (e : Option Expr) (last : Position) (at : Place) → Alike (return_main U e last at) (return_main V e last at)
    alike_main None last at c d f = alike_return_op last (plain kind.Finish zero_operand at) (plain kind.Finish zero_operand at) c d f
    alike_main (Some e) last at c d f = alike_return_op last (plain kind.Finish (full S e c).value at) (plain kind.Finish (full T e d).value at) (full S e c).counts (full T e d).counts (alike_full e c d f)

    alike_from : (e : Option Expr) (last : Position) (at : Place) → Alike (return_from U e last at) (return_from V e last at)
    alike_from None last at c d f = alike_return_op last (plain kind.Ret zero_operand at) (plain kind.Ret zero_operand at) c d f
    alike_from (Some e) last at c d f = alike_return_op last (plain kind.Ret zero_operand at) (plain kind.Ret zero_operand at)
        (record { op = (full S e c).counts.op + 1; temp = (full S e c).counts.temp }) (record { op = (full T e d).counts.op + 1; temp = (full T e d).counts.temp }) (alike_full e c d f)

    alike_break : (last : Position) (at : Place) → Alike (break_at last at) (break_at last at)
    alike_break LastOfGroup at c d e = e
    alike_break Anywhere at c d e = e
    alike_break Body at c d e = e
    alike_break LastOfBody at c d e = e

    alike_test : (e : Expr) (at : Place) → Alike (test S e at) (test T e at)
    alike_test e at c d f = alike_full e c d f

    alike_test_opt : (e : Option Expr) (at : Place) → Alike (test_opt S e at) (test_opt T e at)
    alike_test_opt None at c d f = f
    alike_test_opt (Some e) at c d f = alike_test e at c d f

    -- parts within a loop or a branch, one after another
    alike_loop : (e f : Emit Op) (x y u v : Emit (Unit {0})) (count counts : Option ℕ) (at : Place) → Alike e f → Alike x y → Alike u v → Alike (loop_at e x u count at) (loop_at f y v counts at)
    alike_loop e f x y u v count counts at h j l c d q = l (x (e c).counts).counts (y (f d).counts).counts (j (e c).counts (f d).counts (h c d q))

    alike_do_step : (e : Expr) (at : Place) → Alike (do_step S e at) (do_step T e at)
    alike_do_step e at c d f = alike_test e at c d f

    alike_do : (l m : LoweredStmt) (e : Expr) (at : Place) → AlikeStmt l m → Alike (do_at S l e at) (do_at T m e at)
    alike_do l m e at h = temps.alike_if k l.continues m.continues (do_by_step S l e at) (do_by_test S l e at) (do_by_step T m e at) (do_by_test T m e at) h.continues
        (alike_loop (numbered (test_of (Const 1) at)) (numbered (test_of (Const 1) at)) (l.emit Anywhere) (m.emit Anywhere) (do_step S e at) (do_step T e at) None None at (λ c d f. f) (h.emit Anywhere) (alike_do_step e at))
        (alike_loop (λ c. made_on (l.emit Anywhere c) (λ _. test S e at)) (λ c. made_on (m.emit Anywhere c) (λ _. test T e at)) nothing nothing nothing nothing None None at
        (on (l.emit Anywhere) (m.emit Anywhere) (λ _. test S e at) (λ _. test T e at) (h.emit Anywhere) (λ a b. alike_test e at)) (λ c d f. f) (λ c d f. f))

    alike_first : (f : Option ForFirst) → Alike (first_of S f) (first_of T f)
    alike_first None c d e = e
    alike_first (Some (first.Declare ds)) c d e = alike_declare ds c d e
    alike_first (Some (first.Act a)) c d e = alike_act a c d e

    alike_for_by : (f : Option ForFirst) (e : Option Expr) (step : Option Action) (l m : LoweredStmt) (at : Place) (count : Option Count) → AlikeStmt l m → Alike (for_by S f e step l at count) (for_by T f e step m at count)
    alike_for_by f e step l m at None h c d q =
        on (first_of S f) (first_of T f) (λ _. for_loop S e step l at) (λ _. for_loop T e step m at) (alike_first f) (λ a b.
        alike_loop (test_opt S e at) (test_opt T e at) (l.emit Anywhere) (m.emit Anywhere) (act_opt S step) (act_opt T step) None None at (alike_test_opt e at) (h.emit Anywhere) (alike_act_opt step)) c d q
    alike_for_by f e step l m at (Some x) h c d q = h.emit Anywhere (record { op = c.op + 1 + 1; temp = c.temp }) (record { op = d.op + 1 + 1; temp = d.temp }) q

    counted_same : (l m : LoweredStmt) (x : ℕ) → AlikeStmt l m → is_counted l x ≡ is_counted m x
    counted_same l m x h =
        ap (λ b. not (b || (l.continues || (l.returns || stmts.holds x l.assigned)))) h.breaks
        ∙ (ap (λ b. not (m.breaks || (b || (l.returns || stmts.holds x l.assigned)))) h.continues
        ∙ (ap (λ b. not (m.breaks || (m.continues || (b || stmts.holds x l.assigned)))) h.returns
        ∙ ap (λ a. not (m.breaks || (m.continues || (m.returns || stmts.holds x a)))) h.assigned))

    if_same : (l m : LoweredStmt) (x : Option Count) → AlikeStmt l m → if_counted l x ≡ if_counted m x
    if_same l m None h = refl
    if_same l m (Some x) h = ap (λ b. if b then Some x else None) (counted_same l m x.variable h)

    alike_for : (f : Option ForFirst) (e : Option Expr) (step : Option Action) (l m : LoweredStmt) (at : Place) → AlikeStmt l m → Alike (for_at S f e step l at) (for_at T f e step m at)
    alike_for f e step l m at h =
        subst (λ x. Alike (for_by S f e step l at (count_of S f e step l)) (for_by T f e step m at x)) (if_same l m (count_head p f e step) h) (alike_for_by f e step l m at (count_of S f e step l) h)

    -- ---- items

    alike_level : (x : ItemLayer) → ItemPart IsAlike x → AlikeStmt (item_by U (item_parts U x)) (item_by V (item_parts V x))
    alike_level (BlockItem-F.Declare ds) h = record { emit = λ last. alike_declare ds; breaks = refl; continues = refl; returns = refl; assigned = refl; locals = refl; callees = declared_same ds }
    alike_level (BlockItem-F.«BlockItem::Act» s) h = record { emit = h.emit; breaks = h.breaks; continues = h.continues; returns = h.returns; assigned = h.assigned; locals = h.locals; callees = h.callees }

    alike_item : (b : BlockItem) → ItemPart IsAlike (out-BlockItem b) → AlikeStmt (lowered_item U b) (lowered_item V b)
    alike_item b h = subst (λ l. AlikeStmt l (lowered_item V b)) (item_level U b) (subst (λ m. AlikeStmt (item_by U (item_parts U (out-BlockItem b))) m) (item_level V b) (alike_level (out-BlockItem b) h))

    record AlikeList (ls ms : List LoweredStmt) : Type 0 where
      pub emit : (last : Position) → Alike (each_item last ls) (each_item last ms)
      pub breaks : any_of (λ x. x.breaks) ls ≡ any_of (λ x. x.breaks) ms
      pub continues : any_of (λ x. x.continues) ls ≡ any_of (λ x. x.continues) ms
      pub returns : any_of (λ x. x.returns) ls ≡ any_of (λ x. x.returns) ms
      pub assigned : all_of (λ x. x.assigned) ls ≡ all_of (λ x. x.assigned) ms
      pub locals : all_of (λ x. x.locals) ls ≡ all_of (λ x. x.locals) ms
      pub callees : all_of (λ x. x.callees) ls ≡ all_of (λ x. x.callees) ms

    both_bools : (a b c d : Bool) → a ≡ c → b ≡ d → (a || b) ≡ (c || d)
    both_bools a b c d e f = ap (λ x. x || b) e ∙ ap (λ x. c || x) f

    alike_cons : (l m : LoweredStmt) (ls ms : List LoweredStmt) → AlikeStmt l m → AlikeList ls ms → ((last : Position) → Alike (each_item last (l ∷ ls)) (each_item last (m ∷ ms))) → AlikeList (l ∷ ls) (m ∷ ms)
    alike_cons l m ls ms h j emit = record {
      emit = emit;
      breaks = both_bools l.breaks _ m.breaks _ h.breaks j.breaks;
      continues = both_bools l.continues _ m.continues _ h.continues j.continues;
      returns = both_bools l.returns _ m.returns _ h.returns j.returns;
      assigned = both_lists l.assigned _ m.assigned _ h.assigned j.assigned;
      locals = both_lists l.locals _ m.locals _ h.locals j.locals;
      callees = both_lists l.callees _ m.callees _ h.callees j.callees;
    }

    alike_none : AlikeList [] []
    alike_none = record { emit = λ last c d e. e; breaks = refl; continues = refl; returns = refl; assigned = refl; locals = refl; callees = refl }

    alike_list : (bs : List BlockItem) → EachItem IsAlike bs → AlikeList (map (lowered_item U) bs) (map (lowered_item V) bs)
    alike_list [] h = alike_none
    alike_list (b ∷ []) h = let x = alike_item b h.0 in alike_cons (lowered_item U b) (lowered_item V b) [] [] x alike_none x.emit
    alike_list (b ∷ a ∷ bs) h =
        let x = alike_item b h.0 in
        let rest = alike_list (a ∷ bs) h.1 in
        alike_cons (lowered_item U b) (lowered_item V b) (map (lowered_item U) (a ∷ bs)) (map (lowered_item V) (a ∷ bs)) x rest
        (λ last c d e. rest.emit last ((lowered_item U b).emit Anywhere c).counts ((lowered_item V b).emit Anywhere d).counts (x.emit Anywhere c d e))

    -- ---- groups

    record AlikeGroup (g h : LoweredGroup) : Type 0 where
      pub labels : g.labels ≡ h.labels
      pub items : AlikeList g.items h.items

    alike_group : (g : Group) → EachItem IsAlike g.items → AlikeGroup (lowered_group U g) (lowered_group V g)
    alike_group g h =
        subst (λ l. AlikeGroup l (lowered_group V g)) (group_level U g) (subst (λ m. AlikeGroup (group_parts U g) m) (group_level V g) (record { labels = refl; items = alike_list g.items h }))

    abbrev AlikeGroups : List LoweredGroup → List LoweredGroup → Type 0
    AlikeGroups [] [] = ⊤
    AlikeGroups (g ∷ gs) (h ∷ hs) = AlikeGroup g h × AlikeGroups gs hs
    AlikeGroups _ _ = ⊥

    alike_groups_of : (gs : List Group) → EachGroup IsAlike gs → AlikeGroups (map (lowered_group U) gs) (map (lowered_group V) gs)
    alike_groups_of [] h = tt
    alike_groups_of (g ∷ gs) h = (alike_group g h.0, alike_groups_of gs h.1)

    alike_more : (v u found too : Operand) (ls : List Label) → Alike (more_labels v found ls) (more_labels u too ls)
    alike_more v u found too [] c d e = e
    alike_more v u found too (l ∷ ls) c d e = alike_more v u (one_more_label v found l c).value (one_more_label u too l d).value ls (one_more_label v found l c).counts (one_more_label u too l d).counts (omega (arith, e))

    alike_labels : (v u : Operand) (ls : List Label) → Alike (labels v ls) (labels u ls)
    alike_labels v u [] c d e = e
    alike_labels v u (l ∷ ls) c d e = alike_more v u (stmts.equals v l c).value (stmts.equals u l d).value ls (stmts.equals v l c).counts (stmts.equals u l d).counts (omega (arith, e))

    alike_labels_of : (v u : Operand) (ls ms : List Label) → ls ≡ ms → Alike (labels v ls) (labels u ms)
    alike_labels_of v u ls ms e = subst (λ l. Alike (labels v ls) (labels u l)) e (alike_labels v u ls)

    alike_default : (gs hs : List LoweredGroup) → AlikeGroups gs hs → Alike (default_items gs) (default_items hs)
    alike_default [] [] h c d e = e
    alike_default [] (y ∷ ys) h c d e = absurd h
    alike_default (x ∷ xs) [] h c d e = absurd h
    alike_default (x ∷ xs) (y ∷ ys) h c d e =
        temps.alike_if k (has_default x.labels) (has_default y.labels) (group_items x) (default_items xs) (group_items y) (default_items ys) (ap has_default h.0.labels) (h.0.items.emit LastOfGroup) (alike_default xs ys h.1) c d e

    alike_branch : (v u : Operand) (x y : LoweredGroup) (others rest : Emit (Unit {0})) (at : Place) → AlikeGroup x y → Alike others rest → Alike (group_branch v x others at) (group_branch u y rest at)
    alike_branch v u x y others rest at h j c d e =
        let a : Made Operand = labels v x.labels c in
        let b : Made Operand = labels u y.labels d in
        let c1 : Counts = record { op = a.counts.op + 1; temp = a.counts.temp } in
        let d1 : Counts = record { op = b.counts.op + 1; temp = b.counts.temp } in
        let m : Made (Unit {0}) = group_items x c1 in
        let n : Made (Unit {0}) = group_items y d1 in
        j (record { op = m.counts.op + 1; temp = m.counts.temp }) (record { op = n.counts.op + 1; temp = n.counts.temp })
        (h.items.emit LastOfGroup c1 d1 (alike_labels_of v u x.labels y.labels h.labels c d e))

    alike_groups : (v u : Operand) (gs hs : List LoweredGroup) (others rest : Emit (Unit {0})) (at : Place) → AlikeGroups gs hs → Alike others rest → Alike (groups_from v gs others at) (groups_from u hs rest at)
    alike_groups v u [] [] others rest at h j c d e = j c d e
    alike_groups v u [] (y ∷ ys) others rest at h j c d e = absurd h
    alike_groups v u (x ∷ xs) [] others rest at h j c d e = absurd h
    alike_groups v u (x ∷ xs) (y ∷ ys) others rest at h j c d e =
        temps.alike_if k (has_default x.labels) (has_default y.labels) (groups_from v xs others at) (group_branch v x (groups_from v xs others at) at) (groups_from u ys rest at) (group_branch u y (groups_from u ys rest at) at)
        (ap has_default h.0.labels) (alike_groups v u xs ys others rest at h.1 j) (alike_branch v u x y (groups_from v xs others at) (groups_from u ys rest at) at h.0 (alike_groups v u xs ys others rest at h.1 j)) c d e

    given_temp : (items : List Item) (d : Counts) → (give_switch items d).counts.temp ≡ d.temp
    given_temp [] d = refl
    given_temp (x ∷ xs) d = refl

    alike_switch : (e : Expr) (gs hs : List LoweredGroup) (at : Place) → AlikeGroups gs hs → Alike (switch_at S e gs at) (switch_at T e hs at)
    alike_switch e gs hs at h c d q =
        let m : Made Operand = full S e c in
        let n : Made Operand = full T e d in
        let v : Made Operand = make_of kind.Copy m.value zero_operand at m.counts in
        let u : Made Operand = make_of kind.Copy n.value zero_operand at n.counts in
        let x : Made (Unit {0}) = all_groups v.value gs at v.counts in
        let y : Made (Unit {0}) = all_groups u.value hs at u.counts in
        let t = alike_full e c d q in
        let r = alike_groups v.value u.value gs hs (default_items gs) (default_items hs) at h (alike_default gs hs h) v.counts u.counts (omega (arith, t)) in
        omega (arith, r, given_temp x.items x.counts, given_temp y.items y.counts)

    both_groups : (f : LoweredStmt → List ℕ) (gs hs : List LoweredGroup) → ((g h : LoweredGroup) → AlikeGroup g h → all_of f g.items ≡ all_of f h.items) → AlikeGroups gs hs → all_of_groups f gs ≡ all_of_groups f hs
    both_groups f [] [] j h = refl
    both_groups f [] (y ∷ ys) j h = absurd h
    both_groups f (x ∷ xs) [] j h = absurd h
    both_groups f (x ∷ xs) (y ∷ ys) j h = both_lists (all_of f x.items) (all_of_groups f xs) (all_of f y.items) (all_of_groups f ys) (j x y h.0) (both_groups f xs ys j h.1)

    any_groups : (f : LoweredStmt → Bool) (gs hs : List LoweredGroup) → ((g h : LoweredGroup) → AlikeGroup g h → any_of f g.items ≡ any_of f h.items) → AlikeGroups gs hs → any_of_groups f gs ≡ any_of_groups f hs
    any_groups f [] [] j h = refl
    any_groups f [] (y ∷ ys) j h = absurd h
    any_groups f (x ∷ xs) [] j h = absurd h
    any_groups f (x ∷ xs) (y ∷ ys) j h = both_bools (any_of f x.items) (any_of_groups f xs) (any_of f y.items) (any_of_groups f ys) (j x y h.0) (any_groups f xs ys j h.1)

    -- ---- every statement

    abbrev X : Stmt → LoweredStmt
    X s = lowered_stmt U s

    abbrev Y : Stmt → LoweredStmt
    Y s = lowered_stmt V s

    level : (x : StmtLayer) (at : Place) → StmtParts IsAlike x → AlikeStmt (lowered_by U (stmt_parts U x) at) (lowered_by V (stmt_parts V x) at)
    level (StmtKind-F.Block bs) at h =
        let l = alike_list bs h in record { emit = λ last. l.emit (last_position last); breaks = l.breaks; continues = l.continues; returns = l.returns; assigned = l.assigned; locals = l.locals; callees = l.callees }
    level StmtKind-F.Empty at h = record { emit = λ last c d e. e; breaks = refl; continues = refl; returns = refl; assigned = refl; locals = refl; callees = refl }
    level (StmtKind-F.«StmtKind::Act» a) at h = record { emit = λ last. alike_act a; breaks = refl; continues = refl; returns = refl; assigned = refl; locals = refl; callees = action_same a }
    level StmtKind-F.Break at h = record { emit = λ last. alike_break last at; breaks = refl; continues = refl; returns = refl; assigned = refl; locals = refl; callees = refl }
    level StmtKind-F.Continue at h = record { emit = λ last c d e. e; breaks = refl; continues = refl; returns = refl; assigned = refl; locals = refl; callees = refl }
    level (StmtKind-F.Return e) at h = record {
      emit = λ last. temps.alike_if k is_main is_main (return_main U e last at) (return_from U e last at) (return_main V e last at) (return_from V e last at) refl (alike_main e last at) (alike_from e last at);
      breaks = refl;
      continues = refl;
      returns = refl;
      assigned = refl;
      locals = refl;
      callees = opt_same e;
    }
    level (StmtKind-F.If e x None) at h = record {
      emit = λ last c d q. h.0.emit Anywhere (test S e at c).counts (test T e at d).counts (alike_test e at c d q);
      breaks = ap (λ b. b || false) h.0.breaks;
      continues = ap (λ b. b || false) h.0.continues;
      returns = ap (λ b. b || false) h.0.returns;
      assigned = ap (λ l. l ++ []) h.0.assigned;
      locals = ap (λ l. l ++ []) h.0.locals;
      callees = both_lists (expr_callees S e) _ (expr_callees T e) _ (callees_same e) (ap (λ l. l ++ []) h.0.callees);
    }
    level (StmtKind-F.If e x (Some y)) at h = record {
      emit = λ last c d q.
          let a : Made (Unit {0}) = (X x).emit Anywhere (test S e at c).counts in
          let b : Made (Unit {0}) = (Y x).emit Anywhere (test T e at d).counts in
          h.1.emit Anywhere (record { op = a.counts.op + 1; temp = a.counts.temp }) (record { op = b.counts.op + 1; temp = b.counts.temp }) (h.0.emit Anywhere (test S e at c).counts (test T e at d).counts (alike_test e at c d q));
      breaks = both_bools (X x).breaks (X y).breaks (Y x).breaks (Y y).breaks h.0.breaks h.1.breaks;
      continues = both_bools (X x).continues (X y).continues (Y x).continues (Y y).continues h.0.continues h.1.continues;
      returns = both_bools (X x).returns (X y).returns (Y x).returns (Y y).returns h.0.returns h.1.returns;
      assigned = both_lists (X x).assigned (X y).assigned (Y x).assigned (Y y).assigned h.0.assigned h.1.assigned;
      locals = both_lists (X x).locals (X y).locals (Y x).locals (Y y).locals h.0.locals h.1.locals;
      callees = both_lists (expr_callees S e) _ (expr_callees T e) _ (callees_same e) (both_lists (X x).callees (X y).callees (Y x).callees (Y y).callees h.0.callees h.1.callees);
    }
    level (StmtKind-F.While e body) at h = record {
      emit = λ last. alike_loop (test S e at) (test T e at) ((X body).emit Anywhere) ((Y body).emit Anywhere) nothing nothing None None at (alike_test e at) (h.emit Anywhere) (λ c d q. q);
      breaks = refl;
      continues = refl;
      returns = h.returns;
      assigned = h.assigned;
      locals = h.locals;
      callees = both_lists (expr_callees S e) (X body).callees (expr_callees T e) (Y body).callees (callees_same e) h.callees;
    }
    level (StmtKind-F.Do body e) at h = record {
      emit = λ last. alike_do (X body) (Y body) e at h;
      breaks = refl;
      continues = refl;
      returns = h.returns;
      assigned = h.assigned;
      locals = h.locals;
      callees = both_lists (X body).callees (expr_callees S e) (Y body).callees (expr_callees T e) h.callees (callees_same e);
    }
    level (StmtKind-F.For f e step body) at h = record {
      emit = λ last. alike_for f e step (X body) (Y body) at h;
      breaks = refl;
      continues = refl;
      returns = h.returns;
      assigned = ap (λ l. first_assigned f ++ (opt_assigned step ++ l)) h.assigned;
      locals = ap (λ l. first_locals f ++ l) h.locals;
      callees = both_lists (first_callees S f) _ (first_callees T f) _ (first_same f)
          (both_lists (opt_callees S e) _ (opt_callees T e) _ (opt_same e) (both_lists (opt_action_callees S step) (X body).callees (opt_action_callees T step) (Y body).callees (opt_action_same step) h.callees));
    }
    level (StmtKind-F.Switch e gs) at h =
        let g = alike_groups_of gs h in
        let us : List LoweredGroup = map (lowered_group U) gs in
        let vs : List LoweredGroup = map (lowered_group V) gs in
        record {
          emit = λ last. alike_switch e us vs at g;
          breaks = refl;
          continues = any_groups (λ x. x.continues) us vs (λ a b q. q.items.continues) g;
          returns = any_groups (λ x. x.returns) us vs (λ a b q. q.items.returns) g;
          assigned = both_groups (λ x. x.assigned) us vs (λ a b q. q.items.assigned) g;
          locals = both_groups (λ x. x.locals) us vs (λ a b q. q.items.locals) g;
          callees = both_lists (expr_callees S e) _ (expr_callees T e) _ (callees_same e) (both_groups (λ x. x.callees) us vs (λ a b q. q.items.callees) g);
        }

    pub alike_stmt : (s : Stmt) → IsAlike s
    alike_stmt = stmt_induction p IsAlike (λ s h. subst (λ l. AlikeStmt l (lowered_stmt V s)) (stmt_level U s) (subst (λ m. AlikeStmt (lowered_by U (stmt_parts U (out-StmtKind s.kind)) s.place) m) (stmt_level V s) (level (out-StmtKind s.kind) s.place h)))

    -- ---- a body

    alike_zero : (ty : Option Ty) (at : Place) → Alike (return_zero U ty at) (return_zero V ty at)
    alike_zero None at c d e = e
    alike_zero (Some ty) at c d e = e

    alike_implied : (f : Function) → Alike (implied U f) (implied V f)
    alike_implied f = temps.alike_if k is_main is_main (one (plain kind.Finish zero_operand f.end)) (implied_return U f) (one (plain kind.Finish zero_operand f.end)) (implied_return V f) refl (λ c d e. e) (alike_zero f.result f.end)

    pub alike_body : (f : Function) → Alike (body U f) (body V f)
    alike_body f c d e =
        temps.alike_if k (ends_by (out-StmtKind f.body.kind)) (ends_by (out-StmtKind f.body.kind)) nothing (implied U f) nothing (implied V f) refl (λ c d e. e) (alike_implied f)
        ((lowered_stmt U f.body).emit Body c).counts ((lowered_stmt V f.body).emit Body d).counts ((alike_stmt f.body).emit Body c d e)
