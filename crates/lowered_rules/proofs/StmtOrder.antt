-- Every statement numbers its operations upwards.
use Rattle.std.proofs.Common.{◌≡◌, ℕ, ◌+◌, ◌≤◌, Bool, false, Option, Some, None, List, [], ◌∷◌, refl, subst, arith}
use Rattle.std.specs.Prelude.{⊤, map, slice_get, is_none}
use Rattle.base_io.specs.declared.place.Place.{Place}
use Rattle.c_values.specs.declared.ops.Ty.{Ty}
use Rattle.c_values.specs.declared.ops.BinaryOp.{BinaryOp}
use Rattle.c_tree.specs.Nodes.{type_of, has_default}
use Rattle.c_tree.specs.declared.tree.Variable.{Variable}
use Rattle.c_tree.specs.declared.tree.Expr.{Expr}
use Rattle.c_tree.specs.declared.tree.Target.{Target}
use Rattle.c_tree.specs.declared.tree.Action.{Action}
use Rattle.c_tree.specs.declared.tree.Action.TheVariants as action
use Rattle.c_tree.specs.declared.tree.Declared.{Declared}
use Rattle.c_tree.specs.declared.tree.ForFirst.{ForFirst}
use Rattle.c_tree.specs.declared.tree.ForFirst.TheVariants as first
use Rattle.c_tree.specs.declared.tree.Label.{Label}
use Rattle.c_tree.specs.declared.tree.Stmt.{Stmt}
use Rattle.c_tree.specs.declared.tree.StmtKind.{out-StmtKind}
use Rattle.c_tree.specs.declared.tree.Group.{Group}
use Rattle.c_tree.specs.declared.tree.BlockItem.{BlockItem, out-BlockItem}
use Rattle.c_tree.specs.declared.tree.BlockItem.TheOpen.{StmtKind-F, BlockItem-F}
use Rattle.c_tree.specs.Layer.{StmtLayer, ItemLayer}
use Rattle.flow_graph.specs.declared.graph.Operand.{Operand}
use Rattle.flow_graph.specs.declared.graph.Operand.TheVariants.{Const, Object}
use Rattle.flow_graph.specs.declared.graph.OpKind.TheVariants as kind
use Rattle.flow_graph.specs.declared.graph.ArrayUse.{ArrayUse}
use Rattle.flow_graph.specs.declared.graph.LeaveTo.TheVariants.{Break, Continue, Back}
use Rattle.flow_graph.specs.declared.graph.Op.{Op}
use Rattle.flow_graph.specs.declared.graph.Item.{Item}
use Rattle.lowered_graphs.specs.declared.loops.Count.{Count}
use Rattle.lowered_graphs.specs.declared.positions.Position.{Position}
use Rattle.lowered_graphs.specs.declared.positions.Position.TheVariants.{Anywhere, LastOfGroup, Body, LastOfBody}
use Rattle.lowered_graphs.specs.Making.{Counts, Made, Emit, made_on, nothing, one, numbered, leave, op_of, make_of, go, plain, test_of, zero_operand, copy_into, store_into}
use Rattle.lowered_graphs.specs.Operators.{make_binary, make_conversion}
use Rattle.lowered_graphs.specs.Exprs.{Setting, home, result_home, array_use, lowered, full, calls}
use Rattle.lowered_graphs.specs.Counted.{turns}
use Rattle.lowered_graphs.specs.Stmts.{Within, LoweredStmt, LoweredGroup, calls_in, index_of, store_to, load_from, right_side, assign, finish_update, update, act, act_opt, zero_each, zero_array, fill_one, fill, declare_scalar, declare_array, declare_one, declare, each_item, last_position, break_at, return_op, return_main, return_from, return_at, test, test_opt, no_arm, yes_arm, if_at, loop_at, do_step, do_at, counted_turns, first_of, for_loop, for_by, count_of, label_word, equals, one_more_label, more_labels, labels, group_items, default_items, group_branch, groups_from, all_groups, give_switch, switch_at, lowered_by, item_by, stmt_parts, item_parts, lowered_stmt, lowered_item, lowered_group}
use Rattle.lowered_graphs.proofs.StmtLevels.{stmt_level, item_level, group_level}
use Rattle.lowered_rules.proofs.Inductions.{EachItem, EachGroup, ItemPart, StmtParts, stmt_induction}
use Rattle.lowered_rules.proofs.ListedLemmas.{Listed, listed_append, listed_one, listed_switch}
use Rattle.lowered_rules.proofs.OrderLemmas.{InOrder, Orderly, Numbers, TestOrder, next, orderly_on, orderly_pure, orderly_if, orderly_one, orderly_leave, orderly_make, order_branch, order_loop, order_tested, test_numbered, test_on}
use Rattle.lowered_rules.proofs.ExprOrder.{orderly_expr, orderly_binary, orderly_conversion, orderly_read, orderly_load}

abbrev pub OrderlyStmt : LoweredStmt → Type 0
OrderlyStmt l = (last : Position) → Orderly (l.emit last)

orderly_nothing : Orderly nothing
orderly_nothing = orderly_pure tt

orderly_copy_into : (o : ℕ) (a : Operand) (at : Place) → Orderly (copy_into o a at)
orderly_copy_into o a at = orderly_one _ (λ n. refl)

orderly_store_into : (array : ArrayUse) (a i : Operand) (at : Place) → Orderly (store_into array a i at)
orderly_store_into array a i at = orderly_one _ (λ n. refl)

-- ---- actions

module _ (s : Setting) where
  pub orderly_full : (e : Expr) → Orderly (full s e)
  orderly_full e = orderly_expr s e false

  pub orderly_index : (i : Option Expr) (later : Bool) → Orderly (index_of s i later)
  orderly_index None later = orderly_pure zero_operand
  orderly_index (Some e) later = orderly_expr s e later

  pub orderly_store : (to : Target) (i a : Operand) → Orderly (store_to s to i a)
  orderly_store to i a = orderly_if (is_none to.index) _ _ (orderly_copy_into (home s to.variable) a to.place) (orderly_store_into (array_use s to.variable) a i to.place)

  pub orderly_load_from : (to : Target) (i : Operand) (later : Bool) → Orderly (load_from s to i later)
  orderly_load_from to i later = orderly_if (is_none to.index) _ _ (orderly_read s to.variable to.place later) (orderly_load s to.variable i to.place)

  pub orderly_right : (e : Option Expr) → Orderly (right_side s e)
  orderly_right None = orderly_pure (Const 1)
  orderly_right (Some e) = orderly_full e

  orderly_assign : (to : Target) (e : Expr) → Orderly (assign s to e)
  orderly_assign to e = orderly_on (index_of s to.index (calls (lowered s e))) (λ i c. made_on (full s e c) (λ a. store_to s to i a)) (orderly_index to.index (calls (lowered s e))) (λ i.
      orderly_on (full s e) (λ a. store_to s to i a) (orderly_full e) (λ a. orderly_store to i a))

  pub orderly_finish : (to : Target) (at : Place) (op : BinaryOp) (ty : Ty) (i x y : Operand) → Orderly (finish_update s to at op ty i x y)
  orderly_finish to at op ty i x y = orderly_on (make_binary op ty x y at) _ (orderly_binary op ty x y at) (λ w.
      orderly_on (make_conversion (type_of s.program to.variable) ty w at) (λ v. store_to s to i v) (orderly_conversion (type_of s.program to.variable) ty w at) (λ v. orderly_store to i v))

  orderly_update : (to : Target) (at : Place) (op : BinaryOp) (ty : Ty) (by : Option Expr) → Orderly (update s to at op ty by)
  orderly_update to at op ty by = orderly_on (index_of s to.index (calls_in s by)) _ (orderly_index to.index (calls_in s by)) (λ i.
      orderly_on (load_from s to i (calls_in s by)) _ (orderly_load_from to i (calls_in s by)) (λ w.
      orderly_on (make_conversion ty (type_of s.program to.variable) w at) _ (orderly_conversion ty (type_of s.program to.variable) w at) (λ x.
      orderly_on (right_side s by) (λ y. finish_update s to at op ty i x y) (orderly_right by) (λ y. orderly_finish to at op ty i x y))))

  pub orderly_act : (a : Action) → Orderly (act s a)
  orderly_act (action.Value e) = orderly_on (full s e) (λ _. nothing) (orderly_full e) (λ _. orderly_nothing)
  orderly_act (action.Assign to e) = orderly_assign to e
  orderly_act (action.Update to at op ty by) = orderly_update to at op ty by

  pub orderly_act_opt : (a : Option Action) → Orderly (act_opt s a)
  orderly_act_opt None = orderly_nothing
  orderly_act_opt (Some a) = orderly_act a

  -- ---- declarations

  pub orderly_zero_each : (array : ArrayUse) (t : ℕ) (at : Place) → Orderly (zero_each array t at)
  orderly_zero_each array t at c =
      let pre : Made Op = numbered (op_of kind.Below None (Object t) (Const array.length) None at) c in
      let post : Made (Unit {0}) = store_into array zero_operand (Object t) at pre.counts in
      let step : Made (Unit {0}) = one (op_of kind.Step (Some t) (Object t) zero_operand None at) post.counts in
      order_loop c pre post step (Some array.length) (go at step.counts.op) tt (test_numbered (op_of kind.Below None (Object t) (Const array.length) None at) (λ n. refl) c) (orderly_store_into array zero_operand (Object t) at pre.counts) (orderly_one (op_of kind.Step (Some t) (Object t) zero_operand None at) (λ n. refl) post.counts) refl

  pub orderly_zero_array : (array : ArrayUse) (at : Place) → Orderly (zero_array array at)
  orderly_zero_array array at c =
      let z = orderly_zero_each array c.temp at (record { op = c.op + 1; temp = c.temp + 1 }) in record {
        listed = listed_append c.op (c.op + 1) _ (_ ∷ []) _ (listed_one c.op _ refl) z.listed;
        temps = omega (arith, z.temps);
        pace = omega (arith, z.pace);
      }

  pub orderly_fill_one : (array : ArrayUse) (k : ℕ) (e : Expr) (at : Place) → Orderly (fill_one s array k e at)
  orderly_fill_one array k e at = orderly_on (full s e) (λ a. store_into array a (Const k) at) (orderly_full e) (λ a. orderly_store_into array a (Const k) at)

  pub orderly_fill : (array : ArrayUse) (k : ℕ) (es : List Expr) (at : Place) → Orderly (fill s array k es at)
  orderly_fill array k [] at = orderly_nothing
  orderly_fill array k (e ∷ es) at = orderly_on (fill_one s array k e at) (λ _. fill s array (k + 1) es at) (orderly_fill_one array k e at) (λ _. orderly_fill array (k + 1) es at)

  pub orderly_scalar : (x : ℕ) (es : List Expr) (at : Place) → Orderly (declare_scalar s x es at)
  orderly_scalar x [] at = orderly_copy_into (home s x) zero_operand at
  orderly_scalar x (e ∷ es) at = orderly_on (full s e) (λ a. copy_into (home s x) a at) (orderly_full e) (λ a. orderly_copy_into (home s x) a at)

  pub orderly_array : (x : ℕ) (es : List Expr) (at : Place) → Orderly (declare_array s x es at)
  orderly_array x es at = orderly_on (zero_array (array_use s x) at) (λ _. fill s (array_use s x) 0 es at) (orderly_zero_array (array_use s x) at) (λ _. orderly_fill (array_use s x) 0 es at)

  pub orderly_declare_one : (v : Option Variable) (d : Declared) → Orderly (declare_one s v d)
  orderly_declare_one None d = orderly_nothing
  orderly_declare_one (Some v) d = orderly_if (is_none v.length) _ _ (orderly_scalar d.variable d.values d.place) (orderly_array d.variable d.values d.place)

  pub orderly_declare : (ds : List Declared) → Orderly (declare s ds)
  orderly_declare [] = orderly_nothing
  orderly_declare (d ∷ ds) =
      orderly_on (declare_one s (slice_get s.program.variables d.variable) d) (λ _. declare s ds) (orderly_declare_one (slice_get s.program.variables d.variable) d) (λ _. orderly_declare ds)

-- ---- one item after another

abbrev pub OrderlyAll : List LoweredStmt → Type 0
OrderlyAll [] = ⊤
OrderlyAll (x ∷ xs) = OrderlyStmt x × OrderlyAll xs

pub orderly_each : (last : Position) (xs : List LoweredStmt) → OrderlyAll xs → Orderly (each_item last xs)
orderly_each last [] h = orderly_nothing
orderly_each last (x ∷ []) h = h.0 last
orderly_each last (x ∷ y ∷ rest) h = orderly_on (x.emit Anywhere) (λ _. each_item last (y ∷ rest)) (h.0 Anywhere) (λ _. orderly_each last (y ∷ rest) h.1)

-- ---- leaves and returns

orderly_break : (last : Position) (at : Place) → Orderly (break_at last at)
orderly_break LastOfGroup at = orderly_nothing
orderly_break Anywhere at = orderly_leave Break (go at) (λ n. refl)
orderly_break Body at = orderly_leave Break (go at) (λ n. refl)
orderly_break LastOfBody at = orderly_leave Break (go at) (λ n. refl)

pub orderly_return_op : (last : Position) (f : ℕ → Op) → Numbers f → Orderly (return_op last f)
orderly_return_op LastOfBody f e = orderly_one f e
orderly_return_op Anywhere f e = orderly_leave Back f e
orderly_return_op LastOfGroup f e = orderly_leave Back f e
orderly_return_op Body f e = orderly_leave Back f e

module _ (w : Within) where
  orderly_return_main : (e : Option Expr) (last : Position) (at : Place) → Orderly (return_main w e last at)
  orderly_return_main None last at = orderly_return_op last _ (λ n. refl)
  orderly_return_main (Some e) last at = orderly_on (full w.setting e) (λ a. return_op last (plain kind.Finish a at)) (orderly_full w.setting e) (λ a. orderly_return_op last (plain kind.Finish a at) (λ n. refl))

  orderly_return_from : (e : Option Expr) (last : Position) (at : Place) → Orderly (return_from w e last at)
  orderly_return_from None last at = orderly_return_op last _ (λ n. refl)
  orderly_return_from (Some e) last at = orderly_on (full w.setting e) _ (orderly_full w.setting e) (λ a.
      orderly_on (copy_into (result_home w.setting w.function) a at) (λ _. return_op last (plain kind.Ret zero_operand at)) (orderly_copy_into _ a at) (λ _. orderly_return_op last _ (λ n. refl)))

  orderly_return : (e : Option Expr) (last : Position) (at : Place) → Orderly (return_at w e last at)
  orderly_return e last at = orderly_if w.is_main _ _ (orderly_return_main e last at) (orderly_return_from e last at)

-- ---- branches and loops

-- a part that gives the test
abbrev Testing : Emit Op → Type 0
Testing e = (c : Counts) → TestOrder c (e c)

module _ (s : Setting) where
  pub testing : (e : Expr) (at : Place) → Testing (test s e at)
  testing e at c = test_on c (full s e c) (numbered (test_of (full s e c).value at) (full s e c).counts) (orderly_full s e c) (test_numbered (test_of (full s e c).value at) (λ n. refl) (full s e c).counts)

  pub testing_opt : (e : Option Expr) (at : Place) → Testing (test_opt s e at)
  testing_opt None at = test_numbered (test_of (Const 1) at) (λ n. refl)
  testing_opt (Some e) at = testing e at

  pub orderly_no : (y : Option LoweredStmt) → ((l : LoweredStmt) → y ≡ Some l → OrderlyStmt l) → Orderly (no_arm y)
  orderly_no None h = orderly_nothing
  orderly_no (Some y) h = h y refl Anywhere

  pub orderly_yes : (x : LoweredStmt) (y : Option LoweredStmt) (at : Place) → OrderlyStmt x → Orderly (yes_arm x y at)
  orderly_yes x None at h = h Anywhere
  orderly_yes x (Some y) at h = orderly_on (x.emit Anywhere) (λ _. one (go at)) (h Anywhere) (λ _. orderly_one (go at) (λ n. refl))

  orderly_if_at : (c : Expr) (x : LoweredStmt) (y : Option LoweredStmt) (at : Place) → OrderlyStmt x → ((l : LoweredStmt) → y ≡ Some l → OrderlyStmt l) → Orderly (if_at s c x y at)
  orderly_if_at c x y at hx hy k =
      let t : Made Op = test s c at k in
      let a : Made (Unit {0}) = yes_arm x y at t.counts in
      order_tested k t a (no_arm y a.counts) tt (testing c at k) (orderly_yes x y at hx t.counts) (orderly_no y hy a.counts)

  orderly_loop : (pre : Emit Op) (post step : Emit (Unit {0})) (count : Option ℕ) (at : Place) → Testing pre → Orderly post → Orderly step → Orderly (loop_at pre post step count at)
  orderly_loop pre post step count at hp ho hs c =
      let t : Made Op = pre c in
      let b : Made (Unit {0}) = post t.counts in
      let on : Made (Unit {0}) = step b.counts in
      order_loop c t b on count (go at on.counts.op) tt (hp c) (ho t.counts) (hs b.counts) refl

  orderly_do_step : (c : Expr) (at : Place) → Orderly (do_step s c at)
  orderly_do_step c at k =
      let t : Made Op = test s c at k in
      let a : Made (Unit {0}) = one (go at) t.counts in
      order_tested k t a (leave Break (go at) a.counts) tt (testing c at k) (orderly_one (go at) (λ n. refl) t.counts) (orderly_leave Break (go at) (λ n. refl) a.counts)

  orderly_do : (body : LoweredStmt) (c : Expr) (at : Place) → OrderlyStmt body → Orderly (do_at s body c at)
  orderly_do body c at h = orderly_if body.continues _ _
      (orderly_loop (numbered (test_of (Const 1) at)) (body.emit Anywhere) (do_step s c at) None at (test_numbered (test_of (Const 1) at) (λ n. refl)) (h Anywhere) (orderly_do_step c at))
      (orderly_loop (λ k. made_on (body.emit Anywhere k) (λ _. test s c at)) nothing nothing None at
      (λ k. test_on k (body.emit Anywhere k) (test s c at (body.emit Anywhere k).counts) (h Anywhere k) (testing c at (body.emit Anywhere k).counts)) orderly_nothing orderly_nothing)

  pub orderly_first : (f : Option ForFirst) → Orderly (first_of s f)
  orderly_first None = orderly_nothing
  orderly_first (Some (first.Declare ds)) = orderly_declare s ds
  orderly_first (Some (first.Act a)) = orderly_act s a

  orderly_turns : (count : Count) (body : LoweredStmt) (at : Place) → OrderlyStmt body → Orderly (counted_turns s count body at)
  orderly_turns count body at h =
      let below : ℕ → Op = op_of kind.Below None (Object (home s count.variable)) (Const count.to) None at in
      let step : ℕ → Op = op_of kind.Step (Some (home s count.variable)) (Object (home s count.variable)) zero_operand None at in
      orderly_loop (numbered below) (body.emit Anywhere) (one step) (Some (turns count)) at (test_numbered below (λ n. refl)) (h Anywhere) (orderly_one step (λ n. refl))

  orderly_for_by : (f : Option ForFirst) (c : Option Expr) (step : Option Action) (body : LoweredStmt) (at : Place) (count : Option Count) → OrderlyStmt body → Orderly (for_by s f c step body at count)
  orderly_for_by f c step body at None h = orderly_on (first_of s f) (λ _. for_loop s c step body at) (orderly_first f) (λ _.
      orderly_loop (test_opt s c at) (body.emit Anywhere) (act_opt s step) None at (testing_opt c at) (h Anywhere) (orderly_act_opt s step))
  orderly_for_by f c step body at (Some count) h =
      orderly_on (copy_into (home s count.variable) (Const count.from) count.place) (λ _. counted_turns s count body at) (orderly_copy_into _ _ _) (λ _. orderly_turns count body at h)

-- ---- switch

orderly_equals : (v : Operand) (l : Label) → Orderly (equals v l)
orderly_equals v l = orderly_make kind.Eq v (Const (label_word l.value)) None l.place

pub orderly_one_more : (v found : Operand) (l : Label) → Orderly (one_more_label v found l)
orderly_one_more v found l = orderly_on (equals v l) (λ t. make_of kind.BitOr found t l.place) (orderly_equals v l) (λ t. orderly_make kind.BitOr found t None l.place)

pub orderly_more : (v found : Operand) (ls : List Label) → Orderly (more_labels v found ls)
orderly_more v found [] = orderly_pure found
orderly_more v found (l ∷ ls) = orderly_on (one_more_label v found l) (λ too. more_labels v too ls) (orderly_one_more v found l) (λ too. orderly_more v too ls)

pub orderly_labels : (v : Operand) (ls : List Label) → Orderly (labels v ls)
orderly_labels v [] = orderly_pure zero_operand
orderly_labels v (l ∷ ls) = orderly_on (equals v l) (λ t. more_labels v t ls) (orderly_equals v l) (λ t. orderly_more v t ls)

abbrev pub OrderlyGroups : List LoweredGroup → Type 0
OrderlyGroups [] = ⊤
OrderlyGroups (g ∷ gs) = OrderlyAll g.items × OrderlyGroups gs

pub orderly_group : (g : LoweredGroup) → OrderlyAll g.items → Orderly (group_items g)
orderly_group g h = orderly_each LastOfGroup g.items h

pub orderly_default : (gs : List LoweredGroup) → OrderlyGroups gs → Orderly (default_items gs)
orderly_default [] h = orderly_nothing
orderly_default (g ∷ gs) h = orderly_if (has_default g.labels) _ _ (orderly_group g h.0) (orderly_default gs h.1)

orderly_group_branch : (v : Operand) (g : LoweredGroup) (others : Emit (Unit {0})) (at : Place) → OrderlyAll g.items → Orderly others → Orderly (group_branch v g others at)
orderly_group_branch v g others at h k = orderly_on (labels v g.labels) _ (orderly_labels v g.labels) (λ a c.
    let x : Made (Unit {0}) = made_on (group_items g (next c)) (λ _. one (go at)) in
    order_branch c (test_of a at c.op) x (others x.counts) tt refl (orderly_on (group_items g) (λ _. one (go at)) (orderly_group g h) (λ _. orderly_one (go at) (λ n. refl)) (next c)) (k x.counts))

pub orderly_groups : (v : Operand) (gs : List LoweredGroup) (others : Emit (Unit {0})) (at : Place) → OrderlyGroups gs → Orderly others → Orderly (groups_from v gs others at)
orderly_groups v [] others at h k = k
orderly_groups v (g ∷ gs) others at h k = orderly_if (has_default g.labels) _ _ (orderly_groups v gs others at h.1 k) (orderly_group_branch v g (groups_from v gs others at) at h.0 (orderly_groups v gs others at h.1 k))

order_give : (c d : Counts) (items : List Item) → Listed c.op d.op items → c.temp ≤ d.temp → d.temp + c.op ≤ c.temp + d.op → InOrder c (give_switch items d)
order_give c d [] h temps pace = record { listed = h; temps = temps; pace = pace }
order_give c d (x ∷ xs) h temps pace = record { listed = listed_switch c.op d.op (x ∷ xs) h; temps = temps; pace = pace }

orderly_switch : (s : Setting) (e : Expr) (gs : List LoweredGroup) (at : Place) → OrderlyGroups gs → Orderly (switch_at s e gs at)
orderly_switch s e gs at h = orderly_on (full s e) _ (orderly_full s e) (λ a. orderly_on (make_of kind.Copy a zero_operand at) _ (orderly_make kind.Copy a zero_operand None at) (λ v c.
    let m : Made (Unit {0}) = all_groups v gs at c in
    let o = orderly_groups v gs (default_items gs) at h (orderly_default gs h) c in order_give c m.counts m.items o.listed o.temps o.pace))

-- ---- every statement

module _ (w : Within) where
  abbrev IsOrderly : Stmt → Type 0
  IsOrderly s = OrderlyStmt (lowered_stmt w s)

  item_layer : (x : ItemLayer) → ItemPart IsOrderly x → OrderlyStmt (item_by w (item_parts w x))
  item_layer (BlockItem-F.Declare ds) h last = orderly_declare w.setting ds
  item_layer (BlockItem-F.«BlockItem::Act» s) h last = h last

  items : (bs : List BlockItem) → EachItem IsOrderly bs → OrderlyAll (map (lowered_item w) bs)
  items [] h = tt
  items (b ∷ bs) h = (subst OrderlyStmt (item_level w b) (item_layer (out-BlockItem b) h.0), items bs h.1)

  groups : (gs : List Group) → EachGroup IsOrderly gs → OrderlyGroups (map (lowered_group w) gs)
  groups [] h = tt
  groups (g ∷ gs) h = (subst (λ (l : LoweredGroup). OrderlyAll l.items) (group_level w g) (items g.items h.0), groups gs h.1)

  level : (x : StmtLayer) (at : Place) → StmtParts IsOrderly x → OrderlyStmt (lowered_by w (stmt_parts w x) at)
  level (StmtKind-F.Block bs) at h last = orderly_each (last_position last) (map (lowered_item w) bs) (items bs h)
  level StmtKind-F.Empty at h last = orderly_nothing
  level (StmtKind-F.«StmtKind::Act» a) at h last = orderly_act w.setting a
  level StmtKind-F.Break at h last = orderly_break last at
  level StmtKind-F.Continue at h last = orderly_leave Continue (go at) (λ n. refl)
  level (StmtKind-F.Return e) at h last = orderly_return w e last at
  level (StmtKind-F.If c x None) at h last = orderly_if_at w.setting c (lowered_stmt w x) None at h.0 (λ l e. absurd (cc))
  level (StmtKind-F.If c x (Some y)) at h last = orderly_if_at w.setting c (lowered_stmt w x) (Some (lowered_stmt w y)) at h.0 (λ l e. let same : lowered_stmt w y ≡ l = cc in subst OrderlyStmt same h.1)
  level (StmtKind-F.While c body) at h last = orderly_loop w.setting (test w.setting c at) ((lowered_stmt w body).emit Anywhere) nothing None at (testing w.setting c at) (h Anywhere) orderly_nothing
  level (StmtKind-F.Do body c) at h last = orderly_do w.setting (lowered_stmt w body) c at h
  level (StmtKind-F.For f c step body) at h last = orderly_for_by w.setting f c step (lowered_stmt w body) at (count_of w.setting f c step (lowered_stmt w body)) h
  level (StmtKind-F.Switch e gs) at h last = orderly_switch w.setting e (map (lowered_group w) gs) at (groups gs h)

  pub orderly_stmt : (s : Stmt) → OrderlyStmt (lowered_stmt w s)
  orderly_stmt = stmt_induction w.setting.program IsOrderly (λ s h. subst OrderlyStmt (stmt_level w s) (level (out-StmtKind s.kind) s.place h))

  pub orderly_item : (b : BlockItem) → OrderlyStmt (lowered_item w b)
  orderly_item b = subst OrderlyStmt (item_level w b) (by_layer (out-BlockItem b))
    where
      by_layer : (x : ItemLayer) → OrderlyStmt (item_by w (item_parts w x))
      by_layer (BlockItem-F.Declare ds) last = orderly_declare w.setting ds
      by_layer (BlockItem-F.«BlockItem::Act» s) last = orderly_stmt s last
