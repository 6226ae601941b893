-- A level of a statement, from what its parts do.
use Rattle.std.proofs.Common.{◌≡◌, ℕ, zero, suc, ◌+◌, ◌≤◌, Bool, true, false, Option, Some, None, List, [], ◌∷◌, refl, sym, ap, ◌∙◌, subst, arith}
use Rattle.std.specs.Prelude.{if◌then◌else◌, map}
use Rattle.std.specs.Option.{option_map}
use Rattle.base_io.specs.declared.place.Place.{Place}
use Rattle.c_tree.specs.declared.tree.Expr.{Expr}
use Rattle.c_tree.specs.declared.tree.Group.{Group}
use Rattle.c_tree.specs.declared.tree.Stmt.{Stmt}
use Rattle.c_tree.specs.declared.tree.StmtKind.{out-StmtKind}
use Rattle.c_tree.specs.declared.tree.BlockItem.{BlockItem, out-BlockItem}
use Rattle.c_tree.specs.declared.tree.BlockItem.TheOpen.{StmtKind-F, BlockItem-F}
use Rattle.c_tree.specs.declared.leaving.Leaving.{Leaving}
use Rattle.c_tree.specs.declared.tree.Program.{Program}
use Rattle.c_tree.specs.Layer.{StmtLayer, ItemLayer}
use Rattle.c_tree.specs.Runs.{State, Done, Part, begin, skip, ◌>>=◌, ◌>>◌}
use Rattle.c_tree.specs.Nodes as meaning
use Rattle.c_tree.specs.Nodes.{to_depth, act_by, act_opt, declare_each, first_by, item_by, items_by, stmt_by, turn_by, next_turn, value_or}
use Rattle.sound_programs.specs.Counted.{expr_nodes, opt_nodes, declared_nodes, stmt_nodes, item_nodes, group_nodes, sum_of, or_none, item_nodes_by, counted_item}
use Rattle.sound_programs.proofs.CountLevels as count
use Rattle.flow_graph.specs.declared.graph.Graph.{Graph}
use Rattle.flow_graph.specs.declared.graph.Op.{Op}
use Rattle.flow_graph.specs.declared.graph.Operand.TheVariants.{Const}
use Rattle.flow_graph.specs.Flow.{Spot}
use Rattle.lowered_graphs.specs.Making.{Emit, Counts, nothing, made_on, numbered, test_of, plain, zero_operand}
use Rattle.flow_graph.specs.declared.graph.OpKind.TheVariants as kind
use Rattle.lowered_graphs.specs.Exprs.{Setting, full, lowered, calls}
use Rattle.lowered_graphs.specs.Stmts as lower
use Rattle.lowered_graphs.specs.Stmts.{LoweredStmt, LoweredGroup, each_item, act, declare, emit_by, lowered_stmt, lowered_item, lowered_group, stmt_parts, item_parts, group_parts, last_position, loop_at, test, do_step, return_op, break_at}
use Rattle.lowered_graphs.specs.declared.positions.Position.{Position}
use Rattle.lowered_graphs.specs.declared.positions.Position.TheVariants.{Anywhere, LastOfGroup, Body, LastOfBody}
use Rattle.lowered_graphs.proofs.StmtLevels.{item_level, group_level}
use Rattle.lowered_meaning.specs.Keeps.{Ground, OwnsTemporaries, HasHomes}
use Rattle.lowered_meaning.specs.Leaves.{Callee, Since, ActTracks, Upwards}
use Rattle.lowered_meaning.proofs.RunLemmas.{runs_done, runs_weaker}
use Rattle.lowered_meaning.proofs.SinceLemmas.{since_start}
use Rattle.lowered_meaning.proofs.AssignActions.{OptOk}
use Rattle.lowered_meaning.proofs.IfLemmas.{StmtLevel, ListTracks, ItemPays, stmt_pays, declared_pays, list_none, list_one, list_more, block_level, if_alone, if_both}
use Rattle.lowered_meaning.proofs.CallsBodies.{OnDone}
use Rattle.lowered_meaning.proofs.ReturnLemmas.{within, ReturnFits, return_level}
use Rattle.lowered_meaning.proofs.DoLoops.{LoopTracks, IsNotContinued, loop_level, no_turns, test_turns, do_loop, do_loop_by_step}
use Rattle.lowered_meaning.proofs.SwitchGroups.{GroupsOk, groups_nodes, grouped, switch_level, switched_up}
use Rattle.lowered_meaning.proofs.StmtInduction.{Behind, behind_wider, ExprOks, OptOks, OptStmt, ItemOk, ItemScope, ItemsOk, GroupsOks, StmtOk, Good}

-- ---- what is counted upwards

pub loop_up : (pre : Emit Op) (post step : Emit (Unit {0})) (turns : Option ℕ) (at : Place) → ((c : Counts) → c.temp ≤ (pre c).counts.temp) → Upwards post → Upwards step → Upwards (loop_at pre post step turns at)
loop_up pre post step turns at h i k c = omega (arith, h c, i (pre c).counts, k (post (pre c).counts).counts)

pub return_up : (last : Position) (op : ℕ → Op) (c : Counts) → c.temp ≤ (return_op last op c).counts.temp
return_up Anywhere op c = omega arith
return_up LastOfGroup op c = omega arith
return_up Body op c = omega arith
return_up LastOfBody op c = omega arith

pub break_up : (last : Position) (at : Place) → Upwards (break_at last at)
break_up Anywhere at c = omega arith
break_up LastOfGroup at c = omega arith
break_up Body at c = omega arith
break_up LastOfBody at c = omega arith

-- nothing at all
pub nothing_acts : (g : Graph) (w : Ground) (scope : ℕ → Type 0) (most : ℕ) → ActTracks g w scope scope most 0 skip nothing
nothing_acts g w scope most c le top k s d a o agrees ready stand at =
    runs_weaker g most a a o o (a + 0) a o o (Done [] (tt {0}) d) s goal goal (omega arith) (omega arith) (omega arith) (omega arith) (λ u e z r. r)
    (runs_done g most a o (tt {0}) d s goal (at, since_start w scope s d agrees ready))
  where
    goal : Unit {0} → State → Spot → Type 0
    goal u e z = (z.at ≡ k.behind) × Since w scope s d e z

module _ (g : Graph) (f : Callee) (most : ℕ) (owns : OwnsTemporaries f.ground) where
  abbrev w : Ground
  w = f.ground

  abbrev p : Program
  p = f.ground.setting.program

  abbrev s : Setting
  s = f.ground.setting

  abbrev D : ℕ → meaning.Within
  D j = to_depth p j

  abbrev W : lower.Within
  W = within f

  -- a level behind its step
  pub record LevelGood (scope : ℕ → Type 0) (n : ℕ) (part : ℕ → Part Leaving) (emit : Position → Emit (Unit {0})) : Type 0 where
    pub up : (last : Position) → Upwards (emit last)
    pub level : (last : Position) (i : ℕ) → StmtLevel g f scope most n last (part i) (emit last)

  pub level_more : (scope : ℕ → Type 0) (n m : ℕ) (last : Position) (part : Part Leaving) (emit : Emit (Unit {0})) → n ≡ m → StmtLevel g f scope most n last part emit → StmtLevel g f scope most m last part emit
  level_more scope n m last part emit e h = subst (λ k. StmtLevel g f scope most k last part emit) e h

  expr_up : (scope : ℕ → Type 0) (e : Expr) → ExprOks g f most scope e → (c : Counts) → c.temp ≤ (full s e c).counts.temp
  expr_up scope e ok c = (ok 0 false).grows c

  -- the turns of a loop, at every depth
  pub turns_all : (scope : ℕ → Type 0) (x : Stmt) (n : ℕ) (last : Position) (emit : Emit (Unit {0})) (l : StmtLayer) → out-StmtKind x.kind ≡ l
      → ((i : ℕ) → LoopTracks g f scope most n last ((D i).turns x) emit → LoopTracks g f scope most n last (begin >> (turn_by p (D i) l >>= next_turn ((D i).turns x))) emit)
      → (j : ℕ) → LoopTracks g f scope most n last ((D j).turns x) emit
  unfolding to_depth
  turns_all scope x n last emit l q h zero = no_turns g f scope most n last emit
  turns_all scope x n last emit l q h (suc i) =
      subst (λ t. LoopTracks g f scope most n last (begin >> (turn_by p (D i) t >>= next_turn ((D i).turns x))) emit) (sym q) (h i (turns_all scope x n last emit l q h i))

  module _ (m : ℕ) (ih : (scope : ℕ → Type 0) (x : Stmt) → stmt_nodes p x ≤ m → StmtOk g f most m scope x → Good g f most scope x) where
    abbrev R : (ℕ → Type 0) → Stmt → Type 0
    R = StmtOk g f most m

    -- ---- items

    record ItemGood (scope : ℕ → Type 0) (l : ItemLayer) (n : ℕ) (emit : Position → Emit (Unit {0})) : Type 0 where
      pub up : (last : Position) → Upwards (emit last)
      pub pays : (last : Position) (j : ℕ) → ItemPays g f scope (ItemScope g f most scope l) most n last (item_by p (D j).expr (D j).stmt l) (emit last)

    layer_good : (scope : ℕ → Type 0) (l : ItemLayer) → ItemOk g f most R scope l → item_nodes_by p (counted_item p l) ≤ m → ItemGood scope l (item_nodes_by p (counted_item p l)) (lower.item_by W (item_parts W l)).emit
    layer_good scope (BlockItem-F.Declare ds) ok le = record {
      up = λ last. ok.up;
      pays = λ last j. declared_pays g f scope most (Behind scope ds) (declared_nodes p ds) last (declare_each p (D j).expr ds) (declare s ds) (behind_wider scope ds) (ok.tracks j);
    }
    layer_good scope (BlockItem-F.«BlockItem::Act» x) ok le =
        let h : Good g f most scope x = ih scope x le ok in
        record { up = h.up; pays = λ last j. stmt_pays g f scope most (stmt_nodes p x) last ((D j).stmt x) ((lowered_stmt W x).emit last) (h.tracks last j) }

    item_good : (scope : ℕ → Type 0) (b : BlockItem) → ItemOk g f most R scope (out-BlockItem b) → item_nodes p b ≤ m → ItemGood scope (out-BlockItem b) (item_nodes p b) (lowered_item W b).emit
    item_good scope b ok le =
        subst (λ n. ItemGood scope (out-BlockItem b) n (lowered_item W b).emit) (count.item_level p b)
        (subst (λ x. ItemGood scope (out-BlockItem b) (item_nodes_by p (counted_item p (out-BlockItem b))) x.emit) (item_level W b)
        (layer_good scope (out-BlockItem b) ok (omega (arith, le, count.item_level p b))))

    pub record ItemsGood (scope : ℕ → Type 0) (items : List BlockItem) : Type 0 where
      pub up : (last : Position) → Upwards (each_item last (map (lowered_item W) items))
      pub tracks : (last : Position) (j : ℕ) → ListTracks g f scope most (sum_of (map (item_nodes p) items)) last (items_by p (D j).expr (D j).stmt items) (each_item last (map (lowered_item W) items))

    pub items_good : (scope : ℕ → Type 0) (items : List BlockItem) → ItemsOk g f most R scope items → sum_of (map (item_nodes p) items) ≤ m → ItemsGood scope items
    items_good scope [] ok le = record { up = λ last c. omega arith; tracks = λ last j. list_none g f scope most last }
    items_good scope (b ∷ []) ok le =
        let h : ItemGood scope (out-BlockItem b) (item_nodes p b) (lowered_item W b).emit = item_good scope b ok.0 (omega (arith, le)) in
        record {
          up = h.up;
          tracks = λ last j. subst (λ n. ListTracks g f scope most n last (items_by p (D j).expr (D j).stmt (b ∷ [])) ((lowered_item W b).emit last)) (omega arith)
              (list_one g f scope most (ItemScope g f most scope (out-BlockItem b)) (item_nodes p b) last (item_by p (D j).expr (D j).stmt (out-BlockItem b)) ((lowered_item W b).emit last) (h.pays last j));
        }
    items_good scope (b ∷ b2 ∷ bs) ok le =
        let h : ItemGood scope (out-BlockItem b) (item_nodes p b) (lowered_item W b).emit = item_good scope b ok.0 (omega (arith, le)) in
        let rest : ItemsGood (ItemScope g f most scope (out-BlockItem b)) (b2 ∷ bs) = items_good (ItemScope g f most scope (out-BlockItem b)) (b2 ∷ bs) ok.1 (omega (arith, le)) in
        record {
          up = λ last c. omega (arith, h.up Anywhere c, rest.up last ((lowered_item W b).emit Anywhere c).counts);
          tracks = λ last j. list_more g f scope most (ItemScope g f most scope (out-BlockItem b)) (item_nodes p b) (sum_of (map (item_nodes p) (b2 ∷ bs))) last (item_by p (D j).expr (D j).stmt (out-BlockItem b))
              (items_by p (D j).expr (D j).stmt (b2 ∷ bs)) ((lowered_item W b).emit Anywhere) (each_item last (map (lowered_item W) (b2 ∷ bs))) (item_wider (out-BlockItem b)) (h.up Anywhere) (rest.up last) (h.pays Anywhere j) (rest.tracks last j);
        }
      where
        item_wider : (l : ItemLayer) (y : ℕ) → scope y → ItemScope g f most scope l y
        item_wider (BlockItem-F.Declare ds) y is = behind_wider scope ds y is
        item_wider (BlockItem-F.«BlockItem::Act» x) y is = is

    -- ---- levels

    pub block_good : (scope : ℕ → Type 0) (x : Stmt) (items : List BlockItem) (at : Place) → ItemsOk g f most R scope items → sum_of (map (item_nodes p) items) ≤ m
        → LevelGood scope (sum_of (map (item_nodes p) items)) (λ i. stmt_by p (D i) x (StmtKind-F.Block items)) (emit_by W (stmt_parts W (StmtKind-F.Block items)) at)
    block_good scope x items at ok le =
        let h : ItemsGood scope items = items_good scope items ok le in
        record {
          up = λ last. h.up (last_position last);
          level = λ last i. block_level g f scope most (sum_of (map (item_nodes p) items)) last (items_by p (D i).expr (D i).stmt items) (each_item (last_position last) (map (lowered_item W) items)) (h.tracks (last_position last) i);
        }

    pub return_good : (scope : ℕ → Type 0) (x : Stmt) (e : Option Expr) (at : Place) → ReturnFits f scope e → OptOks g f most scope e
        → LevelGood scope (opt_nodes e) (λ i. stmt_by p (D i) x (StmtKind-F.Return e)) (λ last. lower.return_at W e last at)
    return_good scope x e at fits ok = record { up = λ last. by_main f.is_main last e (ok 0); level = λ last i. return_level g f scope most (D i).expr e last at fits (ok i) }
      where
        by_main : (b : Bool) (last : Position) (o : Option Expr) → OptOk g w scope most (D 0).expr o → Upwards (if b then lower.return_main W o last at else lower.return_from W o last at)
        by_main true last None h c = return_up last (plain kind.Finish zero_operand at) c
        by_main false last None h c = return_up last (plain kind.Ret zero_operand at) c
        by_main true last (Some a) h c = omega (arith, (h false).grows c, return_up last (plain kind.Finish (full s a c).value at) (full s a c).counts)
        by_main false last (Some a) h c = omega (arith, (h false).grows c, return_up last (plain kind.Ret zero_operand at) (record { op = (full s a c).counts.op + 1; temp = (full s a c).counts.temp }))

    pub if_good : (scope : ℕ → Type 0) (x : Stmt) (c : Expr) (a : Stmt) (b : Option Stmt) (at : Place) → ExprOks g f most scope c → R scope a → OptStmt g f most R scope b
        → expr_nodes c + (stmt_nodes p a + or_none (option_map (stmt_nodes p) b)) ≤ m
        → LevelGood scope (expr_nodes c + (stmt_nodes p a + or_none (option_map (stmt_nodes p) b))) (λ i. stmt_by p (D i) x (StmtKind-F.If c a b)) (λ last. lower.if_at s c (lowered_stmt W a) (option_map (lowered_stmt W) b) at)
    if_good scope x c a None at okc oka okb le =
        let ga : Good g f most scope a = ih scope a (omega (arith, le)) oka in
        record {
          up = λ last k. omega (arith, expr_up scope c okc k, ga.up Anywhere (record { op = (full s c k).counts.op + 1; temp = (full s c k).counts.temp }));
          level = λ last i. if_alone g f scope most c (lowered_stmt W a) at (expr_nodes c) (stmt_nodes p a) (calls (lowered s c)) last ((D i).expr c) ((D i).stmt a) (okc i false) (ga.up Anywhere) (ga.tracks Anywhere i);
        }
    if_good scope x c a (Some b) at okc oka okb le =
        let ga : Good g f most scope a = ih scope a (omega (arith, le)) oka in
        let gb : Good g f most scope b = ih scope b (omega (arith, le)) okb in
        record {
          up = λ last k. omega (
            arith,
            expr_up scope c okc k,
            ga.up Anywhere (record { op = (full s c k).counts.op + 1; temp = (full s c k).counts.temp }),
            gb.up Anywhere (record { op = ((lowered_stmt W a).emit Anywhere (record { op = (full s c k).counts.op + 1; temp = (full s c k).counts.temp })).counts.op + 1; temp = ((lowered_stmt W a).emit Anywhere (record { op = (full s c k).counts.op + 1; temp = (full s c k).counts.temp })).counts.temp }),
          );
          level = λ last i. if_both g f scope most c (lowered_stmt W a) (lowered_stmt W b) at (expr_nodes c) (stmt_nodes p a) (stmt_nodes p b) (calls (lowered s c)) last ((D i).expr c) ((D i).stmt a) ((D i).stmt b)
              (okc i false) (ga.up Anywhere) (gb.up Anywhere) (ga.tracks Anywhere i) (gb.tracks Anywhere i);
        }

    pub while_good : (scope : ℕ → Type 0) (x : Stmt) (c : Expr) (body : Stmt) (at : Place) → out-StmtKind x.kind ≡ StmtKind-F.While c body → ExprOks g f most scope c → R scope body
        → 1 + (expr_nodes c + stmt_nodes p body) ≤ m → m ≤ most
        → LevelGood scope (1 + (expr_nodes c + stmt_nodes p body)) (λ i. (D i).turns x) (λ last. lower.while_at s c (lowered_stmt W body) at)
    while_good scope x c body at q okc okb le few =
        let gb : Good g f most scope body = ih scope body (omega (arith, le)) okb in
        record {
          up = λ last. loop_up (test s c at) ((lowered_stmt W body).emit Anywhere) nothing None at (λ k. expr_up scope c okc k) (gb.up Anywhere) (λ k. omega arith);
          level = λ last i. level_more scope (suc (expr_nodes c + (stmt_nodes p body + 0))) (1 + (expr_nodes c + stmt_nodes p body)) last ((D i).turns x) (lower.while_at s c (lowered_stmt W body) at) (omega arith)
              (loop_level g f scope most (expr_nodes c + (stmt_nodes p body + 0)) last ((D i).turns x) (lower.while_at s c (lowered_stmt W body) at)
              (turns_all scope x (expr_nodes c + (stmt_nodes p body + 0)) last (lower.while_at s c (lowered_stmt W body) at) (StmtKind-F.While c body) q
              (λ j rest. test_turns g f scope most (expr_nodes c) (stmt_nodes p body) 0 (calls (lowered s c)) last c ((D j).expr c) ((D j).stmt body) skip ((D j).turns x) ((lowered_stmt W body).emit Anywhere) nothing at
              (omega (arith, le, few)) (okc j false) (gb.up Anywhere) (λ k. omega arith) (gb.tracks Anywhere j) (nothing_acts g w scope most) rest) i));
        }

    pub do_good : (scope : ℕ → Type 0) (x : Stmt) (c : Expr) (body : Stmt) (at : Place) → out-StmtKind x.kind ≡ StmtKind-F.Do body c → ExprOks g f most scope c → R scope body
        → ((lowered_stmt W body).continues ≡ false → (j : ℕ) (d : State) → OnDone IsNotContinued ((D j).stmt body d)) → 1 + (stmt_nodes p body + expr_nodes c) ≤ m → m ≤ most
        → LevelGood scope (1 + (stmt_nodes p body + expr_nodes c)) (λ i. (D i).turns x) (λ last. lower.do_at s (lowered_stmt W body) c at)
    do_good scope x c body at q okc okb stays le few = record { up = λ last. by_up (lowered_stmt W body).continues; level = λ last i. by_level (lowered_stmt W body).continues refl last i }
      where
        gb : Good g f most scope body
        gb = ih scope body (omega (arith, le)) okb

        B : Emit (Unit {0})
        B = (lowered_stmt W body).emit Anywhere

        n : ℕ
        n = stmt_nodes p body + expr_nodes c

        by_up : (b : Bool) → Upwards (if b then lower.do_by_step s (lowered_stmt W body) c at else lower.do_by_test s (lowered_stmt W body) c at)
        by_up true = loop_up (numbered (test_of (Const 1) at)) B (do_step s c at) None at (λ k. omega arith) (gb.up Anywhere) (λ k. omega (arith, expr_up scope c okc k))
        by_up false = loop_up (λ k. made_on (B k) (λ _. test s c at)) nothing nothing None at (λ k. omega (arith, gb.up Anywhere k, expr_up scope c okc (B k).counts)) (λ k. omega arith) (λ k. omega arith)

        by_level : (b : Bool) → (lowered_stmt W body).continues ≡ b → (last : Position) (i : ℕ)
            → StmtLevel g f scope most (1 + n) last ((D i).turns x) (if b then lower.do_by_step s (lowered_stmt W body) c at else lower.do_by_test s (lowered_stmt W body) c at)
        by_level true e last i = level_more scope (suc n) (1 + n) last ((D i).turns x) (lower.do_by_step s (lowered_stmt W body) c at) (omega arith)
            (loop_level g f scope most n last ((D i).turns x) (lower.do_by_step s (lowered_stmt W body) c at)
            (turns_all scope x n last (lower.do_by_step s (lowered_stmt W body) c at) (StmtKind-F.Do body c) q
            (λ j rest. do_loop_by_step g f scope most (stmt_nodes p body) (expr_nodes c) (calls (lowered s c)) last c ((D j).stmt body) ((D j).expr c) ((D j).turns x) B at
            (omega (arith, le, few)) (okc j false) (gb.up Anywhere) (gb.tracks Anywhere j) rest) i))
        by_level false e last i = level_more scope (suc n) (1 + n) last ((D i).turns x) (lower.do_by_test s (lowered_stmt W body) c at) (omega arith)
            (loop_level g f scope most n last ((D i).turns x) (lower.do_by_test s (lowered_stmt W body) c at)
            (turns_all scope x n last (lower.do_by_test s (lowered_stmt W body) c at) (StmtKind-F.Do body c) q
            (λ j rest. do_loop g f scope most (stmt_nodes p body) (expr_nodes c) (calls (lowered s c)) last c ((D j).stmt body) ((D j).expr c) ((D j).turns x) B at
            (omega (arith, le, few)) (okc j false) (gb.up Anywhere) (gb.tracks Anywhere j) (stays e j) rest) i))

    -- ---- switch

    abbrev group_items_nodes : Group → ℕ
    group_items_nodes x = sum_of (map (item_nodes p) x.items)

    abbrev lowered_items : Group → List LoweredStmt
    lowered_items x = map (lowered_item W) x.items

    pub switch_good : (scope : ℕ → Type 0) (x : Stmt) (e : Expr) (groups : List Group) (at : Place) → HasHomes w scope → ExprOks g f most scope e → GroupsOks g f most R scope groups
        → expr_nodes e + sum_of (map (group_nodes p) groups) ≤ m
        → LevelGood scope (expr_nodes e + sum_of (map (group_nodes p) groups)) (λ i. stmt_by p (D i) x (StmtKind-F.Switch e groups)) (λ last. lower.switch_at s e (map (lowered_group W) groups) at)
    switch_good scope x e groups at homes oke oks le =
        subst (λ gs. LevelGood scope (expr_nodes e + sum_of (map (group_nodes p) groups)) (λ i. stmt_by p (D i) x (StmtKind-F.Switch e groups)) (λ last. lower.switch_at s e gs at)) (same_groups groups)
        (record {
          up = λ last k. switch_up (fine 0 groups oks (omega (arith, le))) k;
          level = λ last i. level_more scope (expr_nodes e + groups_nodes g f scope most owns homes lowered_items (run i) group_items_nodes at groups) (expr_nodes e + sum_of (map (group_nodes p) groups)) last
              (stmt_by p (D i) x (StmtKind-F.Switch e groups)) (lower.switch_at s e (map (grouped g f scope most owns homes lowered_items (run i) group_items_nodes at) groups) at) (ap (λ n. expr_nodes e + n) (same_nodes i groups))
              (switch_level g f scope most owns homes lowered_items (run i) group_items_nodes at last e (expr_nodes e) (calls (lowered s e)) ((D i).expr e) groups (oke i false) (fine i groups oks (omega (arith, le))) (list_none g f scope most LastOfGroup));
        })
      where
        run : ℕ → List BlockItem → Part Leaving
        run i = items_by p (D i).expr (D i).stmt

        same_groups : (gs : List Group) → map (λ y. record { labels = y.labels; items = map (lowered_item W) y.items }) gs ≡ map (lowered_group W) gs
        same_groups [] = refl
        same_groups (y ∷ ys) = ap (λ h. h ∷ map (λ z. record { labels = z.labels; items = map (lowered_item W) z.items }) ys) (group_level W y) ∙ ap (λ h. lowered_group W y ∷ h) (same_groups ys)

        same_nodes : (i : ℕ) (gs : List Group) → groups_nodes g f scope most owns homes lowered_items (run i) group_items_nodes at gs ≡ sum_of (map (group_nodes p) gs)
        same_nodes i [] = refl
        same_nodes i (y ∷ ys) = ap (λ n. n + groups_nodes g f scope most owns homes lowered_items (run i) group_items_nodes at ys) (count.group_level p y) ∙ ap (λ n. group_nodes p y + n) (same_nodes i ys)

        fine : (i : ℕ) (gs : List Group) → GroupsOks g f most R scope gs → sum_of (map (group_nodes p) gs) ≤ m → GroupsOk g f scope most owns homes lowered_items (run i) group_items_nodes at gs
        fine i [] ok le' = tt
        fine i (y ∷ ys) ok le' =
            let h : ItemsGood scope y.items = items_good scope y.items ok.0.1 (omega (arith, le', count.group_level p y)) in
            (record { up = h.up LastOfGroup; tracks = h.tracks LastOfGroup i; some = ok.0.0 }, fine i ys ok.1 (omega (arith, le')))

        switch_up : GroupsOk g f scope most owns homes lowered_items (run 0) group_items_nodes at groups → Upwards (lower.switch_at s e (map (λ y. record { labels = y.labels; items = map (lowered_item W) y.items }) groups) at)
        switch_up ok k = switched_up g f scope most owns homes lowered_items (run 0) group_items_nodes at e groups ok (λ c. expr_up scope e oke c) k
