-- `for` in all its forms, and the induction over statements within each other.
use Rattle.std.proofs.Common.{◌≡◌, ℕ, zero, suc, ◌+◌, ◌^◌, ◌<◌, ◌≤◌, Bool, true, false, Option, Some, None, refl, sym, ap, subst, arith, inl, inr}
use Rattle.std.specs.Prelude.{if◌then◌else◌, nat_lt}
use Rattle.base_io.specs.declared.place.Place.{Place}
use Rattle.c_values.specs.Values.{from_test}
use Rattle.c_tree.specs.declared.tree.Expr.{Expr}
use Rattle.c_tree.specs.declared.tree.Action.{Action}
use Rattle.c_tree.specs.declared.tree.ForFirst.{ForFirst}
use Rattle.c_tree.specs.declared.tree.ForFirst.TheVariants as first
use Rattle.c_tree.specs.declared.tree.Stmt.{Stmt}
use Rattle.c_tree.specs.declared.tree.StmtKind.{out-StmtKind}
use Rattle.c_tree.specs.declared.tree.BlockItem.TheOpen.{StmtKind-F}
use Rattle.c_tree.specs.declared.tree.Program.{Program}
use Rattle.c_tree.specs.Layer.{StmtLayer}
use Rattle.c_tree.specs.Runs.{State, begin, ◌>>=◌, ◌>>◌}
use Rattle.c_tree.specs.Nodes as meaning
use Rattle.c_tree.specs.Nodes.{to_depth, act_by, act_opt, declare_each, first_by, item_by, items_by, stmt_by, turn_by, next_turn, value_or}
use Rattle.sound_programs.specs.Counted.{expr_nodes, opt_nodes, action_nodes, first_nodes, step_nodes, stmt_nodes, kind_nodes_by, counted_stmt}
use Rattle.sound_programs.proofs.CountLevels as count
use Rattle.flow_graph.specs.declared.graph.Graph.{Graph}
use Rattle.flow_graph.specs.declared.graph.Operand.TheVariants.{Const}
use Rattle.flow_graph.specs.Flow.{Spot}
use Rattle.lowered_graphs.specs.Making.{Emit, Counts, numbered}
use Rattle.lowered_graphs.specs.Exprs.{Setting, lowered, calls}
use Rattle.lowered_graphs.specs.Stmts as lower
use Rattle.lowered_graphs.specs.Stmts.{LoweredStmt, LoweredGroup, each_item, act, declare, emit_by, lowered_stmt, lowered_item, lowered_group, stmt_parts, item_parts, group_parts, last_position, loop_at, test, do_step, return_op, break_at}
use Rattle.lowered_graphs.specs.declared.positions.Position.{Position}
use Rattle.lowered_graphs.specs.declared.positions.Position.TheVariants.{Anywhere}
use Rattle.lowered_graphs.proofs.StmtLevels.{stmt_level}
use Rattle.lowered_meaning.specs.Keeps.{Ground, OwnsTemporaries}
use Rattle.lowered_meaning.specs.Leaves.{Callee, StmtTracks, ActTracks, Upwards}
use Rattle.lowered_meaning.proofs.RunLemmas.{shows_none}
use Rattle.lowered_meaning.proofs.IfLemmas.{StmtLevel, stmt_begun, empty_level, act_level, continue_level, break_level}
use Rattle.lowered_meaning.proofs.ReturnLemmas.{within}
use Rattle.lowered_meaning.proofs.DoLoops.{LoopTracks, for_level, test_turns, endless_turns}
use Rattle.lowered_meaning.proofs.StmtInduction.{FirstScope, first_wider, OptOks, FirstOks, StepOks, CountedFits, CountedOk, LevelOk, StmtOk, Good}
use Rattle.lowered_graphs.specs.Stmts.{count_of, if_counted, for_by, for_loop, counted_loop, test_opt}
use Rattle.lowered_graphs.specs.Counted.{greatest, count_head, turns}
use Rattle.c_tree.specs.Nodes.{type_of, type_in, update_by}
use Rattle.c_values.specs.declared.ops.BinaryOp.TheVariants as binary
use Rattle.sound_programs.specs.Counted.{update_nodes}
use Rattle.flow_graph.specs.declared.graph.OpKind.TheVariants as kind
use Rattle.flow_graph.specs.declared.graph.Operand.TheVariants.{Object}
use Rattle.lowered_graphs.specs.Exprs.{home}
use Rattle.lowered_meaning.proofs.AssignStores.{Storable}
use Rattle.lowered_graphs.specs.declared.loops.Count.{Count}
use Rattle.lowered_graphs.specs.Making.{one, op_of, zero_operand}
use Rattle.lowered_meaning.proofs.CountedParts.{Still, Takes}
use Rattle.lowered_meaning.proofs.CountedConstants.{Known}
use Rattle.lowered_meaning.proofs.CountedBounds.{bound_still, test_still, step_takes, first_takes, greatest_small}
use Rattle.lowered_meaning.proofs.CountedLevels.{CountedTracks, InRange, word_in, counted_emit, no_counted, counted_turns, counted_level}
use Rattle.lowered_meaning.proofs.CountedHeads.{Head, head_of, named_as, by_one_is}
use Rattle.lowered_meaning.proofs.StmtInductionLevels.{loop_up, nothing_acts, LevelGood, turns_all, block_good, return_good, if_good, while_good, do_good, switch_good, level_more, break_up}

module _ (g : Graph) (f : Callee) (most : ℕ) (owns : OwnsTemporaries f.ground) where
  abbrev w : Ground
  w = f.ground

  abbrev p : Program
  p = f.ground.setting.program

  abbrev s : Setting
  s = f.ground.setting

  abbrev D : ℕ → meaning.Within
  D j = to_depth p j

  abbrev W : lower.Within
  W = within f

  -- the turns of a counted loop, at every depth
  counted_all : (scope : ℕ → Type 0) (x v from to n : ℕ) (st : Stmt) (last : Position) (emit : Emit (Unit {0})) (l : StmtLayer) (can : Storable w scope v) → out-StmtKind st.kind ≡ l
      → ((i : ℕ) → CountedTracks g f scope most v from to n last ((D i).turns st) emit → CountedTracks g f scope most v from to n last (begin >> (turn_by p (D i) l >>= next_turn ((D i).turns st))) emit)
      → (j : ℕ) → CountedTracks g f scope most v from to n last ((D j).turns st) emit
  unfolding to_depth
  counted_all scope x v from to n st last emit l can q h zero = no_counted g f scope most v from to can n last emit
  counted_all scope x v from to n st last emit l can q h (suc i) =
      subst (λ t. CountedTracks g f scope most v from to n last (begin >> (turn_by p (D i) t >>= next_turn ((D i).turns st))) emit) (sym q) (h i (counted_all scope x v from to n st last emit l can q h i))

  module _ (m : ℕ) (few : m ≤ most) (ih : (scope : ℕ → Type 0) (x : Stmt) → stmt_nodes p x ≤ m → StmtOk g f most m scope x → Good g f most scope x) where
    abbrev R : (ℕ → Type 0) → Stmt → Type 0
    R = StmtOk g f most m

    first_acts : (scope : ℕ → Type 0) (o : Option ForFirst) → FirstOks g f most scope o → (i : ℕ) → ActTracks g w scope (FirstScope scope o) most (first_nodes p o) (first_by p (D i).expr o) (lower.first_of s o)
    first_acts scope None ok i = nothing_acts g w scope most
    first_acts scope (Some (first.Declare ds)) ok i = ok.tracks i
    first_acts scope (Some (first.Act a)) ok i = ok.tracks i

    first_up : (scope : ℕ → Type 0) (o : Option ForFirst) → FirstOks g f most scope o → Upwards (lower.first_of s o)
    first_up scope None ok c = omega arith
    first_up scope (Some (first.Declare ds)) ok c = ok.up c
    first_up scope (Some (first.Act a)) ok c = ok.up c

    step_acts : (scope : ℕ → Type 0) (o : Option Action) → StepOks g f most scope o → (i : ℕ) → ActTracks g w scope scope most (step_nodes p o) (act_opt p (D i).expr o) (lower.act_opt s o)
    step_acts scope None ok i = nothing_acts g w scope most
    step_acts scope (Some a) ok i = ok.tracks i

    step_up : (scope : ℕ → Type 0) (o : Option Action) → StepOks g f most scope o → Upwards (lower.act_opt s o)
    step_up scope None ok c = omega arith
    step_up scope (Some a) ok c = ok.up c

    test_up : (scope : ℕ → Type 0) (o : Option Expr) (at : Place) → OptOks g f most scope o → (c : Counts) → c.temp ≤ (test_opt s o at c).counts.temp
    test_up scope None at ok c = omega arith
    test_up scope (Some e) at ok c = (ok 0 false).grows c

    -- a `for` that isn't counted
    plain_good : (scope : ℕ → Type 0) (x : Stmt) (o : Option ForFirst) (test' : Option Expr) (step : Option Action) (body : Stmt) (at : Place) → out-StmtKind x.kind ≡ StmtKind-F.For o test' step body
        → FirstOks g f most scope o → OptOks g f most (FirstScope scope o) test' → StepOks g f most (FirstScope scope o) step → R (FirstScope scope o) body
        → 1 + (first_nodes p o + (opt_nodes test' + (step_nodes p step + stmt_nodes p body))) ≤ m
        → LevelGood g f most owns scope (1 + (first_nodes p o + (opt_nodes test' + (step_nodes p step + stmt_nodes p body)))) (λ i. first_by p (D i).expr o >> (D i).turns x) (λ last. for_by s o test' step (lowered_stmt W body) at None)
    plain_good scope x o test' step body at q okf okt oks okb le = record {
      up = λ last c. omega (arith, first_up scope o okf c, loops_up (lower.first_of s o c).counts);
      level = λ last i. level_more g f most owns scope (suc (first_nodes p o + n)) (1 + (first_nodes p o + (opt_nodes test' + (step_nodes p step + stmt_nodes p body)))) last (first_by p (D i).expr o >> (D i).turns x) (for_by s o test' step (lowered_stmt W body) at None) (omega arith)
          (for_level g f scope most (FirstScope scope o) (first_nodes p o) n last (first_by p (D i).expr o) (lower.first_of s o) ((D i).turns x) loop (first_wider scope o) (first_up scope o okf) loops_up (first_acts scope o okf i)
          (turns_all g f most owns (FirstScope scope o) x n last loop (StmtKind-F.For o test' step body) q (λ j rest. by_test test' okt (omega (arith, le)) last j rest) i));
    }
      where
        gb : Good g f most (FirstScope scope o) body
        gb = ih (FirstScope scope o) body (omega (arith, le)) okb

        B : Emit (Unit {0})
        B = (lowered_stmt W body).emit Anywhere

        n : ℕ
        n = opt_nodes test' + (stmt_nodes p body + step_nodes p step)

        loop : Emit (Unit {0})
        loop = for_loop s test' step (lowered_stmt W body) at

        loops_up : Upwards loop
        loops_up = loop_up (test_opt s test' at) B (lower.act_opt s step) None at (test_up (FirstScope scope o) test' at okt) (gb.up Anywhere) (step_up (FirstScope scope o) step oks)

        by_test : (t : Option Expr) → OptOks g f most (FirstScope scope o) t → 1 + (opt_nodes t + (stmt_nodes p body + step_nodes p step)) ≤ m → (last : Position) (j : ℕ)
            → LoopTracks g f (FirstScope scope o) most (opt_nodes t + (stmt_nodes p body + step_nodes p step)) last ((D j).turns x) (for_loop s t step (lowered_stmt W body) at)
            → LoopTracks g f (FirstScope scope o) most (opt_nodes t + (stmt_nodes p body + step_nodes p step)) last (begin >> (turn_by p (D j) (StmtKind-F.For o t step body) >>= next_turn ((D j).turns x))) (for_loop s t step (lowered_stmt W body) at)
        by_test None ok le' last j rest =
            subst (λ k. LoopTracks g f (FirstScope scope o) most k last (begin >> (turn_by p (D j) (StmtKind-F.For o None step body) >>= next_turn ((D j).turns x))) (for_loop s None step (lowered_stmt W body) at)) zero_more
            (endless_turns g f (FirstScope scope o) most (stmt_nodes p body) (step_nodes p step) last ((D j).stmt body) (act_opt p (D j).expr step) ((D j).turns x) B (lower.act_opt s step) at (omega (arith, le, few)) (gb.up Anywhere) (step_up (FirstScope scope o) step oks)
            (gb.tracks Anywhere j) (step_acts (FirstScope scope o) step oks j)
            (subst (λ k. LoopTracks g f (FirstScope scope o) most k last ((D j).turns x) (for_loop s None step (lowered_stmt W body) at)) (sym zero_more) rest))
          where
            zero_more : stmt_nodes p body + step_nodes p step ≡ 0 + (stmt_nodes p body + step_nodes p step)
            zero_more = omega arith
        by_test (Some c) ok le' last j rest = test_turns g f (FirstScope scope o) most (expr_nodes c) (stmt_nodes p body) (step_nodes p step) (calls (lowered s c)) last c ((D j).expr c) ((D j).stmt body) (act_opt p (D j).expr step) ((D j).turns x) B (lower.act_opt s step) at
            few_enough (ok j false) (gb.up Anywhere) (step_up (FirstScope scope o) step oks) (gb.tracks Anywhere j) (step_acts (FirstScope scope o) step oks j) rest
          where
            few_enough : suc (expr_nodes c + (stmt_nodes p body + step_nodes p step)) ≤ most
            few_enough = omega (arith, le', few)

    -- ---- counted loops

    head_is : (b : LoweredStmt) (h : Option Count) (c : Count) → if_counted b h ≡ Some c → h ≡ Some c
    head_is b None c e = cc
    head_is b (Some h) c e = by_counted (lower.is_counted b h.variable) e
      where
        by_counted : (q : Bool) → (if q then Some h else None) ≡ Some c → Some h ≡ Some c
        by_counted true k = k
        by_counted false k = cc

    module _ (scope : ℕ → Type 0) (x : Stmt) (o : Option ForFirst) (test' : Option Expr) (step : Option Action) (body : Stmt) (at : Place) (c : Count) (h : Head p o test' step c) (fits : CountedFits g f most scope o test' step body c h) where
      first_word : Known g most p h.value c.from × (c.from ≤ greatest h.variable.ty)
      first_word = bound_still g most p h.variable.ty h.value c.from h.from_is fits.value_wide

      last_word : Known g most p h.right c.to × (c.to ≤ greatest h.variable.ty)
      last_word = bound_still g most p h.variable.ty h.right c.to h.to_is fits.right_wide

      from_small : c.from < 2 ^ 16
      from_small = omega (arith, first_word.1, greatest_small h.variable.ty)

      to_small : c.to < 2 ^ 16
      to_small = omega (arith, last_word.1, greatest_small h.variable.ty)

      takes : (i : ℕ) (d : State) (z : Spot) → Takes g most (first_nodes p o) c.variable c.from d z (first_by p (D i).expr o d)
      takes i d z = subst (λ q. Takes g most (first_nodes p q) c.variable c.from d z (first_by p (D i).expr q d)) (sym h.first_is)
          (first_takes g most p c.variable h.variable h.value c.from h.declared h.named_is h.values_are h.variable_is h.scalar first_word.0 d z i)

      in_type : (d : State) → InRange c.variable c.from c.to d → word_in c.variable d ≤ greatest h.variable.ty
      in_type d (inl le) = omega (arith, le, last_word.1)
      in_type d (inr e) = omega (arith, e, first_word.1)

      test_stays : (i : ℕ) (d : State) (z : Spot) → InRange c.variable c.from c.to d → Still g most (opt_nodes test') (from_test (nat_lt (word_in c.variable d) c.to)) d z (value_or (D i).expr 1 test' d)
      test_stays i d z range = subst (λ q. Still g most (opt_nodes q) (from_test (nat_lt (word_in c.variable d) c.to)) d z (value_or (D i).expr 1 q d)) (sym h.test_is)
          (test_still g most p c.variable h.variable.ty h.tested h.left h.right (word_in c.variable d) c.to d h.less (named_as g most p c.variable h.variable.ty h.left fits.typed h.is_variable) last_word.0
          (in_type d range) last_word.1 fits.left_wide refl i z)

      own_is : type_of p c.variable ≡ h.variable.ty
      own_is = ap type_in h.variable_is

      step_goes : (i : ℕ) (d : State) (z : Spot) → word_in c.variable d < c.to → Takes g most (step_nodes p step) c.variable (word_in c.variable d + 1) d z (act_opt p (D i).expr step d)
      step_goes i d z lt = subst (λ q. Takes g most (step_nodes p q) c.variable (word_in c.variable d + 1) d z (act_opt p (D i).expr q d)) (sym h.step_is)
          (subst (λ y. Takes g most (opt_nodes h.target.index + (opt_nodes h.by + update_nodes (type_of p y) h.ty)) c.variable (word_in c.variable d + 1) d z (update_by (type_of p y) (D i).expr y h.target.index binary.Add h.ty h.by d)) (sym h.to_variable)
          (subst (λ y. Takes g most (opt_nodes y + (opt_nodes h.by + update_nodes (type_of p c.variable) h.ty)) c.variable (word_in c.variable d + 1) d z (update_by (type_of p c.variable) (D i).expr c.variable y binary.Add h.ty h.by d)) (sym h.no_index)
          (subst (λ y. Takes g most (0 + (opt_nodes h.by + update_nodes y h.ty)) c.variable (word_in c.variable d + 1) d z (update_by y (D i).expr c.variable None binary.Add h.ty h.by d)) (sym own_is)
          (subst (λ n. Takes g most n c.variable (word_in c.variable d + 1) d z (update_by h.variable.ty (D i).expr c.variable None binary.Add h.ty h.by d)) zero_more
          (step_takes g most p c.variable h.variable.ty h.ty h.by (word_in c.variable d) d (by_one_is g most p h.by h.one_more) (omega (arith, lt, last_word.1)) fits.step_wide refl i z)))))
        where
          zero_more : opt_nodes h.by + update_nodes h.variable.ty h.ty ≡ 0 + (opt_nodes h.by + update_nodes h.variable.ty h.ty)
          zero_more = omega arith

      pub counted_good : out-StmtKind x.kind ≡ StmtKind-F.For o test' step body → R (FirstScope scope o) body → 1 + (first_nodes p o + (opt_nodes test' + (step_nodes p step + stmt_nodes p body))) ≤ m
          → LevelGood g f most owns scope (1 + (first_nodes p o + (opt_nodes test' + (step_nodes p step + stmt_nodes p body)))) (λ i. first_by p (D i).expr o >> (D i).turns x) (λ last. for_by s o test' step (lowered_stmt W body) at (Some c))
      counted_good q okb le = record {
        up = λ last k. omega (arith, turns_up (record { op = k.op + 1; temp = k.temp }));
        level = λ last i. level_more g f most owns scope (suc (first_nodes p o + n)) (1 + (first_nodes p o + (opt_nodes test' + (step_nodes p step + stmt_nodes p body)))) last (first_by p (D i).expr o >> (D i).turns x) (for_by s o test' step (lowered_stmt W body) at (Some c)) (omega arith)
            (counted_level g f scope (FirstScope scope o) most c.variable c.from c.to (first_nodes p o) n last (first_by p (D i).expr o) ((D i).turns x) emit c.place fits.enters fits.single from_small (first_wider scope o) turns_up (takes i)
            (counted_all (FirstScope scope o) 0 c.variable c.from c.to n x last emit (StmtKind-F.For o test' step body) fits.can q
            (λ j rest. counted_turns g f (FirstScope scope o) most c.variable c.from c.to fits.can (opt_nodes test') (stmt_nodes p body) (step_nodes p step) (turns c) last (value_or (D j).expr 1 test') ((D j).stmt body) (act_opt p (D j).expr step) ((D j).turns x) B at
            (omega (arith, le, few)) to_small (gb.up Anywhere) (test_stays j) (step_goes j) (fits.keeps j) (gb.tracks Anywhere j) rest) i));
      }
        where
          gb : Good g f most (FirstScope scope o) body
          gb = ih (FirstScope scope o) body (omega (arith, le)) okb

          B : Emit (Unit {0})
          B = (lowered_stmt W body).emit Anywhere

          n : ℕ
          n = opt_nodes test' + (stmt_nodes p body + step_nodes p step)

          emit : Emit (Unit {0})
          emit = counted_emit g f (FirstScope scope o) most c.variable c.from c.to fits.can B (turns c) at

          turns_up : Upwards emit
          turns_up = loop_up (numbered (op_of kind.Below None (Object (home s c.variable)) (Const c.to) None at)) B (one (op_of kind.Step (Some (home s c.variable)) (Object (home s c.variable)) zero_operand None at)) (Some (turns c)) at
              (λ k. omega arith) (gb.up Anywhere) (λ k. omega arith)

    for_good : (scope : ℕ → Type 0) (x : Stmt) (o : Option ForFirst) (test' : Option Expr) (step : Option Action) (body : Stmt) (at : Place) → out-StmtKind x.kind ≡ StmtKind-F.For o test' step body
        → FirstOks g f most scope o → OptOks g f most (FirstScope scope o) test' → StepOks g f most (FirstScope scope o) step → R (FirstScope scope o) body → CountedOk g f most scope o test' step body
        → 1 + (first_nodes p o + (opt_nodes test' + (step_nodes p step + stmt_nodes p body))) ≤ m
        → LevelGood g f most owns scope (1 + (first_nodes p o + (opt_nodes test' + (step_nodes p step + stmt_nodes p body)))) (λ i. first_by p (D i).expr o >> (D i).turns x) (λ last. lower.for_at s o test' step (lowered_stmt W body) at)
    for_good scope x o test' step body at q okf okt oks okb okc le = by_count (count_of s o test' step (lowered_stmt W body)) refl
      where
        by_count : (r : Option Count) → count_of s o test' step (lowered_stmt W body) ≡ r
            → LevelGood g f most owns scope (1 + (first_nodes p o + (opt_nodes test' + (step_nodes p step + stmt_nodes p body)))) (λ i. first_by p (D i).expr o >> (D i).turns x) (λ last. for_by s o test' step (lowered_stmt W body) at r)
        by_count None e = plain_good scope x o test' step body at q okf okt oks okb le
        by_count (Some c) e =
            let h : Head p o test' step c = head_of p o test' step c (head_is (lowered_stmt W body) (count_head p o test' step) c e) in
            counted_good scope x o test' step body at c h (okc c e h) q okb le

    -- ---- a level of any kind

    level_good : (scope : ℕ → Type 0) (x : Stmt) (l : StmtLayer) → out-StmtKind x.kind ≡ l → LevelOk g f most R scope l → kind_nodes_by p (counted_stmt p l) ≤ m
        → LevelGood g f most owns scope (kind_nodes_by p (counted_stmt p l)) (λ i. stmt_by p (D i) x l) (emit_by W (stmt_parts W l) x.place)
    level_good scope x (StmtKind-F.Block items) q ok le = block_good g f most owns m ih scope x items x.place ok le
    level_good scope x StmtKind-F.Empty q ok le = record { up = λ last c. omega arith; level = λ last i. empty_level g f scope most last }
    level_good scope x (StmtKind-F.«StmtKind::Act» a) q ok le = record { up = λ last. ok.up; level = λ last i. act_level g f scope most (action_nodes p a) last (act_by p (D i).expr a) (act s a) (ok.tracks i) }
    level_good scope x StmtKind-F.Break q ok le = record { up = λ last. break_up last x.place; level = λ last i. break_level g f scope most last x.place }
    level_good scope x StmtKind-F.Continue q ok le = record { up = λ last c. omega arith; level = λ last i. continue_level g f scope most last x.place }
    level_good scope x (StmtKind-F.Return e) q ok le = return_good g f most owns m ih scope x e x.place ok.0 ok.1
    level_good scope x (StmtKind-F.If c a b) q ok le = if_good g f most owns m ih scope x c a b x.place ok.0 ok.1 ok.2 le
    level_good scope x (StmtKind-F.While c body) q ok le = while_good g f most owns m ih scope x c body x.place q ok.0 ok.1 le few
    level_good scope x (StmtKind-F.Do body c) q ok le = do_good g f most owns m ih scope x c body x.place q ok.0 ok.1 ok.2 le few
    level_good scope x (StmtKind-F.For o test' step body) q ok le = for_good scope x o test' step body x.place q ok.0 ok.1 ok.2 ok.3 ok.4 le
    level_good scope x (StmtKind-F.Switch e groups) q ok le = switch_good g f most owns m ih scope x e groups x.place ok.0 ok.1 ok.2 le

  -- behind its step, at every depth
  level_tracks : (scope : ℕ → Type 0) (x : Stmt) (n : ℕ) (last : Position) (emit : Emit (Unit {0})) → ((i : ℕ) → StmtLevel g f scope most n last (stmt_by p (D i) x (out-StmtKind x.kind)) emit) → (j : ℕ)
      → StmtTracks g f scope most (suc n) last ((D j).stmt x) emit
  unfolding to_depth
  level_tracks scope x n last emit h zero = λ c le top k s' d a o agrees ready stand at. shows_none g most (a + suc n) o s'
  level_tracks scope x n last emit h (suc i) = stmt_begun g f scope most n last (stmt_by p (D i) x (out-StmtKind x.kind)) emit (h i)

  -- every statement
  pub stmt_good : (m : ℕ) → m ≤ most → (scope : ℕ → Type 0) (x : Stmt) → stmt_nodes p x ≤ m → StmtOk g f most m scope x → Good g f most scope x
  stmt_good zero few scope x le ok = absurd (omega (arith, le, count.stmt_level p x))
  stmt_good (suc m) few scope x le ok =
      let l : LevelGood g f most owns scope (kind_nodes_by p (counted_stmt p (out-StmtKind x.kind))) (λ i. stmt_by p (D i) x (out-StmtKind x.kind)) (emit_by W (stmt_parts W (out-StmtKind x.kind)) x.place) =
      level_good m (omega (arith, few)) (stmt_good m (omega (arith, few))) scope x (out-StmtKind x.kind) refl ok (omega (arith, le, count.stmt_level p x)) in
      record {
        up = λ last. subst (λ t. Upwards (t.emit last)) (stmt_level W x) (l.up last);
        tracks = λ last j. subst (λ t. StmtTracks g f scope most (stmt_nodes p x) last ((D j).stmt x) (t.emit last)) (stmt_level W x)
            (subst (λ n. StmtTracks g f scope most n last ((D j).stmt x) (emit_by W (stmt_parts W (out-StmtKind x.kind)) x.place last)) (nodes_are x)
            (level_tracks scope x (kind_nodes_by p (counted_stmt p (out-StmtKind x.kind))) last (emit_by W (stmt_parts W (out-StmtKind x.kind)) x.place last) (l.level last) j));
      }
    where
      nodes_are : (y : Stmt) → suc (kind_nodes_by p (counted_stmt p (out-StmtKind y.kind))) ≡ stmt_nodes p y
      nodes_are y = omega (arith, count.stmt_level p y)
