-- Every typed statement fits where it stands.
use Rattle.std.proofs.Common.{◌≡◌, ◌≢◌, ℕ, ◌+◌, ◌^◌, ◌<◌, ◌≤◌, Bool, true, false, Option, Some, None, List, [], ◌∷◌, ◌++◌, refl, sym, ap, subst, ◌∙◌, arith}
use Rattle.std.specs.Prelude.{◌&&◌, map, if◌then◌else◌}
use Rattle.std.specs.Option.{option_map}
use Rattle.std.proofs.lemmas.Bool.{and_parts, false≢true}
use Rattle.base_io.specs.declared.place.Place.{Place}
use Rattle.c_tree.specs.declared.tree.Expr.{Expr}
use Rattle.c_tree.specs.declared.tree.Action.{Action}
use Rattle.c_tree.specs.declared.tree.ForFirst.{ForFirst}
use Rattle.c_tree.specs.declared.tree.ForFirst.TheVariants as first
use Rattle.c_tree.specs.declared.tree.Label.{Label}
use Rattle.c_tree.specs.declared.tree.Program.{Program}
use Rattle.c_tree.specs.declared.tree.Stmt.{Stmt}
use Rattle.c_tree.specs.declared.tree.StmtKind.{out-StmtKind}
use Rattle.c_tree.specs.declared.tree.Group.{Group}
use Rattle.c_tree.specs.declared.tree.BlockItem.TheOpen.{StmtKind-F}
use Rattle.c_tree.specs.Layer.{StmtLayer}
use Rattle.sound_programs.specs.Counted.{ends_in_return}
use Rattle.sound_programs.specs.Scoped as scoping
use Rattle.sound_programs.specs.Scoped.{Stand, Scoped, ScopedGroup, scoped, scoped_item, scoped_group, holds, names, names_opt, first_names, first_behind, each_fits, opt_fits, groups_fit, last_ends, opt_action_names, declared_names, declared_behind, labels_differ, all_labels}
use Rattle.sound_programs.specs.Sound.{typing, has_value, has_promoted, stmt_fits, item_fits, group_fits, stmt_by, parts_fit, all_hold, labels_fit, label_fits, is_labelled, tests, first_fits, step_fits}
use Rattle.sound_programs.proofs.SoundLevels as sounds
use Rattle.sound_programs.proofs.NameLevels.{scoped_parts, scoped_level, scoped_group_level}
use Rattle.flow_graph.specs.declared.graph.Operand.TheVariants.{Const}
use Rattle.flow_graph.specs.declared.graph.OpKind.TheVariants as kind
use Rattle.flow_graph.specs.declared.graph.LeaveTo.TheVariants.{Break}
use Rattle.flow_graph.specs.declared.graph.Op.{Op}
use Rattle.flow_graph.specs.declared.graph.Item.TheVariants.{One, Branch, Leave}
use Rattle.flow_graph.specs.Rules as rules
use Rattle.flow_graph.specs.Rules.{Where, Ending, Open, MayGo, Returns, Doing, doings, fittings, has_none, ends_in_go, return_kind, is_kind}
use Rattle.lowered_graphs.specs.declared.loops.Count.{Count}
use Rattle.lowered_graphs.specs.declared.positions.Position.{Position}
use Rattle.lowered_graphs.specs.declared.positions.Position.TheVariants.{Anywhere, LastOfGroup, Body, LastOfBody}
use Rattle.lowered_graphs.specs.Making.{Counts, Made, numbered, go, test_of}
use Rattle.lowered_graphs.specs.Exprs.{Setting, home}
use Rattle.lowered_graphs.specs.Counted.{count_head, turns}
use Rattle.lowered_graphs.specs.Stmts as stmts
use Rattle.lowered_graphs.specs.Stmts.{Within, LoweredStmt, LoweredGroup, act_opt, declare, each_item, last_position, break_at, return_op, return_main, return_from, return_at, test, test_opt, no_arm, yes_arm, if_at, loop_at, while_at, do_step, do_by_step, do_by_test, do_at, is_counted, if_counted, counted_turns, counted_loop, first_of, for_loop, for_by, count_of, labels, more_labels, one_more_label, equals, label_word, group_items, default_items, group_branch, groups_from, all_groups, give_switch, switch_at, lowered_by, item_by, stmt_parts, item_parts, group_parts, lowered_stmt, lowered_item, lowered_group, any_of, all_of, any_in, all_in, any_of_groups, all_of_groups, opt_assigned, first_assigned, first_locals, declared_locals, expr_callees, opt_callees, opt_action_callees, first_callees}
use Rattle.lowered_graphs.proofs.StmtLevels.{stmt_level, group_level}
use Rattle.lowered_rules.proofs.Inductions.{EachItem, EachGroup, StmtParts, stmt_induction}
use Rattle.lowered_rules.proofs.EachLemmas.{Each, each_left, each_right, each_weaker, or_second, or_neither}
use Rattle.lowered_rules.proofs.OrderLemmas.{next}
use Rattle.lowered_rules.proofs.StmtOrder.{orderly_stmt, orderly_first, orderly_act_opt, testing, testing_opt}
use Rattle.lowered_rules.proofs.TypedParts.{value_typed, promoted_typed}
use Rattle.lowered_rules.proofs.FitLemmas.{Ground, Writes, Fits, fits_none, fits_append, fits_may_go, fits_branch, fits_loop, go_last, Spared, Other, writes_variable}
use Rattle.lowered_rules.proofs.CountHead.{Counting, count_is}
use Rattle.lowered_rules.proofs.CountedLemmas.{fits_counted}
use Rattle.lowered_rules.proofs.ExprFit.{fits_go, go_good}
use Rattle.lowered_rules.proofs.StmtGiven.{Facts, Given, InScope, Holds, StmtHolds, W, Distinct, distinct_right, nested, end_of_group, stmt_ending, facts_of, facts_list, facts_groups, no_facts, both_facts, given_first, given_rest, given_on, given_in, anywhere, items_hold, fits_items, all_orderly}
use Rattle.lowered_rules.proofs.StmtShapes.{holds_apart, if_counted_is, not_true, same_is, leave_break, leave_continue, fits_break, fits_return, Tested, tested, tested_opt, always, GroupGood, fits_switch_at}
use Rattle.lowered_rules.proofs.ActionFit.{FitsAt, fits_act, fits_act_opt, fits_declare, in_scope_behind}

inside_of : (l : Position) → nested (last_position l) ≡ true
inside_of Anywhere = refl
inside_of LastOfGroup = refl
inside_of Body = refl
inside_of LastOfBody = refl

module _ (G : Ground) where
  abbrev S : Setting
  S = G.setting

  abbrev P : Program
  P = G.setting.program

  abbrev V : Within
  V = W G

  abbrev L : Stmt → LoweredStmt
  L t = lowered_stmt V t

  -- a body within a loop that has no count
  given_looped : (avoid : Option ℕ) (w : Where) (f : Facts) (t : Stmt) → Given G avoid w f → Each G.callee (L t).callees → f.locals ≡ (L t).locals → Each (Other G avoid) (L t).assigned → ((L t).returns ≡ true → f.returns ≡ true)
      → Given G avoid (rules.in_loop w None) (facts_of (L t))
  given_looped avoid w f t g c l a r = given_in G avoid w (rules.in_loop w None) f (facts_of (L t)) g refl c (sym l) a (λ e. refl) (λ e. refl) (λ e. g.returns (r e))

  -- ---- `if`

  fits_if : (x : Stmt) (y : Option Stmt) → StmtHolds G x → ((t : Stmt) → y ≡ Some t → StmtHolds G t) → (e : Expr) (at : Place) (avoid : Option ℕ) (w : Where)
      → Given G avoid w (facts_of (lowered_by V (stmt_parts V (StmtKind-F.If e x y)) at)) → (scope : List ℕ) → InScope G scope → (st : Stand) → stmt_by P G.result (parts_fit P G.result (StmtKind-F.If e x y)) ≡ true
      → scoping.fits_by (scoped_parts (StmtKind-F.If e x y)) st scope ≡ true → (c : Counts) → G.base ≤ c.temp → (if_at S e (L x) (option_map (lowered_stmt V) y) at c).counts.temp ≤ G.top
      → Fits G avoid w Open (if_at S e (L x) (option_map (lowered_stmt V) y) at c).items
  fits_if x None hx hy e at avoid w g scope in' st typed fits c lo hi =
      let t : Made Op = test S e at c in
      let a : Made (Unit {0}) = (L x).emit Anywhere t.counts in
      let p1 = and_parts (has_value (typing P e)) (stmt_fits P G.result x && true) typed in
      let p2 = and_parts (stmt_fits P G.result x) true p1.1 in
      let q1 = and_parts (names e scope) ((scoped x).fits st scope && true) fits in
      let q2 = and_parts ((scoped x).fits st scope) true q1.1 in
      let gx = given_first G avoid w (facts_of (L x)) no_facts (given_on G avoid w (expr_callees S e) (both_facts (facts_of (L x)) no_facts) g) in
      let tt' = (testing S e at c).temps in
      let ta = (orderly_stmt V x Anywhere t.counts).temps in
      let ft = tested G avoid w scope in' g.spared e at (value_typed (typing P e) p1.0) q1.0 (each_left G.callee (expr_callees S e) _ g.callees) c lo (omega (arith, ta, hi)) in
      fits_append G avoid w Open t.items _ ft.fits
      (fits_branch G avoid w t.value a.items [] ft.good ft.is_test refl
      (fits_may_go G avoid w a.items (anywhere G x hx avoid w gx scope in' st p2.0 q2.0 t.counts (omega (arith, lo, tt')) hi)) (fits_none G avoid w))
  fits_if x (Some y) hx hy e at avoid w g scope in' st typed fits c lo hi =
      let t : Made Op = test S e at c in
      let a : Made (Unit {0}) = (L x).emit Anywhere t.counts in
      let behind : Counts = next a.counts in
      let b : Made (Unit {0}) = (L y).emit Anywhere behind in
      let p1 = and_parts (has_value (typing P e)) (stmt_fits P G.result x && stmt_fits P G.result y) typed in
      let p2 = and_parts (stmt_fits P G.result x) (stmt_fits P G.result y) p1.1 in
      let q1 = and_parts (names e scope) ((scoped x).fits st scope && (scoped y).fits st scope) fits in
      let q2 = and_parts ((scoped x).fits st scope) ((scoped y).fits st scope) q1.1 in
      let gb = given_on G avoid w (expr_callees S e) (both_facts (facts_of (L x)) (facts_of (L y))) g in
      let gx = given_first G avoid w (facts_of (L x)) (facts_of (L y)) gb in
      let gy = given_rest G avoid w (facts_of (L x)) (facts_of (L y)) gb in
      let tt' = (testing S e at c).temps in
      let ta = (orderly_stmt V x Anywhere t.counts).temps in
      let tb = (orderly_stmt V y Anywhere behind).temps in
      let ft = tested G avoid w scope in' g.spared e at (value_typed (typing P e) p1.0) q1.0 (each_left G.callee (expr_callees S e) _ g.callees) c lo (omega (arith, ta, tb, hi)) in
      fits_append G avoid w Open t.items _ ft.fits
      (fits_branch G avoid w t.value (a.items ++ One (go at a.counts.op) ∷ []) b.items ft.good ft.is_test
      (or_second _ (ends_in_go (fittings (a.items ++ One (go at a.counts.op) ∷ []))) (go_last G a.items (go at a.counts.op) refl))
      (fits_append G avoid w MayGo a.items (One (go at a.counts.op) ∷ []) (anywhere G x hx avoid w gx scope in' st p2.0 q2.0 t.counts (omega (arith, lo, tt')) (omega (arith, tb, hi))) (fits_go G avoid w at a.counts.op))
      (anywhere G y (hy y refl) avoid w gy scope in' st p2.1 q2.1 behind (omega (arith, lo, tt', ta)) hi))

  -- ---- loops without a count

  fits_while : (body : Stmt) → StmtHolds G body → (e : Expr) (at : Place) (avoid : Option ℕ) (w : Where) → Given G avoid w (facts_of (lowered_by V (stmt_parts V (StmtKind-F.While e body)) at)) → (scope : List ℕ) → InScope G scope
      → stmt_by P G.result (parts_fit P G.result (StmtKind-F.While e body)) ≡ true → (names e scope && (scoped body).fits scoping.in_loop scope) ≡ true
      → (c : Counts) → G.base ≤ c.temp → (while_at S e (L body) at c).counts.temp ≤ G.top → Fits G avoid w Open (while_at S e (L body) at c).items
  fits_while body h e at avoid w g scope in' typed fits c lo hi =
      let v : Where = rules.in_loop w None in
      let t : Made Op = test S e at c in
      let b : Made (Unit {0}) = (L body).emit Anywhere t.counts in
      let p1 = and_parts (has_value (typing P e)) (stmt_fits P G.result body) typed in
      let q1 = and_parts (names e scope) ((scoped body).fits scoping.in_loop scope) fits in
      let gb = given_looped avoid w _ body g (each_right G.callee (expr_callees S e) (L body).callees g.callees) refl g.assigned (λ r. r) in
      let tt' = (testing S e at c).temps in
      let tb = (orderly_stmt V body Anywhere t.counts).temps in
      let ft = tested G avoid v scope in' g.spared e at (value_typed (typing P e) p1.0) q1.0 (each_left G.callee (expr_callees S e) (L body).callees g.callees) c lo (omega (arith, tb, hi)) in
      fits_loop G avoid w t.items t.value b.items [] (go at b.counts.op) ft.good ft.is_test (go_good G at b.counts.op) refl ft.fits
      (anywhere G body h avoid v gb scope in' scoping.in_loop p1.1 q1.1 t.counts (omega (arith, lo, tt')) hi) (fits_none G avoid v)

  fits_do : (body : Stmt) → StmtHolds G body → (e : Expr) (at : Place) (avoid : Option ℕ) (w : Where) → Given G avoid w (facts_of (lowered_by V (stmt_parts V (StmtKind-F.Do body e)) at)) → (scope : List ℕ) → InScope G scope
      → stmt_by P G.result (parts_fit P G.result (StmtKind-F.Do body e)) ≡ true → ((scoped body).fits scoping.in_loop scope && names e scope) ≡ true
      → (c : Counts) → G.base ≤ c.temp → (do_at S (L body) e at c).counts.temp ≤ G.top → Fits G avoid w Open (do_at S (L body) e at c).items
  fits_do body h e at avoid w g scope in' typed fits c lo = by_case (L body).continues
    where
      v : Where
      v = rules.in_loop w None

      p1 : (stmt_fits P G.result body ≡ true) × (has_value (typing P e) ≡ true)
      p1 = and_parts (stmt_fits P G.result body) (has_value (typing P e)) typed

      q1 : ((scoped body).fits scoping.in_loop scope ≡ true) × (names e scope ≡ true)
      q1 = and_parts ((scoped body).fits scoping.in_loop scope) (names e scope) fits

      gb : Given G avoid (rules.in_loop w None) (facts_of (L body))
      gb = given_looped avoid w (facts_of (lowered_by V (stmt_parts V (StmtKind-F.Do body e)) at)) body g (each_left G.callee (L body).callees (expr_callees S e) g.callees) refl g.assigned (λ r. r)

      of_test : (d : Counts) → G.base ≤ d.temp → (test S e at d).counts.temp ≤ G.top → Tested G avoid (rules.in_loop w None) scope in' g.spared (test S e at d)
      of_test d l u = tested G avoid (rules.in_loop w None) scope in' g.spared e at (value_typed (typing P e) p1.1) q1.1 (each_right G.callee (L body).callees (expr_callees S e) g.callees) d l u

      of_body : (d : Counts) → G.base ≤ d.temp → ((L body).emit Anywhere d).counts.temp ≤ G.top → Fits G avoid (rules.in_loop w None) Open ((L body).emit Anywhere d).items
      of_body d l u = anywhere G body h avoid (rules.in_loop w None) gb scope in' scoping.in_loop p1.0 q1.0 d l u

      by_step : (do_by_step S (L body) e at c).counts.temp ≤ G.top → Fits G avoid w Open (do_by_step S (L body) e at c).items
      by_step u =
          let first : Made Op = numbered (test_of (Const 1) at) c in
          let b : Made (Unit {0}) = (L body).emit Anywhere first.counts in
          let t : Made Op = test S e at b.counts in
          let again : ℕ = t.counts.op in
          let tb = (orderly_stmt V body Anywhere first.counts).temps in
          let tt' = (testing S e at b.counts).temps in
          let ft = of_test b.counts (omega (arith, lo, tb)) (omega (arith, u)) in
          let fa = always G avoid (rules.in_loop w None) scope in' g.spared at c in
          fits_loop G avoid w [] first.value b.items (t.items ++ Branch t.value (One (go at again) ∷ []) (Leave (go at (again + 1)) Break ∷ []) ∷ []) (go at (again + 1 + 1)) fa.good refl (go_good G at (again + 1 + 1)) refl (fits_none G avoid (rules.in_loop w None))
          (of_body first.counts lo (omega (arith, tt', u)))
          (fits_append G avoid (rules.in_loop w None) Open t.items _ ft.fits
          (fits_branch G avoid (rules.in_loop w None) t.value (One (go at again) ∷ []) (Leave (go at (again + 1)) Break ∷ []) ft.good ft.is_test (or_second (has_none (fittings (Leave (go at (again + 1)) Break ∷ []))) (ends_in_go (fittings (One (go at again) ∷ []))) (go_last G [] (go at again) refl))
          (fits_go G avoid (rules.in_loop w None) at again) (leave_break G avoid (rules.in_loop w None) at (record { op = again + 1; temp = t.counts.temp }) refl)))

      by_test : (do_by_test S (L body) e at c).counts.temp ≤ G.top → Fits G avoid w Open (do_by_test S (L body) e at c).items
      by_test u =
          let b : Made (Unit {0}) = (L body).emit Anywhere c in
          let t : Made Op = test S e at b.counts in
          let tb = (orderly_stmt V body Anywhere c).temps in
          let tt' = (testing S e at b.counts).temps in
          let ft = of_test b.counts (omega (arith, lo, tb)) u in
          fits_loop G avoid w (b.items ++ t.items) t.value [] [] (go at t.counts.op) ft.good ft.is_test (go_good G at t.counts.op) refl
          (fits_append G avoid (rules.in_loop w None) Open b.items t.items (of_body c lo (omega (arith, tt', u))) ft.fits) (fits_none G avoid (rules.in_loop w None)) (fits_none G avoid (rules.in_loop w None))

      by_case : (b : Bool) → ((if b then do_by_step S (L body) e at else do_by_test S (L body) e at) c).counts.temp ≤ G.top → Fits G avoid w Open ((if b then do_by_step S (L body) e at else do_by_test S (L body) e at) c).items
      by_case true u = by_step u
      by_case false u = by_test u

  -- ---- `for`

  fits_first : (f : Option ForFirst) (avoid : Option ℕ) (w : Where) (spared : Spared G avoid) (scope : List ℕ) → InScope G scope → Each G.local (first_locals f) → Each (Other G avoid) (first_locals f) → Each (Other G avoid) (first_assigned f)
      → first_fits P f ≡ true → first_names f scope ≡ true → Each G.callee (first_callees S f) → FitsAt G avoid w spared (first_of S f)
  fits_first None avoid w spared scope in' l o a t n cs c lo hi = fits_none G avoid w
  fits_first (Some (first.Declare ds)) avoid w spared scope in' l o a t n cs c lo hi = fits_declare G avoid w spared ds scope in' l o t n cs c lo hi
  fits_first (Some (first.Act x)) avoid w spared scope in' l o a t n cs c lo hi = fits_act G avoid w spared scope in' x t n cs a c lo hi

  behind_first : (f : Option ForFirst) (scope : List ℕ) → InScope G scope → Each G.local (first_locals f) → InScope G (first_behind f scope)
  behind_first None scope h l = h
  behind_first (Some (first.Declare ds)) scope h l = in_scope_behind G ds scope l h
  behind_first (Some (first.Act x)) scope h l = h

  module _ (body : Stmt) (h : StmtHolds G body) (f : Option ForFirst) (e : Option Expr) (step : Option Action) (at : Place) (avoid : Option ℕ) (w : Where)
      (g : Given G avoid w (facts_of (lowered_by V (stmt_parts V (StmtKind-F.For f e step body)) at))) (scope : List ℕ) (in' : InScope G scope)
      (typed : (first_fits P f && (tests P e && (step_fits P step && stmt_fits P G.result body))) ≡ true)
      (fits : (first_names f scope && (names_opt e (first_behind f scope) && (opt_action_names step (first_behind f scope) && (scoped body).fits scoping.in_loop (first_behind f scope)))) ≡ true) where
    t1 : (first_fits P f ≡ true) × ((tests P e && (step_fits P step && stmt_fits P G.result body)) ≡ true)
    t1 = and_parts (first_fits P f) _ typed

    t2 : (tests P e ≡ true) × ((step_fits P step && stmt_fits P G.result body) ≡ true)
    t2 = and_parts (tests P e) _ t1.1

    t3 : (step_fits P step ≡ true) × (stmt_fits P G.result body ≡ true)
    t3 = and_parts (step_fits P step) _ t2.1

    n1 : (first_names f scope ≡ true) × ((names_opt e (first_behind f scope) && (opt_action_names step (first_behind f scope) && (scoped body).fits scoping.in_loop (first_behind f scope))) ≡ true)
    n1 = and_parts (first_names f scope) _ fits

    n2 : (names_opt e (first_behind f scope) ≡ true) × ((opt_action_names step (first_behind f scope) && (scoped body).fits scoping.in_loop (first_behind f scope)) ≡ true)
    n2 = and_parts (names_opt e (first_behind f scope)) _ n1.1

    n3 : (opt_action_names step (first_behind f scope) ≡ true) × ((scoped body).fits scoping.in_loop (first_behind f scope) ≡ true)
    n3 = and_parts (opt_action_names step (first_behind f scope)) _ n2.1

    c1 : Each G.callee (opt_callees S e ++ (opt_action_callees S step ++ (L body).callees))
    c1 = each_right G.callee (first_callees S f) (opt_callees S e ++ (opt_action_callees S step ++ (L body).callees)) g.callees

    c2 : Each G.callee (opt_action_callees S step ++ (L body).callees)
    c2 = each_right G.callee (opt_callees S e) (opt_action_callees S step ++ (L body).callees) c1

    c3 : Each G.callee (L body).callees
    c3 = each_right G.callee (opt_action_callees S step) (L body).callees c2

    a1 : Each (Other G avoid) (opt_assigned step ++ (L body).assigned)
    a1 = each_right (Other G avoid) (first_assigned f) (opt_assigned step ++ (L body).assigned) g.assigned

    a2 : Each (Other G avoid) (L body).assigned
    a2 = each_right (Other G avoid) (opt_assigned step) (L body).assigned a1

    own_locals : Each G.local (first_locals f)
    own_locals = each_left G.local (first_locals f) (L body).locals g.locals

    inner : InScope G (first_behind f scope)
    inner = behind_first f scope in' own_locals

    -- the body in any loop that lets its jumps go where they go
    given_body : (v : Where) (a : Option ℕ) → Spared G a → v.in_main ≡ w.in_main → Each (Other G a) (L body).assigned → Each (Other G a) (L body).locals → ((L body).breaks ≡ true → v.breaks ≡ true) → ((L body).continues ≡ true → v.continues ≡ true)
        → ((L body).returns ≡ true → v.returns ≡ true) → Given G a v (facts_of (L body))
    given_body v a sp m as' os bs cs rs = record {
      spared = sp;
      main = m ∙ g.main;
      callees = c3;
      locals = each_right G.local (first_locals f) (L body).locals g.locals;
      distinct = distinct_right (first_locals f) (L body).locals g.distinct;
      assigned = as';
      other = os;
      breaks = bs;
      continues = cs;
      returns = rs;
    }

    other_locals : Each (Other G avoid) (L body).locals
    other_locals = each_right (Other G avoid) (first_locals f) (L body).locals g.other

    fits_plain : (c : Counts) → G.base ≤ c.temp → (for_by S f e step (L body) at None c).counts.temp ≤ G.top → Fits G avoid w Open (for_by S f e step (L body) at None c).items
    fits_plain c lo hi =
        let v : Where = rules.in_loop w None in
        let mf : Made (Unit {0}) = first_of S f c in
        let t : Made Op = test_opt S e at mf.counts in
        let b : Made (Unit {0}) = (L body).emit Anywhere t.counts in
        let on : Made (Unit {0}) = act_opt S step b.counts in
        let tf = (orderly_first S f c).temps in
        let tt' = (testing_opt S e at mf.counts).temps in
        let tb = (orderly_stmt V body Anywhere t.counts).temps in
        let ts = (orderly_act_opt S step b.counts).temps in
        let ft = tested_opt G avoid v (first_behind f scope) inner g.spared e at t2.0 n2.0 (each_left G.callee (opt_callees S e) _ c1) mf.counts (omega (arith, lo, tf)) (omega (arith, tb, ts, hi)) in
        let gb = given_body v avoid g.spared refl a2 other_locals (λ q. refl) (λ q. refl) g.returns in
        fits_append G avoid w Open mf.items _
        (fits_first f avoid w g.spared scope in' own_locals (each_left (Other G avoid) (first_locals f) (L body).locals g.other) (each_left (Other G avoid) (first_assigned f) _ g.assigned) t1.0 n1.0 (each_left G.callee (first_callees S f) _ g.callees) c lo (omega (arith, tt', tb, ts, hi)))
        (fits_loop G avoid w t.items t.value b.items on.items (go at on.counts.op) ft.good (opt_is_test e mf.counts) (go_good G at on.counts.op) refl ft.fits
        (anywhere G body h avoid v gb (first_behind f scope) inner scoping.in_loop t3.1 n3.1 t.counts (omega (arith, lo, tf, tt')) (omega (arith, ts, hi)))
        (fits_act_opt G avoid v g.spared (first_behind f scope) inner step t3.0 n3.0 (each_left G.callee (opt_action_callees S step) (L body).callees c2) (each_left (Other G avoid) (opt_assigned step) (L body).assigned a1) b.counts (omega (arith, lo, tf, tt', tb)) hi))
      where
        opt_is_test : (x : Option Expr) (d : Counts) → is_kind (test_opt S x at d).value.kind kind.Test ≡ true
        opt_is_test None d = refl
        opt_is_test (Some x) d = refl

    fits_count : (k : Count) → Counting P f k → is_counted (L body) k.variable ≡ true → (c : Counts) → G.base ≤ c.temp → (counted_loop S k (L body) at c).counts.temp ≤ G.top → Fits G avoid w Open (counted_loop S k (L body) at c).items
    fits_count k is counted c lo hi =
        let v : Where = rules.in_loop w (Some (turns k)) in
        let i : ℕ = home S k.variable in
        let start : Counts = record { op = c.op + 1 + 1; temp = c.temp } in
        let b : Made (Unit {0}) = (L body).emit Anywhere start in
        let x1 = or_neither (L body).breaks _ (not_true _ counted) in
        let x2 = or_neither (L body).continues _ x1.1 in
        let x3 = or_neither (L body).returns (stmts.holds k.variable (L body).assigned) x2.1 in
        let never : (q : Bool) → (r : Bool) → q ≡ false → q ≡ true → r ≡ true = λ q r e f'. absurd (false≢true (sym e ∙ f')) in
        let here : first_locals f ≡ k.variable ∷ [] = ap first_locals is.is_declared ∙ ap (λ z. z ∷ []) is.same in
        let loc : G.local k.variable = (subst (Each G.local) here own_locals).0 in
        let apart : Each (λ y. y ≢ k.variable) (L body).locals = (subst (λ l. Distinct (l ++ (L body).locals)) here g.distinct).0 in
        let oth : Other G avoid k.variable = (subst (Each (Other G avoid)) here (each_left (Other G avoid) (first_locals f) (L body).locals g.other)).0 in
        let known = G.local_known k.variable loc in
        let f1 = anywhere G body h avoid v (given_body v avoid g.spared refl a2 other_locals (never _ _ x1.0) (never _ _ x2.0) (never _ _ x3.0)) (first_behind f scope) inner scoping.in_loop t3.1 n3.1 start lo hi in
        let f2 = anywhere G body h (Some k.variable) v (given_body v (Some k.variable) loc refl (holds_apart k.variable (L body).assigned x3.1) apart (never _ _ x1.0) (never _ _ x2.0) (never _ _ x3.0)) (first_behind f scope) inner scoping.in_loop t3.1 n3.1 start lo hi in
        fits_counted at i k.from k.to (turns k) c.op (c.op + 1) b.counts.op (b.counts.op + 1) k.place G avoid w b.items (same_is (turns k)) (G.single k.variable is.variable known is.there is.single) (G.local_own k.variable loc)
        (writes_variable G avoid k.variable g.spared known oth) is.from is.to f1
        (each_weaker (Writes G (Some k.variable)) (λ o. o ≢ i) (λ o q. q.1) (doings b.items).writes f2.does.writes)

    pub fits_for : (c : Counts) → G.base ≤ c.temp → (for_by S f e step (L body) at (count_of S f e step (L body)) c).counts.temp ≤ G.top → Fits G avoid w Open (for_by S f e step (L body) at (count_of S f e step (L body)) c).items
    fits_for c lo = by_count (count_of S f e step (L body)) refl
      where
        by_count : (k : Option Count) → count_of S f e step (L body) ≡ k → (for_by S f e step (L body) at k c).counts.temp ≤ G.top → Fits G avoid w Open (for_by S f e step (L body) at k c).items
        by_count None q hi = fits_plain c lo hi
        by_count (Some k) q hi = let s = if_counted_is (L body) (count_head P f e step) k q in fits_count k (count_is P f e step k s.0) s.1 c lo hi

  -- ---- groups of a switch

  label_words : (ls : List Label) → labels_fit ls ≡ true → Each (λ (l : Label). label_word l.value < 2 ^ 16) ls
  label_words [] h = tt
  label_words (l ∷ ls) h = let q = and_parts (label_fits l.value) (labels_fit ls) h in (small l.value q.0, label_words ls q.1)
    where
      small : (v : Option ℕ) → label_fits v ≡ true → label_word v < 2 ^ 16
      small None e = omega arith
      small (Some n) e = grind (arith, e)

  module _ (avoid : Option ℕ) (w : Where) (scope : List ℕ) (in' : InScope G scope) (spared : Spared G avoid) (st : Stand) where
    abbrev Good : LoweredGroup → Type 0
    Good = GroupGood G avoid (rules.in_switch w) scope in' spared

    group_good : (g : Group) → EachItem (StmtHolds G) g.items → Given G avoid (rules.in_switch w) (facts_list (lowered_group V g).items) → group_fits P G.result g ≡ true
        → each_fits (scoping.in_switch st) scope (scoped_group g).items ≡ true → Good (lowered_group V g)
    group_good g h given typed fits =
        let t0 = subst (λ b. b ≡ true) (sym (sounds.group_level P G.result g)) typed in
        let t1 = and_parts (is_labelled g.labels) (labels_fit g.labels && all_hold (map (item_fits P G.result) g.items)) t0 in
        let t2 = and_parts (labels_fit g.labels) (all_hold (map (item_fits P G.result) g.items)) t1.1 in
        let f0 = subst (λ (x : ScopedGroup). each_fits (scoping.in_switch st) scope x.items ≡ true) (sym (scoped_group_level g)) fits in
        let g0 = subst (λ (x : LoweredGroup). Given G avoid (rules.in_switch w) (facts_list x.items)) (sym (group_level V g)) given in
        subst Good (group_level V g) (record {
          labels = label_words g.labels t2.0;
          orderly = all_orderly G g.items;
          fits = λ c lo hi. subst (λ e. Fits G avoid (rules.in_switch w) e (each_item LastOfGroup (map (lowered_item V) g.items) c).items) (end_of_group (ends_in_return g.items))
              (fits_items G g.items (items_hold G g.items h) avoid (rules.in_switch w) g0 scope in' (scoping.in_switch st) t2.1 f0 LastOfGroup refl c lo hi);
        })

    groups_good : (gs : List Group) → EachGroup (StmtHolds G) gs → Given G avoid (rules.in_switch w) (facts_groups (map (lowered_group V) gs)) → all_hold (map (group_fits P G.result) gs) ≡ true
        → groups_fit (scoping.in_switch st) scope (map scoped_group gs) ≡ true → Each Good (map (lowered_group V) gs)
    groups_good [] h given typed fits = tt
    groups_good (g ∷ []) h given typed fits =
        (group_good g h.0 (given_first G avoid (rules.in_switch w) (facts_list (lowered_group V g).items) no_facts given) (and_parts (group_fits P G.result g) true typed).0 fits, tt)
    groups_good (g ∷ k ∷ gs) h given typed fits =
        let t = and_parts (group_fits P G.result g) (all_hold (map (group_fits P G.result) (k ∷ gs))) typed in
        let f1 = and_parts (last_ends (scoped_group g).items) (each_fits (scoping.in_switch st) scope (scoped_group g).items && groups_fit (scoping.in_switch st) scope (map scoped_group (k ∷ gs))) fits in
        let f2 = and_parts (each_fits (scoping.in_switch st) scope (scoped_group g).items) (groups_fit (scoping.in_switch st) scope (map scoped_group (k ∷ gs))) f1.1 in (
          group_good g h.0 (given_first G avoid (rules.in_switch w) (facts_list (lowered_group V g).items) (facts_groups (map (lowered_group V) (k ∷ gs))) given) t.0 f2.0,
          groups_good (k ∷ gs) h.1 (given_rest G avoid (rules.in_switch w) (facts_list (lowered_group V g).items) (facts_groups (map (lowered_group V) (k ∷ gs))) given) t.1 f2.1,
        )

  fits_switch_stmt : (e : Expr) (gs : List Group) → EachGroup (StmtHolds G) gs → (at : Place) (avoid : Option ℕ) (w : Where) → Given G avoid w (facts_of (lowered_by V (stmt_parts V (StmtKind-F.Switch e gs)) at)) → (scope : List ℕ) → InScope G scope
      → (st : Stand) → (has_promoted (typing P e) && all_hold (map (group_fits P G.result) gs)) ≡ true → (names e scope && (labels_differ (all_labels (map scoped_group gs)) && groups_fit (scoping.in_switch st) scope (map scoped_group gs))) ≡ true
      → (c : Counts) → G.base ≤ c.temp → (switch_at S e (map (lowered_group V) gs) at c).counts.temp ≤ G.top → Fits G avoid w Open (switch_at S e (map (lowered_group V) gs) at c).items
  fits_switch_stmt e gs h at avoid w g scope in' st typed fits =
      let t = and_parts (has_promoted (typing P e)) (all_hold (map (group_fits P G.result) gs)) typed in
      let f1 = and_parts (names e scope) (labels_differ (all_labels (map scoped_group gs)) && groups_fit (scoping.in_switch st) scope (map scoped_group gs)) fits in
      let f2 = and_parts (labels_differ (all_labels (map scoped_group gs))) (groups_fit (scoping.in_switch st) scope (map scoped_group gs)) f1.1 in
      fits_switch_at G avoid w scope in' g.spared e (map (lowered_group V) gs) at (promoted_typed (typing P e) t.0) f1.0 (each_left G.callee (expr_callees S e) _ g.callees)
      (groups_good avoid w scope in' g.spared st gs h
      (given_in G avoid w (rules.in_switch w) _ (facts_groups (map (lowered_group V) gs)) g refl (each_right G.callee (expr_callees S e) _ g.callees) refl g.assigned (λ q. refl) g.continues g.returns) t.1 f2.1)

  -- ---- every statement

  level : (x : StmtLayer) (at : Place) → StmtParts (StmtHolds G) x → Holds G (lowered_by V (stmt_parts V x) at) (scoping.kind_by (scoped_parts x)) (stmt_by P G.result (parts_fit P G.result x)) (stmt_ending x)
  level (StmtKind-F.Block bs) at h avoid w g scope in' st typed fits last c lo hi = fits_items G bs (items_hold G bs h) avoid w g scope in' st typed fits (last_position last) (inside_of last) c lo hi
  level StmtKind-F.Empty at h avoid w g scope in' st typed fits last c lo hi = fits_none G avoid w
  level (StmtKind-F.«StmtKind::Act» a) at h avoid w g scope in' st typed fits last c lo hi = fits_act G avoid w g.spared scope in' a typed fits g.callees g.assigned c lo hi
  level StmtKind-F.Break at h avoid w g scope in' st typed fits last c lo hi = fits_break G avoid w last at c (g.breaks refl)
  level StmtKind-F.Continue at h avoid w g scope in' st typed fits last c lo hi = leave_continue G avoid w at c (g.continues refl)
  level (StmtKind-F.Return e) at h avoid w g scope in' st typed fits last c lo hi = fits_return G avoid w scope in' g.spared e last at g.main (g.returns refl) typed fits g.callees c lo hi
  level (StmtKind-F.If e x None) at h avoid w g scope in' st typed fits last c lo hi = fits_if x None h.0 (λ t q. absurd (cc)) e at avoid w g scope in' st typed fits c lo hi
  level (StmtKind-F.If e x (Some y)) at h avoid w g scope in' st typed fits last c lo hi = fits_if x (Some y) h.0 (λ t q. let same : y ≡ t = cc in subst (StmtHolds G) same h.1) e at avoid w g scope in' st typed fits c lo hi
  level (StmtKind-F.While e body) at h avoid w g scope in' st typed fits last c lo hi = fits_while body h e at avoid w g scope in' typed fits c lo hi
  level (StmtKind-F.Do body e) at h avoid w g scope in' st typed fits last c lo hi = fits_do body h e at avoid w g scope in' typed fits c lo hi
  level (StmtKind-F.For f e step body) at h avoid w g scope in' st typed fits last c lo hi = fits_for body h f e step at avoid w g scope in' typed fits c lo hi
  level (StmtKind-F.Switch e gs) at h avoid w g scope in' st typed fits last c lo hi = fits_switch_stmt e gs h at avoid w g scope in' st typed fits c lo hi

  pub stmt_holds : (t : Stmt) → StmtHolds G t
  stmt_holds = stmt_induction P (StmtHolds G) (λ t h.
      subst (λ l. Holds G l (scoped t) (stmt_fits P G.result t) (stmt_ending (out-StmtKind t.kind))) (stmt_level V t)
      (subst (λ sc. Holds G (lowered_by V (stmt_parts V (out-StmtKind t.kind)) t.place) sc (stmt_fits P G.result t) (stmt_ending (out-StmtKind t.kind))) (scoped_level t)
      (subst (λ b. Holds G (lowered_by V (stmt_parts V (out-StmtKind t.kind)) t.place) (scoping.kind_by (scoped_parts (out-StmtKind t.kind))) b (stmt_ending (out-StmtKind t.kind))) (sounds.stmt_level P G.result t)
      (level (out-StmtKind t.kind) t.place h))))
