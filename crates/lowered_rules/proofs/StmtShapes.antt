-- Returns, tests and groups of a switch give items that fit.
use Rattle.std.proofs.Common.{◌≡◌, ◌≢◌, ℕ, ◌^◌, ◌<◌, ◌≤◌, ◌==◌, Bool, true, false, Option, Some, None, List, [], ◌∷◌, ◌++◌, refl, sym, subst, ◌∙◌, arith}
use Rattle.std.specs.Prelude.{not, if◌then◌else◌}
use Rattle.std.proofs.lemmas.Bool.{false≢true}
use Rattle.base_io.specs.declared.place.Place.{Place}
use Rattle.c_values.specs.declared.ops.Ty.{Ty}
use Rattle.c_tree.specs.Nodes.{has_default}
use Rattle.c_tree.specs.declared.tree.Expr.{Expr}
use Rattle.c_tree.specs.declared.tree.Label.{Label}
use Rattle.c_tree.specs.declared.tree.Program.{Program}
use Rattle.sound_programs.specs.Scoped.{names, names_opt}
use Rattle.sound_programs.specs.Sound.{typing, return_fits, tests}
use Rattle.flow_graph.specs.declared.graph.Operand.{Operand}
use Rattle.flow_graph.specs.declared.graph.Operand.TheVariants.{Const}
use Rattle.flow_graph.specs.declared.graph.OpKind.TheVariants as kind
use Rattle.flow_graph.specs.declared.graph.LeaveTo.TheVariants.{Break, Continue, Back}
use Rattle.flow_graph.specs.declared.graph.Op.{Op}
use Rattle.flow_graph.specs.declared.graph.Item.{Item}
use Rattle.flow_graph.specs.declared.graph.Item.TheVariants.{One}
use Rattle.flow_graph.specs.Rules as rules
use Rattle.flow_graph.specs.Rules.{Where, Ending, Open, MayGo, Returns, Doing, doings, fittings, has_none, ends_in_go, return_kind, is_kind}
use Rattle.lowered_graphs.specs.declared.loops.Count.{Count}
use Rattle.lowered_graphs.specs.declared.positions.Position.{Position}
use Rattle.lowered_graphs.specs.declared.positions.Position.TheVariants.{Anywhere, LastOfGroup, Body, LastOfBody}
use Rattle.lowered_graphs.specs.Making.{Counts, Made, Emit, numbered, leave, make_of, go, plain, test_of, zero_operand}
use Rattle.lowered_graphs.specs.Exprs.{Setting, result_home, full}
use Rattle.lowered_graphs.specs.Stmts as stmts
use Rattle.lowered_graphs.specs.Stmts.{Within, LoweredStmt, LoweredGroup, act_opt, declare, each_item, last_position, break_at, return_op, return_main, return_from, return_at, test, test_opt, no_arm, yes_arm, if_at, loop_at, while_at, do_step, do_by_step, do_by_test, do_at, is_counted, if_counted, counted_turns, counted_loop, first_of, for_loop, for_by, count_of, labels, more_labels, one_more_label, equals, label_word, group_items, default_items, group_branch, groups_from, all_groups, give_switch, switch_at, lowered_by, item_by, stmt_parts, item_parts, group_parts, lowered_stmt, lowered_item, lowered_group, any_of, all_of, any_in, all_in, any_of_groups, all_of_groups, opt_assigned, first_assigned, first_locals, declared_locals, expr_callees, opt_callees, opt_action_callees, first_callees}
use Rattle.lowered_rules.proofs.EachLemmas.{Each, and_both, or_second, or_neither}
use Rattle.lowered_rules.proofs.OrderLemmas.{Orderly, next}
use Rattle.lowered_rules.proofs.StmtOrder.{OrderlyAll, OrderlyGroups, orderly_full, orderly_labels, orderly_more, orderly_group, orderly_groups, orderly_default}
use Rattle.lowered_rules.proofs.TypedParts.{Typed, value_typed, type_typed}
use Rattle.lowered_rules.proofs.FitLemmas.{Ground, OperandGood, GoodOp, Writes, Fits, fits_none, fits_append, fits_one, fits_leave, fits_branch, fits_switch, go_last, Spared, writes_result}
use Rattle.lowered_rules.proofs.ExprFit.{GivesAt, gives_make, fits_go, go_good, test_good, zero_good, fits_copy, copy_makes, equal_makes, or_makes}
use Rattle.lowered_rules.proofs.StmtGiven.{InScope, W, at_end}
use Rattle.lowered_rules.proofs.ActionFit.{FitsAt, gives}

pub same_is : (n : ℕ) → (n == n) ≡ true
same_is n = grind arith

pub not_true : (b : Bool) → not b ≡ true → b ≡ false
not_true true h = absurd (false≢true h)
not_true false h = refl

pub holds_apart : (x : ℕ) (ys : List ℕ) → stmts.holds x ys ≡ false → Each (λ y. y ≢ x) ys
holds_apart x [] h = tt
holds_apart x (y ∷ ys) h =
    let n = or_neither (x == y) (stmts.holds x ys) h in
    ((λ e. let t : (x == y) ≡ true = subst (λ z. (x == z) ≡ true) (sym e) (same_is x) in absurd (false≢true (sym n.0 ∙ t))), holds_apart x ys n.1)

return_typed : (p : Program) (r : Option Ty) (e : Expr) → return_fits p r (Some e) ≡ true → (ty : Ty) × (r ≡ Some ty) × Typed p e
return_typed p None e h = absurd (false≢true h)
return_typed p (Some ty) e h = (ty, refl, type_typed ty (typing p e) h)

pub if_counted_is : (body : LoweredStmt) (k : Option Count) (c : Count) → if_counted body k ≡ Some c → (k ≡ Some c) × (is_counted body c.variable ≡ true)
if_counted_is body None c h = absurd (cc)
if_counted_is body (Some k) c h = by_test (is_counted body k.variable) refl h
  where
    by_test : (b : Bool) → is_counted body k.variable ≡ b → (if b then Some k else None) ≡ Some c → (Some k ≡ Some c) × (is_counted body c.variable ≡ true)
    by_test true e q = (q, let same : k ≡ c = cc in subst (λ (z : Count). is_counted body z.variable ≡ true) same e)
    by_test false e q = absurd (cc)

module _ (G : Ground) where
  abbrev S : Setting
  S = G.setting

  abbrev P : Program
  P = G.setting.program

  abbrev V : Within
  V = W G

  -- ---- leaves and returns

  pub leave_break : (avoid : Option ℕ) (w : Where) (at : Place) (c : Counts) → w.breaks ≡ true → Fits G avoid w Open (leave Break (go at) c).items
  leave_break avoid w at c h = fits_leave G avoid w (go at c.op) Break (go_good G at c.op) (and_both w.breaks true h refl) tt

  pub leave_continue : (avoid : Option ℕ) (w : Where) (at : Place) (c : Counts) → w.continues ≡ true → Fits G avoid w Open (leave Continue (go at) c).items
  leave_continue avoid w at c h = fits_leave G avoid w (go at c.op) Continue (go_good G at c.op) (and_both w.continues true h refl) tt

  pub fits_break : (avoid : Option ℕ) (w : Where) (last : Position) (at : Place) (c : Counts) → w.breaks ≡ true → Fits G avoid w Open (break_at last at c).items
  fits_break avoid w LastOfGroup at c h = fits_none G avoid w
  fits_break avoid w Anywhere at c h = leave_break avoid w at c h
  fits_break avoid w Body at c h = leave_break avoid w at c h
  fits_break avoid w LastOfBody at c h = leave_break avoid w at c h

  fits_return_op : (avoid : Option ℕ) (w : Where) (last : Position) (f : ℕ → Op) (c : Counts) → GoodOp G (f c.op) → is_kind (f c.op).kind (return_kind w.in_main) ≡ true → Each (Writes G avoid) (rules.written (f c.op)) → w.returns ≡ true
      → Fits G avoid w (at_end true last) (return_op last f c).items
  fits_return_op avoid w LastOfBody f c good k writes r = fits_one G avoid w Returns (f c.op) good k writes
  fits_return_op avoid w Anywhere f c good k writes r = fits_leave G avoid w (f c.op) Back good (and_both w.returns _ r k) writes
  fits_return_op avoid w LastOfGroup f c good k writes r = fits_leave G avoid w (f c.op) Back good (and_both w.returns _ r k) writes
  fits_return_op avoid w Body f c good k writes r = fits_leave G avoid w (f c.op) Back good (and_both w.returns _ r k) writes

  finishes : (w : Where) → w.in_main ≡ true → is_kind kind.Finish (return_kind w.in_main) ≡ true
  finishes w h = subst (λ b. is_kind kind.Finish (return_kind b) ≡ true) (sym h) refl

  returns_kind : (w : Where) → w.in_main ≡ false → is_kind kind.Ret (return_kind w.in_main) ≡ true
  returns_kind w h = subst (λ b. is_kind kind.Ret (return_kind b) ≡ true) (sym h) refl

  finish_op : (avoid : Option ℕ) (w : Where) (last : Position) (a : Operand) (at : Place) (c : Counts) → w.in_main ≡ true → w.returns ≡ true → OperandGood G true a → Fits G avoid w (at_end true last) (return_op last (plain kind.Finish a at) c).items
  finish_op avoid w last a at c m r h = fits_return_op avoid w last (plain kind.Finish a at) c (record { dest = refl; a = h; b = refl; array = refl; count = tt }) (finishes w m) tt r

  ret_op : (avoid : Option ℕ) (w : Where) (last : Position) (at : Place) (c : Counts) → w.in_main ≡ false → w.returns ≡ true → Fits G avoid w (at_end true last) (return_op last (plain kind.Ret zero_operand at) c).items
  ret_op avoid w last at c m r = fits_return_op avoid w last (plain kind.Ret zero_operand at) c (record { dest = refl; a = refl; b = refl; array = refl; count = tt }) (returns_kind w m) tt r

  module _ (avoid : Option ℕ) (w : Where) (scope : List ℕ) (in_scope : InScope G scope) (spared : Spared G avoid) where
    value : (e : Expr) → Typed P e → names e scope ≡ true → Each G.callee (expr_callees S e) → GivesAt G avoid w (full S e)
    value e t n c = gives G avoid w spared scope in_scope e t n c false

    pub fits_return : (e : Option Expr) (last : Position) (at : Place) → w.in_main ≡ G.is_main → w.returns ≡ true → return_fits P G.result e ≡ true → names_opt e scope ≡ true → Each G.callee (opt_callees S e)
        → (c : Counts) → G.base ≤ c.temp → (return_at V e last at c).counts.temp ≤ G.top → Fits G avoid w (at_end true last) (return_at V e last at c).items
    fits_return e last at m r f n cs c lo hi = by_main G.is_main refl hi
      where
        ends_main : (last : Position) (a : Operand) (d : Counts) → (return_op last (plain kind.Finish a at) d).counts.temp ≡ d.temp
        ends_main Anywhere a d = refl
        ends_main LastOfGroup a d = refl
        ends_main Body a d = refl
        ends_main LastOfBody a d = refl

        ends_from : (last : Position) (d : Counts) → (return_op last (plain kind.Ret zero_operand at) d).counts.temp ≡ d.temp
        ends_from Anywhere d = refl
        ends_from LastOfGroup d = refl
        ends_from Body d = refl
        ends_from LastOfBody d = refl

        in_main : (e : Option Expr) → G.is_main ≡ true → return_fits P G.result e ≡ true → names_opt e scope ≡ true → Each G.callee (opt_callees S e) → (return_main V e last at c).counts.temp ≤ G.top
            → Fits G avoid w (at_end true last) (return_main V e last at c).items
        in_main None t f n cs hi = finish_op avoid w last zero_operand at c (m ∙ t) r (zero_good G true)
        in_main (Some x) t f n cs hi =
            let mx : Made Operand = full S x c in
            let ty = return_typed P G.result x f in
            let g = value x ty.2 n cs c lo (omega (arith, hi, ends_main last mx.value mx.counts)) in
            fits_append G avoid w (at_end true last) mx.items _ g.fits (finish_op avoid w last mx.value at mx.counts (m ∙ t) r g.value)

        from : (e : Option Expr) → G.is_main ≡ false → return_fits P G.result e ≡ true → names_opt e scope ≡ true → Each G.callee (opt_callees S e) → (return_from V e last at c).counts.temp ≤ G.top
            → Fits G avoid w (at_end true last) (return_from V e last at c).items
        from None t f n cs hi = ret_op avoid w last at c (m ∙ t) r
        from (Some x) t f n cs hi =
            let mx : Made Operand = full S x c in
            let ty = return_typed P G.result x f in
            let behind : Counts = next mx.counts in
            let g = value x ty.2 n cs c lo (omega (arith, hi, ends_from last behind)) in
            fits_append G avoid w (at_end true last) mx.items _ g.fits (fits_append G avoid w (at_end true last) (_ ∷ []) _
            (fits_copy G avoid w (result_home S G.function) mx.value at mx.counts.op (G.own_result ty.0 t ty.1).0 (writes_result G avoid ty.0 spared t ty.1) g.value)
            (ret_op avoid w last at behind (m ∙ t) r))

        by_main : (b : Bool) → G.is_main ≡ b → ((if b then return_main V e last at else return_from V e last at) c).counts.temp ≤ G.top
            → Fits G avoid w (at_end true last) ((if b then return_main V e last at else return_from V e last at) c).items
        by_main true t hi = in_main e t f n cs hi
        by_main false t hi = from e t f n cs hi

    -- ---- tests

    pub record Tested (m : Made Op) : Type 0 where
      pub fits : Fits G avoid w Open m.items
      pub good : GoodOp G m.value
      pub is_test : is_kind m.value.kind kind.Test ≡ true

    pub tested : (e : Expr) (at : Place) → Typed P e → names e scope ≡ true → Each G.callee (expr_callees S e) → (c : Counts) → G.base ≤ c.temp → (test S e at c).counts.temp ≤ G.top → Tested (test S e at c)
    tested e at t n cs c lo hi =
        let g = value e t n cs c lo hi in
        record {
          fits = fits_append G avoid w Open (full S e c).items [] g.fits (fits_none G avoid w);
          good = test_good G (full S e c).value at (full S e c).counts.op g.value;
          is_test = refl;
        }

    pub always : (at : Place) (c : Counts) → Tested (numbered (test_of (Const 1) at) c)
    always at c = record { fits = fits_none G avoid w; good = test_good G (Const 1) at c.op (omega arith); is_test = refl }

    pub tested_opt : (e : Option Expr) (at : Place) → tests P e ≡ true → names_opt e scope ≡ true → Each G.callee (opt_callees S e) → (c : Counts) → G.base ≤ c.temp → (test_opt S e at c).counts.temp ≤ G.top → Tested (test_opt S e at c)
    tested_opt None at t n cs c lo hi = always at c
    tested_opt (Some e) at t n cs c lo hi = tested e at (value_typed (typing P e) t) n cs c lo hi

    -- ---- labels

    gives_equals : (v : Operand) (l : Label) → OperandGood G true v → label_word l.value < 2 ^ 16 → GivesAt G avoid w (equals v l)
    gives_equals v l gv h = gives_make G avoid w spared kind.Eq true v (Const (label_word l.value)) l.place equal_makes gv h

    gives_more : (v found : Operand) (ls : List Label) → OperandGood G true v → OperandGood G true found → Each (λ (l : Label). label_word l.value < 2 ^ 16) ls → GivesAt G avoid w (more_labels v found ls)
    gives_more v found [] gv gf h c lo hi = record { fits = fits_none G avoid w; value = gf }
    gives_more v found (l ∷ ls) gv gf h c lo hi =
        let t : Made Operand = equals v l c in
        let o : Made Operand = make_of kind.BitOr found t.value l.place t.counts in
        let r : Made Operand = more_labels v o.value ls o.counts in
        let tr = (orderly_more v o.value ls o.counts).temps in
        let gt = gives_equals v l gv h.0 c lo (omega (arith, tr, hi)) in
        let go' = gives_make G avoid w spared kind.BitOr true found t.value l.place or_makes gf gt.value t.counts (omega (arith, lo)) (omega (arith, tr, hi)) in
        let gr = gives_more v o.value ls gv go'.value h.1 o.counts (omega (arith, lo)) hi in
        record {
          fits = fits_append G avoid w Open (t.items ++ o.items) r.items (fits_append G avoid w Open t.items o.items gt.fits go'.fits) gr.fits;
          value = gr.value;
        }

    gives_labels : (v : Operand) (ls : List Label) → OperandGood G true v → Each (λ (l : Label). label_word l.value < 2 ^ 16) ls → GivesAt G avoid w (labels v ls)
    gives_labels v [] gv h c lo hi = record { fits = fits_none G avoid w; value = zero_good G true }
    gives_labels v (l ∷ ls) gv h c lo hi =
        let t : Made Operand = equals v l c in
        let tr = (orderly_more v t.value ls t.counts).temps in
        let gt = gives_equals v l gv h.0 c lo (omega (arith, tr, hi)) in
        let gr = gives_more v t.value ls gv gt.value h.1 t.counts (omega (arith, lo)) hi in
        record { fits = fits_append G avoid w Open t.items _ gt.fits gr.fits; value = gr.value }

    -- ---- groups

    pub record GroupGood (g : LoweredGroup) : Type 0 where
      pub labels : Each (λ (l : Label). label_word l.value < 2 ^ 16) g.labels
      pub orderly : OrderlyAll g.items
      pub fits : FitsAt G avoid w spared (group_items g)

    groups_orderly : (gs : List LoweredGroup) → Each GroupGood gs → OrderlyGroups gs
    groups_orderly [] h = tt
    groups_orderly (g ∷ gs) h = (h.0.orderly, groups_orderly gs h.1)

    fits_if_else : {A : Type 0} (b : Bool) (x y : Emit A) → FitsAt G avoid w spared x → FitsAt G avoid w spared y → FitsAt G avoid w spared (if b then x else y)
    fits_if_else true x y h k = h
    fits_if_else false x y h k = k

    fits_default : (gs : List LoweredGroup) → Each GroupGood gs → FitsAt G avoid w spared (default_items gs)
    fits_default [] h = λ c lo hi. fits_none G avoid w
    fits_default (g ∷ gs) h = fits_if_else (has_default g.labels) (group_items g) (default_items gs) h.0.fits (fits_default gs h.1)

    fits_group_branch : (v : Operand) (g : LoweredGroup) (others : Emit (Unit {0})) (at : Place) → OperandGood G true v → GroupGood g → Orderly others → FitsAt G avoid w spared others → FitsAt G avoid w spared (group_branch v g others at)
    fits_group_branch v g others at gv gg oo h c lo hi =
        let a : Made Operand = labels v g.labels c in
        let x : Made (Unit {0}) = group_items g (next a.counts) in
        let behind : Counts = next x.counts in
        let ta = (orderly_labels v g.labels c).temps in
        let tx = (orderly_group g gg.orderly (next a.counts)).temps in
        let to = (oo behind).temps in
        let ga = gives_labels v g.labels gv gg.labels c lo (omega (arith, tx, to, hi)) in
        fits_append G avoid w Open a.items _ ga.fits
        (fits_branch G avoid w (test_of a.value at a.counts.op) (x.items ++ One (go at x.counts.op) ∷ []) (others behind).items (test_good G a.value at a.counts.op ga.value) refl
        (or_second _ (ends_in_go (fittings (x.items ++ One (go at x.counts.op) ∷ []))) (go_last G x.items (go at x.counts.op) refl))
        (fits_append G avoid w MayGo x.items (One (go at x.counts.op) ∷ []) (gg.fits (next a.counts) (omega (arith, lo, ta)) (omega (arith, to, hi))) (fits_go G avoid w at x.counts.op))
        (h behind (omega (arith, lo, ta, tx)) hi))

    fits_groups : (v : Operand) (gs : List LoweredGroup) (others : Emit (Unit {0})) (at : Place) → OperandGood G true v → Each GroupGood gs → Orderly others → FitsAt G avoid w spared others → FitsAt G avoid w spared (groups_from v gs others at)
    fits_groups v [] others at gv gg oo h = h
    fits_groups v (g ∷ gs) others at gv gg oo h = fits_if_else (has_default g.labels) (groups_from v gs others at) (group_branch v g (groups_from v gs others at) at) (fits_groups v gs others at gv gg.1 oo h)
        (fits_group_branch v g (groups_from v gs others at) at gv gg.0 (orderly_groups v gs others at (groups_orderly gs gg.1) oo) (fits_groups v gs others at gv gg.1 oo h))

    fits_all_groups : (v : Operand) (gs : List LoweredGroup) (at : Place) → OperandGood G true v → Each GroupGood gs → FitsAt G avoid w spared (all_groups v gs at)
    fits_all_groups v gs at gv gg = fits_groups v gs (default_items gs) at gv gg (orderly_default gs (groups_orderly gs gg)) (fits_default gs gg)

  fits_given : (avoid : Option ℕ) (w : Where) (items : List Item) (d : Counts) → Fits G avoid (rules.in_switch w) Open items → Fits G avoid w Open (give_switch items d).items
  fits_given avoid w [] d h = fits_none G avoid w
  fits_given avoid w (x ∷ xs) d h = fits_switch G avoid w (x ∷ xs) h

  pub fits_switch_at : (avoid : Option ℕ) (w : Where) (scope : List ℕ) (in_scope : InScope G scope) (spared : Spared G avoid) (e : Expr) (gs : List LoweredGroup) (at : Place) → Typed P e → names e scope ≡ true → Each G.callee (expr_callees S e)
      → Each (GroupGood avoid (rules.in_switch w) scope in_scope spared) gs → FitsAt G avoid w spared (switch_at S e gs at)
  fits_switch_at avoid w scope in_scope spared e gs at t n cs gg c lo hi =
      let m : Made Operand = full S e c in
      let v : Made Operand = make_of kind.Copy m.value zero_operand at m.counts in
      let x : Made (Unit {0}) = all_groups v.value gs at v.counts in
      let og = groups_orderly avoid (rules.in_switch w) scope in_scope spared gs gg in
      let tm = (orderly_full S e c).temps in
      let tx = (orderly_groups v.value gs (default_items gs) at og (orderly_default gs og) v.counts).temps in
      let ends = given_temp x.items x.counts in
      let gm = value avoid w scope in_scope spared e t n cs c lo (omega (arith, tx, ends, hi)) in
      let gv = gives_make G avoid w spared kind.Copy false m.value zero_operand at copy_makes gm.value refl m.counts (omega (arith, lo, tm)) (omega (arith, tx, ends, hi)) in
      fits_append G avoid w Open m.items _ gm.fits (fits_append G avoid w Open v.items _ gv.fits
      (fits_given avoid w x.items x.counts (fits_all_groups avoid (rules.in_switch w) scope in_scope spared v.value gs at gv.value gg v.counts (omega (arith, lo, tm)) (omega (arith, ends, hi)))))
    where
      given_temp : (items : List Item) (d : Counts) → (give_switch items d).counts.temp ≡ d.temp
      given_temp [] d = refl
      given_temp (x ∷ xs) d = refl
