-- Actions and declarations give items that fit anywhere.
use Rattle.std.proofs.Common.{◌≡◌, ◌≢◌, ℕ, ◌+◌, ◌-◌, ◌^◌, ◌<◌, ◌≤◌, ◌==◌, Bool, true, false, Option, Some, None, List, [], ◌∷◌, ◌++◌, inl, inr, refl, sym, ap, subst, ◌∙◌, arith}
use Rattle.std.specs.Prelude.{⊤, ◌&&◌, not, length, nat_le, slice_get, is_none, is_some, if◌then◌else◌}
use Rattle.std.proofs.lemmas.Bool.{and_parts, or_cases, false≢true, eqb-true}
use Rattle.base_io.specs.declared.place.Place.{Place}
use Rattle.c_values.specs.declared.ops.Ty.{Ty}
use Rattle.c_values.specs.declared.ops.BinaryOp.{BinaryOp}
use Rattle.c_tree.specs.Nodes.{same_type, type_of}
use Rattle.c_tree.specs.declared.tree.Variable.{Variable}
use Rattle.c_tree.specs.declared.tree.Expr.{Expr}
use Rattle.c_tree.specs.declared.tree.Target.{Target}
use Rattle.c_tree.specs.declared.tree.Action.{Action}
use Rattle.c_tree.specs.declared.tree.Action.TheVariants as action
use Rattle.c_tree.specs.declared.tree.Declared.{Declared}
use Rattle.sound_programs.specs.Scoped.{holds, names, names_opt, names_each, action_names, opt_action_names, declared_names, declared_behind}
use Rattle.sound_programs.specs.Sound.{typing, has_value, has_type, has_promoted, promoted, is_shift, is_compound, target_fits, assign_fits, works_in, update_fits, action_fits, step_fits, declared_as, declared_fit, values_fit, capacity}
use Rattle.flow_graph.specs.declared.graph.Operand.{Operand}
use Rattle.flow_graph.specs.declared.graph.Operand.TheVariants.{Const, Object}
use Rattle.flow_graph.specs.declared.graph.OpKind.TheVariants as kind
use Rattle.flow_graph.specs.declared.graph.ArrayUse.{ArrayUse}
use Rattle.flow_graph.specs.declared.graph.Item.TheVariants.{One}
use Rattle.flow_graph.specs.Rules.{Where, Open, Doing, in_loop}
use Rattle.lowered_graphs.specs.Making.{Counts, Made, Emit, nothing, op_of, zero_operand, copy_into, store_into}
use Rattle.lowered_graphs.specs.Operators.{make_binary, make_conversion}
use Rattle.lowered_graphs.specs.Exprs.{Setting, home, array_use, length_in, length_or, lowered, full, calls, load, read_scalar}
use Rattle.lowered_graphs.specs.Stmts.{calls_in, index_of, store_to, load_from, right_side, assign, finish_update, update, act, act_opt, zero_array, fill_one, fill, declare_scalar, declare_array, declare_one, declare, action_assigned, opt_assigned, declared_locals, expr_callees, opt_callees, exprs_callees, action_callees, opt_action_callees, declared_callees}
use Rattle.lowered_rules.proofs.EachLemmas.{Each, each_left, each_right}
use Rattle.lowered_rules.proofs.ItemLevels.{doing-One}
use Rattle.lowered_rules.proofs.ExprOrder.{orderly_binary, orderly_conversion}
use Rattle.lowered_rules.proofs.StmtOrder.{orderly_full, orderly_index, orderly_store, orderly_load_from, orderly_right, orderly_finish, orderly_fill, orderly_declare, orderly_declare_one}
use Rattle.lowered_rules.proofs.TypedParts.{Typed, value_typed, type_typed, promoted_typed, if_either}
use Rattle.lowered_rules.proofs.FitLemmas.{Ground, OperandGood, Writes, Fits, fits_none, fits_append, fits_one, Spared, Other, writes_temporary, writes_variable}
use Rattle.lowered_rules.proofs.CountedLemmas.{fits_counted}
use Rattle.lowered_rules.proofs.ExprFit.{GivesAt, gives_pure, gives_binary, gives_conversion, gives_read, gives_load, zero_good, fits_copy, expr_gives}

none_is : (n : Option ℕ) → is_none n ≡ true → n ≡ None
none_is None h = refl
none_is (Some n) h = absurd (false≢true h)

there_is : (n : Option ℕ) → is_some n ≡ true → (k : ℕ) × (n ≡ Some k)
there_is None h = absurd (false≢true h)
there_is (Some n) h = (n, refl)

module _ (G : Ground) where
  abbrev s : Setting
  s = G.setting

  -- what is declared is in reach behind its declarator
  pub in_scope_more : (d : ℕ) (scope : List ℕ) → G.known d → ((x : ℕ) → holds x scope ≡ true → G.known x) → (x : ℕ) → holds x (d ∷ scope) ≡ true → G.known x
  in_scope_more d scope k h x e = elim (or_cases (x == d) (holds x scope) e) [
    | inl same ↦ subst G.known (sym (eqb-true x d same)) k
    | inr more ↦ h x more
  ]

  pub in_scope_behind : (ds : List Declared) (scope : List ℕ) → Each G.local (declared_locals ds) → ((x : ℕ) → holds x scope ≡ true → G.known x) → (x : ℕ) → holds x (declared_behind ds scope) ≡ true → G.known x
  in_scope_behind [] scope l h = h
  in_scope_behind (d ∷ ds) scope l h = in_scope_behind ds (d.variable ∷ scope) l.1 (in_scope_more d.variable scope (G.local_known d.variable l.0) h)

  module _ (avoid : Option ℕ) (w : Where) (spared : Spared G avoid) where
    abbrev pub FitsAt : {A : Type 0} → Emit A → Type 0
    FitsAt e = (c : Counts) → G.base ≤ c.temp → (e c).counts.temp ≤ G.top → Fits G avoid w Open (e c).items

    pub fits_nothing : FitsAt nothing
    fits_nothing c lo hi = fits_none G avoid w

    pub fits_into : (o : ℕ) (a : Operand) (at : Place) → G.scalar o → Writes G avoid o → OperandGood G true a → FitsAt (copy_into o a at)
    fits_into o a at sc wr ga c lo hi = fits_copy G avoid w o a at c.op sc wr ga

    fits_store_into : (array : ArrayUse) (a i : Operand) (at : Place) → G.array array.object array.length → Writes G avoid array.object → OperandGood G true a → OperandGood G true i → FitsAt (store_into array a i at)
    fits_store_into array a i at ar wr ga gi c lo hi =
        fits_one G avoid w Open (op_of kind.Store None a i (Some array) at c.op) (record { dest = refl; a = ga; b = gi; array = ar; count = tt }) refl (wr, tt)

    -- ---- the zeros of an array

    zeros : (array : ArrayUse) (at : Place) → G.array array.object array.length → Writes G avoid array.object → FitsAt (zero_array array at)
    zeros array at ar wr c lo hi =
        let low : G.base ≤ c.temp = lo in
        let high : c.temp < G.top = omega (arith, hi) in
        let t = G.temporary c.temp low high in
        fits_counted at c.temp 0 array.length array.length c.op (c.op + 1) (c.op + 1 + 1 + 1) (c.op + 1 + 1 + 1 + 1) at G avoid w
        (One (op_of kind.Store None zero_operand (Object c.temp) (Some array) at (c.op + 1 + 1)) ∷ []) (whole array.length) t.0 t.2 (writes_temporary G avoid c.temp spared low high) (omega arith) (G.small array.object array.length ar)
        (fits_one G avoid (in_loop w (Some array.length)) Open (op_of kind.Store None zero_operand (Object c.temp) (Some array) at (c.op + 1 + 1)) (record { dest = refl; a = zero_good G true; b = t.0; array = ar; count = tt }) refl (wr, tt))
        (subst (λ (d : Doing). Each (λ o. o ≢ c.temp) (d.writes ++ [])) (sym (doing-One (op_of kind.Store None zero_operand (Object c.temp) (Some array) at (c.op + 1 + 1)))) (G.array_temporary c.temp array.object array.length low high ar, tt))
      where
        whole : (n : ℕ) → (n == n - 0) ≡ true
        whole n = grind arith

    module _ (scope : List ℕ) (in_scope : (x : ℕ) → holds x scope ≡ true → G.known x) where
      pub gives : (e : Expr) → Typed s.program e → names e scope ≡ true → Each G.callee (expr_callees s e) → (later : Bool) → GivesAt G avoid w ((lowered s e).emit later)
      gives = expr_gives G avoid w spared scope in_scope

      abbrev ExprOk : Expr → Type 0
      ExprOk e = Typed s.program e × (names e scope ≡ true) × Each G.callee (expr_callees s e)

      abbrev IndexOk : Option Expr → Type 0
      IndexOk None = ⊤
      IndexOk (Some e) = ExprOk e

      gives_index : (i : Option Expr) → IndexOk i → (later : Bool) → GivesAt G avoid w (index_of s i later)
      gives_index None h later = gives_pure G avoid w zero_operand (zero_good G true)
      gives_index (Some e) h later = gives e h.0 h.1 h.2 later

      gives_right : (e : Option Expr) → IndexOk e → GivesAt G avoid w (right_side s e)
      gives_right None h = gives_pure G avoid w (Const 1) (omega arith)
      gives_right (Some e) h = gives e h.0 h.1 h.2 false

      -- ---- what is assigned to

      abbrev Here : Target → ℕ
      Here to = home s to.variable

      record TargetOk (to : Target) : Type 0 where
        pub scalar : is_none to.index ≡ true → G.scalar (Here to)
        pub array : is_none to.index ≡ false → G.array (Here to) (length_in (slice_get s.program.variables to.variable))
        pub writes : Writes G avoid (Here to)

      fits_store : (to : Target) (i a : Operand) → TargetOk to → OperandGood G true i → OperandGood G true a → FitsAt (store_to s to i a)
      fits_store to i a ok gi ga = by_case (is_none to.index) ok.scalar ok.array
        where
          by_case : (b : Bool) → (b ≡ true → G.scalar (Here to)) → (b ≡ false → G.array (Here to) (length_in (slice_get s.program.variables to.variable)))
              → FitsAt (if b then copy_into (Here to) a to.place else store_into (array_use s to.variable) a i to.place)
          by_case true f g = fits_into (Here to) a to.place (f refl) ok.writes ga
          by_case false f g = fits_store_into (array_use s to.variable) a i to.place (g refl) ok.writes ga gi

      gives_load_from : (to : Target) (i : Operand) (later : Bool) → TargetOk to → OperandGood G true i → GivesAt G avoid w (load_from s to i later)
      gives_load_from to i later ok gi = by_case (is_none to.index) ok.scalar ok.array
        where
          by_case : (b : Bool) → (b ≡ true → G.scalar (Here to)) → (b ≡ false → G.array (Here to) (length_in (slice_get s.program.variables to.variable)))
              → GivesAt G avoid w (if b then read_scalar s to.variable to.place later else load s to.variable i to.place)
          by_case true f g = gives_read G avoid w spared to.variable to.place later (f refl)
          by_case false f g = gives_load G avoid w spared to.variable i to.place (g refl) gi

      target_ok : (to : Target) (v : Variable) → G.known to.variable → Other G avoid to.variable → slice_get s.program.variables to.variable ≡ Some v → target_fits s.program v to.index ≡ true → TargetOk to
      target_ok to v k o e h = record { scalar = (by_index to.index h).0; array = (by_index to.index h).1; writes = writes_variable G avoid to.variable spared k o }
        where
          array_is : (n : ℕ) → v.length ≡ Some n → G.array (Here to) (length_in (slice_get s.program.variables to.variable))
          array_is n l = let same : length_in (slice_get s.program.variables to.variable) ≡ n = ap length_in e ∙ ap length_or l in subst (G.array (Here to)) (sym same) (G.several to.variable n v k e l)

          by_index : (i : Option Expr) → target_fits s.program v i ≡ true → (is_none i ≡ true → G.scalar (Here to)) × (is_none i ≡ false → G.array (Here to) (length_in (slice_get s.program.variables to.variable)))
          by_index None f = (λ t. G.single to.variable v k e (none_is v.length f), λ t. absurd (cc))
          by_index (Some i) f =
              let n = there_is v.length (and_parts (is_some v.length) (has_value (typing s.program i)) f).0 in (λ t. absurd (cc), λ t. array_is n.0 n.1)

      index_typed : (v : Variable) (i : Option Expr) → target_fits s.program v i ≡ true → names_opt i scope ≡ true → Each G.callee (opt_callees s i) → IndexOk i
      index_typed v None f n c = tt
      index_typed v (Some i) f n c = (value_typed (typing s.program i) (and_parts (is_some v.length) (has_value (typing s.program i)) f).1, n, c)

      -- ---- actions

      fits_assign : (to : Target) (e : Expr) → TargetOk to → IndexOk to.index → ExprOk e → FitsAt (assign s to e)
      fits_assign to e ok iok eok c lo hi =
          let mi : Made Operand = index_of s to.index (calls (lowered s e)) c in
          let me : Made Operand = full s e mi.counts in
          let ti = (orderly_index s to.index (calls (lowered s e)) c).temps in
          let te = (orderly_full s e mi.counts).temps in
          let ts = (orderly_store s to mi.value me.value me.counts).temps in
          let gi = gives_index to.index iok (calls (lowered s e)) c lo (omega (arith, te, ts, hi)) in
          let ge = gives e eok.0 eok.1 eok.2 false mi.counts (omega (arith, lo, ti)) (omega (arith, ts, hi)) in
          fits_append G avoid w Open mi.items _ gi.fits (fits_append G avoid w Open me.items _ ge.fits (fits_store to mi.value me.value ok gi.value ge.value me.counts (omega (arith, lo, ti, te)) hi))

      fits_finish : (to : Target) (at : Place) (op : BinaryOp) (ty : Ty) (i x y : Operand) → TargetOk to → OperandGood G true i → OperandGood G true x → OperandGood G true y → FitsAt (finish_update s to at op ty i x y)
      fits_finish to at op ty i x y ok gi gx gy c lo hi =
          let mw : Made Operand = make_binary op ty x y at c in
          let mv : Made Operand = make_conversion (type_of s.program to.variable) ty mw.value at mw.counts in
          let tw = (orderly_binary op ty x y at c).temps in
          let tv = (orderly_conversion (type_of s.program to.variable) ty mw.value at mw.counts).temps in
          let ts = (orderly_store s to i mv.value mv.counts).temps in
          let gw = gives_binary G avoid w spared op ty x y at gx gy c lo (omega (arith, tv, ts, hi)) in
          let gv = gives_conversion G avoid w spared (type_of s.program to.variable) ty mw.value at gw.value mw.counts (omega (arith, lo, tw)) (omega (arith, ts, hi)) in
          fits_append G avoid w Open mw.items _ gw.fits (fits_append G avoid w Open mv.items _ gv.fits (fits_store to i mv.value ok gi gv.value mv.counts (omega (arith, lo, tw, tv)) hi))

      fits_update : (to : Target) (at : Place) (op : BinaryOp) (ty : Ty) (by : Option Expr) → TargetOk to → IndexOk to.index → IndexOk by → FitsAt (update s to at op ty by)
      fits_update to at op ty by ok iok bok c lo hi =
          let mi : Made Operand = index_of s to.index (calls_in s by) c in
          let mw : Made Operand = load_from s to mi.value (calls_in s by) mi.counts in
          let mx : Made Operand = make_conversion ty (type_of s.program to.variable) mw.value at mw.counts in
          let my : Made Operand = right_side s by mx.counts in
          let ti = (orderly_index s to.index (calls_in s by) c).temps in
          let tw = (orderly_load_from s to mi.value (calls_in s by) mi.counts).temps in
          let tx = (orderly_conversion ty (type_of s.program to.variable) mw.value at mw.counts).temps in
          let ty' = (orderly_right s by mx.counts).temps in
          let tf = (orderly_finish s to at op ty mi.value mx.value my.value my.counts).temps in
          let gi = gives_index to.index iok (calls_in s by) c lo (omega (arith, tw, tx, ty', tf, hi)) in
          let gw = gives_load_from to mi.value (calls_in s by) ok gi.value mi.counts (omega (arith, lo, ti)) (omega (arith, tx, ty', tf, hi)) in
          let gx = gives_conversion G avoid w spared ty (type_of s.program to.variable) mw.value at gw.value mw.counts (omega (arith, lo, ti, tw)) (omega (arith, ty', tf, hi)) in
          let gy = gives_right by bok mx.counts (omega (arith, lo, ti, tw, tx)) (omega (arith, tf, hi)) in
          fits_append G avoid w Open mi.items _ gi.fits (fits_append G avoid w Open mw.items _ gw.fits (fits_append G avoid w Open mx.items _ gx.fits (fits_append G avoid w Open my.items _ gy.fits
          (fits_finish to at op ty mi.value mx.value my.value ok gi.value gx.value gy.value my.counts (omega (arith, lo, ti, tw, tx, ty')) hi))))

      right_typed : (op : BinaryOp) (own ty : Ty) (by : Option Expr) → works_in s.program op own ty by ≡ true → names_opt by scope ≡ true → Each G.callee (opt_callees s by) → IndexOk by
      right_typed op own ty None f n c = tt
      right_typed op own ty (Some e) f n c = (typed, n, c)
        where
          typed : Typed s.program e
          typed = if_either (Typed s.program e) (is_shift op) _ _
              (λ a. promoted_typed (typing s.program e) (and_parts (same_type ty (promoted own)) (has_promoted (typing s.program e)) a).1)
              (λ b. type_typed ty (typing s.program e) (and_parts _ (has_type ty (typing s.program e)) (and_parts (is_compound op) _ b).1).1) f

      pub fits_act : (a : Action) → action_fits s.program a ≡ true → action_names a scope ≡ true → Each G.callee (action_callees s a) → Each (Other G avoid) (action_assigned a) → FitsAt (act s a)
      fits_act (action.Value e) f n c o k lo hi = fits_append G avoid w Open (full s e k).items [] (gives e f n c false k lo hi).fits (fits_none G avoid w)
      fits_act (action.Assign to e) f n c o k lo hi = by_variable (slice_get s.program.variables to.variable) refl f k lo hi
        where
          by_variable : (v : Option Variable) → slice_get s.program.variables to.variable ≡ v → assign_fits s.program to.index e v ≡ true → FitsAt (assign s to e)
          by_variable None q g = absurd (false≢true g)
          by_variable (Some v) q g =
              let p = and_parts (target_fits s.program v to.index) (has_type v.ty (typing s.program e)) g in
              let m = and_parts (holds to.variable scope) (names_opt to.index scope && names e scope) n in
              let m2 = and_parts (names_opt to.index scope) (names e scope) m.1 in
              fits_assign to e (target_ok to v (in_scope to.variable m.0) o.0 q p.0) (index_typed v to.index p.0 m2.0 (each_left G.callee (opt_callees s to.index) (expr_callees s e) c))
              (type_typed v.ty (typing s.program e) p.1, m2.1, each_right G.callee (opt_callees s to.index) (expr_callees s e) c)
      fits_act (action.Update to at op ty by) f n c o k lo hi = by_variable (slice_get s.program.variables to.variable) refl f k lo hi
        where
          by_variable : (v : Option Variable) → slice_get s.program.variables to.variable ≡ v → update_fits s.program to.index op ty by v ≡ true → FitsAt (update s to at op ty by)
          by_variable None q g = absurd (false≢true g)
          by_variable (Some v) q g =
              let p = and_parts (target_fits s.program v to.index) (works_in s.program op v.ty ty by) g in
              let m = and_parts (holds to.variable scope) (names_opt to.index scope && names_opt by scope) n in
              let m2 = and_parts (names_opt to.index scope) (names_opt by scope) m.1 in
              fits_update to at op ty by (target_ok to v (in_scope to.variable m.0) o.0 q p.0) (index_typed v to.index p.0 m2.0 (each_left G.callee (opt_callees s to.index) (opt_callees s by) c))
              (right_typed op v.ty ty by p.1 m2.1 (each_right G.callee (opt_callees s to.index) (opt_callees s by) c))

      pub fits_act_opt : (a : Option Action) → step_fits s.program a ≡ true → opt_action_names a scope ≡ true → Each G.callee (opt_action_callees s a) → Each (Other G avoid) (opt_assigned a) → FitsAt (act_opt s a)
      fits_act_opt None f n c o = fits_nothing
      fits_act_opt (Some a) f n c o = fits_act a f n c o

      -- ---- one declarator

      fits_fill : (array : ArrayUse) (k : ℕ) (ty : Ty) (es : List Expr) (at : Place) → G.array array.object array.length → Writes G avoid array.object → k + length es < 2 ^ 16 → values_fit s.program ty es ≡ true → names_each es scope ≡ true
          → Each G.callee (exprs_callees s es) → FitsAt (fill s array k es at)
      fits_fill array k ty [] at ar wr le f n c d lo hi = fits_none G avoid w
      fits_fill array k ty (e ∷ es) at ar wr le f n c d lo hi =
          let me : Made Operand = full s e d in
          let stored : Made (Unit {0}) = fill_one s array k e at d in
          let p = and_parts (has_type ty (typing s.program e)) (values_fit s.program ty es) f in
          let q = and_parts (names e scope) (names_each es scope) n in
          let te = (orderly_full s e d).temps in
          let tf = (orderly_fill s array (k + 1) es at stored.counts).temps in
          let ge = gives e (type_typed ty (typing s.program e) p.0) q.0 (each_left G.callee (expr_callees s e) (exprs_callees s es) c) false d lo (omega (arith, tf, hi)) in
          fits_append G avoid w Open stored.items _
          (fits_append G avoid w Open me.items _ ge.fits (fits_store_into array me.value (Const k) at ar wr ge.value (omega (arith, le)) me.counts (omega (arith, lo, te)) (omega (arith, tf, hi))))
          (fits_fill array (k + 1) ty es at ar wr (omega (arith, le)) p.1 q.1 (each_right G.callee (expr_callees s e) (exprs_callees s es) c) stored.counts (omega (arith, lo, te)) hi)

      fits_scalar : (x : ℕ) (ty : Ty) (es : List Expr) (at : Place) → G.scalar (home s x) → Writes G avoid (home s x) → values_fit s.program ty es ≡ true → names_each es scope ≡ true → Each G.callee (exprs_callees s es)
          → FitsAt (declare_scalar s x es at)
      fits_scalar x ty [] at sc wr f n c d lo hi = fits_into (home s x) zero_operand at sc wr (zero_good G true) d lo hi
      fits_scalar x ty (e ∷ es) at sc wr f n c d lo hi =
          let me : Made Operand = full s e d in
          let p = and_parts (has_type ty (typing s.program e)) (values_fit s.program ty es) f in
          let q = and_parts (names e scope) (names_each es scope) n in
          let te = (orderly_full s e d).temps in
          let ge = gives e (type_typed ty (typing s.program e) p.0) q.0 (each_left G.callee (expr_callees s e) (exprs_callees s es) c) false d lo hi in
          fits_append G avoid w Open me.items _ ge.fits (fits_into (home s x) me.value at sc wr ge.value me.counts (omega (arith, lo, te)) hi)

      fits_array : (x n : ℕ) (v : Variable) (es : List Expr) (at : Place) → slice_get s.program.variables x ≡ Some v → v.length ≡ Some n → G.known x → Writes G avoid (home s x) → length es ≤ n → values_fit s.program v.ty es ≡ true
          → names_each es scope ≡ true → Each G.callee (exprs_callees s es) → FitsAt (declare_array s x es at)
      fits_array x n v es at e l k wr le f names' c d lo hi =
          let same : length_in (slice_get s.program.variables x) ≡ n = ap length_in e ∙ ap length_or l in
          let ar : G.array (home s x) (length_in (slice_get s.program.variables x)) = subst (G.array (home s x)) (sym same) (G.several x n v k e l) in
          let small = G.small (home s x) (length_in (slice_get s.program.variables x)) ar in
          let z : Made (Unit {0}) = zero_array (array_use s x) at d in
          let tf = (orderly_fill s (array_use s x) 0 es at z.counts).temps in
          fits_append G avoid w Open z.items _ (zeros (array_use s x) at ar wr d lo (omega (arith, tf, hi)))
          (fits_fill (array_use s x) 0 v.ty es at ar wr (omega (arith, le, small, same)) f names' c z.counts (omega (arith, lo)) hi)

      pub fits_declare_one : (d : Declared) → G.local d.variable → Other G avoid d.variable → declared_as s.program d.values (slice_get s.program.variables d.variable) ≡ true → names_each d.values scope ≡ true
          → Each G.callee (exprs_callees s d.values) → FitsAt (declare_one s (slice_get s.program.variables d.variable) d)
      fits_declare_one d l o f n c = by_variable (slice_get s.program.variables d.variable) refl f
        where
          wr : Writes G avoid (home s d.variable)
          wr = writes_variable G avoid d.variable spared (G.local_known d.variable l) o

          by_length : (v : Variable) → slice_get s.program.variables d.variable ≡ Some v → values_fit s.program v.ty d.values ≡ true → (m : Option ℕ) → v.length ≡ m → length d.values ≤ capacity m
              → FitsAt (if is_none m then declare_scalar s d.variable d.values d.place else declare_array s d.variable d.values d.place)
          by_length v e g None q le = fits_scalar d.variable v.ty d.values d.place (G.single d.variable v (G.local_known d.variable l) e q) wr g n c
          by_length v e g (Some m) q le = fits_array d.variable m v d.values d.place e q (G.local_known d.variable l) wr le g n c

          by_variable : (v : Option Variable) → slice_get s.program.variables d.variable ≡ v → declared_as s.program d.values v ≡ true → FitsAt (declare_one s v d)
          by_variable None e g = absurd (false≢true g)
          by_variable (Some v) e g =
              let p = and_parts (not v.global) (nat_le (length d.values) (capacity v.length) && values_fit s.program v.ty d.values) g in
              let q = and_parts (nat_le (length d.values) (capacity v.length)) (values_fit s.program v.ty d.values) p.1 in
              by_length v e q.1 v.length refl (grind (arith, q.0))

    pub fits_declare : (ds : List Declared) (scope : List ℕ) → ((x : ℕ) → holds x scope ≡ true → G.known x) → Each G.local (declared_locals ds) → Each (Other G avoid) (declared_locals ds) → declared_fit s.program ds ≡ true
        → declared_names ds scope ≡ true → Each G.callee (declared_callees s ds) → FitsAt (declare s ds)
    fits_declare [] scope in' l o f n c k lo hi = fits_none G avoid w
    fits_declare (d ∷ ds) scope in' l o f n c k lo hi =
        let m : Made (Unit {0}) = declare_one s (slice_get s.program.variables d.variable) d k in
        let p = and_parts (declared_as s.program d.values (slice_get s.program.variables d.variable)) (declared_fit s.program ds) f in
        let q = and_parts (names_each d.values scope) (declared_names ds (d.variable ∷ scope)) n in
        let td = (orderly_declare_one s (slice_get s.program.variables d.variable) d k).temps in
        let tr = (orderly_declare s ds m.counts).temps in
        fits_append G avoid w Open m.items _
        (fits_declare_one scope in' d l.0 o.0 p.0 q.0 (each_left G.callee (exprs_callees s d.values) (declared_callees s ds) c) k lo (omega (arith, tr, hi)))
        (fits_declare ds (d.variable ∷ scope) (in_scope_more d.variable scope (G.local_known d.variable l.0) in') l.1 o.1 p.1 q.1 (each_right G.callee (exprs_callees s d.values) (declared_callees s ds) c) m.counts (omega (arith, lo, td)) hi)
