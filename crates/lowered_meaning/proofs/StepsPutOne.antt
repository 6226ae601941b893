-- In a sound program a step puts at most one word.
use Rattle.std.proofs.Common.{◌≡◌, ℕ, zero, suc, ◌+◌, Bool, true, false, Option, Some, None, List, [], ◌∷◌, ◌++◌, ◌%◌, ◌^◌, refl, sym, ap, ◌∙◌, subst, arith, append-nil, ◌⊎◌, inl, inr}
use Rattle.std.specs.Prelude.{if◌then◌else◌, ◌&&◌, ◌||◌, not, map, is_some, is_none, slice_get, slice_set, replicate, length, nat_le, IsTrue, ⊤}
use Rattle.std.specs.Option.{option_map}
use Rattle.c_values.specs.declared.ops.Ty.{Ty}
use Rattle.c_values.specs.declared.ops.Ty.TheVariants.{U16}
use Rattle.c_values.specs.declared.ops.BinaryOp.{BinaryOp}
use Rattle.c_values.specs.Values.{converted, from_test, is_set, unary_of, binary_of}
use Rattle.c_tree.specs.declared.tree.Variable.{Variable}
use Rattle.c_tree.specs.declared.tree.Expr.{Expr}
use Rattle.c_tree.specs.declared.tree.ExprKind.{out-ExprKind}
use Rattle.c_tree.specs.declared.tree.ExprKind.TheOpen.{ExprKind-F}
use Rattle.c_tree.specs.declared.tree.Action.{Action}
use Rattle.c_tree.specs.declared.tree.Action.TheVariants as action
use Rattle.c_tree.specs.declared.tree.Declared.{Declared}
use Rattle.c_tree.specs.declared.tree.Stmt.{Stmt}
use Rattle.c_tree.specs.declared.tree.StmtKind.{out-StmtKind}
use Rattle.c_tree.specs.declared.tree.BlockItem.{BlockItem, out-BlockItem}
use Rattle.c_tree.specs.declared.tree.BlockItem.TheOpen.{StmtKind-F, BlockItem-F}
use Rattle.c_tree.specs.declared.tree.ForFirst.{ForFirst}
use Rattle.c_tree.specs.declared.tree.ForFirst.TheVariants as first
use Rattle.c_tree.specs.declared.tree.Group.{Group}
use Rattle.c_tree.specs.declared.tree.Function.{Function}
use Rattle.c_tree.specs.declared.tree.Program.{Program}
use Rattle.c_tree.specs.declared.leaving.Leaving.{Leaving}
use Rattle.c_tree.specs.declared.leaving.Leaving.TheVariants.{Next, Broke, Continued, Returned}
use Rattle.c_tree.specs.Layer.{ExprLayer, StmtLayer, ItemLayer}
use Rattle.c_tree.specs.Runs.{Event, Begun, Put, State, Got, Done, Trapped, Stopped, Part, behind_events, go_on, ◌>>=◌, ◌>>◌, pure, skip, either, begin, begin_each, put, set_words, write, write_place, word_or_trap, read_at}
use Rattle.c_tree.specs.Nodes.{Within, is_chosen, open_array, values_onto, decides, value_or, opened, finished_by, updated_by, assigned_by, body_by, full_turn, bind, come_back, enter, run_body, second_by, worked_by, choice_by, expr_by, store_by, load_by, same_type, type_of, conversion, begin_operator, begin_update, amount_type, finish_by, update_by, assign_by, act_by, act_opt, fill, declare_sized, declare_at, declare_each, then_on, item_by, items_by, first_by, arm_by, begin_labels, has_default, has_label, tested, default_items, chosen, left_switch, switched_by, switch_by, stmt_by, left_loop, again, do_by, stepped_by, turn_by, next_turn, to_depth}
use Rattle.sound_programs.specs.Sound as sound
use Rattle.sound_programs.specs.Sound.{Typing, value_if, void_if, has_value, has_type, has_promoted, have_common, is_test, is_shift, is_comparison, binary_fits, unary_fits, choice_fits, takes, arguments_fit, call_typing, typing, known, typing_by, target_fits, action_fits, update_fits, assign_fits, works_in, is_compound, is_step, promoted, is_promoted, values_fit, declared_as, declared_fit, all_hold, holds_or_none, tests, return_fits, first_fits, step_fits, stmt_fits, item_fits, group_fits, parts_fit, item_parts_fit, labels_fit, functions_fit}
use Rattle.sound_programs.proofs.SoundLevels.{typing_level, stmt_level, item_level, group_level}
use Rattle.lowered_meaning.proofs.CallsBodies.{OnDone}
use Rattle.lowered_meaning.proofs.CountedConstants.{and_left, and_right}
use Rattle.c_tree.specs.Meaning.{put_words, begun, events, run_of, start}
use Rattle.c_tree.specs.Laws.{AreBounded}
use Rattle.c_tree.proofs.Shown.{begun-append, put_words-append}
use Rattle.sound_programs.specs.SoundPrograms.{IsSound}
use Rattle.lowered_meaning.specs.Behaves.{PutsOne, StepsPutOne}
use Rattle.lowered_meaning.proofs.StepsPutOneParts.{Grows}
use Rattle.lowered_meaning.proofs.StepsPutOneNodes.{run_grows}
use Rattle.lowered_meaning.proofs.StepsPutOneStmts.{scan, SpacedAt, Spaced, spaced_on, on_known, spaced_then, spaced_begun, spaced_stop, quiet, from_any, to_more, same, spaced_either, spaced_worked, spaced_read, spaced_place, spaced_read_at, spaced_write_at, spaced_take, spaced_put, spaced_begin, spaced_bind, spaced_each, spaced_labels, stmt_flag, turn_flag, back_clean, is_output, value_typed, type_value, value_holds, void_holds, if_holds, promoted_value, binary_values, unary_value}

module _ (p : Program) (fits : (f : ℕ) (fn : Function) → slice_get p.functions f ≡ Some fn → stmt_fits p fn.result fn.body ≡ true) where
  -- what nodes show to a depth
  pub record SpacedWithin (d : Within) : Type 0 where
    pub expr : (e : Expr) → is_some (typing p e) ≡ true → Spaced true (same (is_output (out-ExprKind e.kind))) (d.expr e)
    pub stmt : (r : Option Ty) (x : Stmt) → stmt_fits p r x ≡ true → Spaced true stmt_flag (d.stmt x)
    pub turns : (r : Option Ty) (x : Stmt) → stmt_fits p r x ≡ true → Spaced true stmt_flag (d.turns x)

  module _ (d : Within) (h : SpacedWithin d) where
    abbrev f : Expr → Part ℕ
    f = d.expr

    -- an expression that has a value is no output
    value_clean : (e : Expr) → has_value (typing p e) ≡ true → is_output (out-ExprKind e.kind) ≡ false
    value_clean e has = by_layer (out-ExprKind e.kind) refl
      where
        void : (b : Bool) → has_value (void_if b) ≡ true → true ≡ false
        void true q = cc
        void false q = cc

        by_layer : (l : ExprLayer) → out-ExprKind e.kind ≡ l → is_output l ≡ false
        by_layer (ExprKind-F.Output a) q = void (has_type U16 (typing p a) && same_type e.ty U16) (ap (λ l. has_value (typing_by p (known p l) e.ty)) (sym q) ∙ (ap has_value (typing_level p e) ∙ has))
        by_layer (ExprKind-F.Number m) q = refl
        by_layer (ExprKind-F.Var x) q = refl
        by_layer (ExprKind-F.Element x i) q = refl
        by_layer (ExprKind-F.Convert a) q = refl
        by_layer (ExprKind-F.Unary op a) q = refl
        by_layer (ExprKind-F.Binary op a b) q = refl
        by_layer (ExprKind-F.Cond c a b) q = refl
        by_layer (ExprKind-F.Call y args) q = refl
        by_layer ExprKind-F.Input q = refl

    clean : (b : Bool) (e : Expr) → has_value (typing p e) ≡ true → Spaced b (same false) (f e)
    clean b e has = from_any b (same false) (f e) (to_more true (same (is_output (out-ExprKind e.kind))) (same false) (f e) (λ v q. value_clean e has) (h.expr e (value_typed (typing p e) has)))

    free : (b : Bool) (e : Expr) → is_some (typing p e) ≡ true → Spaced b (same true) (f e)
    free b e some = from_any b (same true) (f e) (to_more true (same (is_output (out-ExprKind e.kind))) (same true) (f e) (λ v q. cc) (h.expr e some))

    -- a part behind which nothing is shown
    then_quiet : {A B : Type 0} (b c : Bool) (q : Part A) (g : A → Part B) → Spaced b (same c) q → ((a : A) → Spaced c (same c) (g a)) → Spaced b (same c) (q >>= g)
    then_quiet b c q g i next = spaced_on b (same c) (same c) q g i next

    -- ---- expressions

    abbrev AllValues : List Expr → Type 0
    AllValues [] = ⊤
    AllValues (e ∷ es) = (has_value (typing p e) ≡ true) × AllValues es

    values_clean : (vs : List ℕ) (es : List Expr) → AllValues es → Spaced false (same false) (values_onto f vs es)
    values_clean vs [] has = λ s. quiet false (same false) vs s (λ e. e)
    values_clean vs (e ∷ es) has = spaced_on false (same false) (same false) (f e) (λ v. values_onto f (vs ++ v ∷ []) es) (clean false e has.0) (λ v. values_clean (vs ++ v ∷ []) es has.1)

    arguments_values : (xs : List ℕ) (es : List Expr) → arguments_fit p xs (map (typing p) es) ≡ true → AllValues es
    arguments_values [] [] e = tt
    arguments_values [] (a ∷ es) e = cc
    arguments_values (x ∷ xs) [] e = cc
    arguments_values (x ∷ xs) (a ∷ es) e =
        (taken (slice_get p.variables x) (and_left (takes (slice_get p.variables x) (typing p a)) (arguments_fit p xs (map (typing p) es)) e), arguments_values xs es (and_right (takes (slice_get p.variables x) (typing p a)) (arguments_fit p xs (map (typing p) es)) e))
      where
        taken : (v : Option Variable) → takes v (typing p a) ≡ true → has_value (typing p a) ≡ true
        taken None q = cc
        taken (Some v) q = type_value v.ty (typing p a) (and_right (is_none v.length) (has_type v.ty (typing p a)) q)

    enter_clean : (n : ℕ) (vs : List ℕ) → Spaced false (same false) (enter d.stmt (slice_get p.functions n) vs)
    enter_clean n vs = by_function (slice_get p.functions n) refl
      where
        by_function : (o : Option Function) → slice_get p.functions n ≡ o → Spaced false (same false) (enter d.stmt o vs)
        by_function None q = λ s. quiet {A = ℕ} false (same false) 0 s (λ e. e)
        by_function (Some fn) q = spaced_then false (same false) (same false) (bind fn.params vs) (run_body d.stmt fn.body) (spaced_bind false fn.params vs)
            (λ u. spaced_on false stmt_flag (same false) (d.stmt fn.body) come_back (from_any false stmt_flag (d.stmt fn.body) (h.stmt fn.result fn.body (fits n fn q))) (λ l. back_clean l))

    second_clean : (op : BinaryOp) (a b : Expr) (x : ℕ) → has_value (typing p b) ≡ true → Spaced false (same false) (second_by f op a b x)
    second_clean op a b x has = spaced_either false (decides op x) (same false) (pure (from_test (is_set x))) (worked_by f op a b x) (λ s. quiet false (same false) (from_test (is_set x)) s (λ e. e))
        (then_quiet false false (f b) (λ y. word_or_trap (binary_of a.ty b.ty op x y)) (clean false b has) (λ y. spaced_worked false (binary_of a.ty b.ty op x y)))

    call_values : (o : Option Function) (args : List Expr) (ty : Ty) → is_some (call_typing p (map (typing p) args) ty o) ≡ true → AllValues args
    call_values None args ty e = cc
    call_values (Some fn) args ty e = by_fit (arguments_fit p fn.params (map (typing p) args)) refl e
      where
        by_fit : (b : Bool) → arguments_fit p fn.params (map (typing p) args) ≡ b → is_some (if b then sound.result_typing ty fn.result else None) ≡ true → AllValues args
        by_fit true q i = arguments_values fn.params args q
        by_fit false q i = cc

    expr_spaced : (l : ExprLayer) (ty : Ty) → is_some (typing_by p (known p l) ty) ≡ true → Spaced false (same (is_output l)) (expr_by p d ty l)
    expr_spaced (ExprKind-F.Number m) ty e = λ s. quiet false (same false) (m % 2 ^ 16) s (λ q. q)
    expr_spaced (ExprKind-F.Var x) ty e = spaced_read false x
    expr_spaced (ExprKind-F.Element x i) ty e = then_quiet false false (f i) (λ k. read_at x i.ty k) (clean false i (and_right (sound.is_array ty (slice_get p.variables x)) (has_value (typing p i)) (value_holds _ ty e)))
        (λ k. spaced_read_at false x i.ty k)
    expr_spaced (ExprKind-F.Convert a) ty e = then_quiet false false (f a) (λ v. pure (converted ty a.ty v)) (clean false a (and_left (has_value (typing p a)) (not (has_type ty (typing p a))) (value_holds _ ty e)))
        (λ v s. quiet false (same false) (converted ty a.ty v) s (λ q. q))
    expr_spaced (ExprKind-F.Unary op a) ty e = then_quiet false false (f a) (λ v. pure (unary_of a.ty op v)) (clean false a (unary_value op (typing p a) ty (value_holds _ ty e)))
        (λ v s. quiet false (same false) (unary_of a.ty op v) s (λ q. q))
    expr_spaced (ExprKind-F.Binary op a b) ty e =
        let v : (has_value (typing p a) ≡ true) × (has_value (typing p b) ≡ true) = binary_values op (typing p a) (typing p b) ty (value_holds _ ty e) in
        spaced_on false (same false) (same false) (f a) (second_by f op a b) (clean false a v.0) (λ x. second_clean op a b x v.1)
    expr_spaced (ExprKind-F.Cond c a b) ty e =
        let q : choice_fits (typing p c) (typing p a) (typing p b) ty ≡ true = value_holds _ ty e in
        let arms : (has_type ty (typing p a) && has_type ty (typing p b)) ≡ true = and_right (is_promoted ty) _ (and_right (has_value (typing p c)) _ q) in
        spaced_on false (same false) (same false) (f c) (choice_by f a b) (clean false c (and_left (has_value (typing p c)) _ q))
        (λ x. spaced_either false (is_set x) (same false) (f a) (f b) (clean false a (type_value ty (typing p a) (and_left (has_type ty (typing p a)) _ arms))) (clean false b (type_value ty (typing p b) (and_right (has_type ty (typing p a)) _ arms))))
    expr_spaced (ExprKind-F.Call n args) ty e = spaced_on false (same false) (same false) (values_onto f [] args) (enter d.stmt (slice_get p.functions n)) (values_clean [] args (call_values (slice_get p.functions n) args ty e)) (λ vs. enter_clean n vs)
    expr_spaced ExprKind-F.Input ty e = spaced_take false
    expr_spaced (ExprKind-F.Output a) ty e = spaced_on false (same false) (same true) (f a) (λ v. put v >> pure 0) (clean false a (type_value U16 (typing p a) (and_left (has_type U16 (typing p a)) _ (void_holds _ e))))
        (λ v. spaced_then {B = ℕ} false (same true) (same true) (put v) (pure 0) (spaced_put v) (λ u s. quiet {A = ℕ} true (same true) 0 s (λ q. q)))

    -- ---- actions

    abbrev Free : {A : Type 0} → Part A → Type 0
    Free q = Spaced true (same true) q

    free_on : {A B : Type 0} (q : Part A) (g : A → Part B) → Free q → ((a : A) → Free (g a)) → Free (q >>= g)
    free_on q g i next = spaced_on true (same true) (same true) q g i next

    free_then : {A B : Type 0} (q : Part A) (g : Part B) → Free q → Free g → Free (q >> g)
    free_then q g i next = spaced_on true (same true) (same true) q (λ _. g) i (λ a. next)

    free_pure : {A : Type 0} (a : A) → Free (pure a)
    free_pure a s = quiet true (same true) a s (λ q. q)

    free_begin : Free begin
    free_begin = to_more true (same false) (same true) begin (λ u q. refl) (spaced_begin true)

    value_free : (n : ℕ) (o : Option Expr) → tests p o ≡ true → Free (value_or f n o)
    value_free n None e = free_pure n
    value_free n (Some a) e = free true a (value_typed (typing p a) e)

    store_free : (x : ℕ) (o : Option Expr) (i v : ℕ) → Free (store_by x o i v)
    store_free x None i v = spaced_place true x 0 v
    store_free x (Some e) i v = spaced_write_at true x e.ty i v

    load_free : (x : ℕ) (o : Option Expr) (i : ℕ) → Free (load_by x o i)
    load_free x None i = spaced_read true x
    load_free x (Some e) i = spaced_read_at true x e.ty i

    conversion_free : (a b : Ty) → Free (conversion a b)
    conversion_free a b = spaced_either true (same_type a b) (same true) skip begin (free_pure (tt {0})) free_begin

    target_tests : (v : Variable) (o : Option Expr) → target_fits p v o ≡ true → tests p o ≡ true
    target_tests v None e = refl
    target_tests v (Some i) e = and_right (is_some v.length) (has_value (typing p i)) e

    by_tests : (op : BinaryOp) (own ty : Ty) (by : Option Expr) → works_in p op own ty by ≡ true → tests p by ≡ true
    by_tests op own ty None e = refl
    by_tests op own ty (Some a) e = by_shift (if_holds (is_shift op) _ _ e)
      where
        by_shift : (((same_type ty (promoted own) && has_promoted (typing p a)) ≡ true) ⊎ ((is_compound op && ((same_type ty (promoted own) || same_type ty U16) && has_type ty (typing p a))) ≡ true)) → has_value (typing p a) ≡ true
        by_shift (inl q) = promoted_value (typing p a) (and_right (same_type ty (promoted own)) (has_promoted (typing p a)) q)
        by_shift (inr q) = type_value ty (typing p a) (and_right (same_type ty (promoted own) || same_type ty U16) (has_type ty (typing p a)) (and_right (is_compound op) _ q))

    act_free : (a : Action) → action_fits p a ≡ true → Free (act_by p f a)
    act_free (action.Value e) q = free_then (f e) skip (free true e q) (free_pure (tt {0}))
    act_free (action.Assign to e) q = by_variable (slice_get p.variables to.variable) q
      where
        by_variable : (v : Option Variable) → assign_fits p to.index e v ≡ true → Free (assign_by f to.variable to.index e)
        by_variable None q' = cc
        by_variable (Some v) q' = free_on (value_or f 0 to.index) (assigned_by f to.variable to.index e) (value_free 0 to.index (target_tests v to.index (and_left (target_fits p v to.index) (has_type v.ty (typing p e)) q')))
            (λ i. free_on (f e) (store_by to.variable to.index i) (free true e (value_typed (typing p e) (type_value v.ty (typing p e) (and_right (target_fits p v to.index) (has_type v.ty (typing p e)) q')))) (λ x. store_free to.variable to.index i x))
    act_free (action.Update to at op ty by) q = by_variable (slice_get p.variables to.variable) q
      where
        own : Ty
        own = type_of p to.variable

        by_variable : (v : Option Variable) → update_fits p to.index op ty by v ≡ true → Free (update_by own f to.variable to.index op ty by)
        by_variable None q' = cc
        by_variable (Some v) q' = free_on (value_or f 0 to.index) (updated_by own f to.variable to.index op ty by) (value_free 0 to.index (target_tests v to.index (and_left (target_fits p v to.index) (works_in p op v.ty ty by) q')))
            (λ i. free_on (opened own ty to.variable to.index i) (finished_by own f to.variable to.index op ty by i)
            (free_then (begin_update own ty) (load_by to.variable to.index i) (free_then (conversion own ty) (begin_operator own ty) (conversion_free own ty) (free_then begin (conversion ty own) free_begin (conversion_free ty own))) (load_free to.variable to.index i))
            (λ x. free_on (value_or f 1 by) (finish_by own to.variable to.index op ty (amount_type ty by) i x) (value_free 1 by (by_tests op v.ty ty by (and_right (target_fits p v to.index) (works_in p op v.ty ty by) q')))
            (λ y. free_on (word_or_trap (binary_of ty (amount_type ty by) op (converted ty own x) y)) (λ u. store_by to.variable to.index i (converted own ty u)) (spaced_worked true (binary_of ty (amount_type ty by) op (converted ty own x) y))
            (λ u. store_free to.variable to.index i (converted own ty u)))))

    act_opt_free : (o : Option Action) → step_fits p o ≡ true → Free (act_opt p f o)
    act_opt_free None q = free_pure (tt {0})
    act_opt_free (Some a) q = act_free a q

    -- ---- declarations

    fill_free : (x i : ℕ) (ty : Ty) (es : List Expr) → values_fit p ty es ≡ true → Free (fill f x i es)
    fill_free x i ty [] q = free_pure (tt {0})
    fill_free x i ty (e ∷ es) q = free_on (f e) (λ v. write_place x i v >> fill f x (i + 1) es) (free true e (value_typed (typing p e) (type_value ty (typing p e) (and_left (has_type ty (typing p e)) (values_fit p ty es) q))))
        (λ v. free_then (write_place x i v) (fill f x (i + 1) es) (spaced_place true x i v) (fill_free x (i + 1) ty es (and_right (has_type ty (typing p e)) (values_fit p ty es) q)))

    sized_free : (x : ℕ) (o : Option ℕ) (ty : Ty) (es : List Expr) → values_fit p ty es ≡ true → Free (declare_sized f x o es)
    sized_free x None ty [] q = spaced_place true x 0 0
    sized_free x None ty (e ∷ es) q = free_on (f e) (write x) (free true e (value_typed (typing p e) (type_value ty (typing p e) (and_left (has_type ty (typing p e)) (values_fit p ty es) q)))) (λ v. spaced_place true x 0 v)
    sized_free x (Some n) ty es q = free_then (open_array x n) (fill f x 0 es)
        (free_then (set_words x (replicate n 0)) (begin_each n) (λ s. quiet true (same true) (tt {0}) (record s { store = slice_set s.store x (replicate n 0) }) (λ e. e)) (spaced_each n)) (fill_free x 0 ty es q)

    at_free : (x : ℕ) (o : Option Variable) (es : List Expr) → declared_as p es o ≡ true → Free (declare_at f x o es)
    at_free x None es q = cc
    at_free x (Some v) es q = sized_free x v.length v.ty es (and_right (nat_le (length es) (sound.capacity v.length)) (values_fit p v.ty es) (and_right (not v.global) _ q))

    declare_free : (ds : List Declared) → declared_fit p ds ≡ true → Free (declare_each p f ds)
    declare_free [] q = free_pure (tt {0})
    declare_free (x ∷ ds) q = free_then begin (declare_at f x.variable (slice_get p.variables x.variable) x.values >> declare_each p f ds) free_begin
        (free_then (declare_at f x.variable (slice_get p.variables x.variable) x.values) (declare_each p f ds)
        (at_free x.variable (slice_get p.variables x.variable) x.values (and_left (declared_as p x.values (slice_get p.variables x.variable)) (declared_fit p ds) q))
        (declare_free ds (and_right (declared_as p x.values (slice_get p.variables x.variable)) (declared_fit p ds) q)))

    first_free : (o : Option ForFirst) → first_fits p o ≡ true → Free (first_by p f o)
    first_free None q = free_pure (tt {0})
    first_free (Some (first.Declare ds)) q = declare_free ds q
    first_free (Some (first.Act a)) q = act_free a q

    -- ---- statements

    abbrev Left : Part Leaving → Type 0
    Left q = Spaced true stmt_flag q

    left_pure : (l : Leaving) → stmt_flag l ≡ true → Left (pure l)
    left_pure l e s = quiet true stmt_flag l s (λ q. sym e ∙ q)

    left_same : (l : Leaving) → Spaced (stmt_flag l) stmt_flag (pure l)
    left_same l s = quiet (stmt_flag l) stmt_flag l s (λ q. q)

    then_left : (l : Leaving) (q : Part Leaving) → Left q → Spaced (stmt_flag l) stmt_flag (then_on l q)
    then_left Next q i = i
    then_left Broke q i = left_same Broke
    then_left Continued q i = left_same Continued
    then_left (Returned v) q i = left_same (Returned v)

    abbrev ItemsFit : Option Ty → List BlockItem → Type 0
    ItemsFit r items = all_hold (map (item_fits p r) items) ≡ true

    item_left : (r : Option Ty) (l : ItemLayer) → sound.item_by p (item_parts_fit p r l) ≡ true → Left (item_by p f d.stmt l)
    item_left r (BlockItem-F.Declare ds) q = spaced_on true (same true) stmt_flag (declare_each p f ds) (λ _. pure Next) (declare_free ds q) (λ u. left_pure Next refl)
    item_left r (BlockItem-F.«BlockItem::Act» x) q = h.stmt r x q

    items_left : (r : Option Ty) (items : List BlockItem) → ItemsFit r items → Left (items_by p f d.stmt items)
    items_left r [] q = left_pure Next refl
    items_left r (b ∷ bs) q = spaced_on true stmt_flag stmt_flag (item_by p f d.stmt (out-BlockItem b)) (λ l. then_on l (items_by p f d.stmt bs))
        (item_left r (out-BlockItem b) (item_level p r b ∙ and_left (item_fits p r b) (all_hold (map (item_fits p r) bs)) q))
        (λ l. then_left l (items_by p f d.stmt bs) (items_left r bs (and_right (item_fits p r b) (all_hold (map (item_fits p r) bs)) q)))

    -- ---- switch

    abbrev GroupsFit : Option Ty → List Group → Type 0
    GroupsFit r gs = all_hold (map (group_fits p r) gs) ≡ true

    group_items_fit : (r : Option Ty) (x : Group) → group_fits p r x ≡ true → ItemsFit r x.items
    group_items_fit r x q = and_right (labels_fit x.labels) (all_hold (map (item_fits p r) x.items)) (and_right (sound.is_labelled x.labels) (labels_fit x.labels && all_hold (map (item_fits p r) x.items)) (group_level p r x ∙ q))

    default_fit : (r : Option Ty) (gs : List Group) → GroupsFit r gs → ItemsFit r (default_items gs)
    default_fit r [] q = refl
    default_fit r (x ∷ xs) q = by_default (has_default x.labels) (default_fit r xs (and_right (group_fits p r x) (all_hold (map (group_fits p r) xs)) q))
      where
        by_default : (b : Bool) → ItemsFit r (default_items xs) → ItemsFit r (if b then x.items else default_items xs)
        by_default true rest = group_items_fit r x (and_left (group_fits p r x) (all_hold (map (group_fits p r) xs)) q)
        by_default false rest = rest

    on_done : {A B : Type 0} (P : A → Type 0) (Q : B → Type 0) (q : Part A) (g : A → Part B) → ((s : State) → OnDone P (q s)) → ((a : A) → P a → (s : State) → OnDone Q (g a s)) → (s : State) → OnDone Q ((q >>= g) s)
    on_done {A} {B} P Q q g i next s = by_got (q s) (i s)
      where
        behind : (es : List Event) (got : Got B) → OnDone Q got → OnDone Q (behind_events es got)
        behind es (Done fs b s') k = k
        behind es (Trapped fs t) k = tt
        behind es (Stopped fs) k = tt

        by_got : (got : Got A) → OnDone P got → OnDone Q (go_on got g)
        by_got (Done es a s') k = behind es (g a s') (next a k s')
        by_got (Trapped es t) k = tt
        by_got (Stopped es) k = tt

    any_done : {A : Type 0} (got : Got A) → OnDone (λ a. ⊤) got
    any_done (Done es a s) = tt
    any_done (Trapped es t) = tt
    any_done (Stopped es) = tt

    chosen_fit : (r : Option Ty) (v : ℕ) (others : List BlockItem) (gs : List Group) → ItemsFit r others → GroupsFit r gs → (s : State) → OnDone (ItemsFit r) (chosen v others gs s)
    chosen_fit r v others [] q qs = λ s. q
    chosen_fit r v others (x ∷ xs) q qs = on_done (λ b. ⊤) (ItemsFit r) (is_chosen v x.labels) (λ found. either found (pure x.items) (chosen v others xs)) (λ s. any_done (is_chosen v x.labels s))
        (λ found k. by_found found (chosen_fit r v others xs q (and_right (group_fits p r x) (all_hold (map (group_fits p r) xs)) qs)))
      where
        by_found : (found : Bool) → ((s : State) → OnDone (ItemsFit r) (chosen v others xs s)) → (s : State) → OnDone (ItemsFit r) (either found (pure x.items) (chosen v others xs) s)
        by_found true rest = λ s. group_items_fit r x (and_left (group_fits p r x) (all_hold (map (group_fits p r) xs)) qs)
        by_found false rest = rest

    chosen_free : (v : ℕ) (others : List BlockItem) (gs : List Group) → Free (chosen v others gs)
    chosen_free v others [] = free_pure others
    chosen_free v others (x ∷ xs) = free_on (is_chosen v x.labels) (λ found. either found (pure x.items) (chosen v others xs))
        (spaced_either true (has_default x.labels) (same true) (pure false) (tested v x.labels) (free_pure false) (free_then (begin_labels x.labels) (pure (has_label v x.labels)) (spaced_labels x.labels) (free_pure (has_label v x.labels))))
        (λ found. spaced_either true found (same true) (pure x.items) (chosen v others xs) (free_pure x.items) (chosen_free v others xs))

    left_of_switch : (l : Leaving) → Spaced (stmt_flag l) stmt_flag (pure (left_switch l))
    left_of_switch Next = left_pure Next refl
    left_of_switch Broke = left_pure Next refl
    left_of_switch Continued = left_pure Continued refl
    left_of_switch (Returned v) = left_same (Returned v)

    switch_left : (r : Option Ty) (gs : List Group) (v : ℕ) → GroupsFit r gs → Left (switch_by p d gs v)
    switch_left r gs v q = on_known true (same true) stmt_flag (ItemsFit r) (chosen v (default_items gs) gs) (switched_by p d) (chosen_free v (default_items gs) gs) (chosen_fit r v (default_items gs) gs (default_fit r gs q) q)
        (λ items k. spaced_on true stmt_flag stmt_flag (items_by p f d.stmt items) (λ l. pure (left_switch l)) (items_left r items k) (λ l. left_of_switch l))

    -- ---- a level

    value_left : (o : Option Expr) → tests p o ≡ true → Spaced false (same false) (value_or f 0 o)
    value_left None e = λ s. quiet {A = ℕ} false (same false) 0 s (λ q. q)
    value_left (Some a) e = clean false a e

    return_tests : (r : Option Ty) (o : Option Expr) → return_fits p r o ≡ true → tests p o ≡ true
    return_tests r None e = refl
    return_tests None (Some a) e = cc
    return_tests (Some ty) (Some a) e = type_value ty (typing p a) e

    arm_left : (r : Option Ty) (a : Stmt) (b : Option Stmt) (v : ℕ) → stmt_fits p r a ≡ true → holds_or_none (option_map (stmt_fits p r) b) ≡ true → Left (arm_by d.stmt a b v)
    arm_left r a None v qa qb = spaced_either true (is_set v) stmt_flag (d.stmt a) (pure Next) (h.stmt r a qa) (left_pure Next refl)
    arm_left r a (Some b) v qa qb = spaced_either true (is_set v) stmt_flag (d.stmt a) (d.stmt b) (h.stmt r a qa) (h.stmt r b qb)

    from_false : (q : Part Leaving) → Left q → Spaced false stmt_flag q
    from_false q i = from_any false stmt_flag q i

    stmt_left : (r : Option Ty) (x : Stmt) (l : StmtLayer) → stmt_fits p r x ≡ true → sound.stmt_by p r (parts_fit p r l) ≡ true → Spaced false stmt_flag (stmt_by p d x l)
    stmt_left r x (StmtKind-F.Block items) whole q = from_false (items_by p f d.stmt items) (items_left r items q)
    stmt_left r x StmtKind-F.Empty whole q = from_false (pure Next) (left_pure Next refl)
    stmt_left r x (StmtKind-F.«StmtKind::Act» a) whole q = from_false (act_by p f a >> pure Next) (spaced_on true (same true) stmt_flag (act_by p f a) (λ _. pure Next) (act_free a q) (λ u. left_pure Next refl))
    stmt_left r x StmtKind-F.Break whole q = from_false (pure Broke) (left_pure Broke refl)
    stmt_left r x StmtKind-F.Continue whole q = from_false (pure Continued) (left_pure Continued refl)
    stmt_left r x (StmtKind-F.Return e) whole q = spaced_on false (same false) stmt_flag (value_or f 0 e) (λ v. pure (Returned v)) (value_left e (return_tests r e q)) (λ v. left_same (Returned v))
    stmt_left r x (StmtKind-F.If c a b) whole q = spaced_on false (same false) stmt_flag (f c) (arm_by d.stmt a b) (clean false c (and_left (has_value (typing p c)) _ q))
        (λ v. from_false (arm_by d.stmt a b v) (arm_left r a b v (and_left (stmt_fits p r a) _ (and_right (has_value (typing p c)) _ q)) (and_right (stmt_fits p r a) _ (and_right (has_value (typing p c)) _ q))))
    stmt_left r x (StmtKind-F.While c body) whole q = from_false (d.turns x) (h.turns r x whole)
    stmt_left r x (StmtKind-F.Do body c) whole q = from_false (d.turns x) (h.turns r x whole)
    stmt_left r x (StmtKind-F.For g c step body) whole q = from_false (first_by p f g >> d.turns x) (spaced_on true (same true) stmt_flag (first_by p f g) (λ _. d.turns x) (first_free g (and_left (first_fits p g) _ q)) (λ u. h.turns r x whole))
    stmt_left r x (StmtKind-F.Switch e groups) whole q = spaced_on false (same false) stmt_flag (f e) (switch_by p d groups) (clean false e (promoted_value (typing p e) (and_left (has_promoted (typing p e)) _ q)))
        (λ v. from_false (switch_by p d groups v) (switch_left r groups v (and_right (has_promoted (typing p e)) _ q)))

    -- ---- turns

    out_of : (l : Leaving) → Spaced (stmt_flag l) turn_flag (pure (Some (left_loop l)))
    out_of Next = λ s. quiet true turn_flag (Some Next) s (λ q. q)
    out_of Broke = λ s. quiet true turn_flag (Some Next) s (λ q. q)
    out_of Continued = λ s. quiet true turn_flag (Some Next) s (λ q. q)
    out_of (Returned v) = λ s. quiet false turn_flag (Some (Returned v)) s (λ q. q)

    turn_pure : Spaced true turn_flag (pure (Some Next))
    turn_pure s = quiet true turn_flag (Some Next) s (λ q. q)

    again_flag : (v : ℕ) → Spaced true turn_flag (pure (again v))
    again_flag v s = quiet true turn_flag (again v) s (by_set (is_set v))
      where
        by_set : (b : Bool) → turn_flag (if b then None else Some Next) ≡ false → true ≡ false
        by_set true q = q
        by_set false q = q

    stepped : (step : Option Action) (l : Leaving) → step_fits p step ≡ true → Spaced (stmt_flag l) turn_flag (stepped_by p d step l)
    stepped step Next q = spaced_on true (same true) turn_flag (act_opt p f step) (λ _. pure None) (act_opt_free step q) (λ u s. quiet true turn_flag None s (λ e. e))
    stepped step Continued q = spaced_on true (same true) turn_flag (act_opt p f step) (λ _. pure None) (act_opt_free step q) (λ u s. quiet true turn_flag None s (λ e. e))
    stepped step Broke q = out_of Broke
    stepped step (Returned v) q = out_of (Returned v)

    bodied : (r : Option Ty) (body : Stmt) (step : Option Action) (v : ℕ) → stmt_fits p r body ≡ true → step_fits p step ≡ true → Spaced true turn_flag (body_by p d body step v)
    bodied r body step v q qs = spaced_either true (is_set v) turn_flag (full_turn p d body step) (pure (Some Next)) (spaced_on true stmt_flag turn_flag (d.stmt body) (stepped_by p d step) (h.stmt r body q) (λ l. stepped step l qs)) turn_pure

    done_by : (c : Expr) (l : Leaving) → has_value (typing p c) ≡ true → Spaced (stmt_flag l) turn_flag (do_by d c l)
    done_by c Next q = spaced_on true (same true) turn_flag (f c) (λ v. pure (again v)) (free true c (value_typed (typing p c) q)) (λ v. again_flag v)
    done_by c Continued q = spaced_on true (same true) turn_flag (f c) (λ v. pure (again v)) (free true c (value_typed (typing p c) q)) (λ v. again_flag v)
    done_by c Broke q = out_of Broke
    done_by c (Returned v) q = out_of (Returned v)

    turn_left : (r : Option Ty) (l : StmtLayer) → sound.stmt_by p r (parts_fit p r l) ≡ true → Spaced true turn_flag (turn_by p d l)
    turn_left r (StmtKind-F.While c body) q = spaced_on true (same true) turn_flag (f c) (body_by p d body None) (free true c (value_typed (typing p c) (and_left (has_value (typing p c)) _ q))) (λ v. bodied r body None v (and_right (has_value (typing p c)) _ q) refl)
    turn_left r (StmtKind-F.Do body c) q = spaced_on true stmt_flag turn_flag (d.stmt body) (do_by d c) (h.stmt r body (and_left (stmt_fits p r body) _ q)) (λ l. done_by c l (and_right (stmt_fits p r body) _ q))
    turn_left r (StmtKind-F.For g c step body) q =
        let rest : (tests p c && (step_fits p step && stmt_fits p r body)) ≡ true = and_right (first_fits p g) _ q in
        let last : (step_fits p step && stmt_fits p r body) ≡ true = and_right (tests p c) _ rest in
        spaced_on true (same true) turn_flag (value_or f 1 c) (body_by p d body step) (value_free 1 c (and_left (tests p c) _ rest)) (λ v. bodied r body step v (and_right (step_fits p step) _ last) (and_left (step_fits p step) _ last))
    turn_left r (StmtKind-F.Block items) q = turn_pure
    turn_left r StmtKind-F.Empty q = turn_pure
    turn_left r (StmtKind-F.«StmtKind::Act» a) q = turn_pure
    turn_left r StmtKind-F.Break q = turn_pure
    turn_left r StmtKind-F.Continue q = turn_pure
    turn_left r (StmtKind-F.Return e) q = turn_pure
    turn_left r (StmtKind-F.If c a b) q = turn_pure
    turn_left r (StmtKind-F.Switch e groups) q = turn_pure

    next_left : (rest : Part Leaving) (o : Option Leaving) → Left rest → Spaced (turn_flag o) stmt_flag (next_turn rest o)
    next_left rest None i = i
    next_left rest (Some l) i = left_same l

  -- at every depth
  pub spaced_depth : (n : ℕ) → SpacedWithin (to_depth p n)
  unfolding to_depth
  spaced_depth zero = record { expr = λ e q. spaced_stop {A = ℕ} true (same (is_output (out-ExprKind e.kind))); stmt = λ r x q. spaced_stop {A = Leaving} true stmt_flag; turns = λ r x q. spaced_stop {A = Leaving} true stmt_flag }
  spaced_depth (suc n) =
      let h : SpacedWithin (to_depth p n) = spaced_depth n in
      record {
        expr = λ e q. spaced_begun true (same (is_output (out-ExprKind e.kind))) (expr_by p (to_depth p n) e.ty (out-ExprKind e.kind)) (expr_spaced (to_depth p n) h (out-ExprKind e.kind) e.ty (ap is_some (typing_level p e) ∙ q));
        stmt = λ r x q. spaced_begun true stmt_flag (stmt_by p (to_depth p n) x (out-StmtKind x.kind)) (stmt_left (to_depth p n) h r x (out-StmtKind x.kind) q (stmt_level p r x ∙ q));
        turns = λ r x q. spaced_begun true stmt_flag (turn_by p (to_depth p n) (out-StmtKind x.kind) >>= next_turn ((to_depth p n).turns x))
            (from_any false stmt_flag (turn_by p (to_depth p n) (out-StmtKind x.kind) >>= next_turn ((to_depth p n).turns x))
            (spaced_on true turn_flag stmt_flag (turn_by p (to_depth p n) (out-StmtKind x.kind)) (next_turn ((to_depth p n).turns x)) (turn_left (to_depth p n) h r (out-StmtKind x.kind) (stmt_level p r x ∙ q))
            (λ o. next_left (to_depth p n) h ((to_depth p n).turns x) o (h.turns r x q))));
      }

-- ---- a whole run

scan_behind : (b : Bool) (x : Bool) (es more : List Event) → scan b (es ++ Begun ∷ more) ≡ Some x → scan false more ≡ Some x
scan_behind b x [] more e = e
scan_behind b x (Begun ∷ es) more e = scan_behind false x es more e
scan_behind true x (Put v ∷ es) more e = cc
scan_behind false x (Put v ∷ es) more e = scan_behind true x es more e

-- with no step begun at most one word is put
few_words : (x : Bool) (more : List Event) → begun more ≡ 0 → scan false more ≡ Some x → (put_words more ≡ []) ⊎ ((v : ℕ) × (put_words more ≡ v ∷ []))
few_words x [] z e = inl refl
few_words x (Begun ∷ more) z e = absurd (omega (arith, z))
few_words x (Put v ∷ []) z e = inr (v, refl)
few_words x (Put v ∷ Begun ∷ more) z e = absurd (omega (arith, z))
few_words x (Put v ∷ Put u ∷ more) z e = cc

functions_are : (p : Program) (fs : List Function) (f : ℕ) (fn : Function) → functions_fit p fs ≡ true → slice_get fs f ≡ Some fn → stmt_fits p fn.result fn.body ≡ true
functions_are p [] f fn q e = cc
functions_are p (x ∷ xs) zero fn q e = same_function (and_left (stmt_fits p x.result x.body) (functions_fit p xs) (and_right (sound.parameters_fit p x.params) (stmt_fits p x.result x.body && functions_fit p xs) q))
  where
    or_it : Option Function → Function
    or_it None = x
    or_it (Some y) = y

    same_function : stmt_fits p x.result x.body ≡ true → stmt_fits p fn.result fn.body ≡ true
    same_function h = subst (λ y. stmt_fits p y.result y.body ≡ true) (is_same e) h
      where
        is_same : Some x ≡ Some fn → x ≡ fn
        is_same k = cc
functions_are p (x ∷ xs) (suc f) fn q e = functions_are p xs f fn (and_right (stmt_fits p x.result x.body) (functions_fit p xs) (and_right (sound.parameters_fit p x.params) (stmt_fits p x.result x.body && functions_fit p xs) q)) e

is_true : (b : Bool) → IsTrue b → b ≡ true
is_true b h = h

pub sound_puts_one : (p : Program) → IsSound p → AreBounded p → StepsPutOne p
sound_puts_one p sound' bounds input n = by_run (run_of p input n) (run_of p input (suc n)) refl refl (run_grows p input n 1 (suc n) (omega arith)) (spaced (suc n))
  where
    fits : (f : ℕ) (fn : Function) → slice_get p.functions f ≡ Some fn → stmt_fits p fn.result fn.body ≡ true
    fits f fn e = functions_are p p.functions f fn (is_true (functions_fit p p.functions) sound'.functions) e

    spaced : (m : ℕ) → SpacedAt false (same {A = ℕ} false) (run_of p input m)
    spaced m = enter_clean p fits (to_depth p m) (spaced_depth p fits m) p.main [] (start p input m)

    shown : (got : Got ℕ) → SpacedAt false (same {A = ℕ} false) got → (x : Bool) × (scan false (events got) ≡ Some x)
    shown (Done es v s) i = (i.flag, i.is)
    shown (Trapped es t) i = (i.flag, i.is)
    shown (Stopped es) i = (i.flag, i.is)

    by_run : (got got' : Got ℕ) → run_of p input n ≡ got → run_of p input (suc n) ≡ got' → Grows 1 n got got' → SpacedAt false (same {A = ℕ} false) got' → PutsOne (put_words (events got)) (put_words (events got'))
    by_run (Done es v s) got' q q' i k = inl (ap (λ r. put_words (events r)) i.0)
    by_run (Trapped es t) got' q q' i k = inl (ap (λ r. put_words (events r)) i.0)
    by_run (Stopped es) got' q q' i k = by_words (few_words (shown got' k).0 more none (scan_behind false (shown got' k).0 es more (ap (scan false) (sym is) ∙ (shown got' k).1)))
      where
        behind : (more : List Event) × (i.1.0 ≡ Begun ∷ more)
        behind = i.1.2 (omega arith)

        more : List Event
        more = behind.0

        is : events got' ≡ es ++ Begun ∷ more
        is = i.1.1 ∙ ap (λ l. es ++ l) behind.1

        none : begun more ≡ 0
        none = omega (arith, ap begun is, begun-append es (Begun ∷ more), i.0, bounds.most input (suc n), ap (λ r. begun (events r)) q')

        words : put_words (events got') ≡ put_words es ++ put_words more
        words = ap put_words is ∙ put_words-append es (Begun ∷ more)

        by_words : ((put_words more ≡ []) ⊎ ((v : ℕ) × (put_words more ≡ v ∷ []))) → PutsOne (put_words es) (put_words (events got'))
        by_words (inl e) = inl (words ∙ (ap (λ l. put_words es ++ l) e ∙ append-nil (put_words es)))
        by_words (inr e) = inr (e.0, words ∙ ap (λ l. put_words es ++ l) e.1)
