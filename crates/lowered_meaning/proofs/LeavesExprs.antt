-- Expressions, actions and declarations that leave a variable as it is.
use Rattle.std.proofs.Common.{◌≡◌, ◌≢◌, ℕ, ◌+◌, ◌%◌, ◌^◌, Option, Some, None, List, [], ◌∷◌, ◌++◌, refl}
use Rattle.std.specs.Prelude.{map, replicate, slice_get}
use Rattle.c_values.specs.declared.ops.Ty.{Ty}
use Rattle.c_values.specs.Values.{converted, from_test, is_set, unary_of, binary_of}
use Rattle.c_tree.specs.declared.tree.Expr.{Expr}
use Rattle.c_tree.specs.declared.tree.ExprKind.TheOpen.{ExprKind-F}
use Rattle.c_tree.specs.declared.tree.Variable.{Variable}
use Rattle.c_tree.specs.declared.tree.Action.{Action}
use Rattle.c_tree.specs.declared.tree.Action.TheVariants as action
use Rattle.c_tree.specs.declared.tree.Declared.{Declared}
use Rattle.c_tree.specs.declared.tree.Stmt.{Stmt}
use Rattle.c_tree.specs.declared.tree.Function.{Function}
use Rattle.c_tree.specs.declared.tree.Program.{Program}
use Rattle.c_tree.specs.Layer.{ExprLayer}
use Rattle.c_tree.specs.Runs.{◌>>◌, pure, skip, begin, begin_each, put, set_words, write_place, write, word_or_trap, read_at}
use Rattle.c_tree.specs.Nodes.{Within, values_onto, bind, come_back, run_body, enter, decides, choice_by, worked_by, second_by, value_or, expr_by, store_by, load_by, same_type, type_of, conversion, begin_operator, begin_update, opened, amount_type, finish_by, finished_by, updated_by, assigned_by, act_by, act_opt, fill, open_array, declare_sized, declare_at, declare_each}
use Rattle.lowered_graphs.specs.Exprs.{Setting, lowered, parts, callees_by, callees_of}
use Rattle.lowered_graphs.specs.Stmts as lower
use Rattle.lowered_graphs.specs.Stmts.{LoweredStmt, lowered_stmt, action_assigned, opt_assigned, declared_locals, expr_callees, opt_callees, exprs_callees, action_callees, opt_action_callees, declared_callees}
use Rattle.lowered_meaning.proofs.FitParts.{Each, each_left, each_right}
use Rattle.lowered_meaning.proofs.LeavesVariable.{Leaves, left_on, left_then, left_either, left_pure, left_skip, left_begin, left_begun, left_begin_each, left_put, left_take, left_read, left_worked, left_set, left_write_place, left_write, left_read_at, left_write_at, left_come_back}

module _ (p : Program) (x : ℕ) (Clear : ℕ → Type 0) where
  abbrev pub Other : ℕ → Type 0
  Other y = x ≢ y

  -- a statement neither assigns to the variable nor declares it, and calls only functions that are clear of it
  pub record Apart (l : LoweredStmt) : Type 0 where
    pub assigned : Each Other l.assigned
    pub locals : Each Other l.locals
    pub callees : Each Clear l.callees

  -- a function that is clear of it
  pub record ClearBody (fn : Function) : Type 0 where
    pub within : lower.Within
    pub params : Each Other fn.params
    pub body : Apart (lowered_stmt within fn.body)

  module _ (closed : (f : ℕ) (fn : Function) → slice_get p.functions f ≡ Some fn → Clear f → ClearBody fn) (d : Within)
      (exprs : (s : Setting) (e : Expr) → Each Clear (expr_callees s e) → Leaves x (d.expr e))
      (stmts : (w : lower.Within) (s : Stmt) → Apart (lowered_stmt w s) → Leaves x (d.stmt s)) where
    -- ---- calls

    leaves_values : (s : Setting) (es : List Expr) (vs : List ℕ) → Each Clear (callees_of (map (lowered s) es)) → Leaves x (values_onto d.expr vs es)
    leaves_values s [] vs h = left_pure x vs
    leaves_values s (e ∷ es) vs h = left_on x (d.expr e) (λ v. values_onto d.expr (vs ++ v ∷ []) es) (exprs s e (each_left Clear (expr_callees s e) (callees_of (map (lowered s) es)) h))
        (λ v. leaves_values s es (vs ++ v ∷ []) (each_right Clear (expr_callees s e) (callees_of (map (lowered s) es)) h))

    leaves_bind : (params vs : List ℕ) → Each Other params → Leaves x (bind params vs)
    leaves_bind [] vs h = left_skip x
    leaves_bind (y ∷ params) [] h = left_skip x
    leaves_bind (y ∷ params) (v ∷ vs) h = left_then x (write y v) (bind params vs) (left_write x y v h.0) (leaves_bind params vs h.1)

    leaves_enter : (f : ℕ) (o : Option Function) (vs : List ℕ) → slice_get p.functions f ≡ o → Clear f → Leaves x (enter d.stmt o vs)
    leaves_enter f None vs e h = left_pure x {A = ℕ} 0
    leaves_enter f (Some fn) vs e h = left_then x (bind fn.params vs) (run_body d.stmt fn.body) (leaves_bind fn.params vs clear.params)
        (left_on x (d.stmt fn.body) come_back (stmts clear.within fn.body clear.body) (λ l. left_come_back x l))
      where
        clear : ClearBody fn
        clear = closed f fn e h

    -- ---- expressions

    pub leaves_layer : (s : Setting) (L : ExprLayer) (ty : Ty) → Each Clear (callees_by (parts s L)) → Leaves x (expr_by p d ty L)
    leaves_layer s (ExprKind-F.Number v) ty h = left_pure x (v % 2 ^ 16)
    leaves_layer s (ExprKind-F.Var y) ty h = left_read x y
    leaves_layer s (ExprKind-F.Element y i) ty h = left_on x (d.expr i) (λ k. read_at y i.ty k) (exprs s i h) (λ k. left_read_at x y i.ty k)
    leaves_layer s (ExprKind-F.Convert e) ty h = left_on x (d.expr e) (λ v. pure (converted ty e.ty v)) (exprs s e h) (λ v. left_pure x (converted ty e.ty v))
    leaves_layer s (ExprKind-F.Unary op a) ty h = left_on x (d.expr a) (λ v. pure (unary_of a.ty op v)) (exprs s a h) (λ v. left_pure x (unary_of a.ty op v))
    leaves_layer s (ExprKind-F.Binary op a b) ty h = left_on x (d.expr a) (second_by d.expr op a b) (exprs s a (each_left Clear (expr_callees s a) (expr_callees s b) h))
        (λ v. left_either x (decides op v) (pure (from_test (is_set v))) (worked_by d.expr op a b v) (left_pure x (from_test (is_set v)))
        (left_on x (d.expr b) (λ u. word_or_trap (binary_of a.ty b.ty op v u)) (exprs s b (each_right Clear (expr_callees s a) (expr_callees s b) h)) (λ u. left_worked x (binary_of a.ty b.ty op v u))))
    leaves_layer s (ExprKind-F.Cond c a b) ty h =
        let k = each_right Clear (expr_callees s c) (expr_callees s a ++ expr_callees s b) h in
        left_on x (d.expr c) (choice_by d.expr a b) (exprs s c (each_left Clear (expr_callees s c) (expr_callees s a ++ expr_callees s b) h))
        (λ v. left_either x (is_set v) (d.expr a) (d.expr b) (exprs s a (each_left Clear (expr_callees s a) (expr_callees s b) k)) (exprs s b (each_right Clear (expr_callees s a) (expr_callees s b) k)))
    leaves_layer s (ExprKind-F.Call f args) ty h = left_on x (values_onto d.expr [] args) (enter d.stmt (slice_get p.functions f))
        (leaves_values s args [] (each_left Clear (callees_of (map (lowered s) args)) (f ∷ []) h))
        (λ vs. leaves_enter f (slice_get p.functions f) vs refl (each_right Clear (callees_of (map (lowered s) args)) (f ∷ []) h).0)
    leaves_layer s ExprKind-F.Input ty h = left_take x
    leaves_layer s (ExprKind-F.Output e) ty h = left_on x (d.expr e) (λ v. put v >> pure 0) (exprs s e h) (λ v. left_then x {A = Unit {0}} {B = ℕ} (put v) (pure 0) (left_put x v) (left_pure x {A = ℕ} 0))

    pub leaves_or : (s : Setting) (k : ℕ) (o : Option Expr) → Each Clear (opt_callees s o) → Leaves x (value_or d.expr k o)
    leaves_or s k None h = left_pure x k
    leaves_or s k (Some e) h = exprs s e h

    -- ---- assignments

    leaves_store : (y : ℕ) (index : Option Expr) (i v : ℕ) → Other y → Leaves x (store_by y index i v)
    leaves_store y None i v h = left_write x y v h
    leaves_store y (Some e) i v h = left_write_at x y e.ty i v h

    leaves_load : (y : ℕ) (index : Option Expr) (i : ℕ) → Leaves x (load_by y index i)
    leaves_load y None i = left_read x y
    leaves_load y (Some e) i = left_read_at x y e.ty i

    leaves_conversion : (to from : Ty) → Leaves x (conversion to from)
    leaves_conversion to from = left_either x (same_type to from) skip begin (left_skip x) (left_begin x)

    leaves_opened : (own ty : Ty) (y : ℕ) (index : Option Expr) (i : ℕ) → Leaves x (opened own ty y index i)
    leaves_opened own ty y index i = left_then x (begin_update own ty) (load_by y index i)
        (left_then x (conversion own ty) (begin_operator own ty) (leaves_conversion own ty) (left_begun x (conversion ty own) (leaves_conversion ty own)))
        (leaves_load y index i)

    pub leaves_act : (s : Setting) (a : Action) → Each Other (action_assigned a) → Each Clear (action_callees s a) → Leaves x (act_by p d.expr a)
    leaves_act s (action.Value e) written h = left_then x (d.expr e) skip (exprs s e h) (left_skip x)
    leaves_act s (action.Assign to e) written h = left_on x (value_or d.expr 0 to.index) (assigned_by d.expr to.variable to.index e)
        (leaves_or s 0 to.index (each_left Clear (opt_callees s to.index) (expr_callees s e) h))
        (λ i. left_on x (d.expr e) (store_by to.variable to.index i) (exprs s e (each_right Clear (opt_callees s to.index) (expr_callees s e) h)) (λ v. leaves_store to.variable to.index i v written.0))
    leaves_act s (action.Update to at op ty by) written h = left_on x (value_or d.expr 0 to.index) (updated_by own d.expr to.variable to.index op ty by)
        (leaves_or s 0 to.index (each_left Clear (opt_callees s to.index) (opt_callees s by) h))
        (λ i. left_on x (opened own ty to.variable to.index i) (finished_by own d.expr to.variable to.index op ty by i) (leaves_opened own ty to.variable to.index i)
        (λ u. left_on x (value_or d.expr 1 by) (finish_by own to.variable to.index op ty (amount_type ty by) i u)
        (leaves_or s 1 by (each_right Clear (opt_callees s to.index) (opt_callees s by) h))
        (λ v. left_on x (word_or_trap (binary_of ty (amount_type ty by) op (converted ty own u) v)) (λ r. store_by to.variable to.index i (converted own ty r))
        (left_worked x (binary_of ty (amount_type ty by) op (converted ty own u) v))
        (λ r. leaves_store to.variable to.index i (converted own ty r) written.0))))
      where
        own : Ty
        own = type_of p to.variable

    pub leaves_act_opt : (s : Setting) (o : Option Action) → Each Other (opt_assigned o) → Each Clear (opt_action_callees s o) → Leaves x (act_opt p d.expr o)
    leaves_act_opt s None written h = left_skip x
    leaves_act_opt s (Some a) written h = leaves_act s a written h

    -- ---- declarations

    leaves_fill : (s : Setting) (y k : ℕ) (es : List Expr) → Other y → Each Clear (exprs_callees s es) → Leaves x (fill d.expr y k es)
    leaves_fill s y k [] other h = left_skip x
    leaves_fill s y k (e ∷ es) other h = left_on x (d.expr e) (λ v. write_place y k v >> fill d.expr y (k + 1) es) (exprs s e (each_left Clear (expr_callees s e) (exprs_callees s es) h))
        (λ v. left_then x (write_place y k v) (fill d.expr y (k + 1) es) (left_write_place x y k v other) (leaves_fill s y (k + 1) es other (each_right Clear (expr_callees s e) (exprs_callees s es) h)))

    leaves_sized : (s : Setting) (y : ℕ) (l : Option ℕ) (es : List Expr) → Other y → Each Clear (exprs_callees s es) → Leaves x (declare_sized d.expr y l es)
    leaves_sized s y None [] other h = left_write x y 0 other
    leaves_sized s y None (e ∷ es) other h = left_on x (d.expr e) (write y) (exprs s e (each_left Clear (expr_callees s e) (exprs_callees s es) h)) (λ v. left_write x y v other)
    leaves_sized s y (Some n) es other h = left_then x (open_array y n) (fill d.expr y 0 es)
        (left_then x (set_words y (replicate n 0)) (begin_each n) (left_set x y (replicate n 0) other) (left_begin_each x n)) (leaves_fill s y 0 es other h)

    leaves_at : (s : Setting) (y : ℕ) (o : Option Variable) (es : List Expr) → Other y → Each Clear (exprs_callees s es) → Leaves x (declare_at d.expr y o es)
    leaves_at s y None es other h = left_skip x
    leaves_at s y (Some v) es other h = leaves_sized s y v.length es other h

    pub leaves_declared : (s : Setting) (es : List Declared) → Each Other (declared_locals es) → Each Clear (declared_callees s es) → Leaves x (declare_each p d.expr es)
    leaves_declared s [] ls h = left_skip x
    leaves_declared s (e ∷ es) ls h = left_begun x (declare_at d.expr e.variable (slice_get p.variables e.variable) e.values >> declare_each p d.expr es)
        (left_then x (declare_at d.expr e.variable (slice_get p.variables e.variable) e.values) (declare_each p d.expr es)
        (leaves_at s e.variable (slice_get p.variables e.variable) e.values ls.0 (each_left Clear (exprs_callees s e.values) (declared_callees s es) h))
        (leaves_declared s es ls.1 (each_right Clear (exprs_callees s e.values) (declared_callees s es) h)))
