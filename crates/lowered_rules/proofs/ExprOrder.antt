-- Every expression numbers its operations upwards.
use Rattle.std.proofs.Common.{◌≡◌, ℕ, ◌+◌, Bool, true, false, Option, Some, None, List, [], ◌∷◌, ◌++◌, refl, subst, arith}
use Rattle.std.specs.Prelude.{⊤, ◌||◌, ◌&&◌, ◌%◌, ◌^◌, map, slice_get}
use Rattle.base_io.specs.declared.place.Place.{Place}
use Rattle.c_values.specs.declared.ops.Ty.{Ty}
use Rattle.c_values.specs.declared.ops.UnaryOp.{UnaryOp}
use Rattle.c_values.specs.declared.ops.UnaryOp.TheVariants as unary
use Rattle.c_values.specs.declared.ops.BinaryOp.{BinaryOp}
use Rattle.c_values.specs.declared.ops.BinaryOp.TheVariants as binary
use Rattle.c_tree.specs.declared.tree.Expr.{Expr}
use Rattle.c_tree.specs.declared.tree.ExprKind.{out-ExprKind}
use Rattle.c_tree.specs.declared.tree.ExprKind.TheOpen.{ExprKind-F}
use Rattle.c_tree.specs.declared.tree.Function.{Function}
use Rattle.c_tree.specs.Layer.{ExprLayer}
use Rattle.flow_graph.specs.declared.graph.Operand.{Operand}
use Rattle.flow_graph.specs.declared.graph.Operand.TheVariants.{Const, Object}
use Rattle.flow_graph.specs.declared.graph.OpKind.{OpKind}
use Rattle.flow_graph.specs.declared.graph.OpKind.TheVariants as kind
use Rattle.flow_graph.specs.declared.graph.Op.{Op}
use Rattle.lowered_graphs.specs.Making.{Counts, Emit, made_on, pure, one, go, plain, test_of, zero_operand, copy_into}
use Rattle.lowered_graphs.specs.Operators.{make_binary, make_ordered, is_exchanged, binary_kind, make_unary, make_some, make_conversion, conversion_kind}
use Rattle.lowered_graphs.specs.Exprs.{Setting, LoweredExpr, calls, callees_of, has_any, lowered, lowered_by, parts, is_global, home, read_scalar, load, set_new, is_set_op, copy_op, arms, new_truth, new_copy, truth_into, copy_into_temporary, both, either_of, choice, second, ordinary, binary_of, arguments_onto, copy_arguments, call_to, take_result, call, output}
use Rattle.lowered_graphs.proofs.ExprLevels.{lowered_level}
use Rattle.lowered_rules.proofs.Inductions.{EachExpr, ExprParts, expr_induction}
use Rattle.lowered_rules.proofs.ListedLemmas.{listed_call, listed_append, listed_one}
use Rattle.lowered_rules.proofs.OrderLemmas.{InOrder, Orderly, Numbers, next, orderly_on, orderly_pure, orderly_if, orderly_one, orderly_make, order_branch}

abbrev pub OrderlyExpr : LoweredExpr → Type 0
OrderlyExpr e = (later : Bool) → Orderly (e.emit later)

-- ---- operators and conversions

pub orderly_ordered : (exchanged : Bool) (k : OpKind) (a b : Operand) (at : Place) → Orderly (make_ordered exchanged k a b at)
orderly_ordered true k a b at = orderly_make k b a None at
orderly_ordered false k a b at = orderly_make k a b None at

pub orderly_binary : (op : BinaryOp) (ty : Ty) (a b : Operand) (at : Place) → Orderly (make_binary op ty a b at)
orderly_binary op ty a b at = orderly_ordered (is_exchanged op) (binary_kind op ty) a b at

pub orderly_unary : (op : UnaryOp) (a : Operand) (at : Place) → Orderly (make_unary op a at)
orderly_unary unary.Plus a at = orderly_pure a
orderly_unary unary.Minus a at = orderly_make kind.Neg a zero_operand None at
orderly_unary unary.Inv a at = orderly_make kind.Inv a zero_operand None at
orderly_unary unary.Not a at = orderly_make kind.Eq a zero_operand None at

pub orderly_some : (k : Option OpKind) (a : Operand) (at : Place) → Orderly (make_some k a at)
orderly_some None a at = orderly_pure a
orderly_some (Some k) a at = orderly_make k a zero_operand None at

pub orderly_conversion : (to from : Ty) (a : Operand) (at : Place) → Orderly (make_conversion to from a at)
orderly_conversion to from a at = orderly_some (conversion_kind to from) a at

-- ---- variables

pub orderly_read : (s : Setting) (x : ℕ) (at : Place) (later : Bool) → Orderly (read_scalar s x at later)
orderly_read s x at later = orderly_if (later && is_global s x) _ _ (orderly_make kind.Copy (Object (home s x)) zero_operand None at) (orderly_pure (Object (home s x)))

pub orderly_load : (s : Setting) (x : ℕ) (i : Operand) (at : Place) → Orderly (load s x i at)
orderly_load s x i at = orderly_make kind.Load i zero_operand _ at

-- ---- `&&`, `||` and `?:`

-- an operation on an operand, into a temporary
abbrev Sets : (Operand → ℕ → ℕ → Op) → Type 0
Sets f = (a : Operand) (t : ℕ) → Numbers (f a t)

orderly_set : (f : Operand → ℕ → ℕ → Op) → Sets f → (a : Operand) (at : Place) → Orderly (set_new f a at)
orderly_set f e a at c = record {
  listed = listed_append c.op (c.op + 1) (c.op + 1 + 1) (_ ∷ []) (_ ∷ []) (listed_one c.op (f a c.temp c.op) (e a c.temp c.op)) (listed_one (c.op + 1) (go at (c.op + 1)) refl);
  temps = omega arith;
  pace = omega arith;
}

order_arms : (c : Counts) (test : Op) (a : Emit ℕ) (b : ℕ → Emit (Unit {0})) → test.number ≡ c.op → Orderly a → ((t : ℕ) → Orderly (b t)) → InOrder c (arms test a b (next c))
order_arms c test a b e h k = order_branch c test (a (next c)) (b (a (next c)).value (a (next c)).counts) (Object (a (next c)).value) e (h (next c)) (k (a (next c)).value (a (next c)).counts)

module _ (a b : LoweredExpr) (ha : OrderlyExpr a) (hb : OrderlyExpr b) (at : Place) where
  orderly_truth : (later : Bool) → Orderly (new_truth b at later)
  orderly_truth later = orderly_on (b.emit later) (λ y. set_new (is_set_op at) y at) (hb later) (λ y. orderly_set (is_set_op at) (λ x t n. refl) y at)

  orderly_copy : (later : Bool) → Orderly (new_copy a at later)
  orderly_copy later = orderly_on (a.emit later) (λ y. set_new (copy_op at) y at) (ha later) (λ y. orderly_set (copy_op at) (λ x t n. refl) y at)

  orderly_truth_into : (later : Bool) (t : ℕ) → Orderly (truth_into b at later t)
  orderly_truth_into later t = orderly_on (b.emit later) (λ y. one (is_set_op at y t)) (hb later) (λ y. orderly_one (is_set_op at y t) (λ n. refl))

  orderly_copy_into : (later : Bool) (t : ℕ) → Orderly (copy_into_temporary b at later t)
  orderly_copy_into later t = orderly_on (b.emit later) (λ y. one (copy_op at y t)) (hb later) (λ y. orderly_one (copy_op at y t) (λ n. refl))

  orderly_both : (later : Bool) → Orderly (both a b at later)
  orderly_both later = orderly_on (a.emit (later || calls b)) _ (ha (later || calls b)) (λ x c.
      order_arms c (test_of x at c.op) (new_truth b at later) (λ t. one (copy_op at (Const 0) t)) refl (orderly_truth later) (λ t. orderly_one (copy_op at (Const 0) t) (λ n. refl)))

  orderly_either : (later : Bool) → Orderly (either_of a b at later)
  orderly_either later = orderly_on (a.emit (later || calls b)) _ (ha (later || calls b)) (λ x c.
      order_arms c (test_of x at c.op) (set_new (copy_op at) (Const 1) at) (truth_into b at later) refl (orderly_set (copy_op at) (λ y t n. refl) (Const 1) at) (orderly_truth_into later))

  orderly_choice : (c : LoweredExpr) → OrderlyExpr c → (later : Bool) → Orderly (choice c a b at later)
  orderly_choice c hc later = orderly_on (c.emit (later || (calls a || calls b))) _ (hc (later || (calls a || calls b))) (λ x d.
      order_arms d (test_of x at d.op) (new_copy a at (later || calls b)) (copy_into_temporary b at later) refl (orderly_copy (later || calls b)) (orderly_copy_into later))

  orderly_ordinary : (op : BinaryOp) (ty : Ty) (later : Bool) → Orderly (ordinary op ty a b at later)
  orderly_ordinary op ty later = orderly_on (a.emit (later || calls b)) (second op ty b at later) (ha (later || calls b)) (λ x.
      orderly_on (b.emit later) (λ y. make_binary op ty x y at) (hb later) (λ y. orderly_binary op ty x y at))

  orderly_two : (op : BinaryOp) (later : Bool) → Orderly (binary_of op a b at later)
  orderly_two binary.And later = orderly_both later
  orderly_two binary.Or later = orderly_either later
  orderly_two binary.Mul later = orderly_ordinary binary.Mul a.ty later
  orderly_two binary.Div later = orderly_ordinary binary.Div a.ty later
  orderly_two binary.Rem later = orderly_ordinary binary.Rem a.ty later
  orderly_two binary.Add later = orderly_ordinary binary.Add a.ty later
  orderly_two binary.Sub later = orderly_ordinary binary.Sub a.ty later
  orderly_two binary.Shl later = orderly_ordinary binary.Shl a.ty later
  orderly_two binary.Shr later = orderly_ordinary binary.Shr a.ty later
  orderly_two binary.Less later = orderly_ordinary binary.Less a.ty later
  orderly_two binary.Greater later = orderly_ordinary binary.Greater a.ty later
  orderly_two binary.LessEq later = orderly_ordinary binary.LessEq a.ty later
  orderly_two binary.GreaterEq later = orderly_ordinary binary.GreaterEq a.ty later
  orderly_two binary.Equal later = orderly_ordinary binary.Equal a.ty later
  orderly_two binary.NotEqual later = orderly_ordinary binary.NotEqual a.ty later
  orderly_two binary.BitAnd later = orderly_ordinary binary.BitAnd a.ty later
  orderly_two binary.BitXor later = orderly_ordinary binary.BitXor a.ty later
  orderly_two binary.BitOr later = orderly_ordinary binary.BitOr a.ty later

-- ---- calls

abbrev pub OrderlyEach : List LoweredExpr → Type 0
OrderlyEach [] = ⊤
OrderlyEach (e ∷ es) = OrderlyExpr e × OrderlyEach es

pub orderly_arguments : (xs : List Operand) (later : Bool) (es : List LoweredExpr) → OrderlyEach es → Orderly (arguments_onto xs later es)
orderly_arguments xs later [] h = orderly_pure xs
orderly_arguments xs later (e ∷ es) h =
    orderly_on (e.emit (later || has_any (callees_of es))) (λ a. arguments_onto (xs ++ a ∷ []) later es) (h.0 (later || has_any (callees_of es))) (λ a. orderly_arguments (xs ++ a ∷ []) later es h.1)

orderly_copies : (s : Setting) (xs : List ℕ) (operands : List Operand) (at : Place) → Orderly (copy_arguments s xs operands at)
orderly_copies s [] operands at = orderly_pure tt
orderly_copies s (x ∷ xs) [] at = orderly_pure tt
orderly_copies s (x ∷ xs) (a ∷ operands) at =
    orderly_on (copy_into (home s x) a at) (λ _. copy_arguments s xs operands at) (orderly_one _ (λ n. refl)) (λ _. orderly_copies s xs operands at)

orderly_result : (s : Setting) (f : ℕ) (ty : Option Ty) (at : Place) → Orderly (take_result s f ty at)
orderly_result s f None at = orderly_pure zero_operand
orderly_result s f (Some ty) at = orderly_make kind.Copy _ zero_operand None at

orderly_call_to : (s : Setting) (f : ℕ) (at : Place) → Orderly (call_to s f at)
orderly_call_to s f at c = record { listed = listed_call c.op (plain kind.Call zero_operand at c.op) _ refl; temps = omega arith; pace = omega arith }

pub orderly_call : (s : Setting) (f : ℕ) (fn : Option Function) (operands : List Operand) (at : Place) → Orderly (call s f fn operands at)
orderly_call s f None operands at = orderly_pure zero_operand
orderly_call s f (Some fn) operands at =
    orderly_on (copy_arguments s fn.params operands at) (λ _ c. made_on (call_to s f at c) (λ _. take_result s f fn.result at)) (orderly_copies s fn.params operands at)
    (λ _. orderly_on (call_to s f at) (λ _. take_result s f fn.result at) (orderly_call_to s f at) (λ _. orderly_result s f fn.result at))

-- ---- every expression

module _ (s : Setting) where
  abbrev IsOrderly : Expr → Type 0
  IsOrderly e = OrderlyExpr (lowered s e)

  pub each_orderly : (es : List Expr) → EachExpr IsOrderly es → OrderlyEach (map (lowered s) es)
  each_orderly [] h = tt
  each_orderly (e ∷ es) h = (h.0, each_orderly es h.1)

  level : (x : ExprLayer) (at : Place) (ty : Ty) → ExprParts IsOrderly x → OrderlyExpr (lowered_by s (parts s x) at ty)
  level (ExprKind-F.Number w) at ty h later = orderly_pure (Const (w % 2 ^ 16))
  level (ExprKind-F.Var x) at ty h later = orderly_read s x at later
  level (ExprKind-F.Element x i) at ty h later = orderly_on ((lowered s i).emit later) (λ a. load s x a at) (h later) (λ a. orderly_load s x a at)
  level (ExprKind-F.Convert e) at ty h later = orderly_on ((lowered s e).emit later) (λ a. make_conversion ty (lowered s e).ty a at) (h later) (λ a. orderly_conversion ty (lowered s e).ty a at)
  level (ExprKind-F.Unary op a) at ty h later = orderly_on ((lowered s a).emit later) (λ x. make_unary op x at) (h later) (λ x. orderly_unary op x at)
  level (ExprKind-F.Binary op a b) at ty h later = orderly_two (lowered s a) (lowered s b) h.0 h.1 at op later
  level (ExprKind-F.Cond c a b) at ty h later = orderly_choice (lowered s a) (lowered s b) h.1 h.2 at (lowered s c) h.0 later
  level (ExprKind-F.Call f args) at ty h later =
      orderly_on (arguments_onto [] later (map (lowered s) args)) (λ operands. call s f (slice_get s.program.functions f) operands at)
      (orderly_arguments [] later (map (lowered s) args) (each_orderly args h)) (λ operands. orderly_call s f (slice_get s.program.functions f) operands at)
  level ExprKind-F.Input at ty h later = orderly_make kind.Input zero_operand zero_operand None at
  level (ExprKind-F.Output e) at ty h later = orderly_on ((lowered s e).emit later) (λ a. output a at) (h later) (λ a.
      orderly_on (one (plain kind.Output a at)) (λ _. pure zero_operand) (orderly_one (plain kind.Output a at) (λ n. refl)) (λ _. orderly_pure zero_operand))

  pub orderly_expr : (e : Expr) → OrderlyExpr (lowered s e)
  orderly_expr = expr_induction IsOrderly (λ e h. subst OrderlyExpr (lowered_level s e) (level (out-ExprKind e.kind) e.place e.ty h))
