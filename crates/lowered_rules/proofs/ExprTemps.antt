-- An expression takes as many temporaries and calls the same functions, wherever the objects stand.
use Rattle.std.proofs.Common.{◌≡◌, ℕ, ◌+◌, Bool, true, false, Option, Some, None, List, [], ◌∷◌, ◌++◌, refl, ap, subst, ◌∙◌, arith}
use Rattle.std.specs.Prelude.{◌||◌, ◌&&◌, map, slice_get, if◌then◌else◌}
use Rattle.base_io.specs.declared.place.Place.{Place}
use Rattle.c_values.specs.declared.ops.Ty.{Ty}
use Rattle.c_values.specs.declared.ops.UnaryOp.{UnaryOp}
use Rattle.c_values.specs.declared.ops.UnaryOp.TheVariants as unary
use Rattle.c_values.specs.declared.ops.BinaryOp.{BinaryOp}
use Rattle.c_values.specs.declared.ops.BinaryOp.TheVariants as binary
use Rattle.c_tree.specs.declared.tree.Expr.{Expr}
use Rattle.c_tree.specs.declared.tree.ExprKind.{out-ExprKind}
use Rattle.c_tree.specs.declared.tree.ExprKind.TheOpen.{ExprKind-F}
use Rattle.c_tree.specs.declared.tree.Function.{Function}
use Rattle.c_tree.specs.declared.tree.Program.{Program}
use Rattle.c_tree.specs.Layer.{ExprLayer}
use Rattle.flow_graph.specs.declared.graph.Operand.{Operand}
use Rattle.flow_graph.specs.declared.graph.OpKind.{OpKind}
use Rattle.lowered_graphs.specs.declared.homes.Homes.{Homes}
use Rattle.lowered_graphs.specs.Making.{Counts, Made, Emit, made_on}
use Rattle.lowered_graphs.specs.Operators.{make_binary, make_ordered, is_exchanged, binary_kind, make_unary, make_some, make_conversion, conversion_kind}
use Rattle.lowered_graphs.specs.Exprs.{Setting, LoweredExpr, calls, callees_of, has_any, lowered, lowered_by, parts, is_global, read_scalar, both, either_of, choice, ordinary, binary_of, arguments_onto, copy_arguments, take_result, call, call_to, second, load, output}
use Rattle.lowered_graphs.proofs.ExprLevels.{lowered_level}
use Rattle.lowered_rules.proofs.Inductions.{EachExpr, ExprParts, expr_induction}

module _ (k : ℕ) where
  -- temporaries that lie k further take as many numbers
  abbrev pub Alike : {A B : Type 0} → Emit A → Emit B → Type 0
  Alike e f = (c d : Counts) → d.temp ≡ k + c.temp → (f d).counts.temp ≡ k + (e c).counts.temp

  pub alike_on : {A B C D : Type 0} (p : Emit A) (q : Emit B) (f : A → Emit C) (g : B → Emit D) → Alike p q → ((a : A) (b : B) → Alike (f a) (g b)) → Alike (λ c. made_on (p c) f) (λ c. made_on (q c) g)
  alike_on p q f g h j c d e = j (p c).value (q d).value (p c).counts (q d).counts (h c d e)

  pub alike_if : {A B : Type 0} (t u : Bool) (x y : Emit A) (v w : Emit B) → t ≡ u → Alike x v → Alike y w → Alike (if t then x else y) (if u then v else w)
  alike_if true true x y v w e h j = h
  alike_if false false x y v w e h j = j
  alike_if true false x y v w e h j = absurd (cc)
  alike_if false true x y v w e h j = absurd (cc)

  pub record AlikeExpr (l m : LoweredExpr) : Type 0 where
    pub ty : l.ty ≡ m.ty
    pub callees : l.callees ≡ m.callees
    pub emit : (later after : Bool) → later ≡ after → Alike (l.emit later) (m.emit after)

  -- ---- operators and conversions

  alike_ordered : (t : Bool) (o : OpKind) (a b x y : Operand) (at : Place) → Alike (make_ordered t o a b at) (make_ordered t o x y at)
  alike_ordered true o a b x y at c d e = omega (arith, e)
  alike_ordered false o a b x y at c d e = omega (arith, e)

  pub alike_binary : (op : BinaryOp) (ty tz : Ty) (a b x y : Operand) (at : Place) → ty ≡ tz → Alike (make_binary op ty a b at) (make_binary op tz x y at)
  alike_binary op ty tz a b x y at same = subst (λ t. Alike (make_binary op ty a b at) (make_binary op t x y at)) same (alike_ordered (is_exchanged op) (binary_kind op ty) a b x y at)

  alike_some : (o : Option OpKind) (a x : Operand) (at : Place) → Alike (make_some o a at) (make_some o x at)
  alike_some None a x at c d e = e
  alike_some (Some o) a x at c d e = omega (arith, e)

  pub alike_conversion : (to from from2 : Ty) (a x : Operand) (at : Place) → from ≡ from2 → Alike (make_conversion to from a at) (make_conversion to from2 x at)
  alike_conversion to from from2 a x at same = subst (λ t. Alike (make_conversion to from a at) (make_conversion to t x at)) same (alike_some (conversion_kind to from) a x at)

  alike_unary : (op : UnaryOp) (a x : Operand) (at : Place) → Alike (make_unary op a at) (make_unary op x at)
  alike_unary unary.Plus a x at c d e = e
  alike_unary unary.Minus a x at c d e = omega (arith, e)
  alike_unary unary.Inv a x at c d e = omega (arith, e)
  alike_unary unary.Not a x at c d e = omega (arith, e)

  -- ---- two operands

  or_same : (later after : Bool) (x y : List ℕ) → later ≡ after → x ≡ y → (later || has_any x) ≡ (after || has_any y)
  or_same later after x y e f = ap (λ b. b || has_any x) e ∙ ap (λ l. after || has_any l) f

  module _ (a x b y : LoweredExpr) (ha : AlikeExpr a x) (hb : AlikeExpr b y) (at : Place) where
    later_same : (later after : Bool) → later ≡ after → (later || calls b) ≡ (after || calls y)
    later_same later after e = or_same later after b.callees y.callees e hb.callees

    alike_both : (later after : Bool) → later ≡ after → Alike (both a b at later) (both x y at after)
    alike_both later after e c d f =
        let ta = ha.emit (later || calls b) (after || calls y) (later_same later after e) c d f in
        let m : Made Operand = a.emit (later || calls b) c in
        let n : Made Operand = x.emit (after || calls y) d in
        let tb = hb.emit later after e (record { op = m.counts.op + 1; temp = m.counts.temp }) (record { op = n.counts.op + 1; temp = n.counts.temp }) ta in omega (arith, tb)

    alike_either : (later after : Bool) → later ≡ after → Alike (either_of a b at later) (either_of x y at after)
    alike_either later after e c d f =
        let ta = ha.emit (later || calls b) (after || calls y) (later_same later after e) c d f in
        let m : Made Operand = a.emit (later || calls b) c in
        let n : Made Operand = x.emit (after || calls y) d in
        hb.emit later after e (record { op = m.counts.op + 1 + 1 + 1; temp = m.counts.temp + 1 }) (record { op = n.counts.op + 1 + 1 + 1; temp = n.counts.temp + 1 }) (omega (arith, ta))

    alike_choice : (u v : LoweredExpr) → AlikeExpr u v → (later after : Bool) → later ≡ after → Alike (choice u a b at later) (choice v x y at after)
    alike_choice u v hu later after e c d f =
        let one : Bool = later || (calls a || calls b) in
        let two : Bool = after || (calls x || calls y) in
        let same : one ≡ two = ap (λ z. z || (calls a || calls b)) e ∙ (ap (λ l. after || (has_any l || calls b)) ha.callees ∙ ap (λ l. after || (calls x || has_any l)) hb.callees) in
        let tu = hu.emit one two same c d f in
        let m : Made Operand = u.emit one c in
        let n : Made Operand = v.emit two d in
        let c1 : Counts = record { op = m.counts.op + 1; temp = m.counts.temp } in
        let d1 : Counts = record { op = n.counts.op + 1; temp = n.counts.temp } in
        let ta = ha.emit (later || calls b) (after || calls y) (later_same later after e) c1 d1 tu in
        let p : Made Operand = a.emit (later || calls b) c1 in
        let q : Made Operand = x.emit (after || calls y) d1 in
        hb.emit later after e (record { op = p.counts.op + 1 + 1; temp = p.counts.temp + 1 }) (record { op = q.counts.op + 1 + 1; temp = q.counts.temp + 1 }) (omega (arith, ta))

    alike_ordinary : (op : BinaryOp) (ty tz : Ty) → ty ≡ tz → (later after : Bool) → later ≡ after → Alike (ordinary op ty a b at later) (ordinary op tz x y at after)
    alike_ordinary op ty tz same later after e = alike_on (a.emit (later || calls b)) (x.emit (after || calls y)) (second op ty b at later) (second op tz y at after) (ha.emit (later || calls b) (after || calls y) (later_same later after e)) (λ u v.
        alike_on (b.emit later) (y.emit after) (λ s. make_binary op ty u s at) (λ t. make_binary op tz v t at) (hb.emit later after e) (λ s t. alike_binary op ty tz u s v t at same))

    alike_two : (op : BinaryOp) (later after : Bool) → later ≡ after → Alike (binary_of op a b at later) (binary_of op x y at after)
    alike_two binary.And later after e = alike_both later after e
    alike_two binary.Or later after e = alike_either later after e
    alike_two binary.Mul later after e = alike_ordinary binary.Mul a.ty x.ty ha.ty later after e
    alike_two binary.Div later after e = alike_ordinary binary.Div a.ty x.ty ha.ty later after e
    alike_two binary.Rem later after e = alike_ordinary binary.Rem a.ty x.ty ha.ty later after e
    alike_two binary.Add later after e = alike_ordinary binary.Add a.ty x.ty ha.ty later after e
    alike_two binary.Sub later after e = alike_ordinary binary.Sub a.ty x.ty ha.ty later after e
    alike_two binary.Shl later after e = alike_ordinary binary.Shl a.ty x.ty ha.ty later after e
    alike_two binary.Shr later after e = alike_ordinary binary.Shr a.ty x.ty ha.ty later after e
    alike_two binary.Less later after e = alike_ordinary binary.Less a.ty x.ty ha.ty later after e
    alike_two binary.Greater later after e = alike_ordinary binary.Greater a.ty x.ty ha.ty later after e
    alike_two binary.LessEq later after e = alike_ordinary binary.LessEq a.ty x.ty ha.ty later after e
    alike_two binary.GreaterEq later after e = alike_ordinary binary.GreaterEq a.ty x.ty ha.ty later after e
    alike_two binary.Equal later after e = alike_ordinary binary.Equal a.ty x.ty ha.ty later after e
    alike_two binary.NotEqual later after e = alike_ordinary binary.NotEqual a.ty x.ty ha.ty later after e
    alike_two binary.BitAnd later after e = alike_ordinary binary.BitAnd a.ty x.ty ha.ty later after e
    alike_two binary.BitXor later after e = alike_ordinary binary.BitXor a.ty x.ty ha.ty later after e
    alike_two binary.BitOr later after e = alike_ordinary binary.BitOr a.ty x.ty ha.ty later after e

  -- ---- every expression of a program

  module _ (p : Program) (homes others : Homes) where
    abbrev pub S : Setting
    S = record { program = p; homes = homes }

    abbrev pub T : Setting
    T = record { program = p; homes = others }

    abbrev pub IsAlike : Expr → Type 0
    IsAlike e = AlikeExpr (lowered S e) (lowered T e)

    pub alike_read : (x : ℕ) (at : Place) (later after : Bool) → later ≡ after → Alike (read_scalar S x at later) (read_scalar T x at after)
    alike_read x at later after e = alike_if (later && is_global S x) (after && is_global T x) _ _ _ _ (ap (λ b. b && is_global S x) e) (λ c d f. omega (arith, f)) (λ c d f. f)

    copies_temp : (s : Setting) (xs : List ℕ) (operands : List Operand) (at : Place) (c : Counts) → (copy_arguments s xs operands at c).counts.temp ≡ c.temp
    copies_temp s [] operands at c = refl
    copies_temp s (x ∷ xs) [] at c = refl
    copies_temp s (x ∷ xs) (a ∷ operands) at c = copies_temp s xs operands at (record { op = c.op + 1; temp = c.temp })

    callees_same : (es : List Expr) → EachExpr IsAlike es → callees_of (map (lowered S) es) ≡ callees_of (map (lowered T) es)
    callees_same [] h = refl
    callees_same (e ∷ es) h = ap (λ l. l ++ callees_of (map (lowered S) es)) h.0.callees ∙ ap (λ l. (lowered T e).callees ++ l) (callees_same es h.1)

    alike_arguments : (xs ys : List Operand) (later after : Bool) → later ≡ after → (es : List Expr) → EachExpr IsAlike es → Alike (arguments_onto xs later (map (lowered S) es)) (arguments_onto ys after (map (lowered T) es))
    alike_arguments xs ys later after e [] h c d f = f
    alike_arguments xs ys later after e (x ∷ es) h c d f =
        alike_on ((lowered S x).emit (later || has_any (callees_of (map (lowered S) es)))) ((lowered T x).emit (after || has_any (callees_of (map (lowered T) es))))
        (λ a. arguments_onto (xs ++ a ∷ []) later (map (lowered S) es)) (λ a. arguments_onto (ys ++ a ∷ []) after (map (lowered T) es))
        (h.0.emit (later || has_any (callees_of (map (lowered S) es))) (after || has_any (callees_of (map (lowered T) es))) (or_same later after _ _ e (callees_same es h.1)))
        (λ a b. alike_arguments (xs ++ a ∷ []) (ys ++ b ∷ []) later after e es h.1) c d f

    alike_call : (f : ℕ) (fn : Option Function) (xs ys : List Operand) (at : Place) → Alike (call S f fn xs at) (call T f fn ys at)
    alike_call f None xs ys at c d e = e
    alike_call f (Some fn) xs ys at c d e = by_result fn.result (copy_arguments S fn.params xs at c) (copy_arguments T fn.params ys at d) (omega (arith, e, copies_temp S fn.params xs at c, copies_temp T fn.params ys at d))
      where
        by_result : (r : Option Ty) (m n : Made (Unit {0})) → n.counts.temp ≡ k + m.counts.temp
            → (made_on (call_to T f at n.counts) (λ _. take_result T f r at)).counts.temp ≡ k + (made_on (call_to S f at m.counts) (λ _. take_result S f r at)).counts.temp
        by_result None m n h = h
        by_result (Some ty) m n h = omega (arith, h)

    level : (x : ExprLayer) (at : Place) (ty : Ty) → ExprParts IsAlike x → AlikeExpr (lowered_by S (parts S x) at ty) (lowered_by T (parts T x) at ty)
    level (ExprKind-F.Number w) at ty h = record { ty = refl; callees = refl; emit = λ l m e c d f. f }
    level (ExprKind-F.Var x) at ty h = record { ty = refl; callees = refl; emit = λ l m e. alike_read x at l m e }
    level (ExprKind-F.Element x i) at ty h = record { ty = refl; callees = h.callees; emit = λ l m e. alike_on ((lowered S i).emit l) ((lowered T i).emit m) (λ a. load S x a at) (λ a. load T x a at) (h.emit l m e) (λ a b c d f. omega (arith, f)) }
    level (ExprKind-F.Convert x) at ty h = record { ty = refl; callees = h.callees; emit = λ l m e. alike_on ((lowered S x).emit l) ((lowered T x).emit m) (λ a. make_conversion ty (lowered S x).ty a at) (λ a. make_conversion ty (lowered T x).ty a at) (h.emit l m e) (λ a b. alike_conversion ty (lowered S x).ty (lowered T x).ty a b at h.ty) }
    level (ExprKind-F.Unary op x) at ty h = record { ty = refl; callees = h.callees; emit = λ l m e. alike_on ((lowered S x).emit l) ((lowered T x).emit m) (λ a. make_unary op a at) (λ a. make_unary op a at) (h.emit l m e) (λ a b. alike_unary op a b at) }
    level (ExprKind-F.Binary op a b) at ty h = record {
      ty = refl;
      callees = ap (λ l. l ++ (lowered S b).callees) h.0.callees ∙ ap (λ l. (lowered T a).callees ++ l) h.1.callees;
      emit = λ l m e. alike_two (lowered S a) (lowered T a) (lowered S b) (lowered T b) h.0 h.1 at op l m e;
    }
    level (ExprKind-F.Cond u a b) at ty h = record {
      ty = refl;
      callees = ap (λ l. l ++ ((lowered S a).callees ++ (lowered S b).callees)) h.0.callees
          ∙ ap (λ l. (lowered T u).callees ++ l) (ap (λ l. l ++ (lowered S b).callees) h.1.callees ∙ ap (λ l. (lowered T a).callees ++ l) h.2.callees);
      emit = λ l m e. alike_choice (lowered S a) (lowered T a) (lowered S b) (lowered T b) h.1 h.2 at (lowered S u) (lowered T u) h.0 l m e;
    }
    level (ExprKind-F.Call f args) at ty h = record {
      ty = refl;
      callees = ap (λ l. l ++ f ∷ []) (callees_same args h);
      emit = λ l m e. alike_on (arguments_onto [] l (map (lowered S) args)) (arguments_onto [] m (map (lowered T) args)) (λ xs. call S f (slice_get p.functions f) xs at) (λ ys. call T f (slice_get p.functions f) ys at) (alike_arguments [] [] l m e args h) (λ xs ys. alike_call f (slice_get p.functions f) xs ys at);
    }
    level ExprKind-F.Input at ty h = record { ty = refl; callees = refl; emit = λ l m e c d f. omega (arith, f) }
    level (ExprKind-F.Output x) at ty h = record { ty = refl; callees = h.callees; emit = λ l m e. alike_on ((lowered S x).emit l) ((lowered T x).emit m) (λ a. output a at) (λ a. output a at) (h.emit l m e) (λ a b c d f. f) }

    pub expr_alike : (e : Expr) → IsAlike e
    expr_alike = expr_induction IsAlike (λ e h. subst (λ l. AlikeExpr l (lowered T e)) (lowered_level S e) (subst (λ m. AlikeExpr (lowered_by S (parts S (out-ExprKind e.kind)) e.place e.ty) m) (lowered_level T e) (level (out-ExprKind e.kind) e.place e.ty h)))
