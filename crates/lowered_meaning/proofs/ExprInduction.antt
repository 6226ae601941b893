-- Every expression, level by level.
use Rattle.std.proofs.Common.{◌≡◌, ◌≢◌, ℕ, zero, suc, ◌+◌, ◌^◌, ◌<◌, ◌≤◌, Bool, true, false, Option, Some, None, List, [], ◌∷◌, ◌++◌, length, refl, sym, ap, ◌∙◌, subst, arith}
use Rattle.std.specs.Prelude.{⊤, ◌||◌, ◌&&◌, ◌%◌, if◌then◌else◌, slice_get, map}
use Rattle.base_io.specs.declared.place.Place.{Place}
use Rattle.c_values.specs.declared.ops.Ty.{Ty}
use Rattle.c_values.specs.declared.ops.UnaryOp.{UnaryOp}
use Rattle.c_values.specs.declared.ops.UnaryOp.TheVariants as unary
use Rattle.c_values.specs.declared.ops.BinaryOp.{BinaryOp}
use Rattle.c_values.specs.declared.ops.BinaryOp.TheVariants as binary
use Rattle.c_values.specs.Values as values
use Rattle.c_values.specs.Values.{unary_of, converted, from_test, is_set}
use Rattle.c_tree.specs.declared.tree.Expr.{Expr}
use Rattle.c_tree.specs.declared.tree.ExprKind.{out-ExprKind}
use Rattle.c_tree.specs.declared.tree.ExprKind.TheOpen.{ExprKind-F}
use Rattle.c_tree.specs.declared.tree.Function.{Function}
use Rattle.c_tree.specs.Layer.{ExprLayer}
use Rattle.c_tree.specs.Runs as part
use Rattle.c_tree.specs.Runs.{State, Done, Stopped, Part, begin, stop, go_on, word_or_trap, either, ◌>>=◌, ◌>>◌}
use Rattle.c_tree.specs.Nodes.{Within, to_depth, expr_by, binary_by, worked_by, second_by, choice_by, enter, run_body, values_onto}
use Rattle.sound_programs.specs.Counted.{expr_nodes, exprs_nodes, parts_nodes, counted, sum_of}
use Rattle.sound_programs.proofs.CountLevels.{expr_level}
use Rattle.flow_graph.specs.declared.graph.Graph.{Graph}
use Rattle.flow_graph.specs.declared.graph.OpKind.{OpKind}
use Rattle.flow_graph.specs.declared.graph.OpKind.TheVariants as kind
use Rattle.flow_graph.specs.declared.graph.Operand.{Operand}
use Rattle.flow_graph.specs.declared.graph.Operand.TheVariants.{Const, Object}
use Rattle.lowered_graphs.specs.Making as making
use Rattle.lowered_graphs.specs.Making.{Counts, Emit, Made, made_on, zero_operand, op_of}
use Rattle.lowered_graphs.specs.Operators.{conversion_kind, make_unary, make_some, is_exchanged, binary_kind, make_ordered}
use Rattle.lowered_graphs.specs.Exprs.{home, is_global, length_in, lowered, parts, emit_by, callees_by, calls, array_use, binary_of, ordinary, choice, take_result, copy_arguments, has_any, callees_of, read_scalar, load, set_new, is_set_op, copy_op, arguments_onto, call}
use Rattle.lowered_graphs.proofs.ExprLevels.{lowered_level, lowered_ty, has_any_append}
use Rattle.lowered_meaning.specs.Keeps.{Ground, StaysBy, IsOperand, IsHomeBy, OwnsTemporaries, HasHomes, Grows, Stays, LevelTracks}
use Rattle.lowered_meaning.proofs.RunLemmas.{shows_none, nothing_behind}
use Rattle.lowered_meaning.proofs.ShapeLemmas.{Tracked, begun, number, variable, copied_variable, made_stays, chosen_emit}
use Rattle.lowered_meaning.proofs.ElementLoads.{element, some_level, grows_some, stays_some}
use Rattle.lowered_meaning.proofs.ElementOperators.{operator, input_level, output_level, both_level, either_level, choice_level}
use Rattle.lowered_meaning.proofs.AssignActions.{ExprOk}
use Rattle.lowered_meaning.proofs.CallsArguments.{AllOk, grows_arguments}
use Rattle.lowered_meaning.proofs.Calls.{Callable, call_level, copies_temp}
use Rattle.lowered_meaning.proofs.WordsSame.{IsWide, kept_below, unary_below}
use Rattle.lowered_meaning.proofs.WordsTable.{ConvertsBy, WorksIfAny, is_idle, converts, conversion_works, minus_gives, inv_gives, not_gives}

-- what an expression owes of its operators' types
abbrev pub UnaryFits : UnaryOp → Ty → Type 0
UnaryFits unary.Minus ty = IsWide ty
UnaryFits unary.Inv ty = IsWide ty
UnaryFits _ ty = ⊤

or_l : (a b : Bool) → (a || b) ≡ false → a ≡ false
or_l true b e = e
or_l false b e = refl

or_r : (a b : Bool) → (a || b) ≡ false → b ≡ false
or_r true b e = cc
or_r false b e = e

true_or : (a : Bool) → (a || true) ≡ true
true_or true = refl
true_or false = refl

module _ (g : Graph) (w : Ground) (scope : ℕ → Type 0) (most : ℕ) (Fit : Expr → Type 0) (MayCall : ℕ → Function → Type 0) where
  abbrev pub AllFit : List Expr → Type 0
  AllFit [] = ⊤
  AllFit (e ∷ es) = Fit e × AllFit es

  -- what a level owes, and that its parts owe the same
  abbrev pub LayerFit : Ty → ExprLayer → Type 0
  LayerFit ty (ExprKind-F.Number n) = ⊤
  LayerFit ty (ExprKind-F.Var x) = scope x × (w.owner (home w.setting x) ≡ None → is_global w.setting x ≡ true)
  LayerFit ty (ExprKind-F.Element x i) = scope x × (length_in (slice_get w.setting.program.variables x) ≤ 1024) × Fit i
  LayerFit ty (ExprKind-F.Convert e) = (is_idle ty e.ty ≡ false) × Fit e
  LayerFit ty (ExprKind-F.Unary op a) = UnaryFits op a.ty × Fit a
  LayerFit ty (ExprKind-F.Binary op a b) = (op ≢ binary.And → op ≢ binary.Or → IsWide a.ty × IsWide b.ty) × Fit a × Fit b
  LayerFit ty (ExprKind-F.Cond c a b) = Fit c × Fit a × Fit b
  LayerFit ty (ExprKind-F.Call f args) = (fn : Function) × (slice_get w.setting.program.functions f ≡ Some fn) × (length args ≡ length fn.params) × MayCall f fn × AllFit args
  LayerFit ty ExprKind-F.Input = ⊤
  LayerFit ty (ExprKind-F.Output e) = Fit e

  -- a level behind its step
  record Level (n : ℕ) (called later : Bool) (p : Part ℕ) (emit : Emit Operand) : Type 0 where
    pub grows : Grows emit
    pub stays : Stays w later emit
    pub level : LevelTracks g w scope most n called p emit

  module _ (owns : OwnsTemporaries w) (homes : HasHomes w scope) (inner : ℕ → ℕ → Type 0) (nodes : ℕ → ℕ)
      (callable : (j f : ℕ) (fn : Function) → MayCall f fn → Callable g w scope (inner f) most (nodes f) f fn (run_body (to_depth w.setting.program j).stmt fn.body)) (n : ℕ)
      (ih : (e : Expr) → expr_nodes e ≤ n → Fit e → (j : ℕ) → ExprOk g w scope most (to_depth w.setting.program j).expr e) where
    abbrev E : Expr → Bool → Emit Operand
    E e later = (lowered w.setting e).emit later

    abbrev D : ℕ → Within
    D j = to_depth w.setting.program j

    all_ok : (es : List Expr) → exprs_nodes es ≤ n → AllFit es → (j : ℕ) → AllOk g w scope most (D j).expr es
    all_ok [] le fit j = tt
    all_ok (e ∷ es) le fit j = (ih e (omega (arith, le)) fit.0 j, all_ok es (omega (arith, le)) fit.1 j)

    sum_is : (es : List Expr) → sum_of (map expr_nodes es) ≡ exprs_nodes es
    sum_is [] = refl
    sum_is (e ∷ es) = ap (λ m. expr_nodes e + m) (sum_is es)

    -- ---- names

    var_level : (x : ℕ) (at : Place) (called later : Bool) → scope x → (w.owner (home w.setting x) ≡ None → is_global w.setting x ≡ true) → Level 0 called later (part.read x) (read_scalar w.setting x at later)
    var_level x at called later is global = by_case (later && is_global w.setting x) refl
      where
        stays_in : (m : Option ℕ) → w.owner (home w.setting x) ≡ m → IsHomeBy w (home w.setting x) m → (later && is_global w.setting x) ≡ false → (c : Counts) → w.base ≤ c.temp → StaysBy w later c.temp (home w.setting x) m
        stays_in None e h q c le = by_later later (sym (ap (λ b. later && b) (global e)) ∙ q)
          where
            by_later : (l : Bool) → (l && true) ≡ false → l ≡ false
            by_later true e = e
            by_later false e = refl
        stays_in (Some m) e h q c le = (h.0, omega (arith, h.1, le))

        by_case : (b : Bool) → (later && is_global w.setting x) ≡ b
            → Level 0 called later (part.read x) (if b then making.make_of kind.Copy (Object (home w.setting x)) zero_operand at else making.pure (Object (home w.setting x)))
        by_case true e = record {
          grows = λ c. omega arith;
          stays = λ c le top. made_stays w later (λ t. op_of kind.Copy (Some t) (Object (home w.setting x)) zero_operand None at) owns c le top;
          level = copied_variable g w scope most x called at owns homes is;
        }
        by_case false e = record {
          grows = λ c. omega arith;
          stays = λ c le top. stays_in (w.owner (home w.setting x)) refl (homes x is).1 e c le;
          level = variable g w scope most x called is;
        }

    element_level : (x : ℕ) (i : Expr) (at : Place) (later : Bool) (j : ℕ) → scope x → length_in (slice_get w.setting.program.variables x) ≤ 1024 → expr_nodes i ≤ n → Fit i
        → Level (expr_nodes i) (calls (lowered w.setting i)) later ((D j).expr i >>= (λ k. part.read_at x i.ty k)) (λ c. made_on (E i later c) (λ a. load w.setting x a at))
    element_level x i at later j is small le fit = record {
      grows = λ c. omega (arith, t.grows c);
      stays = λ c low top. made_stays w later (λ d. op_of kind.Load (Some d) (E i later c).value zero_operand (Some (array_use w.setting x)) at) owns (E i later c).counts (omega (arith, low, t.grows c)) top;
      level = element g w scope most (expr_nodes i) x i.ty (calls (lowered w.setting i)) later ((D j).expr i) (E i later) at owns homes is small t;
    }
      where
        t : Tracked g w scope most (expr_nodes i) (calls (lowered w.setting i)) later ((D j).expr i) (E i later)
        t = ih i le fit j later

    -- ---- one operand

    some : (e : Expr) (at : Place) (later : Bool) (j : ℕ) (V : ℕ → ℕ) (k : Option OpKind) → expr_nodes e ≤ n → Fit e → WorksIfAny k → ((v : ℕ) → v < 2 ^ 16 → ConvertsBy k v (V v)) → ((v : ℕ) → v < 2 ^ 16 → V v < 2 ^ 16)
        → Level (expr_nodes e) (calls (lowered w.setting e)) later ((D j).expr e >>= (λ v. part.pure (V v))) (λ c. made_on (E e later c) (λ a. make_some k a at))
    some e at later j V k le fit works same below = record {
      grows = grows_some (E e later) k at t.grows;
      stays = stays_some w later (E e later) k at owns t.grows t.stays;
      level = some_level g w scope most (expr_nodes e) (calls (lowered w.setting e)) later ((D j).expr e) (E e later) at V k owns homes t works same below;
    }
      where
        t : Tracked g w scope most (expr_nodes e) (calls (lowered w.setting e)) later ((D j).expr e) (E e later)
        t = ih e le fit j later

    unary_level : (op : UnaryOp) (a : Expr) (at : Place) (later : Bool) (j : ℕ) → UnaryFits op a.ty → expr_nodes a ≤ n → Fit a
        → Level (expr_nodes a) (calls (lowered w.setting a)) later ((D j).expr a >>= (λ v. part.pure (unary_of a.ty op v))) (λ c. made_on (E a later c) (λ x. make_unary op x at))
    unary_level unary.Plus a at later j wide le fit = some a at later j (unary_of a.ty unary.Plus) None le fit tt (λ v h. refl) (λ v h. unary_below a.ty unary.Plus v h)
    unary_level unary.Minus a at later j wide le fit = some a at later j (unary_of a.ty unary.Minus) (Some kind.Neg) le fit (record { effect = λ op x y s. refl; next = λ m. refl }) (λ v h. minus_gives a.ty v 0 wide h) (λ v h. unary_below a.ty unary.Minus v h)
    unary_level unary.Inv a at later j wide le fit = some a at later j (unary_of a.ty unary.Inv) (Some kind.Inv) le fit (record { effect = λ op x y s. refl; next = λ m. refl }) (λ v h. inv_gives a.ty v 0 wide h) (λ v h. unary_below a.ty unary.Inv v h)
    unary_level unary.Not a at later j wide le fit = some a at later j (unary_of a.ty unary.Not) (Some kind.Eq) le fit (record { effect = λ op x y s. refl; next = λ m. refl }) (λ v h. not_gives a.ty v) (λ v h. unary_below a.ty unary.Not v h)

    convert_level : (ty from : Ty) (e : Expr) (at : Place) (later : Bool) (j : ℕ) → is_idle ty from ≡ false → expr_nodes e ≤ n → Fit e
        → Level (expr_nodes e) (calls (lowered w.setting e)) later ((D j).expr e >>= (λ v. part.pure (converted ty from v))) (λ c. made_on (E e later c) (λ a. make_some (conversion_kind ty from) a at))
    convert_level ty from e at later j idle le fit =
        some e at later j (converted ty from) (conversion_kind ty from) le fit (conversion_works ty from) (λ v h. converts ty from v h idle) (λ v h. kept_below ty _)

    -- ---- two operands

    operator_level : (op : BinaryOp) (ty : Ty) (a b : Expr) (at : Place) (called later : Bool) (j : ℕ) → op ≢ binary.And → op ≢ binary.Or → IsWide ty → IsWide b.ty
        → (called ≡ false → calls (lowered w.setting a) ≡ false) → (called ≡ false → calls (lowered w.setting b) ≡ false) → expr_nodes a ≤ n → expr_nodes b ≤ n → Fit a → Fit b
        → Level (expr_nodes a + expr_nodes b) called later ((D j).expr a >>= (λ v. (D j).expr b >>= (λ u. word_or_trap (values.binary_of ty b.ty op v u))))
        (λ c. made_on (E a (later || calls (lowered w.setting b)) c) (λ x c'. made_on (E b later c') (λ y. make_ordered (is_exchanged op) (binary_kind op ty) x y at)))
    operator_level op ty a b at called later j ne ne' wa wb fa fb la lb fita fitb = record {
      grows = λ c. by_order_grows (is_exchanged op) c;
      stays = λ c low top. by_order (is_exchanged op) c low top;
      level = operator g w scope most (expr_nodes a) (expr_nodes b) called (calls (lowered w.setting a)) (calls (lowered w.setting b)) later (later || calls (lowered w.setting b)) ((D j).expr a) ((D j).expr b)
          (E a (later || calls (lowered w.setting b))) (E b later) op ty b.ty at owns homes fa fb (or_r later (calls (lowered w.setting b))) wa wb ne ne' ta tb;
    }
      where
        ta : Tracked g w scope most (expr_nodes a) (calls (lowered w.setting a)) (later || calls (lowered w.setting b)) ((D j).expr a) (E a (later || calls (lowered w.setting b)))
        ta = ih a la fita j (later || calls (lowered w.setting b))

        tb : Tracked g w scope most (expr_nodes b) (calls (lowered w.setting b)) later ((D j).expr b) (E b later)
        tb = ih b lb fitb j later

        ordered : Bool → Emit Operand
        ordered t c = made_on (E a (later || calls (lowered w.setting b)) c) (λ x c'. made_on (E b later c') (λ y. make_ordered t (binary_kind op ty) x y at))

        by_order_grows : (t : Bool) (c : Counts) → c.temp ≤ (ordered t c).counts.temp
        by_order_grows true c = omega (arith, ta.grows c, tb.grows (E a (later || calls (lowered w.setting b)) c).counts)
        by_order_grows false c = omega (arith, ta.grows c, tb.grows (E a (later || calls (lowered w.setting b)) c).counts)

        by_order : (t : Bool) (c : Counts) → w.base ≤ c.temp → (ordered t c).counts.temp ≤ w.top → IsOperand w later (ordered t c).counts.temp (ordered t c).value
        by_order true c low top = made_stays w later (λ d. op_of (binary_kind op ty) (Some d) zero_operand zero_operand None at) owns (E b later (E a (later || calls (lowered w.setting b)) c).counts).counts
            (omega (arith, low, ta.grows c, tb.grows (E a (later || calls (lowered w.setting b)) c).counts)) top
        by_order false c low top = made_stays w later (λ d. op_of (binary_kind op ty) (Some d) zero_operand zero_operand None at) owns (E b later (E a (later || calls (lowered w.setting b)) c).counts).counts
            (omega (arith, low, ta.grows c, tb.grows (E a (later || calls (lowered w.setting b)) c).counts)) top

    -- ---- choices

    choose : (zn : ℕ) (called cc later later' : Bool) (p : Part ℕ) (q : ℕ → Part ℕ) (zc : ℕ) (ec : Emit Operand) (x : Emit ℕ) (y : ℕ → Emit (Unit {0})) (at : Place) → Tracked g w scope most zc cc later' p ec
        → ((c : Counts) → (c.temp ≤ (x c).value) × ((x c).value < (x c).counts.temp)) → ((t : ℕ) (c : Counts) → c.temp ≤ (y t c).counts.temp)
        → LevelTracks g w scope most zn called (p >>= q) (chosen_emit ec x y at) → Level zn called later (p >>= q) (chosen_emit ec x y at)
    choose zn called cc later later' p q zc ec x y at t gx gy h = record {
      grows = λ c. omega (arith, t.grows c, gx (behind c), gy (x (behind c)).value (x (behind c)).counts);
      stays = λ c low top. let le : w.base ≤ (x (behind c)).value = omega (arith, low, t.grows c, gx (behind c)) in
          let lt : (x (behind c)).value < (y (x (behind c)).value (x (behind c)).counts).counts.temp = omega (arith, gx (behind c), gy (x (behind c)).value (x (behind c)).counts) in
          subst (StaysBy w later (y (x (behind c)).value (x (behind c)).counts).counts.temp (x (behind c)).value) (sym (owns (x (behind c)).value le (omega (arith, lt, top)))) (refl, lt);
      level = h;
    }
      where
        behind : Counts → Counts
        behind c = record { op = (ec c).counts.op + 1; temp = (ec c).counts.temp }

    abbrev any_of : Expr → Expr → Bool
    any_of a b = has_any ((lowered w.setting a).callees ++ (lowered w.setting b).callees)

    first_of_any : (a b : Expr) → any_of a b ≡ false → calls (lowered w.setting a) ≡ false
    first_of_any a b e = or_l (calls (lowered w.setting a)) (calls (lowered w.setting b)) (sym (has_any_append (lowered w.setting a).callees (lowered w.setting b).callees) ∙ e)

    second_of_any : (a b : Expr) → any_of a b ≡ false → calls (lowered w.setting b) ≡ false
    second_of_any a b e = or_r (calls (lowered w.setting a)) (calls (lowered w.setting b)) (sym (has_any_append (lowered w.setting a).callees (lowered w.setting b).callees) ∙ e)

    ordinary_level : (op : BinaryOp) (a b : Expr) (at : Place) (later : Bool) (j : ℕ) → op ≢ binary.And → op ≢ binary.Or → (op ≢ binary.And → op ≢ binary.Or → IsWide a.ty × IsWide b.ty) → expr_nodes a + expr_nodes b ≤ n → Fit a → Fit b
        → Level (expr_nodes a + expr_nodes b) (any_of a b) later ((D j).expr a >>= worked_by (D j).expr op a b) (ordinary op (lowered w.setting a).ty (lowered w.setting a) (lowered w.setting b) at later)
    ordinary_level op a b at later j ne ne' wide le fita fitb =
        subst (λ ty. Level (expr_nodes a + expr_nodes b) (any_of a b) later ((D j).expr a >>= worked_by (D j).expr op a b) (ordinary op ty (lowered w.setting a) (lowered w.setting b) at later)) (sym (lowered_ty w.setting a))
        (operator_level op a.ty a b at (any_of a b) later j ne ne' (wide ne ne').0 (wide ne ne').1 (first_of_any a b) (second_of_any a b) (omega (arith, le)) (omega (arith, le)) fita fitb)

    and_is : (j : ℕ) (a b : Expr) (v : ℕ) → second_by (D j).expr binary.And a b v ≡ either (is_set v) ((D j).expr b >>= (λ u. part.pure (from_test (is_set u)))) (part.pure 0)
    and_is j a b zero = refl
    and_is j a b (suc v) = refl

    or_is : (j : ℕ) (a b : Expr) (v : ℕ) → second_by (D j).expr binary.Or a b v ≡ either (is_set v) (part.pure 1) ((D j).expr b >>= (λ u. part.pure (from_test (is_set u))))
    or_is j a b zero = refl
    or_is j a b (suc v) = refl

    part_ext : (p q : Part ℕ) → ((d : State) → p d ≡ q d) → p ≡ q
    part_ext p q h = λ i d. h d i

    choice_is : (j : ℕ) (a b : Expr) (v : ℕ) → choice_by (D j).expr a b v ≡ either (is_set v) ((D j).expr a >>= (λ u. part.pure u)) ((D j).expr b >>= (λ u. part.pure u))
    choice_is j a b zero = part_ext ((D j).expr b) ((D j).expr b >>= (λ u. part.pure u)) (λ d. sym (nothing_behind ((D j).expr b d)))
    choice_is j a b (suc v) = part_ext ((D j).expr a) ((D j).expr a >>= (λ u. part.pure u)) (λ d. sym (nothing_behind ((D j).expr a d)))

    ok : (e : Expr) (later : Bool) (j : ℕ) → expr_nodes e ≤ n → Fit e → Tracked g w scope most (expr_nodes e) (calls (lowered w.setting e)) later ((D j).expr e) (E e later)
    ok e later j le fit = ih e le fit j later

    binary_level : (op : BinaryOp) (a b : Expr) (at : Place) (later : Bool) (j : ℕ) → (op ≢ binary.And → op ≢ binary.Or → IsWide a.ty × IsWide b.ty) → expr_nodes a + expr_nodes b ≤ n → Fit a → Fit b
        → Level (expr_nodes a + expr_nodes b) (any_of a b) later (binary_by (D j).expr op a b) (binary_of op (lowered w.setting a) (lowered w.setting b) at later)
    binary_level binary.And a b at later j wide le fita fitb =
        subst (λ m. Level m (any_of a b) later (binary_by (D j).expr binary.And a b) (binary_of binary.And (lowered w.setting a) (lowered w.setting b) at later)) (omega arith)
        (choose (expr_nodes a + (expr_nodes b + 0)) (any_of a b) (calls (lowered w.setting a)) later (later || calls (lowered w.setting b)) ((D j).expr a) (second_by (D j).expr binary.And a b) (expr_nodes a) (E a (later || calls (lowered w.setting b)))
        (λ c. made_on (E b later c) (λ y. set_new (is_set_op at) y at)) (λ t. making.one (copy_op at (Const 0) t)) at (ok a (later || calls (lowered w.setting b)) j (omega (arith, le)) fita)
        (λ c. omega (arith, (ok b later j (omega (arith, le)) fitb).grows c)) (λ t c. omega arith)
        (both_level g w scope most (expr_nodes a) (expr_nodes b) (any_of a b) (calls (lowered w.setting a)) (calls (lowered w.setting b)) later (later || calls (lowered w.setting b)) ((D j).expr a) ((D j).expr b) (second_by (D j).expr binary.And a b)
        (E a (later || calls (lowered w.setting b))) (E b later) at owns homes (first_of_any a b) (second_of_any a b) (ok a (later || calls (lowered w.setting b)) j (omega (arith, le)) fita) (ok b later j (omega (arith, le)) fitb) (and_is j a b)))
    binary_level binary.Or a b at later j wide le fita fitb =
        subst (λ m. Level m (any_of a b) later (binary_by (D j).expr binary.Or a b) (binary_of binary.Or (lowered w.setting a) (lowered w.setting b) at later)) (omega arith)
        (choose (expr_nodes a + (0 + expr_nodes b)) (any_of a b) (calls (lowered w.setting a)) later (later || calls (lowered w.setting b)) ((D j).expr a) (second_by (D j).expr binary.Or a b) (expr_nodes a) (E a (later || calls (lowered w.setting b)))
        (set_new (copy_op at) (Const 1) at) (λ t c. made_on (E b later c) (λ y. making.one (is_set_op at y t))) at (ok a (later || calls (lowered w.setting b)) j (omega (arith, le)) fita)
        (λ c. omega arith) (λ t c. omega (arith, (ok b later j (omega (arith, le)) fitb).grows c))
        (either_level g w scope most (expr_nodes a) (expr_nodes b) (any_of a b) (calls (lowered w.setting a)) (calls (lowered w.setting b)) later (later || calls (lowered w.setting b)) ((D j).expr a) ((D j).expr b) (second_by (D j).expr binary.Or a b)
        (E a (later || calls (lowered w.setting b))) (E b later) at owns homes (first_of_any a b) (second_of_any a b) (ok a (later || calls (lowered w.setting b)) j (omega (arith, le)) fita) (ok b later j (omega (arith, le)) fitb) (or_is j a b)))
    binary_level binary.Mul a b at later j wide le fita fitb = ordinary_level binary.Mul a b at later j (λ e. cc) (λ e. cc) wide le fita fitb
    binary_level binary.Div a b at later j wide le fita fitb = ordinary_level binary.Div a b at later j (λ e. cc) (λ e. cc) wide le fita fitb
    binary_level binary.Rem a b at later j wide le fita fitb = ordinary_level binary.Rem a b at later j (λ e. cc) (λ e. cc) wide le fita fitb
    binary_level binary.Add a b at later j wide le fita fitb = ordinary_level binary.Add a b at later j (λ e. cc) (λ e. cc) wide le fita fitb
    binary_level binary.Sub a b at later j wide le fita fitb = ordinary_level binary.Sub a b at later j (λ e. cc) (λ e. cc) wide le fita fitb
    binary_level binary.Shl a b at later j wide le fita fitb = ordinary_level binary.Shl a b at later j (λ e. cc) (λ e. cc) wide le fita fitb
    binary_level binary.Shr a b at later j wide le fita fitb = ordinary_level binary.Shr a b at later j (λ e. cc) (λ e. cc) wide le fita fitb
    binary_level binary.Less a b at later j wide le fita fitb = ordinary_level binary.Less a b at later j (λ e. cc) (λ e. cc) wide le fita fitb
    binary_level binary.Greater a b at later j wide le fita fitb = ordinary_level binary.Greater a b at later j (λ e. cc) (λ e. cc) wide le fita fitb
    binary_level binary.LessEq a b at later j wide le fita fitb = ordinary_level binary.LessEq a b at later j (λ e. cc) (λ e. cc) wide le fita fitb
    binary_level binary.GreaterEq a b at later j wide le fita fitb = ordinary_level binary.GreaterEq a b at later j (λ e. cc) (λ e. cc) wide le fita fitb
    binary_level binary.Equal a b at later j wide le fita fitb = ordinary_level binary.Equal a b at later j (λ e. cc) (λ e. cc) wide le fita fitb
    binary_level binary.NotEqual a b at later j wide le fita fitb = ordinary_level binary.NotEqual a b at later j (λ e. cc) (λ e. cc) wide le fita fitb
    binary_level binary.BitAnd a b at later j wide le fita fitb = ordinary_level binary.BitAnd a b at later j (λ e. cc) (λ e. cc) wide le fita fitb
    binary_level binary.BitXor a b at later j wide le fita fitb = ordinary_level binary.BitXor a b at later j (λ e. cc) (λ e. cc) wide le fita fitb
    binary_level binary.BitOr a b at later j wide le fita fitb = ordinary_level binary.BitOr a b at later j (λ e. cc) (λ e. cc) wide le fita fitb

    -- a choice, and what of it may call
    any_of_three : (x y z : Bool) → (x || (y || z)) ≡ false → (x ≡ false) × (y ≡ false) × (z ≡ false)
    any_of_three x y z e = (or_l x (y || z) e, or_l y z (or_r x (y || z) e), or_r y z (or_r x (y || z) e))

    cond_level : (c a b : Expr) (at : Place) (later : Bool) (j : ℕ) → expr_nodes c + (expr_nodes a + expr_nodes b) ≤ n → Fit c → Fit a → Fit b
        → Level (expr_nodes c + (expr_nodes a + expr_nodes b)) (has_any ((lowered w.setting c).callees ++ ((lowered w.setting a).callees ++ (lowered w.setting b).callees))) later ((D j).expr c >>= choice_by (D j).expr a b)
        (choice (lowered w.setting c) (lowered w.setting a) (lowered w.setting b) at later)
    cond_level c a b at later j le fitc fita fitb =
        choose (expr_nodes c + (expr_nodes a + expr_nodes b)) called cc' later (later || (ca || cb)) ((D j).expr c) (choice_by (D j).expr a b) (expr_nodes c) (E c (later || (ca || cb)))
        (λ t. made_on (E a (later || cb) t) (λ y. set_new (copy_op at) y at)) (λ u t. made_on (E b later t) (λ y. making.one (copy_op at y u))) at tc
        (λ t. omega (arith, ta.grows t)) (λ u t. omega (arith, tb.grows t))
        (choice_level g w scope most (expr_nodes c) (expr_nodes a) (expr_nodes b) called cc' ca cb later (later || cb) (later || (ca || cb)) ((D j).expr c) ((D j).expr a) ((D j).expr b) (choice_by (D j).expr a b)
        (E c (later || (ca || cb))) (E a (later || cb)) (E b later) at owns homes (λ e. (split e).0) (λ e. (split e).1) (λ e. (split e).2) tc ta tb (choice_is j a b))
      where
        cc' : Bool
        cc' = calls (lowered w.setting c)

        ca : Bool
        ca = calls (lowered w.setting a)

        cb : Bool
        cb = calls (lowered w.setting b)

        called : Bool
        called = has_any ((lowered w.setting c).callees ++ ((lowered w.setting a).callees ++ (lowered w.setting b).callees))

        split : called ≡ false → (cc' ≡ false) × (ca ≡ false) × (cb ≡ false)
        split e = any_of_three cc' ca cb (ap (λ x. cc' || x) (sym (has_any_append (lowered w.setting a).callees (lowered w.setting b).callees))
            ∙ (sym (has_any_append (lowered w.setting c).callees ((lowered w.setting a).callees ++ (lowered w.setting b).callees)) ∙ e))

        tc : Tracked g w scope most (expr_nodes c) cc' (later || (ca || cb)) ((D j).expr c) (E c (later || (ca || cb)))
        tc = ok c (later || (ca || cb)) j (omega (arith, le)) fitc

        ta : Tracked g w scope most (expr_nodes a) ca (later || cb) ((D j).expr a) (E a (later || cb))
        ta = ok a (later || cb) j (omega (arith, le)) fita

        tb : Tracked g w scope most (expr_nodes b) cb later ((D j).expr b) (E b later)
        tb = ok b later j (omega (arith, le)) fitb

    -- ---- calls

    called_level : (f : ℕ) (fn : Function) (args : List Expr) (at : Place) (later : Bool) (j : ℕ) → MayCall f fn → length args ≡ length fn.params → exprs_nodes args ≤ n → AllFit args
        → Level (exprs_nodes args) true later (values_onto (D j).expr [] args >>= enter (D j).stmt (Some fn)) (λ c. made_on (arguments_onto [] later (map (lowered w.setting) args) c) (λ xs. call w.setting f (Some fn) xs at))
    called_level f fn args at later j may same le fit = record {
      grows = λ c. omega (arith, up c, copies c, result fn.result (behind c));
      stays = λ c low top. stays_result fn.result (behind c) (omega (arith, low, up c, copies c)) top;
      level = call_level g w scope (inner f) most (nodes f) f fn (run_body (D j).stmt fn.body) owns homes (callable j f fn may) (D j).expr args later at (all_ok args le fit j) same;
    }
      where
        given : Counts → Made (List Operand)
        given c = arguments_onto [] later (map (lowered w.setting) args) c

        behind : Counts → Counts
        behind c = record { op = (copy_arguments w.setting fn.params (given c).value at (given c).counts).counts.op + 1; temp = (copy_arguments w.setting fn.params (given c).value at (given c).counts).counts.temp }

        up : (c : Counts) → c.temp ≤ (given c).counts.temp
        up c = grows_arguments g w scope most (D j).expr args [] later c (all_ok args le fit j)

        copies : (c : Counts) → (copy_arguments w.setting fn.params (given c).value at (given c).counts).counts.temp ≡ (given c).counts.temp
        copies c = copies_temp g w scope (inner f) most (nodes f) f fn (run_body (D j).stmt fn.body) owns homes (callable j f fn may) fn.params (given c).value at (given c).counts

        result : (t : Option Ty) (c : Counts) → c.temp ≤ (take_result w.setting f t at c).counts.temp
        result None c = omega arith
        result (Some ty) c = omega arith

        stays_result : (t : Option Ty) (c : Counts) → w.base ≤ c.temp → (take_result w.setting f t at c).counts.temp ≤ w.top → IsOperand w later (take_result w.setting f t at c).counts.temp (take_result w.setting f t at c).value
        stays_result None c low top = omega arith
        stays_result (Some ty) c low top = made_stays w later (λ d. op_of kind.Copy (Some d) zero_operand zero_operand None at) owns c low top

    -- ---- a level

    layer_level : (L : ExprLayer) (ty : Ty) (at : Place) (later : Bool) (j : ℕ) → LayerFit ty L → parts_nodes (counted L) ≤ n
        → Level (parts_nodes (counted L)) (has_any (callees_by (parts w.setting L))) later (expr_by w.setting.program (D j) ty L) (emit_by w.setting (parts w.setting L) at ty later)
    layer_level (ExprKind-F.Number v) ty at later j fit le = record { grows = λ c. omega arith; stays = λ c low top. omega arith; level = number g w scope most (v % 2 ^ 16) false }
    layer_level (ExprKind-F.Var x) ty at later j fit le = var_level x at false later fit.0 fit.1
    layer_level (ExprKind-F.Element x i) ty at later j fit le = element_level x i at later j fit.0 fit.1 le fit.2
    layer_level (ExprKind-F.Convert e) ty at later j fit le =
        subst (λ from. Level (expr_nodes e) (calls (lowered w.setting e)) later ((D j).expr e >>= (λ v. part.pure (converted ty e.ty v))) (λ c. made_on (E e later c) (λ a. make_some (conversion_kind ty from) a at))) (sym (lowered_ty w.setting e))
        (convert_level ty e.ty e at later j fit.0 le fit.1)
    layer_level (ExprKind-F.Unary op a) ty at later j fit le = unary_level op a at later j fit.0 le fit.1
    layer_level (ExprKind-F.Binary op a b) ty at later j fit le = binary_level op a b at later j fit.0 le fit.1 fit.2
    layer_level (ExprKind-F.Cond c a b) ty at later j fit le = cond_level c a b at later j le fit.0 fit.1 fit.2
    layer_level (ExprKind-F.Call f args) ty at later j fit le =
        subst (λ m. Level m (has_any (callees_by (parts w.setting (ExprKind-F.Call f args)))) later (expr_by w.setting.program (D j) ty (ExprKind-F.Call f args)) (emit_by w.setting (parts w.setting (ExprKind-F.Call f args)) at ty later)) (sym (sum_is args))
        (subst (λ b. Level (exprs_nodes args) b later (expr_by w.setting.program (D j) ty (ExprKind-F.Call f args)) (emit_by w.setting (parts w.setting (ExprKind-F.Call f args)) at ty later))
        (sym (has_any_append (callees_of (map (lowered w.setting) args)) (f ∷ []) ∙ true_or (has_any (callees_of (map (lowered w.setting) args)))))
        (subst (λ o. Level (exprs_nodes args) true later (values_onto (D j).expr [] args >>= enter (D j).stmt o) (λ c. made_on (arguments_onto [] later (map (lowered w.setting) args) c) (λ xs. call w.setting f o xs at))) (sym fit.1)
        (called_level f fit.0 args at later j fit.3 fit.2 (subst (λ m. m ≤ n) (sum_is args) le) fit.4)))
    layer_level ExprKind-F.Input ty at later j fit le = record {
      grows = λ c. omega arith;
      stays = λ c low top. made_stays w later (λ d. op_of kind.Input (Some d) zero_operand zero_operand None at) owns c low top;
      level = input_level g w scope most false at owns homes;
    }
    layer_level (ExprKind-F.Output e) ty at later j fit le = record {
      grows = λ c. omega (arith, (ok e later j le fit).grows c);
      stays = λ c low top. omega arith;
      level = output_level g w scope most (expr_nodes e) (calls (lowered w.setting e)) later ((D j).expr e) (E e later) at (ok e later j le fit);
    }

    -- behind its step
    tracked_at : (e : Expr) (N : ℕ) (called later : Bool) (emit : Emit Operand) (j : ℕ) → ((i : ℕ) → Level N called later (expr_by w.setting.program (D i) e.ty (out-ExprKind e.kind)) emit)
        → Tracked g w scope most (suc N) called later ((D j).expr e) emit
    unfolding to_depth
    tracked_at e N called later emit zero h = record {
      grows = (h 0).grows;
      stays = (h 0).stays;
      tracks = λ c le top k s d a o agrees ready stand at. shows_none g most (a + suc N) o s;
    }
    tracked_at e N called later emit (suc i) h = record {
      grows = (h i).grows;
      stays = (h i).stays;
      tracks = begun g w scope most N called (expr_by w.setting.program (D i) e.ty (out-ExprKind e.kind)) emit (h i).level;
    }

    pub expr_ok : (e : Expr) → LayerFit e.ty (out-ExprKind e.kind) → expr_nodes e ≤ suc n → (j : ℕ) → ExprOk g w scope most (D j).expr e
    expr_ok e fit le j later =
        subst (λ m. Tracked g w scope most m (calls (lowered w.setting e)) later ((D j).expr e) (E e later)) (omega (arith, expr_level e))
        (subst (λ l. Tracked g w scope most (suc (parts_nodes (counted (out-ExprKind e.kind)))) (calls l) later ((D j).expr e) (l.emit later)) (lowered_level w.setting e)
        (tracked_at e (parts_nodes (counted (out-ExprKind e.kind))) (has_any (callees_by (parts w.setting (out-ExprKind e.kind)))) later (emit_by w.setting (parts w.setting (out-ExprKind e.kind)) e.place e.ty later) j
        (λ i. layer_level (out-ExprKind e.kind) e.ty e.place later i fit (omega (arith, le, expr_level e)))))

  -- each expression that fits is tracked, at every depth
  pub all_tracked : (owns : OwnsTemporaries w) (homes : HasHomes w scope) (inner : ℕ → ℕ → Type 0) (nodes : ℕ → ℕ)
      (callable : (j f : ℕ) (fn : Function) → MayCall f fn → Callable g w scope (inner f) most (nodes f) f fn (run_body (to_depth w.setting.program j).stmt fn.body))
      → ((e : Expr) → Fit e → LayerFit e.ty (out-ExprKind e.kind)) → (n : ℕ) (e : Expr) → expr_nodes e ≤ n → Fit e → (j : ℕ) → ExprOk g w scope most (to_depth w.setting.program j).expr e
  all_tracked owns homes inner nodes callable close zero e le fit j = absurd (omega (arith, le, expr_level e))
  all_tracked owns homes inner nodes callable close (suc n) e le fit j = expr_ok owns homes inner nodes callable n (all_tracked owns homes inner nodes callable close n) e (close e fit) le j
