-- Constant expressions: the graph does nothing of them, and they give the word that they are known to have.
use Rattle.std.proofs.Common.{◌≡◌, ℕ, zero, suc, ◌+◌, ◌%◌, ◌^◌, ◌<◌, ◌≤◌, Bool, true, false, Option, Some, None, [], refl, sym, ap, ◌∙◌, subst, arith}
use Rattle.std.specs.Prelude.{◌&&◌, if◌then◌else◌}
use Rattle.std.specs.Option.{option_map, option_and_then}
use Rattle.c_values.specs.declared.ops.Ty.{Ty}
use Rattle.c_values.specs.declared.ops.BinaryOp.{BinaryOp}
use Rattle.c_values.specs.declared.ops.UnaryOp.{UnaryOp}
use Rattle.c_values.specs.Values.{Worked, Gives, Traps, value, converted, from_test, is_set, unary_of, binary_of}
use Rattle.c_tree.specs.declared.tree.Expr.{Expr}
use Rattle.c_tree.specs.declared.tree.ExprKind.{out-ExprKind}
use Rattle.c_tree.specs.declared.tree.ExprKind.TheOpen.{ExprKind-F}
use Rattle.c_tree.specs.declared.tree.Program.{Program}
use Rattle.c_tree.specs.Layer.{ExprLayer}
use Rattle.c_tree.specs.Runs.{State, Done, Part, pure, either, word_or_trap, ◌>>=◌}
use Rattle.c_tree.specs.Nodes.{Within, to_depth, expr_by, decides, second_by, worked_by}
use Rattle.sound_programs.specs.Counted.{expr_nodes, or_none, counted, parts_nodes}
use Rattle.sound_programs.proofs.CountLevels.{expr_level}
use Rattle.flow_graph.specs.declared.graph.Graph.{Graph}
use Rattle.flow_graph.specs.Flow.{Spot}
use Rattle.lowered_graphs.specs.Counted.{given, second_word, constant, constant_parts, is_made, word_by}
use Rattle.lowered_graphs.proofs.ConstantLevels.{constant_level, constant_ty}
use Rattle.lowered_meaning.proofs.WordsSame.{kept_below, binary_below, unary_below, below_of}
use Rattle.lowered_meaning.proofs.CountedParts.{Still, still_done, still_stopped, still_begun, still_on, still_more}

pub test_small : (b : Bool) → from_test b < 2 ^ 16
test_small true = omega arith
test_small false = omega arith

pub and_left : (a b : Bool) → (a && b) ≡ true → a ≡ true
and_left true b e = refl
and_left false b e = cc

pub and_right : (a b : Bool) → (a && b) ≡ true → b ≡ true
and_right true b e = e
and_right false b e = cc

module _ (g : Graph) (most : ℕ) (p : Program) where
  abbrev D : ℕ → Within
  D j = to_depth p j

  -- of an expression with so many nodes: its word, and that it is still
  abbrev pub Known : Expr → ℕ → Type 0
  Known e v = (v < 2 ^ 16) × ((j : ℕ) (d : State) (z : Spot) → Still g most (expr_nodes e) v d z ((D j).expr e d))

  module _ (n : ℕ) (ih : (e : Expr) → expr_nodes e ≤ n → (constant e).made ≡ true → (v : ℕ) → (constant e).word ≡ Some v → Known e v) where
    abbrev LayerKnown : Ty → ExprLayer → ℕ → Type 0
    LayerKnown ty x v = (v < 2 ^ 16) × ((j : ℕ) (d : State) (z : Spot) → Still g most (parts_nodes (counted x)) v d z (expr_by p (D j) ty x d))

    one_known : (ty : Ty) (a : Expr) (f : ℕ → ℕ) (v u : ℕ) → Known a u → f u ≡ v → (j : ℕ) (d : State) (z : Spot) → Still g most (expr_nodes a) v d z (((D j).expr a >>= (λ w. pure (f w))) d)
    one_known ty a f v u known e j d z = still_more g most (expr_nodes a + 0) (expr_nodes a) v d z (((D j).expr a >>= (λ w. pure (f w))) d) (omega arith)
        (still_on g most (expr_nodes a) 0 u v d z ((D j).expr a) (λ w. pure (f w)) (known.1 j d z)
        (λ i. subst (λ m. Still g most 0 m (record d { left = i }) z (Done [] (f u) (record d { left = i }))) e (still_done g most (f u) (record d { left = i }) z)))

    number_known : (ty : Ty) (m v : ℕ) → word_by ty (ExprKind-F.Number m) ≡ Some v → LayerKnown ty (ExprKind-F.Number m) v
    number_known ty m v e = (subst (λ x. x < 2 ^ 16) (ap or_none e) (omega arith), λ j d z. subst (λ x. Still g most 0 x d z (Done [] (m % 2 ^ 16) d)) (ap or_none e) (still_done g most (m % 2 ^ 16) d z))

    convert_known : (ty : Ty) (a : Expr) (v : ℕ) → expr_nodes a ≤ n → (constant a).made ≡ true → option_map (converted ty (constant a).ty) (constant a).word ≡ Some v → LayerKnown ty (ExprKind-F.Convert a) v
    convert_known ty a v le made e = by_word (constant a).word refl e
      where
        by_word : (m : Option ℕ) → (constant a).word ≡ m → option_map (converted ty (constant a).ty) m ≡ Some v → LayerKnown ty (ExprKind-F.Convert a) v
        by_word None q e = cc
        by_word (Some u) q e =
            let is : converted ty a.ty u ≡ v = ap (λ t. converted ty t u) (sym (constant_ty a)) ∙ ap or_none e in
            (subst (λ x. x < 2 ^ 16) is (kept_below ty (value a.ty u)), λ j d z. one_known ty a (converted ty a.ty) v u (ih a le made u q) is j d z)

    unary_known : (ty : Ty) (op : UnaryOp) (a : Expr) (v : ℕ) → expr_nodes a ≤ n → (constant a).made ≡ true → option_map (unary_of (constant a).ty op) (constant a).word ≡ Some v → LayerKnown ty (ExprKind-F.Unary op a) v
    unary_known ty op a v le made e = by_word (constant a).word refl e
      where
        by_word : (m : Option ℕ) → (constant a).word ≡ m → option_map (unary_of (constant a).ty op) m ≡ Some v → LayerKnown ty (ExprKind-F.Unary op a) v
        by_word None q e = cc
        by_word (Some u) q e =
            let is : unary_of a.ty op u ≡ v = ap (λ t. unary_of t op u) (sym (constant_ty a)) ∙ ap or_none e in
            (subst (λ x. x < 2 ^ 16) is (unary_below a.ty op u (ih a le made u q).0), λ j d z. one_known ty a (unary_of a.ty op) v u (ih a le made u q) is j d z)

    binary_known : (ty : Ty) (op : BinaryOp) (a b : Expr) (v : ℕ) → expr_nodes a + expr_nodes b ≤ n → ((constant a).made && (constant b).made) ≡ true
        → option_and_then (second_word op (constant a) (constant b)) (constant a).word ≡ Some v → LayerKnown ty (ExprKind-F.Binary op a b) v
    binary_known ty op a b v le made e = by_word (constant a).word refl e
      where
        F : ℕ → ℕ → Part ℕ
        F j = second_by (D j).expr op a b

        known_a : (u : ℕ) → (constant a).word ≡ Some u → Known a u
        known_a u q = ih a (omega (arith, le)) (and_left (constant a).made (constant b).made made) u q

        -- the second operand, where the first doesn't decide
        second : (u : ℕ) → u < 2 ^ 16 → option_and_then (λ y. given (binary_of (constant a).ty (constant b).ty op u y)) (constant b).word ≡ Some v
            → (v < 2 ^ 16) × ((j : ℕ) (d : State) (z : Spot) → Still g most (expr_nodes b) v d z (worked_by (D j).expr op a b u d))
        second u fits e' = by_second (constant b).word refl e'
          where
            on : (y : ℕ) → Known b y → (r : Worked) → binary_of a.ty b.ty op u y ≡ r → given r ≡ Some v
                → (v < 2 ^ 16) × ((j : ℕ) (d : State) (z : Spot) → Still g most (expr_nodes b) v d z (worked_by (D j).expr op a b u d))
            on y known (Gives r) q h = (
              subst (λ x. x < 2 ^ 16) (ap or_none h) (below_of (binary_of a.ty b.ty op u y) r (binary_below a.ty b.ty op u y fits known.0) q),
              λ j d z. still_more g most (expr_nodes b + 0) (expr_nodes b) v d z (worked_by (D j).expr op a b u d) (omega arith)
                  (still_on g most (expr_nodes b) 0 y v d z ((D j).expr b) (λ y'. word_or_trap (binary_of a.ty b.ty op u y')) (known.1 j d z)
                  (λ i. subst (λ m. Still g most 0 v (record d { left = i }) z (word_or_trap m (record d { left = i }))) (sym (q ∙ ap Gives (ap or_none h))) (still_done g most v (record d { left = i }) z))),
            )
            on y known (Traps t) q h = cc

            by_second : (m : Option ℕ) → (constant b).word ≡ m → option_and_then (λ y. given (binary_of (constant a).ty (constant b).ty op u y)) m ≡ Some v
                → (v < 2 ^ 16) × ((j : ℕ) (d : State) (z : Spot) → Still g most (expr_nodes b) v d z (worked_by (D j).expr op a b u d))
            by_second None q h = cc
            by_second (Some y) q h = on y (ih b (omega (arith, le)) (and_right (constant a).made (constant b).made made) y q) (binary_of a.ty b.ty op u y) refl
                (ap (λ t. given (binary_of t b.ty op u y)) (sym (constant_ty a)) ∙ (ap (λ t. given (binary_of (constant a).ty t op u y)) (sym (constant_ty b)) ∙ h))

        by_decision : (u : ℕ) → Known a u → (t : Bool) → decides op u ≡ t
            → (if t then Some (from_test (is_set u)) else option_and_then (λ y. given (binary_of (constant a).ty (constant b).ty op u y)) (constant b).word) ≡ Some v → LayerKnown ty (ExprKind-F.Binary op a b) v
        by_decision u known true q h = (
          subst (λ x. x < 2 ^ 16) (ap or_none h) (test_small (is_set u)),
          λ j d z. still_more g most (expr_nodes a + 0) (expr_nodes a + expr_nodes b) v d z (((D j).expr a >>= F j) d) (omega arith)
              (still_on g most (expr_nodes a) 0 u v d z ((D j).expr a) (F j) (known.1 j d z)
              (λ i. subst (λ t. Still g most 0 v (record d { left = i }) z (either t (pure (from_test (is_set u))) (worked_by (D j).expr op a b u) (record d { left = i }))) (sym q)
              (subst (λ m. Still g most 0 m (record d { left = i }) z (Done [] (from_test (is_set u)) (record d { left = i }))) (ap or_none h) (still_done g most (from_test (is_set u)) (record d { left = i }) z)))),
        )
        by_decision u known false q h = (
          (second u known.0 h).0,
          λ j d z. still_on g most (expr_nodes a) (expr_nodes b) u v d z ((D j).expr a) (F j) (known.1 j d z)
              (λ i. subst (λ t. Still g most (expr_nodes b) v (record d { left = i }) z (either t (pure (from_test (is_set u))) (worked_by (D j).expr op a b u) (record d { left = i }))) (sym q)
              ((second u known.0 h).1 j (record d { left = i }) z)),
        )

        by_word : (m : Option ℕ) → (constant a).word ≡ m → option_and_then (second_word op (constant a) (constant b)) m ≡ Some v → LayerKnown ty (ExprKind-F.Binary op a b) v
        by_word None q e = cc
        by_word (Some u) q e = by_decision u (known_a u q) (decides op u) refl e

    layer_known : (x : ExprLayer) (ty : Ty) (v : ℕ) → parts_nodes (counted x) ≤ n → is_made (constant_parts x) ≡ true → word_by ty (constant_parts x) ≡ Some v → LayerKnown ty x v
    layer_known (ExprKind-F.Number m) ty v le made e = number_known ty m v e
    layer_known (ExprKind-F.Convert a) ty v le made e = convert_known ty a v le made e
    layer_known (ExprKind-F.Unary op a) ty v le made e = unary_known ty op a v le made e
    layer_known (ExprKind-F.Binary op a b) ty v le made e = binary_known ty op a b v le made e
    layer_known (ExprKind-F.Var x) ty v le made e = cc
    layer_known (ExprKind-F.Element x i) ty v le made e = cc
    layer_known (ExprKind-F.Cond c a b) ty v le made e = cc
    layer_known (ExprKind-F.Call f args) ty v le made e = cc
    layer_known ExprKind-F.Input ty v le made e = cc
    layer_known (ExprKind-F.Output a) ty v le made e = cc

  -- behind its step, at every depth
  pub still_expr : (e : Expr) (v : ℕ) (d0 : State) → ((i : ℕ) (j : ℕ) (z : Spot) → Still g most (parts_nodes (counted (out-ExprKind e.kind))) v (record d0 { left = j }) z (expr_by p (D i) e.ty (out-ExprKind e.kind) (record d0 { left = j })))
      → (j : ℕ) (z : Spot) → Still g most (expr_nodes e) v d0 z ((D j).expr e d0)
  unfolding to_depth
  still_expr e v d h zero z = still_stopped g most (expr_nodes e) v d z
  still_expr e v d h (suc i) z = subst (λ m. Still g most m v d z ((D (suc i)).expr e d)) (expr_level e)
      (still_more g most (suc (parts_nodes (counted (out-ExprKind e.kind)))) (1 + parts_nodes (counted (out-ExprKind e.kind))) v d z ((D (suc i)).expr e d) (omega arith)
      (still_begun g most (parts_nodes (counted (out-ExprKind e.kind))) v d z (expr_by p (D i) e.ty (out-ExprKind e.kind)) (λ j. h i j z)))

  pub constant_known : (n : ℕ) (e : Expr) → expr_nodes e ≤ n → (constant e).made ≡ true → (v : ℕ) → (constant e).word ≡ Some v → Known e v
  constant_known zero e le made v is = absurd (omega (arith, le, expr_level e))
  constant_known (suc n) e le made v is =
      let k : LayerKnown n (constant_known n) e.ty (out-ExprKind e.kind) v = layer_known n (constant_known n) (out-ExprKind e.kind) e.ty v (omega (arith, le, expr_level e))
      (ap (λ c. c.made) (constant_level e) ∙ made) (ap (λ c. c.word) (constant_level e) ∙ is) in
      (k.0, λ j d z. still_expr e v d (λ i l y. k.1 i (record d { left = l }) y) j z)
