-- Bounds as they are written, and the test, the step and the first part of a loop of a known number of turns.
use Rattle.std.proofs.Common.{◌≡◌, ℕ, suc, ◌+◌, ◌^◌, ◌<◌, ◌≤◌, Bool, true, false, Option, Some, None, [], ◌∷◌, refl, sym, ap, ◌∙◌, subst, arith, ◌⊎◌, inl, inr}
use Rattle.std.specs.Prelude.{if◌then◌else◌, nat_lt, nat_le, int_lt, ℤ, pos, negsuc, ◌+ℤ◌, slice_get, is_none}
use Rattle.std.specs.Option.{option_map, option_and_then}
use Rattle.c_values.specs.declared.ops.Ty.{Ty}
use Rattle.c_values.specs.declared.ops.Ty.TheVariants.{I8, U8, I16, U16}
use Rattle.c_values.specs.declared.ops.BinaryOp.TheVariants as binary
use Rattle.c_values.specs.Values.{kept, value, converted, from_test, binary_of}
use Rattle.c_tree.specs.declared.tree.Variable.{Variable}
use Rattle.c_tree.specs.declared.tree.Declared.{Declared}
use Rattle.c_tree.specs.declared.tree.Expr.{Expr}
use Rattle.c_tree.specs.declared.tree.ExprKind.{out-ExprKind}
use Rattle.c_tree.specs.declared.tree.ExprKind.TheOpen.{ExprKind-F}
use Rattle.c_tree.specs.declared.tree.Program.{Program}
use Rattle.c_tree.specs.Layer.{ExprLayer}
use Rattle.c_tree.specs.Runs.{State, Got, Done, Part, begin, pure, skip, read, write, either, word_or_trap, ◌>>=◌, ◌>>◌}
use Rattle.c_tree.specs.Nodes.{Within, to_depth, expr_by, second_by, worked_by, same_type, conversion, begin_update, opened, finish_by, finished_by, updated_by, update_by, amount_type, value_or, declare_at, declare_each}
use Rattle.sound_programs.specs.Counted.{expr_nodes, opt_nodes, or_none, counted, parts_nodes, update_nodes, declared_nodes, declarator_nodes, exprs_nodes}
use Rattle.flow_graph.specs.declared.graph.Graph.{Graph}
use Rattle.flow_graph.specs.Flow.{Spot}
use Rattle.lowered_graphs.specs.Counted.{constant, constant_parts, constant_by, same_place, inner_of, greatest, at_most, bound_of, bound}
use Rattle.lowered_graphs.proofs.ConstantLevels.{constant_level}
use Rattle.lowered_meaning.specs.Runs.{Runs}
use Rattle.lowered_meaning.proofs.RunLemmas.{runs_on, runs_weaker, behind_none, nothing_behind}
use Rattle.lowered_meaning.proofs.CountedParts.{Still, Takes, taken, still_done, still_begun, still_on, still_more, takes_on, takes_begun}
use Rattle.lowered_meaning.proofs.CountedConstants.{Known, constant_known, still_expr}
use Rattle.lowered_meaning.proofs.CountedLevels.{word_in}

-- ---- words and values that aren't negative

value_back : (ty : Ty) (u k : ℕ) → u < 2 ^ 16 → value ty u ≡ pos k → u ≡ k
value_back I8 u k h e = grind arith
value_back U8 u k h e = grind arith
value_back I16 u k h e = grind arith
value_back U16 u k h e = grind arith

pub kept_small : (ty : Ty) (k : ℕ) → k ≤ greatest ty → kept ty (pos k) ≡ k
kept_small I8 k h = grind arith
kept_small U8 k h = grind arith
kept_small I16 k h = grind arith
kept_small U16 k h = grind arith

pub value_small : (ty : Ty) (k : ℕ) → k ≤ greatest ty → value ty k ≡ pos k
value_small I8 k h = grind arith
value_small U8 k h = grind arith
value_small I16 k h = grind arith
value_small U16 k h = grind arith

pub greatest_small : (ty : Ty) → greatest ty < 2 ^ 16
greatest_small I8 = omega arith
greatest_small U8 = omega arith
greatest_small I16 = omega arith
greatest_small U16 = omega arith

-- a conversion to a type that holds as much
pub converted_small : (to from : Ty) (k : ℕ) → k ≤ greatest from → k ≤ greatest to → converted to from k ≡ k
converted_small to from k h i = ap (kept to) (value_small from k h) ∙ kept_small to k i

less_pos : (m k : ℕ) → int_lt (pos m) (pos k) ≡ nat_lt m k
less_pos m k = grind arith

pub less_is : (ty : Ty) (m k : ℕ) → m ≤ greatest ty → k ≤ greatest ty → int_lt (value ty m) (value ty k) ≡ nat_lt m k
less_is ty m k h i = ap (λ z. int_lt z (value ty k)) (value_small ty m h) ∙ (ap (λ z. int_lt (pos m) z) (value_small ty k i) ∙ less_pos m k)

sum_pos : (m : ℕ) → pos m +ℤ pos 1 ≡ pos (m + 1)
sum_pos m = grind arith

-- one more, worked out in a type that holds as much
pub more_is : (own ty : Ty) (m : ℕ) → m + 1 ≤ greatest own → greatest own ≤ greatest ty → converted own ty (kept ty (value ty (converted ty own m) +ℤ value ty 1)) ≡ m + 1
more_is own ty m h i =
    ap (λ x. converted own ty (kept ty (value ty x +ℤ value ty 1))) (converted_small ty own m (omega (arith, h)) (omega (arith, h, i)))
    ∙ (ap (λ z. converted own ty (kept ty (z +ℤ value ty 1))) (value_small ty m (omega (arith, h, i)))
    ∙ (ap (λ z. converted own ty (kept ty (pos m +ℤ z))) (value_small ty 1 (omega (arith, h, i)))
    ∙ (ap (λ z. converted own ty (kept ty z)) (sum_pos m)
    ∙ (ap (converted own ty) (kept_small ty (m + 1) (omega (arith, h, i)))
    ∙ converted_small own ty (m + 1) (omega (arith, h, i)) h))))

-- ---- bounds

-- what a bound of a constant says
pub record BoundIs (own ty : Ty) (made : Bool) (word : Option ℕ) (k : ℕ) : Type 0 where
  pub made_is : made ≡ true
  pub number : ℕ
  pub word_is : word ≡ Some number
  pub value_is : value ty number ≡ pos k
  pub most : k ≤ greatest own

le_of : (m n : ℕ) → nat_le m n ≡ true → m ≤ n
le_of m n e = grind arith

at_most_is : (n : ℕ) (z : ℤ) (k : ℕ) → at_most n z ≡ Some k → (z ≡ pos k) × (k ≤ n)
at_most_is n (negsuc m) k e = cc
at_most_is n (pos m) k e = by_le (nat_le m n) refl e
  where
    by_le : (b : Bool) → nat_le m n ≡ b → (if b then Some m else None) ≡ Some k → (pos m ≡ pos k) × (k ≤ n)
    by_le true q h = (ap pos (ap or_none h), subst (λ x. x ≤ n) (ap or_none h) (le_of m n q))
    by_le false q h = cc

bound_is : (own ty : Ty) (made : Bool) (word : Option ℕ) (k : ℕ) → (if made then option_and_then (λ w. at_most (greatest own) (value ty w)) word else None) ≡ Some k → BoundIs own ty made word k
bound_is own ty false word k e = cc
bound_is own ty true None k e = cc
bound_is own ty true (Some u) k e = let h : (value ty u ≡ pos k) × (k ≤ greatest own) = at_most_is (greatest own) (value ty u) k e in
    record { made_is = refl; number = u; word_is = refl; value_is = h.0; most = h.1 }

module _ (g : Graph) (most : ℕ) (p : Program) where
  abbrev D : ℕ → Within
  D j = to_depth p j

  -- a bound begins its steps and gives its number, at a type that holds as much
  pub bound_still : (own : Ty) (e : Expr) (k : ℕ) → bound own e ≡ Some k → greatest own ≤ greatest e.ty → Known g most p e k × (k ≤ greatest own)
  bound_still own e k is wide = by_layer (out-ExprKind e.kind) refl is
    where
      itself : bound_of own (constant e) ≡ Some k → Known g most p e k × (k ≤ greatest own)
      itself h =
          let b : BoundIs own (constant e).ty (constant e).made (constant e).word k = bound_is own (constant e).ty (constant e).made (constant e).word k h in
          let known : Known g most p e b.number = constant_known g most p (expr_nodes e) e (omega arith) b.made_is b.number b.word_is in
          (subst (Known g most p e) (value_back (constant e).ty b.number k known.0 b.value_is) known, b.most)

      inner : (a : Expr) → out-ExprKind e.kind ≡ ExprKind-F.Convert a → bound_of own (constant a) ≡ Some k → Known g most p e k × (k ≤ greatest own)
      inner a q h =
          let b : BoundIs own (constant a).ty (constant a).made (constant a).word k = bound_is own (constant a).ty (constant a).made (constant a).word k h in
          let level : constant_by (constant_parts (ExprKind-F.Convert a)) e.ty ≡ constant e = ap (λ l. constant_by (constant_parts l) e.ty) (sym q) ∙ constant_level e in (
            constant_known g most p (expr_nodes e) e (omega arith) (ap (λ c. c.made) (sym level) ∙ b.made_is) k
                (ap (λ c. c.word) (sym level) ∙ (ap (option_map (converted e.ty (constant a).ty)) b.word_is ∙ ap (λ z. Some (kept e.ty z)) b.value_is ∙ ap Some (kept_small e.ty k (omega (arith, b.most, wide))))),
            b.most,
          )

      by_place : (a : Expr) (b : Bool) → out-ExprKind e.kind ≡ ExprKind-F.Convert a → bound_of own (constant (if b then a else e)) ≡ Some k → Known g most p e k × (k ≤ greatest own)
      by_place a true q h = inner a q h
      by_place a false q h = itself h

      by_layer : (x : ExprLayer) → out-ExprKind e.kind ≡ x → bound_of own (constant (inner_of e x)) ≡ Some k → Known g most p e k × (k ≤ greatest own)
      by_layer (ExprKind-F.Convert a) q h = by_place a (same_place e.place a.place) q h
      by_layer (ExprKind-F.Number m) q h = itself h
      by_layer (ExprKind-F.Var x) q h = itself h
      by_layer (ExprKind-F.Element x i) q h = itself h
      by_layer (ExprKind-F.Unary op a) q h = itself h
      by_layer (ExprKind-F.Binary op a b) q h = itself h
      by_layer (ExprKind-F.Cond c a b) q h = itself h
      by_layer (ExprKind-F.Call f args) q h = itself h
      by_layer ExprKind-F.Input q h = itself h
      by_layer (ExprKind-F.Output a) q h = itself h

  -- ---- the test

  -- the variable itself, of this type, or a conversion of it
  abbrev pub NamedAs : ℕ → Ty → Expr → Type 0
  NamedAs x own a = ((out-ExprKind a.kind ≡ ExprKind-F.Var x) × (a.ty ≡ own))
      ⊎ ((c : Expr) × (out-ExprKind a.kind ≡ ExprKind-F.Convert c) × (out-ExprKind c.kind ≡ ExprKind-F.Var x) × (c.ty ≡ own))

  var_still : (x : ℕ) (a : Expr) (m : ℕ) (d : State) → out-ExprKind a.kind ≡ ExprKind-F.Var x → word_in x d ≡ m → (j : ℕ) (z : Spot) → Still g most (expr_nodes a) m d z ((D j).expr a d)
  var_still x a m d q is j z = still_expr g most p a m d (λ i l y.
      subst (λ t. Still g most (parts_nodes (counted t)) m (record d { left = l }) y (expr_by p (D i) a.ty t (record d { left = l }))) (sym q)
      (subst (λ u. Still g most 0 u (record d { left = l }) y (Done [] (word_in x d) (record d { left = l }))) is (still_done g most (word_in x d) (record d { left = l }) y))) j z

  pub named_still : (x : ℕ) (own : Ty) (a : Expr) (m : ℕ) (d : State) → NamedAs x own a → m ≤ greatest own → greatest own ≤ greatest a.ty → word_in x d ≡ m → (j : ℕ) (z : Spot)
      → Still g most (expr_nodes a) m d z ((D j).expr a d)
  named_still x own a m d (inl q) le wide is j z = var_still x a m d q.0 is j z
  named_still x own a m d (inr (c, q, r, t)) le wide is j z = still_expr g most p a m d (λ i l y.
      subst (λ k. Still g most (parts_nodes (counted k)) m (record d { left = l }) y (expr_by p (D i) a.ty k (record d { left = l }))) (sym q)
      (still_more g most (expr_nodes c + 0) (expr_nodes c) m (record d { left = l }) y (((D i).expr c >>= (λ v. pure (converted a.ty c.ty v))) (record d { left = l })) (omega arith)
      (still_on g most (expr_nodes c) 0 m m (record d { left = l }) y ((D i).expr c) (λ v. pure (converted a.ty c.ty v)) (var_still x c m (record d { left = l }) r is i y)
      (λ n. subst (λ u. Still g most 0 u (record d { left = n }) y (Done [] (converted a.ty c.ty m) (record d { left = n })))
      (ap (λ ty. converted a.ty ty m) t ∙ converted_small a.ty own m le (omega (arith, le, wide))) (still_done g most (converted a.ty c.ty m) (record d { left = n }) y))))) j z

  pub test_still : (x : ℕ) (own : Ty) (e a b : Expr) (m to : ℕ) (d : State) → out-ExprKind e.kind ≡ ExprKind-F.Binary binary.Less a b → NamedAs x own a → Known g most p b to
      → m ≤ greatest own → to ≤ greatest own → greatest own ≤ greatest a.ty → word_in x d ≡ m → (j : ℕ) (z : Spot) → Still g most (expr_nodes e) (from_test (nat_lt m to)) d z ((D j).expr e d)
  test_still x own e a b m to d q named known le le' wide is j z = still_expr g most p e (from_test (nat_lt m to)) d (λ i l y.
      subst (λ k. Still g most (parts_nodes (counted k)) (from_test (nat_lt m to)) (record d { left = l }) y (expr_by p (D i) e.ty k (record d { left = l }))) (sym q)
      (still_on g most (expr_nodes a) (expr_nodes b) m (from_test (nat_lt m to)) (record d { left = l }) y ((D i).expr a) (second_by (D i).expr binary.Less a b)
      (named_still x own a m (record d { left = l }) named le wide is i y)
      (λ n. still_more g most (expr_nodes b + 0) (expr_nodes b) (from_test (nat_lt m to)) (record d { left = n }) y (worked_by (D i).expr binary.Less a b m (record d { left = n })) (omega arith)
      (still_on g most (expr_nodes b) 0 to (from_test (nat_lt m to)) (record d { left = n }) y ((D i).expr b) (λ v. word_or_trap (binary_of a.ty b.ty binary.Less m v)) (known.1 i (record d { left = n }) y)
      (λ h. subst (λ t. Still g most 0 (from_test t) (record d { left = h }) y (Done [] (from_test (int_lt (value a.ty m) (value a.ty to))) (record d { left = h })))
      (less_is a.ty m to (omega (arith, le, wide)) (omega (arith, le', wide))) (still_done g most (from_test (int_lt (value a.ty m) (value a.ty to))) (record d { left = h }) y)))))) j z

  -- ---- the step

  takes_then : {A : Type 0} (n m x v : ℕ) (u : A) (d : State) (z : Spot) (r : Part A) (q : A → Part (Unit {0})) → Still g most n u d z (r d)
      → ((j : ℕ) → Takes g most m x v (record d { left = j }) z (q u (record d { left = j }))) → Takes g most (n + m) x v d z ((r >>= q) d)
  takes_then {A} n m x v u d z r q h next a o =
      runs_on g most (a + (n + m)) (a + m) a o o o (r d) q z _ goal
      (runs_weaker g most (a + m + n) (a + m) o o (a + (n + m)) (a + m) o o (r d) z _ _ (omega arith) (omega arith) (omega arith) (omega arith) (λ y e s t. t) (h (a + m) o))
      (λ y e s t. on y e s t.0 t.1 t.2.0 t.2.1)
    where
      goal : Unit {0} → State → Spot → Type 0
      goal y e s = (s ≡ z) × ((j : ℕ) × (e ≡ taken x v d j))

      on : (y : A) (e : State) (s : Spot) → y ≡ u → s ≡ z → (j : ℕ) → e ≡ record d { left = j } → Runs g most (a + m) a o o (q y e) s goal
      on y e s ey es j ee = rw (ey, es, ee) (next j a o)

  takes_more : (n m x v : ℕ) (d : State) (z : Spot) (got : Got (Unit {0})) → n ≤ m → Takes g most n x v d z got → Takes g most m x v d z got
  takes_more n m x v d z got le h a o = runs_weaker g most (a + n) a o o (a + m) a o o got z goal goal (omega (arith, le)) (omega (arith, le)) (omega arith) (omega arith) (λ u e y r. r) (h a o)
    where
      goal : Unit {0} → State → Spot → Type 0
      goal y e s = (s ≡ z) × ((j : ℕ) × (e ≡ taken x v d j))

  begin_still : (d : State) (z : Spot) → Still g most 1 (tt {0}) d z (begin d)
  begin_still d z = subst (Still g most 1 (tt {0}) d z) (nothing_behind (begin d))
      (still_begun g most 0 (tt {0}) d z skip (λ j. still_done g most (tt {0}) (record d { left = j }) z))

  same_back : (a b : Ty) → same_type a b ≡ same_type b a
  same_back I8 I8 = refl
  same_back I8 U8 = refl
  same_back I8 I16 = refl
  same_back I8 U16 = refl
  same_back U8 I8 = refl
  same_back U8 U8 = refl
  same_back U8 I16 = refl
  same_back U8 U16 = refl
  same_back I16 I8 = refl
  same_back I16 U8 = refl
  same_back I16 I16 = refl
  same_back I16 U16 = refl
  same_back U16 I8 = refl
  same_back U16 U8 = refl
  same_back U16 I16 = refl
  same_back U16 U16 = refl

  update_still : (own ty : Ty) (d : State) (z : Spot) → Still g most (update_nodes own ty) (tt {0}) d z (begin_update own ty d)
  update_still own ty d z = subst (λ b. Still g most (update_nodes own ty) (tt {0}) d z ((conversion own ty >> (begin >> either b skip begin)) d)) (same_back own ty) (by_same (same_type own ty))
    where
      by_same : (b : Bool) → Still g most (if b then 1 else 3) (tt {0}) d z ((either b skip begin >> (begin >> either b skip begin)) d)
      by_same true = still_on g most 0 1 (tt {0}) (tt {0}) d z skip (λ _. begin >> skip) (still_done g most (tt {0}) d z)
          (λ j. still_begun g most 0 (tt {0}) (record d { left = j }) z skip (λ i. still_done g most (tt {0}) (record d { left = i }) z))
      by_same false = still_on g most 1 2 (tt {0}) (tt {0}) d z begin (λ _. begin >> begin) (begin_still d z)
          (λ j. still_begun g most 1 (tt {0}) (record d { left = j }) z begin (λ i. begin_still (record d { left = i }) z))

  -- the right side of the step is 1
  abbrev pub IsByOne : Option Expr → Type 0
  IsByOne None = Unit {0}
  IsByOne (Some e) = Known g most p e 1

  amount_still : (by : Option Expr) → IsByOne by → (j : ℕ) (d : State) (z : Spot) → Still g most (opt_nodes by) 1 d z (value_or (D j).expr 1 by d)
  amount_still None is j d z = still_done g most 1 d z
  amount_still (Some e) is j d z = is.1 j d z

  pub step_takes : (x : ℕ) (own ty : Ty) (by : Option Expr) (m : ℕ) (d : State) → IsByOne by → m + 1 ≤ greatest own → greatest own ≤ greatest ty → word_in x d ≡ m → (j : ℕ) (z : Spot)
      → Takes g most (opt_nodes by + update_nodes own ty) x (m + 1) d z (update_by own (D j).expr x None binary.Add ty by d)
  step_takes x own ty by m d one le wide is j z =
      subst (Takes g most (opt_nodes by + update_nodes own ty) x (m + 1) d z) (sym (behind_none (updated_by own (D j).expr x None binary.Add ty by 0 d)))
      (takes_more (update_nodes own ty + opt_nodes by) (opt_nodes by + update_nodes own ty) x (m + 1) d z (updated_by own (D j).expr x None binary.Add ty by 0 d) (omega arith)
      (takes_then (update_nodes own ty) (opt_nodes by) x (m + 1) m d z (opened own ty x None 0) (finished_by own (D j).expr x None binary.Add ty by 0)
      (still_more g most (update_nodes own ty + 0) (update_nodes own ty) m d z (opened own ty x None 0 d) (omega arith)
      (still_on g most (update_nodes own ty) 0 (tt {0}) m d z (begin_update own ty) (λ _. read x) (update_still own ty d z)
      (λ i. subst (λ u. Still g most 0 u (record d { left = i }) z (Done [] (word_in x d) (record d { left = i }))) is (still_done g most (word_in x d) (record d { left = i }) z))))
      (λ i. takes_on g most (opt_nodes by) x (m + 1) 1 (record d { left = i }) z (value_or (D j).expr 1 by) (finish_by own x None binary.Add ty (amount_type ty by) 0 m) (amount_still by one j (record d { left = i }) z)
      (λ l. ap (λ v. Done [] (tt {0}) (taken x v d l)) (more_is own ty m le wide)))))

  -- ---- the first part

  pub first_takes : (x : ℕ) (v : Variable) (e : Expr) (from : ℕ) (d0 : Declared) → d0.variable ≡ x → d0.values ≡ e ∷ [] → slice_get p.variables x ≡ Some v → v.length ≡ None → Known g most p e from
      → (d : State) (z : Spot) (j : ℕ) → Takes g most (declared_nodes p (d0 ∷ [])) x from d z (declare_each p (D j).expr (d0 ∷ []) d)
  first_takes x v e from d0 ex es var none known d z j =
      subst (λ r. Takes g most (declared_nodes p (d0 ∷ [])) x from d z ((begin >> (r >> skip)) d)) (sym declared_is)
      (takes_more (suc (expr_nodes e)) (declared_nodes p (d0 ∷ [])) x from d z ((begin >> (((D j).expr e >>= write x) >> skip)) d) (omega (arith, nodes_are))
      (takes_begun g most (expr_nodes e) x from d z (((D j).expr e >>= write x) >> skip)
      (λ i. subst (Takes g most (expr_nodes e) x from (record d { left = i }) z) (sym (nothing_behind (((D j).expr e >>= write x) (record d { left = i }))))
      (takes_on g most (expr_nodes e) x from from (record d { left = i }) z ((D j).expr e) (write x) (known.1 j (record d { left = i }) z) (λ l. refl)))))
    where
      declared_is : declare_at (D j).expr d0.variable (slice_get p.variables d0.variable) d0.values ≡ ((D j).expr e >>= write x)
      declared_is = ap (λ y. declare_at (D j).expr y (slice_get p.variables y) d0.values) ex ∙ (ap (λ vs. declare_at (D j).expr x (slice_get p.variables x) vs) es
          ∙ (ap (λ y. declare_at (D j).expr x y (e ∷ [])) var ∙ ap (λ n. declare_at (D j).expr x (Some (record v { length = n })) (e ∷ [])) none))

      nodes_are : declared_nodes p (d0 ∷ []) ≡ (1 + (expr_nodes e + 0)) + 0
      nodes_are = ap (λ y. (declarator_nodes (slice_get p.variables y) + exprs_nodes d0.values) + 0) ex ∙ (ap (λ vs. (declarator_nodes (slice_get p.variables x) + exprs_nodes vs) + 0) es
          ∙ (ap (λ y. (declarator_nodes y + exprs_nodes (e ∷ [])) + 0) var ∙ ap (λ n. ((if is_none n then 1 else 2) + exprs_nodes (e ∷ [])) + 0) none))
