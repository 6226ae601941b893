-- What the rules of assignments make is good, where it is of their parts.
use Rattle.std.proofs.Common.{◌≡◌, refl, sym, ap, subst, ◌∙◌, ℕ, ◌+◌, add-zero, add_assoc, Bool, true, false, Option, Some, None, List, [], ◌∷◌, arith}
use Rattle.std.specs.Prelude.{slice_get, length, ◌&&◌, ◌||◌, is_none, is_some, if◌then◌else◌, codes}
use Rattle.std.specs.Str.{bytes_eq}
use Rattle.base_io.specs.declared.place.Place.{Place}
use Rattle.c_values.specs.declared.ops.Ty.{Ty}
use Rattle.c_values.specs.declared.ops.Ty.TheVariants.{I8, U8, I16, U16}
use Rattle.c_values.specs.declared.ops.BinaryOp.{BinaryOp}
use Rattle.c_values.specs.declared.ops.BinaryOp.TheVariants as binary
use Rattle.c_tree.specs.Nodes.{same_type, type_of, type_in}
use Rattle.c_tree.specs.declared.tree.Expr.{Expr}
use Rattle.c_tree.specs.declared.tree.Action.{Action}
use Rattle.c_tree.specs.declared.tree.Action.TheVariants as action
use Rattle.c_tree.specs.declared.tree.Variable.{Variable}
use Rattle.c_typing.specs.declared.meaning.Meaning.{Meaning}
use Rattle.c_typing.specs.declared.meaning.Meaning.TheVariants as meaning
use Rattle.c_typing.specs.declared.value.Aim.{Aim}
use Rattle.c_typing.specs.declared.type_fault.TypeFault.TheVariants as fault
use Rattle.c_typing.specs.Parts.{Part, pure}
use Rattle.c_typing.specs.Conversions as to
use Rattle.c_typing.specs.Judged.{Judged, spells, is_token, no_aim}
use Rattle.c_typing.specs.Expressions as rule
use Rattle.c_typing.specs.Actions as act
use Rattle.c_typing.specs.Texts.{compound_op, increment_op}
use Rattle.sound_programs.specs.Sound.{Typing, has_value, has_type, has_promoted, promoted, is_shift, is_compound, is_step, target_fits, assign_fits, update_fits, works_in, action_fits}
use Rattle.sound_programs.specs.Calls.{opt_below, action_below}
use Rattle.sound_programs.specs.Counted.{opt_nodes, action_nodes}
use Rattle.sound_programs.specs.Scoped as scoped
use Rattle.sound_programs.specs.Scoped.{holds, names, names_opt, action_names}
use Rattle.accepted_programs.proofs.Walk.{World, Env, Makes, Saw, below, makes_pure, makes_if, makes_then, count_then, fails, note_if_then, looked_then, either_of}
use Rattle.accepted_programs.proofs.Types.{same_refl}
use Rattle.accepted_programs.proofs.Trees.{Covers, Whole, Good, value, both}
use Rattle.accepted_programs.proofs.Values.{Fit, GoodExpr, GoodValue, IsExpr, meant, value_makes, converted_makes}
use Rattle.accepted_programs.proofs.Expressing.{either_true, either_false}

-- ---- types

pub if_both : {A : Type 0} (P : A → Type 0) (x y : A) (b : Bool) → P x → P y → P (if b then x else y)
if_both P x y true h k = h
if_both P x y false h k = k

by_types : (P : Ty → Ty → Type 0) → P I8 I8 → P I8 U8 → P I8 I16 → P I8 U16 → P U8 I8 → P U8 U8 → P U8 I16 → P U8 U16 → P I16 I8 → P I16 U8 → P I16 I16 → P I16 U16 → P U16 I8 → P U16 U8 → P U16 I16 → P U16 U16 → (a b : Ty) → P a b
by_types P h00 h01 h02 h03 h10 h11 h12 h13 h20 h21 h22 h23 h30 h31 h32 h33 I8 I8 = h00
by_types P h00 h01 h02 h03 h10 h11 h12 h13 h20 h21 h22 h23 h30 h31 h32 h33 I8 U8 = h01
by_types P h00 h01 h02 h03 h10 h11 h12 h13 h20 h21 h22 h23 h30 h31 h32 h33 I8 I16 = h02
by_types P h00 h01 h02 h03 h10 h11 h12 h13 h20 h21 h22 h23 h30 h31 h32 h33 I8 U16 = h03
by_types P h00 h01 h02 h03 h10 h11 h12 h13 h20 h21 h22 h23 h30 h31 h32 h33 U8 I8 = h10
by_types P h00 h01 h02 h03 h10 h11 h12 h13 h20 h21 h22 h23 h30 h31 h32 h33 U8 U8 = h11
by_types P h00 h01 h02 h03 h10 h11 h12 h13 h20 h21 h22 h23 h30 h31 h32 h33 U8 I16 = h12
by_types P h00 h01 h02 h03 h10 h11 h12 h13 h20 h21 h22 h23 h30 h31 h32 h33 U8 U16 = h13
by_types P h00 h01 h02 h03 h10 h11 h12 h13 h20 h21 h22 h23 h30 h31 h32 h33 I16 I8 = h20
by_types P h00 h01 h02 h03 h10 h11 h12 h13 h20 h21 h22 h23 h30 h31 h32 h33 I16 U8 = h21
by_types P h00 h01 h02 h03 h10 h11 h12 h13 h20 h21 h22 h23 h30 h31 h32 h33 I16 I16 = h22
by_types P h00 h01 h02 h03 h10 h11 h12 h13 h20 h21 h22 h23 h30 h31 h32 h33 I16 U16 = h23
by_types P h00 h01 h02 h03 h10 h11 h12 h13 h20 h21 h22 h23 h30 h31 h32 h33 U16 I8 = h30
by_types P h00 h01 h02 h03 h10 h11 h12 h13 h20 h21 h22 h23 h30 h31 h32 h33 U16 U8 = h31
by_types P h00 h01 h02 h03 h10 h11 h12 h13 h20 h21 h22 h23 h30 h31 h32 h33 U16 I16 = h32
by_types P h00 h01 h02 h03 h10 h11 h12 h13 h20 h21 h22 h23 h30 h31 h32 h33 U16 U16 = h33

abbrev works_t : BinaryOp → Ty → Ty → Typing → Bool
works_t op own ty t = if is_shift op then (same_type ty (promoted own) && has_promoted t) else
    is_compound op && ((same_type ty (promoted own) || same_type ty U16) && has_type ty t)

compound_Mul : (a b : Ty) → works_t binary.Mul a (to.left_type binary.Mul a b) (value (to.right_type binary.Mul a b)) ≡ true
compound_Mul = by_types (λ a b. works_t binary.Mul a (to.left_type binary.Mul a b) (value (to.right_type binary.Mul a b)) ≡ true) refl refl refl refl refl refl refl refl refl refl refl refl refl refl refl refl

compound_Div : (a b : Ty) → works_t binary.Div a (to.left_type binary.Div a b) (value (to.right_type binary.Div a b)) ≡ true
compound_Div = by_types (λ a b. works_t binary.Div a (to.left_type binary.Div a b) (value (to.right_type binary.Div a b)) ≡ true) refl refl refl refl refl refl refl refl refl refl refl refl refl refl refl refl

compound_Rem : (a b : Ty) → works_t binary.Rem a (to.left_type binary.Rem a b) (value (to.right_type binary.Rem a b)) ≡ true
compound_Rem = by_types (λ a b. works_t binary.Rem a (to.left_type binary.Rem a b) (value (to.right_type binary.Rem a b)) ≡ true) refl refl refl refl refl refl refl refl refl refl refl refl refl refl refl refl

compound_Add : (a b : Ty) → works_t binary.Add a (to.left_type binary.Add a b) (value (to.right_type binary.Add a b)) ≡ true
compound_Add = by_types (λ a b. works_t binary.Add a (to.left_type binary.Add a b) (value (to.right_type binary.Add a b)) ≡ true) refl refl refl refl refl refl refl refl refl refl refl refl refl refl refl refl

compound_Sub : (a b : Ty) → works_t binary.Sub a (to.left_type binary.Sub a b) (value (to.right_type binary.Sub a b)) ≡ true
compound_Sub = by_types (λ a b. works_t binary.Sub a (to.left_type binary.Sub a b) (value (to.right_type binary.Sub a b)) ≡ true) refl refl refl refl refl refl refl refl refl refl refl refl refl refl refl refl

compound_Shl : (a b : Ty) → works_t binary.Shl a (to.left_type binary.Shl a b) (value (to.right_type binary.Shl a b)) ≡ true
compound_Shl = by_types (λ a b. works_t binary.Shl a (to.left_type binary.Shl a b) (value (to.right_type binary.Shl a b)) ≡ true) refl refl refl refl refl refl refl refl refl refl refl refl refl refl refl refl

compound_Shr : (a b : Ty) → works_t binary.Shr a (to.left_type binary.Shr a b) (value (to.right_type binary.Shr a b)) ≡ true
compound_Shr = by_types (λ a b. works_t binary.Shr a (to.left_type binary.Shr a b) (value (to.right_type binary.Shr a b)) ≡ true) refl refl refl refl refl refl refl refl refl refl refl refl refl refl refl refl

compound_BitAnd : (a b : Ty) → works_t binary.BitAnd a (to.left_type binary.BitAnd a b) (value (to.right_type binary.BitAnd a b)) ≡ true
compound_BitAnd = by_types (λ a b. works_t binary.BitAnd a (to.left_type binary.BitAnd a b) (value (to.right_type binary.BitAnd a b)) ≡ true) refl refl refl refl refl refl refl refl refl refl refl refl refl refl refl refl

compound_BitXor : (a b : Ty) → works_t binary.BitXor a (to.left_type binary.BitXor a b) (value (to.right_type binary.BitXor a b)) ≡ true
compound_BitXor = by_types (λ a b. works_t binary.BitXor a (to.left_type binary.BitXor a b) (value (to.right_type binary.BitXor a b)) ≡ true) refl refl refl refl refl refl refl refl refl refl refl refl refl refl refl refl

compound_BitOr : (a b : Ty) → works_t binary.BitOr a (to.left_type binary.BitOr a b) (value (to.right_type binary.BitOr a b)) ≡ true
compound_BitOr = by_types (λ a b. works_t binary.BitOr a (to.left_type binary.BitOr a b) (value (to.right_type binary.BitOr a b)) ≡ true) refl refl refl refl refl refl refl refl refl refl refl refl refl refl refl refl

compound_ok : (text : List ℕ) (a b : Ty) → works_t (compound_op text) a (to.left_type (compound_op text) a b) (value (to.right_type (compound_op text) a b)) ≡ true
compound_ok text a b = (if_both (λ op. works_t op a (to.left_type op a b) (value (to.right_type op a b)) ≡ true) _ _ (bytes_eq text (codes "*=")) (compound_Mul a b) (if_both (λ op. works_t op a (to.left_type op a b) (value (to.right_type op a b)) ≡ true) _ _ (bytes_eq text (codes "/=")) (compound_Div a b) (if_both (λ op. works_t op a (to.left_type op a b) (value (to.right_type op a b)) ≡ true) _ _ (bytes_eq text (codes "%=")) (compound_Rem a b) (if_both (λ op. works_t op a (to.left_type op a b) (value (to.right_type op a b)) ≡ true) _ _ (bytes_eq text (codes "+=")) (compound_Add a b) (if_both (λ op. works_t op a (to.left_type op a b) (value (to.right_type op a b)) ≡ true) _ _ (bytes_eq text (codes "-=")) (compound_Sub a b) (if_both (λ op. works_t op a (to.left_type op a b) (value (to.right_type op a b)) ≡ true) _ _ (bytes_eq text (codes "<<=")) (compound_Shl a b) (if_both (λ op. works_t op a (to.left_type op a b) (value (to.right_type op a b)) ≡ true) _ _ (bytes_eq text (codes ">>=")) (compound_Shr a b) (if_both (λ op. works_t op a (to.left_type op a b) (value (to.right_type op a b)) ≡ true) _ _ (bytes_eq text (codes "&=")) (compound_BitAnd a b) (if_both (λ op. works_t op a (to.left_type op a b) (value (to.right_type op a b)) ≡ true) _ _ (bytes_eq text (codes "^=")) (compound_BitXor a b) (compound_BitOr a b))))))))))

step_ok : (a : Ty) → same_type (to.common a I16) (promoted a) ≡ true
step_ok I8 = refl
step_ok U8 = refl
step_ok I16 = refl
step_ok U16 = refl

is_step_ok : (text : List ℕ) → is_step (increment_op text) ≡ true
is_step_ok text = if_both (λ op. is_step op ≡ true) binary.Add binary.Sub (bytes_eq text (codes "++")) refl refl

-- ---- what is assigned to

pub record GoodAim (w : World) (e : Env) (aim : Aim) (n : ℕ) : Type 0 where
  pub variable : Variable
  pub is : slice_get w.program.variables aim.to.variable ≡ Some variable
  pub type : variable.ty ≡ aim.ty
  pub fits : Whole w → target_fits w.program variable aim.to.index ≡ true
  pub calls : opt_below (below w (length e.functions)) aim.to.index ≡ true
  pub held : (scope : scoped.Scope) → Covers scope e → holds aim.to.variable scope ≡ true
  pub named : (scope : scoped.Scope) → Covers scope e → names_opt aim.to.index scope ≡ true
  pub nodes : opt_nodes aim.to.index ≡ n

abbrev pub IsAim : World → Part Aim → Type 0
IsAim w p = (e : Env) → Makes w e (Fit w e) p (GoodAim w e)

pub record GoodAction (w : World) (e : Env) (a : Action) (n : ℕ) : Type 0 where
  pub fits : Whole w → action_fits w.program a ≡ true
  pub calls : action_below (below w (length e.functions)) a ≡ true
  pub named : (scope : scoped.Scope) → Covers scope e → action_names a scope ≡ true
  pub nodes : action_nodes w.program a ≡ n

abbrev pub IsAction : World → Part Action → Type 0
IsAction w p = (e : Env) → Makes w e (Fit w e) p (GoodAction w e)

module _ (w : World) (e : Env) where
  changed_makes : (X : Type 0) (place : Place) (constant : Bool) (x : ℕ) (ty : Ty) (index : Option Expr) (F : Aim → ℕ → Type 0) → (X → F (act.aimed place x ty index) 0)
      → Makes w e X (act.changed place constant x ty index) F
  changed_makes X place constant x ty index F h =
      note_if_then w e X constant (fault.BadAssign place) (pure (act.aimed place x ty index)) F (makes_pure w e (X × (constant ≡ false)) (act.aimed place x ty index) F (λ q. h q.0))

  scalar_makes : (X : Type 0) (name : List ℕ) (place : Place) (m : Option Meaning) → (X → Fit w e × Saw e (rule.meaning_at name) m) → Makes w e X (act.scalar_target place m) (GoodAim w e)
  scalar_makes X name place None h = fails w e X (fault.Unknown place) (no_aim place) (GoodAim w e)
  scalar_makes X name place (Some (meaning.Variable x ty None constant)) h =
      changed_makes X place constant x ty None (GoodAim w e)
      (λ q. let found = meant e name (meaning.Variable x ty None constant) (h q).1 in let v = (h q).0.variables name x ty None constant found in
      record { variable = v.0; is = v.1; type = v.2; fits = λ whole. ap is_none v.3; calls = refl; held = λ scope covers. covers name x ty None constant found; named = λ scope covers. refl; nodes = refl })
  scalar_makes X name place (Some (meaning.Variable x ty (Some n) constant)) h = fails w e X (fault.BadArray place) (no_aim place) (GoodAim w e)
  scalar_makes X name place (Some (meaning.Function f)) h = fails w e X (fault.BadAssign place) (no_aim place) (GoodAim w e)

  element_target_makes : (X : Type 0) (name : List ℕ) (place : Place) (m : Option Meaning) (i : Expr) (n : ℕ) → (X → Fit w e × Saw e (rule.meaning_at name) m × GoodExpr w e i n)
      → Makes w e X (act.element_target place m i) (λ a k. GoodAim w e a (n + k))
  element_target_makes X name place None i n h = fails w e X (fault.Unknown place) (no_aim place) (λ a k. GoodAim w e a (n + k))
  element_target_makes X name place (Some (meaning.Variable x ty None constant)) i n h = fails w e X (fault.BadArray place) (no_aim place) (λ a k. GoodAim w e a (n + k))
  element_target_makes X name place (Some (meaning.Variable x ty (Some size) constant)) i n h =
      changed_makes X place constant x ty (Some i) (λ a k. GoodAim w e a (n + k))
      (λ q. let found = meant e name (meaning.Variable x ty (Some size) constant) (h q).1 in let v = (h q).0.variables name x ty (Some size) constant found in let g = (h q).2 in
      record {
        variable = v.0;
        is = v.1;
        type = v.2;
        fits = λ whole. both _ _ (ap is_some v.3) (ap has_value (g.typed whole));
        calls = g.calls;
        held = λ scope covers. covers name x ty (Some size) constant found;
        named = g.named;
        nodes = g.nodes ∙ sym (add-zero n);
      })
  element_target_makes X name place (Some (meaning.Function f)) i n h = fails w e X (fault.BadArray place) (no_aim place) (λ a k. GoodAim w e a (n + k))

  -- ---- assignments

  assigned_makes : (X : Type 0) (aim : Aim) (x : Expr) (k n : ℕ) → (X → GoodAim w e aim k × GoodExpr w e x n) → Makes w e X (act.assigned aim x) (λ a m. GoodAction w e a ((k + n) + m))
  assigned_makes X aim x k n h =
      makes_then w e X (rule.converted aim.ty x) (λ y. pure (action.Assign aim.to y)) (λ y m. (y.ty ≡ aim.ty) × Good w e (value aim.ty) y (n + m)) (λ a m. GoodAction w e a ((k + n) + m))
      (converted_makes w e X aim.ty x n (λ q. (h q).1))
      (λ y m. makes_pure w e _ (action.Assign aim.to y) (λ a i. GoodAction w e a ((k + n) + (m + i)))
      (λ q. let g = (h q.0).0 in let v = q.1.1 in record {
        fits = λ whole. ap (assign_fits w.program aim.to.index y) g.is ∙ both _ _ (g.fits whole) (ap (has_type g.variable.ty) (v.typed whole) ∙ (ap (λ t. same_type t aim.ty) g.type ∙ same_refl aim.ty));
        calls = both _ _ g.calls v.calls;
        named = λ scope covers. both _ _ (g.held scope covers) (both _ _ (g.named scope covers) (v.named scope covers));
        nodes = omega (arith, g.nodes, v.nodes);
      }))

  update_makes : (X : Type 0) (aim : Aim) (at : Place) (op : BinaryOp) (ty : Ty) (by : Option Expr) (k n : ℕ)
      → (X → GoodAim w e aim k × (Whole w → works_in w.program op aim.ty ty by ≡ true) × (opt_below (below w (length e.functions)) by ≡ true) × ((scope : scoped.Scope) → Covers scope e → names_opt by scope ≡ true) × (opt_nodes by ≡ n))
      → Makes w e X (act.update aim at op ty by) (λ a m. GoodAction w e a ((k + n) + m))
  update_makes X aim at op ty by k n h =
      count_then w e X (act.update_nodes aim.ty ty) (pure (action.Update aim.to at op ty by)) (λ a m. GoodAction w e a ((k + n) + m))
      (makes_pure w e X (action.Update aim.to at op ty by) (λ a m. GoodAction w e a ((k + n) + (act.update_nodes aim.ty ty + m)))
      (λ q. let z = h q in let g = z.0 in record {
        fits = λ whole. ap (update_fits w.program aim.to.index op ty by) g.is ∙ both _ _ (g.fits whole) (ap (λ t. works_in w.program op t ty by) g.type ∙ z.1 whole);
        calls = both _ _ g.calls z.2;
        named = λ scope covers. both _ _ (g.held scope covers) (both _ _ (g.named scope covers) (z.3 scope covers));
        nodes = count_is (opt_nodes aim.to.index) k (opt_nodes by) n (act.update_nodes (type_of w.program aim.to.variable) ty) (act.update_nodes aim.ty ty) g.nodes z.4
            (ap (λ t. act.update_nodes t ty) (ap type_in g.is ∙ g.type));
      }))
    where
      count_is : (i k b n u v : ℕ) → i ≡ k → b ≡ n → u ≡ v → i + (b + u) ≡ (k + n) + (v + 0)
      count_is i k b n u v f g h = omega (arith, f, g, h)

  compounded_makes : (X : Type 0) (aim : Aim) (at : Place) (text : List ℕ) (x : Expr) (k n : ℕ) → (X → GoodAim w e aim k × GoodExpr w e x n) → Makes w e X (act.compounded aim at (compound_op text) x) (λ a m. GoodAction w e a ((k + n) + m))
  compounded_makes X aim at text x k n h =
      let op : BinaryOp = compound_op text in
      let r : Ty = to.right_type op aim.ty x.ty in
      let l : Ty = to.left_type op aim.ty x.ty in
      makes_then w e X (rule.converted r x) (λ y. act.update aim at op l (Some y)) (λ y m. (y.ty ≡ r) × Good w e (value r) y (n + m)) (λ a m. GoodAction w e a ((k + n) + m))
      (converted_makes w e X r x n (λ q. (h q).1))
      (λ y m. makes_if w e (X × ((y.ty ≡ r) × Good w e (value r) y (n + m))) (X × ((y.ty ≡ r) × Good w e (value r) y (n + m))) (act.update aim at op l (Some y))
      (λ a i. GoodAction w e a ((k + (n + m)) + i)) (λ a i. GoodAction w e a ((k + n) + (m + i))) (λ q. q) (λ a i q g. re_action a ((k + (n + m)) + i) ((k + n) + (m + i)) (omega arith) g)
      (update_makes _ aim at op l (Some y) k (n + m)
      (λ q. ((h q.0).0, λ whole. ap (λ t. works_t op aim.ty l t) (q.1.1.typed whole) ∙ compound_ok text aim.ty x.ty, q.1.1.calls, q.1.1.named, q.1.1.nodes))))
    where
      re_action : (a : Action) (i j : ℕ) → i ≡ j → GoodAction w e a i → GoodAction w e a j
      re_action a i j h g = subst (λ k. GoodAction w e a k) h g

  incremented_makes : (X : Type 0) (sign : Judged) (aim : Aim) (k : ℕ) → (X → GoodAim w e aim k) → Makes w e X (act.incremented sign aim) (λ a m. GoodAction w e a (k + m))
  incremented_makes X sign aim k h =
      makes_if w e X X (act.incremented sign aim) (λ a i. GoodAction w e a ((k + 0) + i)) (λ a i. GoodAction w e a (k + i)) (λ q. q) (λ a i q g. subst (λ k. GoodAction w e a k) (ap (λ z. z + i) (add-zero k)) g)
      (update_makes X aim sign.place (increment_op sign.text) (to.common aim.ty I16) None k 0
      (λ q. (h q, λ whole. both _ _ (is_step_ok sign.text) (step_ok aim.ty), refl, λ scope covers. refl, refl)))

  set_makes : (X : Type 0) (sign : Judged) (aim : Aim) (x : Expr) (k n : ℕ) → (X → GoodAim w e aim k × GoodExpr w e x n) → Makes w e X (act.set_by sign aim x) (λ a m. GoodAction w e a ((k + n) + m))
  set_makes X sign aim x k n h =
      either_of w e X (spells (codes "=") sign) (act.assigned aim x) (act.compounded aim sign.place (compound_op sign.text) x) (λ a m. GoodAction w e a ((k + n) + m))
      (assigned_makes _ aim x k n (λ q. h q.0)) (compounded_makes _ aim sign.place sign.text x k n (λ q. h q.0))

  assign_makes : (X : Type 0) (sign part : Judged) (aim : Aim) (k : ℕ) → (X → Fit w e × GoodAim w e aim k) → IsExpr w part → Makes w e X (act.assign_by sign part aim) (λ a m. GoodAction w e a (k + m))
  assign_makes X sign part aim k h is =
      makes_then w e X (rule.value_of part) (act.set_by sign aim) (GoodExpr w e) (λ a m. GoodAction w e a (k + m)) (value_makes w e X part (λ q. (h q).0) is)
      (λ x n. makes_if w e (X × GoodExpr w e x n) (X × GoodExpr w e x n) (act.set_by sign aim x) (λ a i. GoodAction w e a ((k + n) + i)) (λ a i. GoodAction w e a (k + (n + i))) (λ q. q)
      (λ a i q g. subst (λ k. GoodAction w e a k) (add_assoc k n i) g)
      (set_makes (X × GoodExpr w e x n) sign aim x k n (λ q. ((h q.0).1, q.1))))

-- ---- by rules

module _ (w : World) where
  pub target_scalar : (name : Judged) → IsAim w (act.target_by (name ∷ []))
  target_scalar name e = looked_then w e (Fit w e) (rule.meaning_at name.text) (act.scalar_target name.place) (GoodAim w e) (λ m. scalar_makes w e _ name.text name.place m (λ q. q))

  pub target_element : (name bracket index : Judged) (rest : List Judged) → IsExpr w index → IsAim w (act.target_by (name ∷ bracket ∷ index ∷ rest))
  target_element name bracket index rest is e =
      looked_then w e (Fit w e) (rule.meaning_at name.text) (act.indexed_target name.place index) (GoodAim w e)
      (λ m. makes_then w e (Fit w e × Saw e (rule.meaning_at name.text) m) (rule.value_of index) (act.element_target name.place m) (GoodExpr w e) (GoodAim w e) (value_makes w e _ index (λ q. q.0) is)
      (λ i n. element_target_makes w e _ name.text name.place m i n (λ q. (q.0.0, q.0.1, q.1))))

  pub act_value : (part : Judged) → IsExpr w part → IsAction w (act.act_by (part ∷ []))
  act_value part is e =
      makes_then w e (Fit w e) part.expr (λ v. pure (action.Value v.tree)) (GoodValue w e) (GoodAction w e) (is e)
      (λ v n. makes_pure w e _ (action.Value v.tree) (λ a m. GoodAction w e a (n + m)) (λ q. record {
        fits = λ whole. ap is_some (q.1.typed whole) ∙ known v.is_void v.tree.ty;
        calls = q.1.calls;
        named = q.1.named;
        nodes = q.1.nodes ∙ sym (add-zero n);
      }))
    where
      known : (b : Bool) (ty : Ty) → is_some (if b then Some None else value ty) ≡ true
      known true ty = refl
      known false ty = refl

  step_good : (sign target : Judged) → IsAim w target.target → IsAction w (act.increment_by sign target)
  step_good sign target is e =
      makes_then w e (Fit w e) target.target (act.incremented sign) (GoodAim w e) (GoodAction w e) (is e)
      (λ aim k. incremented_makes w e _ sign aim k (λ q. q.1))

  pub act_before : (sign target : Judged) → is_token sign ≡ true → IsAim w target.target → IsAction w (act.act_by (sign ∷ target ∷ []))
  act_before sign target h is e = either_true w e (Fit w e) (is_token sign) (act.increment_by sign target) (act.increment_by target sign) (GoodAction w e) h (step_good sign target is e)

  pub act_behind : (target sign : Judged) → is_token target ≡ false → IsAim w target.target → IsAction w (act.act_by (target ∷ sign ∷ []))
  act_behind target sign h is e = either_false w e (Fit w e) (is_token target) (act.increment_by target sign) (act.increment_by sign target) (GoodAction w e) h (step_good sign target is e)

  pub act_assign : (target sign part : Judged) → IsAim w target.target → IsExpr w part → IsAction w (act.act_by (target ∷ sign ∷ part ∷ []))
  act_assign target sign part is f e =
      makes_then w e (Fit w e) target.target (act.assign_by sign part) (GoodAim w e) (GoodAction w e) (is e)
      (λ aim k. assign_makes w e _ sign part aim k (λ q. q) f)
