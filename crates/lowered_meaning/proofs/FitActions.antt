-- Every action and every declaration of a sound program whose names are in scope fits.
use Rattle.std.proofs.Common.{◌≡◌, ◌≢◌, ℕ, ◌≤◌, ◌<◌, Bool, true, false, Option, Some, None, List, [], ◌∷◌, ◌++◌, length, refl, sym, ap, ◌∙◌, subst, ◌⊎◌, inl, inr}
use Rattle.std.specs.Prelude.{⊤, is_some, not, nat_le, slice_get, ◌&&◌, ◌||◌, ◌==◌, if◌then◌else◌}
use Rattle.std.proofs.lemmas.Bool.{leb-true}
use Rattle.std.proofs.lemmas.Bool.Decides.{Decides-eqb}
use Rattle.c_values.specs.declared.ops.Ty.{Ty}
use Rattle.c_values.specs.declared.ops.Ty.TheVariants.{I8, U8, I16, U16}
use Rattle.c_values.specs.declared.ops.BinaryOp.{BinaryOp}
use Rattle.c_values.specs.declared.ops.BinaryOp.TheVariants as binary
use Rattle.c_tree.specs.declared.tree.Expr.{Expr}
use Rattle.c_tree.specs.declared.tree.Variable.{Variable}
use Rattle.c_tree.specs.declared.tree.Target.{Target}
use Rattle.c_tree.specs.declared.tree.Action.{Action}
use Rattle.c_tree.specs.declared.tree.Action.TheVariants as action
use Rattle.c_tree.specs.declared.tree.Declared.{Declared}
use Rattle.c_tree.specs.declared.tree.Program.{Program}
use Rattle.c_tree.specs.Runs.{Part}
use Rattle.c_tree.specs.Nodes.{same_type, type_of, amount_type}
use Rattle.sound_programs.specs.Sound.{has_value, has_type, has_promoted, is_promoted, promoted, is_shift, is_step, is_compound, typing, target_fits, assign_fits, works_in, update_fits, action_fits, capacity, values_fit, declared_as, declared_fit}
use Rattle.lowered_graphs.specs.Stmts.{expr_callees, opt_callees, exprs_callees, action_callees, declared_callees}
use Rattle.sound_programs.specs.Scoped.{Scope, holds, names, names_opt, names_each, action_names, declared_names, numbers_of}
use Rattle.flow_graph.specs.declared.graph.Graph.{Graph}
use Rattle.lowered_graphs.specs.Exprs.{home, is_global}
use Rattle.lowered_meaning.specs.Keeps.{Ground, IsHomeBy, HasHomes}
use Rattle.lowered_meaning.proofs.ExprTypes.{promoted_wide, has_wide}
use Rattle.lowered_meaning.proofs.WordsSame.{IsWide, WideInt, WideUnsigned}
use Rattle.lowered_meaning.proofs.WordsTable.{is_idle}
use Rattle.lowered_meaning.proofs.AssignStores.{Storable}
use Rattle.lowered_meaning.proofs.AssignActions.{ExprOk, OptOk}
use Rattle.lowered_meaning.proofs.AssignNodes.{WorksIn, ActFits}
use Rattle.lowered_meaning.proofs.CallsArguments.{AllOk}
use Rattle.lowered_meaning.proofs.DeclareNodes.{ValuesOk, DeclaredOk, AllDeclared}
use Rattle.lowered_meaning.proofs.FitParts.{both_parts, either_part, IsTyped, typed_value, typed_type, typed_promoted, variables_sized, Each, each_left, each_right}
use Rattle.lowered_meaning.proofs.FitExprs.{Fit, Grounded, Covers}

apart : false ≡ true → ⊥
apart e = cc

-- ---- the types of assignments with an operator

wide_same : (ty t : Ty) → IsWide t → same_type ty t ≡ true → IsWide ty
wide_same I8 t WideInt e = cc
wide_same U8 t WideInt e = cc
wide_same I16 t WideInt e = WideInt
wide_same U16 t WideInt e = cc
wide_same I8 t WideUnsigned e = cc
wide_same U8 t WideUnsigned e = cc
wide_same I16 t WideUnsigned e = cc
wide_same U16 t WideUnsigned e = WideUnsigned

promoted_is : (own : Ty) → IsWide (promoted own)
promoted_is I8 = WideInt
promoted_is U8 = WideInt
promoted_is I16 = WideInt
promoted_is U16 = WideUnsigned

is_promoted_of : (ty : Ty) → IsWide ty → is_promoted ty ≡ true
is_promoted_of ty WideInt = refl
is_promoted_of ty WideUnsigned = refl

idle_from : (own ty : Ty) → IsWide ty → is_idle own ty ≡ false
idle_from I8 ty WideInt = refl
idle_from U8 ty WideInt = refl
idle_from I16 ty WideInt = refl
idle_from U16 ty WideInt = refl
idle_from I8 ty WideUnsigned = refl
idle_from U8 ty WideUnsigned = refl
idle_from I16 ty WideUnsigned = refl
idle_from U16 ty WideUnsigned = refl

idle_to : (own ty : Ty) → IsWide ty → is_idle ty own ≡ false
idle_to own ty WideInt = refl
idle_to own ty WideUnsigned = refl

-- what the types of an assignment with an operator give
pub record Works (ty : Ty) (op : BinaryOp) (by : Option Expr) : Type 0 where
  pub wide : IsWide ty
  pub amount : IsWide (amount_type ty by)
  pub no_and : op ≢ binary.And
  pub no_or : op ≢ binary.Or

abbrev ByTyped : Program → Option Expr → Type 0
ByTyped p None = ⊤
ByTyped p (Some e) = IsTyped (typing p e)

works : (p : Program) (op : BinaryOp) (own ty : Ty) (by : Option Expr) → works_in p op own ty by ≡ true → Works ty op by × ByTyped p by
works p op own ty None h =
    let i = both_parts (is_step op) (same_type ty (promoted own)) h in
    let wide = wide_same ty (promoted own) (promoted_is own) i.1 in
    (record { wide = wide; amount = wide; no_and = λ e. apart (sym (ap (λ o. is_step o) e) ∙ i.0); no_or = λ e. apart (sym (ap (λ o. is_step o) e) ∙ i.0) }, tt)
works p op own ty (Some e) h = by_shift (is_shift op) refl h
  where
    by_shift : (b : Bool) → is_shift op ≡ b
        → (if b then (same_type ty (promoted own) && has_promoted (typing p e)) else is_compound op && ((same_type ty (promoted own) || same_type ty U16) && has_type ty (typing p e))) ≡ true
        → Works ty op (Some e) × IsTyped (typing p e)
    by_shift true s k =
        let i = both_parts (same_type ty (promoted own)) (has_promoted (typing p e)) k in (
          record {
            wide = wide_same ty (promoted own) (promoted_is own) i.0;
            amount = promoted_wide p e (typing p e) refl i.1;
            no_and = λ q. apart (sym (ap (λ o. is_shift o) q) ∙ s);
            no_or = λ q. apart (sym (ap (λ o. is_shift o) q) ∙ s);
          },
          typed_promoted (typing p e) i.1,
        )
    by_shift false s k =
        let i = both_parts (is_compound op) ((same_type ty (promoted own) || same_type ty U16) && has_type ty (typing p e)) k in
        let j = both_parts (same_type ty (promoted own) || same_type ty U16) (has_type ty (typing p e)) i.1 in
        let wide = is_wide (either_part (same_type ty (promoted own)) (same_type ty U16) j.0) in (
          record {
            wide = wide;
            amount = has_wide p e ty (typing p e) refl (is_promoted_of ty wide) j.1;
            no_and = λ q. apart (sym (ap (λ o. is_compound o) q) ∙ i.0);
            no_or = λ q. apart (sym (ap (λ o. is_compound o) q) ∙ i.0);
          },
          typed_type ty (typing p e) j.1,
        )
      where
        is_wide : ((same_type ty (promoted own) ≡ true) ⊎ (same_type ty U16 ≡ true)) → IsWide ty
        is_wide (inl q) = wide_same ty (promoted own) (promoted_is own) q
        is_wide (inr q) = wide_same ty U16 WideUnsigned q

-- ---- scopes

-- a variable of the function's own, before its temporaries
pub record IsLocal (w : Ground) (x : ℕ) : Type 0 where
  pub has : w.has_object x ≡ true
  pub own : w.owner (home w.setting x) ≡ Some w.function
  pub before : home w.setting x < w.base

abbrev pub AreLocal : Ground → List ℕ → Type 0
AreLocal w [] = ⊤
AreLocal w (x ∷ xs) = IsLocal w x × AreLocal w xs

pub local_home : (w : Ground) (x : ℕ) → IsLocal w x → IsHomeBy w (home w.setting x) (w.owner (home w.setting x))
local_home w x is = subst (IsHomeBy w (home w.setting x)) (sym is.own) (refl, is.before)

pub homes_over : (w : Ground) (scope : ℕ → Type 0) (x : ℕ) → HasHomes w scope → IsLocal w x → HasHomes w (λ y. (y ≡ x) ⊎ scope y)
homes_over w scope x homes is y (inl e) = subst (λ v. (w.has_object v ≡ true) × IsHomeBy w (home w.setting v) (w.owner (home w.setting v))) (sym e) (is.has, local_home w x is)
homes_over w scope x homes is y (inr b) = homes y b

-- the names before a declarator are in the scope behind it
covers_wider : (w : Ground) (scope : ℕ → Type 0) (xs : Scope) (x : ℕ) → Covers w scope xs → IsLocal w x → Covers w (λ y. (y ≡ x) ⊎ scope y) xs
covers_wider w scope xs x covers is = record { homes = homes_over w scope x covers.homes is; in_scope = λ y h. inr (covers.in_scope y h); file = λ y h. inr (covers.file y h) }

pub covers_over : (w : Ground) (scope : ℕ → Type 0) (xs : Scope) (x : ℕ) → Covers w scope xs → IsLocal w x → Covers w (λ y. (y ≡ x) ⊎ scope y) (x ∷ xs)
covers_over w scope xs x covers is = record { homes = homes_over w scope x covers.homes is; in_scope = λ y h. found y (either_part (y == x) (holds y xs) h); file = λ y h. inr (covers.file y h) }
  where
    found : (y : ℕ) → (((y == x) ≡ true) ⊎ (holds y xs ≡ true)) → (y ≡ x) ⊎ scope y
    found y (inl e) = inl ((Decides-eqb y x).0 e)
    found y (inr h) = inr (covers.in_scope y h)

module _ (g : Graph) (w : Ground) (most : ℕ) (f : Expr → Part ℕ) (May : ℕ → Type 0) (ground : Grounded w)
    (each : (scope : ℕ → Type 0) (xs : Scope) → Covers w scope xs → (e : Expr) → Fit w.setting xs May e → ExprOk g w scope most f e) where
  abbrev p : Program
  p = w.setting.program

  -- ---- actions

  module _ (scope : ℕ → Type 0) (xs : Scope) (covers : Covers w scope xs) where
    pub opt_ok : (o : Option Expr) → ByTyped p o → names_opt o xs ≡ true → Each May (opt_callees w.setting o) → OptOk g w scope most f o
    opt_ok None t n b = tt
    opt_ok (Some e) t n b = each scope xs covers e (record { typed = t; named = n; called = b })

    storable : (x : ℕ) (v : Variable) → slice_get p.variables x ≡ Some v → holds x xs ≡ true → Storable w scope x
    storable x v found h =
        let s = variables_sized p.variables ground.variables x in
        record { differ = ground.differ; homes = covers.homes; is = covers.in_scope x h; one = s.1 v found; small = s.0 }

    index_typed : (v : Variable) (index : Option Expr) → target_fits p v index ≡ true → ByTyped p index
    index_typed v None h = tt
    index_typed v (Some i) h = typed_value (typing p i) (both_parts (is_some v.length) (has_value (typing p i)) h).1

    assign_fit : (to : Target) (e : Expr) (o : Option Variable) → slice_get p.variables to.variable ≡ o → assign_fits p to.index e o ≡ true → action_names (action.Assign to e) xs ≡ true → Each May (action_callees w.setting (action.Assign to e))
        → Storable w scope to.variable × OptOk g w scope most f to.index × ExprOk g w scope most f e
    assign_fit to e None found h n b = cc
    assign_fit to e (Some v) found h n b =
        let i = both_parts (target_fits p v to.index) (has_type v.ty (typing p e)) h in
        let j = both_parts (holds to.variable xs) (names_opt to.index xs && names e xs) n in
        let k = both_parts (names_opt to.index xs) (names e xs) j.1 in (
          storable to.variable v found j.0,
          opt_ok to.index (index_typed v to.index i.0) k.0 (each_left May (opt_callees w.setting to.index) (expr_callees w.setting e) b),
          each scope xs covers e (record { typed = typed_type v.ty (typing p e) i.1; named = k.1; called = each_right May (opt_callees w.setting to.index) (expr_callees w.setting e) b }),
        )

    works_in_of : (x : ℕ) (v : Variable) (can : Storable w scope x) (op : BinaryOp) (ty : Ty) (by : Option Expr) → slice_get p.variables x ≡ Some v → Works ty op by
        → WorksIn g w scope most x ground.owns can f (type_of p x) ty op by
    works_in_of x v can op ty by found is = record {
      wide = is.wide;
      amount = is.amount;
      no_and = is.no_and;
      no_or = is.no_or;
      to = idle_to (type_of p x) ty is.wide;
      from = idle_from (type_of p x) ty is.wide;
    }

    update_fit : (to : Target) (op : BinaryOp) (ty : Ty) (by : Option Expr) (o : Option Variable) → slice_get p.variables to.variable ≡ o → update_fits p to.index op ty by o ≡ true
        → (holds to.variable xs && (names_opt to.index xs && names_opt by xs)) ≡ true → Each May (opt_callees w.setting to.index ++ opt_callees w.setting by)
        → (can : Storable w scope to.variable) × WorksIn g w scope most to.variable ground.owns can f (type_of p to.variable) ty op by
        × (w.owner (home w.setting to.variable) ≡ None → is_global w.setting to.variable ≡ true) × OptOk g w scope most f to.index × OptOk g w scope most f by
    update_fit to op ty by None found h n b = cc
    update_fit to op ty by (Some v) found h n b =
        let i = both_parts (target_fits p v to.index) (works_in p op v.ty ty by) h in
        let r = works p op v.ty ty by i.1 in
        let j = both_parts (holds to.variable xs) (names_opt to.index xs && names_opt by xs) n in
        let k = both_parts (names_opt to.index xs) (names_opt by xs) j.1 in
        let can = storable to.variable v found j.0 in (
          can,
          works_in_of to.variable v can op ty by found r.0,
          λ e. ground.globals to.variable (covers.homes to.variable (covers.in_scope to.variable j.0)).0 e,
          opt_ok to.index (index_typed v to.index i.0) k.0 (each_left May (opt_callees w.setting to.index) (opt_callees w.setting by) b),
          opt_ok by r.1 k.1 (each_right May (opt_callees w.setting to.index) (opt_callees w.setting by) b),
        )

    -- every action
    pub act_fit : (a : Action) → action_fits p a ≡ true → action_names a xs ≡ true → Each May (action_callees w.setting a) → ActFits g w scope most f ground.owns a
    act_fit (action.Value e) h n b = each scope xs covers e (record { typed = h; named = n; called = b })
    act_fit (action.Assign to e) h n b = assign_fit to e (slice_get p.variables to.variable) refl h n b
    act_fit (action.Update to at op ty by) h n b = update_fit to op ty by (slice_get p.variables to.variable) refl h n b

  -- ---- declarations

  module _ (some : 1 ≤ most) where
    values_ok : (scope : ℕ → Type 0) (xs : Scope) → Covers w scope xs → (ty : Ty) (es : List Expr) → values_fit p ty es ≡ true → names_each es xs ≡ true → Each May (exprs_callees w.setting es) → AllOk g w scope most f es
    values_ok scope xs covers ty [] h n b = tt
    values_ok scope xs covers ty (e ∷ es) h n b =
        let i = both_parts (has_type ty (typing p e)) (values_fit p ty es) h in
        let j = both_parts (names e xs) (names_each es xs) n in
        (each scope xs covers e (record { typed = typed_type ty (typing p e) i.0; named = j.0; called = each_left May (expr_callees w.setting e) (exprs_callees w.setting es) b }), values_ok scope xs covers ty es i.1 j.1 (each_right May (expr_callees w.setting e) (exprs_callees w.setting es) b))

    sized_values : (scope : ℕ → Type 0) (xs : Scope) → Covers w scope xs → (x : ℕ) → IsLocal w x → (ty : Ty) (l : Option ℕ) (es : List Expr) → nat_le (length es) (capacity l) ≡ true
        → values_fit p ty es ≡ true → names_each es xs ≡ true → Each May (exprs_callees w.setting es) → ValuesOk g w most f ground.owns some scope x l es
    sized_values scope xs covers x is ty None [] c h n b = tt
    sized_values scope xs covers x is ty None (e ∷ es) c h n b = (values_ok scope xs covers ty (e ∷ es) h n b).0
    sized_values scope xs covers x is ty (Some m) es c h n b = (values_ok (λ y. (y ≡ x) ⊎ scope y) xs (covers_wider w scope xs x covers is) ty es h n b, leb-true (length es) m c)

    declarator_fit : (scope : ℕ → Type 0) (xs : Scope) → Covers w scope xs → (e : Declared) (o : Option Variable) → slice_get p.variables e.variable ≡ o → declared_as p e.values o ≡ true → names_each e.values xs ≡ true
        → Each May (exprs_callees w.setting e.values) → IsLocal w e.variable → DeclaredOk g w most f ground.owns some scope e
    declarator_fit scope xs covers e None found h n b is = cc
    declarator_fit scope xs covers e (Some v) found h n b is =
        let i = both_parts (not v.global) (nat_le (length e.values) (capacity v.length) && values_fit p v.ty e.values) h in
        let j = both_parts (nat_le (length e.values) (capacity v.length)) (values_fit p v.ty e.values) i.1 in
        let s = variables_sized p.variables ground.variables e.variable in
        let over = homes_over w scope e.variable covers.homes is in
        record {
          variable = v;
          found = found;
          homes = covers.homes;
          enters = record { differ = ground.differ; homes = over; has = is.has; home_is = local_home w e.variable is; less = less };
          can = record { differ = ground.differ; homes = over; is = inl refl; one = s.1 v found; small = s.0 };
          values = sized_values scope xs covers e.variable is v.ty v.length e.values j.0 j.1 n b;
        }
      where
        less : (y : ℕ) → ((y ≡ e.variable) ⊎ scope y) → y ≢ e.variable → scope y
        less y (inl q) ne = absurd (ne q)
        less y (inr r) ne = r

    -- every declaration
    pub declaration_fit : (scope : ℕ → Type 0) (xs : Scope) → Covers w scope xs → (es : List Declared) → declared_fit p es ≡ true → declared_names es xs ≡ true → Each May (declared_callees w.setting es) → AreLocal w (numbers_of es)
        → AllDeclared g w most f ground.owns some scope es
    declaration_fit scope xs covers [] h n b own = tt
    declaration_fit scope xs covers (e ∷ es) h n b own =
        let i = both_parts (declared_as p e.values (slice_get p.variables e.variable)) (declared_fit p es) h in
        let j = both_parts (names_each e.values xs) (declared_names es (e.variable ∷ xs)) n in (
          declarator_fit scope xs covers e (slice_get p.variables e.variable) refl i.0 j.0 (each_left May (exprs_callees w.setting e.values) (declared_callees w.setting es) b) own.0,
          declaration_fit (λ y. (y ≡ e.variable) ⊎ scope y) (e.variable ∷ xs) (covers_over w scope xs e.variable covers own.0) es i.1 j.1 (each_right May (exprs_callees w.setting e.values) (declared_callees w.setting es) b) own.1,
        )
