-- What the rules of declarations make is good, where it is of their parts.
use Rattle.std.proofs.Common.{◌≡◌, refl, sym, ap, subst, ◌∙◌, ℕ, suc, ◌+◌, ◌≤◌, add-zero, add_assoc, Bool, true, false, Option, Some, None, List, [], ◌∷◌, ◌++◌, inl, inr, arith, length-append}
use Rattle.std.specs.Prelude.{slice_get, length, is_none, ◌&&◌, ◌||◌, ◌==◌, ℤ, pos, negsuc, nat_le, if◌then◌else◌, codes}
use Rattle.std.proofs.lemmas.Bool.Decides.{nat_tests}
use Rattle.base_io.specs.declared.place.Place.{Place}
use Rattle.c_values.specs.declared.ops.Ty.{Ty}
use Rattle.c_values.specs.Values as values
use Rattle.c_tree.specs.declared.tree.Expr.{Expr}
use Rattle.c_tree.specs.declared.tree.Declared.{Declared}
use Rattle.c_tree.specs.declared.tree.Variable.{Variable}
use Rattle.c_typing.specs.declared.meaning.Meaning.TheVariants as meaning
use Rattle.c_typing.specs.declared.value.Base.{Base}
use Rattle.c_typing.specs.declared.type_fault.TypeFault.{TypeFault}
use Rattle.c_typing.specs.declared.type_fault.TypeFault.TheVariants as fault
use Rattle.c_typing.specs.Parts.{Part, ◌>>=◌, ◌>>◌, pure}
use Rattle.c_typing.specs.Constants.{constant_of}
use Rattle.c_typing.specs.Judged.{Judged, spells}
use Rattle.c_typing.specs.Expressions as expression
use Rattle.c_typing.specs.Declarations as rule
use Rattle.sound_programs.specs.Sound.{typing, has_type, length_fits, declared_as, declared_fit, values_fit, capacity}
use Rattle.sound_programs.specs.Calls.{Below, calls_below, exprs_below, declared_below}
use Rattle.sound_programs.specs.Counted.{expr_nodes, exprs_nodes, declarator_nodes, declared_nodes}
use Rattle.sound_programs.specs.Scoped as scoped
use Rattle.sound_programs.specs.Scoped.{holds, names, names_each, declared_names, declared_behind, numbers_of}
use Rattle.accepted_programs.proofs.Walk.{World, Env, Makes, below, makes_pure, makes_if, makes_then, fails, note_if_then, either_of, makes_uncounted}
use Rattle.accepted_programs.proofs.Types.{same_refl}
use Rattle.accepted_programs.proofs.Trees.{Covers, Whole, Good, value, both}
use Rattle.accepted_programs.proofs.Values.{Fit, GoodExpr, IsExpr, re_count, value_makes, converted_makes}
use Rattle.accepted_programs.proofs.Calling.{length_snoc}
use Rattle.accepted_programs.proofs.Doing.{Has, Inside, inside_refl, inside_trans, has_pure, has_if, has_then, has_given, has_count, has_true, has_false, has_from}
use Rattle.accepted_programs.proofs.Objects.{Added, has_object, find_declared, outer_declared, get_before}

-- ---- numbers that ascend

-- from the first number up to below the second
abbrev pub Between : ℕ → List ℕ → ℕ → Type 0
Between low [] high = low ≤ high
Between low (x ∷ xs) high = (low ≤ x) × Between (suc x) xs high

pub between_append : (low mid high : ℕ) (xs ys : List ℕ) → Between low xs mid → Between mid ys high → Between low (xs ++ ys) high
between_append low mid high [] [] h k = omega (arith, h, k)
between_append low mid high [] (y ∷ ys) h k = (omega (arith, h, k.0), k.1)
between_append low mid high (x ∷ xs) ys h k = (h.0, between_append (suc x) mid high xs ys h.1 k)

-- ---- values

pub record GoodValues (w : World) (e : Env) (ty : Ty) (xs : List Expr) (n : ℕ) : Type 0 where
  pub typed : Whole w → values_fit w.program ty xs ≡ true
  pub calls : exprs_below (below w (length e.functions)) xs ≡ true
  pub named : (scope : scoped.Scope) → Covers scope e → names_each xs scope ≡ true
  pub nodes : exprs_nodes xs ≡ n

fit_snoc : (w : World) (ty : Ty) (xs : List Expr) (x : Expr) → values_fit w.program ty xs ≡ true → has_type ty (typing w.program x) ≡ true → values_fit w.program ty (xs ++ x ∷ []) ≡ true
fit_snoc w ty [] x h k = both _ true k refl
fit_snoc w ty (y ∷ xs) x h k = by (has_type ty (typing w.program y)) h (λ r. fit_snoc w ty xs x r k)
  where
    by : (b : Bool) → (b && values_fit w.program ty xs) ≡ true → (values_fit w.program ty xs ≡ true → values_fit w.program ty (xs ++ x ∷ []) ≡ true) → (b && values_fit w.program ty (xs ++ x ∷ [])) ≡ true
    by true h r = r h
    by false h r = cc

below_snoc : (b : Below) (xs : List Expr) (x : Expr) → exprs_below b xs ≡ true → calls_below b x ≡ true → exprs_below b (xs ++ x ∷ []) ≡ true
below_snoc b [] x h k = both _ true k refl
below_snoc b (y ∷ xs) x h k = by (calls_below b y) h (λ r. below_snoc b xs x r k)
  where
    by : (c : Bool) → (c && exprs_below b xs) ≡ true → (exprs_below b xs ≡ true → exprs_below b (xs ++ x ∷ []) ≡ true) → (c && exprs_below b (xs ++ x ∷ [])) ≡ true
    by true h r = r h
    by false h r = cc

names_snoc : (scope : scoped.Scope) (xs : List Expr) (x : Expr) → names_each xs scope ≡ true → names x scope ≡ true → names_each (xs ++ x ∷ []) scope ≡ true
names_snoc scope [] x h k = both _ true k refl
names_snoc scope (y ∷ xs) x h k = by (names y scope) h (λ r. names_snoc scope xs x r k)
  where
    by : (c : Bool) → (c && names_each xs scope) ≡ true → (names_each xs scope ≡ true → names_each (xs ++ x ∷ []) scope ≡ true) → (c && names_each (xs ++ x ∷ []) scope) ≡ true
    by true h r = r h
    by false h r = cc

nodes_snoc : (xs : List Expr) (x : Expr) → exprs_nodes (xs ++ x ∷ []) ≡ exprs_nodes xs + expr_nodes x
nodes_snoc [] x = omega arith
nodes_snoc (y ∷ xs) x = omega (arith, nodes_snoc xs x)

values_snoc : (w : World) (e : Env) (ty : Ty) (xs : List Expr) (x : Expr) (m n : ℕ) → GoodValues w e ty xs m → Good w e (value ty) x n → GoodValues w e ty (xs ++ x ∷ []) (m + n)
values_snoc w e ty xs x m n g h = record {
  typed = λ whole. fit_snoc w ty xs x (g.typed whole) (ap (has_type ty) (h.typed whole) ∙ same_refl ty);
  calls = below_snoc (below w (length e.functions)) xs x g.calls h.calls;
  named = λ scope covers. names_snoc scope xs x (g.named scope covers) (h.named scope covers);
  nodes = nodes_snoc xs x ∙ (ap (λ k. k + expr_nodes x) g.nodes ∙ ap (λ k. m + k) h.nodes);
}

no_values : (w : World) (e : Env) (ty : Ty) → GoodValues w e ty [] 0
no_values w e ty = record { typed = λ whole. refl; calls = refl; named = λ scope covers. refl; nodes = refl }

-- values for no more than so many elements
pub record FewValues (w : World) (e : Env) (ty : Ty) (most : ℕ) (xs : List Expr) (n : ℕ) : Type 0 where
  pub good : GoodValues w e ty xs n
  pub few : length xs ≤ most

module _ (w : World) (e : Env) where
  -- an expression with a sign behind it, and so on
  abbrev pub AreValues : List Judged → Type 0
  AreValues (part ∷ sign ∷ rest) = IsExpr w part × AreValues rest
  AreValues _ = Unit {0}

  initial_makes : (X : Type 0) (ty : Ty) (j : Judged) → (X → Fit w e) → IsExpr w j → Makes w e X (rule.initial_value ty j) (Good w e (value ty))
  initial_makes X ty j fit is =
      makes_then w e X (expression.value_of j) (expression.converted ty) (GoodExpr w e) (Good w e (value ty)) (value_makes w e X j fit is)
      (λ x n. makes_if w e (X × GoodExpr w e x n) (X × GoodExpr w e x n) (expression.converted ty x) (λ y m. (y.ty ≡ ty) × Good w e (value ty) y (n + m)) (λ y m. Good w e (value ty) y (n + m)) (λ q. q) (λ y m q f. f.1)
      (converted_makes w e (X × GoodExpr w e x n) ty x n (λ q. q.1)))

  few_more : (xs : List Expr) (x : Expr) (most : ℕ) → length xs ≤ most → (length xs == most) ≡ false → length (xs ++ x ∷ []) ≤ most
  few_more xs x most h k = omega (arith, length_snoc xs x, h, apart (length xs) most k)
    where
      apart : (a b : ℕ) → (a == b) ≡ false → a ≡ b → ⊥
      apart a b h k = grind (arith, nat_tests)

  listed_makes : (X : Type 0) (ty : Ty) (most : ℕ) (xs : List Expr) (js : List Judged) (n : ℕ) → (X → Fit w e) → AreValues js → (X → FewValues w e ty most xs n)
      → Makes w e X (rule.listed ty most xs js) (λ ys k. FewValues w e ty most ys (n + k))
  listed_makes X ty most xs [] n fit are h = makes_pure w e X xs (λ ys k. FewValues w e ty most ys (n + k)) (λ q. subst (λ k. FewValues w e ty most xs k) (sym (add-zero n)) (h q))
  listed_makes X ty most xs (part ∷ []) n fit are h = makes_pure w e X xs (λ ys k. FewValues w e ty most ys (n + k)) (λ q. subst (λ k. FewValues w e ty most xs k) (sym (add-zero n)) (h q))
  listed_makes X ty most xs (part ∷ sign ∷ rest) n fit (is, are) h =
      let F : Expr → ℕ → Type 0 = λ y m. Good w e (value ty) y m × ((length xs == most) ≡ false) in
      makes_then w e X (rule.next_value ty most xs part) (λ x. rule.listed ty most (xs ++ x ∷ []) rest) F (λ ys k. FewValues w e ty most ys (n + k))
      (makes_then w e X (rule.initial_value ty part) (λ x. rule.note_excess most xs x >> pure x) (Good w e (value ty)) F (initial_makes X ty part fit is)
      (λ x m. note_if_then w e (X × Good w e (value ty) x m) (length xs == most) (fault.BadArray x.place) (pure x) (λ y k. F y (m + k))
      (makes_pure w e ((X × Good w e (value ty) x m) × ((length xs == most) ≡ false)) x (λ y k. F y (m + k)) (λ q. (re_count w e (value ty) x m (m + 0) (sym (add-zero m)) q.0.1, q.1)))))
      (λ x k. makes_if w e (X × F x k) (X × F x k) (rule.listed ty most (xs ++ x ∷ []) rest) (λ ys j. FewValues w e ty most ys ((n + k) + j)) (λ ys j. FewValues w e ty most ys (n + (k + j))) (λ q. q)
      (λ ys j q b. subst (λ i. FewValues w e ty most ys i) (add_assoc n k j) b)
      (listed_makes (X × F x k) ty most (xs ++ x ∷ []) rest (n + k) (λ q. fit q.0) are
      (λ q. record { good = values_snoc w e ty xs x n k (h q.0).good q.1.0; few = few_more xs x most (h q.0).few q.1.1 })))

  no_few : (ty : Ty) (most : ℕ) → FewValues w e ty most [] 0
  no_few ty most = record { good = no_values w e ty; few = omega arith }

  one_few : (ty : Ty) (x : Expr) (n : ℕ) → Good w e (value ty) x n → FewValues w e ty 1 (x ∷ []) n
  one_few ty x n g = subst (λ k. FewValues w e ty 1 (x ∷ []) k) (zero_before n) (record { good = values_snoc w e ty [] x 0 n (no_values w e ty) g; few = omega arith })
    where
      zero_before : (n : ℕ) → 0 + n ≡ n
      zero_before n = omega arith

-- the values of an initialiser: of none, of one expression, of a list
abbrev pub AreScalar : World → List Judged → Type 0
AreScalar w (equals ∷ part ∷ []) = IsExpr w part
AreScalar w _ = Unit {0}

abbrev pub AreListed : World → List Judged → Type 0
AreListed w (equals ∷ bracket ∷ rest) = (e : Env) → AreValues w e rest
AreListed w _ = Unit {0}

module _ (w : World) where
  pub scalar_makes : (ty : Ty) (js : List Judged) → AreScalar w js → (e : Env) → Makes w e (Fit w e) (rule.scalar_values ty js) (FewValues w e ty 1)
  scalar_makes ty [] are e = makes_pure w e (Fit w e) [] (FewValues w e ty 1) (λ q. no_few w e ty 1)
  scalar_makes ty (a ∷ []) are e = makes_pure w e (Fit w e) [] (FewValues w e ty 1) (λ q. no_few w e ty 1)
  scalar_makes ty (equals ∷ part ∷ []) are e =
      makes_then w e (Fit w e) (rule.initial_value ty part) (λ x. pure (x ∷ [])) (Good w e (value ty)) (FewValues w e ty 1) (initial_makes w e (Fit w e) ty part (λ q. q) are)
      (λ x n. makes_pure w e (Fit w e × Good w e (value ty) x n) (x ∷ []) (λ ys m. FewValues w e ty 1 ys (n + m)) (λ q. subst (λ k. FewValues w e ty 1 (x ∷ []) k) (sym (add-zero n)) (one_few w e ty x n q.1)))
  scalar_makes ty (a ∷ b ∷ c ∷ d) are e = makes_pure w e (Fit w e) [] (FewValues w e ty 1) (λ q. no_few w e ty 1)

  pub list_makes : (ty : Ty) (most : ℕ) (js : List Judged) → AreListed w js → (e : Env) → Makes w e (Fit w e) (rule.list_values ty most js) (FewValues w e ty most)
  list_makes ty most [] are e = makes_pure w e (Fit w e) [] (FewValues w e ty most) (λ q. no_few w e ty most)
  list_makes ty most (a ∷ []) are e = makes_pure w e (Fit w e) [] (FewValues w e ty most) (λ q. no_few w e ty most)
  list_makes ty most (equals ∷ bracket ∷ rest) are e =
      makes_if w e (Fit w e) (Fit w e) (rule.listed ty most [] rest) (λ ys k. FewValues w e ty most ys (0 + k)) (FewValues w e ty most) (λ q. q) (λ ys k q f. subst (λ j. FewValues w e ty most ys j) (zero_before k) f)
      (listed_makes w e (Fit w e) ty most [] rest 0 (λ q. q) (are e) (λ q. no_few w e ty most))
    where
      zero_before : (n : ℕ) → 0 + n ≡ n
      zero_before n = omega arith

  -- ---- lengths

  bad_length_makes : (e : Env) (X : Type 0) (f : TypeFault) → Makes w e X (rule.bad_length f) (λ n k. length_fits (Some n) ≡ true)
  bad_length_makes e X f = fails w e X f rule.most_elements (λ n k. length_fits (Some n) ≡ true)

  within_makes : (e : Env) (X : Type 0) (place : Place) (z : ℤ) → Makes w e X (rule.length_within place z) (λ n k. length_fits (Some n) ≡ true)
  within_makes e X place (pos n) = either_of w e X (rule.is_length n) (pure n) (rule.bad_length (fault.BadArray place)) (λ n k. length_fits (Some n) ≡ true)
      (makes_pure w e (X × (rule.is_length n ≡ true)) n (λ n k. length_fits (Some n) ≡ true) (λ q. q.1)) (bad_length_makes e (X × (rule.is_length n ≡ false)) (fault.BadArray place))
  within_makes e X place (negsuc n) = bad_length_makes e X (fault.BadArray place)

  from_makes : (e : Env) (X : Type 0) (x : Expr) (o : Option ℕ) → Makes w e X (rule.length_from x o) (λ n k. length_fits (Some n) ≡ true)
  from_makes e X x None = bad_length_makes e X (fault.NotConst x.place)
  from_makes e X x (Some v) = within_makes e X x.place (values.value x.ty v)

  pub length_makes : (j : Judged) → IsExpr w j → (e : Env) → Makes w e (Fit w e) (rule.length_of j) (λ n k. (k ≡ 0) × (length_fits (Some n) ≡ true))
  length_makes j is e =
      makes_if w e (Fit w e) (Fit w e) (rule.length_of j) (λ n k. (k ≡ 0) × ((m : ℕ) × (length_fits (Some n) ≡ true))) (λ n k. (k ≡ 0) × (length_fits (Some n) ≡ true)) (λ q. q) (λ n k q f. (f.0, f.1.1))
      (makes_uncounted w e (Fit w e) (rule.length_value j) (λ n k. length_fits (Some n) ≡ true)
      (makes_then w e (Fit w e) (expression.value_of j) (λ x. rule.length_from x (constant_of x)) (GoodExpr w e) (λ n k. length_fits (Some n) ≡ true) (value_makes w e (Fit w e) j (λ q. q) is)
      (λ x n. from_makes e (Fit w e × GoodExpr w e x n) x (constant_of x))))

  pub begin_makes : (name : List ℕ) (e : Env) (X : Type 0) → Makes w e X (rule.begin_initialiser name) (λ _ n. n ≡ 0)
  begin_makes name e X s = λ some. (refl, λ ends. (ends, λ x is. record { more = 0; same = is; nodes = sym (add-zero s.nodes); fits = refl }))

-- ---- declarators

pub record GoodDeclared (w : World) (e : Env) (d : Declared) (e' : Env) (n : ℕ) : Type 0 where
  pub inside : Inside e e'
  pub fits : Whole w → declared_as w.program d.values (slice_get w.program.variables d.variable) ≡ true
  pub calls : exprs_below (below w (length e.functions)) d.values ≡ true
  pub named : (scope : scoped.Scope) → Covers scope e → names_each d.values scope ≡ true
  pub covers : (scope : scoped.Scope) → Covers scope e → Covers (d.variable ∷ scope) e'
  pub number : d.variable ≡ length e.variables
  pub one : length e'.variables ≡ length e.variables + 1
  pub nodes : declarator_nodes (slice_get w.program.variables d.variable) + exprs_nodes d.values ≡ n

abbrev pub IsDeclare : World → (Base → Part Declared) → Type 0
IsDeclare w f = (base : Base) → Has w (λ e. Unit {0}) (f base) (GoodDeclared w)

holds_more : (x y : ℕ) (scope : scoped.Scope) → holds x scope ≡ true → holds x (y ∷ scope) ≡ true
holds_more x y scope h = by (x == y)
  where
    by : (b : Bool) → (b || holds x scope) ≡ true
    by true = refl
    by false = h

holds_first : (x y : ℕ) (scope : scoped.Scope) → x ≡ y → holds x (y ∷ scope) ≡ true
holds_first x y scope h = ap (λ b. (b || holds x scope)) (same x y h)
  where
    same : (x y : ℕ) → x ≡ y → (x == y) ≡ true
    same x y h = grind (arith, nat_tests)

pub added_inside : (w : World) (name : List ℕ) (constant : Bool) (v : Variable) (e : Env) (x : ℕ) (e' : Env) (n : ℕ) → Added w name constant v e x e' n → Inside e e'
added_inside w name constant v e x e' n a =
    subst (λ z. Inside e z) (sym a.is)
    (record {
      outer = outer_declared name (meaning.Variable x v.ty v.length constant) e.scopes;
      functions = refl;
      signatures = refl;
      defined = refl;
      result = refl;
      kept = λ i u h. get_before e.variables (v ∷ []) i u h;
      grown = omega (arith, length-append e.variables (v ∷ []));
    })

pub added_covers : (w : World) (name : List ℕ) (constant : Bool) (v : Variable) (e : Env) (x : ℕ) (e' : Env) (n : ℕ) → Added w name constant v e x e' n
    → (scope : scoped.Scope) → Covers scope e → Covers (x ∷ scope) e'
added_covers w name constant v e x e' n a scope covers =
    subst (λ z. Covers (x ∷ scope) z) (sym a.is)
    (λ other y ty size c h. elim (find_declared name other (meaning.Variable x v.ty v.length constant) (meaning.Variable y ty size c) e.scopes h) [
      | inl g ↦ holds_more y x scope (covers other y ty size c g)
      | inr g ↦ holds_first y x scope (same_number y x ty v.ty size v.length c constant g)
    ])
  where
    same_number : (y x : ℕ) (ty uy : Ty) (s t : Option ℕ) (c d : Bool) → meaning.Variable y ty s c ≡ meaning.Variable x uy t d → y ≡ x
    same_number y x ty uy s t c d h = cc

pub added_one : (w : World) (name : List ℕ) (constant : Bool) (v : Variable) (e : Env) (x : ℕ) (e' : Env) (n : ℕ) → Added w name constant v e x e' n → length e'.variables ≡ length e.variables + 1
added_one w name constant v e x e' n a = ap (λ (z : Env). length z.variables) a.is ∙ length_snoc e.variables v

module _ (w : World) where
  -- the nodes of a declarator, by the length
  abbrev pub declarator : Option ℕ → ℕ
  declarator size = if is_none size then 1 else 2

  pub local_has : (X : Env → Type 0) (base : Base) (name : Judged) (size : Option ℕ) (xs : List Expr) (n : ℕ) → ((e : Env) → X e → (length_fits size ≡ true) × FewValues w e base.ty (capacity size) xs n)
      → Has w X (rule.made_local base name size (declarator size) xs) (λ e d e' m. GoodDeclared w e d e' (n + m))
  local_has X base name size xs n h =
      has_count w X (declarator size) (rule.local_object base name size xs) (λ e d e' m. GoodDeclared w e d e' (n + m))
      (has_then w X (rule.add_object name.text name.place base.constant (rule.local base.ty size)) (λ x. pure (record { place = name.place; variable = x; values = xs }))
      (Added w name.text base.constant (rule.local base.ty size)) (λ e d e' m. GoodDeclared w e d e' (n + (declarator size + m)))
      (has_object w X name.text name.place base.constant (rule.local base.ty size) (λ e q. ((h e q).0, refl)))
      (λ e x m. has_pure w (λ e'. X e × Added w name.text base.constant (rule.local base.ty size) e x e' m) (record { place = name.place; variable = x; values = xs }) (λ e' d e2 k. GoodDeclared w e d e2 (n + (declarator size + (m + k))))
      (λ e' q core. let g = (h e q.0).1 in let a = q.1 in record {
        inside = added_inside w name.text base.constant (rule.local base.ty size) e x e' m a;
        fits = λ whole. ap (declared_as w.program xs) a.there ∙ both _ _ (few_test (length xs) (capacity size) g.few) (g.good.typed whole);
        calls = g.good.calls;
        named = g.good.named;
        covers = added_covers w name.text base.constant (rule.local base.ty size) e x e' m a;
        number = a.number;
        one = added_one w name.text base.constant (rule.local base.ty size) e x e' m a;
        nodes = count_is (declarator_nodes (slice_get w.program.variables x)) (declarator size) (exprs_nodes xs) n m (ap declarator_nodes a.there) g.good.nodes a.none;
      })))
    where
      few_test : (a b : ℕ) → a ≤ b → nat_le a b ≡ true
      few_test a b h = grind (arith, nat_tests)

      count_is : (c d b n m : ℕ) → c ≡ d → b ≡ n → m ≡ 0 → c + b ≡ n + (d + (m + 0))
      count_is c d b n m f g h = omega (arith, f, g, h)

  pub scalar_declared : (name : Judged) (rest : List Judged) → AreScalar w rest → (base : Base) → Has w (λ e. Unit {0}) (rule.declare_scalar base name rest) (GoodDeclared w)
  scalar_declared name rest are base =
      has_given w (λ e. Unit {0}) (rule.begin_initialiser name.text) (λ _. rule.scalar_values base.ty rest >>= rule.made_local base name None 1) (λ e _ n. n ≡ 0) (GoodDeclared w)
      (λ e. begin_makes w name.text e (Fit w e))
      (λ u n. has_given w (λ e. Unit {0} × (n ≡ 0)) (rule.scalar_values base.ty rest) (rule.made_local base name None 1) (λ e xs m. FewValues w e base.ty 1 xs m) (λ e d e' k. GoodDeclared w e d e' (n + k))
      (λ e. scalar_makes w base.ty rest are e)
      (λ xs m. has_if w (λ e. (Unit {0} × (n ≡ 0)) × FewValues w e base.ty 1 xs m) (λ e. (Unit {0} × (n ≡ 0)) × FewValues w e base.ty 1 xs m) (rule.made_local base name None 1 xs)
      (λ e d e' k. GoodDeclared w e d e' (m + k)) (λ e d e' k. GoodDeclared w e d e' (n + (m + k))) (λ e q. q) (λ e d e' k q core core' g. subst (λ i. GoodDeclared w e d e' i) (zero_before n (m + k) q.0.1) g)
      (local_has (λ e. (Unit {0} × (n ≡ 0)) × FewValues w e base.ty 1 xs m) base name None xs m (λ e q. (refl, q.1)))))
    where
      zero_before : (n k : ℕ) → n ≡ 0 → k ≡ n + k
      zero_before n k h = omega (arith, h)

  pub array_declared : (name bracket part close : Judged) (rest : List Judged) → IsExpr w part → AreListed w rest → IsDeclare w (rule.declare_by (name ∷ bracket ∷ part ∷ close ∷ rest))
  array_declared name bracket part close rest is are base =
      has_given w (λ e. Unit {0}) (rule.length_of part) (rule.declare_array base name rest) (λ e n k. (k ≡ 0) × (length_fits (Some n) ≡ true)) (GoodDeclared w)
      (λ e. length_makes w part is e)
      (λ size n. has_given w (λ e. Unit {0} × ((n ≡ 0) × (length_fits (Some size) ≡ true))) (rule.begin_initialiser name.text) (λ _. rule.list_values base.ty size rest >>= rule.made_local base name (Some size) 2) (λ e _ i. i ≡ 0) (λ e d e' k. GoodDeclared w e d e' (n + k))
      (λ e. begin_makes w name.text e (Fit w e))
      (λ u i. has_given w (λ e. (Unit {0} × ((n ≡ 0) × (length_fits (Some size) ≡ true))) × (i ≡ 0)) (rule.list_values base.ty size rest) (rule.made_local base name (Some size) 2) (λ e xs m. FewValues w e base.ty size xs m) (λ e d e' k. GoodDeclared w e d e' (n + (i + k)))
      (λ e. list_makes w base.ty size rest are e)
      (λ xs m. has_if w (λ e. ((Unit {0} × ((n ≡ 0) × (length_fits (Some size) ≡ true))) × (i ≡ 0)) × FewValues w e base.ty size xs m) (λ e. ((Unit {0} × ((n ≡ 0) × (length_fits (Some size) ≡ true))) × (i ≡ 0)) × FewValues w e base.ty size xs m) (rule.made_local base name (Some size) 2 xs)
      (λ e d e' k. GoodDeclared w e d e' (m + k)) (λ e d e' k. GoodDeclared w e d e' (n + (i + (m + k)))) (λ e q. q) (λ e d e' k q core core' g. subst (λ j. GoodDeclared w e d e' j) (zero_before n i m k q.0.0.1.0 q.0.1) g)
      (local_has (λ e. ((Unit {0} × ((n ≡ 0) × (length_fits (Some size) ≡ true))) × (i ≡ 0)) × FewValues w e base.ty size xs m) base name (Some size) xs m (λ e q. (q.0.0.1.1, q.1))))))
    where
      zero_before : (n i m k : ℕ) → n ≡ 0 → i ≡ 0 → m + k ≡ n + (i + (m + k))
      zero_before n i m k h g = omega (arith, h, g)

-- ---- declarations

pub record GoodDeclaration (w : World) (e : Env) (ds : List Declared) (e' : Env) (n : ℕ) : Type 0 where
  pub inside : Inside e e'
  pub fits : Whole w → declared_fit w.program ds ≡ true
  pub calls : declared_below (below w (length e.functions)) ds ≡ true
  pub named : (scope : scoped.Scope) → Covers scope e → declared_names ds scope ≡ true
  pub covers : (scope : scoped.Scope) → Covers scope e → Covers (declared_behind ds scope) e'
  pub numbers : Between (length e.variables) (numbers_of ds) (length e'.variables)
  pub nodes : declared_nodes w.program ds ≡ n

declared_fit_snoc : (w : World) (ds : List Declared) (d : Declared) → declared_fit w.program ds ≡ true → declared_as w.program d.values (slice_get w.program.variables d.variable) ≡ true → declared_fit w.program (ds ++ d ∷ []) ≡ true
declared_fit_snoc w [] d h k = both _ true k refl
declared_fit_snoc w (c ∷ ds) d h k = by (declared_as w.program c.values (slice_get w.program.variables c.variable)) h (λ r. declared_fit_snoc w ds d r k)
  where
    by : (b : Bool) → (b && declared_fit w.program ds) ≡ true → (declared_fit w.program ds ≡ true → declared_fit w.program (ds ++ d ∷ []) ≡ true) → (b && declared_fit w.program (ds ++ d ∷ [])) ≡ true
    by true h r = r h
    by false h r = cc

declared_below_snoc : (b : Below) (ds : List Declared) (d : Declared) → declared_below b ds ≡ true → exprs_below b d.values ≡ true → declared_below b (ds ++ d ∷ []) ≡ true
declared_below_snoc b [] d h k = both _ true k refl
declared_below_snoc b (c ∷ ds) d h k = by (exprs_below b c.values) h (λ r. declared_below_snoc b ds d r k)
  where
    by : (z : Bool) → (z && declared_below b ds) ≡ true → (declared_below b ds ≡ true → declared_below b (ds ++ d ∷ []) ≡ true) → (z && declared_below b (ds ++ d ∷ [])) ≡ true
    by true h r = r h
    by false h r = cc

declared_names_snoc : (scope : scoped.Scope) (ds : List Declared) (d : Declared) → declared_names ds scope ≡ true → names_each d.values (declared_behind ds scope) ≡ true → declared_names (ds ++ d ∷ []) scope ≡ true
declared_names_snoc scope [] d h k = both _ true k refl
declared_names_snoc scope (c ∷ ds) d h k = by (names_each c.values scope) h (λ r. declared_names_snoc (c.variable ∷ scope) ds d r k)
  where
    by : (z : Bool) → (z && declared_names ds (c.variable ∷ scope)) ≡ true → (declared_names ds (c.variable ∷ scope) ≡ true → declared_names (ds ++ d ∷ []) (c.variable ∷ scope) ≡ true) → (z && declared_names (ds ++ d ∷ []) (c.variable ∷ scope)) ≡ true
    by true h r = r h
    by false h r = cc

behind_snoc : (scope : scoped.Scope) (ds : List Declared) (d : Declared) → declared_behind (ds ++ d ∷ []) scope ≡ d.variable ∷ declared_behind ds scope
behind_snoc scope [] d = refl
behind_snoc scope (c ∷ ds) d = behind_snoc (c.variable ∷ scope) ds d

numbers_snoc : (ds : List Declared) (d : Declared) → numbers_of (ds ++ d ∷ []) ≡ numbers_of ds ++ d.variable ∷ []
numbers_snoc [] d = refl
numbers_snoc (c ∷ ds) d = ap (λ z. c.variable ∷ z) (numbers_snoc ds d)

declared_nodes_snoc : (w : World) (ds : List Declared) (d : Declared) → declared_nodes w.program (ds ++ d ∷ []) ≡ declared_nodes w.program ds + (declarator_nodes (slice_get w.program.variables d.variable) + exprs_nodes d.values)
declared_nodes_snoc w [] d = omega arith
declared_nodes_snoc w (c ∷ ds) d = omega (arith, declared_nodes_snoc w ds d)

declaration_snoc : (w : World) (e : Env) (ds : List Declared) (e1 : Env) (m : ℕ) (d : Declared) (e2 : Env) (n : ℕ) → GoodDeclaration w e ds e1 m → GoodDeclared w e1 d e2 n → GoodDeclaration w e (ds ++ d ∷ []) e2 (m + n)
declaration_snoc w e ds e1 m d e2 n g h = record {
  inside = inside_trans e e1 e2 g.inside h.inside;
  fits = λ whole. declared_fit_snoc w ds d (g.fits whole) (h.fits whole);
  calls = declared_below_snoc (below w (length e.functions)) ds d g.calls (subst (λ z. exprs_below (below w (length z)) d.values ≡ true) g.inside.functions h.calls);
  named = λ scope covers. declared_names_snoc scope ds d (g.named scope covers) (h.named (declared_behind ds scope) (g.covers scope covers));
  covers = λ scope covers. subst (λ z. Covers z e2) (sym (behind_snoc scope ds d)) (h.covers (declared_behind ds scope) (g.covers scope covers));
  numbers = subst (λ z. Between (length e.variables) z (length e2.variables)) (sym (numbers_snoc ds d))
      (between_append (length e.variables) (length e1.variables) (length e2.variables) (numbers_of ds) (d.variable ∷ []) g.numbers (omega (arith, h.number), omega (arith, h.number, h.one)));
  nodes = declared_nodes_snoc w ds d ∙ (ap (λ k. k + (declarator_nodes (slice_get w.program.variables d.variable) + exprs_nodes d.values)) g.nodes ∙ ap (λ k. m + k) h.nodes);
}

no_declaration : (w : World) (e : Env) → GoodDeclaration w e [] e 0
no_declaration w e = record { inside = inside_refl e; fits = λ whole. refl; calls = refl; named = λ scope covers. refl; covers = λ scope covers. covers; numbers = omega arith; nodes = refl }

abbrev pub IsDeclaration : World → Part (List Declared) → Type 0
IsDeclaration w p = Has w (λ e. Unit {0}) p (GoodDeclaration w)

module _ (w : World) where
  -- a declarator with a sign behind it, and so on
  abbrev pub AreDeclarators : List Judged → Type 0
  AreDeclarators (part ∷ sign ∷ rest) = IsDeclare w part.declare × AreDeclarators rest
  AreDeclarators _ = Unit {0}

  each_has : (e0 : Env) (m : ℕ) (base : Base) (ds : List Declared) (js : List Judged) → AreDeclarators js
      → Has w (λ e. GoodDeclaration w e0 ds e m) (rule.declare_each base ds js) (λ e cs e' n. GoodDeclaration w e0 cs e' (m + n))
  each_has e0 m base ds [] are = has_pure w (λ e. GoodDeclaration w e0 ds e m) ds (λ e cs e' n. GoodDeclaration w e0 cs e' (m + n)) (λ e q core. subst (λ k. GoodDeclaration w e0 ds e k) (sym (add-zero m)) q)
  each_has e0 m base ds (part ∷ []) are = has_pure w (λ e. GoodDeclaration w e0 ds e m) ds (λ e cs e' n. GoodDeclaration w e0 cs e' (m + n)) (λ e q core. subst (λ k. GoodDeclaration w e0 ds e k) (sym (add-zero m)) q)
  each_has e0 m base ds (part ∷ sign ∷ rest) (is, are) =
      has_then w (λ e. GoodDeclaration w e0 ds e m) (part.declare base) (λ d. rule.declare_each base (ds ++ d ∷ []) rest) (GoodDeclared w) (λ e cs e' n. GoodDeclaration w e0 cs e' (m + n))
      (has_if w (λ e. GoodDeclaration w e0 ds e m) (λ e. Unit {0}) (part.declare base) (GoodDeclared w) (GoodDeclared w) (λ e q. tt) (λ e a e' n q core core' f. f) (is base))
      (λ e d n. has_if w (λ e'. GoodDeclaration w e0 ds e m × GoodDeclared w e d e' n) (λ e'. GoodDeclaration w e0 (ds ++ d ∷ []) e' (m + n)) (rule.declare_each base (ds ++ d ∷ []) rest)
      (λ e' cs e2 k. GoodDeclaration w e0 cs e2 ((m + n) + k)) (λ e' cs e2 k. GoodDeclaration w e0 cs e2 (m + (n + k)))
      (λ e' q. declaration_snoc w e0 ds e m d e' n q.0 q.1) (λ e' cs e2 k q core core' g. subst (λ j. GoodDeclaration w e0 cs e2 j) (add_assoc m n k) g)
      (each_has e0 (m + n) base (ds ++ d ∷ []) rest are))

  pub zero_more : (n : ℕ) → 0 + n ≡ n
  zero_more n = omega arith

  typed_has : (constant : Bool) (type : Judged) (js : List Judged) → AreDeclarators js → IsDeclaration w (rule.typed_declaration constant (type ∷ js))
  typed_has constant type js are =
      has_from w (λ e. Unit {0}) (rule.declare_each (rule.based constant type) [] js) (GoodDeclaration w)
      (λ e0. has_if w (λ e. Unit {0} × (e ≡ e0)) (λ e. GoodDeclaration w e0 [] e 0) (rule.declare_each (rule.based constant type) [] js) (λ e cs e' n. GoodDeclaration w e0 cs e' (0 + n)) (λ e cs e' n. GoodDeclaration w e0 cs e' n)
      (λ e q. subst (λ z. GoodDeclaration w e0 [] z 0) (sym q.1) (no_declaration w e0)) (λ e cs e' n q core core' g. subst (λ k. GoodDeclaration w e0 cs e' k) (zero_more n) g)
      (each_has e0 0 (rule.based constant type) [] js are))

  pub constant_has : (first type : Judged) (js : List Judged) → spells (codes "const") first ≡ true → AreDeclarators js → IsDeclaration w (rule.declaration_by (first ∷ type ∷ js))
  constant_has first type js h are = has_true w (λ e. Unit {0}) (spells (codes "const") first) (rule.typed_declaration true (type ∷ js)) (rule.typed_declaration false (first ∷ type ∷ js)) (GoodDeclaration w) h (typed_has true type js are)

  pub plain_has : (type : Judged) (js : List Judged) → spells (codes "const") type ≡ false → AreDeclarators js → IsDeclaration w (rule.declaration_by (type ∷ js))
  plain_has type js h are = has_false w (λ e. Unit {0}) (spells (codes "const") type) (rule.typed_declaration true js) (rule.typed_declaration false (type ∷ js)) (GoodDeclaration w) h (typed_has false type js are)
