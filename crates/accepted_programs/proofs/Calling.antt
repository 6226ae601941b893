-- What the rules make of calls is good.
use Rattle.std.proofs.Common.{◌≡◌, refl, sym, ap, subst, ◌∙◌, ℕ, suc, ◌+◌, add-zero, Bool, true, false, Option, Some, None, List, [], ◌∷◌, ◌++◌, map, arith}
use Rattle.std.specs.Prelude.{slice_get, length, not, ◌&&◌, if◌then◌else◌, ◌==◌}
use Rattle.std.specs.Bool.{Decides}
use Rattle.std.specs.Option.{option_map}
use Rattle.std.specs.Str.{bytes_eq}
use Rattle.std.proofs.lemmas.Slice.Eq.{bytes_eq-Decides}
use Rattle.std.proofs.lemmas.Bool.Decides.{nat_tests}
use Rattle.base_io.specs.declared.place.Place.{Place}
use Rattle.c_values.specs.declared.ops.Ty.{Ty}
use Rattle.c_values.specs.declared.ops.Ty.TheVariants.{U16}
use Rattle.c_tree.specs.declared.tree.Expr.{Expr}
use Rattle.c_tree.specs.declared.tree.ExprKind.TheVariants as kind
use Rattle.c_typing.specs.declared.meaning.Meaning.{Meaning}
use Rattle.c_typing.specs.declared.meaning.Meaning.TheVariants as meaning
use Rattle.c_typing.specs.declared.state.Callee.{Callee}
use Rattle.c_typing.specs.declared.state.Signature.{Signature}
use Rattle.c_typing.specs.declared.state.Role.{Role}
use Rattle.c_typing.specs.declared.state.Role.TheVariants as role
use Rattle.c_typing.specs.declared.type_fault.TypeFault.TheVariants as fault
use Rattle.c_typing.specs.Parts.{◌>>=◌, skip, looked}
use Rattle.c_typing.specs.Scopes.{find}
use Rattle.c_typing.specs.Judged.{Judged, absent}
use Rattle.c_typing.specs.Expressions as rule
use Rattle.sound_programs.specs.Sound.{Typing, typing, result_typing, all_hold, value_if}
use Rattle.sound_programs.specs.Calls.{calls_below, is_below}
use Rattle.sound_programs.specs.Counted.{expr_nodes, sum_of}
use Rattle.sound_programs.specs.Scoped as scoped
use Rattle.sound_programs.specs.Scoped.{names, all_in}
use Rattle.accepted_programs.proofs.Walk.{World, Env, Makes, Saw, SameTypes, below, contains_before, contains_last, makes_pure, makes_if, makes_then, fails, note_if_then, looked_then, either_of}
use Rattle.accepted_programs.proofs.Types.{same_refl}
use Rattle.accepted_programs.proofs.Trees.{AreOf, IsOf, Whole, Good, value, tree, both, good_input, good_output, good_call, GoodArgs, TypedArgs}
use Rattle.accepted_programs.proofs.Values.{RoleFits, Fit, typing_of, GoodExpr, GoodValue, IsExpr, re_count, meant, valued_makes, void_makes, value_makes, converted_makes, element_makes}

-- ---- lists of arguments

pub all_snoc : (bs : List Bool) (b : Bool) → all_hold bs ≡ true → b ≡ true → all_hold (bs ++ b ∷ []) ≡ true
all_snoc [] b h k = both b true k refl
all_snoc (true ∷ bs) b h k = all_snoc bs b h k
all_snoc (false ∷ bs) b h k = cc

map_snoc : {A B : Type 0} (f : A → B) (xs : List A) (x : A) → map f (xs ++ x ∷ []) ≡ map f xs ++ f x ∷ []
map_snoc f [] x = refl
map_snoc f (y ∷ xs) x = ap (λ z. f y ∷ z) (map_snoc f xs x)

pub sum_snoc : (ns : List ℕ) (n : ℕ) → sum_of (ns ++ n ∷ []) ≡ sum_of ns + n
sum_snoc [] n = omega arith
sum_snoc (m ∷ ns) n = omega (arith, sum_snoc ns n)

all_in_snoc : (scope : scoped.Scope) (fs : List (scoped.Scope → Bool)) (f : scoped.Scope → Bool) → all_in scope fs ≡ true → f scope ≡ true → all_in scope (fs ++ f ∷ []) ≡ true
all_in_snoc scope [] f h k = both (f scope) true k refl
all_in_snoc scope (g ∷ fs) f h k = by (g scope) h (λ r. all_in_snoc scope fs f r k)
  where
    by : (b : Bool) → (b && all_in scope fs) ≡ true → (all_in scope fs ≡ true → all_in scope (fs ++ f ∷ []) ≡ true) → (b && all_in scope (fs ++ f ∷ [])) ≡ true
    by true h r = r h
    by false h r = cc

pub length_snoc : {A : Type 0} (xs : List A) (x : A) → length (xs ++ x ∷ []) ≡ length xs + 1
length_snoc [] x = refl
length_snoc (y ∷ xs) x = omega (arith, length_snoc xs x)

module _ (w : World) (e : Env) where
  args_snoc : (xs : List Expr) (x : Expr) (t : Typing) (m n : ℕ) → GoodArgs w e xs m → Good w e t x n → GoodArgs w e (xs ++ x ∷ []) (m + n)
  args_snoc xs x t m n g h = record {
    calls = ap all_hold (map_snoc (calls_below (below w (length e.functions))) xs x) ∙ all_snoc (map (calls_below (below w (length e.functions))) xs) (calls_below (below w (length e.functions)) x) g.calls h.calls;
    named = λ scope covers. ap (all_in scope) (map_snoc names xs x) ∙ all_in_snoc scope (map names xs) (names x) (g.named scope covers) (h.named scope covers);
    nodes = ap sum_of (map_snoc expr_nodes xs x) ∙ (sum_snoc (map expr_nodes xs) (expr_nodes x) ∙ (ap (λ k. k + expr_nodes x) g.nodes ∙ ap (λ k. m + k) h.nodes));
  }

  typed_snoc : (xs : List Expr) (x : Expr) (tys : List Ty) → TypedArgs w e xs tys → ((ty : Ty) → slice_get tys (length xs) ≡ Some ty → Whole w → typing w.program x ≡ value ty) → TypedArgs w e (xs ++ x ∷ []) tys
  typed_snoc [] x [] t h = tt
  typed_snoc [] x (ty ∷ tys) t h = (h ty refl, tt)
  typed_snoc (y ∷ xs) x [] t h = tt
  typed_snoc (y ∷ xs) x (ty ∷ tys) (t, ts) h = (t, typed_snoc xs x tys ts h)

  -- the types of the parameters of what is called
  abbrev pub params_at : Option Signature → List Ty
  params_at None = []
  params_at (Some g) = g.params

  abbrev pub params_in : Option Meaning → List Ty
  params_in (Some (meaning.Function f)) = params_at (slice_get e.signatures f)
  params_in _ = []

  in_signature : (k : ℕ) (o : Option Signature) → rule.parameter_in k o ≡ slice_get (params_at o) k
  in_signature k None = refl
  in_signature k (Some g) = refl

  seen_parameter : (m : Option Meaning) (k : ℕ) (o : Option Ty) → Saw e (rule.parameter_type m k) o → slice_get (params_in m) k ≡ o
  seen_parameter (Some (meaning.Function f)) k o saw =
      sym (in_signature k (slice_get e.signatures f)) ∙ (ap (λ (z : Env). rule.parameter_in k (slice_get z.signatures f)) (sym saw.same) ∙ saw.is)
  seen_parameter (Some (meaning.Variable x ty size constant)) k o saw = saw.is
  seen_parameter None k o saw = saw.is

  -- arguments so far
  pub record Args (m : Option Meaning) (xs : List Expr) (n : ℕ) : Type 0 where
    pub good : GoodArgs w e xs n
    pub typed : TypedArgs w e xs (params_in m)

  -- the next one
  Next : Option Meaning → List Expr → Expr → ℕ → Type 0
  Next m xs x n = Good w e (value x.ty) x n × ((ty : Ty) → slice_get (params_in m) (length xs) ≡ Some ty → x.ty ≡ ty)

  passed_makes : (X : Type 0) (m : Option Meaning) (xs : List Expr) (x : Expr) (n : ℕ) (o : Option Ty) → (X → GoodExpr w e x n) → (X → slice_get (params_in m) (length xs) ≡ o)
      → Makes w e X (rule.passed x o) (λ y k. Next m xs y (n + k))
  unfolding Next
  passed_makes X m xs x n None h k =
      makes_pure w e X x (λ y k. Next m xs y (n + k)) (λ q. (re_count w e (value x.ty) x n (n + 0) (sym (add-zero n)) (h q), λ ty is. absurd (none_some ty (sym (k q) ∙ is))))
    where
      none_some : (ty : Ty) → None ≡ Some ty → ⊥
      none_some ty h = cc
  passed_makes X m xs x n (Some ty) h k =
      makes_if w e X X (rule.converted ty x) (λ y j. (y.ty ≡ ty) × Good w e (value ty) y (n + j)) (λ y j. Next m xs y (n + j)) (λ q. q)
      (λ y j q f. (subst (λ t. Good w e (value t) y (n + j)) (sym f.0) f.1, λ other is. f.0 ∙ one ty other (sym (k q) ∙ is)))
      (converted_makes w e X ty x n h)
    where
      one : (a b : Ty) → Some a ≡ Some b → a ≡ b
      one a b h = cc

  argument_makes : (X : Type 0) (m : Option Meaning) (xs : List Expr) (j : Judged) → (X → Fit w e) → IsExpr w j → Makes w e X (rule.argument m (length xs) j) (Next m xs)
  unfolding Next
  argument_makes X m xs j fit is =
      makes_then w e X (rule.value_of j) (λ x. looked (rule.parameter_type m (length xs)) (rule.passed x)) (GoodExpr w e) (Next m xs)
      (value_makes w e X j fit is)
      (λ x n. looked_then w e (X × GoodExpr w e x n) (rule.parameter_type m (length xs)) (rule.passed x) (λ y k. Next m xs y (n + k))
      (λ o. passed_makes _ m xs x n o (λ q. q.0.1) (λ q. seen_parameter m (length xs) o q.1)))

  -- an expression with a sign behind it, and so on
  abbrev pub ArePairs : List Judged → Type 0
  ArePairs (part ∷ sign ∷ rest) = IsExpr w part × ArePairs rest
  ArePairs _ = Unit {0}

  next_args : (m : Option Meaning) (xs : List Expr) (x : Expr) (k n : ℕ) → Args m xs k → Next m xs x n → Args m (xs ++ x ∷ []) (k + n)
  unfolding Next
  next_args m xs x k n a (g, t) = record {
    good = args_snoc xs x (value x.ty) k n a.good g;
    typed = typed_snoc xs x (params_in m) a.typed (λ ty is whole. g.typed whole ∙ ap value (t ty is));
  }

  re_args : (m : Option Meaning) (xs : List Expr) (k n : ℕ) → k ≡ n → Args m xs k → Args m xs n
  re_args m xs k n h a = subst (λ z. Args m xs z) h a

  pub arguments_make : (X : Type 0) (m : Option Meaning) (xs : List Expr) (js : List Judged) (n : ℕ) → (X → Fit w e) → ArePairs js → (X → Args m xs n) → Makes w e X (rule.arguments m xs js) (λ ys k. Args m ys (n + k))
  unfolding Next
  arguments_make X m xs [] n fit are a = makes_pure w e X xs (λ ys k. Args m ys (n + k)) (λ q. re_args m xs n (n + 0) (sym (add-zero n)) (a q))
  arguments_make X m xs (part ∷ []) n fit are a = makes_pure w e X xs (λ ys k. Args m ys (n + k)) (λ q. re_args m xs n (n + 0) (sym (add-zero n)) (a q))
  arguments_make X m xs (part ∷ sign ∷ rest) n fit (is, are) a =
      makes_then w e X (rule.argument m (length xs) part) (λ x. rule.arguments m (xs ++ x ∷ []) rest) (Next m xs) (λ ys k. Args m ys (n + k))
      (argument_makes X m xs part fit is)
      (λ x k. makes_if w e (X × Next m xs x k) (X × Next m xs x k) (rule.arguments m (xs ++ x ∷ []) rest) (λ ys j. Args m ys ((n + k) + j)) (λ ys j. Args m ys (n + (k + j))) (λ q. q)
      (λ ys j q b. re_args m ys ((n + k) + j) (n + (k + j)) (omega arith) b)
      (arguments_make (X × Next m xs x k) m (xs ++ x ∷ []) rest (n + k) (λ q. fit q.0) are (λ q. next_args m xs x n k (a q.0) q.1)))

  -- ---- what is called

  abbrev pub Below : Option Meaning → List ℕ → Type 0
  Below m name = rule.is_function m ≡ true → (k : ℕ) → rule.place_in 0 e.defined name ≡ Some k → is_below (below w (length e.functions)) k ≡ true

  remember_makes : (X : Type 0) (place : Place) (k : ℕ) → Makes w e X (rule.remember place k) (λ _ n. (n ≡ 0) × (is_below (below w (length e.functions)) k ≡ true))
  remember_makes X place k s = λ some. (
    refl,
    λ ends. (
      record { faultless = ends.faultless; variables = ends.variables; calls = λ c h. ends.calls c (contains_before s.calls _ c h); signatures = ends.signatures; defined = ends.defined; file = ends.file },
      λ x is. record {
        more = 0;
        same = is;
        nodes = sym (add-zero s.nodes);
        fits = (refl, ap (λ (z : Env). is_below (below w (length z.functions)) k) (sym is) ∙ ends.calls (record { caller = length s.functions; callee = k; place = place }) (contains_last s.calls _));
      },
    ),
  )

  seen_definition : (name : List ℕ) (o : Option ℕ) → Saw e (rule.definition_of name) o → rule.place_in 0 e.defined name ≡ o
  seen_definition name o saw = ap (λ (z : Env). rule.place_in 0 z.defined name) (sym saw.same) ∙ saw.is

  same_some : (a b : ℕ) (o : Option ℕ) → o ≡ Some a → o ≡ Some b → a ≡ b
  same_some a b o h k = cc

  none_some : (a : ℕ) (o : Option ℕ) → o ≡ None → o ≡ Some a → ⊥
  none_some a o h k = cc

  begin_makes : (X : Type 0) (name : List ℕ) (place : Place) (m : Option Meaning) → Makes w e X (rule.begin_call name place m) (λ _ n. (n ≡ 0) × Below m name)
  begin_makes X name place m =
      let F : Unit {0} → ℕ → Type 0 = λ _ n. (n ≡ 0) × Below m name in
      either_of w e X (rule.is_function m) (looked (rule.definition_of name) (rule.remember_call place)) skip F
      (looked_then w e _ (rule.definition_of name) (rule.remember_call place) F (λ o. by o))
      (makes_pure w e (X × (rule.is_function m ≡ false)) (tt {0}) F (λ q. (refl, λ yes k is. absurd (not_both (rule.is_function m) q.1 yes))))
    where
      not_both : (b : Bool) → b ≡ false → b ≡ true → ⊥
      not_both b h k = cc

      by : (o : Option ℕ) → Makes w e ((X × (rule.is_function m ≡ true)) × Saw e (rule.definition_of name) o) (rule.remember_call place o) (λ _ n. (n ≡ 0) × Below m name)
      by None = makes_pure w e _ (tt {0}) (λ _ n. (n ≡ 0) × Below m name) (λ q. (refl, λ yes k is. absurd (none_some k _ (seen_definition name None q.1) is)))
      by (Some k) = makes_if w e _ ((X × (rule.is_function m ≡ true)) × Saw e (rule.definition_of name) (Some k)) (rule.remember place k)
          (λ _ n. (n ≡ 0) × (is_below (below w (length e.functions)) k ≡ true)) (λ _ n. (n ≡ 0) × Below m name) (λ q. q)
          (λ a n q f. (f.0, λ yes i is. subst (λ z. is_below (below w (length e.functions)) z ≡ true) (same_some k i _ (seen_definition name (Some k) q.1) is) f.1))
          (remember_makes _ place k)

  -- ---- the call

  place_get : (xs : List (List ℕ)) (name : List ℕ) (j k : ℕ) → rule.place_in j xs name ≡ Some k → (i : ℕ) × (k ≡ j + i) × (slice_get xs i ≡ Some name)
  place_get [] name j k h = absurd (none_some k None refl h)
  place_get (x ∷ xs) name j k h = by (bytes_eq name x) (bytes_eq-Decides name x) h (λ r. place_get xs name (j + 1) k r)
    where
      by : (b : Bool) → Decides b (name ≡ x) → (if b then Some j else rule.place_in (j + 1) xs name) ≡ Some k
          → (rule.place_in (j + 1) xs name ≡ Some k → (i : ℕ) × (k ≡ (j + 1) + i) × (slice_get xs i ≡ Some name)) → (i : ℕ) × (k ≡ j + i) × (slice_get (x ∷ xs) i ≡ Some name)
      by true d h r = (0, same_some k j (Some j) h refl ∙ sym (add-zero j), ap Some (sym (d.0 refl)))
      by false d h r = let q = r h in (suc q.0, q.1 ∙ omega arith, q.2)

  is_of_same : (k : ℕ) (g last : Signature) → SameTypes g last → IsOf w.program k last → IsOf w.program k g
  is_of_same k g last same is = record { function = is.function; is = is.is; params = subst (λ z. AreOf w.program is.function.params z) (sym same.params) is.params; result = is.result ∙ sym same.result }

  same_signature : (a b : Signature) (o : Option Signature) → o ≡ Some a → o ≡ Some b → a ≡ b
  same_signature a b o h k = cc

  known_function : (name : List ℕ) (f k : ℕ) (g : Signature) → Fit w e → find name e.scopes ≡ Some (meaning.Function f) → slice_get e.signatures f ≡ Some g
      → rule.place_in 0 e.defined name ≡ Some k → Whole w → IsOf w.program k g
  known_function name f k g fit found is at whole =
      let known = (fit.signatures f g is).0 in
      let q = place_get e.defined name 0 k at in
      let here : slice_get w.defined k ≡ Some name = ap (slice_get w.defined) (q.1 ∙ omega arith) ∙ (ap (λ z. slice_get z q.0) (sym fit.defined) ∙ q.2) in
      is_of_same k g known.last known.same (whole k f name known.last here (fit.functions name f found).0 known.is)

  -- what is called, as it is seen
  pub record Calls (name : List ℕ) (f : ℕ) (xs : List Expr) (n : ℕ) : Type 0 where
    pub fit : Fit w e
    pub found : find name e.scopes ≡ Some (meaning.Function f)
    pub lower : Below (Some (meaning.Function f)) name
    pub args : Args (Some (meaning.Function f)) xs n

  params_of : (f : ℕ) (g : Signature) → slice_get e.signatures f ≡ Some g → params_in (Some (meaning.Function f)) ≡ g.params
  params_of f g is = ap params_at is

  -- what is called, with its signature
  pub record Seen (name : List ℕ) (f : ℕ) (xs : List Expr) (n : ℕ) (result : Option Ty) (r : Role) : Type 0 where
    pub calls : Calls name f xs n
    pub signature : Signature
    pub is : slice_get e.signatures f ≡ Some signature
    pub count : length xs ≡ length signature.params
    pub gives : signature.result ≡ result
    pub known : signature.role ≡ r

  call_node_makes : (X : Type 0) (place : Place) (k : ℕ) (o : Option Ty) (xs : List Expr) (n : ℕ)
      → (X → (g : Signature) × (Whole w → IsOf w.program k g) × TypedArgs w e xs g.params × (length xs ≡ length g.params) × (is_below (below w (length e.functions)) k ≡ true) × GoodArgs w e xs n × (g.result ≡ o))
      → Makes w e X (rule.call_node place o k xs) (λ v m. GoodValue w e v (n + m))
  call_node_makes X place k None xs n h =
      void_makes w e X place (kind.Call k xs) (λ v m. GoodValue w e v (n + m))
      (λ q. let z = h q in re_count w e (Some None) (tree place U16 (kind.Call k xs)) (1 + n) (n + 1) (omega arith)
      (good_call w e place k z.0 xs U16 (Some None) n z.1 z.2 z.3 z.4 (ap (result_typing U16) z.6) z.5))
  call_node_makes X place k (Some ty) xs n h =
      valued_makes w e X place ty (kind.Call k xs) (λ v m. GoodValue w e v (n + m))
      (λ q. let z = h q in re_count w e (value ty) (tree place ty (kind.Call k xs)) (1 + n) (n + 1) (omega arith)
      (good_call w e place k z.0 xs ty (value ty) n z.1 z.2 z.3 z.4 (ap (result_typing ty) z.6 ∙ ap (λ b. value_if b ty) (same_refl ty)) z.5))

  defined_makes : (X : Type 0) (name : List ℕ) (place : Place) (f : ℕ) (xs : List Expr) (n : ℕ) (result : Option Ty) (r : Role) (o : Option ℕ)
      → (X → Seen name f xs n result r × Saw e (rule.definition_of name) o)
      → Makes w e X (rule.call_defined place result xs o) (λ v m. GoodValue w e v (n + m))
  defined_makes X name place f xs n result r None h = fails w e X (fault.Unknown place) (absent place) (λ v m. GoodValue w e v (n + m))
  defined_makes X name place f xs n result r (Some k) h =
      call_node_makes X place k result xs n
      (λ q. let z = (h q).0 in let at = seen_definition name (Some k) (h q).1 in (
        z.signature,
        λ whole. known_function name f k z.signature z.calls.fit z.calls.found z.is at whole,
        subst (λ t. TypedArgs w e xs t) (params_of f z.signature z.is) z.calls.args.typed,
        z.count,
        z.calls.lower refl k at,
        z.calls.args.good,
        z.gives,
      ))

  no_args : (xs : List Expr) → length xs ≡ 0 → xs ≡ []
  no_args [] h = refl
  no_args (x ∷ xs) h = absurd (omega (arith, h))

  none_is_one : ◌≡◌ {A = ℕ} 0 1 → ⊥
  none_is_one h = omega (arith, h)

  two_are_one : (k : ℕ) → suc (suc k) ≡ 1 → ⊥
  two_are_one k h = omega (arith, h)

  only : (b : Bool) → (b && true) ≡ true → b ≡ true
  only true h = refl
  only false h = h

  output_makes : (X : Type 0) (place : Place) (xs : List Expr) (n : ℕ) → (X → TypedArgs w e xs (U16 ∷ []) × GoodArgs w e xs n × (length xs ≡ 1))
      → Makes w e X (rule.output_node place xs) (λ v m. GoodValue w e v (n + m))
  output_makes X place [] n h = makes_pure w e X (absent place) (λ v m. GoodValue w e v (n + m)) (λ q. absurd (none_is_one (h q).2))
  output_makes X place (x ∷ []) n h =
      void_makes w e X place (kind.Output x) (λ v m. GoodValue w e v (n + m))
      (λ q. let z = h q in re_count w e (Some None) (tree place U16 (kind.Output x)) (1 + expr_nodes x) (n + 1) (omega (arith, z.1.nodes))
      (good_output w e place x (expr_nodes x) (record { typed = z.0.0; calls = only (calls_below (below w (length e.functions)) x) z.1.calls; named = λ scope covers. only (names x scope) (z.1.named scope covers); nodes = refl })))
  output_makes X place (x ∷ y ∷ xs) n h = makes_pure w e X (absent place) (λ v m. GoodValue w e v (n + m)) (λ q. absurd (two_are_one (length xs) (h q).2))

  -- by how the function is known
  as_makes : (X : Type 0) (name : List ℕ) (place : Place) (f : ℕ) (xs : List Expr) (n : ℕ) (result : Option Ty) (r : Role)
      → (X → Seen name f xs n result r) → Makes w e X (rule.call_as name place result xs r) (λ v m. GoodValue w e v (n + m))
  as_makes X name place f xs n result role.Input h =
      valued_makes w e X place U16 kind.Input (λ v m. GoodValue w e v (n + m))
      (λ q. let z = h q in let none : z.signature.params ≡ [] = subst (λ r. RoleFits r z.signature.params) z.known (z.calls.fit.signatures f z.signature z.is).1 in
      let empty : xs ≡ [] = no_args xs (z.count ∙ ap length none) in
      re_count w e (value U16) (tree place U16 kind.Input) 1 (n + 1) (omega (arith, subst (λ ys. sum_of (map expr_nodes ys) ≡ n) empty z.calls.args.good.nodes)) (good_input w e place))
  as_makes X name place f xs n result role.Output h =
      output_makes X place xs n
      (λ q. let z = h q in let one : z.signature.params ≡ U16 ∷ [] = subst (λ r. RoleFits r z.signature.params) z.known (z.calls.fit.signatures f z.signature z.is).1 in
      (subst (λ t. TypedArgs w e xs t) (params_of f z.signature z.is ∙ one) z.calls.args.typed, z.calls.args.good, z.count ∙ ap length one))
  as_makes X name place f xs n result role.Declared h =
      looked_then w e X (rule.definition_of name) (rule.call_defined place result xs) (λ v m. GoodValue w e v (n + m))
      (λ o. defined_makes (X × Saw e (rule.definition_of name) o) name place f xs n result role.Declared o (λ q. (h q.0, q.1)))
  as_makes X name place f xs n result role.Defined h =
      looked_then w e X (rule.definition_of name) (rule.call_defined place result xs) (λ v m. GoodValue w e v (n + m))
      (λ o. defined_makes (X × Saw e (rule.definition_of name) o) name place f xs n result role.Defined o (λ q. (h q.0, q.1)))

  counts : (a b : ℕ) → not (a == b) ≡ false → a ≡ b
  counts a b h = grind (arith, nat_tests)

  callee_is : (o : Option Signature) (g : Signature) (c : Callee) → o ≡ Some g → option_map rule.callee o ≡ Some c → rule.callee g ≡ c
  callee_is o g c h k = same_callee (rule.callee g) c (option_map rule.callee o) (ap (option_map rule.callee) h) k
    where
      same_callee : (a b : Callee) (o : Option Callee) → o ≡ Some a → o ≡ Some b → a ≡ b
      same_callee a b o h k = cc

  no_callee : (o : Option Signature) (g : Signature) → o ≡ Some g → option_map rule.callee o ≡ None → ⊥
  no_callee o g h k = not_both (rule.callee g) (option_map rule.callee o) k (ap (option_map rule.callee) h)
    where
      not_both : (g : Callee) (o : Option Callee) → o ≡ None → o ≡ Some g → ⊥
      not_both g o h k = cc

  callee_makes : (X : Type 0) (name : List ℕ) (place : Place) (f : ℕ) (xs : List Expr) (n : ℕ) (o : Option Callee)
      → (X → Calls name f xs n × (option_map rule.callee (slice_get e.signatures f) ≡ o)) → Makes w e X (rule.call_function name place xs o) (λ v m. GoodValue w e v (n + m))
  callee_makes X name place f xs n None h =
      makes_pure w e X (absent place) (λ v m. GoodValue w e v (n + m))
      (λ q. let z = h q in let g = (z.0.fit.functions name f z.0.found).1 in absurd (no_callee (slice_get e.signatures f) g.0 g.1 z.1))
  callee_makes X name place f xs n (Some c) h =
      note_if_then w e X (not (length xs == c.arity)) (fault.WrongArgs place) (rule.call_as name place c.result xs c.role) (λ v m. GoodValue w e v (n + m))
      (as_makes (X × (not (length xs == c.arity) ≡ false)) name place f xs n c.result c.role
      (λ q. let z = h q.0 in let g = (z.0.fit.functions name f z.0.found).1 in let is : rule.callee g.0 ≡ c = callee_is (slice_get e.signatures f) g.0 c g.1 z.1 in
      record { calls = z.0; signature = g.0; is = g.1; count = counts (length xs) c.arity q.1 ∙ sym (ap (λ (y : Callee). y.arity) is); gives = ap (λ (y : Callee). y.result) is; known = ap (λ (y : Callee). y.role) is }))

  seen_callee : (f : ℕ) (c : Option Callee) → Saw e (rule.callee_at f) c → option_map rule.callee (slice_get e.signatures f) ≡ c
  seen_callee f c saw = ap (λ (z : Env). option_map rule.callee (slice_get z.signatures f)) (sym saw.same) ∙ saw.is

  made_makes : (X : Type 0) (name : List ℕ) (place : Place) (m : Option Meaning) (xs : List Expr) (n : ℕ)
      → (X → Fit w e × Saw e (rule.meaning_at name) m × Below m name × Args m xs n) → Makes w e X (rule.call_made name place m xs) (λ v k. GoodValue w e v (n + k))
  made_makes X name place None xs n h = fails w e X (fault.Unknown place) (absent place) (λ v k. GoodValue w e v (n + k))
  made_makes X name place (Some (meaning.Variable x ty size constant)) xs n h = fails w e X (fault.WrongArgs place) (absent place) (λ v k. GoodValue w e v (n + k))
  made_makes X name place (Some (meaning.Function f)) xs n h =
      looked_then w e X (rule.callee_at f) (rule.call_function name place xs) (λ v k. GoodValue w e v (n + k))
      (λ c. callee_makes (X × Saw e (rule.callee_at f) c) name place f xs n c
      (λ q. let z = h q.0 in (record { fit = z.0; found = meant e name (meaning.Function f) z.1; lower = z.2; args = z.3 }, seen_callee f c q.1)))

  no_args_yet : (m : Option Meaning) → Args m [] 0
  no_args_yet m = record { good = record { calls = refl; named = λ scope covers. refl; nodes = refl }; typed = tt }

  pub call_makes : (X : Type 0) (name : Judged) (parts : List Judged) (m : Option Meaning) → (X → Fit w e × Saw e (rule.meaning_at name.text) m) → ArePairs parts
      → Makes w e X (rule.call_by name parts m) (GoodValue w e)
  call_makes X name parts m h are =
      makes_then w e X (rule.begin_call name.text name.place m) (λ _. rule.arguments m [] parts >>= rule.call_made name.text name.place m) (λ _ n. (n ≡ 0) × Below m name.text) (GoodValue w e)
      (begin_makes X name.text name.place m)
      (λ u n. makes_then w e (X × ((n ≡ 0) × Below m name.text)) (rule.arguments m [] parts) (rule.call_made name.text name.place m) (λ ys k. Args m ys (0 + k)) (λ v k. GoodValue w e v (n + k))
      (arguments_make (X × ((n ≡ 0) × Below m name.text)) m [] parts 0 (λ q. (h q.0).0) are (λ q. no_args_yet m))
      (λ ys k. makes_if w e ((X × ((n ≡ 0) × Below m name.text)) × Args m ys (0 + k)) ((X × ((n ≡ 0) × Below m name.text)) × Args m ys (0 + k)) (rule.call_made name.text name.place m ys)
      (λ v j. GoodValue w e v ((0 + k) + j)) (λ v j. GoodValue w e v (n + (k + j))) (λ q. q)
      (λ v j q g. re_count w e (typing_of v) v.tree ((0 + k) + j) (n + (k + j)) (omega (arith, q.0.1.0)) g)
      (made_makes ((X × ((n ≡ 0) × Below m name.text)) × Args m ys (0 + k)) name.text name.place m ys (0 + k) (λ q. ((h q.0.0).0, (h q.0.0).1, q.0.1.1, q.1)))))

  pub element_by_makes : (X : Type 0) (name index : Judged) (rest : List Judged) (m : Option Meaning) → (X → Fit w e × Saw e (rule.meaning_at name.text) m) → IsExpr w index
      → Makes w e X (rule.element_by name (index ∷ rest) m) (GoodValue w e)
  element_by_makes X name index rest m h is =
      makes_then w e X (rule.value_of index) (rule.element_value name.place m) (GoodExpr w e) (GoodValue w e)
      (value_makes w e X index (λ q. (h q).0) is)
      (λ i n. element_makes w e (X × GoodExpr w e i n) name.text name.place m i n (λ q. ((h q.0).0, (h q.0).1, q.1)))
