-- What the rules of the objects of the file make is good, where it is of their parts.
use Rattle.std.proofs.Common.{◌≡◌, refl, sym, ap, subst, ◌∙◌, ℕ, suc, ◌+◌, ◌≤◌, add-zero, add_assoc, append-nil, append_assoc, Bool, true, false, Option, Some, None, List, [], ◌∷◌, ◌++◌, inl, inr, arith}
use Rattle.std.specs.Prelude.{slice_get, length, nat_le, nat_lt, ◌^◌, ◌&&◌}
use Rattle.std.proofs.lemmas.Bool.Decides.{nat_tests}
use Rattle.c_values.specs.declared.ops.Ty.{Ty}
use Rattle.c_tree.specs.declared.tree.Expr.{Expr}
use Rattle.c_tree.specs.declared.tree.Variable.{Variable}
use Rattle.c_tree.specs.declared.tree.Function.{Function}
use Rattle.c_tree.specs.declared.tree.Program.{Program}
use Rattle.c_typing.specs.declared.meaning.Meaning.{Meaning}
use Rattle.c_typing.specs.declared.meaning.Meaning.TheVariants as meaning
use Rattle.c_typing.specs.declared.state.Signature.{Signature}
use Rattle.c_typing.specs.declared.value.Base.{Base}
use Rattle.c_typing.specs.declared.type_fault.TypeFault.TheVariants as fault
use Rattle.c_typing.specs.Parts.{Part, ◌>>=◌, ◌>>◌, skip, uncounted}
use Rattle.c_typing.specs.Scopes.{Scope, find, find_in, declared}
use Rattle.c_typing.specs.Constants.{constant_of}
use Rattle.c_typing.specs.Judged.{Judged}
use Rattle.c_typing.specs.Declarations as rule
use Rattle.sound_programs.specs.Sound as sound
use Rattle.sound_programs.specs.Sound.{capacity, length_fits, words_fit, first_words_fit}
use Rattle.sound_programs.specs.Calls.{functions_below}
use Rattle.sound_programs.specs.Counted.{functions_nodes}
use Rattle.sound_programs.specs.Scoped.{functions_scoped, globals_from, introduced}
use Rattle.accepted_programs.proofs.Walk.{World, Env, Makes, file_of, makes_pure, makes_if, makes_then, fails, makes_uncounted}
use Rattle.accepted_programs.proofs.Trees.{Whole, AreOf, both}
use Rattle.accepted_programs.proofs.Words.{constant_word}
use Rattle.accepted_programs.proofs.Values.{Fit, IsExpr}
use Rattle.accepted_programs.proofs.Calling.{length_snoc}
use Rattle.accepted_programs.proofs.Doing.{Has, has_pure, has_if, has_then, has_given}
use Rattle.accepted_programs.proofs.Objects.{Added, has_object, find_declared, get_before, get_last, file_declared}
use Rattle.accepted_programs.proofs.Declaring.{Between, FewValues, AreScalar, AreListed, scalar_makes, list_makes, length_makes, begin_makes}

-- ---- what is known between two declarations of the file

abbrev pub names_in : List Function → List (List ℕ)
names_in [] = []
names_in (f ∷ fs) = f.name ∷ names_in fs

-- a function has the types that its name has in the file
pub record Signed (p : Program) (e : Env) (fn : Function) : Type 0 where
  pub number : ℕ
  pub signature : Signature
  pub named : find_in fn.name (file_of e.scopes) ≡ Some (meaning.Function number)
  pub is : slice_get e.signatures number ≡ Some signature
  pub params : AreOf p fn.params signature.params
  pub result : fn.result ≡ signature.result

pub record File (w : World) (e : Env) (n : ℕ) : Type 0 where
  pub one : length e.scopes ≡ 1
  pub globals : (name : List ℕ) (x : ℕ) (ty : Ty) (size : Option ℕ) (constant : Bool) → find name e.scopes ≡ Some (meaning.Variable x ty size constant) → (v : Variable) × (slice_get e.variables x ≡ Some v) × (v.global ≡ true)
  pub fits : Whole w → sound.functions_fit w.program e.functions ≡ true
  pub calls : functions_below w.heights 0 e.functions ≡ true
  pub scoped_ : functions_scoped (globals_from 0 w.program.variables) e.functions ≡ true
  pub numbers : Between 0 (introduced e.functions) (length e.variables)
  pub nodes : functions_nodes w.program e.functions ≡ n
  pub few : length e.functions ≤ 256
  pub signed : (k : ℕ) (fn : Function) → slice_get e.functions k ≡ Some fn → Signed w.program e fn

-- so many functions more, of these names
pub record Files (w : World) (names : List (List ℕ)) (m : ℕ) (e e' : Env) (n : ℕ) : Type 0 where
  pub file : File w e' (m + n)
  pub names_ : names_in e'.functions ≡ names_in e.functions ++ names

abbrev pub IsFiled : World → List (List ℕ) → Part (Unit {0}) → Type 0
IsFiled w names p = (m : ℕ) → Has w (λ e. File w e m) p (λ e _ e' n. Files w names m e e' n)

pub between_more : (low high more : ℕ) (xs : List ℕ) → high ≤ more → Between low xs high → Between low xs more
between_more low high more [] h k = omega (arith, h, k)
between_more low high more (x ∷ xs) h k = (k.0, between_more (suc x) high more xs h k.1)

-- ---- objects of the file

module _ (w : World) where
  abbrev IsSmall : ℕ → ℕ → Type 0
  IsSmall k n = (n ≡ 0) × (nat_lt k (2 ^ 16) ≡ true)

  word_makes : (e : Env) (X : Type 0) (x : Expr) (o : Option ℕ) → ((k : ℕ) → o ≡ Some k → nat_lt k (2 ^ 16) ≡ true) → Makes w e X (rule.word_from x o) IsSmall
  word_makes e X x None h = let none : ℕ = 0 in fails w e X (fault.NotConst x.place) none IsSmall
  word_makes e X x (Some k) h = makes_pure w e X k IsSmall (λ q. (refl, h k refl))

  words_snoc : (ws : List ℕ) (k : ℕ) → words_fit ws ≡ true → nat_lt k (2 ^ 16) ≡ true → words_fit (ws ++ k ∷ []) ≡ true
  words_snoc [] k h l = both (nat_lt k (2 ^ 16)) true l refl
  words_snoc (x ∷ ws) k h l = by (nat_lt x (2 ^ 16)) h (λ r. words_snoc ws k r l)
    where
      by : (b : Bool) → (b && words_fit ws) ≡ true → (words_fit ws ≡ true → words_fit (ws ++ k ∷ []) ≡ true) → (b && words_fit (ws ++ k ∷ [])) ≡ true
      by true h r = r h
      by false h r = cc

  onto_makes : (e : Env) (X : Type 0) (done : List ℕ) (xs : List Expr) → (X → words_fit done ≡ true) → Makes w e X (rule.words_onto done xs) (λ ws n. (n ≡ 0) × (length ws ≡ length done + length xs) × (words_fit ws ≡ true))
  onto_makes e X done [] h = makes_pure w e X done (λ ws n. (n ≡ 0) × (length ws ≡ length done + 0) × (words_fit ws ≡ true)) (λ q. (refl, sym (add-zero (length done)), h q))
  onto_makes e X done (x ∷ xs) h =
      makes_then w e X (rule.word_from x (constant_of x)) (λ k. rule.words_onto (done ++ k ∷ []) xs) IsSmall (λ ws n. (n ≡ 0) × (length ws ≡ length done + suc (length xs)) × (words_fit ws ≡ true))
      (word_makes e X x (constant_of x) (λ k is. constant_word x k is))
      (λ k n. makes_if w e (X × IsSmall k n) (X × IsSmall k n) (rule.words_onto (done ++ k ∷ []) xs) (λ ws m. (m ≡ 0) × (length ws ≡ length (done ++ k ∷ []) + length xs) × (words_fit ws ≡ true)) (λ ws m. (n + m ≡ 0) × (length ws ≡ length done + suc (length xs)) × (words_fit ws ≡ true)) (λ q. q)
      (λ ws m q f. (sums n m q.1.0 f.0, f.1 ∙ lengths (length (done ++ k ∷ [])) (length done) (length xs) (length_snoc done k), f.2)) (onto_makes e (X × IsSmall k n) (done ++ k ∷ []) xs (λ q. words_snoc done k (h q.0) q.1.1)))
    where
      sums : (n m : ℕ) → n ≡ 0 → m ≡ 0 → n + m ≡ 0
      sums n m h k = omega (arith, h, k)

      lengths : (a b c : ℕ) → a ≡ b + 1 → a + c ≡ b + suc c
      lengths a b c h = omega (arith, h)

  words_make : (ty : Ty) (most : ℕ) (values : Part (List Expr)) → ((e : Env) → Makes w e (Fit w e) values (FewValues w e ty most)) → (e : Env) → Makes w e (Fit w e) (rule.words_from values) (λ ws n. (n ≡ 0) × (length ws ≤ most) × (words_fit ws ≡ true))
  words_make ty most values h e =
      makes_then w e (Fit w e) (uncounted values) (rule.words_onto []) (λ xs n. (n ≡ 0) × ((m : ℕ) × FewValues w e ty most xs m)) (λ ws n. (n ≡ 0) × (length ws ≤ most) × (words_fit ws ≡ true))
      (makes_uncounted w e (Fit w e) values (FewValues w e ty most) (h e))
      (λ xs n. makes_if w e (Fit w e × ((n ≡ 0) × ((m : ℕ) × FewValues w e ty most xs m))) (Fit w e × ((n ≡ 0) × ((m : ℕ) × FewValues w e ty most xs m))) (rule.words_onto [] xs)
      (λ ws m. (m ≡ 0) × (length ws ≡ 0 + length xs) × (words_fit ws ≡ true)) (λ ws m. (n + m ≡ 0) × (length ws ≤ most) × (words_fit ws ≡ true)) (λ q. q)
      (λ ws m q f. (sums n m q.1.0 f.0, bound (length ws) (length xs) most f.1 q.1.1.1.few, f.2)) (onto_makes e _ [] xs (λ q. refl)))
    where
      sums : (n m : ℕ) → n ≡ 0 → m ≡ 0 → n + m ≡ 0
      sums n m h k = omega (arith, h, k)

      bound : (a b c : ℕ) → a ≡ 0 + b → b ≤ c → a ≤ c
      bound a b c h k = omega (arith, h, k)

  -- an object of the file leaves the functions as they are
  filed_object : (name : List ℕ) (constant : Bool) (v : Variable) (e : Env) (x : ℕ) (e' : Env) (m n : ℕ) → v.global ≡ true → File w e m → Added w name constant v e x e' n → Files w [] m e e' n
  filed_object name constant v e x e' m n global f a =
      subst (λ z. Files w [] m e z n) (sym a.is) (record {
        file = record {
          one = same_length name (meaning.Variable x v.ty v.length constant) e.scopes ∙ f.one;
          globals = λ other y ty size c h. elim (find_declared name other (meaning.Variable x v.ty v.length constant) (meaning.Variable y ty size c) e.scopes h) [
            | inl g ↦ let u = f.globals other y ty size c g in (u.0, get_before e.variables (v ∷ []) y u.0 u.1, u.2)
            | inr g ↦ (v, ap (slice_get (e.variables ++ v ∷ [])) (same_number y x ty v.ty size v.length c constant g ∙ a.number) ∙ get_last e.variables v, global)
          ];
          fits = f.fits;
          calls = f.calls;
          scoped_ = f.scoped_;
          numbers = between_more 0 (length e.variables) (length (e.variables ++ v ∷ [])) (introduced e.functions) (omega (arith, length_snoc e.variables v)) f.numbers;
          nodes = f.nodes ∙ (sym (add-zero m) ∙ ap (λ k. m + k) (sym a.none));
          few = f.few;
          signed = λ k fn h. let q = f.signed k fn h in record { number = q.number; signature = q.signature; named = file_declared name fn.name (meaning.Variable x v.ty v.length constant) (meaning.Function q.number) e.scopes q.named; is = q.is; params = q.params; result = q.result };
        };
        names_ = sym (append-nil (names_in e.functions));
      })
    where
      same_number : (y x : ℕ) (ty uy : Ty) (s t : Option ℕ) (c d : Bool) → meaning.Variable y ty s c ≡ meaning.Variable x uy t d → y ≡ x
      same_number y x ty uy s t c d h = cc

      same_length : (name : List ℕ) (m : Meaning) (scopes : List Scope) → length (declared name m scopes) ≡ length scopes
      same_length name m [] = refl
      same_length name m (scope ∷ outer) = refl

  abbrev pub global_variable : Base → Option ℕ → List ℕ → Variable
  global_variable base size ws = record { ty = base.ty; length = size; first = ws; global = true }

  few_test : (a b : ℕ) → a ≤ b → nat_le a b ≡ true
  few_test a b h = grind (arith, nat_tests)

  made_has : (base : Base) (name : Judged) (size : Option ℕ) (ws : List ℕ) (m n : ℕ) → Has w (λ e. File w e m × (n ≡ 0) × (length ws ≤ capacity size) × (length_fits size ≡ true) × (words_fit ws ≡ true)) (rule.made_global base name size ws) (λ e _ e' k. Files w [] m e e' (n + k))
  made_has base name size ws m n =
      has_then w (λ e. File w e m × (n ≡ 0) × (length ws ≤ capacity size) × (length_fits size ≡ true) × (words_fit ws ≡ true)) (rule.add_object name.text name.place base.constant (global_variable base size ws)) (λ _. skip) (Added w name.text base.constant (global_variable base size ws)) (λ e _ e' k. Files w [] m e e' (n + k))
      (has_object w (λ e. File w e m × (n ≡ 0) × (length ws ≤ capacity size) × (length_fits size ≡ true) × (words_fit ws ≡ true)) name.text name.place base.constant (global_variable base size ws) (λ e q. (q.3, both (nat_le (length ws) (capacity size)) (words_fit ws) (few_test (length ws) (capacity size) q.2) q.4)))
      (λ e x k. has_pure w (λ e'. (File w e m × (n ≡ 0) × (length ws ≤ capacity size) × (length_fits size ≡ true) × (words_fit ws ≡ true)) × Added w name.text base.constant (global_variable base size ws) e x e' k) (tt {0}) (λ e' _ e2 j. Files w [] m e e2 (n + (k + j)))
      (λ e' q core. subst (λ z. Files w [] m e e' z) (sums n k q.0.1) (filed_object name.text base.constant (global_variable base size ws) e x e' m k refl q.0.0 q.1)))
    where
      sums : (n k : ℕ) → n ≡ 0 → k ≡ n + (k + 0)
      sums n k h = omega (arith, h)

  -- behind the length: an initialiser of this many values at most
  initialised_has : (base : Base) (name : Judged) (size : Option ℕ) (values : Part (List Expr)) (m n : ℕ) → ((e : Env) → Makes w e (Fit w e) values (FewValues w e base.ty (capacity size)))
      → Has w (λ e. File w e m × ((n ≡ 0) × (length_fits size ≡ true))) (rule.begin_initialiser name.text >> (rule.words_from values >>= rule.made_global base name size)) (λ e _ e' k. Files w [] m e e' (n + k))
  initialised_has base name size values m n h =
      has_given w (λ e. File w e m × ((n ≡ 0) × (length_fits size ≡ true))) (rule.begin_initialiser name.text) (λ _. rule.words_from values >>= rule.made_global base name size) (λ e _ i. i ≡ 0) (λ e _ e' k. Files w [] m e e' (n + k))
      (λ e. begin_makes w name.text e (Fit w e))
      (λ u i. has_given w (λ e. (File w e m × ((n ≡ 0) × (length_fits size ≡ true))) × (i ≡ 0)) (rule.words_from values) (rule.made_global base name size) (λ e ws j. (j ≡ 0) × (length ws ≤ capacity size) × (words_fit ws ≡ true)) (λ e _ e' k. Files w [] m e e' (n + (i + k)))
      (words_make base.ty (capacity size) values h)
      (λ ws j. has_if w (λ e. ((File w e m × ((n ≡ 0) × (length_fits size ≡ true))) × (i ≡ 0)) × ((j ≡ 0) × (length ws ≤ capacity size) × (words_fit ws ≡ true))) (λ e. File w e m × (j ≡ 0) × (length ws ≤ capacity size) × (length_fits size ≡ true) × (words_fit ws ≡ true)) (rule.made_global base name size ws)
      (λ e _ e' k. Files w [] m e e' (j + k)) (λ e _ e' k. Files w [] m e e' (n + (i + (j + k)))) (λ e q. (q.0.0.0, q.1.0, q.1.1, q.0.0.1.1, q.1.2))
      (λ e a e' k q core core' f. subst (λ z. Files w [] m e e' z) (sums n i j k q.0.0.1.0 q.0.1) f)
      (made_has base name size ws m j)))
    where
      sums : (n i j k : ℕ) → n ≡ 0 → i ≡ 0 → j + k ≡ n + (i + (j + k))
      sums n i j k h f = omega (arith, h, f)

abbrev pub IsGlobal : World → (Base → Part (Unit {0})) → Type 0
IsGlobal w f = (base : Base) → IsFiled w [] (f base)

module _ (w : World) where
  zero_before : (n : ℕ) → 0 + n ≡ n
  zero_before n = omega arith

  scalar_global : (name : Judged) (rest : List Judged) → AreScalar w rest → (base : Base) → IsFiled w [] (rule.declare_global_scalar base name rest)
  scalar_global name rest are base m =
      has_if w (λ e. File w e m) (λ e. File w e m × (◌≡◌ {A = ℕ} 0 0 × (length_fits None ≡ true))) (rule.declare_global_scalar base name rest) (λ e _ e' k. Files w [] m e e' (0 + k)) (λ e _ e' k. Files w [] m e e' k) (λ e q. (q, (refl, refl)))
      (λ e a e' k q core core' f. subst (λ z. Files w [] m e e' z) (zero_before k) f) (initialised_has w base name None (rule.scalar_values base.ty rest) m 0 (λ e. scalar_makes w base.ty rest are e))

  pub global_name : (name : Judged) → IsGlobal w (rule.declare_global_by (name ∷ []))
  global_name name base = scalar_global name [] tt base

  pub global_scalar : (name equals part : Judged) → IsExpr w part → IsGlobal w (rule.declare_global_by (name ∷ equals ∷ part ∷ []))
  global_scalar name equals part is base = scalar_global name (equals ∷ part ∷ []) is base

  pub global_array : (name bracket part close : Judged) (rest : List Judged) → IsExpr w part → AreListed w rest → IsGlobal w (rule.declare_global_by (name ∷ bracket ∷ part ∷ close ∷ rest))
  global_array name bracket part close rest is are base m =
      has_given w (λ e. File w e m) (rule.length_of part) (rule.declare_global_array base name rest) (λ e size n. (n ≡ 0) × (length_fits (Some size) ≡ true)) (λ e _ e' k. Files w [] m e e' k) (λ e. length_makes w part is e)
      (λ size n. initialised_has w base name (Some size) (rule.list_values base.ty size rest) m n (λ e. list_makes w base.ty size rest are e))

  -- a declarator with a sign behind it, and so on
  abbrev pub AreGlobals : List Judged → Type 0
  AreGlobals (part ∷ sign ∷ rest) = IsGlobal w part.declare_global × AreGlobals rest
  AreGlobals _ = Unit {0}

  -- one declaration and others
  pub filed_then : (xs ys : List (List ℕ)) (p q : Part (Unit {0})) → IsFiled w xs p → IsFiled w ys q → IsFiled w (xs ++ ys) (p >> q)
  filed_then xs ys p q f g m =
      has_then w (λ e. File w e m) p (λ _. q) (λ e _ e' n. Files w xs m e e' n) (λ e _ e' n. Files w (xs ++ ys) m e e' n) (f m)
      (λ e u n. has_if w (λ e'. File w e m × Files w xs m e e' n) (λ e'. File w e' (m + n)) q (λ e' _ e2 k. Files w ys (m + n) e' e2 k) (λ e' _ e2 k. Files w (xs ++ ys) m e e2 (n + k)) (λ e' h. h.1.file)
      (λ e' a e2 k h core core' r. record { file = subst (λ z. File w e2 z) (add_assoc m n k) r.file; names_ = r.names_ ∙ (ap (λ z. z ++ ys) h.1.names_ ∙ append_assoc (names_in e.functions) xs ys) })
      (g (m + n)))

  pub filed_nothing : IsFiled w [] skip
  filed_nothing m = has_pure w (λ e. File w e m) (tt {0}) (λ e _ e' n. Files w [] m e e' n) (λ e q core. record { file = subst (λ z. File w e z) (sym (add-zero m)) q; names_ = sym (append-nil (names_in e.functions)) })

  pub each_global : (base : Base) (js : List Judged) → AreGlobals js → IsFiled w [] (rule.declare_each_global base js)
  each_global base [] are = filed_nothing
  each_global base (part ∷ []) are = filed_nothing
  each_global base (part ∷ sign ∷ rest) (is, are) = filed_then [] [] (part.declare_global base) (rule.declare_each_global base rest) (is base) (each_global base rest are)
