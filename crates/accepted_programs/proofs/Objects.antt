-- Objects that come into scope.
use Rattle.std.proofs.Common.{◌≡◌, refl, sym, ap, subst, ◌∙◌, ℕ, zero, suc, ◌+◌, ◌≤◌, add-zero, Bool, true, false, Option, Some, None, List, [], ◌∷◌, ◌++◌, ◌⊎◌, inl, inr, arith, length-append}
use Rattle.std.specs.Prelude.{slice_get, length, is_some, ◌&&◌, if◌then◌else◌, nat_le}
use Rattle.std.specs.Option.{option_or}
use Rattle.std.specs.Str.{bytes_eq}
use Rattle.std.proofs.lemmas.Bool.Decides.{nat_tests}
use Rattle.base_io.specs.declared.place.Place.{Place}
use Rattle.c_values.specs.declared.ops.Ty.{Ty}
use Rattle.c_tree.specs.declared.tree.Variable.{Variable}
use Rattle.c_typing.specs.declared.meaning.Meaning.{Meaning}
use Rattle.c_typing.specs.declared.meaning.Meaning.TheVariants as meaning
use Rattle.c_typing.specs.declared.state.Signature.{Signature}
use Rattle.c_typing.specs.declared.type_fault.TypeFault.TheVariants as fault
use Rattle.c_typing.specs.Scopes.{Scope, find, find_in, declared, declared_in}
use Rattle.c_typing.specs.Parts.{◌>>◌, pure, note_if}
use Rattle.c_typing.specs.Declarations as rule
use Rattle.sound_programs.specs.Sound.{variables_fit, length_fits, first_words_fit}
use Rattle.accepted_programs.proofs.Walk.{World, Env, env, Saw, file_of}
use Rattle.accepted_programs.proofs.Trees.{both}
use Rattle.accepted_programs.proofs.Doing.{Core, Has, outer_of, has_pure, has_note_if, has_looked, has_then}

-- ---- lists

pub get_before : {A : Type 0} (xs ys : List A) (i : ℕ) (x : A) → slice_get xs i ≡ Some x → slice_get (xs ++ ys) i ≡ Some x
get_before [] ys i x h = cc
get_before (y ∷ xs) ys zero x h = h
get_before (y ∷ xs) ys (suc i) x h = get_before xs ys i x h

pub get_last : {A : Type 0} (xs : List A) (x : A) → slice_get (xs ++ x ∷ []) (length xs) ≡ Some x
get_last [] x = refl
get_last (y ∷ xs) x = get_last xs x

pub variables_snoc : (vs : List Variable) (v : Variable) → variables_fit vs ≡ true → length_fits v.length ≡ true → first_words_fit v ≡ true → variables_fit (vs ++ v ∷ []) ≡ true
variables_snoc [] v h l f = both _ _ l (both (first_words_fit v) true f refl)
variables_snoc (u ∷ vs) v h l f = by (length_fits u.length) (first_words_fit u) h (λ r. variables_snoc vs v r l f)
  where
    by : (a b : Bool) → (a && (b && variables_fit vs)) ≡ true → (variables_fit vs ≡ true → variables_fit (vs ++ v ∷ []) ≡ true) → (a && (b && variables_fit (vs ++ v ∷ []))) ≡ true
    by true true h r = r h
    by true false h r = cc
    by false b h r = cc

-- ---- names

-- what is found in a scope with one name more was there, or is the new one
found_in : (name other : List ℕ) (m x : Meaning) (scope : Scope) → find_in other (scope ++ (name, m) ∷ []) ≡ Some x → (find_in other scope ≡ Some x) ⊎ ((find_in other scope ≡ None) × (x ≡ m))
found_in name other m x [] h = by (bytes_eq other name) h
  where
    by : (b : Bool) → (if b then Some m else None) ≡ Some x → (◌≡◌ {A = Option Meaning} None (Some x)) ⊎ ((◌≡◌ {A = Option Meaning} None None) × (x ≡ m))
    by true h = inr (refl, cc)
    by false h = inl h
found_in name other m x (entry ∷ scope) h = by (bytes_eq other entry.0) h (λ r. found_in name other m x scope r)
  where
    by : (b : Bool) → (if b then Some entry.1 else find_in other (scope ++ (name, m) ∷ [])) ≡ Some x
        → (find_in other (scope ++ (name, m) ∷ []) ≡ Some x → (find_in other scope ≡ Some x) ⊎ ((find_in other scope ≡ None) × (x ≡ m)))
        → ((if b then Some entry.1 else find_in other scope) ≡ Some x) ⊎ (((if b then Some entry.1 else find_in other scope) ≡ None) × (x ≡ m))
    by true h r = inl h
    by false h r = r h

-- what is found in a scope is found when there is more behind it
still_in : (other : List ℕ) (x : Meaning) (scope more : Scope) → find_in other scope ≡ Some x → find_in other (scope ++ more) ≡ Some x
still_in other x [] more h = cc
still_in other x (entry ∷ scope) more h = by (bytes_eq other entry.0) h (λ r. still_in other x scope more r)
  where
    by : (b : Bool) → (if b then Some entry.1 else find_in other scope) ≡ Some x → (find_in other scope ≡ Some x → find_in other (scope ++ more) ≡ Some x) → (if b then Some entry.1 else find_in other (scope ++ more)) ≡ Some x
    by true h r = h
    by false h r = r h

still_declared : (name other : List ℕ) (m x : Meaning) (scope : Scope) → find_in other scope ≡ Some x → find_in other (declared_in name m scope) ≡ Some x
still_declared name other m x scope h = by (is_some (find_in name scope))
  where
    by : (b : Bool) → find_in other (if b then scope else scope ++ (name, m) ∷ []) ≡ Some x
    by true = h
    by false = still_in other x scope ((name, m) ∷ []) h

or_some : (o p : Option Meaning) (x : Meaning) → option_or o p ≡ Some x → (o ≡ Some x) ⊎ ((o ≡ None) × (p ≡ Some x))
or_some None p x h = inr (refl, h)
or_some (Some y) p x h = inl h

or_here : (o p : Option Meaning) (x : Meaning) → o ≡ Some x → option_or o p ≡ Some x
or_here o p x h = ap (λ z. option_or z p) h

or_there : (o p : Option Meaning) (x : Meaning) → o ≡ None → p ≡ Some x → option_or o p ≡ Some x
or_there o p x h k = ap (λ z. option_or z p) h ∙ k

no_longer : (name other : List ℕ) (m : Meaning) (scope : Scope) → find_in other (declared_in name m scope) ≡ None → find_in other scope ≡ None
no_longer name other m scope h = by (find_in other scope) refl
  where
    by : (o : Option Meaning) → find_in other scope ≡ o → find_in other scope ≡ None
    by None is = is
    by (Some x) is = absurd (not_both x (find_in other (declared_in name m scope)) h (still_declared name other m x scope is))
      where
        not_both : (x : Meaning) (o : Option Meaning) → o ≡ None → o ≡ Some x → ⊥
        not_both x o h k = cc

pub find_declared : (name other : List ℕ) (m x : Meaning) (scopes : List Scope) → find other (declared name m scopes) ≡ Some x → (find other scopes ≡ Some x) ⊎ (x ≡ m)
find_declared name other m x [] h = inl h
find_declared name other m x (scope ∷ outer) h = by (or_some (find_in other (declared_in name m scope)) (find other outer) x h)
  where
    in_scope : (b : Bool) → find_in other (if b then scope else scope ++ (name, m) ∷ []) ≡ Some x → (find_in other scope ≡ Some x) ⊎ (x ≡ m)
    in_scope true h = inl h
    in_scope false h = elim (found_in name other m x scope h) [ inl g ↦ inl g | inr g ↦ inr g.1 ]

    by : (find_in other (declared_in name m scope) ≡ Some x) ⊎ ((find_in other (declared_in name m scope) ≡ None) × (find other outer ≡ Some x)) → (option_or (find_in other scope) (find other outer) ≡ Some x) ⊎ (x ≡ m)
    by (inl g) = elim (in_scope (is_some (find_in name scope)) g) [ inl k ↦ inl (or_here (find_in other scope) (find other outer) x k) | inr k ↦ inr k ]
    by (inr g) = inl (or_there (find_in other scope) (find other outer) x (no_longer name other m scope g.0) g.1)

pub file_declared : (name other : List ℕ) (m x : Meaning) (scopes : List Scope) → find_in other (file_of scopes) ≡ Some x → find_in other (file_of (declared name m scopes)) ≡ Some x
file_declared name other m x [] h = h
file_declared name other m x (scope ∷ []) h = still_declared name other m x scope h
file_declared name other m x (scope ∷ next ∷ outer) h = h

length_declared : (name : List ℕ) (m : Meaning) (scopes : List Scope) → length (declared name m scopes) ≡ length scopes
length_declared name m [] = refl
length_declared name m (scope ∷ outer) = refl

pub outer_declared : (name : List ℕ) (m : Meaning) (scopes : List Scope) → outer_of (declared name m scopes) ≡ outer_of scopes
outer_declared name m [] = refl
outer_declared name m (scope ∷ outer) = refl

-- with one scope alone that of the file is looked through
single : (other : List ℕ) (scopes : List Scope) (x : Meaning) → length scopes ≡ 1 → find other scopes ≡ Some x → find_in other (file_of scopes) ≡ Some x
single other [] x h k = absurd (omega (arith, h))
single other (scope ∷ []) x h k = elim (or_some (find_in other scope) None x k) [ inl g ↦ g | inr g ↦ absurd (never g.1) ]
  where
    never : ◌≡◌ {A = Option Meaning} None (Some x) → ⊥
    never h = cc
single other (scope ∷ next ∷ outer) x h k = absurd (omega (arith, h))

-- ---- what a new name means

abbrev pub MeaningFits : Env → Meaning → Type 0
MeaningFits e (meaning.Variable x ty size constant) = (v : Variable) × (slice_get e.variables x ≡ Some v) × (v.ty ≡ ty) × (v.length ≡ size)
MeaningFits e (meaning.Function f) = (length e.scopes ≡ 1) × ((g : Signature) × (slice_get e.signatures f ≡ Some g))

abbrev pub with_name : List ℕ → Meaning → Env → Env
with_name name m e = record e { scopes = declared name m e.scopes }

variable_fits : (e : Env) (m : Meaning) (x : ℕ) (ty : Ty) (size : Option ℕ) (constant : Bool) → meaning.Variable x ty size constant ≡ m → MeaningFits e m → (v : Variable) × (slice_get e.variables x ≡ Some v) × (v.ty ≡ ty) × (v.length ≡ size)
variable_fits e m x ty size constant is h = subst (λ z. MeaningFits e z) (sym is) h

core_named : (name : List ℕ) (m : Meaning) (e : Env) → MeaningFits e m → Core e → Core (with_name name m e)
core_named name m e fits core = record {
  variables = λ other x ty size constant h. elim (find_declared name other m (meaning.Variable x ty size constant) e.scopes h) [
    | inl g ↦ core.variables other x ty size constant g
    | inr g ↦ variable_fits e m x ty size constant g fits
  ];
  functions = λ other f h. elim (find_declared name other m (meaning.Function f) e.scopes h) [
    | inl g ↦ let k = core.functions other f g in (file_declared name other m (meaning.Function f) e.scopes k.0, k.1)
    | inr g ↦ let k : MeaningFits e (meaning.Function f) = subst (λ z. MeaningFits e z) (sym g) fits in
        (single other (declared name m e.scopes) (meaning.Function f) (length_declared name m e.scopes ∙ k.0) h, k.1)
  ];
  roles = core.roles;
  objects = core.objects;
  few = core.few;
  open_ = omega (arith, length_declared name m e.scopes, core.open_);
}

abbrev pub with_variable : Variable → Env → Env
with_variable v e = record e { variables = e.variables ++ v ∷ [] }

core_added : (v : Variable) (e : Env) → Core e → length_fits v.length ≡ true → first_words_fit v ≡ true → length e.variables + 1 ≤ 1024 → Core (with_variable v e)
core_added v e core l f few = record {
  variables = λ name x ty size constant h. let u = core.variables name x ty size constant h in (u.0, get_before e.variables (v ∷ []) x u.0 u.1, u.2, u.3);
  functions = core.functions;
  roles = core.roles;
  objects = variables_snoc e.variables v core.objects l f;
  few = omega (arith, length-append e.variables (v ∷ []), few);
  open_ = core.open_;
}

module _ (w : World) where
  pub has_name : (X : Env → Type 0) (name : List ℕ) (m : Meaning) → ((e : Env) → X e → MeaningFits e m) → Has w X (rule.add_name name m) (λ e _ e' n. (n ≡ 0) × (e' ≡ with_name name m e))
  has_name X name m f s = λ some. (
    length_declared name m s.scopes,
    λ ends. (
      record { faultless = ends.faultless; variables = ends.variables; calls = ends.calls; signatures = ends.signatures; defined = ends.defined; file = λ other x h. ends.file other x (file_declared name other m x s.scopes h) },
      λ x core. record { more = 0; core = core_named name m (env s) (f (env s) x) core; nodes = sym (add-zero s.nodes); fits = (refl, refl) },
    ),
  )

  pub has_declared : (X : Env → Type 0) (name : List ℕ) (place : Place) (m : Meaning) → ((e : Env) → X e → MeaningFits e m) → Has w X (rule.declare_name name place m) (λ e _ e' n. (n ≡ 0) × (e' ≡ with_name name m e))
  has_declared X name place m f =
      has_looked w X (rule.is_taken name) (λ taken. note_if taken (fault.Redeclared place) >> rule.add_name name m) (λ e _ e' n. (n ≡ 0) × (e' ≡ with_name name m e))
      (λ taken. has_note_if w (λ e. X e × Saw e (rule.is_taken name) taken) taken (fault.Redeclared place) (rule.add_name name m) (λ e _ e' n. (n ≡ 0) × (e' ≡ with_name name m e))
      (has_name (λ e. (X e × Saw e (rule.is_taken name) taken) × (taken ≡ false)) name m (λ e x. f e x.0.0)))

  has_variable : (X : Env → Type 0) (v : Variable) → ((e : Env) → X e → length e.variables + 1 ≤ 1024) → ((e : Env) → X e → (length_fits v.length ≡ true) × (first_words_fit v ≡ true))
      → Has w X (rule.add_variable v) (λ e x e' n. (n ≡ 0) × (e' ≡ with_variable v e) × (x ≡ length e.variables) × (slice_get w.program.variables x ≡ Some v))
  has_variable X v f l s = λ some. (
    refl,
    λ ends. (
      record { faultless = ends.faultless; variables = λ i u h. ends.variables i u (get_before s.variables (v ∷ []) i u h); calls = ends.calls; signatures = ends.signatures; defined = ends.defined; file = ends.file },
      λ x core. record { more = 0; core = core_added v (env s) core (l (env s) x).0 (l (env s) x).1 (f (env s) x); nodes = sym (add-zero s.nodes); fits = (refl, refl, refl, ends.variables (length s.variables) v (get_last s.variables v)) },
    ),
  )

  not_full : (n : ℕ) → nat_le 1024 n ≡ false → n + 1 ≤ 1024
  not_full n h = grind (arith, nat_tests)

  -- an object that is added
  pub record Added (name : List ℕ) (constant : Bool) (v : Variable) (e : Env) (x : ℕ) (e' : Env) (n : ℕ) : Type 0 where
    pub none : n ≡ 0
    pub number : x ≡ length e.variables
    pub is : e' ≡ with_name name (meaning.Variable x v.ty v.length constant) (with_variable v e)
    pub there : slice_get w.program.variables x ≡ Some v

  pub has_object : (X : Env → Type 0) (name : List ℕ) (place : Place) (constant : Bool) (v : Variable) → ((e : Env) → X e → (length_fits v.length ≡ true) × (first_words_fit v ≡ true))
      → Has w X (rule.add_object name place constant v) (Added name constant v)
  has_object X name place constant v l =
      has_looked w X rule.is_full (λ full. note_if full (fault.TooMany place) >> rule.named_object name place constant v) (Added name constant v)
      (λ full. has_note_if w (λ e. X e × Saw e rule.is_full full) full (fault.TooMany place) (rule.named_object name place constant v) (Added name constant v)
      (has_then w (λ e. (X e × Saw e rule.is_full full) × (full ≡ false)) (rule.add_variable v) (λ x. rule.name_object name place (meaning.Variable x v.ty v.length constant) x)
      (λ e x e' n. (n ≡ 0) × (e' ≡ with_variable v e) × (x ≡ length e.variables) × (slice_get w.program.variables x ≡ Some v)) (Added name constant v)
      (has_variable (λ e. (X e × Saw e rule.is_full full) × (full ≡ false)) v (λ e x. not_full (length e.variables) (ap (λ (z : Env). nat_le 1024 (length z.variables)) (sym x.0.1.same) ∙ (x.0.1.is ∙ x.1))) (λ e x. l e x.0.0))
      (λ e x n. has_then w (λ e1. ((X e × Saw e rule.is_full full) × (full ≡ false)) × ((n ≡ 0) × (e1 ≡ with_variable v e) × (x ≡ length e.variables) × (slice_get w.program.variables x ≡ Some v)))
      (rule.declare_name name place (meaning.Variable x v.ty v.length constant)) (λ _. pure x)
      (λ e1 _ e2 m. (m ≡ 0) × (e2 ≡ with_name name (meaning.Variable x v.ty v.length constant) e1)) (λ e1 y e2 m. Added name constant v e y e2 (n + m))
      (has_declared (λ e1. ((X e × Saw e rule.is_full full) × (full ≡ false)) × ((n ≡ 0) × (e1 ≡ with_variable v e) × (x ≡ length e.variables) × (slice_get w.program.variables x ≡ Some v))) name place (meaning.Variable x v.ty v.length constant)
      (λ e1 q. (v, ap (λ (z : Env). slice_get z.variables x) q.1.1 ∙ (ap (slice_get (e.variables ++ v ∷ [])) q.1.2 ∙ get_last e.variables v), refl, refl)))
      (λ e1 u m. has_pure w (λ e2. (((X e × Saw e rule.is_full full) × (full ≡ false)) × ((n ≡ 0) × (e1 ≡ with_variable v e) × (x ≡ length e.variables) × (slice_get w.program.variables x ≡ Some v))) × ((m ≡ 0) × (e2 ≡ with_name name (meaning.Variable x v.ty v.length constant) e1))) x (λ e2 y e3 k. Added name constant v e y e3 (n + (m + k)))
      (λ e2 q core. record { none = omega (arith, q.0.1.0, q.1.0); number = q.0.1.2; is = q.1.1 ∙ ap (with_name name (meaning.Variable x v.ty v.length constant)) q.0.1.1; there = q.0.1.3 })))))
