-- What a part of the walk makes that changes its surroundings, where all that follows it finds no fault.
use Rattle.std.proofs.Common.{◌≡◌, refl, sym, ap, subst, ◌∙◌, ℕ, suc, ◌+◌, ◌≤◌, add-zero, add_assoc, Bool, true, false, Option, Some, List, [], ◌∷◌, ◌++◌, arith}
use Rattle.std.specs.Prelude.{slice_get, length}
use Rattle.c_values.specs.declared.ops.Ty.{Ty}
use Rattle.c_tree.specs.declared.tree.Variable.{Variable}
use Rattle.c_typing.specs.declared.meaning.Meaning.TheVariants as meaning
use Rattle.c_typing.specs.declared.state.State.{State}
use Rattle.c_typing.specs.declared.state.Signature.{Signature}
use Rattle.c_typing.specs.declared.type_fault.TypeFault.{TypeFault}
use Rattle.c_typing.specs.Scopes.{Scope, find, find_in, closed}
use Rattle.c_typing.specs.Parts.{Part, Got, Gives, go_on, ◌>>=◌, ◌>>◌, pure, either, looked, note, note_if, count}
use Rattle.c_typing.specs.Statements.{close_scope, scoped}
use Rattle.sound_programs.specs.Sound.{variables_fit}
use Rattle.accepted_programs.proofs.Walk.{World, Env, env, Ends, After, Made, Makes, Saw, file_of, after_more, not_empty, makes_if}
use Rattle.accepted_programs.proofs.Values.{RoleFits, Fit}

-- what is known of all that is there
pub record Core (e : Env) : Type 0 where
  pub variables : (name : List ℕ) (x : ℕ) (ty : Ty) (size : Option ℕ) (constant : Bool) → find name e.scopes ≡ Some (meaning.Variable x ty size constant) → (v : Variable) × (slice_get e.variables x ≡ Some v) × (v.ty ≡ ty) × (v.length ≡ size)
  pub functions : (name : List ℕ) (f : ℕ) → find name e.scopes ≡ Some (meaning.Function f) → (find_in name (file_of e.scopes) ≡ Some (meaning.Function f)) × ((g : Signature) × (slice_get e.signatures f ≡ Some g))
  pub roles : (f : ℕ) (g : Signature) → slice_get e.signatures f ≡ Some g → RoleFits g.role g.params
  pub objects : variables_fit e.variables ≡ true
  pub few : length e.variables ≤ 1024
  pub open_ : 1 ≤ length e.scopes

pub fit_of : (w : World) (s : State) → Ends w s → Core (env s) → Fit w (env s)
fit_of w s ends core = record {
  variables = λ name x ty size constant h. let v = core.variables name x ty size constant h in (v.0, ends.variables x v.0 v.1, v.2, v.3);
  functions = λ name f h. let g = core.functions name f h in (ends.file name (meaning.Function f) g.0, g.1);
  signatures = λ f g h. (ends.signatures f g h, core.roles f g h);
  defined = ends.defined;
}

-- so many nodes more, and something of the surroundings behind
pub record Did (before : ℕ) (G : Env → ℕ → Type 0) (s' : State) : Type 0 where
  pub more : ℕ
  pub core : Core (env s')
  pub nodes : s'.nodes ≡ before + more
  pub fits : G (env s') more

abbrev pub Has : {A : Type 0} → World → (Env → Type 0) → Part A → (Env → A → Env → ℕ → Type 0) → Type 0
Has {A} w X p G = (s : State) → After w s (p s) (λ a s'. X (env s) → Core (env s) → Did s.nodes (G (env s) a) s')

module _ (w : World) where
  pub has_pure : {A : Type 0} (X : Env → Type 0) (a : A) (G : Env → A → Env → ℕ → Type 0) → ((e : Env) → X e → Core e → G e a e 0) → Has w X (pure a) G
  has_pure X a G h s = λ some. (refl, λ ends. (ends, λ x core. record { more = 0; core = core; nodes = sym (add-zero s.nodes); fits = h (env s) x core }))

  pub has_if : {A : Type 0} (X Y : Env → Type 0) (p : Part A) (F G : Env → A → Env → ℕ → Type 0) → ((e : Env) → X e → Y e) → ((e : Env) (a : A) (e' : Env) (n : ℕ) → X e → Core e → Core e' → F e a e' n → G e a e' n) → Has w Y p F → Has w X p G
  has_if X Y p F G f k h s =
      after_more w s s (p s) (λ a s'. Y (env s) → Core (env s) → Did s.nodes (F (env s) a) s') (λ a s'. X (env s) → Core (env s) → Did s.nodes (G (env s) a) s') refl (λ z. z)
      (λ a s' q x core. let d = q (f (env s) x) core in record { more = d.more; core = d.core; nodes = d.nodes; fits = k (env s) a (env s') d.more x core d.core d.fits }) (h s)

  pub has_fails : {A : Type 0} (X : Env → Type 0) (f : TypeFault) (a : A) (G : Env → A → Env → ℕ → Type 0) → Has w X (note f >> pure a) G
  has_fails X f a G s = λ some. (refl, λ ends. absurd (not_empty s.faults f ends.faultless))

  pub has_note : {A : Type 0} (X Y : Env → Type 0) (f : TypeFault) (p : Part A) (F G : Env → A → Env → ℕ → Type 0) → Has w Y p F → Has w X (note f >> p) G
  has_note X Y f p F G h s =
      let s1 : State = record s { faults = s.faults ++ f ∷ [] } in
      by s1 (p s1) refl (λ ends. absurd (not_empty s.faults f ends.faultless)) (h s1)
    where
      by : (s1 : State) (g : Got _) → (length s1.scopes ≡ length s.scopes) → (Ends w s1 → ⊥) → After w s1 g (λ a s'. Y (env s1) → Core (env s1) → Did s1.nodes (F (env s1) a) s') → After w s g (λ a s'. X (env s) → Core (env s) → Did s.nodes (G (env s) a) s')
      by s1 (Gives a s') same never q = λ some. let r = q (subst (λ n. 1 ≤ n) (sym same) some) in (r.0 ∙ same, λ ends. absurd (never (r.1 ends).0))

  pub has_note_if : {A : Type 0} (X : Env → Type 0) (b : Bool) (f : TypeFault) (p : Part A) (G : Env → A → Env → ℕ → Type 0) → Has w (λ e. X e × (b ≡ false)) p G → Has w X (note_if b f >> p) G
  has_note_if X true f p G h = has_note X (λ e. X e × (true ≡ false)) f p G G h
  has_note_if X false f p G h = has_if X (λ e. X e × (false ≡ false)) p G G (λ e x. (x, refl)) (λ e a e' n x core core' q. q) h

  pub has_either : {A : Type 0} (X : Env → Type 0) (b : Bool) (p q : Part A) (G : Env → A → Env → ℕ → Type 0) → Has w (λ e. X e × (b ≡ true)) p G → Has w (λ e. X e × (b ≡ false)) q G → Has w X (either b p q) G
  has_either X true p q G h k = has_if X (λ e. X e × (true ≡ true)) p G G (λ e x. (x, refl)) (λ e a e' n x core core' q. q) h
  has_either X false p q G h k = has_if X (λ e. X e × (false ≡ false)) q G G (λ e x. (x, refl)) (λ e a e' n x core core' q. q) k

  pub has_true : {A : Type 0} (X : Env → Type 0) (b : Bool) (p q : Part A) (G : Env → A → Env → ℕ → Type 0) → b ≡ true → Has w X p G → Has w X (either b p q) G
  has_true X b p q G is h = subst (λ c. Has w X (either c p q) G) (sym is) h

  pub has_false : {A : Type 0} (X : Env → Type 0) (b : Bool) (p q : Part A) (G : Env → A → Env → ℕ → Type 0) → b ≡ false → Has w X q G → Has w X (either b p q) G
  has_false X b p q G is h = subst (λ c. Has w X (either c p q) G) (sym is) h

  pub has_looked : {A M : Type 0} (X : Env → Type 0) (look : State → M) (k : M → Part A) (G : Env → A → Env → ℕ → Type 0) → ((m : M) → Has w (λ e. X e × Saw e look m) (k m) G) → Has w X (looked look k) G
  has_looked X look k G h s =
      after_more w s s (k (look s) s) (λ a s'. X (env s) × Saw (env s) look (look s) → Core (env s) → Did s.nodes (G (env s) a) s') (λ a s'. X (env s) → Core (env s) → Did s.nodes (G (env s) a) s') refl (λ z. z)
      (λ a s' q x core. q (x, record { at = s; same = refl; is = refl }) core) (h (look s) s)

  pub has_count : {A : Type 0} (X : Env → Type 0) (n : ℕ) (p : Part A) (G : Env → A → Env → ℕ → Type 0) → Has w X p (λ e a e' m. G e a e' (n + m)) → Has w X (count n >> p) G
  has_count X n p G h s =
      let s1 : State = record s { nodes = s.nodes + n } in
      after_more w s s1 (p s1) (λ a s'. X (env s1) → Core (env s1) → Did s1.nodes (λ e' m. G (env s1) a e' (n + m)) s') (λ a s'. X (env s) → Core (env s) → Did s.nodes (G (env s) a) s') refl (λ z. z)
      (λ a s' q x core. let d = q x core in record { more = n + d.more; core = d.core; nodes = d.nodes ∙ add_assoc s.nodes n d.more; fits = d.fits }) (h s1)

  -- with the surroundings from which it begins
  pub has_from : {A : Type 0} (X : Env → Type 0) (p : Part A) (G : Env → A → Env → ℕ → Type 0) → ((e0 : Env) → Has w (λ e. X e × (e ≡ e0)) p (λ e a e' n. G e0 a e' n)) → Has w X p G
  has_from X p G h s =
      after_more w s s (p s) (λ a s'. X (env s) × (env s ≡ env s) → Core (env s) → Did s.nodes (G (env s) a) s') (λ a s'. X (env s) → Core (env s) → Did s.nodes (G (env s) a) s') refl (λ z. z)
      (λ a s' q x core. q (x, refl) core) (h (env s) s)

  -- ---- one part and another

  then_joined : {A B : Type 0} (X : Env → Type 0) (s : State) (g : Got A) (f : A → Part B) (F : Env → A → Env → ℕ → Type 0) (G : Env → B → Env → ℕ → Type 0)
      → After w s g (λ a s'. X (env s) → Core (env s) → Did s.nodes (F (env s) a) s')
      → ((e : Env) (a : A) (n : ℕ) → Has w (λ e'. X e × F e a e' n) (f a) (λ e' b e2 m. G e b e2 (n + m)))
      → After w s (go_on g f) (λ b s'. X (env s) → Core (env s) → Did s.nodes (G (env s) b) s')
  then_joined {A} {B} X s (Gives a s1) f F G h k = by (f a s1) (λ n. k (env s) a n s1)
    where
      by : (g : Got B) → ((n : ℕ) → After w s1 g (λ b s'. X (env s) × F (env s) a (env s1) n → Core (env s1) → Did s1.nodes (λ e2 m. G (env s) b e2 (n + m)) s')) → After w s g (λ b s'. X (env s) → Core (env s) → Did s.nodes (G (env s) b) s')
      by (Gives b s2) q = λ some.
          let first = h some in
          let open1 : 1 ≤ length s1.scopes = subst (λ n. 1 ≤ n) (sym first.0) some in (
            (q 0 open1).0 ∙ first.0,
            λ ends.
                let one = first.1 ((q 0 open1).1 ends).0 in (
                  one.0,
                  λ x core. let m = one.1 x core in let o = ((q m.more open1).1 ends).1 (x, m.fits) m.core in
                      record { more = m.more + o.more; core = o.core; nodes = o.nodes ∙ (ap (λ n. n + o.more) m.nodes ∙ add_assoc s.nodes m.more o.more); fits = o.fits },
                ),
          )

  pub has_then : {A B : Type 0} (X : Env → Type 0) (p : Part A) (f : A → Part B) (F : Env → A → Env → ℕ → Type 0) (G : Env → B → Env → ℕ → Type 0)
      → Has w X p F → ((e : Env) (a : A) (n : ℕ) → Has w (λ e'. X e × F e a e' n) (f a) (λ e' b e2 m. G e b e2 (n + m))) → Has w X (p >>= f) G
  has_then X p f F G h k s = then_joined X s (p s) f F G (h s) k

  -- a part that leaves its surroundings as they are
  given_joined : {A B : Type 0} (X : Env → Type 0) (s : State) (g : Got A) (f : A → Part B) (F : Env → A → ℕ → Type 0) (G : Env → B → Env → ℕ → Type 0)
      → After w s g (λ a s'. X (env s) × Fit w (env s) → env s ≡ env s → Made (env s) s.nodes (F (env s) a) s')
      → ((a : A) (n : ℕ) → Has w (λ e. X e × F e a n) (f a) (λ e b e' m. G e b e' (n + m)))
      → After w s (go_on g f) (λ b s'. X (env s) → Core (env s) → Did s.nodes (G (env s) b) s')
  given_joined {A} {B} X s (Gives a s1) f F G h k = by (f a s1) (λ n. k a n s1)
    where
      by : (g : Got B) → ((n : ℕ) → After w s1 g (λ b s'. X (env s1) × F (env s1) a n → Core (env s1) → Did s1.nodes (λ e' m. G (env s1) b e' (n + m)) s')) → After w s g (λ b s'. X (env s) → Core (env s) → Did s.nodes (G (env s) b) s')
      by (Gives b s2) q = λ some.
          let first = h some in
          let open1 : 1 ≤ length s1.scopes = subst (λ n. 1 ≤ n) (sym first.0) some in (
            (q 0 open1).0 ∙ first.0,
            λ ends.
                let one = first.1 ((q 0 open1).1 ends).0 in (
                  one.0,
                  λ x core. let m = one.1 (x, fit_of w s one.0 core) refl in
                      let T : Env → Type 0 = λ e. X e × F e a m.more → Core e → Did s1.nodes (λ e' k. G e b e' (m.more + k)) s2 in
                      let o = subst T m.same ((q m.more open1).1 ends).1 (x, m.fits) core in
                      record { more = m.more + o.more; core = o.core; nodes = o.nodes ∙ (ap (λ n. n + o.more) m.nodes ∙ add_assoc s.nodes m.more o.more); fits = o.fits },
                ),
          )

  pub has_given : {A B : Type 0} (X : Env → Type 0) (p : Part A) (f : A → Part B) (F : Env → A → ℕ → Type 0) (G : Env → B → Env → ℕ → Type 0)
      → ((e : Env) → Makes w e (Fit w e) p (F e)) → ((a : A) (n : ℕ) → Has w (λ e. X e × F e a n) (f a) (λ e b e' m. G e b e' (n + m))) → Has w X (p >>= f) G
  has_given X p f F G h k s = given_joined X s (p s) f F G (makes_if w (env s) (X (env s) × Fit w (env s)) (Fit w (env s)) p (F (env s)) (F (env s)) (λ q. q.1) (λ a n q g. g) (h (env s)) s) k

  -- the same, where it rests on what is known before it
  pub has_next : {A B : Type 0} (X : Env → Type 0) (p : Part A) (f : A → Part B) (F : Env → A → ℕ → Type 0) (G : Env → B → Env → ℕ → Type 0)
      → ((e : Env) → Makes w e (X e × Fit w e) p (F e)) → ((a : A) (n : ℕ) → Has w (λ e. X e × F e a n) (f a) (λ e b e' m. G e b e' (n + m))) → Has w X (p >>= f) G
  has_next X p f F G h k s = given_joined X s (p s) f F G (h (env s) s) k

  pub has_lifted : {A : Type 0} (X : Env → Type 0) (p : Part A) (F : Env → A → ℕ → Type 0) (G : Env → A → Env → ℕ → Type 0)
      → ((e : Env) → Makes w e (Fit w e) p (F e)) → ((e : Env) (a : A) (n : ℕ) → X e → F e a n → G e a e n) → Has w X p G
  has_lifted {A} X p F G h k s = by (p s) (h (env s) s)
    where
      by : (g : Got A) → After w s g (λ a s'. Fit w (env s) → env s ≡ env s → Made (env s) s.nodes (F (env s) a) s') → After w s g (λ a s'. X (env s) → Core (env s) → Did s.nodes (G (env s) a) s')
      by (Gives a s1) q = λ some. (
        (q some).0,
        λ ends. let one = (q some).1 ends in (
          one.0,
          λ x core. let m = one.1 (fit_of w s one.0 core) refl in
              record { more = m.more; core = subst Core (sym m.same) core; nodes = m.nodes; fits = subst (λ e'. G (env s) a e' m.more) (sym m.same) (k (env s) a m.more x m.fits) },
        ),
      )

-- ---- a scope of its own

abbrev pub opened : Env → Env
opened e = record e { scopes = [] ∷ e.scopes }

abbrev pub restored : Env → Env → Env
restored e e' = record e' { scopes = e.scopes }

abbrev pub outer_of : List Scope → List Scope
outer_of [] = []
outer_of (scope ∷ outer) = outer

-- within a function names come into the innermost scope, and objects are added
pub record Inside (e e' : Env) : Type 0 where
  pub outer : outer_of e'.scopes ≡ outer_of e.scopes
  pub functions : e'.functions ≡ e.functions
  pub signatures : e'.signatures ≡ e.signatures
  pub defined : e'.defined ≡ e.defined
  pub result : e'.result ≡ e.result
  pub kept : (i : ℕ) (v : Variable) → slice_get e.variables i ≡ Some v → slice_get e'.variables i ≡ Some v
  pub grown : length e.variables ≤ length e'.variables

pub inside_refl : (e : Env) → Inside e e
inside_refl e = record { outer = refl; functions = refl; signatures = refl; defined = refl; result = refl; kept = λ i v h. h; grown = omega arith }

pub inside_trans : (a b c : Env) → Inside a b → Inside b c → Inside a c
inside_trans a b c h k = record {
  outer = k.outer ∙ h.outer;
  functions = k.functions ∙ h.functions;
  signatures = k.signatures ∙ h.signatures;
  defined = k.defined ∙ h.defined;
  result = k.result ∙ h.result;
  kept = λ i v is. k.kept i v (h.kept i v is);
  grown = omega (arith, h.grown, k.grown);
}

-- the scopes are as before
pub record Stays (e e' : Env) : Type 0 where
  pub scopes : e'.scopes ≡ e.scopes
  pub inside : Inside e e'

pub stays_refl : (e : Env) → Stays e e
stays_refl e = record { scopes = refl; inside = inside_refl e }

pub stays_trans : (a b c : Env) → Stays a b → Stays b c → Stays a c
stays_trans a b c h k = record { scopes = k.scopes ∙ h.scopes; inside = inside_trans a b c h.inside k.inside }

length_closed : (sc : List Scope) (n : ℕ) → length sc ≡ suc n → 1 ≤ n → length (closed sc) ≡ n
length_closed [] n h k = absurd (omega (arith, h))
length_closed (a ∷ []) n h k = absurd (omega (arith, h, k))
length_closed (a ∷ b ∷ c) n h k = omega (arith, h)

file_closed : (sc : List Scope) (n : ℕ) → length sc ≡ suc n → 1 ≤ n → file_of (closed sc) ≡ file_of sc
file_closed [] n h k = absurd (omega (arith, h))
file_closed (a ∷ []) n h k = absurd (omega (arith, h, k))
file_closed (a ∷ b ∷ c) n h k = refl

pub file_opened : (sc : List Scope) → 1 ≤ length sc → file_of ([] ∷ sc) ≡ file_of sc
file_opened [] h = absurd (omega (arith, h))
file_opened (a ∷ b) h = refl

closed_is : (sc ys : List Scope) → outer_of sc ≡ ys → 1 ≤ length ys → closed sc ≡ ys
closed_is [] ys h k = absurd (omega (arith, k, ap (length {A = Scope}) h))
closed_is (a ∷ []) ys h k = absurd (omega (arith, k, ap (length {A = Scope}) h))
closed_is (a ∷ b ∷ c) ys h k = h

core_opened : (e : Env) → Core e → Core (opened e)
core_opened e core = record {
  variables = core.variables;
  functions = λ name f h. let g = core.functions name f h in (ap (find_in name) (file_opened e.scopes core.open_) ∙ g.0, g.1);
  roles = core.roles;
  objects = core.objects;
  few = core.few;
  open_ = omega arith;
}

core_restored : (e e1 : Env) → Core e → Core e1 → Inside (opened e) e1 → Core (restored e e1)
core_restored e e1 core core1 inside = record {
  variables = λ name x ty size constant h. let v = core.variables name x ty size constant h in (v.0, inside.kept x v.0 v.1, v.2, v.3);
  functions = λ name f h. let g = core.functions name f h in (g.0, (g.1.0, ap (λ (z : List Signature). slice_get z f) inside.signatures ∙ g.1.1));
  roles = core1.roles;
  objects = core1.objects;
  few = core1.few;
  open_ = core.open_;
}

-- what was made inside of a scope that has ended
pub record Closed {A : Type 0} (F : Env → A → Env → ℕ → Type 0) (e : Env) (a : A) (e' : Env) (n : ℕ) : Type 0 where
  pub last : Env
  pub is : e' ≡ restored e last
  pub inside : Inside (opened e) last
  pub core : Core last
  pub fits : F (opened e) a last n

module _ (w : World) where
  pub has_scoped : {A : Type 0} (X Y : Env → Type 0) (p : Part A) (F : Env → A → Env → ℕ → Type 0) → ((e : Env) → X e → Core e → Y (opened e))
      → ((e : Env) (a : A) (e' : Env) (n : ℕ) → F e a e' n → Inside e e') → Has w Y p F → Has w X (scoped p) (Closed F)
  has_scoped {A} X Y p F f inside h s = by (p (record s { scopes = [] ∷ s.scopes })) (h (record s { scopes = [] ∷ s.scopes }))
    where
      by : (g : Got A) → After w (record s { scopes = [] ∷ s.scopes }) g (λ a s'. Y (opened (env s)) → Core (opened (env s)) → Did s.nodes (F (opened (env s)) a) s')
          → After w s (go_on g (λ a. close_scope >> pure a)) (λ a s'. X (env s) → Core (env s) → Did s.nodes (Closed F (env s) a) s')
      by (Gives a s1) q = λ some.
          let r = q (omega arith) in (
            length_closed s1.scopes (length s.scopes) r.0 some,
            λ ends.
                let ends1 : Ends w s1 = record {
                  faultless = ends.faultless;
                  variables = ends.variables;
                  calls = ends.calls;
                  signatures = ends.signatures;
                  defined = ends.defined;
                  file = λ name m h. ends.file name m (ap (find_in name) (file_closed s1.scopes (length s.scopes) r.0 some) ∙ h);
                } in
                let one = r.1 ends1 in
                let before : Ends w s = record {
                  faultless = one.0.faultless;
                  variables = one.0.variables;
                  calls = one.0.calls;
                  signatures = one.0.signatures;
                  defined = one.0.defined;
                  file = λ name m h. one.0.file name m (ap (find_in name) (file_opened s.scopes some) ∙ h);
                } in (
                  before,
                  λ x core.
                      let d = one.1 (f (env s) x core) (core_opened (env s) core) in
                      let i = inside (opened (env s)) a (env s1) d.more d.fits in
                      let is : env (record s1 { scopes = closed s1.scopes }) ≡ restored (env s) (env s1) = ap (λ z. record (env s1) { scopes = z }) (closed_is s1.scopes s.scopes i.outer some) in
                      record {
                        more = d.more;
                        core = subst Core (sym is) (core_restored (env s) (env s1) core d.core i);
                        nodes = d.nodes;
                        fits = record { last = env s1; is = is; inside = i; core = d.core; fits = d.fits };
                      },
                ),
          )
