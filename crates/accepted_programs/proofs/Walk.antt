-- What a part of the walk makes, where all that follows it finds no fault.
use Rattle.std.proofs.Common.{◌≡◌, refl, sym, ap, subst, ◌∙◌, ℕ, ◌+◌, ◌≤◌, add-zero, add_assoc, Bool, true, false, Option, Some, List, [], ◌∷◌, ◌++◌, arith, length-append}
use Rattle.std.proofs.lemmas.List.{get_or_append_left}
use Rattle.std.proofs.Math.Seq.{get_or-append_seam}
use Rattle.std.specs.Prelude.{slice_get, length, Contains, not, if◌then◌else◌}
use Rattle.std.specs.Str.{bytes_eq}
use Rattle.c_values.specs.declared.ops.Ty.{Ty}
use Rattle.c_tree.specs.declared.tree.Variable.{Variable}
use Rattle.c_tree.specs.declared.tree.Function.{Function}
use Rattle.c_tree.specs.declared.tree.Program.{Program}
use Rattle.c_typing.specs.declared.call_site.CallSite.{CallSite}
use Rattle.c_typing.specs.declared.meaning.Meaning.{Meaning}
use Rattle.c_typing.specs.declared.meaning.Meaning.TheVariants as meaning
use Rattle.c_typing.specs.declared.state.State.{State}
use Rattle.c_typing.specs.declared.state.Signature.{Signature}
use Rattle.c_typing.specs.declared.type_fault.TypeFault.{TypeFault}
use Rattle.c_typing.specs.Scopes.{Scope, find, find_in}
use Rattle.c_typing.specs.Parts.{Part, Got, Gives, go_on, ◌>>=◌, ◌>>◌, pure, either, looked, note, note_if, count, with_nodes, uncounted}
use Rattle.sound_programs.specs.Calls.{Below, is_below}

-- the program to which the walk comes, a height for each of its functions, the names of the functions that the text defines, and the
-- signatures and the names of the file in the end
pub record World : Type 0 where
  pub program : Program
  pub heights : List ℕ
  pub defined : List (List ℕ)
  pub signatures : List Signature
  pub file : Scope

abbrev pub below : World → ℕ → Below
below w f = record { heights = w.heights; height = Rattle.std.specs.Prelude.slice_index_or w.heights f 0 }

-- the scope of the file
abbrev pub file_of : List Scope → Scope
file_of [] = []
file_of (scope ∷ []) = scope
file_of (scope ∷ next ∷ outer) = file_of (next ∷ outer)

-- one function's types in the end
pub record SameTypes (a b : Signature) : Type 0 where
  pub params : a.params ≡ b.params
  pub result : a.result ≡ b.result

pub record Known (w : World) (f : ℕ) (g : Signature) : Type 0 where
  pub last : Signature
  pub is : slice_get w.signatures f ≡ Some last
  pub same : SameTypes g last

-- what is found leads to the world: there is no fault, and what is there stays
pub record EndsBy (w : World) (fs : List TypeFault) (vs : List Variable) (cs : List CallSite) (gs : List Signature) (ds : List (List ℕ)) (scopes : List Scope) : Type 0 where
  pub faultless : fs ≡ []
  pub variables : (i : ℕ) (v : Variable) → slice_get vs i ≡ Some v → slice_get w.program.variables i ≡ Some v
  pub calls : (c : CallSite) → Contains cs c → is_below (below w c.caller) c.callee ≡ true
  pub signatures : (f : ℕ) (g : Signature) → slice_get gs f ≡ Some g → Known w f g
  pub defined : ds ≡ w.defined
  pub file : (name : List ℕ) (m : Meaning) → find_in name (file_of scopes) ≡ Some m → find_in name w.file ≡ Some m

abbrev pub Ends : World → State → Type 0
Ends w s = EndsBy w s.faults s.variables s.calls s.signatures s.defined s.scopes

-- As many scopes are open behind a part as before it; and where what it makes leads to the world, what was there before does, and something
-- holds of what is made and of the state behind it.
abbrev pub After : {A : Type 0} → World → State → Got A → (A → State → Type 0) → Type 0
After w s (Gives a s') Q = 1 ≤ length s.scopes → (length s'.scopes ≡ length s.scopes) × (Ends w s' → Ends w s × Q a s')

-- the surroundings of an expression
pub record Env : Type 0 where
  pub scopes : List Scope
  pub variables : List Variable
  pub functions : List Function
  pub signatures : List Signature
  pub defined : List (List ℕ)
  pub result : Option Ty

abbrev pub env : State → Env
env s = record { scopes = s.scopes; variables = s.variables; functions = s.functions; signatures = s.signatures; defined = s.defined; result = s.result }

-- what is known of variables and functions in scope
pub record Core (w : World) (e : Env) : Type 0 where
  pub variables : (name : List ℕ) (x : ℕ) (ty : Ty) (size : Option ℕ) (constant : Bool) → find name e.scopes ≡ Some (meaning.Variable x ty size constant) → (v : Variable) × (slice_get e.variables x ≡ Some v) × (v.ty ≡ ty) × (v.length ≡ size)
  pub functions : (name : List ℕ) (f : ℕ) → find name e.scopes ≡ Some (meaning.Function f) → find_in name (file_of e.scopes) ≡ Some (meaning.Function f)

-- ---- parts that leave their surroundings as they are

-- so many nodes more, in the same surroundings
pub record Made (e : Env) (before : ℕ) (F : ℕ → Type 0) (s' : State) : Type 0 where
  pub more : ℕ
  pub same : env s' ≡ e
  pub nodes : s'.nodes ≡ before + more
  pub fits : F more

abbrev pub Makes : {A : Type 0} → World → Env → (X : Type 0) → Part A → (A → ℕ → Type 0) → Type 0
Makes {A} w e X p F = (s : State) → After w s (p s) (λ a s'. X → env s ≡ e → Made e s.nodes (F a) s')

-- from another state that leads back to this one
pub after_more : {A : Type 0} (w : World) (s s1 : State) (g : Got A) (Q T : A → State → Type 0)
    → (length s1.scopes ≡ length s.scopes) → (Ends w s1 → Ends w s) → ((a : A) (s' : State) → Q a s' → T a s') → After w s1 g Q → After w s g T
after_more w s s1 (Gives a s') Q T same f k h = λ some.
    let q = h (subst (λ n. 1 ≤ n) (sym same) some) in (q.0 ∙ same, λ ends. (f (q.1 ends).0, k a s' (q.1 ends).1))

pub not_empty : {A : Type 0} (xs : List A) (y : A) → xs ++ y ∷ [] ≡ [] → ⊥
not_empty [] y h = cc
not_empty (x ∷ xs) y h = cc

-- what is seen of the state
pub record Saw {M : Type 0} (e : Env) (look : State → M) (m : M) : Type 0 where
  pub at : State
  pub same : env at ≡ e
  pub is : look at ≡ m

-- a call is remembered
pub contains_before : (cs ds : List CallSite) (c : CallSite) → Contains cs c → Contains (cs ++ ds) c
contains_before cs ds c (k, lt, is) = (k, omega (arith, length-append cs ds), get_or_append_left cs ds c k lt ∙ is)

pub contains_last : (cs : List CallSite) (c : CallSite) → Contains (cs ++ c ∷ []) c
contains_last cs c = (length cs, omega (arith, length-append cs (c ∷ [])), get_or-append_seam cs c [] c)

module _ (w : World) (e : Env) where
  pub makes_pure : {A : Type 0} (X : Type 0) (a : A) (F : A → ℕ → Type 0) → (X → F a 0) → Makes w e X (pure a) F
  makes_pure X a F h s = λ some. (refl, λ ends. (ends, λ x is. record { more = 0; same = is; nodes = sym (add-zero s.nodes); fits = h x }))

  pub makes_if : {A : Type 0} (X Y : Type 0) (p : Part A) (F G : A → ℕ → Type 0) → (X → Y) → ((a : A) (n : ℕ) → X → F a n → G a n) → Makes w e Y p F → Makes w e X p G
  makes_if X Y p F G f k h s =
      after_more w s s (p s) (λ a s'. Y → env s ≡ e → Made e s.nodes (F a) s') (λ a s'. X → env s ≡ e → Made e s.nodes (G a) s') refl (λ z. z)
      (λ a s' q x is. let m = q (f x) is in record { more = m.more; same = m.same; nodes = m.nodes; fits = k a m.more x m.fits }) (h s)

  -- what is known without a premise
  pub given : {A : Type 0} (X : Type 0) (p : Part A) (F : A → ℕ → Type 0) → Makes w e (Unit {0}) p F → Makes w e X p F
  given X p F h = makes_if X (Unit {0}) p F F (λ x. tt) (λ a n x f. f) h

  joined : {A B : Type 0} (X : Type 0) (s : State) (g : Got A) (f : A → Part B) (F : A → ℕ → Type 0) (G : B → ℕ → Type 0)
      → After w s g (λ a s'. X → env s ≡ e → Made e s.nodes (F a) s')
      → ((a : A) (n : ℕ) → Makes w e (X × F a n) (f a) (λ b m. G b (n + m)))
      → After w s (go_on g f) (λ b s'. X → env s ≡ e → Made e s.nodes (G b) s')
  joined {A} {B} X s (Gives a s1) f F G h k = by (f a s1) (λ n. k a n s1)
    where
      by : (g : Got B) → ((n : ℕ) → After w s1 g (λ b s'. X × F a n → env s1 ≡ e → Made e s1.nodes (λ m. G b (n + m)) s')) → After w s g (λ b s'. X → env s ≡ e → Made e s.nodes (G b) s')
      by (Gives b s2) q = λ some.
          let first = h some in
          let open1 : 1 ≤ length s1.scopes = subst (λ n. 1 ≤ n) (sym first.0) some in (
            (q 0 open1).0 ∙ first.0,
            λ ends.
                let one = first.1 ((q 0 open1).1 ends).0 in (
                  one.0,
                  λ x is. let m = one.1 x is in let o = ((q m.more open1).1 ends).1 (x, m.fits) m.same in
                      record { more = m.more + o.more; same = o.same; nodes = o.nodes ∙ (ap (λ n. n + o.more) m.nodes ∙ add_assoc s.nodes m.more o.more); fits = o.fits },
                ),
          )

  pub makes_then : {A B : Type 0} (X : Type 0) (p : Part A) (f : A → Part B) (F : A → ℕ → Type 0) (G : B → ℕ → Type 0)
      → Makes w e X p F → ((a : A) (n : ℕ) → Makes w e (X × F a n) (f a) (λ b m. G b (n + m))) → Makes w e X (p >>= f) G
  makes_then X p f F G h k s = joined X s (p s) f F G (h s) k

  pub count_then : {A : Type 0} (X : Type 0) (n : ℕ) (p : Part A) (F : A → ℕ → Type 0) → Makes w e X p (λ a m. F a (n + m)) → Makes w e X (count n >> p) F
  count_then X n p F h s =
      let s1 : State = record s { nodes = s.nodes + n } in
      after_more w s s1 (p s1) (λ a s'. X → env s1 ≡ e → Made e s1.nodes (λ m. F a (n + m)) s') (λ a s'. X → env s ≡ e → Made e s.nodes (F a) s') refl (λ z. z)
      (λ a s' q x is. let m = q x is in record { more = n + m.more; same = m.same; nodes = m.nodes ∙ add_assoc s.nodes n m.more; fits = m.fits }) (h s1)

  -- what is made behind a fault leads nowhere
  pub note_then : {A : Type 0} (X Y : Type 0) (f : TypeFault) (p : Part A) (F G : A → ℕ → Type 0) → Makes w e Y p F → Makes w e X (note f >> p) G
  note_then X Y f p F G h s =
      let s1 : State = record s { faults = s.faults ++ f ∷ [] } in
      by s1 (p s1) refl (λ ends. absurd (not_empty s.faults f ends.faultless)) (h s1)
    where
      by : (s1 : State) (g : Got _) → (length s1.scopes ≡ length s.scopes) → (Ends w s1 → ⊥) → After w s1 g (λ a s'. Y → env s1 ≡ e → Made e s1.nodes (F a) s') → After w s g (λ a s'. X → env s ≡ e → Made e s.nodes (G a) s')
      by s1 (Gives a s') same never q = λ some. let r = q (subst (λ n. 1 ≤ n) (sym same) some) in (r.0 ∙ same, λ ends. absurd (never (r.1 ends).0))

  pub fails : {A : Type 0} (X : Type 0) (f : TypeFault) (a : A) (F : A → ℕ → Type 0) → Makes w e X (note f >> pure a) F
  fails X f a F s = λ some. (refl, λ ends. absurd (not_empty s.faults f ends.faultless))

  pub note_if_then : {A : Type 0} (X : Type 0) (b : Bool) (f : TypeFault) (p : Part A) (F : A → ℕ → Type 0) → Makes w e (X × (b ≡ false)) p F → Makes w e X (note_if b f >> p) F
  note_if_then X true f p F h = note_then X (X × (true ≡ false)) f p F F h
  note_if_then X false f p F h = makes_if X (X × (false ≡ false)) p F F (λ x. (x, refl)) (λ a n x q. q) h

  pub looked_then : {A M : Type 0} (X : Type 0) (look : State → M) (k : M → Part A) (F : A → ℕ → Type 0) → ((m : M) → Makes w e (X × Saw e look m) (k m) F) → Makes w e X (looked look k) F
  looked_then X look k F h s =
      after_more w s s (k (look s) s) (λ a s'. X × Saw e look (look s) → env s ≡ e → Made e s.nodes (F a) s') (λ a s'. X → env s ≡ e → Made e s.nodes (F a) s') refl (λ z. z)
      (λ a s' q x is. q (x, record { at = s; same = is; is = refl }) is) (h (look s) s)

  pub either_of : {A : Type 0} (X : Type 0) (b : Bool) (p q : Part A) (F : A → ℕ → Type 0) → Makes w e (X × (b ≡ true)) p F → Makes w e (X × (b ≡ false)) q F → Makes w e X (either b p q) F
  either_of X true p q F h k = makes_if X (X × (true ≡ true)) p F F (λ x. (x, refl)) (λ a n x y. y) h
  either_of X false p q F h k = makes_if X (X × (false ≡ false)) q F F (λ x. (x, refl)) (λ a n x y. y) k

  pub makes_uncounted : {A : Type 0} (X : Type 0) (p : Part A) (F : A → ℕ → Type 0) → Makes w e X p F → Makes w e X (uncounted p) (λ a n. (n ≡ 0) × ((m : ℕ) × F a m))
  makes_uncounted {A} X p F h s = by (p s) (h s)
    where
      by : (g : Got A) → After w s g (λ a s'. X → env s ≡ e → Made e s.nodes (F a) s')
          → After w s (with_nodes s.nodes g) (λ a s'. X → env s ≡ e → Made e s.nodes (λ n. (n ≡ 0) × ((m : ℕ) × F a m)) s')
      by (Gives a s') q = λ some. (
        (q some).0,
        λ ends. let one = (q some).1 ends in
            (one.0, λ x is. let m = one.1 x is in record { more = 0; same = m.same; nodes = sym (add-zero s.nodes); fits = (refl, (m.more, m.fits)) }),
      )
