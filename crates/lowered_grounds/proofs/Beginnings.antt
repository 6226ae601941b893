-- How the objects of a program's graph begin, against its variables.
use Rattle.std.proofs.Common.{◌≡◌, ℕ, zero, suc, ◌+◌, ◌<◌, ◌≤◌, ◌^◌, Bool, true, false, Option, Some, None, List, [], ◌∷◌, length, inl, inr, refl, sym, ap, subst, ◌∙◌, arith}
use Rattle.std.specs.Prelude.{◌⊎◌, All, map, slice_get, slice_index_or, if◌then◌else◌}
use Rattle.std.specs.Option.{option_map}
use Rattle.std.proofs.lemmas.Bool.{cases_lt, false≢true}
use Rattle.std.proofs.lemmas.List.{get_or-set_same, get_or-set_other, get_or_past, length-set, length-replicate}
use Rattle.std.proofs.lemmas.List.Elements.{All-get_or}
use Rattle.std.proofs.lemmas.Option.{slice_get-map, get_or_from_slice_get}
use Rattle.c_tree.specs.declared.tree.Variable.{Variable}
use Rattle.c_tree.specs.declared.tree.Program.{Program}
use Rattle.c_tree.specs.Meaning.{first_words}
use Rattle.sound_programs.specs.SoundPrograms.{IsSound}
use Rattle.sound_programs.specs.Scoped.{IsScoped}
use Rattle.flow_graph.specs.declared.graph.Object.{Object}
use Rattle.flow_graph.specs.Operations.{Words, words_of, word_at}
use Rattle.flow_graph.specs.Flow.{Begin, BeginsOne}
use Rattle.lowered_graphs.specs.declared.numbering.Numbering.{Numbering}
use Rattle.lowered_graphs.specs.Exprs.{home, is_global_in, length_or, length_in}
use Rattle.lowered_graphs.specs.GraphOf.{object_of, scalar, add_variable, add_global, add_globals, globals, numbering, graph_of}
use Rattle.lowered_rules.proofs.ThingLemmas.{Thing, Named, Result, Temporary, get_left, get_end, IsOf, pairs_at}
use Rattle.lowered_rules.proofs.ThingsOf.{things, all_numbered}
use Rattle.lowered_rules.proofs.ObjectRules.{sound_there, sized_length, objects_fit}
use Rattle.lowered_grounds.proofs.InnerVariables.{never_global}
use Rattle.lowered_grounds.proofs.NumberingKeeps.{functions_objects, functions_home}
use Rattle.lowered_grounds.proofs.Owners.{setting, is_single_by}

-- ---- objects of the file, as they are numbered

globals_home : (x : ℕ) (vs : List Variable) (m : Numbering) (y : ℕ) → y < x → slice_index_or (add_globals x vs m).variables y 0 ≡ slice_index_or m.variables y 0
globals_home x [] m y lt = refl
globals_home x (v ∷ vs) m y lt = globals_home (x + 1) vs (add_global x v m) y (omega (arith, lt)) ∙ by v.global
  where
    by : (b : Bool) → slice_index_or (if b then add_variable x (object_of v (first_words v)) m else m).variables y 0 ≡ slice_index_or m.variables y 0
    by true = get_or-set_other m.variables x y (length m.objects) 0 (λ e. omega (arith, lt, e))
    by false = refl

globals_objects : (x : ℕ) (vs : List Variable) (m : Numbering) (k : ℕ) (o : Object) → slice_get m.objects k ≡ Some o → slice_get (add_globals x vs m).objects k ≡ Some o
globals_objects x [] m k o e = e
globals_objects x (v ∷ vs) m k o e = globals_objects (x + 1) vs (add_global x v m) k o (by v.global)
  where
    by : (b : Bool) → slice_get (if b then add_variable x (object_of v (first_words v)) m else m).objects k ≡ Some o
    by true = get_left m.objects (object_of v (first_words v) ∷ []) k o e
    by false = e

global_count : (x : ℕ) (v : Variable) (m : Numbering) → length (add_global x v m).variables ≡ length m.variables
global_count x v m = by v.global
  where
    by : (b : Bool) → length (if b then add_variable x (object_of v (first_words v)) m else m).variables ≡ length m.variables
    by true = length-set m.variables x (length m.objects)
    by false = refl

-- the object of the variable x, and behind it other variables are numbered
abbrev HomeStands : ℕ → List Variable → Variable → Numbering → Type 0
HomeStands x vs u k = slice_get (add_globals (x + 1) vs k).objects (slice_index_or (add_globals (x + 1) vs k).variables x 0) ≡ Some (object_of u (first_words u))

global_home : (x : ℕ) (vs : List Variable) (m : Numbering) (k : ℕ) (v : Variable) → x + length vs ≤ length m.variables → slice_get vs k ≡ Some v → v.global ≡ true
    → slice_get (add_globals x vs m).objects (slice_index_or (add_globals x vs m).variables (x + k) 0) ≡ Some (object_of v (first_words v))
global_home x [] m k v le e g = absurd (cc)
global_home x (u ∷ vs) m zero v le e g =
    let same : u ≡ v = cc in
    let here : x ≡ x + 0 = omega arith in
    subst (λ z. slice_get (add_globals x (u ∷ vs) m).objects (slice_index_or (add_globals x (u ∷ vs) m).variables (x + 0) 0) ≡ Some (object_of z (first_words z))) same
    (subst (λ j. slice_get (add_globals x (u ∷ vs) m).objects (slice_index_or (add_globals x (u ∷ vs) m).variables j 0) ≡ Some (object_of u (first_words u))) here
    (subst (λ b. HomeStands x vs u (if b then m1 else m)) (sym (ap (λ (z : Variable). z.global) same ∙ g)) (subst (λ j. slice_get (add_globals (x + 1) vs m1).objects j ≡ Some (object_of u (first_words u))) (sym (globals_home (x + 1) vs m1 x (omega arith) ∙ at))
    (globals_objects (x + 1) vs m1 (length m.objects) (object_of u (first_words u)) (get_end m.objects (object_of u (first_words u)) [])))))
  where
    m1 : Numbering
    m1 = add_variable x (object_of u (first_words u)) m

    at : slice_index_or m1.variables x 0 ≡ length m.objects
    at = get_or-set_same m.variables x (length m.objects) 0 (omega (arith, le))
global_home x (u ∷ vs) m (suc k) v le e g =
    let there : x + 1 + k ≡ x + suc k = omega arith in
    subst (λ j. slice_get (add_globals x (u ∷ vs) m).objects (slice_index_or (add_globals x (u ∷ vs) m).variables j 0) ≡ Some (object_of v (first_words v))) there
    (global_home (x + 1) vs (add_global x u m) k v (omega (arith, le, global_count x u m)) e g)

-- ---- words

begin_at : (os : List Object) (ws : Words) (k : ℕ) (o : Object) → Begin os ws → slice_get os k ≡ Some o → BeginsOne o.first o.words (words_of ws k)
begin_at [] [] k o b e = absurd (cc)
begin_at [] (w ∷ ws) k o b e = absurd b
begin_at (x ∷ os) [] k o b e = absurd b
begin_at (x ∷ os) (w ∷ ws) zero o b e = let same : x ≡ o = cc in subst (λ (z : Object). BeginsOne z.first z.words w) same b.0
begin_at (x ∷ os) (w ∷ ws) (suc k) o b e = begin_at os ws k o b.1 e

begins_length : (first : List ℕ) (n : ℕ) (ws : List ℕ) → BeginsOne first n ws → ((first ≡ []) ⊎ (length first ≡ n)) → length ws ≡ n
begins_length [] n ws b h = b.0
begins_length (w ∷ more) n ws b (inl e) = absurd (cc)
begins_length (w ∷ more) n ws b (inr e) = ap length b ∙ e

no_words : (ws : List ℕ) → length ws ≡ 0 → ws ≡ []
no_words [] e = refl
no_words (w ∷ ws) e = absurd (omega (arith, e))

begins_words : (first : List ℕ) (n : ℕ) (ws : List ℕ) → BeginsOne first n ws → length first ≡ n → ws ≡ first
begins_words [] n ws b e = no_words ws (b.0 ∙ sym e)
begins_words (w ∷ more) n ws b e = b

abbrev IsSmall : List ℕ → Type 0
IsSmall ws = All (λ w. w < 2 ^ 16) ws

small_at : (ws : List ℕ) (k : ℕ) → IsSmall ws → slice_index_or ws k 0 < 2 ^ 16
small_at ws k h = elim (cases_lt k (length ws)) [
  | inl lt ↦ All-get_or (λ w. w < 2 ^ 16) ws k 0 lt h
  | inr le ↦ let e = get_or_past ws k 0 le in omega (arith, e)
]

small_one : (first : List ℕ) (n : ℕ) (ws : List ℕ) → BeginsOne first n ws → IsSmall first → IsSmall ws
small_one [] n ws b h = b.1
small_one (w ∷ more) n ws b h = subst IsSmall (sym b) h

small_all : (os : List Object) (ws : Words) → Begin os ws → ((k : ℕ) (o : Object) → slice_get os k ≡ Some o → IsSmall o.first) → (o k : ℕ) → word_at ws o k < 2 ^ 16
small_all [] [] b h zero zero = omega arith
small_all [] [] b h zero (suc k) = omega arith
small_all [] [] b h (suc o) zero = omega arith
small_all [] [] b h (suc o) (suc k) = omega arith
small_all [] (w ∷ ws) b h o k = absurd b
small_all (x ∷ os) [] b h o k = absurd b
small_all (x ∷ os) (w ∷ ws) b h zero k = small_at w k (small_one x.first x.words w b.0 (h 0 x refl))
small_all (x ∷ os) (w ∷ ws) b h (suc o) k = small_all os ws b.1 (λ j y e. h (suc j) y e) o k

-- ---- the variables of the meaning

-- each begins with as many words as it has elements
pub store_shape : (vs : List Variable) (x : ℕ) → length (slice_index_or (map first_words vs) x []) ≡ length_in (slice_get vs x)
store_shape [] zero = refl
store_shape [] (suc x) = refl
store_shape (v ∷ vs) zero = sized_length v.length v.first
store_shape (v ∷ vs) (suc x) = store_shape vs x

store_at : (vs : List Variable) (x : ℕ) (v : Variable) → slice_get vs x ≡ Some v → slice_index_or (map first_words vs) x [] ≡ first_words v
store_at vs x v e = get_or_from_slice_get (map first_words vs) x (first_words v) [] (slice_get-map first_words vs x ∙ ap (option_map first_words) e)

-- ---- the graph of a program

module _ (p : Program) (sound : IsSound p) (names : IsScoped p) where
  -- the object at the home of one of the file
  global_object : (x : ℕ) (v : Variable) → slice_get p.variables x ≡ Some v → v.global ≡ true → slice_get (graph_of p).objects (home (setting p) x) ≡ Some (object_of v (first_words v))
  global_object x v e g =
      let same : 0 + x ≡ x = omega arith in
      let k : ℕ = slice_index_or (globals p).variables x 0 in
      let first : slice_get (globals p).objects k ≡ Some (object_of v (first_words v)) =
      subst (λ j. slice_get (globals p).objects (slice_index_or (globals p).variables j 0) ≡ Some (object_of v (first_words v))) same
      (global_home 0 p.variables _ x v (omega (arith, length-replicate {A = ℕ} (length p.variables) 0)) e g) in
      subst (λ j. slice_get (graph_of p).objects j ≡ Some (object_of v (first_words v))) (sym (functions_home p x 0 p.functions (globals p) (never_global p sound names x (ap is_global_in e ∙ g))))
      (functions_objects p 0 p.functions (globals p) k (object_of v (first_words v)) first)

  module _ (objects : Words) (begin : Begin (graph_of p).objects objects) where
    pub all_small : (o k : ℕ) → word_at objects o k < 2 ^ 16
    all_small = small_all (graph_of p).objects objects begin (λ k o e. (objects_fit p sound k o e).words)

    -- what an object begins with, by its thing
    begins_thing : (o : ℕ) (t : Thing) → slice_get (things p) o ≡ Some t → (x : Object) × IsOf p t x × BeginsOne x.first x.words (words_of objects o)
    begins_thing o t e =
        let x = pairs_at p (things p) (numbering p).objects o t (all_numbered p (sound_there p sound)).pairs e in (x.0, x.2, begin_at (graph_of p).objects objects o x.0 begin x.1)

    scalar_one : (o : ℕ) → ((x : Object) × (x ≡ scalar) × BeginsOne x.first x.words (words_of objects o)) → length (words_of objects o) ≡ 1
    scalar_one o x = (subst (λ (z : Object). BeginsOne z.first z.words (words_of objects o)) x.1 x.2).0

    pub single_words : (o : ℕ) → is_single_by (slice_get (things p) o) ≡ true → length (words_of objects o) ≡ 1
    single_words o e = by (slice_get (things p) o) refl e
      where
        by : (t : Option Thing) → slice_get (things p) o ≡ t → is_single_by t ≡ true → length (words_of objects o) ≡ 1
        by None q h = absurd (false≢true h)
        by (Some (Named x)) q h = absurd (false≢true h)
        by (Some (Result f)) q h = scalar_one o (begins_thing o (Result f) q)
        by (Some (Temporary f)) q h = scalar_one o (begins_thing o (Temporary f) q)

    pub variable_words : (x : ℕ) → slice_get (things p) (home (setting p) x) ≡ Some (Named x) → length (words_of objects (home (setting p) x)) ≡ length_in (slice_get p.variables x)
    variable_words x e =
        let t = begins_thing (home (setting p) x) (Named x) e in
        let is = t.1 in
        let v = is.0 in
        begins_length t.0.first t.0.words (words_of objects (home (setting p) x)) t.2 (sizes t.0 v is.2 is.3) ∙ (is.2 ∙ sym (ap length_in is.1))
      where
        sizes : (o : Object) (v : Variable) → o.words ≡ length_or v.length → ((o.first ≡ []) ⊎ ((v.global ≡ true) × (o.first ≡ first_words v))) → (o.first ≡ []) ⊎ (length o.first ≡ o.words)
        sizes o v n (inl none) = inl none
        sizes o v n (inr some) = inr (ap length some.1 ∙ (sized_length v.length v.first ∙ sym n))

    -- an object of the file begins with its words
    pub global_words : (x : ℕ) (v : Variable) → slice_get p.variables x ≡ Some v → v.global ≡ true → words_of objects (home (setting p) x) ≡ slice_index_or (map first_words p.variables) x []
    global_words x v e g =
        begins_words (first_words v) (length_or v.length) (words_of objects (home (setting p) x)) (begin_at (graph_of p).objects objects (home (setting p) x) (object_of v (first_words v)) begin (global_object x v e g)) (sized_length v.length v.first)
        ∙ sym (store_at p.variables x v e)
