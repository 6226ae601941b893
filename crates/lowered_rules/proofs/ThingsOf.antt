-- The things of a program's objects: its globals, and of each reached function its result, parameters, locals and temporaries.
use Rattle.std.proofs.Common.{◌≡◌, ℕ, zero, suc, ◌+◌, ◌<◌, Bool, true, false, Option, Some, None, List, [], ◌∷◌, ◌++◌, length, replicate, inl, inr, refl, sym, subst, arith}
use Rattle.std.specs.Prelude.{⊤, ◌==◌, slice_get, slice_index_or, if◌then◌else◌}
use Rattle.std.proofs.lemmas.Option.{slice_get_within}
use Rattle.c_values.specs.declared.ops.Ty.{Ty}
use Rattle.c_tree.specs.declared.tree.Variable.{Variable}
use Rattle.c_tree.specs.declared.tree.Function.{Function}
use Rattle.c_tree.specs.declared.tree.Program.{Program}
use Rattle.c_tree.specs.Meaning.{first_words}
use Rattle.lowered_graphs.specs.declared.numbering.Numbering.{Numbering}
use Rattle.lowered_graphs.specs.Stmts.{lowered_stmt}
use Rattle.lowered_graphs.specs.GraphOf.{within_of, no_homes, reached, object_of, add_variable, add_global, add_globals, add_local, add_locals, add_result, add_result_of, add_named, add_function, add_functions, temporaries, globals, numbering}
use Rattle.lowered_rules.proofs.EachLemmas.{Each}
use Rattle.lowered_rules.proofs.ThingLemmas.{Thing, Named, Result, Temporary, get_left, Numbered, numbered_variable, numbered_result, numbered_temporaries}

-- the parameters and locals of a function
abbrev pub variables_of : Program → ℕ → Function → List ℕ
variables_of p n f = f.params ++ (lowered_stmt (within_of p no_homes n) f.body).locals

abbrev pub IsThere : Program → ℕ → Type 0
IsThere p x = (v : Variable) × (slice_get p.variables x ≡ Some v)

-- ---- things

abbrev pub things_global : Bool → ℕ → List Thing → List Thing
things_global true x ts = ts ++ Named x ∷ []
things_global false x ts = ts

abbrev pub things_globals : ℕ → List Variable → List Thing → List Thing
things_globals x [] ts = ts
things_globals x (v ∷ vs) ts = things_globals (x + 1) vs (things_global v.global x ts)

abbrev pub things_locals : List ℕ → List Thing → List Thing
things_locals [] ts = ts
things_locals (x ∷ xs) ts = things_locals xs (ts ++ Named x ∷ [])

abbrev pub things_result : Program → ℕ → Option Ty → List Thing → List Thing
things_result p n None ts = ts
things_result p n (Some ty) ts = if n == p.main then ts else ts ++ Result n ∷ []

abbrev pub things_named : Program → ℕ → Function → List Thing → List Thing
things_named p n f ts = things_locals (variables_of p n f) (things_result p n f.result ts)

abbrev pub things_function : Program → ℕ → Function → List Thing → List Thing
things_function p n f ts = things_named p n f ts ++ replicate (temporaries p n f) (Temporary n)

abbrev pub things_functions : Program → ℕ → List Function → List Thing → List Thing
things_functions p n [] ts = ts
things_functions p n (f ∷ fs) ts = things_functions p (n + 1) fs (if slice_index_or (reached p) n false then things_function p n f ts else ts)

abbrev pub things : Program → List Thing
things p = things_functions p 0 p.functions (things_globals 0 p.variables [])

-- ---- the variables and results that have homes

abbrev pub onto_global : Bool → ℕ → List ℕ → List ℕ
onto_global true x xs = x ∷ xs
onto_global false x xs = xs

abbrev pub onto_globals : ℕ → List Variable → List ℕ → List ℕ
onto_globals x [] xs = xs
onto_globals x (v ∷ vs) xs = onto_globals (x + 1) vs (onto_global v.global x xs)

abbrev pub onto_locals : List ℕ → List ℕ → List ℕ
onto_locals [] xs = xs
onto_locals (y ∷ ys) xs = onto_locals ys (y ∷ xs)

abbrev pub onto_result : Program → ℕ → Option Ty → List ℕ → List ℕ
onto_result p n None fs = fs
onto_result p n (Some ty) fs = if n == p.main then fs else n ∷ fs

abbrev pub onto_functions : Program → ℕ → List Function → List ℕ → List ℕ
onto_functions p n [] xs = xs
onto_functions p n (f ∷ fs) xs = onto_functions p (n + 1) fs (if slice_index_or (reached p) n false then onto_locals (variables_of p n f) xs else xs)

abbrev pub onto_results : Program → ℕ → List Function → List ℕ → List ℕ
onto_results p n [] rs = rs
onto_results p n (f ∷ fs) rs = onto_results p (n + 1) fs (if slice_index_or (reached p) n false then onto_result p n f.result rs else rs)

-- a list that stands in another from a place on
abbrev pub StandsFrom : {X : Type 0} → List X → ℕ → List X → Type 0
StandsFrom {X} whole n part = (k : ℕ) (x : X) → slice_get part k ≡ Some x → slice_get whole (n + k) ≡ Some x

pub stands_head : {X : Type 0} (whole : List X) (n : ℕ) (x : X) (xs : List X) → StandsFrom whole n (x ∷ xs) → slice_get whole n ≡ Some x
stands_head whole n x xs h = let e : n + 0 ≡ n = omega arith in subst (λ m. slice_get whole m ≡ Some x) e (h 0 x refl)

pub stands_tail : {X : Type 0} (whole : List X) (n : ℕ) (x : X) (xs : List X) → StandsFrom whole n (x ∷ xs) → StandsFrom whole (n + 1) xs
stands_tail whole n x xs h k y e = let same : n + suc k ≡ n + 1 + k = omega arith in subst (λ m. slice_get whole m ≡ Some y) same (h (suc k) y e)

module _ (p : Program) where
  -- ---- globals

  numbered_global : (b : Bool) (x : ℕ) (v : Variable) (m : Numbering) (ts : List Thing) (xs rs : List ℕ) → v.global ≡ b → slice_get p.variables x ≡ Some v → Numbered p m ts xs rs
      → Numbered p (if b then add_variable x (object_of v (first_words v)) m else m) (things_global b x ts) (onto_global b x xs) rs
  numbered_global true x v m ts xs rs g e h = numbered_variable p x v (object_of v (first_words v)) m ts xs rs e (v, e, refl, inr (g, refl)) h
  numbered_global false x v m ts xs rs g e h = h

  numbered_globals : (x : ℕ) (vs : List Variable) (m : Numbering) (ts : List Thing) (xs rs : List ℕ) → StandsFrom p.variables x vs → Numbered p m ts xs rs → Numbered p (add_globals x vs m) (things_globals x vs ts) (onto_globals x vs xs) rs
  numbered_globals x [] m ts xs rs s h = h
  numbered_globals x (v ∷ vs) m ts xs rs s h =
      numbered_globals (x + 1) vs (add_global x v m) (things_global v.global x ts) (onto_global v.global x xs) rs (stands_tail p.variables x v vs s)
      (numbered_global v.global x v m ts xs rs refl (stands_head p.variables x v vs s) h)

  -- ---- a function

  numbered_locals : (ys : List ℕ) (m : Numbering) (ts : List Thing) (xs rs : List ℕ) → Each (IsThere p) ys → Numbered p m ts xs rs → Numbered p (add_locals p ys m) (things_locals ys ts) (onto_locals ys xs) rs
  numbered_locals [] m ts xs rs t h = h
  numbered_locals (y ∷ ys) m ts xs rs t h =
      numbered_locals ys (add_local y (slice_get p.variables y) m) (ts ++ Named y ∷ []) (y ∷ xs) rs t.1
      (subst (λ v. Numbered p (add_local y v m) (ts ++ Named y ∷ []) (y ∷ xs) rs) (sym t.0.1) (numbered_variable p y t.0.0 (object_of t.0.0 []) m ts xs rs t.0.1 (t.0.0, t.0.1, refl, inl refl) h))

  numbered_result_of : (n : ℕ) (ty : Option Ty) (m : Numbering) (ts : List Thing) (xs rs : List ℕ) → n < length p.functions → Numbered p m ts xs rs → Numbered p (add_result_of p n ty m) (things_result p n ty ts) xs (onto_result p n ty rs)
  numbered_result_of n None m ts xs rs lt h = h
  numbered_result_of n (Some ty) m ts xs rs lt h = by_main (n == p.main)
    where
      by_main : (b : Bool) → Numbered p (if b then m else add_result n m) (if b then ts else ts ++ Result n ∷ []) xs (if b then rs else n ∷ rs)
      by_main true = h
      by_main false = numbered_result p n m ts xs rs lt h

  pub numbered_named : (n : ℕ) (f : Function) (m : Numbering) (ts : List Thing) (xs rs : List ℕ) → n < length p.functions → Each (IsThere p) (variables_of p n f) → Numbered p m ts xs rs
      → Numbered p (add_named p n f m) (things_named p n f ts) (onto_locals (variables_of p n f) xs) (onto_result p n f.result rs)
  numbered_named n f m ts xs rs lt t h =
      numbered_locals (variables_of p n f) (add_result_of p n f.result m) (things_result p n f.result ts) xs (onto_result p n f.result rs) t (numbered_result_of n f.result m ts xs rs lt h)

  pub numbered_function : (n : ℕ) (f : Function) (m : Numbering) (ts : List Thing) (xs rs : List ℕ) → n < length p.functions → Each (IsThere p) (variables_of p n f) → Numbered p m ts xs rs
      → Numbered p (add_function p n f m) (things_function p n f ts) (onto_locals (variables_of p n f) xs) (onto_result p n f.result rs)
  numbered_function n f m ts xs rs lt t h =
      numbered_temporaries p n (temporaries p n f) (add_named p n f m) (things_named p n f ts) (onto_locals (variables_of p n f) xs) (onto_result p n f.result rs) (numbered_named n f m ts xs rs lt t h)

  -- ---- functions, one after another, of which each has variables that are there

  abbrev pub AllThere : ℕ → List Function → Type 0
  AllThere n [] = ⊤
  AllThere n (f ∷ fs) = Each (IsThere p) (variables_of p n f) × AllThere (n + 1) fs

  numbered_if : (b : Bool) (n : ℕ) (fs : List Function) (m k : Numbering) (ts us : List Thing) (xs ys rs qs : List ℕ) → Numbered p (add_functions p n fs m) (things_functions p n fs ts) (onto_functions p n fs xs) (onto_results p n fs rs)
      → Numbered p (add_functions p n fs k) (things_functions p n fs us) (onto_functions p n fs ys) (onto_results p n fs qs)
      → Numbered p (add_functions p n fs (if b then m else k)) (things_functions p n fs (if b then ts else us)) (onto_functions p n fs (if b then xs else ys)) (onto_results p n fs (if b then rs else qs))
  numbered_if true n fs m k ts us xs ys rs qs h j = h
  numbered_if false n fs m k ts us xs ys rs qs h j = j

  pub numbered_functions : (n : ℕ) (fs : List Function) (m : Numbering) (ts : List Thing) (xs rs : List ℕ) → StandsFrom p.functions n fs → AllThere n fs → Numbered p m ts xs rs
      → Numbered p (add_functions p n fs m) (things_functions p n fs ts) (onto_functions p n fs xs) (onto_results p n fs rs)
  numbered_functions n [] m ts xs rs s t h = h
  numbered_functions n (f ∷ fs) m ts xs rs s t h =
      let lt : n < length p.functions = slice_get_within p.functions n f (stands_head p.functions n f fs s) in
      numbered_if (slice_index_or (reached p) n false) (n + 1) fs (add_function p n f m) m (things_function p n f ts) ts (onto_locals (variables_of p n f) xs) xs (onto_result p n f.result rs) rs
      (numbered_functions (n + 1) fs (add_function p n f m) (things_function p n f ts) (onto_locals (variables_of p n f) xs) (onto_result p n f.result rs) (stands_tail p.functions n f fs s) t.1 (numbered_function n f m ts xs rs lt t.0 h))
      (numbered_functions (n + 1) fs m ts xs rs (stands_tail p.functions n f fs s) t.1 h)

  -- ---- what stands stays

  locals_grow : (ys : List ℕ) (ts : List Thing) (k : ℕ) (t : Thing) → slice_get ts k ≡ Some t → slice_get (things_locals ys ts) k ≡ Some t
  locals_grow [] ts k t e = e
  locals_grow (y ∷ ys) ts k t e = locals_grow ys (ts ++ Named y ∷ []) k t (get_left ts (Named y ∷ []) k t e)

  result_grows : (n : ℕ) (ty : Option Ty) (ts : List Thing) (k : ℕ) (t : Thing) → slice_get ts k ≡ Some t → slice_get (things_result p n ty ts) k ≡ Some t
  result_grows n None ts k t e = e
  result_grows n (Some ty) ts k t e = by_main (n == p.main)
    where
      by_main : (b : Bool) → slice_get (if b then ts else ts ++ Result n ∷ []) k ≡ Some t
      by_main true = e
      by_main false = get_left ts (Result n ∷ []) k t e

  function_grows : (n : ℕ) (f : Function) (ts : List Thing) (k : ℕ) (t : Thing) → slice_get ts k ≡ Some t → slice_get (things_function p n f ts) k ≡ Some t
  function_grows n f ts k t e =
      get_left (things_named p n f ts) (replicate (temporaries p n f) (Temporary n)) k t (locals_grow (variables_of p n f) (things_result p n f.result ts) k t (result_grows n f.result ts k t e))

  grows_if : (b : Bool) (n : ℕ) (fs : List Function) (ts us : List Thing) (k : ℕ) (t : Thing) → slice_get (things_functions p n fs ts) k ≡ Some t → slice_get (things_functions p n fs us) k ≡ Some t
      → slice_get (things_functions p n fs (if b then ts else us)) k ≡ Some t
  grows_if true n fs ts us k t h j = h
  grows_if false n fs ts us k t h j = j

  pub functions_grow : (n : ℕ) (fs : List Function) (ts : List Thing) (k : ℕ) (t : Thing) → slice_get ts k ≡ Some t → slice_get (things_functions p n fs ts) k ≡ Some t
  functions_grow n [] ts k t e = e
  functions_grow n (f ∷ fs) ts k t e =
      grows_if (slice_index_or (reached p) n false) (n + 1) fs (things_function p n f ts) ts k t (functions_grow (n + 1) fs (things_function p n f ts) k t (function_grows n f ts k t e)) (functions_grow (n + 1) fs ts k t e)

  -- a temporary of a function that is numbered now
  replicated : (n k i : ℕ) → i < k → slice_get (replicate k (Temporary n)) i ≡ Some (Temporary n)
  replicated n zero i lt = absurd (omega (arith, lt))
  replicated n (suc k) zero lt = refl
  replicated n (suc k) (suc i) lt = replicated n k i (omega (arith, lt))

  get_right : (ts us : List Thing) (i : ℕ) (t : Thing) → slice_get us i ≡ Some t → slice_get (ts ++ us) (length ts + i) ≡ Some t
  get_right [] us i t e = let same : i ≡ length {A = Thing} [] + i = omega arith in subst (λ k. slice_get us k ≡ Some t) same e
  get_right (x ∷ ts) us i t e = let same : suc (length ts + i) ≡ length (x ∷ ts) + i = omega arith in subst (λ k. slice_get (x ∷ (ts ++ us)) k ≡ Some t) same (get_right ts us i t e)

  pub temporary_at : (n : ℕ) (f : Function) (fs : List Function) (ts : List Thing) (i : ℕ) → i < temporaries p n f → slice_get (things_functions p (n + 1) fs (things_function p n f ts)) (length (things_named p n f ts) + i) ≡ Some (Temporary n)
  temporary_at n f fs ts i lt = functions_grow (n + 1) fs (things_function p n f ts) (length (things_named p n f ts) + i) (Temporary n)
      (get_right (things_named p n f ts) (replicate (temporaries p n f) (Temporary n)) i (Temporary n) (replicated n (temporaries p n f) i lt))

  -- ---- which variables have homes

  pub each_locals : (P : ℕ → Type 0) (ys xs : List ℕ) → Each P (onto_locals ys xs) → Each P ys × Each P xs
  each_locals P [] xs h = (tt, h)
  each_locals P (y ∷ ys) xs h = let q = each_locals P ys (y ∷ xs) h in ((q.1.0, q.0), q.1.1)

  before_if : (P : ℕ → Type 0) (b : Bool) (n : ℕ) (fs : List Function) (ys xs : List ℕ) → (Each P (onto_functions p n fs (onto_locals ys xs)) → Each P xs) → (Each P (onto_functions p n fs xs) → Each P xs)
      → Each P (onto_functions p n fs (if b then onto_locals ys xs else xs)) → Each P xs
  before_if P true n fs ys xs h j = h
  before_if P false n fs ys xs h j = j

  pub each_before : (P : ℕ → Type 0) (n : ℕ) (fs : List Function) (xs : List ℕ) → Each P (onto_functions p n fs xs) → Each P xs
  each_before P n [] xs h = h
  each_before P n (f ∷ fs) xs h =
      before_if P (slice_index_or (reached p) n false) (n + 1) fs (variables_of p n f) xs (λ q. (each_locals P (variables_of p n f) xs (each_before P (n + 1) fs (onto_locals (variables_of p n f) xs) q)).1) (λ q. each_before P (n + 1) fs xs q) h

  -- the variables of a reached function
  pub each_of : (P : ℕ → Type 0) (n : ℕ) (fs : List Function) (xs : List ℕ) (k : ℕ) (f : Function) → Each P (onto_functions p n fs xs) → slice_get fs k ≡ Some f → slice_index_or (reached p) (n + k) false ≡ true → Each P (variables_of p (n + k) f)
  each_of P n [] xs k f h e r = absurd (cc)
  each_of P n (g ∷ fs) xs zero f h e r =
      let same : g ≡ f = cc in
      let here : n + 0 ≡ n = omega arith in
      let r2 : slice_index_or (reached p) n false ≡ true = subst (λ m. slice_index_or (reached p) m false ≡ true) here r in
      let h2 : Each P (onto_functions p (n + 1) fs (onto_locals (variables_of p n g) xs)) = subst (λ b. Each P (onto_functions p (n + 1) fs (if b then onto_locals (variables_of p n g) xs else xs))) r2 h in
      subst (λ z. Each P (variables_of p (n + 0) z)) same (subst (λ m. Each P (variables_of p m g)) (sym here) (each_locals P (variables_of p n g) xs (each_before P (n + 1) fs (onto_locals (variables_of p n g) xs) h2)).0)
  each_of P n (g ∷ fs) xs (suc k) f h e r =
      let there : n + suc k ≡ n + 1 + k = omega arith in
      subst (λ m. Each P (variables_of p m f)) (sym there)
      (each_of P (n + 1) fs (if slice_index_or (reached p) n false then onto_locals (variables_of p n g) xs else xs) k f h e (subst (λ m. slice_index_or (reached p) m false ≡ true) there r))

-- ---- the whole numbering

pub stands_whole : {X : Type 0} (xs : List X) → StandsFrom xs 0 xs
stands_whole xs k x e = let same : k ≡ 0 + k = omega arith in subst (λ m. slice_get xs m ≡ Some x) same e

zeros_length : (n : ℕ) → length {A = ℕ} (replicate n 0) ≡ n
zeros_length zero = refl
zeros_length (suc n) = let e = zeros_length n in omega (arith, e)

-- the variables and results that have homes
abbrev pub homed : Program → List ℕ
homed p = onto_functions p 0 p.functions (onto_globals 0 p.variables [])

abbrev pub homed_results : Program → List ℕ
homed_results p = onto_results p 0 p.functions []

pub globals_numbered : (p : Program) → Numbered p (globals p) (things_globals 0 p.variables []) (onto_globals 0 p.variables []) []
globals_numbered p = numbered_globals p 0 p.variables _ [] [] [] (stands_whole p.variables) (record { pairs = tt; variables = zeros_length (length p.variables); results = zeros_length (length p.functions); named = tt; resulting = tt })

-- every object is what its thing says, and the home of each variable and result is an object of its own
pub all_numbered : (p : Program) → AllThere p 0 p.functions → Numbered p (numbering p) (things p) (homed p) (homed_results p)
all_numbered p t = numbered_functions p 0 p.functions (globals p) (things_globals 0 p.variables []) (onto_globals 0 p.variables []) [] (stands_whole p.functions) t (globals_numbered p)
