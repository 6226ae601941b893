-- Each global, and each parameter and local of a reached function, has a home of its own.
use Rattle.std.proofs.Common.{◌≡◌, ◌≢◌, ℕ, zero, suc, ◌+◌, Bool, true, false, Option, Some, None, List, [], ◌∷◌, sym, subst, arith}
use Rattle.std.specs.Prelude.{◌==◌, slice_get, slice_index_or, if◌then◌else◌}
use Rattle.std.proofs.lemmas.Bool.{eqb-true, false_from_ne_true}
use Rattle.c_values.specs.declared.ops.Ty.{Ty}
use Rattle.c_tree.specs.declared.tree.Variable.{Variable}
use Rattle.c_tree.specs.declared.tree.Function.{Function}
use Rattle.c_tree.specs.declared.tree.Program.{Program}
use Rattle.lowered_graphs.specs.GraphOf.{numbering, reached}
use Rattle.sound_programs.specs.SoundPrograms.{IsSound}
use Rattle.lowered_rules.proofs.EachLemmas.{Each}
use Rattle.lowered_rules.proofs.ThingLemmas.{Named, Result}
use Rattle.lowered_rules.proofs.ThingsOf.{things, onto_global, onto_globals, onto_result, onto_results, variables_of, each_before, each_of, all_numbered}
use Rattle.lowered_rules.proofs.ObjectRules.{sound_there}

onto_rest : (P : ℕ → Type 0) (b : Bool) (x : ℕ) (xs : List ℕ) → Each P (onto_global b x xs) → Each P xs
onto_rest P true x xs h = h.1
onto_rest P false x xs h = h

onto_before : (P : ℕ → Type 0) (x : ℕ) (vs : List Variable) (xs : List ℕ) → Each P (onto_globals x vs xs) → Each P xs
onto_before P x [] xs h = h
onto_before P x (v ∷ vs) xs h = onto_rest P v.global x xs (onto_before P (x + 1) vs (onto_global v.global x xs) h)

each_global : (P : ℕ → Type 0) (x : ℕ) (vs : List Variable) (xs : List ℕ) (k : ℕ) (v : Variable) → Each P (onto_globals x vs xs) → slice_get vs k ≡ Some v → v.global ≡ true → P (x + k)
each_global P x [] xs k v h e g = absurd (cc)
each_global P x (u ∷ vs) xs zero v h e g =
    let same : u ≡ v = cc in
    let here : x ≡ x + 0 = omega arith in
    let is : u.global ≡ true = subst (λ (z : Variable). z.global ≡ true) (sym same) g in
    subst P here (subst (λ b. Each P (onto_global b x xs)) is (onto_before P (x + 1) vs (onto_global u.global x xs) h)).0
each_global P x (u ∷ vs) xs (suc k) v h e g =
    let there : x + 1 + k ≡ x + suc k = omega arith in subst P there (each_global P (x + 1) vs (onto_global u.global x xs) k v h e g)

-- the home of a global is an object of its own
pub global_at : (p : Program) → IsSound p → (x : ℕ) (v : Variable) → slice_get p.variables x ≡ Some v → v.global ≡ true → slice_get (things p) (slice_index_or (numbering p).variables x 0) ≡ Some (Named x)
global_at p s x v e g =
    let P : ℕ → Type 0 = λ y. slice_get (things p) (slice_index_or (numbering p).variables y 0) ≡ Some (Named y) in
    let same : 0 + x ≡ x = omega arith in
    subst P same (each_global P 0 p.variables [] x v (each_before p P 0 p.functions (onto_globals 0 p.variables []) (all_numbered p (sound_there p s)).named) e g)

-- and so is that of each parameter and local of a reached function
pub variables_at : (p : Program) → IsSound p → (n : ℕ) (f : Function) → slice_get p.functions n ≡ Some f → slice_index_or (reached p) n false ≡ true
    → Each (λ y. slice_get (things p) (slice_index_or (numbering p).variables y 0) ≡ Some (Named y)) (variables_of p n f)
variables_at p s n f e r =
    let P : ℕ → Type 0 = λ y. slice_get (things p) (slice_index_or (numbering p).variables y 0) ≡ Some (Named y) in
    let same : 0 + n ≡ n = omega arith in
    let back : n ≡ 0 + n = omega arith in
    subst (λ m. Each P (variables_of p m f)) same
    (each_of p P 0 p.functions (onto_globals 0 p.variables []) n f (all_numbered p (sound_there p s)).named e (subst (λ m. slice_index_or (reached p) m false ≡ true) back r))

-- ---- results

result_rest : (P : ℕ → Type 0) (p : Program) (n : ℕ) (ty : Option Ty) (rs : List ℕ) → Each P (onto_result p n ty rs) → Each P rs
result_rest P p n None rs h = h
result_rest P p n (Some ty) rs h = by_main (n == p.main) h
  where
    by_main : (b : Bool) → Each P (if b then rs else n ∷ rs) → Each P rs
    by_main true k = k
    by_main false k = k.1

reached_rest : (P : ℕ → Type 0) (p : Program) (b : Bool) (n : ℕ) (ty : Option Ty) (rs : List ℕ) → Each P (if b then onto_result p n ty rs else rs) → Each P rs
reached_rest P p true n ty rs h = result_rest P p n ty rs h
reached_rest P p false n ty rs h = h

results_before : (P : ℕ → Type 0) (p : Program) (n : ℕ) (fs : List Function) (rs : List ℕ) → Each P (onto_results p n fs rs) → Each P rs
results_before P p n [] rs h = h
results_before P p n (f ∷ fs) rs h =
    reached_rest P p (slice_index_or (reached p) n false) n f.result rs
    (results_before P p (n + 1) fs (if slice_index_or (reached p) n false then onto_result p n f.result rs else rs) h)

result_first : (P : ℕ → Type 0) (p : Program) (n : ℕ) (ty : Ty) (r : Option Ty) (rs : List ℕ) → n ≢ p.main → r ≡ Some ty → Each P (onto_result p n r rs) → P n
result_first P p n ty r rs ne e h = by_main (n == p.main) (false_from_ne_true (n == p.main) (λ is. ne (eqb-true n p.main is))) (subst (λ z. Each P (onto_result p n z rs)) e h)
  where
    by_main : (b : Bool) → b ≡ false → Each P (if b then rs else n ∷ rs) → P n
    by_main true bad k = absurd (cc)
    by_main false is k = k.0

each_result : (P : ℕ → Type 0) (p : Program) (n : ℕ) (fs : List Function) (rs : List ℕ) (k : ℕ) (f : Function) (ty : Ty) → Each P (onto_results p n fs rs) → slice_get fs k ≡ Some f
    → slice_index_or (reached p) (n + k) false ≡ true → n + k ≢ p.main → f.result ≡ Some ty → P (n + k)
each_result P p n [] rs k f ty h e r ne t = absurd (cc)
each_result P p n (g ∷ fs) rs zero f ty h e r ne t =
    let same : g ≡ f = cc in
    let here : n + 0 ≡ n = omega arith in
    let is : slice_index_or (reached p) n false ≡ true = subst (λ m. slice_index_or (reached p) m false ≡ true) here r in
    let other : n ≢ p.main = subst (λ m. m ≢ p.main) here ne in
    let typed : g.result ≡ Some ty = subst (λ (z : Function). z.result ≡ Some ty) (sym same) t in
    subst P (sym here) (result_first P p n ty g.result rs other typed
    (results_before P p (n + 1) fs (onto_result p n g.result rs) (subst (λ b. Each P (onto_results p (n + 1) fs (if b then onto_result p n g.result rs else rs))) is h)))
each_result P p n (g ∷ fs) rs (suc k) f ty h e r ne t =
    let there : n + suc k ≡ n + 1 + k = omega arith in
    subst P (sym there) (each_result P p (n + 1) fs (if slice_index_or (reached p) n false then onto_result p n g.result rs else rs) k f ty h e
    (subst (λ m. slice_index_or (reached p) m false ≡ true) there r) (subst (λ m. m ≢ p.main) there ne) t)

-- the home of the result of a reached function other than `main`
pub result_at : (p : Program) → IsSound p → (n : ℕ) (f : Function) (ty : Ty) → slice_get p.functions n ≡ Some f → slice_index_or (reached p) n false ≡ true → n ≢ p.main → f.result ≡ Some ty
    → slice_get (things p) (slice_index_or (numbering p).results n 0) ≡ Some (Result n)
result_at p s n f ty e r ne t =
    let P : ℕ → Type 0 = λ m. slice_get (things p) (slice_index_or (numbering p).results m 0) ≡ Some (Result m) in
    let same : 0 + n ≡ n = omega arith in
    let back : n ≡ 0 + n = omega arith in
    subst P same (each_result P p 0 p.functions [] n f ty (all_numbered p (sound_there p s)).resulting e
    (subst (λ m. slice_index_or (reached p) m false ≡ true) back r) (subst (λ m. m ≢ p.main) back ne) t)
