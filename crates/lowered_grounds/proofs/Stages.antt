-- Where the objects of a reached function stand: its parameters, its locals and its result before its temporaries.
use Rattle.std.proofs.Common.{◌≡◌, ◌≢◌, ℕ, zero, suc, ◌+◌, ◌<◌, Bool, true, false, Option, Some, None, List, [], ◌∷◌, ◌++◌, length, replicate, refl, sym, subst, arith}
use Rattle.std.specs.Prelude.{◌==◌, slice_get, slice_index_or, if◌then◌else◌}
use Rattle.std.proofs.lemmas.Option.{slice_get_within}
use Rattle.c_values.specs.declared.ops.Ty.{Ty}
use Rattle.c_tree.specs.declared.tree.Function.{Function}
use Rattle.c_tree.specs.declared.tree.Program.{Program}
use Rattle.sound_programs.specs.SoundPrograms.{IsSound}
use Rattle.sound_programs.specs.Scoped.{IsScoped, holds, introduced}
use Rattle.lowered_graphs.specs.declared.numbering.Numbering.{Numbering}
use Rattle.lowered_graphs.specs.GraphOf.{reached, add_named, add_function, add_functions, objects_before, temporaries, globals, numbering}
use Rattle.lowered_rules.proofs.EachLemmas.{Each}
use Rattle.lowered_rules.proofs.ThingLemmas.{Thing, Named, Result, Temporary, get_left, pairs_length, Numbered}
use Rattle.lowered_rules.proofs.ThingsOf.{StandsFrom, AllThere, variables_of, things_globals, things_named, things_function, things_functions, things, onto_locals, onto_globals, onto_result, each_locals, functions_grow, temporary_at, stands_head, stands_tail, numbered_named, numbered_function, stands_whole, globals_numbered}
use Rattle.lowered_rules.proofs.ObjectRules.{sound_there}
use Rattle.lowered_rules.proofs.Rising.{Rising, rising_right}
use Rattle.lowered_rules.proofs.Introduced.{introduced_by}
use Rattle.lowered_rules.proofs.FrameLemmas.{all_rising}
use Rattle.lowered_rules.proofs.PlaceLemmas.{before_from, before}
use Rattle.lowered_grounds.proofs.Introduced.{rising_apart, each_held}
use Rattle.lowered_grounds.proofs.NumberingKeeps.{variables_own, functions_home, functions_result}

-- the things at the homes of a function's variables and of its result, where its temporaries begin at a place, in a whole numbering
pub record Stage (p : Program) (n : ℕ) (f : Function) (base : ℕ) (whole : Numbering) (all : List Thing) : Type 0 where
  pub low : (x : ℕ) → holds x (introduced_by f) ≡ true → slice_index_or whole.variables x 0 < base
  pub named : (x : ℕ) → holds x (introduced_by f) ≡ true → slice_get all (slice_index_or whole.variables x 0) ≡ Some (Named x)
  pub result_low : (n == p.main) ≡ false → f.result ≢ None → slice_index_or whole.results n 0 < base
  pub result : (n == p.main) ≡ false → f.result ≢ None → slice_get all (slice_index_or whole.results n 0) ≡ Some (Result n)
  pub temporary : (i : ℕ) → i < temporaries p n f → slice_get all (base + i) ≡ Some (Temporary n)

module _ (p : Program) where
  -- ---- the function that is numbered next

  -- the result's thing, where there is one
  resulting : (P : ℕ → Type 0) (n : ℕ) (ty : Option Ty) (rs : List ℕ) → Each P (onto_result p n ty rs) → (n == p.main) ≡ false → ty ≢ None → P n
  resulting P n None rs h other ne = absurd (ne refl)
  resulting P n (Some ty) rs h other ne = (subst (λ b. Each P (if b then rs else n ∷ rs)) other h).0

  module _ (n : ℕ) (f : Function) (fs : List Function) (m : Numbering) (ts : List Thing) (xs rs : List ℕ) (rises : Rising (introduced_by f ++ introduced fs))
      (h : Numbered p (add_named p n f m) (things_named p n f ts) (onto_locals (variables_of p n f) xs) (onto_result p n f.result rs)) where
    abbrev named : Numbering
    named = add_named p n f m

    abbrev whole : Numbering
    whole = add_functions p (n + 1) fs (add_function p n f m)

    abbrev all : List Thing
    all = things_functions p (n + 1) fs (things_function p n f ts)

    size : length (things_named p n f ts) ≡ length named.objects
    size = pairs_length p (things_named p n f ts) named.objects h.pairs

    grown : (k : ℕ) (t : Thing) → slice_get (things_named p n f ts) k ≡ Some t → slice_get all k ≡ Some t
    grown k t e = functions_grow p (n + 1) fs (things_function p n f ts) k t (get_left (things_named p n f ts) (replicate (temporaries p n f) (Temporary n)) k t e)

    within : (k : ℕ) (t : Thing) → slice_get (things_named p n f ts) k ≡ Some t → k < length named.objects
    within k t e = let lt = slice_get_within (things_named p n f ts) k t e in omega (arith, lt, size)

    abbrev Homed : ℕ → Type 0
    Homed x = slice_get (things_named p n f ts) (slice_index_or named.variables x 0) ≡ Some (Named x)

    homed : (x : ℕ) → holds x (introduced_by f) ≡ true → Homed x
    homed x held = each_held Homed (introduced_by f) x (subst (Each Homed) (variables_own p n f) (each_locals p Homed (variables_of p n f) xs h.named).0) held

    same_home : (x : ℕ) → holds x (introduced_by f) ≡ true → slice_index_or named.variables x 0 ≡ slice_index_or whole.variables x 0
    same_home x held = sym (functions_home p x (n + 1) fs (add_function p n f m) (λ k. rising_apart (introduced_by f) (introduced fs) x rises held k))

    abbrev Resulted : ℕ → Type 0
    Resulted j = slice_get (things_named p n f ts) (slice_index_or named.results j 0) ≡ Some (Result j)

    same_result : slice_index_or named.results n 0 ≡ slice_index_or whole.results n 0
    same_result = sym (functions_result p n (n + 1) fs (add_function p n f m) (omega arith))

    stage_next : Stage p n f (length named.objects) whole all
    stage_next = record {
      low = λ x held. subst (λ k. k < length named.objects) (same_home x held) (within (slice_index_or named.variables x 0) (Named x) (homed x held));
      named = λ x held. subst (λ k. slice_get all k ≡ Some (Named x)) (same_home x held) (grown (slice_index_or named.variables x 0) (Named x) (homed x held));
      result_low = λ other ne. subst (λ k. k < length named.objects) same_result (within (slice_index_or named.results n 0) (Result n) (resulting Resulted n f.result rs h.resulting other ne));
      result = λ other ne. subst (λ k. slice_get all k ≡ Some (Result n)) same_result (grown (slice_index_or named.results n 0) (Result n) (resulting Resulted n f.result rs h.resulting other ne));
      temporary = λ i lt. subst (λ k. slice_get all (k + i) ≡ Some (Temporary n)) size (temporary_at p n f fs ts i lt);
    }

  -- ---- each function

  numbered_or : (b : Bool) (m k : Numbering) (ts us : List Thing) (xs ys rs qs : List ℕ) → Numbered p m ts xs rs → Numbered p k us ys qs → Numbered p (if b then m else k) (if b then ts else us) (if b then xs else ys) (if b then rs else qs)
  numbered_or true m k ts us xs ys rs qs h j = h
  numbered_or false m k ts us xs ys rs qs h j = j

  stage_from : (n : ℕ) (fs : List Function) (m : Numbering) (ts : List Thing) (xs rs : List ℕ) (k : ℕ) (f : Function) → StandsFrom p.functions n fs → AllThere p n fs → Rising (introduced fs) → Numbered p m ts xs rs
      → slice_get fs k ≡ Some f → slice_index_or (reached p) (n + k) false ≡ true → Stage p (n + k) f (objects_before p (n + k) f (before_from p n fs m k)) (add_functions p n fs m) (things_functions p n fs ts)
  stage_from n [] m ts xs rs k f s there rises h e r = absurd (cc)
  stage_from n (g ∷ fs) m ts xs rs zero f s there rises h e r =
      let same : g ≡ f = cc in
      let here : n ≡ n + 0 = omega arith in
      let r0 : slice_index_or (reached p) n false ≡ true = subst (λ j. slice_index_or (reached p) j false ≡ true) (sym here) r in
      let stage : Stage p n g (objects_before p n g m) (add_functions p (n + 1) fs (add_function p n g m)) (things_functions p (n + 1) fs (things_function p n g ts)) =
      stage_next n g fs m ts xs rs rises (numbered_named p n g m ts xs rs (slice_get_within p.functions n g (stands_head p.functions n g fs s)) there.0 h) in
      subst (λ z. Stage p (n + 0) z (objects_before p (n + 0) z m) (add_functions p n (g ∷ fs) m) (things_functions p n (g ∷ fs) ts)) same
      (subst (λ j. Stage p j g (objects_before p j g m) (add_functions p n (g ∷ fs) m) (things_functions p n (g ∷ fs) ts)) here
      (subst (λ b. Stage p n g (objects_before p n g m) (add_functions p (n + 1) fs (if b then add_function p n g m else m)) (things_functions p (n + 1) fs (if b then things_function p n g ts else ts))) (sym r0) stage))
  stage_from n (g ∷ fs) m ts xs rs (suc k) f s there rises h e r =
      let on : n + 1 + k ≡ n + suc k = omega arith in
      let b : Bool = slice_index_or (reached p) n false in
      subst (λ j. Stage p j f (objects_before p j f (before_from p (n + 1) fs (if slice_index_or (reached p) n false then add_function p n g m else m) k)) (add_functions p n (g ∷ fs) m) (things_functions p n (g ∷ fs) ts)) on
      (stage_from (n + 1) fs (if b then add_function p n g m else m) (if b then things_function p n g ts else ts) (if b then onto_locals (variables_of p n g) xs else xs) (if b then onto_result p n g.result rs else rs) k f
      (stands_tail p.functions n g fs s) there.1 (rising_right (introduced_by g) (introduced fs) rises)
      (numbered_or b (add_function p n g m) m (things_function p n g ts) ts (onto_locals (variables_of p n g) xs) xs (onto_result p n g.result rs) rs (numbered_function p n g m ts xs rs (slice_get_within p.functions n g (stands_head p.functions n g fs s)) there.0 h) h)
      e (subst (λ j. slice_index_or (reached p) j false ≡ true) (sym on) r))

-- every reached function
pub stage_of : (p : Program) → IsSound p → IsScoped p → (n : ℕ) (f : Function) → slice_get p.functions n ≡ Some f → slice_index_or (reached p) n false ≡ true
    → Stage p n f (objects_before p n f (before p n)) (numbering p) (things p)
stage_of p sound names n f e r =
    let same : 0 + n ≡ n = omega arith in
    let back : n ≡ 0 + n = omega arith in
    subst (λ j. Stage p j f (objects_before p j f (before p n)) (numbering p) (things p)) same
    (stage_from p 0 p.functions (globals p) (things_globals 0 p.variables []) (onto_globals 0 p.variables []) [] n f (stands_whole p.functions) (sound_there p sound) (all_rising p sound names) (globals_numbered p)
    e (subst (λ j. slice_index_or (reached p) j false ≡ true) back r))
