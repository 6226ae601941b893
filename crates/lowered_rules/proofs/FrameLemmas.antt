-- What a sound program in scope says of each of its functions, and which functions a reached one calls.
use Rattle.std.proofs.Common.{◌≡◌, ◌≢◌, ℕ, zero, suc, ◌+◌, ◌<◌, ◌≤◌, true, false, Option, Some, None, List, [], ◌∷◌, ◌++◌, length, refl, sym, subst, arith}
use Rattle.std.specs.Prelude.{◌&&◌, Contains, slice_get, slice_index_or}
use Rattle.std.proofs.lemmas.Bool.{and_parts, ltb-true, false≢true}
use Rattle.std.proofs.lemmas.Option.{slice_get_within}
use Rattle.c_tree.specs.declared.tree.Function.{Function}
use Rattle.c_tree.specs.declared.tree.Program.{Program}
use Rattle.sound_programs.specs.Calls.{Below, functions_below, stmt_below}
use Rattle.sound_programs.specs.Scoped.{IsScoped, functions_scoped, globals_from, in_body, introduced, locals, scoped}
use Rattle.sound_programs.specs.Sound.{functions_fit, is_int, is_main, no_parameters, parameters_fit, stmt_fits}
use Rattle.sound_programs.specs.SoundPrograms.{IsSound}
use Rattle.lowered_graphs.specs.declared.homes.Homes.{Homes}
use Rattle.lowered_graphs.specs.Stmts.{holds, lowered_stmt}
use Rattle.lowered_graphs.specs.GraphOf.{function_callees, no_homes, reached, within_of}
use Rattle.lowered_rules.proofs.EachLemmas.{Each, each_contains, each_from}
use Rattle.lowered_rules.proofs.StmtCalls.{Inner, Lower, Tells, stmt_tells}
use Rattle.lowered_rules.proofs.BodyTemps.{callees_anywhere, locals_anywhere}
use Rattle.lowered_rules.proofs.ReachedLemmas.{reached_induction, reached_main, reached_on}
use Rattle.lowered_rules.proofs.Rising.{Rising, contains_holds, holds_contains, rising}

-- ---- a function

abbrev pub below_of : List ℕ → ℕ → Below
below_of heights n = record { heights = heights; height = slice_index_or heights n 0 }

pub record Judged (p : Program) (heights : List ℕ) (n : ℕ) (f : Function) : Type 0 where
  pub params : parameters_fit p f.params ≡ true
  pub typed : stmt_fits p f.result f.body ≡ true
  pub low : stmt_below (below_of heights n) f.body ≡ true
  pub scoped : (scoped f.body).fits in_body (f.params ++ globals_from 0 p.variables) ≡ true

judged_from : (p : Program) (heights : List ℕ) (n : ℕ) (fs : List Function) → functions_fit p fs ≡ true → functions_below heights n fs ≡ true → functions_scoped (globals_from 0 p.variables) fs ≡ true
    → (k : ℕ) (f : Function) → slice_get fs k ≡ Some f → Judged p heights (n + k) f
judged_from p heights n [] t c s k f e = absurd (cc)
judged_from p heights n (g ∷ fs) t c s zero f e =
    let same : g ≡ f = cc in
    let here : n ≡ n + 0 = omega arith in
    let t1 = and_parts (parameters_fit p g.params) (stmt_fits p g.result g.body && functions_fit p fs) t in
    let t2 = and_parts (stmt_fits p g.result g.body) (functions_fit p fs) t1.1 in
    let c1 = and_parts (stmt_below (below_of heights n) g.body) (functions_below heights (n + 1) fs) c in
    let s1 = and_parts ((scoped g.body).fits in_body (g.params ++ globals_from 0 p.variables)) (functions_scoped (globals_from 0 p.variables) fs) s in
    let j : Judged p heights n g = record { params = t1.0; typed = t2.0; low = c1.0; scoped = s1.0 } in
    subst (λ h. Judged p heights (n + 0) h) same (subst (λ m. Judged p heights m g) here j)
judged_from p heights n (g ∷ fs) t c s (suc k) f e =
    let there : n + 1 + k ≡ n + suc k = omega arith in
    let t1 = and_parts (parameters_fit p g.params) (stmt_fits p g.result g.body && functions_fit p fs) t in
    let t2 = and_parts (stmt_fits p g.result g.body) (functions_fit p fs) t1.1 in
    let c1 = and_parts (stmt_below (below_of heights n) g.body) (functions_below heights (n + 1) fs) c in
    let s1 = and_parts ((scoped g.body).fits in_body (g.params ++ globals_from 0 p.variables)) (functions_scoped (globals_from 0 p.variables) fs) s in
    subst (λ m. Judged p heights m f) there (judged_from p heights (n + 1) fs t2.1 c1.1 s1.1 k f e)

module _ (p : Program) (sound : IsSound p) (in_scope : IsScoped p) where
  abbrev pub heights_of : List ℕ
  heights_of = sound.acyclic.0

  abbrev pub height : ℕ → ℕ
  height n = slice_index_or heights_of n 0

  abbrev pub IsReached : ℕ → Type 0
  IsReached n = slice_index_or (reached p) n false ≡ true

  pub judged : (n : ℕ) (f : Function) → slice_get p.functions n ≡ Some f → Judged p heights_of n f
  judged n f e =
      let same : 0 + n ≡ n = omega arith in
      subst (λ m. Judged p heights_of m f) same (judged_from p heights_of 0 p.functions sound.functions sound.acyclic.1 in_scope.names n f e)

  pub all_rising : Rising (introduced p.functions)
  all_rising = rising (introduced p.functions) in_scope.once

  pub tells : (homes : Homes) (n : ℕ) (f : Function) → slice_get p.functions n ≡ Some f
      → Tells (within_of p homes n) (below_of heights_of n) f.result (lowered_stmt (within_of p homes n) f.body).callees (lowered_stmt (within_of p homes n) f.body).locals
  tells homes n f e = let j = judged n f e in stmt_tells (within_of p homes n) (below_of heights_of n) f.result f.body j.typed j.low

  -- ---- what a reached function calls

  pub record Callee (n m : ℕ) : Type 0 where
    pub function : Function
    pub there : slice_get p.functions m ≡ Some function
    pub is_reached : IsReached m
    pub lower : height m < height n

  called_lower : (n : ℕ) (f : Function) → slice_get p.functions n ≡ Some f → (homes : Homes) (m : ℕ) → Contains (lowered_stmt (within_of p homes n) f.body).callees m → Lower (within_of p homes n) (below_of heights_of n) m
  called_lower n f e homes m c = each_contains (Lower (within_of p homes n) (below_of heights_of n)) (lowered_stmt (within_of p homes n) f.body).callees m (tells homes n f e).callees c

  callee_of : (homes : Homes) (n : ℕ) (f : Function) → slice_get p.functions n ≡ Some f → IsReached n → (m : ℕ) → Contains (lowered_stmt (within_of p homes n) f.body).callees m → Callee n m
  callee_of homes n f e r m c =
      let l = called_lower n f e homes m c in
      let held = contains_holds m (function_callees p n f) (subst (λ xs. Contains xs m) (callees_anywhere p homes n f) c) in
      record {
        function = l.function;
        there = l.there;
        is_reached = reached_on p n m f e r held (slice_get_within p.functions m l.function l.there);
        lower = ltb-true (height m) (height n) l.below;
      }

  pub callees_known : (homes : Homes) (n : ℕ) (f : Function) → slice_get p.functions n ≡ Some f → IsReached n → Each (Callee n) (lowered_stmt (within_of p homes n) f.body).callees
  callees_known homes n f e r = each_from (Callee n) (lowered_stmt (within_of p homes n) f.body).callees (λ m c. callee_of homes n f e r m c)

  -- ---- `main`

  pub record MainIs : Type 0 where
    pub function : Function
    pub there : slice_get p.functions p.main ≡ Some function
    pub none : no_parameters function.params ≡ true
    pub int : is_int function.result ≡ true

  pub main_is : MainIs
  main_is = by_main (slice_get p.functions p.main) refl sound.main
    where
      by_main : (f : Option Function) → slice_get p.functions p.main ≡ f → is_main f ≡ true → MainIs
      by_main None e h = absurd (false≢true h)
      by_main (Some f) e h = let q = and_parts (no_parameters f.params) (is_int f.result) h in record { function = f; there = e; none = q.0; int = q.1 }

  pub main_reached : IsReached p.main
  main_reached = reached_main p (slice_get_within p.functions p.main main_is.function main_is.there)

  -- nothing that is reached is higher than `main`
  pub no_higher : (m : ℕ) → m < length p.functions → IsReached m → height m ≤ height p.main
  no_higher m lt r = reached_induction p (λ k. height k ≤ height p.main) (omega arith) on m lt r
    where
      on : (n k : ℕ) (f : Function) → slice_get p.functions n ≡ Some f → height n ≤ height p.main → holds k (function_callees p n f) ≡ true → height k ≤ height p.main
      on n k f e le h =
          let l = called_lower n f e no_homes k (subst (λ xs. Contains xs k) (sym (callees_anywhere p no_homes n f)) (holds_contains k (function_callees p n f) h)) in
          let below = ltb-true (height k) (height n) l.below in
          omega (arith, le, below)

  -- so `main` is no callee
  pub never_main : (n m : ℕ) (f : Function) → slice_get p.functions n ≡ Some f → IsReached n → Callee n m → m ≢ p.main
  never_main n m f e r c is =
      let most = no_higher n (slice_get_within p.functions n f e) r in
      let same : height p.main < height n = subst (λ k. height k < height n) is c.lower in
      omega (arith, most, same)

  -- ---- locals

  pub locals_known : (homes : Homes) (n : ℕ) (f : Function) → slice_get p.functions n ≡ Some f → Each (Inner (within_of p homes n) (below_of heights_of n)) (locals f.body)
  locals_known homes n f e = subst (Each (Inner (within_of p homes n) (below_of heights_of n))) (locals_anywhere p homes n f) (tells homes n f e).locals
