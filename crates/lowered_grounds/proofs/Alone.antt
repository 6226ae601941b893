-- The graph of a program has one function exactly where `main` calls none.
use Rattle.std.proofs.Common.{◌≡◌, ℕ, ◌<◌, true, false, Some, List, [], ◌∷◌, length, refl, sym, ap, subst, ◌∙◌, arith}
use Rattle.std.specs.Prelude.{slice_get, slice_index_or}
use Rattle.std.proofs.lemmas.Bool.{false≢true}
use Rattle.std.proofs.lemmas.Option.{slice_get_within}
use Rattle.c_tree.specs.declared.tree.Function.{Function}
use Rattle.c_tree.specs.declared.tree.Program.{Program}
use Rattle.sound_programs.specs.SoundPrograms.{IsSound}
use Rattle.sound_programs.specs.Scoped.{IsScoped}
use Rattle.flow_graph.specs.declared.graph.Func.{Func}
use Rattle.lowered_graphs.specs.Stmts.{holds}
use Rattle.lowered_graphs.specs.GraphOf.{no_homes, function_callees, reached, graph_of}
use Rattle.lowered_rules.proofs.EachLemmas.{Each}
use Rattle.lowered_rules.proofs.ReachedLemmas.{reached_induction}
use Rattle.lowered_rules.proofs.FrameLemmas.{Callee, callees_known, height, main_reached}
use Rattle.lowered_rules.proofs.PlaceLemmas.{place, one_place, StandsAt, stands_at, FoundAt, found_at}
use Rattle.lowered_grounds.specs.Laws.{GraphsStandAlone}

module _ (p : Program) (sound : IsSound p) (names : IsScoped p) (main : Function) (found : slice_get p.functions p.main ≡ Some main) where
  abbrev functions : List Func
  functions = (graph_of p).functions

  main_stands : StandsAt p p.main main
  main_stands = stands_at p sound p.main main found (main_reached p sound names)

  -- ---- where `main` calls none, nothing else is reached

  only_main : function_callees p p.main main ≡ [] → (m : ℕ) → m < length p.functions → slice_index_or (reached p) m false ≡ true → m ≡ p.main
  only_main none m lt r = reached_induction p (λ k. k ≡ p.main) refl on m lt r
    where
      on : (n k : ℕ) (f : Function) → slice_get p.functions n ≡ Some f → n ≡ p.main → holds k (function_callees p n f) ≡ true → k ≡ p.main
      on n k f e is h =
          let both : Some f ≡ Some main = sym e ∙ (ap (slice_get p.functions) is ∙ found) in
          let same : f ≡ main = cc in
          absurd (false≢true (subst (λ xs. holds k xs ≡ true) none (subst (λ z. holds k (function_callees p p.main z) ≡ true) same (subst (λ j. holds k (function_callees p j f) ≡ true) is h))))

  one_function : function_callees p p.main main ≡ [] → length functions ≡ 1
  one_function none = by functions refl
    where
      is_main : (at : ℕ) (func : Func) → FoundAt p at func → place p p.main ≡ at
      is_main at func f = ap (place p) (sym (only_main none f.number (slice_get_within p.functions f.number f.function f.there) f.is_reached)) ∙ f.place_is

      by : (fs : List Func) → functions ≡ fs → length fs ≡ 1
      by [] q = let there : slice_get [] (place p p.main) ≡ Some main_stands.func = subst (λ fs. slice_get fs (place p p.main) ≡ Some main_stands.func) q main_stands.there in absurd (cc)
      by (a ∷ []) q = refl
      by (a ∷ b ∷ rest) q =
          let first : place p p.main ≡ 0 = is_main 0 a (found_at p sound 0 a (ap (λ fs. slice_get fs 0) q)) in
          let second : place p p.main ≡ 1 = is_main 1 b (found_at p sound 1 b (ap (λ fs. slice_get fs 1) q)) in
          absurd (omega (arith, first, second))

  -- ---- where there is one function, nothing is called

  calls_none : length functions ≡ 1 → (xs : List ℕ) → Each (Callee p sound names p.main) xs → xs ≡ []
  calls_none one [] h = refl
  calls_none one (m ∷ xs) h =
      let c : Callee p sound names p.main m = h.0 in
      let stands : StandsAt p m c.function = stands_at p sound m c.function c.there c.is_reached in
      let low = slice_get_within functions (place p m) stands.func stands.there in
      let lowest = slice_get_within functions (place p p.main) main_stands.func main_stands.there in
      let same : m ≡ p.main = one_place p m p.main c.is_reached (main_reached p sound names) (omega (arith, low, lowest, one)) in
      let less : height p sound names p.main < height p sound names p.main = subst (λ k. height p sound names k < height p sound names p.main) same c.lower in
      absurd (omega (arith, less))

  no_callees : length functions ≡ 1 → function_callees p p.main main ≡ []
  no_callees one = calls_none one (function_callees p p.main main) (callees_known p sound names no_homes p.main main found (main_reached p sound names))

pub graphs_stand_alone : GraphsStandAlone
graphs_stand_alone p sound names main found = (no_callees p sound names main found, one_function p sound names main found)
