-- All objects of the graph of a sound program in scope together have fewer than 2 ^ 31 words.
use Rattle.std.proofs.Common.{◌≡◌, ℕ, ◌+◌, ◌*◌, ◌<◌, ◌≤◌, ◌^◌, Bool, true, false, Option, Some, None, List, [], ◌∷◌, ◌++◌, length, replicate, refl, sym, ap, subst, ◌∙◌, arith, length-append}
use Rattle.std.specs.Prelude.{◌==◌, slice_get, slice_index_or, sum_by, if◌then◌else◌}
use Rattle.std.proofs.lemmas.List.Folds.{sum_by-replicate}
use Rattle.std.proofs.lemmas.List.Sums.{sum_by-append}
use Rattle.std.proofs.lemmas.Option.{slice_get_within}
use Rattle.c_values.specs.declared.ops.Ty.{Ty}
use Rattle.c_tree.specs.declared.tree.Variable.{Variable}
use Rattle.c_tree.specs.declared.tree.Function.{Function}
use Rattle.c_tree.specs.declared.tree.Program.{Program}
use Rattle.c_tree.specs.Meaning.{first_words}
use Rattle.sound_programs.specs.Scoped.{IsScoped, introduced}
use Rattle.sound_programs.specs.SoundPrograms.{IsSound}
use Rattle.flow_graph.specs.declared.graph.Object.{Object}
use Rattle.lowered_graphs.specs.declared.numbering.Numbering.{Numbering}
use Rattle.lowered_graphs.specs.GraphOf.{add_function, add_functions, add_global, add_globals, add_local, add_locals, add_named, add_result, add_result_of, add_variable, bodies_from, globals, graph_of, homes_of, made_function, no_homes, object_of, objects_before, operations, reached, scalar, temporaries, with_function, within_of}
use Rattle.lowered_rules.proofs.BodyTemps.{body_temps, locals_anywhere}
use Rattle.lowered_rules.proofs.EachLemmas.{Each, each_append, each_weaker}
use Rattle.lowered_rules.proofs.GraphOrder.{orderly_body}
use Rattle.lowered_rules.proofs.Introduced.{introduced_by}
use Rattle.lowered_rules.proofs.ObjectRules.{length_small, sound_there, variable_fits}
use Rattle.lowered_rules.proofs.Rising.{rising, rising_length}
use Rattle.lowered_rules.proofs.ThingsOf.{AllThere, IsThere, StandsFrom, stands_head, stands_tail, stands_whole, variables_of}

-- the words of all objects so far
abbrev words_of_all : List Object → ℕ
words_of_all os = sum_by (λ (o : Object). o.words) os

abbrev words : Numbering → ℕ
words m = words_of_all m.objects

one_more : (os : List Object) (o : Object) → words_of_all (os ++ o ∷ []) ≡ words_of_all os + o.words
one_more os o = let e = sum_by-append (λ (x : Object). x.words) os (o ∷ []) in omega (arith, e)

many_more : (os : List Object) (k : ℕ) → words_of_all (os ++ replicate k scalar) ≡ words_of_all os + k
many_more os k =
    let e = sum_by-append (λ (x : Object). x.words) os (replicate k scalar) in
    let same = sum_by-replicate (λ (x : Object). x.words) k scalar in
    let one : k * 1 ≡ k = omega arith in
    omega (arith, e, same, one)

module _ (p : Program) (sound : IsSound p) where
  variable_words : (x : ℕ) (v : Variable) (first : List ℕ) (m : Numbering) → slice_get p.variables x ≡ Some v → words (add_variable x (object_of v first) m) ≤ words m + 1024
  variable_words x v first m e =
      let few = length_small v.length (variable_fits p.variables x v sound.variables e).0 in
      let more = one_more m.objects (object_of v first) in
      omega (arith, few, more)

  global_words : (x : ℕ) (v : Variable) (m : Numbering) → slice_get p.variables x ≡ Some v → words (add_global x v m) ≤ words m + 1024
  global_words x v m e = by_global v.global
    where
      by_global : (b : Bool) → words (if b then add_variable x (object_of v (first_words v)) m else m) ≤ words m + 1024
      by_global true = variable_words x v (first_words v) m e
      by_global false = omega arith

  globals_words : (x : ℕ) (vs : List Variable) (m : Numbering) → StandsFrom p.variables x vs → words (add_globals x vs m) ≤ words m + 1024 * length vs
  globals_words x [] m s = omega arith
  globals_words x (v ∷ vs) m s =
      let one = global_words x v m (stands_head p.variables x v vs s) in
      let rest = globals_words (x + 1) vs (add_global x v m) (stands_tail p.variables x v vs s) in
      omega (arith, one, rest)

  local_words : (x : ℕ) (v : Option Variable) (m : Numbering) → slice_get p.variables x ≡ v → words (add_local x v m) ≤ words m + 1024
  local_words x None m e = omega arith
  local_words x (Some v) m e = variable_words x v [] m e

  locals_words : (xs : List ℕ) (m : Numbering) → words (add_locals p xs m) ≤ words m + 1024 * length xs
  locals_words [] m = omega arith
  locals_words (x ∷ xs) m =
      let one = local_words x (slice_get p.variables x) m refl in
      let rest = locals_words xs (add_local x (slice_get p.variables x) m) in
      omega (arith, one, rest)

  result_words : (n : ℕ) (ty : Option Ty) (m : Numbering) → words (add_result_of p n ty m) ≤ words m + 1
  result_words n None m = omega arith
  result_words n (Some ty) m = by_main (n == p.main)
    where
      by_main : (b : Bool) → words (if b then m else add_result n m) ≤ words m + 1
      by_main true = omega arith
      by_main false = let e = one_more m.objects scalar in omega (arith, e)

  function_words : (n : ℕ) (f : Function) (m : Numbering) → words (add_function p n f m) ≤ words m + 1 + 1024 * length (variables_of p n f) + temporaries p n f
  function_words n f m =
      let one = result_words n f.result m in
      let more = locals_words (variables_of p n f) (add_result_of p n f.result m) in
      let all = many_more (add_named p n f m).objects (temporaries p n f) in
      omega (arith, one, more, all)

  introduced_many : (n : ℕ) (f : Function) (fs : List Function) → length (introduced (f ∷ fs)) ≡ length (variables_of p n f) + length (introduced fs)
  introduced_many n f fs =
      length-append (introduced_by f) (introduced fs) ∙ ap (λ xs. length (f.params ++ xs) + length (introduced fs)) (sym (locals_anywhere p no_homes n f))

  -- a body has no more temporaries than operations
  body_paces : (n op base : ℕ) (f : Function) → temporaries p n f + op ≤ (made_function p (homes_of p) n op base f).counts.op
  body_paces n op base f =
      let temps = body_temps p (homes_of p) n op base f in
      let pace = (orderly_body (within_of p (homes_of p) n) f (record { op = op; temp = base })).pace in
      omega (arith, temps, pace)

  abbrev Ops : ℕ → ℕ → Numbering → List Function → ℕ
  Ops n op m fs = (bodies_from p (homes_of p) n op m fs).ops

  abbrev behind : ℕ → ℕ → Numbering → Function → ℕ
  behind n op m f = (made_function p (homes_of p) n op (objects_before p n f m) f).counts.op

  -- the words of functions of which the first may be reached
  words_if : (b : Bool) (n op : ℕ) (m : Numbering) (f : Function) (fs : List Function)
      → words (add_functions p (n + 1) fs (add_function p n f m)) + behind n op m f ≤ words (add_function p n f m) + length fs + 1024 * length (introduced fs) + Ops (n + 1) (behind n op m f) (add_function p n f m) fs
      → words (add_functions p (n + 1) fs m) + op ≤ words m + length fs + 1024 * length (introduced fs) + Ops (n + 1) op m fs
      → words (add_functions p (n + 1) fs (if b then add_function p n f m else m)) + op ≤ words m + length (f ∷ fs) + 1024 * length (introduced (f ∷ fs))
      + (if b then with_function f (made_function p (homes_of p) n op (objects_before p n f m) f) (bodies_from p (homes_of p) (n + 1) (behind n op m f) (add_function p n f m) fs) else bodies_from p (homes_of p) (n + 1) op m fs).ops
  words_if true n op m f fs rest other =
      let here = function_words n f m in
      let pace = body_paces n op (objects_before p n f m) f in
      let many = introduced_many n f fs in
      omega (arith, here, rest, pace, many)
  words_if false n op m f fs other rest = let many = introduced_many n f fs in omega (arith, rest, many)

  functions_words : (n op : ℕ) (m : Numbering) (fs : List Function) → words (add_functions p n fs m) + op ≤ words m + length fs + 1024 * length (introduced fs) + Ops n op m fs
  functions_words n op m [] = omega arith
  functions_words n op m (f ∷ fs) =
      words_if (slice_index_or (reached p) n false) n op m f fs (functions_words (n + 1) (behind n op m f) (add_function p n f m) fs) (functions_words (n + 1) op m fs)

  -- ---- there are no more parameters and locals than variables

  introduced_within : (n : ℕ) (fs : List Function) → AllThere p n fs → Each (λ x. x < length p.variables) (introduced fs)
  introduced_within n [] t = tt
  introduced_within n (f ∷ fs) t =
      each_append (λ x. x < length p.variables) (introduced_by f) (introduced fs)
      (each_weaker (IsThere p) (λ x. x < length p.variables) (λ x v. slice_get_within p.variables x v.0 v.1) (introduced_by f)
      (subst (Each (IsThere p)) (ap (λ xs. f.params ++ xs) (locals_anywhere p no_homes n f)) t.0))
      (introduced_within (n + 1) fs t.1)

  pub few_words : IsScoped p → operations p ≤ 4096 → sum_by (λ (o : Object). o.words) (graph_of p).objects < 2 ^ 31
  few_words in_scope few =
      let first = globals_words 0 p.variables (record { objects = []; variables = replicate (length p.variables) 0; results = replicate (length p.functions) 0 }) (stands_whole p.variables) in
      let all = functions_words 0 0 (globals p) p.functions in
      let most = rising_length (length p.variables) (introduced p.functions) (rising (introduced p.functions) in_scope.once) (introduced_within 0 p.functions (sound_there p sound)) in
      omega (arith, first, all, most, few, sound.few_functions, sound.few_variables)
