-- A graph has no more functions than its program, and no more objects than words.
use Rattle.std.proofs.Common.{◌≡◌, ℕ, ◌+◌, ◌≤◌, Bool, true, false, Option, Some, None, List, [], ◌∷◌, length, ap, arith}
use Rattle.std.specs.Prelude.{sum_by, slice_index_or, if◌then◌else◌, nat_le}
use Rattle.std.proofs.lemmas.Bool.{and_parts}
use Rattle.std.proofs.lemmas.List.Sums.{sum_by-cons}
use Rattle.c_tree.specs.declared.tree.Function.{Function}
use Rattle.c_tree.specs.declared.tree.Program.{Program}
use Rattle.sound_programs.specs.Sound.{length_fits}
use Rattle.sound_programs.specs.Scoped.{IsScoped}
use Rattle.sound_programs.specs.SoundPrograms.{IsSound}
use Rattle.flow_graph.specs.declared.graph.Object.{Object}
use Rattle.lowered_graphs.specs.declared.numbering.Numbering.{Numbering}
use Rattle.lowered_graphs.specs.Exprs.{length_or}
use Rattle.lowered_graphs.specs.GraphOf.{Bodies, add_function, bodies_from, globals, graph_of, homes_of, made_function, numbering, objects_before, operations, reached, with_function}
use Rattle.lowered_rules.proofs.ObjectRules.{sound_there, variable_fits}
use Rattle.lowered_rules.proofs.SmallRules.{few_words}
use Rattle.lowered_rules.proofs.ThingLemmas.{IsOf, Pairs, Thing, Named, Result, Temporary}
use Rattle.lowered_rules.proofs.ThingsOf.{all_numbered, things}
use Rattle.lowered_counts.specs.Counts.{GraphsAreSmall, IsSmall}

module _ (p : Program) where
  -- ---- functions

  few_if : (b : Bool) (x y : Bodies) (n : ℕ) → length x.functions ≤ n + 1 → length y.functions ≤ n → length (if b then x else y).functions ≤ n + 1
  few_if true x y n h k = h
  few_if false x y n h k = omega (arith, k)

  few_functions : (n op : ℕ) (m : Numbering) (fs : List Function) → length (bodies_from p (homes_of p) n op m fs).functions ≤ length fs
  few_functions n op m [] = omega arith
  few_functions n op m (f ∷ fs) =
      let made = made_function p (homes_of p) n op (objects_before p n f m) f in
      let more = bodies_from p (homes_of p) (n + 1) made.counts.op (add_function p n f m) fs in
      let others = bodies_from p (homes_of p) (n + 1) op m fs in
      let one = few_functions (n + 1) made.counts.op (add_function p n f m) fs in
      let none = few_functions (n + 1) op m fs in
      let most = few_if (slice_index_or (reached p) n false) (with_function f made more) others (length fs) (omega (arith, one)) none in
      omega (arith, most)

  -- ---- objects

  some_words : (n : Option ℕ) → length_fits n ≡ true → 1 ≤ length_or n
  some_words None h = omega arith
  some_words (Some n) h = let q = and_parts (nat_le 1 n) (nat_le n 1024) h in grind (arith, q.0)

  module _ (sound : IsSound p) where
    has_words : (t : Thing) (o : Object) → IsOf p t o → 1 ≤ o.words
    has_words (Named x) o is = let few = some_words is.0.length (variable_fits p.variables x is.0 sound.variables is.1).0 in let e = is.2 in omega (arith, few, e)
    has_words (Result f) o is = let e = ap (λ (x : Object). x.words) is in omega (arith, e)
    has_words (Temporary f) o is = let e = ap (λ (x : Object). x.words) is in omega (arith, e)

    few_objects : (ts : List Thing) (os : List Object) → Pairs p ts os → length os ≤ sum_by (λ (o : Object). o.words) os
    few_objects [] [] h = omega arith
    few_objects [] (o ∷ os) h = absurd h
    few_objects (t ∷ ts) [] h = absurd h
    few_objects (t ∷ ts) (o ∷ os) h = let one = has_words t o h.0 in let more = few_objects ts os h.1 in let both = sum_by-cons (λ (x : Object). x.words) o os in omega (arith, one, more, both)

    is_small : IsScoped p → operations p ≤ 4096 → IsSmall (graph_of p)
    is_small scoped few = record {
      functions = let most = few_functions 0 0 (globals p) p.functions in let so_many = sound.few_functions in omega (arith, most, so_many);
      objects = let most = few_objects (things p) (numbering p).objects (all_numbered p (sound_there p sound)).pairs in let words = few_words p sound scoped few in omega (arith, most, words);
    }

pub graphs_are_small : GraphsAreSmall
graphs_are_small p sound scoped few = is_small p sound scoped few
