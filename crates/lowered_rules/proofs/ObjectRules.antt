-- Each object of a sound program's graph has few words, and begins with words or with any.
use Rattle.std.proofs.Common.{◌≡◌, ℕ, zero, suc, ◌+◌, ◌<◌, ◌≤◌, ◌^◌, true, Option, Some, None, List, [], ◌∷◌, ◌++◌, length, replicate, take, inl, inr, refl, sym, ap, subst, ◌∙◌, arith, length-append}
use Rattle.std.specs.Prelude.{◌&&◌, All, slice_get, slice_index_or, nat_le, nat_lt, if◌then◌else◌}
use Rattle.std.proofs.lemmas.Bool.{and_parts, false≢true}
use Rattle.std.proofs.lemmas.List.{length-replicate}
use Rattle.std.proofs.lemmas.List.Elements.{All-nil, All-cons, All-append, All-replicate, All-take}
use Rattle.c_tree.specs.declared.tree.Variable.{Variable}
use Rattle.c_tree.specs.declared.tree.Function.{Function}
use Rattle.c_tree.specs.declared.tree.Program.{Program}
use Rattle.c_tree.specs.Meaning.{first_sized}
use Rattle.sound_programs.specs.Calls.{Below, functions_below}
use Rattle.sound_programs.specs.Sound.{variables_fit, length_fits, first_words_fit, words_fit, capacity, parameters_fit, is_parameter, functions_fit, stmt_fits}
use Rattle.sound_programs.specs.SoundPrograms.{IsSound}
use Rattle.flow_graph.specs.declared.graph.Object.{Object}
use Rattle.flow_graph.specs.Rules.{ObjectFits}
use Rattle.lowered_graphs.specs.Exprs.{length_or}
use Rattle.lowered_graphs.specs.Stmts.{Within}
use Rattle.lowered_graphs.specs.GraphOf.{within_of, no_homes, numbering, graph_of}
use Rattle.lowered_rules.proofs.EachLemmas.{Each, each_append, each_weaker}
use Rattle.lowered_rules.proofs.StmtCalls.{Inner, stmt_tells}
use Rattle.lowered_rules.proofs.ThingLemmas.{Thing, Named, Result, Temporary, IsOf, Pairs}
use Rattle.lowered_rules.proofs.ThingsOf.{IsThere, AllThere, things, all_numbered}

-- ---- the parameters and locals of a sound program are there

parameters_there : (p : Program) (xs : List ℕ) → parameters_fit p xs ≡ true → Each (IsThere p) xs
parameters_there p [] h = tt
parameters_there p (x ∷ xs) h =
    let q = and_parts (is_parameter (slice_get p.variables x)) (parameters_fit p xs) h in (there (slice_get p.variables x) refl q.0, parameters_there p xs q.1)
  where
    there : (v : Option Variable) → slice_get p.variables x ≡ v → is_parameter v ≡ true → IsThere p x
    there None e f = absurd (false≢true f)
    there (Some v) e f = (v, e)

functions_there : (p : Program) (heights : List ℕ) (n : ℕ) (fs : List Function) → functions_fit p fs ≡ true → functions_below heights n fs ≡ true → AllThere p n fs
functions_there p heights n [] f c = tt
functions_there p heights n (g ∷ fs) f c =
    let q = and_parts (parameters_fit p g.params) (stmt_fits p g.result g.body && functions_fit p fs) f in
    let r = and_parts (stmt_fits p g.result g.body) (functions_fit p fs) q.1 in
    let k = and_parts _ (functions_below heights (n + 1) fs) c in
    let w : Within = within_of p no_homes n in
    let b : Below = record { heights = heights; height = slice_index_or heights n 0 } in (
      each_append (IsThere p) g.params _ (parameters_there p g.params q.0)
          (each_weaker (Inner w b) (IsThere p) (λ x i. (i.variable, i.there)) _ (stmt_tells w b g.result g.body r.0 k.0).locals),
      functions_there p heights (n + 1) fs r.1 k.1,
    )

pub sound_there : (p : Program) → IsSound p → AllThere p 0 p.functions
sound_there p s = functions_there p s.acyclic.0 0 p.functions s.functions s.acyclic.1

-- ---- variables

pub variable_fits : (vs : List Variable) (k : ℕ) (v : Variable) → variables_fit vs ≡ true → slice_get vs k ≡ Some v → (length_fits v.length ≡ true) × (first_words_fit v ≡ true)
variable_fits [] k v h e = absurd (cc)
variable_fits (u ∷ vs) zero v h e =
    let same : u ≡ v = cc in
    let q = and_parts (length_fits u.length) (first_words_fit u && variables_fit vs) h in
    subst (λ (z : Variable). (length_fits z.length ≡ true) × (first_words_fit z ≡ true)) same (q.0, (and_parts (first_words_fit u) (variables_fit vs) q.1).0)
variable_fits (u ∷ vs) (suc k) v h e = variable_fits vs k v (and_parts (first_words_fit u) (variables_fit vs) (and_parts (length_fits u.length) (first_words_fit u && variables_fit vs) h).1).1 e

pub length_small : (n : Option ℕ) → length_fits n ≡ true → length_or n ≤ 1024
length_small None h = omega arith
length_small (Some n) h = let q = and_parts (nat_le 1 n) (nat_le n 1024) h in grind (arith, q.1)

words_small : (ws : List ℕ) → words_fit ws ≡ true → All (λ w. w < 2 ^ 16) ws
words_small [] h = All-nil (λ w. w < 2 ^ 16)
words_small (w ∷ ws) h = let q = and_parts (nat_lt w (2 ^ 16)) (words_fit ws) h in All-cons (λ w. w < 2 ^ 16) w ws (grind (arith, q.0)) (words_small ws q.1)

sized_small : (n : Option ℕ) (ws : List ℕ) → All (λ w. w < 2 ^ 16) ws → words_fit ws ≡ true → All (λ w. w < 2 ^ 16) (first_sized n ws)
sized_small None [] h f = All-cons (λ w. w < 2 ^ 16) 0 [] (omega arith) (All-nil (λ w. w < 2 ^ 16))
sized_small None (w ∷ ws) h f = let q = and_parts (nat_lt w (2 ^ 16)) (words_fit ws) f in All-cons (λ w. w < 2 ^ 16) w [] (grind (arith, q.0)) (All-nil (λ w. w < 2 ^ 16))
sized_small (Some n) ws h f = All-take (λ w. w < 2 ^ 16) n (ws ++ replicate n 0) (All-append (λ w. w < 2 ^ 16) ws (replicate n 0) h (All-replicate (λ w. w < 2 ^ 16) n 0 (omega arith)))

taken : (n : ℕ) (xs : List ℕ) → n ≤ length xs → length (take n xs) ≡ n
taken zero xs le = refl
taken (suc n) [] le = absurd (omega (arith, le))
taken (suc n) (x ∷ xs) le = let e = taken n xs (omega (arith, le)) in omega (arith, e)

pub sized_length : (n : Option ℕ) (ws : List ℕ) → length (first_sized n ws) ≡ length_or n
sized_length None [] = refl
sized_length None (w ∷ ws) = refl
sized_length (Some n) ws = taken n (ws ++ replicate n 0) (omega (arith, length-append ws (replicate n 0), length-replicate {A = ℕ} n 0))

begins : (v : Variable) → v.global ≡ true → first_words_fit v ≡ true → words_fit v.first ≡ true
begins v g h = (and_parts (nat_le (length v.first) (capacity v.length)) (words_fit v.first) (subst (λ b. (if b then nat_le (length v.first) (capacity v.length) && words_fit v.first else nat_le (length v.first) 0) ≡ true) g h)).1

-- ---- objects

module _ (p : Program) (sound : IsSound p) where
  named_fits : (x : ℕ) (o : Object) → IsOf p (Named x) o → ObjectFits o
  named_fits x o is =
      let v = is.0 in
      let f = variable_fits p.variables x v sound.variables is.1 in
      let small = length_small v.length f.0 in
      elim is.3 [
        | inl none ↦ record { size = omega (arith, is.2, small); words = subst (All (λ w. w < 2 ^ 16)) (sym none) (All-nil (λ w. w < 2 ^ 16)); all = inl none }
        | inr some ↦
            let ws = begins v some.0 f.1 in
            record {
              size = omega (arith, is.2, small);
              words = subst (All (λ w. w < 2 ^ 16)) (sym some.1) (sized_small v.length v.first (words_small v.first ws) ws);
              all = inr (ap length some.1 ∙ (sized_length v.length v.first ∙ sym is.2));
            }
      ]

  thing_fits : (t : Thing) (o : Object) → IsOf p t o → ObjectFits o
  thing_fits (Named x) o is = named_fits x o is
  thing_fits (Result f) o is = subst ObjectFits (sym is) (record { size = omega arith; words = All-nil (λ w. w < 2 ^ 16); all = inl refl })
  thing_fits (Temporary f) o is = subst ObjectFits (sym is) (record { size = omega arith; words = All-nil (λ w. w < 2 ^ 16); all = inl refl })

  paired_fits : (ts : List Thing) (os : List Object) (k : ℕ) (o : Object) → Pairs p ts os → slice_get os k ≡ Some o → ObjectFits o
  paired_fits [] [] k o h e = absurd (cc)
  paired_fits [] (q ∷ os) k o h e = absurd h
  paired_fits (t ∷ ts) [] k o h e = absurd h
  paired_fits (t ∷ ts) (q ∷ os) zero o h e = let same : q ≡ o = cc in subst ObjectFits same (thing_fits t q h.0)
  paired_fits (t ∷ ts) (q ∷ os) (suc k) o h e = paired_fits ts os k o h.1 e

  pub objects_fit : (k : ℕ) (o : Object) → slice_get (graph_of p).objects k ≡ Some o → ObjectFits o
  objects_fit k o e = paired_fits (things p) (numbering p).objects k o (all_numbered p (sound_there p sound)).pairs e
