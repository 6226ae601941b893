-- What each object is: a variable's, a function's result, or a function's temporary; and where the homes of those are.
use Rattle.std.proofs.Common.{◌≡◌, ℕ, zero, suc, ◌<◌, true, Some, List, [], ◌∷◌, ◌++◌, length, replicate, inl, inr, refl, sym, ap, subst, ◌∙◌, arith}
use Rattle.std.specs.Prelude.{⊤, ◌⊎◌, slice_get, slice_index_or, slice_set}
use Rattle.std.proofs.lemmas.Bool.{cases_eq}
use Rattle.std.proofs.lemmas.List.{get_or-set_same, get_or-set_other, length-set}
use Rattle.std.proofs.lemmas.Option.{slice_get_within}
use Rattle.c_tree.specs.declared.tree.Variable.{Variable}
use Rattle.c_tree.specs.declared.tree.Program.{Program}
use Rattle.c_tree.specs.Meaning.{first_words}
use Rattle.flow_graph.specs.declared.graph.Object.{Object}
use Rattle.lowered_graphs.specs.declared.numbering.Numbering.{Numbering}
use Rattle.lowered_graphs.specs.Exprs.{length_or}
use Rattle.lowered_graphs.specs.GraphOf.{scalar, add_variable, add_result, add_temporaries}
use Rattle.lowered_rules.proofs.EachLemmas.{Each, each_weaker}

-- an object of a variable, of a function's result, or of a function's temporary, by their numbers
pub data Thing : Type 0 where
  Named : ℕ → Thing
  Result : ℕ → Thing
  Temporary : ℕ → Thing

-- ---- lists

pub get_left : {X : Type 0} (xs ys : List X) (k : ℕ) (x : X) → slice_get xs k ≡ Some x → slice_get (xs ++ ys) k ≡ Some x
get_left [] ys k x h = absurd (cc)
get_left (z ∷ zs) ys zero x h = h
get_left (z ∷ zs) ys (suc k) x h = get_left zs ys k x h

pub get_end : {X : Type 0} (xs : List X) (y : X) (ys : List X) → slice_get (xs ++ y ∷ ys) (length xs) ≡ Some y
get_end [] y ys = refl
get_end (x ∷ xs) y ys = get_end xs y ys

module _ (p : Program) where
  -- what an object of a thing is
  abbrev pub IsOf : Thing → Object → Type 0
  IsOf (Named x) o = (v : Variable) × (slice_get p.variables x ≡ Some v) × (o.words ≡ length_or v.length) × ((o.first ≡ []) ⊎ ((v.global ≡ true) × (o.first ≡ first_words v)))
  IsOf (Result f) o = o ≡ scalar
  IsOf (Temporary f) o = o ≡ scalar

  abbrev pub Pairs : List Thing → List Object → Type 0
  Pairs [] [] = ⊤
  Pairs (t ∷ ts) (o ∷ os) = IsOf t o × Pairs ts os
  Pairs _ _ = ⊥

  pub pairs_length : (ts : List Thing) (os : List Object) → Pairs ts os → length ts ≡ length os
  pairs_length [] [] h = refl
  pairs_length [] (o ∷ os) h = absurd h
  pairs_length (t ∷ ts) [] h = absurd h
  pairs_length (t ∷ ts) (o ∷ os) h = let e = pairs_length ts os h.1 in omega (arith, e)

  pub pairs_append : (ts us : List Thing) (os qs : List Object) → Pairs ts os → Pairs us qs → Pairs (ts ++ us) (os ++ qs)
  pairs_append [] us [] qs h k = k
  pairs_append [] us (o ∷ os) qs h k = absurd h
  pairs_append (t ∷ ts) us [] qs h k = absurd h
  pairs_append (t ∷ ts) us (o ∷ os) qs h k = (h.0, pairs_append ts us os qs h.1 k)

  -- the object of a thing that stands at a place
  pub pairs_at : (ts : List Thing) (os : List Object) (k : ℕ) (t : Thing) → Pairs ts os → slice_get ts k ≡ Some t → (o : Object) × (slice_get os k ≡ Some o) × IsOf t o
  pairs_at [] [] k t h e = absurd (cc)
  pairs_at [] (o ∷ os) k t h e = absurd h
  pairs_at (u ∷ ts) [] k t h e = absurd h
  pairs_at (u ∷ ts) (o ∷ os) zero t h e = let same : u ≡ t = cc in (o, refl, subst (λ z. IsOf z o) same h.0)
  pairs_at (u ∷ ts) (o ∷ os) (suc k) t h e = pairs_at ts os k t h.1 e

  -- ---- what is known of a numbering: the things of its objects, and the variables and results that have homes
  pub record Numbered (m : Numbering) (ts : List Thing) (xs fs : List ℕ) : Type 0 where
    pub pairs : Pairs ts m.objects
    pub variables : length m.variables ≡ length p.variables
    pub results : length m.results ≡ length p.functions
    pub named : Each (λ x. slice_get ts (slice_index_or m.variables x 0) ≡ Some (Named x)) xs
    pub resulting : Each (λ f. slice_get ts (slice_index_or m.results f 0) ≡ Some (Result f)) fs

  pub numbered_variable : (x : ℕ) (v : Variable) (o : Object) (m : Numbering) (ts : List Thing) (xs fs : List ℕ) → slice_get p.variables x ≡ Some v → IsOf (Named x) o → Numbered m ts xs fs
      → Numbered (add_variable x o m) (ts ++ Named x ∷ []) (x ∷ xs) fs
  numbered_variable x v o m ts xs fs e is h = record {
    pairs = pairs_append ts (Named x ∷ []) m.objects (o ∷ []) h.pairs (is, tt);
    variables = length-set m.variables x (length m.objects) ∙ h.variables;
    results = h.results;
    named = (here, each_weaker _ _ kept xs h.named);
    resulting = each_weaker _ _ (λ f q. get_left ts (Named x ∷ []) (slice_index_or m.results f 0) (Result f) q) fs h.resulting;
  }
    where
      within : x < length m.variables
      within = let lt = slice_get_within p.variables x v e in omega (arith, lt, h.variables)

      at_end : slice_get (ts ++ Named x ∷ []) (length m.objects) ≡ Some (Named x)
      at_end = ap (slice_get (ts ++ Named x ∷ [])) (sym (pairs_length ts m.objects h.pairs)) ∙ get_end ts (Named x) []

      here : slice_get (ts ++ Named x ∷ []) (slice_index_or (slice_set m.variables x (length m.objects)) x 0) ≡ Some (Named x)
      here = ap (slice_get (ts ++ Named x ∷ [])) (get_or-set_same m.variables x (length m.objects) 0 within) ∙ at_end

      kept : (y : ℕ) → slice_get ts (slice_index_or m.variables y 0) ≡ Some (Named y) → slice_get (ts ++ Named x ∷ []) (slice_index_or (slice_set m.variables x (length m.objects)) y 0) ≡ Some (Named y)
      kept y q = elim (cases_eq y x) [
        | inl same ↦ subst (λ z. slice_get (ts ++ Named x ∷ []) (slice_index_or (slice_set m.variables x (length m.objects)) z 0) ≡ Some (Named z)) (sym same) here
        | inr other ↦ ap (slice_get (ts ++ Named x ∷ [])) (get_or-set_other m.variables x y (length m.objects) 0 other) ∙ get_left ts (Named x ∷ []) (slice_index_or m.variables y 0) (Named y) q
      ]

  pub numbered_result : (n : ℕ) (m : Numbering) (ts : List Thing) (xs fs : List ℕ) → n < length p.functions → Numbered m ts xs fs → Numbered (add_result n m) (ts ++ Result n ∷ []) xs (n ∷ fs)
  numbered_result n m ts xs fs lt h = record {
    pairs = pairs_append ts (Result n ∷ []) m.objects (scalar ∷ []) h.pairs (refl, tt);
    variables = h.variables;
    results = length-set m.results n (length m.objects) ∙ h.results;
    named = each_weaker _ _ (λ x q. get_left ts (Result n ∷ []) (slice_index_or m.variables x 0) (Named x) q) xs h.named;
    resulting = (here, each_weaker _ _ kept fs h.resulting);
  }
    where
      within : n < length m.results
      within = omega (arith, lt, h.results)

      at_end : slice_get (ts ++ Result n ∷ []) (length m.objects) ≡ Some (Result n)
      at_end = ap (slice_get (ts ++ Result n ∷ [])) (sym (pairs_length ts m.objects h.pairs)) ∙ get_end ts (Result n) []

      here : slice_get (ts ++ Result n ∷ []) (slice_index_or (slice_set m.results n (length m.objects)) n 0) ≡ Some (Result n)
      here = ap (slice_get (ts ++ Result n ∷ [])) (get_or-set_same m.results n (length m.objects) 0 within) ∙ at_end

      kept : (f : ℕ) → slice_get ts (slice_index_or m.results f 0) ≡ Some (Result f) → slice_get (ts ++ Result n ∷ []) (slice_index_or (slice_set m.results n (length m.objects)) f 0) ≡ Some (Result f)
      kept f q = elim (cases_eq f n) [
        | inl same ↦ subst (λ z. slice_get (ts ++ Result n ∷ []) (slice_index_or (slice_set m.results n (length m.objects)) z 0) ≡ Some (Result z)) (sym same) here
        | inr other ↦ ap (slice_get (ts ++ Result n ∷ [])) (get_or-set_other m.results n f (length m.objects) 0 other) ∙ get_left ts (Result n ∷ []) (slice_index_or m.results f 0) (Result f) q
      ]

  pairs_temporaries : (n k : ℕ) → Pairs (replicate k (Temporary n)) (replicate k scalar)
  pairs_temporaries n zero = tt
  pairs_temporaries n (suc k) = (refl, pairs_temporaries n k)

  pub numbered_temporaries : (n k : ℕ) (m : Numbering) (ts : List Thing) (xs fs : List ℕ) → Numbered m ts xs fs → Numbered (add_temporaries k m) (ts ++ replicate k (Temporary n)) xs fs
  numbered_temporaries n k m ts xs fs h = record {
    pairs = pairs_append ts (replicate k (Temporary n)) m.objects (replicate k scalar) h.pairs (pairs_temporaries n k);
    variables = h.variables;
    results = h.results;
    named = each_weaker _ _ (λ x q. get_left ts (replicate k (Temporary n)) (slice_index_or m.variables x 0) (Named x) q) xs h.named;
    resulting = each_weaker _ _ (λ f q. get_left ts (replicate k (Temporary n)) (slice_index_or m.results f 0) (Result f) q) fs h.resulting;
  }
