-- Objects stand apart from each other, from the words of boot and from the call stack.
use Rattle.std.proofs.Common.{◌≡◌, ◌≢◌, ℕ, zero, suc, ◌+◌, ◌<◌, ◌≤◌, List, [], ◌∷◌, inl, inr, sym, subst, arith}
use Rattle.std.specs.Prelude.{slice_get, sum_by}
use Rattle.std.proofs.lemmas.Bool.{cases_lt}
use Rattle.std.proofs.lemmas.List.Sums.{sum_by-cons}
use Rattle.flow_graph.specs.declared.graph.Object.{Object}
use Rattle.flow_graph.specs.declared.graph.Graph.{Graph}
use Rattle.laid_code.proofs.Homes.{InFram, IsClear, Apart}
use Rattle.laid_code.proofs.Words.{IsRoom}
use Rattle.graph_flow.specs.GraphFlow.{size_of, sizes}
use Rattle.graph_code.specs.Homes.{HaveHomes, ObjectsHaveHomes, first_word, words_before}

abbrev total : List Object → ℕ
total xs = sum_by (λ x. x.words) xs

-- an object ends within the words of all, and before each object behind it
ends_within : (xs : List Object) (o : ℕ) → words_before xs o + size_of (slice_get xs o) ≤ total xs
ends_within [] o = omega arith
ends_within (x ∷ xs) zero =
    let h : 0 + x.words ≤ x.words + total xs = omega arith in
    subst (λ n. 0 + x.words ≤ n) (sym (sum_by-cons (λ (y : Object). y.words) x xs)) h
ends_within (x ∷ xs) (suc o) =
    let h = ends_within xs o in
    let more : x.words + words_before xs o + size_of (slice_get xs o) ≤ x.words + total xs = omega (arith, h) in
    subst (λ n. x.words + words_before xs o + size_of (slice_get xs o) ≤ n) (sym (sum_by-cons (λ (y : Object). y.words) x xs)) more

ends_before : (xs : List Object) (o t : ℕ) → o < t → words_before xs o + size_of (slice_get xs o) ≤ words_before xs t
ends_before [] o t lt = omega arith
ends_before (x ∷ xs) o zero lt = absurd (omega (arith, lt))
ends_before (x ∷ xs) zero (suc t) lt = let h : 0 + x.words ≤ x.words + words_before xs t = omega arith in h
ends_before (x ∷ xs) (suc o) (suc t) lt =
    let h = ends_before xs o t (omega (arith, lt)) in
    let more : x.words + words_before xs o + size_of (slice_get xs o) ≤ x.words + words_before xs t = omega (arith, h) in more

pub objects_have_homes : ObjectsHaveHomes
objects_have_homes g few = record {
  room = λ o. let h = ends_within g.objects o in omega (arith, h, few);
  apart = λ o t lt. let h = ends_before g.objects o t lt in omega (arith, h);
}

-- ---- as homes of laid out code

module _ (g : Graph) (homes : HaveHomes g) where
  pub home_clear : (o : ℕ) → IsClear (InFram (first_word g o)) (sizes g o)
  home_clear o = (omega arith, homes.room o)

  pub home_room : (o : ℕ) → IsRoom (InFram (first_word g o)) (sizes g o)
  home_room o = home_clear o

  pub homes_apart : (o t : ℕ) → o ≢ t → Apart (InFram (first_word g t)) (sizes g t) (InFram (first_word g o)) (sizes g o)
  homes_apart o t differ = elim (cases_lt o t) [
    | inl lt ↦ inr (homes.apart o t lt)
    | inr le ↦ inl (homes.apart t o (let lt : t < o = below o t le differ in lt))
  ]
    where
      below : (o t : ℕ) → t ≤ o → o ≢ t → t < o
      below o t le ne = elim (cases_lt t o) [ inl lt ↦ lt | inr ge ↦ absurd (ne (let e : o ≡ t = omega (arith, le, ge) in e)) ]
