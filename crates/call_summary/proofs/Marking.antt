-- Lists of the objects that a table marks for a function.
use Rattle.std.proofs.Common.{◌≡◌, ◌+◌, ◌<◌, ℕ, zero, suc, Bool, true, false, List, [], ◌∷◌, ◌++◌, length, get_or, sym, ap, subst, inl, inr, ◌∙◌, arith, length-append}
use Rattle.std.specs.Prelude.{if◌then◌else◌, Vec}
use Rattle.std.specs.List.{Contains}
use Rattle.std.specs.List.Sorted.{IsStrictlyIncreasing}
use Rattle.std.specs.declared.alloc.Global.{Global}
use Rattle.std.proofs.lemmas.Bool.{cases_lt, false≢true}
use Rattle.std.proofs.lemmas.List.{get_or_append_left}
use Rattle.std.proofs.lemmas.List.Elements.{Contains-append_cases, Contains-append_left, Contains-get_or, Contains-push}
use Rattle.std.proofs.Math.Seq.{get_or-append_seam}
use Rattle.flow_graph.specs.declared.graph.Graph.{Graph}
use Rattle.flow_graph.specs.Owned.{operations}
use Rattle.touched_objects.specs.Tables.{AreRowsOf, marked_at}
use Rattle.call_summary.specs.Summaries.{AreMarked, AreTouched}

rising_none : IsStrictlyIncreasing []
rising_none k lt = absurd (omega (arith, lt))

rising_more : (xs : List ℕ) (o : ℕ) → IsStrictlyIncreasing xs → ((x : ℕ) → Contains xs x → x < o) → IsStrictlyIncreasing (xs ++ o ∷ [])
rising_more xs o rises below k lt = let n = length-append xs (o ∷ []) in elim (cases_lt (k + 1) (length xs)) [
  | inl l ↦
      let a = get_or_append_left xs (o ∷ []) 0 k (omega (arith, l)) in
      let b = get_or_append_left xs (o ∷ []) 0 (k + 1) l in
      let r = rises k l in omega (arith, a, b, r)
  | inr ge ↦
      let at : length xs ≡ k + 1 = omega (arith, n, lt, ge) in
      let a = get_or_append_left xs (o ∷ []) 0 k (omega (arith, at)) in
      let b : get_or (xs ++ o ∷ []) (k + 1) 0 ≡ o = sym (ap (λ i. get_or (xs ++ o ∷ []) i 0) at) ∙ get_or-append_seam xs o [] 0 in
      let r = below (get_or xs k 0) (Contains-get_or xs k 0 (omega (arith, at))) in omega (arith, a, b, r)
]

only_at : (n x k : ℕ) → k < 1 → get_or (n ∷ []) k x ≡ x → n ≡ x
only_at n x zero lt e = e
only_at n x (suc k) lt e = absurd (omega (arith, lt))

only_one : (n x : ℕ) → Contains (n ∷ []) x → n ≡ x
only_one n x c = only_at n x c.0 c.1 c.2

module _ (rows : List (Vec Bool Global)) (f : ℕ) where
  pub marked_none : AreMarked rows f 0 []
  marked_none = record { rising = rising_none; exactly = λ o. (λ c. let lt = c.1 in absurd (omega (arith, lt)), λ h. let lt = h.0 in absurd (omega (arith, lt))) }

  module _ (n : ℕ) (xs : List ℕ) (h : AreMarked rows f n xs) where
    -- an object more is one of the first, or the last
    before : (o : ℕ) → (o < n + 1) → (marked_at rows o f ≡ true) → (o ≡ n → Contains xs o) → Contains xs o
    before o lt is last = elim (cases_lt o n) [ inl l ↦ (h.exactly o).1 (l, is) | inr ge ↦ last (omega (arith, lt, ge)) ]

    wider : (o : ℕ) → Contains xs o → (o < n + 1) × (marked_at rows o f ≡ true)
    wider o c = let p = (h.exactly o).0 c in let lt = p.0 in (omega (arith, lt), p.1)

    marked_same : marked_at rows n f ≡ false → AreMarked rows f (n + 1) xs
    marked_same unmarked = record {
      rising = h.rising;
      exactly = λ o. (wider o, λ p. before o p.0 p.1 (λ e. absurd (false≢true (sym unmarked ∙ (sym (ap (λ i. marked_at rows i f) e) ∙ p.1)))));
    }

    in_longer : (o : ℕ) → marked_at rows n f ≡ true → Contains (xs ++ n ∷ []) o → (o < n + 1) × (marked_at rows o f ≡ true)
    in_longer o is c = elim (Contains-append_cases xs (n ∷ []) o c) [
      | inl l ↦ wider o l
      | inr r ↦ let e : n ≡ o = only_one n o r in (omega (arith, e), subst (λ i. marked_at rows i f ≡ true) e is)
    ]

    longer_has : (o : ℕ) → o < n + 1 → marked_at rows o f ≡ true → Contains (xs ++ n ∷ []) o
    longer_has o lt is = elim (cases_lt o n) [
      | inl l ↦ Contains-append_left xs (n ∷ []) o ((h.exactly o).1 (l, is))
      | inr ge ↦ let e : n ≡ o = omega (arith, lt, ge) in subst (λ i. Contains (xs ++ n ∷ []) i) e (Contains-push xs n)
    ]

    marked_more : marked_at rows n f ≡ true → AreMarked rows f (n + 1) (xs ++ n ∷ [])
    marked_more is = record {
      rising = rising_more xs n h.rising (λ x c. ((h.exactly x).0 c).0);
      exactly = λ o. (in_longer o is, λ p. longer_has o p.0 p.1);
    }

    pub marked_step : (b : Bool) → marked_at rows n f ≡ b → AreMarked rows f (n + 1) (if b then xs ++ n ∷ [] else xs)
    marked_step true e = marked_more e
    marked_step false e = marked_same e

pub are_touched : (g : Graph) (rows : List (Vec Bool Global)) (f : ℕ) (xs : List ℕ) → AreRowsOf (operations g) (length g.functions) (length g.objects) rows → f < length g.functions
    → AreMarked rows f (length g.objects) xs → AreTouched g f xs
are_touched g rows f xs table within h = record {
  rising = h.rising;
  exactly = λ o. (λ c. let p = (h.exactly o).0 c in (p.0, (table.each o p.0 f within).0 p.1), λ p. (h.exactly o).1 (p.0, (table.each o p.0 f within).1 p.1));
}
