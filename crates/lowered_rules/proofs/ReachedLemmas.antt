-- Which functions are reached: `main`, and each that a reached one calls.
use Rattle.std.proofs.Common.{◌≡◌, ℕ, zero, suc, ◌+◌, ◌<◌, ◌≤◌, Bool, true, false, Some, List, [], ◌∷◌, length, replicate, inl, inr, refl, sym, ap, subst, ◌∙◌, arith}
use Rattle.std.specs.Prelude.{⊤, ◌⊎◌, ◌||◌, ◌&&◌, slice_get, slice_index_or}
use Rattle.std.proofs.lemmas.Bool.{and_parts, or_cases, cases_eq, false≢true}
use Rattle.std.proofs.lemmas.List.{length-replicate, length-set, get_or-set_same, get_or-set_other}
use Rattle.std.proofs.lemmas.Option.{slice_get_within}
use Rattle.c_tree.specs.declared.tree.Function.{Function}
use Rattle.c_tree.specs.declared.tree.Program.{Program}
use Rattle.lowered_graphs.specs.Stmts.{holds}
use Rattle.lowered_graphs.specs.GraphOf.{function_callees, is_called, mark_on, marks_after, reached}
use Rattle.lowered_rules.proofs.EachLemmas.{or_first, or_second, and_both}

-- ---- marks

abbrev Grows : List Bool → List Bool → Type 0
Grows [] [] = ⊤
Grows (b ∷ bs) (c ∷ cs) = (b ≡ true → c ≡ true) × Grows bs cs
Grows _ _ = ⊥

abbrev count : List Bool → ℕ
count [] = 0
count (true ∷ bs) = suc (count bs)
count (false ∷ bs) = count bs

count_most : (bs : List Bool) → count bs ≤ length bs
count_most [] = omega arith
count_most (true ∷ bs) = let h = count_most bs in omega (arith, h)
count_most (false ∷ bs) = let h = count_most bs in omega (arith, h)

-- marks that grow are more, or the same
more_or_same : (bs cs : List Bool) → Grows bs cs → (count bs < count cs) ⊎ (bs ≡ cs)
more_or_same [] [] h = inr refl
more_or_same [] (c ∷ cs) h = absurd h
more_or_same (b ∷ bs) [] h = absurd h
more_or_same (true ∷ bs) (true ∷ cs) h = elim (more_or_same bs cs h.1) [
  | inl lt ↦ inl (omega (arith, lt))
  | inr e ↦ inr (ap (λ l. true ∷ l) e)
]
more_or_same (true ∷ bs) (false ∷ cs) h = let bad : false ≡ true = h.0 refl in absurd (cc)
more_or_same (false ∷ bs) (true ∷ cs) h = elim (more_or_same bs cs h.1) [
  | inl lt ↦ inl (omega (arith, lt))
  | inr e ↦ let same : count bs ≡ count cs = ap count e in inl (omega (arith, same))
]
more_or_same (false ∷ bs) (false ∷ cs) h = elim (more_or_same bs cs h.1) [
  | inl lt ↦ inl (omega (arith, lt))
  | inr e ↦ inr (ap (λ l. false ∷ l) e)
]

module _ (p : Program) where
  abbrev M : ℕ → List Bool
  M k = marks_after p k

  abbrev N : ℕ
  N = length p.functions

  marked_length : (marks : List Bool) (n : ℕ) (xs : List Function) → length (mark_on p marks n xs) ≡ length xs
  marked_length marks n [] = refl
  marked_length marks n (x ∷ xs) = let e = marked_length marks (n + 1) xs in omega (arith, e)

  marks_length : (k : ℕ) → length (M k) ≡ N
  marks_length zero = length-set (replicate N false) p.main true ∙ length-replicate N false
  marks_length (suc k) = marked_length (M k) 0 p.functions

  -- each function has a mark
  pub reached_length : length (reached p) ≡ length p.functions
  reached_length = marks_length N

  marked_at : (marks : List Bool) (n : ℕ) (xs : List Function) (k : ℕ) → k < length xs → slice_index_or (mark_on p marks n xs) k false ≡ (slice_index_or marks (n + k) false || is_called p marks (n + k) 0 p.functions)
  marked_at marks n [] k lt = absurd (omega (arith, lt))
  marked_at marks n (x ∷ xs) zero lt = let e : n ≡ n + 0 = omega arith in ap (λ m. slice_index_or marks m false || is_called p marks m 0 p.functions) e
  marked_at marks n (x ∷ xs) (suc k) lt =
      let e : n + 1 + k ≡ n + suc k = omega arith in marked_at marks (n + 1) xs k (omega (arith, lt)) ∙ ap (λ m. slice_index_or marks m false || is_called p marks m 0 p.functions) e

  -- the marks from the n-th on
  grows_from : (marks bs : List Bool) (n : ℕ) (xs : List Function) → length bs ≡ length xs → ((k : ℕ) → slice_index_or bs k false ≡ slice_index_or marks (n + k) false) → Grows bs (mark_on p marks n xs)
  grows_from marks [] n [] l h = tt
  grows_from marks [] n (x ∷ xs) l h = absurd (omega (arith, l))
  grows_from marks (b ∷ bs) n [] l h = absurd (omega (arith, l))
  grows_from marks (b ∷ bs) n (x ∷ xs) l h =
      let here : n + 0 ≡ n = omega arith in
      let first : b ≡ slice_index_or marks n false = h 0 ∙ ap (λ m. slice_index_or marks m false) here in (
        (λ e. or_first (slice_index_or marks n false) (is_called p marks n 0 p.functions) (sym first ∙ e)),
        grows_from marks bs (n + 1) xs (omega (arith, l)) (λ k. let e : n + suc k ≡ n + 1 + k = omega arith in h (suc k) ∙ ap (λ m. slice_index_or marks m false) e),
      )

  marks_grow : (k : ℕ) → Grows (M k) (M (suc k))
  marks_grow k = grows_from (M k) (M k) 0 p.functions (marks_length k) (λ j. let e : j ≡ 0 + j = omega arith in ap (λ m. slice_index_or (M k) m false) e)

  -- after k steps there are k marks, or none is added
  many_or_fixed : (k : ℕ) → (k ≤ count (M k)) ⊎ (M (suc k) ≡ M k)
  many_or_fixed zero = inl (omega arith)
  many_or_fixed (suc k) = elim (many_or_fixed k) [
    | inl le ↦ elim (more_or_same (M k) (M (suc k)) (marks_grow k)) [
      | inl lt ↦ inl (omega (arith, le, lt))
      | inr e ↦ inr (ap (λ m. mark_on p m 0 p.functions) (sym e))
    ]
    | inr e ↦ inr (ap (λ m. mark_on p m 0 p.functions) e)
  ]

  fixed : M (suc N) ≡ M N
  fixed = elim (many_or_fixed N) [
    | inl le ↦ elim (more_or_same (M N) (M (suc N)) (marks_grow N)) [
      | inl lt ↦ absurd (omega (arith, le, lt, count_most (M (suc N)), marks_length (suc N)))
      | inr e ↦ sym e
    ]
    | inr e ↦ e
  ]

  called_at : (marks : List Bool) (m n : ℕ) (xs : List Function) (k : ℕ) (f : Function) → slice_get xs k ≡ Some f → slice_index_or marks (n + k) false ≡ true → holds m (function_callees p (n + k) f) ≡ true → is_called p marks m n xs ≡ true
  called_at marks m n [] k f e r h = absurd (cc)
  called_at marks m n (x ∷ xs) zero f e r h =
      let same : x ≡ f = cc in
      let here : n + 0 ≡ n = omega arith in
      or_first _ (is_called p marks m (n + 1) xs) (and_both (slice_index_or marks n false) (holds m (function_callees p n x)) (subst (λ z. slice_index_or marks z false ≡ true) here r)
      (subst (λ g. holds m (function_callees p n g) ≡ true) (sym same) (subst (λ z. holds m (function_callees p z f) ≡ true) here h)))
  called_at marks m n (x ∷ xs) (suc k) f e r h =
      let there : n + suc k ≡ n + 1 + k = omega arith in
      or_second _ (is_called p marks m (n + 1) xs)
      (called_at marks m (n + 1) xs k f e (subst (λ z. slice_index_or marks z false ≡ true) there r) (subst (λ z. holds m (function_callees p z f) ≡ true) there h))

  -- what a reached function calls is reached
  pub reached_on : (n m : ℕ) (f : Function) → slice_get p.functions n ≡ Some f → slice_index_or (reached p) n false ≡ true → holds m (function_callees p n f) ≡ true → m < N → slice_index_or (reached p) m false ≡ true
  reached_on n m f e r h lt =
      let zero_is : n ≡ 0 + n = omega arith in
      let here : m ≡ 0 + m = omega arith in
      let called : is_called p (M N) m 0 p.functions ≡ true = called_at (M N) m 0 p.functions n f e (subst (λ z. slice_index_or (M N) z false ≡ true) zero_is r) (subst (λ z. holds m (function_callees p z f) ≡ true) zero_is h) in
      let at : slice_index_or (M (suc N)) m false ≡ (slice_index_or (M N) (0 + m) false || is_called p (M N) (0 + m) 0 p.functions) = marked_at (M N) 0 p.functions m lt in
      let all : (slice_index_or (M N) (0 + m) false || is_called p (M N) (0 + m) 0 p.functions) ≡ true = or_second (slice_index_or (M N) (0 + m) false) (is_called p (M N) (0 + m) 0 p.functions) (subst (λ z. is_called p (M N) z 0 p.functions ≡ true) here called) in
      ap (λ ms. slice_index_or ms m false) (sym fixed) ∙ (at ∙ all)

  stays_marked : (k m : ℕ) → m < N → slice_index_or (M k) m false ≡ true → slice_index_or (M (suc k)) m false ≡ true
  stays_marked k m lt h =
      let here : m ≡ 0 + m = omega arith in
      marked_at (M k) 0 p.functions m lt ∙ or_first (slice_index_or (M k) (0 + m) false) (is_called p (M k) (0 + m) 0 p.functions) (subst (λ z. slice_index_or (M k) z false ≡ true) here h)

  main_marked : p.main < N → (k : ℕ) → slice_index_or (M k) p.main false ≡ true
  main_marked lt zero = get_or-set_same (replicate N false) p.main true false (omega (arith, lt, length-replicate N false))
  main_marked lt (suc k) = stays_marked k p.main lt (main_marked lt k)

  pub reached_main : p.main < N → slice_index_or (reached p) p.main false ≡ true
  reached_main lt = main_marked lt N

  -- ---- nothing else is reached

  record Caller (marks : List Bool) (m n : ℕ) (xs : List Function) : Type 0 where
    pub at : ℕ
    pub function : Function
    pub there : slice_get xs at ≡ Some function
    pub marked : slice_index_or marks (n + at) false ≡ true
    pub calls : holds m (function_callees p (n + at) function) ≡ true

  caller_of : (marks : List Bool) (m n : ℕ) (xs : List Function) → is_called p marks m n xs ≡ true → Caller marks m n xs
  caller_of marks m n [] h = absurd (false≢true h)
  caller_of marks m n (x ∷ xs) h = elim (or_cases (slice_index_or marks n false && holds m (function_callees p n x)) (is_called p marks m (n + 1) xs) h) [
    | inl here ↦
        let q = and_parts (slice_index_or marks n false) (holds m (function_callees p n x)) here in
        let e : n ≡ n + 0 = omega arith in
        record {
          at = 0;
          function = x;
          there = refl;
          marked = subst (λ k. slice_index_or marks k false ≡ true) e q.0;
          calls = subst (λ k. holds m (function_callees p k x) ≡ true) e q.1;
        }
    | inr rest ↦
        let c = caller_of marks m (n + 1) xs rest in
        let e : n + 1 + c.at ≡ n + suc c.at = omega arith in
        record {
          at = suc c.at;
          function = c.function;
          there = c.there;
          marked = subst (λ k. slice_index_or marks k false ≡ true) e c.marked;
          calls = subst (λ k. holds m (function_callees p k c.function) ≡ true) e c.calls;
        }
  ]

  unmarked : (n i : ℕ) → slice_index_or (replicate n false) i false ≡ true → ⊥
  unmarked zero i h = false≢true h
  unmarked (suc n) zero h = false≢true h
  unmarked (suc n) (suc i) h = unmarked n i h

  module _ (P : ℕ → Type 0) (first : P p.main)
      (on : (n m : ℕ) (f : Function) → slice_get p.functions n ≡ Some f → P n → holds m (function_callees p n f) ≡ true → P m) where
    marks_all : (k m : ℕ) → m < N → slice_index_or (M k) m false ≡ true → P m
    marks_all zero m lt h = elim (cases_eq m p.main) [
      | inl same ↦ subst P (sym same) first
      | inr other ↦ absurd (unmarked N m (sym (get_or-set_other (replicate N false) p.main m true false other) ∙ h))
    ]
    marks_all (suc k) m lt h =
        let e : 0 + m ≡ m = omega arith in
        let either = sym (marked_at (M k) 0 p.functions m lt) ∙ h in
        elim (or_cases (slice_index_or (M k) (0 + m) false) (is_called p (M k) (0 + m) 0 p.functions) either) [
          | inl before ↦ marks_all k m lt (subst (λ z. slice_index_or (M k) z false ≡ true) e before)
          | inr called ↦
              let c = caller_of (M k) (0 + m) 0 p.functions called in
              let there : 0 + c.at ≡ c.at = omega arith in
              on c.at m c.function c.there (marks_all k c.at (slice_get_within p.functions c.at c.function c.there) (subst (λ z. slice_index_or (M k) z false ≡ true) there c.marked))
              (subst (λ z. holds z (function_callees p c.at c.function) ≡ true) e (subst (λ z. holds (0 + m) (function_callees p z c.function) ≡ true) there c.calls))
        ]

    -- what holds of `main`, and with a function of those that it calls, holds of each function that is reached
    pub reached_induction : (m : ℕ) → m < N → slice_index_or (reached p) m false ≡ true → P m
    reached_induction m lt h = marks_all N m lt h
