-- The weights of the stretches that begin with one piece.
use Rattle.std.specs.Prelude.{Some, slice_get, length, take, get_or}
use Rattle.std.proofs.Common.{◌≡◌, ◌<◌, ◌≤◌, ◌+◌, ◌-◌, ◌++◌, ℕ, zero, suc, List, [], ◌∷◌, inl, inr, refl, sym, ap, ◌∙◌, subst, arith, append_assoc}
use Rattle.std.proofs.lemmas.Bool.{cases_lt}
use Rattle.std.proofs.lemmas.List.{get_or_append_left, get_or_push, length-append, take-append-le, take_more}
use Rattle.std.proofs.lemmas.Option.{slice_get-get_or, slice_get_within}
use Rattle.loop_checkpoints.specs.declared.LoopWeight.{LoopWeight}
use Rattle.chain_units.specs.declared.pieces.Piece.{Piece}
use Rattle.chain_units.specs.declared.weighing.Behind.{Behind}
use Rattle.chain_units.specs.Known.{Known, Weighs, both, nothing, told_weights}
use Rattle.chain_units.specs.Costs.{weighed}
use Rattle.chain_units.specs.Wanted.{IsWeightOf, wanted}
use Rattle.chain_units.specs.Pieces.{IsRow, pieces_behind, pieces_first, pieces_sum, pieces_touched, pieces_weighed}

-- ---- one piece more

pub sum-append : (w : Weighs) (ps : List Piece) (p : Piece) → pieces_sum w (ps ++ p ∷ []) ≡ both (pieces_sum w ps) (told_weights p.weights)
sum-append w [] p = refl
sum-append w (q ∷ ps) p = sum-append (both w (told_weights q.weights)) ps p

pub touched-append : (ps : List Piece) (p : Piece) → pieces_touched (ps ++ p ∷ []) ≡ pieces_touched ps ++ p.touched.items
touched-append [] p = append-nil p.touched.items
  where
    append-nil : (xs : List ℕ) → xs ++ [] ≡ xs
    append-nil [] = refl
    append-nil (x ∷ xs) = ap (λ (ys : List ℕ). x ∷ ys) (append-nil xs)
touched-append (q ∷ ps) p = ap (λ (xs : List ℕ). q.touched.items ++ xs) (touched-append ps p) ∙ sym (append_assoc q.touched.items (pieces_touched ps) p.touched.items)

behind-append : (ps : List Piece) (p : Piece) → pieces_behind (ps ++ p ∷ []) ≡ p.behind
behind-append [] p = refl
behind-append (q ∷ []) p = refl
behind-append (q ∷ (r ∷ ps)) p = behind-append (r ∷ ps) p

-- ---- a row

-- one piece more, from the parts that the code keeps
pub weighed-append : (k : Known) (ps : List Piece) (p : Piece) (w : LoopWeight) (first : ℕ) (sum : Weighs) (barred : List ℕ) → first ≡ pieces_first (ps ++ p ∷ []) → sum ≡ both (pieces_sum nothing ps) (told_weights p.weights)
    → barred ≡ pieces_touched ps ++ p.touched.items → IsWeightOf w (weighed k k.overhead 0 barred (k.before first) (wanted k p.behind) sum) → IsWeightOf w (pieces_weighed k (ps ++ p ∷ []))
weighed-append k ps p w first sum barred e e' e'' is =
    subst (λ (n : ℕ). IsWeightOf w (weighed k k.overhead 0 (pieces_touched (ps ++ p ∷ [])) (k.before n) (wanted k (pieces_behind (ps ++ p ∷ []))) (pieces_sum nothing (ps ++ p ∷ [])))) e
    (subst (λ (b : Behind). IsWeightOf w (weighed k k.overhead 0 (pieces_touched (ps ++ p ∷ [])) (k.before first) (wanted k b) (pieces_sum nothing (ps ++ p ∷ [])))) (sym (behind-append ps p))
    (subst (λ (v : Weighs). IsWeightOf w (weighed k k.overhead 0 (pieces_touched (ps ++ p ∷ [])) (k.before first) (wanted k p.behind) v)) (e' ∙ sym (sum-append nothing ps p))
    (subst (λ (xs : List ℕ). IsWeightOf w (weighed k k.overhead 0 xs (k.before first) (wanted k p.behind) sum)) (e'' ∙ sym (touched-append ps p)) is)))

take_whole : {X : Type 0} (n : ℕ) (xs : List X) → length xs ≤ n → take n xs ≡ xs
take_whole zero [] le = refl
take_whole zero (x ∷ xs) le = absurd (omega arith)
take_whole (suc n) [] le = refl
take_whole (suc n) (x ∷ xs) le = ap (λ ys. x ∷ ys) (take_whole n xs (omega arith))

take_front : {X : Type 0} (n : ℕ) (xs : List X) (x : X) → n ≤ length xs → take n (xs ++ x ∷ []) ≡ take n xs
take_front n xs x le = take-append-le n xs (x ∷ []) le

-- a row with one weight more
row_more : (k : Known) (row row' : List LoopWeight) (ps : List Piece) (p : Piece) (w : LoopWeight) → IsRow k row ps → row' ≡ row ++ w ∷ [] → IsWeightOf w (pieces_weighed k (ps ++ p ∷ [])) → IsRow k row' (ps ++ p ∷ [])
row_more k row row' ps p w is e one = subst (λ (r : List LoopWeight). IsRow k r (ps ++ p ∷ [])) (sym e) (record {
  count = omega (arith, length-append row (w ∷ []), length-append ps (p ∷ []), is.count);
  weights = λ i v at.
      elim (cases_lt i (length row)) [
        | inl h ↦
            let there : slice_get row i ≡ Some v = sym (slice_get_front row w i h) ∙ at in
            subst (λ (qs : List Piece). IsWeightOf v (pieces_weighed k qs)) (sym (take_front (i + 1) ps p (omega (arith, is.count)))) (is.weights i v there)
        | inr h ↦
            let lt = slice_get_within (row ++ w ∷ []) i v at in
            let last : i ≡ length row = omega (arith, lt, length-append row (w ∷ [])) in
            let same : Some w ≡ Some v = sym (slice_get_last row w i last) ∙ at in
            let whole : take (i + 1) (ps ++ p ∷ []) ≡ ps ++ p ∷ [] = take_whole (i + 1) (ps ++ p ∷ []) (omega (arith, last, is.count, length-append ps (p ∷ []))) in
            subst (λ (qs : List Piece). IsWeightOf v (pieces_weighed k qs)) (sym whole) (subst (λ (u : LoopWeight). IsWeightOf u (pieces_weighed k (ps ++ p ∷ []))) (same_some w v same) one)
      ];
})
  where
    same_some : (u v : LoopWeight) → Some u ≡ Some v → u ≡ v
    same_some u v e = cc

    slice_get_front : (xs : List LoopWeight) (x : LoopWeight) (i : ℕ) → i < length xs → slice_get (xs ++ x ∷ []) i ≡ slice_get xs i
    slice_get_front xs x i lt =
        slice_get-get_or (xs ++ x ∷ []) i x (omega (arith, length-append xs (x ∷ []))) ∙ (ap (λ (u : LoopWeight). Some u) (get_or_append_left xs (x ∷ []) x i lt) ∙ sym (slice_get-get_or xs i x lt))

    slice_get_last : (xs : List LoopWeight) (x : LoopWeight) (i : ℕ) → i ≡ length xs → slice_get (xs ++ x ∷ []) i ≡ Some x
    slice_get_last xs x i e =
        slice_get-get_or (xs ++ x ∷ []) i x (omega (arith, length-append xs (x ∷ []))) ∙ ap (λ (u : LoopWeight). Some u) (get_or_push xs x x i (sym e))

-- the first piece of the first ones
first_of_some : (ps : List Piece) (i : ℕ) (p : Piece) → i < length ps → p ≡ get_or ps i p → pieces_first ps ≡ pieces_first (take i ps ++ p ∷ [])
first_of_some [] i p lt e = absurd (omega arith)
first_of_some (q ∷ ps) i p lt e = elim (cases_lt 0 i) [
  | inl h ↦ let s : i ≡ suc (i - 1) = omega arith in subst (λ (n : ℕ). q.first ≡ pieces_first (take n (q ∷ ps) ++ p ∷ [])) (sym s) refl
  | inr h ↦ let z : i ≡ 0 = omega arith in
      subst (λ (n : ℕ). q.first ≡ pieces_first (take n (q ∷ ps) ++ p ∷ [])) (sym z) (ap (λ (r : Piece). r.first) (sym (subst (λ (n : ℕ). p ≡ get_or (q ∷ ps) n p) z e)))
]

-- the code's step: a piece more of those of a chain
pub row_step : (k : Known) (row row' : List LoopWeight) (ps : List Piece) (i : ℕ) (p : Piece) (w : LoopWeight) (once first : ℕ) (sum before : Weighs) (barred old : List ℕ) → i < length ps → p ≡ get_or ps i p → IsRow k row (take i ps)
    → before ≡ pieces_sum nothing (take i ps) → sum ≡ both before (told_weights p.weights) → old ≡ pieces_touched (take i ps) → barred ≡ old ++ p.touched.items → once ≡ k.overhead → first ≡ pieces_first ps
    → IsWeightOf w (weighed k once 0 barred (k.before first) (wanted k p.behind) sum) → row' ≡ row ++ w ∷ [] → IsRow k row' (take (i + 1) ps)
row_step k row row' ps i p w once first sum before barred old lt at is b e o e' same_once same_first one pushed =
    let more : take (i + 1) ps ≡ take i ps ++ p ∷ [] = take_more ps i p lt ∙ ap (λ (q : Piece). take i ps ++ q ∷ []) (sym at) in
    let one' = subst (λ (n : ℕ). IsWeightOf w (weighed k n 0 barred (k.before first) (wanted k p.behind) sum)) same_once one in
    let sums = e ∙ ap (λ (v : Weighs). both v (told_weights p.weights)) b in
    let touched = e' ∙ ap (λ (xs : List ℕ). xs ++ p.touched.items) o in
    subst (λ (qs : List Piece). IsRow k row' qs) (sym more)
    (row_more k row row' (take i ps) p w is pushed (weighed-append k (take i ps) p w first sum barred (same_first ∙ first_of_some ps i p lt at) sums touched one'))

pub sum_step : (ps : List Piece) (i : ℕ) (p : Piece) (sum more : Weighs) → i < length ps → p ≡ get_or ps i p → sum ≡ pieces_sum nothing (take i ps) → more ≡ both sum (told_weights p.weights) → more ≡ pieces_sum nothing (take (i + 1) ps)
sum_step ps i p sum more lt at e e' =
    let longer : take (i + 1) ps ≡ take i ps ++ p ∷ [] = take_more ps i p lt ∙ ap (λ (q : Piece). take i ps ++ q ∷ []) (sym at) in
    e' ∙ (ap (λ (w : Weighs). both w (told_weights p.weights)) e ∙ (sym (sum-append nothing (take i ps) p) ∙ ap (λ (qs : List Piece). pieces_sum nothing qs) (sym longer)))

pub touched_step : (ps : List Piece) (i : ℕ) (p : Piece) (barred more : List ℕ) → i < length ps → p ≡ get_or ps i p → barred ≡ pieces_touched (take i ps) → more ≡ barred ++ p.touched.items → more ≡ pieces_touched (take (i + 1) ps)
touched_step ps i p barred more lt at e e' =
    let longer : take (i + 1) ps ≡ take i ps ++ p ∷ [] = take_more ps i p lt ∙ ap (λ (q : Piece). take i ps ++ q ∷ []) (sym at) in
    e' ∙ (ap (λ (xs : List ℕ). xs ++ p.touched.items) e ∙ (sym (touched-append (take i ps) p) ∙ ap (λ (qs : List Piece). pieces_touched qs) (sym longer)))
