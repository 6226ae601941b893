-- Lists that are listed part after part.
use Rattle.std.proofs.Common.{◌≡◌, ℕ, zero, suc, ◌<◌, List, [], ◌∷◌, ◌++◌, ◌⊎◌, inl, inr, length, refl, sym, ap, ◌∙◌, append_assoc, arith}
use Rattle.std.specs.Prelude.{Some, slice_get}
use Rattle.std.proofs.lemmas.Option.{slice_get_within}

-- one part more is listed
pub append_step : {X : Type 0} (now now2 all front rest whole : List X) → now2 ≡ now ++ front → whole ≡ front ++ rest → now ++ whole ≡ all → now2 ++ rest ≡ all
append_step now now2 all front rest whole e f h = ap (λ xs. xs ++ rest) e ∙ (append_assoc now front rest ∙ (ap (λ xs. now ++ xs) (sym f) ∙ h))

-- an item stands somewhere in a list
pub record Stood {X : Type 0} (xs : List X) (x : X) : Type 0 where
  pub place : ℕ
  pub is_there : slice_get xs place ≡ Some x

pub stood_first : {X : Type 0} (x : X) (xs : List X) → Stood (x ∷ xs) x
stood_first x xs = record { place = 0; is_there = refl }

pub stood_behind : {X : Type 0} (y : X) (xs : List X) (x : X) → Stood xs x → Stood (y ∷ xs) x
stood_behind y xs x h = record { place = suc h.place; is_there = h.is_there }

pub stood_left : {X : Type 0} (xs ys : List X) (x : X) → Stood xs x → Stood (xs ++ ys) x
stood_left {X} xs ys x h = by_place xs h.place h.is_there
  where
    by_place : (zs : List X) (k : ℕ) → slice_get zs k ≡ Some x → Stood (zs ++ ys) x
    by_place [] k e = absurd (cc)
    by_place (z ∷ zs) zero e = record { place = 0; is_there = e }
    by_place (z ∷ zs) (suc k) e = stood_behind z (zs ++ ys) x (by_place zs k e)

pub stood_right : {X : Type 0} (xs ys : List X) (x : X) → Stood ys x → Stood (xs ++ ys) x
stood_right [] ys x h = h
stood_right (z ∷ zs) ys x h = stood_behind z (zs ++ ys) x (stood_right zs ys x h)

pub stood_cases : {X : Type 0} (xs ys : List X) (x : X) → Stood (xs ++ ys) x → Stood xs x ⊎ Stood ys x
stood_cases {X} xs ys x h = by_place xs h.place h.is_there
  where
    more : (z : X) (zs : List X) → Stood zs x ⊎ Stood ys x → Stood (z ∷ zs) x ⊎ Stood ys x
    more z zs (inl s) = inl (stood_behind z zs x s)
    more z zs (inr s) = inr s

    by_place : (zs : List X) (k : ℕ) → slice_get (zs ++ ys) k ≡ Some x → Stood zs x ⊎ Stood ys x
    by_place [] k e = inr (record { place = k; is_there = e })
    by_place (z ∷ zs) zero e = inl (record { place = 0; is_there = e })
    by_place (z ∷ zs) (suc k) e = more z zs (by_place zs k e)

pub item_at : {X : Type 0} (xs : List X) (k : ℕ) → k < length xs → (x : X) × (slice_get xs k ≡ Some x)
item_at [] k lt = absurd (omega arith)
item_at (x ∷ xs) zero lt = (x, refl)
item_at (x ∷ xs) (suc k) lt = item_at xs k (omega arith)

pub stood_none : {X : Type 0} (x : X) → Stood [] x → ⊥
stood_none x h = let lt = slice_get_within [] h.place x h.is_there in omega arith
