-- Tests joined, and numbers compared by computing.
use Rattle.std.proofs.Common.{◌≡◌, ℕ, zero, suc, Bool, true, false, not, ◌||◌, ◌&&◌, refl, ap}

abbrev pub same_number : ℕ → ℕ → Bool
same_number zero zero = true
same_number (suc m) (suc n) = same_number m n
same_number _ _ = false

abbrev pub implies : Bool → Bool → Bool
implies a b = not a || b

abbrev pub below : ℕ → ℕ → Bool
below m zero = false
below zero (suc n) = true
below (suc m) (suc n) = below m n

pub both_left : (a b : Bool) → (a && b) ≡ true → a ≡ true
both_left true b e = refl
both_left false b e = e

pub both_right : (a b : Bool) → (a && b) ≡ true → b ≡ true
both_right true b e = e
both_right false b e = cc

pub number_is : (m n : ℕ) → same_number m n ≡ true → m ≡ n
number_is zero zero e = refl
number_is (suc m) (suc n) e = ap suc (number_is m n e)
number_is _ _ e = cc

pub implied : (a b : Bool) → implies a b ≡ true → a ≡ true → b ≡ true
implied true b e h = e
implied false b e h = cc

pub or_first : (a b : Bool) → a ≡ true → (a || b) ≡ true
or_first true b e = refl
or_first false b e = cc

pub or_second : (a b : Bool) → b ≡ true → (a || b) ≡ true
or_second true b e = refl
or_second false b e = e

pub either : (a b : Bool) → (a || b) ≡ true → a ≡ false → b ≡ true
either true b e f = cc
either false b e f = e

pub both : (a b : Bool) → a ≡ true → b ≡ true → (a && b) ≡ true
both true b e f = f
both false b e f = cc

pub not_true : (a : Bool) → not a ≡ true → a ≡ false
not_true true e = cc
not_true false e = refl
