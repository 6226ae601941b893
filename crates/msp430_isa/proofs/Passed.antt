-- What the tests of the profile say.
use Rattle.std.proofs.Common.{◌≡◌, ◌≢◌, ℕ, ◌<◌, true, false, Some, None, refl, sym, subst, ⊎_elim, arith}
use Rattle.std.specs.Prelude.{◌==◌, nat_lt, not, ◌&&◌, ◌||◌, Bool, cond, Option}
use Rattle.std.specs.Option.{option_map}
use Rattle.std.proofs.lemmas.Bool.Decides.{nat_tests}
use Rattle.std.proofs.lemmas.Bool.{or_cases, eqb-true, ne_eqb}
use Rattle.msp430_isa.specs.Profile.{is_base, is_constant}

pub not_same : (a c : ℕ) → a ≢ c → (a == c) ≡ false
not_same a c h = ne_eqb a c h

-- a base is none of the registers for which the table has other modes
pub record IsBase (r : ℕ) : Type 0 where
  pub low : r < 16
  pub not_pc : (r == 0) ≡ false
  pub not_sr : (r == 2) ≡ false
  pub not_r3 : (r == 3) ≡ false

pub base_is : (r : ℕ) → is_base r ≡ true → IsBase r
base_is r h = record { low = grind (arith, nat_tests); not_pc = grind (arith, nat_tests); not_sr = grind (arith, nat_tests); not_r3 = grind (arith, nat_tests) }

-- a register that holds no constant
pub plain_is : (r : ℕ) → (nat_lt r 16 && not (r == 3)) ≡ true → (r < 16) × ((r == 3) ≡ false)
plain_is r h = (grind (arith, nat_tests), grind (arith, nat_tests))

-- what holds at each constant of a generator
pub of_constant : (P : ℕ → Type 0) (v : ℕ) → is_constant v ≡ true → P 0 → P 1 → P 2 → P 4 → P 8 → P 65535 → P v
of_constant P v h p0 p1 p2 p4 p8 pf =
    let at = λ (n : ℕ) (p : P n) (e : (v == n) ≡ true). subst P (sym (eqb-true v n e)) p in
    ⊎_elim (λ h1. ⊎_elim (λ h2. ⊎_elim (λ h3. ⊎_elim (λ h4. ⊎_elim (at 0 p0) (at 1 p1) (or_cases (v == 0) (v == 1) h4))
    (at 2 p2) (or_cases (v == 0 || v == 1) (v == 2) h3))
    (at 4 p4) (or_cases (v == 0 || v == 1 || v == 2) (v == 4) h2))
    (at 8 p8) (or_cases (v == 0 || v == 1 || v == 2 || v == 4) (v == 8) h1))
    (at 65535 pf) (or_cases (v == 0 || v == 1 || v == 2 || v == 4 || v == 8) (v == 65535) h)

-- a choice that gives `Some a` gives it on one of its sides
pub cond_some : {A : Type 0} (b : Bool) (v : A) (o : Option A) (a : A) (P : A → Type 0) → (b ≡ true → P v) → (o ≡ Some a → P a) → cond b (Some v) o ≡ Some a → P a
cond_some true v o a P p q e = subst P (let inner : v ≡ a = cc in inner) (p refl)
cond_some false v o a P p q e = q e

pub map_some : {A B : Type 0} (f : A → B) (o : Option A) (b : B) → option_map f o ≡ Some b → (a : A) × (o ≡ Some a) × (f a ≡ b)
map_some f None b e = cc
map_some f (Some a) b e = (a, refl, (let inner : f a ≡ b = cc in inner))
