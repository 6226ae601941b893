-- Where single bytes lead a reader.
use Rattle.std.proofs.Common.{◌≡◌, ℕ, ◌+◌, ◌*◌, ◌<◌, ◌⊎◌, inl, inr, Option, Some, None, refl, sym, ap, ◌∙◌, arith, cond, true, false, Bool, subst, ⊎_elim}
use Rattle.std.proofs.lemmas.Bool.{false_from_ne_true, eqb-true, or_cases, lt-ltb, ne_eqb, cases_Bool}
use Rattle.std.specs.Prelude.{◌==◌, ◌||◌}
use Rattle.std.specs.Option.{option_map}
use Rattle.ti_txt.specs.Grammar.{digit_of, is_white}
use Rattle.ti_txt.specs.Spots.{step_of}
use Rattle.ti_txt.specs.declared.spot.Spot.{Spot}
use Rattle.ti_txt.specs.declared.spot.Spot.TheVariants.{Before, Between, Origin, Half, Whole, Ended}

-- where a reader stands between words
abbrev pub gap_of : Option ℕ → Spot
gap_of None = Before
gap_of (Some next) = Between next

-- which way a test went
pub chosen : {A : Type 0} (b : Bool) (x y z : A) → cond b x y ≡ z → ((b ≡ true) × (x ≡ z)) ⊎ ((b ≡ false) × (y ≡ z))
chosen true x y z e = inl (refl, e)
chosen false x y z e = inr (refl, e)

-- a digit is no white space, no `@` and no `q`
pub record Digit (b d : ℕ) : Type 0 where
  pub dark : is_white b ≡ false
  pub no_sign : (b == 64) ≡ false
  pub no_end : (b == 113) ≡ false

clash : (b k d : ℕ) → b ≡ k → digit_of k ≡ None → digit_of b ≡ Some d → ⊥
clash b k d same none some = let e : None ≡ Some d = sym none ∙ (ap digit_of (sym same) ∙ some) in cc

white_digit : (b d : ℕ) → is_white b ≡ true → digit_of b ≡ Some d → ⊥
white_digit b d w e =
    ⊎_elim (λ x. ⊎_elim (λ y. ⊎_elim (λ z. clash b 32 d (eqb-true b 32 z) refl e) (λ z. clash b 9 d (eqb-true b 9 z) refl e) (or_cases (b == 32) (b == 9) y))
    (λ y. clash b 13 d (eqb-true b 13 y) refl e) (or_cases (b == 32 || b == 9) (b == 13) x))
    (λ x. clash b 10 d (eqb-true b 10 x) refl e) (or_cases (b == 32 || b == 9 || b == 13) (b == 10) w)

pub digit_is : (b d : ℕ) → digit_of b ≡ Some d → Digit b d
digit_is b d e = record {
  dark = false_from_ne_true (is_white b) (λ w. white_digit b d w e);
  no_sign = false_from_ne_true (b == 64) (λ t. clash b 64 d (eqb-true b 64 t) refl e);
  no_end = false_from_ne_true (b == 113) (λ t. clash b 113 d (eqb-true b 113 t) refl e);
}

pub white_step : (next : Option ℕ) (w : ℕ) → is_white w ≡ true → step_of (gap_of next) w ≡ Some (gap_of next)
white_step None w e = rw e refl
white_step (Some next) w e = rw e refl

pub high_step : (a b d : ℕ) → digit_of b ≡ Some d → step_of (Between a) b ≡ Some (Half a d)
high_step a b d e = let i = digit_is b d e in rw (i.dark, i.no_sign, i.no_end, e) refl

pub low_step : (a h b d : ℕ) → digit_of b ≡ Some d → step_of (Half a h) b ≡ Some (Whole a (16 * h + d))
low_step a h b d e = rw e refl

pub last_step : (a v w : ℕ) → is_white w ≡ true → step_of (Whole a v) w ≡ Some (Between (a + 1))
last_step a v w e = rw e refl

pub digit_step : (n a b d : ℕ) → n < 4 → digit_of b ≡ Some d → step_of (Origin n a) b ≡ Some (Origin (n + 1) (16 * a + d))
digit_step n a b d few e = let i = digit_is b d e in rw (i.dark, lt-ltb n 4 few, e) refl

pub origin_step : (n a w : ℕ) → 0 < n → is_white w ≡ true → step_of (Origin n a) w ≡ Some (Between a)
origin_step n a w some e = let ne : (n == 0) ≡ false = ne_eqb n 0 (λ z. omega (arith, z, some)) in rw (e, ne) refl

pub ended_step : (w : ℕ) → is_white w ≡ true → step_of Ended w ≡ Some Ended
ended_step w e = rw e refl

-- where the byte leads from between words
pub data GapStep : Option ℕ → ℕ → Option Spot → Type 0 where
  by_white : (next : Option ℕ) (b : ℕ) → is_white b ≡ true → GapStep next b (Some (gap_of next))
  by_sign : (next : Option ℕ) (b : ℕ) → b ≡ 64 → GapStep next b (Some (Origin 0 0))
  by_end : (next : Option ℕ) (b : ℕ) → b ≡ 113 → GapStep next b (Some Ended)
  by_digit : (a b d : ℕ) → digit_of b ≡ Some d → GapStep (Some a) b (Some (Half a d))
  by_none : (next : Option ℕ) (b : ℕ) → GapStep next b None

pub gap_step : (next : Option ℕ) (b : ℕ) → GapStep next b (step_of (gap_of next) b)
gap_step next b = ⊎_elim (λ w. subst (GapStep next b) (sym (white_step next b w)) (by_white next b w)) (dark next b) (cases_Bool (is_white b)) where
  digit : (a b : ℕ) (o : Option ℕ) → digit_of b ≡ o → GapStep (Some a) b (option_map (λ d. Half a d) o)
  digit a b None e = by_none (Some a) b
  digit a b (Some d) e = by_digit a b d e

  other : (next : Option ℕ) (b : ℕ) → is_white b ≡ false → (b == 64) ≡ false → (b == 113) ≡ false → GapStep next b (step_of (gap_of next) b)
  other None b w s q = rw (w, s, q) (by_none None b)
  other (Some a) b w s q = rw (w, s, q) (digit a b (digit_of b) refl)

  sign : (next : Option ℕ) (b : ℕ) → is_white b ≡ false → (b == 64) ≡ true → step_of (gap_of next) b ≡ Some (Origin 0 0)
  sign None b w s = rw (w, s) refl
  sign (Some a) b w s = rw (w, s) refl

  last : (next : Option ℕ) (b : ℕ) → is_white b ≡ false → (b == 64) ≡ false → (b == 113) ≡ true → step_of (gap_of next) b ≡ Some Ended
  last None b w s q = rw (w, s, q) refl
  last (Some a) b w s q = rw (w, s, q) refl

  dull : (next : Option ℕ) (b : ℕ) → is_white b ≡ false → (b == 64) ≡ false → GapStep next b (step_of (gap_of next) b)
  dull next b w s = ⊎_elim (λ q. subst (GapStep next b) (sym (last next b w s q)) (by_end next b (eqb-true b 113 q))) (other next b w s) (cases_Bool (b == 113))

  dark : (next : Option ℕ) (b : ℕ) → is_white b ≡ false → GapStep next b (step_of (gap_of next) b)
  dark next b w = ⊎_elim (λ s. subst (GapStep next b) (sym (sign next b w s)) (by_sign next b (eqb-true b 64 s))) (dull next b w) (cases_Bool (b == 64))
