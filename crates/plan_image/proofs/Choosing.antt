-- Lists of objects that are chosen by a test, as what a section restores and saves.
use Rattle.std.proofs.Common.{◌≡◌, ℕ, Bool, true, false, List, [], ◌∷◌, ◌++◌, refl, sym, ap, ◌∙◌, inl, inr}
use Rattle.std.specs.Prelude.{◌==◌, ◌||◌, if◌then◌else◌}
use Rattle.std.proofs.lemmas.Bool.{cases_Bool, eqb-true}
use Rattle.home_planner.specs.Sets.{is_in}
use Rattle.plan_code.specs.Positions.{chosen}

pub is_in-append : (xs ys : List ℕ) (o : ℕ) → is_in (xs ++ ys) o ≡ (is_in xs o || is_in ys o)
is_in-append [] ys o = refl
is_in-append (x ∷ xs) ys o = elim (o == x) as (λ c. (c || is_in (xs ++ ys) o) ≡ ((c || is_in xs o) || is_in ys o)) [ true ↦ refl | false ↦ is_in-append xs ys o ]

-- what is there and passes the test is chosen
pub chosen_in : (test : ℕ → Bool) (os : List ℕ) (o : ℕ) → is_in os o ≡ true → test o ≡ true → is_in (chosen test os) o ≡ true
chosen_in test [] o is passes = let bad : false ≡ true = is in absurd (cc)
chosen_in test (x ∷ os) o is passes = elim (cases_Bool (o == x)) [
  | inl e ↦
      let passed : test x ≡ true = ap test (sym (eqb-true o x e)) ∙ passes in
      ap (λ c. is_in (if c then x ∷ chosen test os else chosen test os) o) passed ∙ ap (λ c. c || is_in (chosen test os) o) e
  | inr e ↦
      let rest = chosen_in test os o (sym (ap (λ c. c || is_in os o) e) ∙ is) passes in
      elim (cases_Bool (test x)) [
        | inl passed ↦ ap (λ c. is_in (if c then x ∷ chosen test os else chosen test os) o) passed ∙ (ap (λ c. c || is_in (chosen test os) o) e ∙ rest)
        | inr failed ↦ ap (λ c. is_in (if c then x ∷ chosen test os else chosen test os) o) failed ∙ rest
      ]
]
