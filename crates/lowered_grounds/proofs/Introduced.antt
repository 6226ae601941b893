-- Each parameter and local of a program whose names are in scope belongs to one function.
use Rattle.std.proofs.Common.{◌≡◌, ℕ, zero, suc, ◌+◌, Bool, true, false, Option, Some, None, List, [], ◌∷◌, ◌++◌, refl, sym, ap, subst, ◌∙◌, arith}
use Rattle.std.specs.Prelude.{slice_get, if◌then◌else◌}
use Rattle.std.proofs.lemmas.List.Elements.{Contains-append_left, Contains-append_right}
use Rattle.c_tree.specs.declared.tree.Function.{Function}
use Rattle.sound_programs.specs.Scoped.{holds, introduced}
use Rattle.lowered_rules.proofs.EachLemmas.{Each, each_contains}
use Rattle.lowered_rules.proofs.Rising.{Rising, holds_contains, contains_holds, rising_right, rising_across}
use Rattle.lowered_rules.proofs.Introduced.{introduced_by}

-- ---- what a list holds

pub holds_left : (x : ℕ) (xs ys : List ℕ) → holds x xs ≡ true → holds x (xs ++ ys) ≡ true
holds_left x xs ys h = contains_holds x (xs ++ ys) (Contains-append_left xs ys x (holds_contains x xs h))

pub holds_right : (x : ℕ) (xs ys : List ℕ) → holds x ys ≡ true → holds x (xs ++ ys) ≡ true
holds_right x xs ys h = contains_holds x (xs ++ ys) (Contains-append_right xs ys x (holds_contains x ys h))

pub each_held : (P : ℕ → Type 0) (xs : List ℕ) (x : ℕ) → Each P xs → holds x xs ≡ true → P x
each_held P xs x h k = each_contains P xs x h (holds_contains x xs k)

pub rising_apart : (xs ys : List ℕ) (x : ℕ) → Rising (xs ++ ys) → holds x xs ≡ true → holds x ys ≡ true → ⊥
rising_apart xs ys x h a b = let lt = rising_across xs ys x x h (holds_contains x xs a) (holds_contains x ys b) in omega (arith, lt)

-- ---- the functions that introduce variables

-- the function that introduces a variable, where the first of the functions has the number n
abbrev pub owner_from : ℕ → List Function → ℕ → Option ℕ
owner_from n [] x = None
owner_from n (f ∷ fs) x = if holds x (introduced_by f) then Some n else owner_from (n + 1) fs x

introduced_holds : (fs : List Function) (k : ℕ) (f : Function) (x : ℕ) → slice_get fs k ≡ Some f → holds x (introduced_by f) ≡ true → holds x (introduced fs) ≡ true
introduced_holds [] k f x e h = absurd (cc)
introduced_holds (g ∷ fs) zero f x e h = let same : g ≡ f = cc in holds_left x (introduced_by g) (introduced fs) (subst (λ z. holds x (introduced_by z) ≡ true) (sym same) h)
introduced_holds (g ∷ fs) (suc k) f x e h = holds_right x (introduced_by g) (introduced fs) (introduced_holds fs k f x e h)

pub owner_at : (n : ℕ) (fs : List Function) (k : ℕ) (f : Function) (x : ℕ) → Rising (introduced fs) → slice_get fs k ≡ Some f → holds x (introduced_by f) ≡ true → owner_from n fs x ≡ Some (n + k)
owner_at n [] k f x r e h = absurd (cc)
owner_at n (g ∷ fs) zero f x r e h =
    let same : g ≡ f = cc in
    let here : n ≡ n + 0 = omega arith in
    ap (λ b. if b then Some n else owner_from (n + 1) fs x) (subst (λ z. holds x (introduced_by z) ≡ true) (sym same) h) ∙ ap Some here
owner_at n (g ∷ fs) (suc k) f x r e h =
    let there : n + 1 + k ≡ n + suc k = omega arith in
    by (holds x (introduced_by g)) refl (owner_at (n + 1) fs k f x (rising_right (introduced_by g) (introduced fs) r) e h ∙ ap Some there)
  where
    by : (b : Bool) → holds x (introduced_by g) ≡ b → owner_from (n + 1) fs x ≡ Some (n + suc k) → (if b then Some n else owner_from (n + 1) fs x) ≡ Some (n + suc k)
    by true q rest = absurd (rising_apart (introduced_by g) (introduced fs) x r q (introduced_holds fs k f x e h))
    by false q rest = rest

pub owner_none : (n : ℕ) (fs : List Function) (x : ℕ) → (holds x (introduced fs) ≡ true → ⊥) → owner_from n fs x ≡ None
owner_none n [] x out = refl
owner_none n (g ∷ fs) x out = by (holds x (introduced_by g)) refl (owner_none (n + 1) fs x (λ h. out (holds_right x (introduced_by g) (introduced fs) h)))
  where
    by : (b : Bool) → holds x (introduced_by g) ≡ b → owner_from (n + 1) fs x ≡ None → (if b then Some n else owner_from (n + 1) fs x) ≡ None
    by true q rest = absurd (out (holds_left x (introduced_by g) (introduced fs) q))
    by false q rest = rest
