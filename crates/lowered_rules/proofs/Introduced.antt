-- The parameters and locals of a program's functions: no two of them are one variable.
use Rattle.std.proofs.Common.{◌≡◌, ◌≢◌, ℕ, zero, suc, ◌<◌, Some, List, [], ◌∷◌, ◌++◌, inl, inr, sym, subst, arith}
use Rattle.std.specs.Prelude.{Contains, slice_get}
use Rattle.std.proofs.lemmas.Bool.{cases_order}
use Rattle.std.proofs.lemmas.List.Elements.{Contains-append_left, Contains-append_right}
use Rattle.c_tree.specs.declared.tree.Function.{Function}
use Rattle.sound_programs.specs.Scoped.{introduced, locals}
use Rattle.lowered_rules.proofs.Rising.{Rising, rising_left, rising_right, rising_across}

abbrev pub introduced_by : Function → List ℕ
introduced_by f = f.params ++ locals f.body

pub introduced_at : (fs : List Function) (k : ℕ) (f : Function) → Rising (introduced fs) → slice_get fs k ≡ Some f → Rising (introduced_by f)
introduced_at [] k f r e = absurd (cc)
introduced_at (h ∷ fs) zero f r e = let same : h ≡ f = cc in subst (λ z. Rising (introduced_by z)) same (rising_left (introduced_by h) (introduced fs) r)
introduced_at (h ∷ fs) (suc k) f r e = introduced_at fs k f (rising_right (introduced_by h) (introduced fs) r) e

introduced_has : (fs : List Function) (k : ℕ) (f : Function) (x : ℕ) → slice_get fs k ≡ Some f → Contains (introduced_by f) x → Contains (introduced fs) x
introduced_has [] k f x e c = absurd (cc)
introduced_has (h ∷ fs) zero f x e c =
    let same : h ≡ f = cc in Contains-append_left (introduced_by h) (introduced fs) x (subst (λ z. Contains (introduced_by z) x) (sym same) c)
introduced_has (h ∷ fs) (suc k) f x e c = Contains-append_right (introduced_by h) (introduced fs) x (introduced_has fs k f x e c)

introduced_before : (fs : List Function) (i k : ℕ) (f g : Function) (x y : ℕ) → Rising (introduced fs) → i < k → slice_get fs i ≡ Some f → slice_get fs k ≡ Some g
    → Contains (introduced_by f) x → Contains (introduced_by g) y → x < y
introduced_before [] i k f g x y r lt e d c b = absurd (cc)
introduced_before (h ∷ fs) zero zero f g x y r lt e d c b = absurd (omega (arith, lt))
introduced_before (h ∷ fs) zero (suc k) f g x y r lt e d c b =
    let same : h ≡ f = cc in
    rising_across (introduced_by h) (introduced fs) x y r (subst (λ z. Contains (introduced_by z) x) (sym same) c) (introduced_has fs k g y d b)
introduced_before (h ∷ fs) (suc i) zero f g x y r lt e d c b = absurd (omega (arith, lt))
introduced_before (h ∷ fs) (suc i) (suc k) f g x y r lt e d c b =
    introduced_before fs i k f g x y (rising_right (introduced_by h) (introduced fs) r) (omega (arith, lt)) e d c b

-- variables of two functions differ
pub functions_apart : (fs : List Function) (i k : ℕ) (f g : Function) (x y : ℕ) → Rising (introduced fs) → i ≢ k → slice_get fs i ≡ Some f → slice_get fs k ≡ Some g
    → Contains (introduced_by f) x → Contains (introduced_by g) y → x ≢ y
functions_apart fs i k f g x y r ne e d c b same = elim (cases_order i k) [
  | inl is ↦ ne is
  | inr other ↦ elim other [
    | inl lt ↦ let less = introduced_before fs i k f g x y r lt e d c b in absurd (omega (arith, less, same))
    | inr lt ↦ let less = introduced_before fs k i g f y x r lt d e b c in absurd (omega (arith, less, same))
  ]
]

-- a parameter of any function is no local of one
pub parameter_apart : (fs : List Function) (i k : ℕ) (f g : Function) (x y : ℕ) → Rising (introduced fs) → slice_get fs i ≡ Some f → slice_get fs k ≡ Some g
    → Contains f.params x → Contains (locals g.body) y → x ≢ y
parameter_apart fs i k f g x y r e d c b same = elim (cases_order i k) [
  | inl is ↦
      let one : f ≡ g = cc in
      let less = rising_across g.params (locals g.body) x y (introduced_at fs k g r d) (subst (λ z. Contains z.params x) one c) b in
      absurd (omega (arith, less, same))
  | inr other ↦ elim other [
    | inl lt ↦
        let less = introduced_before fs i k f g x y r lt e d (Contains-append_left f.params (locals f.body) x c) (Contains-append_right g.params (locals g.body) y b) in
        absurd (omega (arith, less, same))
    | inr lt ↦
        let less = introduced_before fs k i g f y x r lt d e (Contains-append_right g.params (locals g.body) y b) (Contains-append_left f.params (locals f.body) x c) in
        absurd (omega (arith, less, same))
  ]
]
