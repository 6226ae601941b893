-- Texts in which a mark stands nowhere, and texts that are cut at one.
use Rattle.std.proofs.Common.{◌≡◌, ◌∙◌, ◌+◌, ◌==◌, ◌≤◌, ◌<◌, ◌++◌, ◌⊎◌, ℕ, List, [], ◌∷◌, Option, Some, None, Bool, false, true, refl, sym, ap, arith, inl, inr, take, drop, suc, ap₂, eq-eqb, ne_eqb, eqb-true}
use Rattle.std.specs.List.{position_or_len}
use Rattle.std.proofs.lemmas.Bool.{cases_Bool}
use Rattle.std.specs.Prelude.{option_map, option_and_then, if◌then◌else◌}
use Rattle.certificate.specs.Texts.{Lacks}
use Rattle.certificate.specs.Fields.{after_mark, before_mark}

-- ---- What options say

pub some_is : {A : Type 0} (x y : A) → Some x ≡ Some y → x ≡ y
some_is x y e = cc

pub none_not : {A : Type 0} {P : Type 0} (x : A) → None ≡ Some x → P
none_not x e = cc

pub then_some : {A B : Type 0} (o : Option A) (f : A → Option B) (y : B) → option_and_then f o ≡ Some y → (x : A) × (o ≡ Some x) × (f x ≡ Some y)
then_some None f y e = none_not y e
then_some (Some x) f y e = (x, refl, e)

pub map_some : {A B : Type 0} (o : Option A) (f : A → B) (y : B) → option_map f o ≡ Some y → (x : A) × (o ≡ Some x) × (f x ≡ y)
map_some None f y e = none_not y e
map_some (Some x) f y e = (x, refl, some_is (f x) y e)

pub if_some : {A : Type 0} (b : Bool) (x y : A) → (if b then Some x else None) ≡ Some y → (b ≡ true) × (x ≡ y)
if_some true x y e = (refl, some_is x y e)
if_some false x y e = none_not y e

pub else_some : {A : Type 0} (b : Bool) (o : Option A) (y : A) → (if b then None else o) ≡ Some y → (b ≡ false) × (o ≡ Some y)
else_some true o y e = none_not y e
else_some false o y e = (refl, e)

pub if_none : {A : Type 0} (b : Bool) (o : Option A) (y : A) → (if b then o else None) ≡ Some y → (b ≡ true) × (o ≡ Some y)
if_none true o y e = (refl, e)
if_none false o y e = none_not y e

-- one of two
pub either : {A : Type 0} (b : Bool) (o p : Option A) (x : A) → (if b then o else p) ≡ Some x → ((b ≡ true) × (o ≡ Some x)) ⊎ (p ≡ Some x)
either true o p x e = inl (refl, e)
either false o p x e = inr e

-- ---- Lacking

pub lacks_append : (m : ℕ) (a b : List ℕ) → Lacks m a → Lacks m b → Lacks m (a ++ b)
lacks_append m [] b p q = q
lacks_append m (c ∷ a) b p q = (p.0, lacks_append m a b p.1 q)

pub lacks_front : (m : ℕ) (a b : List ℕ) → Lacks m (a ++ b) → Lacks m a
lacks_front m [] b p = tt
lacks_front m (c ∷ a) b p = (p.0, lacks_front m a b p.1)

pub lacks_back : (m : ℕ) (a b : List ℕ) → Lacks m (a ++ b) → Lacks m b
lacks_back m [] b p = p
lacks_back m (c ∷ a) b p = lacks_back m a b p.1

-- each byte is at least so much
abbrev pub From : ℕ → List ℕ → Type 0
From low [] = Unit {0}
From low (b ∷ text) = (low ≤ b) × From low text

pub from_append : (low : ℕ) (a b : List ℕ) → From low a → From low b → From low (a ++ b)
from_append low [] b p q = q
from_append low (c ∷ a) b p q = (p.0, from_append low a b p.1 q)

pub from_less : (low less : ℕ) (a : List ℕ) → less ≤ low → From low a → From less a
from_less low less [] l p = tt
from_less low less (c ∷ a) l p = (let q = p.0 in omega arith, from_less low less a l p.1)

pub lacks_below : (m low : ℕ) (a : List ℕ) → m < low → From low a → Lacks m a
lacks_below m low [] l p = tt
lacks_below m low (c ∷ a) l p = (ne_eqb c m (λ e. let q = p.0 in omega arith), lacks_below m low a l p.1)

-- digits and capitals
abbrev pub IsPlain : ℕ → Type 0
IsPlain b = (48 ≤ b) × (b ≤ 90) × (b ≡ 61 → ⊥)

abbrev pub Plain : List ℕ → Type 0
Plain [] = Unit {0}
Plain (b ∷ text) = IsPlain b × Plain text

pub plain_append : (a b : List ℕ) → Plain a → Plain b → Plain (a ++ b)
plain_append [] b p q = q
plain_append (c ∷ a) b p q = (p.0, plain_append a b p.1 q)

pub plain_from : (a : List ℕ) → Plain a → From 48 a
plain_from [] p = tt
plain_from (c ∷ a) p = (p.0.0, plain_from a p.1)

pub plain_lacks : (m : ℕ) (a : List ℕ) → ((b : ℕ) → IsPlain b → b ≡ m → ⊥) → Plain a → Lacks m a
plain_lacks m [] unlike p = tt
plain_lacks m (c ∷ a) unlike p = (ne_eqb c m (unlike c p.0), plain_lacks m a unlike p.1)

-- ---- Cutting at a mark

pub before_no : (m b : ℕ) (t : List ℕ) → (b == m) ≡ false → before_mark m (b ∷ t) ≡ b ∷ before_mark m t
before_no m b t other =
    let n : ℕ = position_or_len (λ c. c == m) t in
    let there : position_or_len (λ c. c == m) (b ∷ t) ≡ 1 + n = rw other refl in
    let one : 1 + n ≡ suc n = omega arith in
    ap (λ k. take k (b ∷ t)) (there ∙ one)

pub after_no : (m b : ℕ) (t : List ℕ) → (b == m) ≡ false → after_mark m (b ∷ t) ≡ after_mark m t
after_no m b t other =
    let n : ℕ = position_or_len (λ c. c == m) t in
    let there : position_or_len (λ c. c == m) (b ∷ t) ≡ 1 + n = rw other refl in
    let one : 1 + n + 1 ≡ suc (n + 1) = omega arith in
    ap (λ k. drop (k + 1) (b ∷ t)) there ∙ ap (λ k. drop k (b ∷ t)) one

pub before_yes : (m b : ℕ) (t : List ℕ) → (b == m) ≡ true → before_mark m (b ∷ t) ≡ []
before_yes m b t is = rw is refl

pub after_yes : (m b : ℕ) (t : List ℕ) → (b == m) ≡ true → after_mark m (b ∷ t) ≡ t
after_yes m b t is = rw is refl

pub before_lacks : (m : ℕ) (a b : List ℕ) → Lacks m a → before_mark m (a ++ m ∷ b) ≡ a
before_lacks m [] b p = before_yes m m b (eq-eqb m m refl)
before_lacks m (c ∷ a) b p = before_no m c (a ++ m ∷ b) p.0 ∙ ap (λ l. c ∷ l) (before_lacks m a b p.1)

pub after_lacks : (m : ℕ) (a b : List ℕ) → Lacks m a → after_mark m (a ++ m ∷ b) ≡ b
after_lacks m [] b p = after_yes m m b (eq-eqb m m refl)
after_lacks m (c ∷ a) b p = after_no m c (a ++ m ∷ b) p.0 ∙ after_lacks m a b p.1

pub before_all : (m : ℕ) (a : List ℕ) → Lacks m a → before_mark m a ≡ a
before_all m [] p = refl
before_all m (c ∷ a) p = before_no m c a p.0 ∙ ap (λ l. c ∷ l) (before_all m a p.1)

pub after_all : (m : ℕ) (a : List ℕ) → Lacks m a → after_mark m a ≡ []
after_all m [] p = refl
after_all m (c ∷ a) p = after_no m c a p.0 ∙ after_all m a p.1

pub apart : (m : ℕ) (t : List ℕ) → (t ≡ before_mark m t ++ m ∷ after_mark m t) ⊎ ((t ≡ before_mark m t) × (after_mark m t ≡ []))
apart m [] = inr (refl, refl)
apart m (b ∷ t) = elim (cases_Bool (b == m)) [
  | inl is ↦ inl (ap (λ c. c ∷ t) (eqb-true b m is) ∙ sym (ap₂ (λ f r. f ++ m ∷ r) (before_yes m b t is) (after_yes m b t is)))
  | inr other ↦ elim (apart m t) [
    | inl e ↦ inl (ap (λ l. b ∷ l) e ∙ sym (ap₂ (λ f r. f ++ m ∷ r) (before_no m b t other) (after_no m b t other)))
    | inr p ↦ inr (ap (λ l. b ∷ l) p.0 ∙ sym (before_no m b t other), after_no m b t other ∙ p.1)
  ]
]

-- what reads something behind a mark has a mark
pub cut_some : {A : Type 0} (m : ℕ) (t : List ℕ) (x : A) (r : List ℕ → Option A) → r [] ≡ None → r (after_mark m t) ≡ Some x → t ≡ before_mark m t ++ m ∷ after_mark m t
cut_some m t x r none some = elim (apart m t) [
  | inl e ↦ e
  | inr p ↦ none_not x (sym none ∙ ap r (sym p.1) ∙ some)
]
