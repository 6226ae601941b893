-- The scope in which the body of a function stands: its parameters and the objects of the file.
use Rattle.std.proofs.Common.{◌≡◌, ℕ, suc, ◌+◌, Bool, true, false, Option, Some, None, List, [], ◌∷◌, ◌++◌, refl, sym, subst, arith, ◌⊎◌, inl, inr}
use Rattle.std.specs.Prelude.{slice_get, ◌||◌, ◌==◌}
use Rattle.std.proofs.lemmas.Bool.Decides.{Decides-eqb}
use Rattle.c_tree.specs.declared.tree.Variable.{Variable}
use Rattle.c_tree.specs.declared.tree.Function.{Function}
use Rattle.sound_programs.specs.Scoped.{Scope, holds, global_or, globals_from}
use Rattle.lowered_graphs.specs.Exprs.{Setting, home, is_global, is_global_in}
use Rattle.lowered_meaning.specs.Keeps.{Ground, IsHomeBy, HasHomes}
use Rattle.lowered_meaning.proofs.CallsParameters.{Bind, AreParameters, homes_bind}
use Rattle.lowered_meaning.proofs.FitParts.{either_part}
use Rattle.lowered_meaning.proofs.FitExprs.{Grounded, Covers}

abbrev pub params_in : Option Function → List ℕ
params_in None = []
params_in (Some fn) = fn.params

-- the variables in scope where a body with these parameters begins
abbrev pub BodyScope : Setting → List ℕ → ℕ → Type 0
BodyScope s params = Bind (λ y. is_global s y ≡ true) params

-- ---- scopes behind parameters

pub bind_in : (params : List ℕ) (base : ℕ → Type 0) (x : ℕ) → ((holds x params ≡ true) ⊎ base x) → Bind base params x
bind_in [] base x (inl h) = cc
bind_in [] base x (inr b) = b
bind_in (y ∷ ys) base x (inr b) = bind_in ys (λ z. (z ≡ y) ⊎ base z) x (inr (inr b))
bind_in (y ∷ ys) base x (inl h) = bind_in ys (λ z. (z ≡ y) ⊎ base z) x (found (either_part (x == y) (holds x ys) h))
  where
    found : (((x == y) ≡ true) ⊎ (holds x ys ≡ true)) → (holds x ys ≡ true) ⊎ ((x ≡ y) ⊎ base x)
    found (inl e) = inr (inl ((Decides-eqb x y).0 e))
    found (inr k) = inl k

pub bind_more : (params : List ℕ) (base more : ℕ → Type 0) → ((x : ℕ) → base x → more x) → (x : ℕ) → Bind base params x → Bind more params x
bind_more [] base more f x b = f x b
bind_more (y ∷ ys) base more f x b = bind_more ys (λ z. (z ≡ y) ⊎ base z) (λ z. (z ≡ y) ⊎ more z) over x b
  where
    over : (z : ℕ) → ((z ≡ y) ⊎ base z) → (z ≡ y) ⊎ more z
    over z (inl e) = inl e
    over z (inr k) = inr (f z k)

bind_homes : (w : Ground) (params : List ℕ) (base : ℕ → Type 0) → HasHomes w base → AreParameters w params → HasHomes w (Bind base params)
bind_homes w [] base homes is = homes
bind_homes w (x ∷ xs) base homes is = bind_homes w xs (λ y. (y ≡ x) ⊎ base y) (homes_bind w base x homes is.0) is.1

-- ---- the objects of the file

pub holds_either : (x : ℕ) (xs ys : Scope) → holds x (xs ++ ys) ≡ true → (holds x xs ≡ true) ⊎ (holds x ys ≡ true)
holds_either x [] ys h = inr h
holds_either x (z ∷ xs) ys h = by_first (x == z) h (holds_either x xs ys)
  where
    by_first : (b : Bool) → (b || holds x (xs ++ ys)) ≡ true → (holds x (xs ++ ys) ≡ true → (holds x xs ≡ true) ⊎ (holds x ys ≡ true)) → ((b || holds x xs) ≡ true) ⊎ (holds x ys ≡ true)
    by_first true k rest = inl refl
    by_first false k rest = rest k

-- a variable among them, by its place
pub record IsFiled (k : ℕ) (vs : List Variable) (x : ℕ) : Type 0 where
  pub place : ℕ
  pub is : x ≡ k + place
  pub global : is_global_in (slice_get vs place) ≡ true

filed : (k : ℕ) (vs : List Variable) (x : ℕ) → holds x (globals_from k vs) ≡ true → IsFiled k vs x
filed k [] x h = cc
filed k (v ∷ vs) x h = by_global v.global refl h (filed (k + 1) vs x)
  where
    later : IsFiled (k + 1) vs x → IsFiled k (v ∷ vs) x
    later f = record { place = suc f.place; is = omega (arith, f.is); global = f.global }

    found : v.global ≡ true → (((x == k) ≡ true) ⊎ (holds x (globals_from (k + 1) vs) ≡ true)) → (holds x (globals_from (k + 1) vs) ≡ true → IsFiled (k + 1) vs x) → IsFiled k (v ∷ vs) x
    found e (inl i) rest = record { place = 0; is = omega (arith, (Decides-eqb x k).0 i); global = e }
    found e (inr i) rest = later (rest i)

    by_global : (b : Bool) → v.global ≡ b → holds x (global_or b k (globals_from (k + 1) vs)) ≡ true → (holds x (globals_from (k + 1) vs) ≡ true → IsFiled (k + 1) vs x) → IsFiled k (v ∷ vs) x
    by_global true e i rest = found e (either_part (x == k) (holds x (globals_from (k + 1) vs)) i) rest
    by_global false e i rest = later (rest i)

pub global_of : (s : Setting) (x : ℕ) → holds x (globals_from 0 s.program.variables) ≡ true → is_global s x ≡ true
global_of s x h = let f = filed 0 s.program.variables x h in subst (λ y. is_global s y ≡ true) (omega (arith, f.is)) f.global

-- ---- where a body begins

pub body_covers : (w : Ground) (params : List ℕ) → Grounded w → AreParameters w params → Covers w (BodyScope w.setting params) (params ++ globals_from 0 w.setting.program.variables)
body_covers w params ground are = record {
  homes = bind_homes w params (λ y. is_global w.setting y ≡ true) file_homes are;
  in_scope = λ x h. bind_in params (λ y. is_global w.setting y ≡ true) x (scoped x (holds_either x params (globals_from 0 w.setting.program.variables) h));
  file = λ x h. bind_in params (λ y. is_global w.setting y ≡ true) x (inr h);
}
  where
    file_homes : HasHomes w (λ y. is_global w.setting y ≡ true)
    file_homes y is = ((ground.file y is).0, subst (IsHomeBy w (home w.setting y)) (sym (ground.file y is).1) tt)

    scoped : (x : ℕ) → ((holds x params ≡ true) ⊎ (holds x (globals_from 0 w.setting.program.variables) ≡ true)) → (holds x params ≡ true) ⊎ (is_global w.setting x ≡ true)
    scoped x (inl h) = inl h
    scoped x (inr h) = inr (global_of w.setting x h)
