-- The ground on which the functions of a program's graph stand: which objects belong to which function, and which variables have one.
use Rattle.std.proofs.Common.{◌≡◌, ℕ, ◌+◌, Bool, true, false, Option, Some, None, List, inl, inr, refl, sym, ap, ◌∙◌}
use Rattle.std.specs.Prelude.{◌==◌, ◌&&◌, ◌||◌, is_some, slice_get, slice_index_or}
use Rattle.std.proofs.lemmas.Bool.{and_parts, or_cases, eqb-true, eq-eqb, false≢true}
use Rattle.c_tree.specs.declared.tree.Variable.{Variable}
use Rattle.c_tree.specs.declared.tree.Function.{Function}
use Rattle.c_tree.specs.declared.tree.Program.{Program}
use Rattle.sound_programs.specs.SoundPrograms.{IsSound}
use Rattle.sound_programs.specs.Scoped.{IsScoped}
use Rattle.lowered_graphs.specs.Exprs.{Setting, setting_of, home, is_global, is_global_in}
use Rattle.lowered_graphs.specs.GraphOf.{reached, temporaries, objects_before, homes_of}
use Rattle.lowered_meaning.specs.Keeps.{Ground}
use Rattle.lowered_meaning.proofs.AssignStores.{HomesDiffer}
use Rattle.lowered_rules.proofs.EachLemmas.{and_both, or_first}
use Rattle.lowered_rules.proofs.ThingLemmas.{Thing, Named, Result, Temporary}
use Rattle.lowered_rules.proofs.ThingsOf.{things}
use Rattle.lowered_rules.proofs.HomesOf.{global_at}
use Rattle.lowered_grounds.proofs.Introduced.{owner_from, owner_none}
use Rattle.lowered_grounds.proofs.InnerVariables.{never_global}
use Rattle.lowered_rules.proofs.PlaceLemmas.{before}

-- ---- the ground

-- a variable belongs to the function that introduces it, a result or a temporary to its own
abbrev pub owner_by : Program → Option Thing → Option ℕ
owner_by p None = None
owner_by p (Some (Named x)) = owner_from 0 p.functions x
owner_by p (Some (Result f)) = Some f
owner_by p (Some (Temporary f)) = Some f

abbrev pub is_single_by : Option Thing → Bool
is_single_by None = false
is_single_by (Some (Named x)) = false
is_single_by (Some (Result f)) = true
is_single_by (Some (Temporary f)) = true

abbrev pub is_named : ℕ → Option Thing → Bool
is_named x (Some (Named y)) = x == y
is_named x _ = false

abbrev pub setting : Program → Setting
setting p = setting_of p (homes_of p)

-- an object of the file, or a variable that a function introduces
abbrev pub is_declared : Program → ℕ → Bool
is_declared p x = is_global (setting p) x || is_some (owner_from 0 p.functions x)

-- a declared variable whose home is an object of its own
abbrev pub has_object : Program → ℕ → Bool
has_object p x = is_named x (slice_get (things p) (home (setting p) x)) && is_declared p x

abbrev pub whole : Program → List ℕ → Ground
whole p heights = record {
  setting = setting p;
  function = 0;
  owner = λ o. owner_by p (slice_get (things p) o);
  has_object = has_object p;
  heights = heights;
  is_single = λ o. is_single_by (slice_get (things p) o);
  base = 0;
  top = 0;
}

-- where the temporaries of a function begin and end
abbrev pub base_in : Program → ℕ → Option Function → ℕ
base_in p n None = 0
base_in p n (Some f) = objects_before p n f (before p n)

abbrev pub base : Program → ℕ → ℕ
base p n = base_in p n (slice_get p.functions n)

abbrev pub temporaries_in : Program → ℕ → Option Function → ℕ
temporaries_in p n None = 0
temporaries_in p n (Some f) = temporaries p n f

abbrev pub top : Program → ℕ → ℕ
top p n = base p n + temporaries_in p n (slice_get p.functions n)

abbrev pub IsReached : Program → ℕ → Type 0
IsReached p n = slice_index_or (reached p) n false ≡ true

-- ---- what holds of all variables

named_is : (x : ℕ) (t : Option Thing) → is_named x t ≡ true → t ≡ Some (Named x)
named_is x None e = absurd (false≢true e)
named_is x (Some (Named y)) e = ap (λ z. Some (Named z)) (sym (eqb-true x y e))
named_is x (Some (Result f)) e = absurd (false≢true e)
named_is x (Some (Temporary f)) e = absurd (false≢true e)

pub global_variable : (v : Option Variable) → is_global_in v ≡ true → (u : Variable) × (v ≡ Some u) × (u.global ≡ true)
global_variable None e = absurd (false≢true e)
global_variable (Some u) e = (u, refl, e)

module _ (p : Program) where
  -- the thing at the home of a variable that has an object
  pub named_at : (x : ℕ) → has_object p x ≡ true → slice_get (things p) (home (setting p) x) ≡ Some (Named x)
  named_at x h = named_is x (slice_get (things p) (home (setting p) x)) (and_parts (is_named x (slice_get (things p) (home (setting p) x))) (is_declared p x) h).0

  pub has_named : (x : ℕ) → slice_get (things p) (home (setting p) x) ≡ Some (Named x) → is_declared p x ≡ true → has_object p x ≡ true
  has_named x e h = and_both (is_named x (slice_get (things p) (home (setting p) x))) (is_declared p x) (ap (is_named x) e ∙ eq-eqb x x refl) h

  pub homes_differ : (heights : List ℕ) → HomesDiffer (whole p heights)
  homes_differ heights x y hx hy same = named_inj (sym (named_at x hx) ∙ (ap (slice_get (things p)) same ∙ named_at y hy))
    where
      named_inj : Some (Named x) ≡ Some (Named y) → x ≡ y
      named_inj e = cc

  -- an object that belongs to no function is one of the file
  pub unowned_global : (x : ℕ) → has_object p x ≡ true → owner_by p (slice_get (things p) (home (setting p) x)) ≡ None → is_global (setting p) x ≡ true
  unowned_global x h e = elim (or_cases (is_global (setting p) x) (is_some (owner_from 0 p.functions x)) parts.1) [
    | inl g ↦ g
    | inr o ↦ absurd (false≢true (ap is_some (sym none) ∙ o))
  ]
    where
      parts : (is_named x (slice_get (things p) (home (setting p) x)) ≡ true) × (is_declared p x ≡ true)
      parts = and_parts (is_named x (slice_get (things p) (home (setting p) x))) (is_declared p x) h

      none : owner_from 0 p.functions x ≡ None
      none = ap (owner_by p) (sym (named_at x h)) ∙ e

  module _ (sound : IsSound p) (names : IsScoped p) where
    pub global_named : (x : ℕ) → is_global (setting p) x ≡ true → slice_get (things p) (home (setting p) x) ≡ Some (Named x)
    global_named x g = let v = global_variable (slice_get p.variables x) g in global_at p sound x v.0 v.1 v.2

    -- an object of the file belongs to no function
    pub global_unowned : (x : ℕ) → is_global (setting p) x ≡ true → (has_object p x ≡ true) × (owner_by p (slice_get (things p) (home (setting p) x)) ≡ None)
    global_unowned x g = (
      has_named x (global_named x g) (or_first (is_global (setting p) x) (is_some (owner_from 0 p.functions x)) g),
      ap (owner_by p) (global_named x g) ∙ owner_none 0 p.functions x (never_global p sound names x g),
    )
