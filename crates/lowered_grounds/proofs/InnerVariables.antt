-- Parameters are scalars, and no parameter or local is an object of the file.
use Rattle.std.proofs.Common.{◌≡◌, ℕ, suc, Bool, true, false, Option, Some, None, List, [], ◌∷◌, refl, sym, subst, ◌∙◌}
use Rattle.std.specs.Prelude.{not, is_none, slice_get}
use Rattle.std.proofs.lemmas.Bool.{and_parts, false≢true}
use Rattle.c_tree.specs.declared.tree.Variable.{Variable}
use Rattle.c_tree.specs.declared.tree.Function.{Function}
use Rattle.c_tree.specs.declared.tree.Program.{Program}
use Rattle.sound_programs.specs.Sound.{parameters_fit, is_parameter}
use Rattle.sound_programs.specs.SoundPrograms.{IsSound}
use Rattle.sound_programs.specs.Scoped.{IsScoped, holds, locals, introduced}
use Rattle.lowered_graphs.specs.Exprs.{is_global_in, length_or, length_in}
use Rattle.lowered_graphs.specs.GraphOf.{no_homes, within_of}
use Rattle.lowered_rules.proofs.EachLemmas.{Each, each_append, each_weaker}
use Rattle.lowered_rules.proofs.StmtCalls.{Inner}
use Rattle.lowered_rules.proofs.Introduced.{introduced_by}
use Rattle.lowered_rules.proofs.FrameLemmas.{below_of, heights_of, judged, locals_known}
use Rattle.lowered_grounds.proofs.Introduced.{each_held}

-- a variable of a function
pub record IsInner (p : Program) (x : ℕ) : Type 0 where
  pub variable : Variable
  pub there : slice_get p.variables x ≡ Some variable
  pub inner : variable.global ≡ false

not_true : (q : Bool) → not q ≡ true → q ≡ false
not_true true h = absurd (false≢true h)
not_true false h = refl

module _ (p : Program) where
  parameter_inner : (x : ℕ) (v : Option Variable) → slice_get p.variables x ≡ v → is_parameter v ≡ true → IsInner p x
  parameter_inner x None e h = absurd (false≢true h)
  parameter_inner x (Some v) e h = record { variable = v; there = e; inner = not_true v.global (and_parts (is_none v.length) (not v.global) h).1 }

  parameters_inner : (xs : List ℕ) → parameters_fit p xs ≡ true → Each (IsInner p) xs
  parameters_inner [] h = tt
  parameters_inner (x ∷ xs) h =
      let q = and_parts (is_parameter (slice_get p.variables x)) (parameters_fit p xs) h in (parameter_inner x (slice_get p.variables x) refl q.0, parameters_inner xs q.1)

  all_inner : (fs : List Function) → ((k : ℕ) (f : Function) → slice_get fs k ≡ Some f → Each (IsInner p) (introduced_by f)) → Each (IsInner p) (introduced fs)
  all_inner [] h = tt
  all_inner (f ∷ fs) h = each_append (IsInner p) (introduced_by f) (introduced fs) (h 0 f refl) (all_inner fs (λ k g e. h (suc k) g e))

  module _ (sound : IsSound p) (names : IsScoped p) where
    own_inner : (n : ℕ) (f : Function) → slice_get p.functions n ≡ Some f → Each (IsInner p) (introduced_by f)
    own_inner n f found =
        each_append (IsInner p) f.params (locals f.body) (parameters_inner f.params (judged p sound names n f found).params)
        (each_weaker (Inner (within_of p no_homes n) (below_of (heights_of p sound names) n)) (IsInner p) (λ x i. record { variable = i.variable; there = i.there; inner = i.own }) (locals f.body)
        (locals_known p sound names no_homes n f found))

    -- no object of the file is a parameter or a local
    pub never_global : (x : ℕ) → is_global_in (slice_get p.variables x) ≡ true → holds x (introduced p.functions) ≡ true → ⊥
    never_global x g h =
        let i = each_held (IsInner p) (introduced p.functions) x (all_inner p.functions own_inner) h in
        false≢true (sym i.inner ∙ subst (λ v. is_global_in v ≡ true) i.there g)

-- a parameter is a scalar
pub parameter_one : (v : Option Variable) → is_parameter v ≡ true → length_in v ≡ 1
parameter_one None h = absurd (false≢true h)
parameter_one (Some v) h = by v.length (and_parts (is_none v.length) (not v.global) h).0
  where
    by : (n : Option ℕ) → is_none n ≡ true → length_or n ≡ 1
    by None e = refl
    by (Some n) e = absurd (false≢true e)
