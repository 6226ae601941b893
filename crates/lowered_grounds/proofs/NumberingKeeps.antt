-- What stays as the objects of further functions are numbered: the objects that are there, and the homes of other variables and of other results.
use Rattle.std.proofs.Common.{◌≡◌, ◌≢◌, ℕ, ◌+◌, ◌<◌, Bool, true, false, Option, Some, None, List, [], ◌∷◌, ◌++◌, replicate, refl, sym, ap, subst, ◌∙◌, arith}
use Rattle.std.specs.Prelude.{length, ◌==◌, slice_get, slice_index_or, if◌then◌else◌}
use Rattle.std.proofs.lemmas.Bool.Decides.{Decides-eqb}
use Rattle.std.proofs.lemmas.List.{get_or-set_other}
use Rattle.c_values.specs.declared.ops.Ty.{Ty}
use Rattle.c_tree.specs.declared.tree.Variable.{Variable}
use Rattle.c_tree.specs.declared.tree.Function.{Function}
use Rattle.c_tree.specs.declared.tree.Program.{Program}
use Rattle.sound_programs.specs.Scoped.{holds, introduced}
use Rattle.flow_graph.specs.declared.graph.Object.{Object}
use Rattle.lowered_graphs.specs.declared.numbering.Numbering.{Numbering}
use Rattle.lowered_graphs.specs.GraphOf.{no_homes, reached, object_of, scalar, add_local, add_locals, add_result, add_result_of, add_named, add_function, add_functions, temporaries}
use Rattle.lowered_rules.proofs.EachLemmas.{or_first, or_second}
use Rattle.lowered_rules.proofs.ThingLemmas.{get_left}
use Rattle.lowered_rules.proofs.ThingsOf.{variables_of}
use Rattle.lowered_rules.proofs.BodyTemps.{locals_anywhere}
use Rattle.lowered_rules.proofs.Introduced.{introduced_by}
use Rattle.lowered_grounds.proofs.Introduced.{holds_left, holds_right}

-- what a function declares is the same wherever its objects stand
pub variables_own : (p : Program) (n : ℕ) (f : Function) → variables_of p n f ≡ introduced_by f
variables_own p n f = ap (λ xs. f.params ++ xs) (locals_anywhere p no_homes n f)

abbrev pub IsOut : ℕ → List ℕ → Type 0
IsOut x xs = holds x xs ≡ true → ⊥

out_first : (x y : ℕ) (ys : List ℕ) → IsOut x (y ∷ ys) → x ≢ y
out_first x y ys out e = out (or_first (x == y) (holds x ys) ((Decides-eqb x y).1 e))

out_rest : (x y : ℕ) (ys : List ℕ) → IsOut x (y ∷ ys) → IsOut x ys
out_rest x y ys out h = out (or_second (x == y) (holds x ys) h)

module _ (p : Program) where
  -- ---- objects that are there

  local_objects : (y : ℕ) (v : Option Variable) (m : Numbering) (k : ℕ) (o : Object) → slice_get m.objects k ≡ Some o → slice_get (add_local y v m).objects k ≡ Some o
  local_objects y None m k o e = e
  local_objects y (Some v) m k o e = get_left m.objects (object_of v [] ∷ []) k o e

  locals_objects : (ys : List ℕ) (m : Numbering) (k : ℕ) (o : Object) → slice_get m.objects k ≡ Some o → slice_get (add_locals p ys m).objects k ≡ Some o
  locals_objects [] m k o e = e
  locals_objects (y ∷ ys) m k o e = locals_objects ys (add_local y (slice_get p.variables y) m) k o (local_objects y (slice_get p.variables y) m k o e)

  result_objects : (n : ℕ) (ty : Option Ty) (m : Numbering) (k : ℕ) (o : Object) → slice_get m.objects k ≡ Some o → slice_get (add_result_of p n ty m).objects k ≡ Some o
  result_objects n None m k o e = e
  result_objects n (Some ty) m k o e = by (n == p.main)
    where
      by : (b : Bool) → slice_get (if b then m else add_result n m).objects k ≡ Some o
      by true = e
      by false = get_left m.objects (scalar ∷ []) k o e

  function_objects : (n : ℕ) (f : Function) (m : Numbering) (k : ℕ) (o : Object) → slice_get m.objects k ≡ Some o → slice_get (add_function p n f m).objects k ≡ Some o
  function_objects n f m k o e =
      get_left (add_named p n f m).objects (replicate (temporaries p n f) scalar) k o (locals_objects (variables_of p n f) (add_result_of p n f.result m) k o (result_objects n f.result m k o e))

  pub functions_objects : (n : ℕ) (fs : List Function) (m : Numbering) (k : ℕ) (o : Object) → slice_get m.objects k ≡ Some o → slice_get (add_functions p n fs m).objects k ≡ Some o
  functions_objects n [] m k o e = e
  functions_objects n (f ∷ fs) m k o e = functions_objects (n + 1) fs (if slice_index_or (reached p) n false then add_function p n f m else m) k o (by (slice_index_or (reached p) n false))
    where
      by : (b : Bool) → slice_get (if b then add_function p n f m else m).objects k ≡ Some o
      by true = function_objects n f m k o e
      by false = e

  -- ---- the homes of other variables

  abbrev pub SameHome : ℕ → Numbering → Numbering → Type 0
  SameHome x m k = slice_index_or k.variables x 0 ≡ slice_index_or m.variables x 0

  local_home : (x y : ℕ) (v : Option Variable) (m : Numbering) → x ≢ y → SameHome x m (add_local y v m)
  local_home x y None m ne = refl
  local_home x y (Some v) m ne = get_or-set_other m.variables y x (length m.objects) 0 ne

  locals_home : (x : ℕ) (ys : List ℕ) (m : Numbering) → IsOut x ys → SameHome x m (add_locals p ys m)
  locals_home x [] m out = refl
  locals_home x (y ∷ ys) m out = locals_home x ys (add_local y (slice_get p.variables y) m) (out_rest x y ys out) ∙ local_home x y (slice_get p.variables y) m (out_first x y ys out)

  result_home : (x n : ℕ) (ty : Option Ty) (m : Numbering) → SameHome x m (add_result_of p n ty m)
  result_home x n None m = refl
  result_home x n (Some ty) m = by (n == p.main)
    where
      by : (b : Bool) → SameHome x m (if b then m else add_result n m)
      by true = refl
      by false = refl

  function_home : (x n : ℕ) (f : Function) (m : Numbering) → IsOut x (introduced_by f) → SameHome x m (add_function p n f m)
  function_home x n f m out =
      locals_home x (variables_of p n f) (add_result_of p n f.result m) (subst (IsOut x) (sym (variables_own p n f)) out) ∙ result_home x n f.result m

  pub functions_home : (x n : ℕ) (fs : List Function) (m : Numbering) → IsOut x (introduced fs) → SameHome x m (add_functions p n fs m)
  functions_home x n [] m out = refl
  functions_home x n (f ∷ fs) m out =
      functions_home x (n + 1) fs (if slice_index_or (reached p) n false then add_function p n f m else m) (λ h. out (holds_right x (introduced_by f) (introduced fs) h)) ∙ by (slice_index_or (reached p) n false)
    where
      by : (b : Bool) → SameHome x m (if b then add_function p n f m else m)
      by true = function_home x n f m (λ h. out (holds_left x (introduced_by f) (introduced fs) h))
      by false = refl

  -- ---- the homes of the results of functions before

  abbrev pub SameResult : ℕ → Numbering → Numbering → Type 0
  SameResult j m k = slice_index_or k.results j 0 ≡ slice_index_or m.results j 0

  local_result : (j y : ℕ) (v : Option Variable) (m : Numbering) → SameResult j m (add_local y v m)
  local_result j y None m = refl
  local_result j y (Some v) m = refl

  pub locals_result : (j : ℕ) (ys : List ℕ) (m : Numbering) → SameResult j m (add_locals p ys m)
  locals_result j [] m = refl
  locals_result j (y ∷ ys) m = locals_result j ys (add_local y (slice_get p.variables y) m) ∙ local_result j y (slice_get p.variables y) m

  result_other : (j n : ℕ) (ty : Option Ty) (m : Numbering) → j < n → SameResult j m (add_result_of p n ty m)
  result_other j n None m lt = refl
  result_other j n (Some ty) m lt = by (n == p.main)
    where
      by : (b : Bool) → SameResult j m (if b then m else add_result n m)
      by true = refl
      by false = get_or-set_other m.results n j (length m.objects) 0 (λ e. omega (arith, lt, e))

  function_result : (j n : ℕ) (f : Function) (m : Numbering) → j < n → SameResult j m (add_function p n f m)
  function_result j n f m lt = locals_result j (variables_of p n f) (add_result_of p n f.result m) ∙ result_other j n f.result m lt

  pub functions_result : (j n : ℕ) (fs : List Function) (m : Numbering) → j < n → SameResult j m (add_functions p n fs m)
  functions_result j n [] m lt = refl
  functions_result j n (f ∷ fs) m lt =
      functions_result j (n + 1) fs (if slice_index_or (reached p) n false then add_function p n f m else m) (omega (arith, lt)) ∙ by (slice_index_or (reached p) n false)
    where
      by : (b : Bool) → SameResult j m (if b then add_function p n f m else m)
      by true = function_result j n f m lt
      by false = refl
