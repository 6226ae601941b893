-- What the rules of declarations of the file and of a whole text make is filed, where it is of their parts.
use Rattle.std.proofs.Common.{◌≡◌, sym, subst, ℕ, Bool, true, false, List, [], ◌∷◌, map}
use Rattle.std.specs.Prelude.{codes, if◌then◌else◌}
use Rattle.c_parse.specs.declared.raw.Raw.{Raw}
use Rattle.c_parse.specs.declared.raw.Raw.TheVariants.{Node}
use Rattle.c_parse.specs.declared.raw.RawRule.TheVariants as rules
use Rattle.c_typing.specs.Parts.{Part, either}
use Rattle.c_typing.specs.Judged.{Judged, spells}
use Rattle.c_typing.specs.Functions as rule
use Rattle.c_typing.specs.Declarations.{based}
use Rattle.c_typing.specs.Programs.{judged, externals, all_defined}
use Rattle.c_typing.proofs.Judging.{judged_node}
use Rattle.accepted_programs.proofs.Walk.{World}
use Rattle.accepted_programs.proofs.Filing.{IsFiled, AreGlobals, each_global, filed_then, filed_nothing}

module _ (w : World) where
  pub filed_true : (names : List (List ℕ)) (b : Bool) (p q : Part (Unit {0})) → b ≡ true → IsFiled w names p → IsFiled w names (either b p q)
  filed_true names b p q h is = subst (λ c. IsFiled w names (either c p q)) (sym h) is

  pub filed_false : (names : List (List ℕ)) (b : Bool) (p q : Part (Unit {0})) → b ≡ false → IsFiled w names q → IsFiled w names (either b p q)
  filed_false names b p q h is = subst (λ c. IsFiled w names (either c p q)) (sym h) is

  -- `const`, a type, and declarators with their signs
  pub constant_objects : (first type : Judged) (js : List Judged) → spells (codes "const") first ≡ true → AreGlobals w js → IsFiled w [] (rule.declared_by (first ∷ type ∷ js))
  constant_objects first type js h are =
      filed_true [] (spells (codes "const") first) (rule.objects_by true (type ∷ js))
      (either (rule.is_function (first ∷ type ∷ js)) (rule.function_by (first ∷ type ∷ js)) (rule.objects_by false (first ∷ type ∷ js))) h (each_global w (based true type) js are)

  -- a type, and declarators with their signs
  pub plain_objects : (type : Judged) (js : List Judged) → spells (codes "const") type ≡ false → rule.is_function (type ∷ js) ≡ false → AreGlobals w js → IsFiled w [] (rule.declared_by (type ∷ js))
  plain_objects type js h k are =
      filed_false [] (spells (codes "const") type) (rule.objects_by true js) (either (rule.is_function (type ∷ js)) (rule.function_by (type ∷ js)) (rule.objects_by false (type ∷ js))) h
      (filed_false [] (rule.is_function (type ∷ js)) (rule.function_by (type ∷ js)) (rule.objects_by false (type ∷ js)) k (each_global w (based false type) js are))

  -- a function, declared or defined
  pub a_function : (names : List (List ℕ)) (type : Judged) (js : List Judged) → spells (codes "const") type ≡ false → rule.is_function (type ∷ js) ≡ true → IsFiled w names (rule.function_by (type ∷ js)) → IsFiled w names (rule.declared_by (type ∷ js))
  a_function names type js h k is =
      filed_false names (spells (codes "const") type) (rule.objects_by true js) (either (rule.is_function (type ∷ js)) (rule.function_by (type ∷ js)) (rule.objects_by false (type ∷ js))) h
      (filed_true names (rule.is_function (type ∷ js)) (rule.function_by (type ∷ js)) (rule.objects_by false (type ∷ js)) k is)

  -- `static` means nothing here
  pub with_static : (names : List (List ℕ)) (first : Judged) (js : List Judged) → spells (codes "static") first ≡ true → IsFiled w names (rule.declared_by js) → IsFiled w names (rule.external_by (first ∷ js))
  with_static names first js h is = subst (λ b. IsFiled w names (rule.declared_by (if b then js else first ∷ js))) (sym h) is

  pub without_static : (names : List (List ℕ)) (first : Judged) (js : List Judged) → spells (codes "static") first ≡ false → IsFiled w names (rule.declared_by (first ∷ js)) → IsFiled w names (rule.external_by (first ∷ js))
  without_static names first js h is = subst (λ b. IsFiled w names (rule.declared_by (if b then js else first ∷ js))) (sym h) is

  -- ---- the whole text

  abbrev pub AreExternals : List Judged → Type 0
  AreExternals [] = Unit {0}
  AreExternals (part ∷ rest) = IsFiled w part.defines part.external × AreExternals rest

  externals_filed : (js : List Judged) → AreExternals js → IsFiled w (all_defined js) (externals js)
  externals_filed [] are = filed_nothing w
  externals_filed (part ∷ rest) (is, are) = filed_then w part.defines (all_defined rest) part.external (externals rest) is (externals_filed rest are)

  pub program_filed : (parts : List Raw) → AreExternals (map judged parts) → IsFiled w (judged (Node rules.Program parts)).defines (judged (Node rules.Program parts)).external
  program_filed parts are = subst (λ (j : Judged). IsFiled w j.defines j.external) (sym (judged_node rules.Program parts)) (externals_filed (map judged parts) are)
