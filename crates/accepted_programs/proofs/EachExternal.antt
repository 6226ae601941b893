-- The alternatives of the declarations of a file, form by form.
use Rattle.std.proofs.Common.{◌≡◌, refl, sym, ap, subst, ◌∙◌, Bool, true, false, Option, List, [], ◌∷◌, ◌++◌, map}
use Rattle.std.specs.Prelude.{codes, ◌&&◌, not, if◌then◌else◌}
use Rattle.c_parse.specs.declared.class.Class.{Class}
use Rattle.c_parse.specs.declared.class.Class.TheVariants as class
use Rattle.c_parse.specs.declared.raw.RawRule.TheVariants as rules
use Rattle.c_parse.specs.declared.form.Form.TheVariants as form
use Rattle.c_parse.specs.Grammar as grammar
use Rattle.c_typing.specs.Judged.{Judged, spells, is_token}
use Rattle.c_typing.specs.Functions as rule
use Rattle.c_typing.specs.Programs.{judged}
use Rattle.accepted_programs.proofs.Walk.{World}
use Rattle.accepted_programs.proofs.Filing.{IsFiled}
use Rattle.accepted_programs.proofs.Defining.{function_prototype, function_definition}
use Rattle.accepted_programs.proofs.Externals.{constant_objects, plain_objects, a_function, with_static, without_static, program_filed}
use Rattle.accepted_programs.proofs.Leaves.{leaf_is, open_text, const_text, static_text, void_text, not_text, type_other, on_node, node_is}
use Rattle.accepted_programs.proofs.Forms.{Cases, Case, Each, IsFiledAs, IsUnstatic}
use Rattle.accepted_programs.proofs.EachStatement.{no_defined}

module _ (w : World) where
  pub program_cases : Cases w form.Program
  program_cases next = (λ raws h ok. program_filed w raws h, tt)

  pub externals_cases : Cases w form.Externals
  externals_cases next = (λ ok. tt, (λ x isx raws h ok. (isx, h), tt))

  static_filed : (first : Judged) (js : List Judged) → spells (codes "static") first ≡ true → IsFiledAs w js → IsFiled w (rule.defines_by (first ∷ js)) (rule.external_by (first ∷ js))
  static_filed first js is h =
      subst (λ b. IsFiled w (rule.defined_by_function (if b then js else first ∷ js)) (rule.external_by (first ∷ js))) (sym is) (with_static w (rule.defined_by_function js) first js is h)

  un_static : (first : Judged) (js : List Judged) → spells (codes "static") first ≡ false → IsFiledAs w (first ∷ js) → IsUnstatic w (first ∷ js)
  un_static first js unlike h = record {
    filed = h;
    alone = subst (λ b. IsFiled w (rule.defined_by_function (if b then js else first ∷ js)) (rule.external_by (first ∷ js))) (sym unlike) (without_static w (rule.defined_by_function (first ∷ js)) first js unlike h);
  }

  pub external_cases : Cases w form.External
  external_cases next = (
    λ s iss raws h ok. on_node (λ (j : Judged). IsFiled w j.defines j.external) rules.External (s ∷ raws) (static_filed (judged s) (map judged raws) (static_text s iss) h.filed),
    (λ raws h ok. on_node (λ (j : Judged). IsFiled w j.defines j.external) rules.External raws h.alone, tt),
  )

  -- what defines no function
  undefined : (js : List Judged) → rule.defined_by_function js ≡ [] → IsFiled w [] (rule.declared_by js) → IsFiledAs w js
  undefined js unlike h = subst (λ names. IsFiled w names (rule.declared_by js)) (sym unlike) h

  pub unstatic_cases : Cases w form.Unstatic
  unstatic_cases next = (
    λ c isc type ist raws h s iss ok.
        let js : List Judged = map judged (raws ++ s ∷ []) in
        un_static (judged c) (judged type ∷ js) (not_text (judged c) (codes "const") (codes "static") (const_text c isc) refl)
        (undefined (judged c ∷ judged type ∷ js) (no_defined (judged c) (judged type) js (node_is rules.TypeName type ist)) (constant_objects w (judged c) (judged type) js (const_text c isc) (h s).globals)),
    (
      λ v isv n isn o iso raws h ok.
          un_static (judged v) (judged n ∷ judged o ∷ map judged raws) (not_text (judged v) (codes "void") (codes "static") (void_text v isv) refl)
          (h (judged v) (judged n) (judged o) (not_text (judged v) (codes "void") (codes "const") (void_text v isv) refl) (leaf_is class.Name n isn) (open_text o iso)),
      (λ type ist raws h ok. un_static (judged type) (map judged raws) (type_other type (codes "static") ist refl) (h (judged type) (type_other type (codes "const") ist refl)), tt),
    ),
  )

  pub titled_cases : Cases w form.Titled
  titled_cases next = (
    λ n isn o iso raws h ok type unlike. h type (judged n) (judged o) unlike (leaf_is class.Name n isn) (open_text o iso),
    (
      λ raws h s iss ok type unlike.
          let js : List Judged = map judged (raws ++ s ∷ []) in
          undefined (type ∷ js) ((h s).defines type) (plain_objects w type js unlike ((h s).no_function type) (h s).globals),
      tt,
    ),
  )

  pub signature_cases : Cases w form.Signature
  signature_cases next = (
    λ ps isp c isc raws h ok type name bracket unlike isn isb. h type name bracket (judged ps) (judged c) unlike isn isb,
    (λ ps isp c isc raws h ok type name bracket unlike isn isb. h type name bracket (judged ps) (judged c) unlike isn isb, tt),
  )

  both : (a b : Bool) → a ≡ true → b ≡ true → (a && b) ≡ true
  both a b h k = ap (λ c. c && b) h ∙ k

  declares : (type name bracket params close ending : Judged) → spells (codes "const") type ≡ false → is_token name ≡ true → spells (codes "(") bracket ≡ true → is_token ending ≡ true → IsFiledAs w (type ∷ name ∷ bracket ∷ params ∷ close ∷ ending ∷ [])
  declares type name bracket params close ending unlike isn isb is =
      let js : List Judged = name ∷ bracket ∷ params ∷ close ∷ ending ∷ [] in
      undefined (type ∷ js)
      (ap (λ a. if a && not (is_token ending) && spells (codes "(") bracket then name.text ∷ [] else []) isn ∙ ap (λ b. if true && not b && spells (codes "(") bracket then name.text ∷ [] else []) is)
      (a_function w [] type js unlike (both (is_token name) (spells (codes "(") bracket) isn isb) (function_prototype w type name bracket params close ending is))

  defines : (type name bracket params close ending : Judged) → spells (codes "const") type ≡ false → is_token name ≡ true → spells (codes "(") bracket ≡ true → is_token ending ≡ false
      → IsFiled w (name.text ∷ []) (rule.function_by (type ∷ name ∷ bracket ∷ params ∷ close ∷ ending ∷ [])) → IsFiledAs w (type ∷ name ∷ bracket ∷ params ∷ close ∷ ending ∷ [])
  defines type name bracket params close ending unlike isn isb is h =
      let js : List Judged = name ∷ bracket ∷ params ∷ close ∷ ending ∷ [] in
      subst (λ names. IsFiled w names (rule.declared_by (type ∷ js)))
      (sym (ap (λ a. if a && not (is_token ending) && spells (codes "(") bracket then name.text ∷ [] else []) isn ∙ (ap (λ b. if true && not b && spells (codes "(") bracket then name.text ∷ [] else []) is ∙ ap (λ c. if true && true && c then name.text ∷ [] else []) isb)))
      (a_function w (name.text ∷ []) type js unlike (both (is_token name) (spells (codes "(") bracket) isn isb) h)

  bodies_each : (named : Bool) (next : Option Class) → Each (Case w (form.Ending named) next) (grammar.bodies named)
  bodies_each true next = (
    λ b isb ok type name bracket params close unlike isn isp.
        defines type name bracket params close (judged b) unlike isn isp (node_is rules.Block b isb.node) (function_definition w type name bracket params close (judged b) (node_is rules.Block b isb.node) isb.plain),
    tt,
  )
  bodies_each false next = tt

  pub ending_cases : (named : Bool) → Cases w (form.Ending named)
  ending_cases named next = (λ s iss ok type name bracket params close unlike isn isb. declares type name bracket params close (judged s) unlike isn isb (leaf_is class.Semicolon s iss), bodies_each named next)
