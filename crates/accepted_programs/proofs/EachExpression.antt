-- The alternatives of expressions and actions, form by form.
use Rattle.std.proofs.Common.{◌≡◌, refl, true, Option, List, [], ◌∷◌, ◌++◌, map}
use Rattle.std.specs.Prelude.{codes}
use Rattle.c_parse.specs.declared.class.Class.{Class}
use Rattle.c_parse.specs.declared.class.Class.TheVariants as class
use Rattle.c_parse.specs.declared.raw.RawRule.TheVariants as rules
use Rattle.c_parse.specs.declared.raw.Raw.{Raw}
use Rattle.c_parse.specs.declared.raw.Raw.TheVariants.{Node}
use Rattle.c_parse.specs.declared.form.Form.TheVariants as form
use Rattle.c_parse.specs.declared.form.Form.{Form}
use Rattle.c_parse.specs.declared.form.Symbol.{Symbol}
use Rattle.c_parse.specs.declared.form.Symbol.TheVariants.{Token as token, Sub as sub}
use Rattle.c_parse.specs.Grammar.{alternatives, allows, make, operated, operators}
use Rattle.c_typing.specs.Judged.{Judged}
use Rattle.c_typing.specs.Actions as action
use Rattle.c_typing.specs.Programs.{judged}
use Rattle.accepted_programs.proofs.Walk.{World}
use Rattle.accepted_programs.proofs.Values.{IsExpr}
use Rattle.accepted_programs.proofs.Expressing.{choice_good, unary_good, cast_good, primary_number, primary_name, primary_grouped, primary_element, primary_call}
use Rattle.accepted_programs.proofs.Acting.{IsAim, IsAction, target_scalar, target_element, act_value, act_before, act_behind, act_assign}
use Rattle.accepted_programs.proofs.Tokens.{number_kind}
use Rattle.accepted_programs.proofs.Grouping.{operands_good}
use Rattle.accepted_programs.proofs.Leaves.{IsLeaf, leaf_token, leaf_is, open_text, index_text, not_text, name_open, name_is, a_node, on_node, node_is}
use Rattle.accepted_programs.proofs.Forms.{Known, one, many, means, Holds, TakesPart, TakesLast, TakesSub, Takes, Each, Case, Cases, IsActed}

-- ---- forms of whose trees all is known

always_last : (k : Known) (K : List Raw → Type 0) → ((parts : List Raw) → K parts) → TakesLast k K
always_last (one P) K h = λ raw is. h (raw ∷ [])
always_last (many P) K h = λ raws is. h raws

always_part : (k : Known) (K : List Raw → Type 0) (others : (List Raw → Type 0) → Type 0) → ((L : List Raw → Type 0) → ((parts : List Raw) → L parts) → others L) → ((parts : List Raw) → K parts) → TakesPart k K others
always_part (one P) K others f h = λ raw is. f (λ rest. K (raw ∷ rest)) (λ rest. h (raw ∷ rest))
always_part (many P) K others f h = λ raws is. f (λ rest. K (raws ++ rest)) (λ rest. h (raws ++ rest))

always_sub : (k : Known) (K : List Raw → Type 0) (symbols : List Symbol) (others : (List Raw → Type 0) → Type 0) → ((L : List Raw → Type 0) → ((parts : List Raw) → L parts) → others L) → ((parts : List Raw) → K parts) → TakesSub k K symbols others
always_sub k K [] others f h = always_last k K h
always_sub k K (symbol ∷ symbols) others f h = always_part k K others f h

always : (w : World) (symbols : List Symbol) (K : List Raw → Type 0) → ((parts : List Raw) → K parts) → Takes w symbols K
always w [] K h = h []
always w (token c ∷ symbols) K h = λ raw is. always w symbols (λ rest. K (raw ∷ rest)) (λ rest. h (raw ∷ rest))
always w (sub f ∷ symbols) K h = always_sub (means w f) K symbols (λ L. Takes w symbols L) (λ L all. always w symbols L all) h

every : (P : List Symbol → Type 0) → ((symbols : List Symbol) → P symbols) → (list : List (List Symbol)) → Each P list
every P h [] = tt
every P h (symbols ∷ others) = (h symbols, every P h others)

pub all_cases : (w : World) (f : Form) → ((parts : List Raw) → Holds (means w f) (make f parts)) → Cases w f
all_cases w f h next = every (Case w f next) (λ symbols. always w symbols (λ parts. allows f symbols parts next ≡ true → Holds (means w f) (make f parts)) (λ parts ok. h parts)) (alternatives f)

-- ---- expressions

module _ (w : World) where
  pub expr_cases : Cases w form.Expr
  expr_cases next = (λ b is raws others ok. (a_node rules.Expr (b ∷ raws), on_node (λ (j : Judged). IsExpr w j) rules.Expr (b ∷ raws) (others (judged b) is)), tt)

  pub choice_cases : Cases w form.Choice
  choice_cases next = (λ ok test is. is, (λ question isq raws h ok test is. h test (judged question) is, tt))

  pub chosen_cases : Cases w form.Chosen
  chosen_cases next = (λ a isa colon isc b isb ok test question is. choice_good w test question (judged a) (judged colon) (judged b) is isa.1 isb.1, tt)

  pub binary_cases : Cases w form.Binary
  binary_cases next = (λ a isa raws h ok. operands_good w a raws isa h, tt)

  operated_each : (next : Option Class) (ops : List Class) → Each (Case w form.Operations next) (operated ops)
  operated_each next [] = tt
  operated_each next (c ∷ ops) = (λ operator iso a isa raws h ok. (isa, h), operated_each next ops)

  pub operations_cases : Cases w form.Operations
  operations_cases next = (λ ok. tt, operated_each next operators)

  pub unary_cases : Cases w form.Unary
  unary_cases next = (
    λ operator iso raws h ok. on_node (λ (j : Judged). IsExpr w j) rules.Unary (operator ∷ raws) (h.unary (judged operator)),
    (
      λ operator iso raws h ok. on_node (λ (j : Judged). IsExpr w j) rules.Unary (operator ∷ raws) (h.unary (judged operator)),
      (
        λ operator iso raws h ok. on_node (λ (j : Judged). IsExpr w j) rules.Unary (operator ∷ raws) (h.unary (judged operator)),
        (
          λ bracket isb raws cast rest h ok. on_node (λ (j : Judged). IsExpr w j) rules.Unary (bracket ∷ (raws ++ rest)) (cast (judged bracket) rest h),
          (λ a isa ok. on_node (λ (j : Judged). IsExpr w j) rules.Unary (a ∷ []) isa, tt),
        ),
      ),
    ),
  )

  pub operand_cases : Cases w form.Operand
  operand_cases next = (λ a isa ok. record { unary = λ operator. unary_good w operator (judged a) isa; cast = λ bracket type close. cast_good w bracket type close (judged a) isa }, tt)

  pub cast_type_cases : Cases w form.CastType
  cast_type_cases next = (λ type ist close isc ok bracket rest h. h.cast bracket (judged type) (judged close), tt)

  number_expr : (n : Raw) → IsLeaf class.Number n → IsExpr w (judged (Node rules.Primary (n ∷ [])))
  number_expr n is = let q = number_kind (judged n) (leaf_token class.Number n is) in on_node (λ (j : Judged). IsExpr w j) rules.Primary (n ∷ []) (primary_number w (judged n) q.0 q.1 q.2 q.3)

  pub primary_cases : Cases w form.Primary
  primary_cases next = (
    λ n is ok. number_expr n is,
    (
      λ name isn raws h ok. on_node (λ (j : Judged). IsExpr w j) rules.Primary (name ∷ raws) (h name isn).value,
      (
        λ name isn bracket isb raws h ok. on_node (λ (j : Judged). IsExpr w j) rules.Primary (name ∷ bracket ∷ raws)
            (primary_call w (judged name) (judged bracket) (map judged raws) (name_open name isn) (not_text (judged bracket) (codes "(") (codes "[") (open_text bracket isb) refl) h),
        (λ bracket isb raws h ok. on_node (λ (j : Judged). IsExpr w j) rules.Primary (bracket ∷ raws) (h (judged bracket) (open_text bracket isb)), tt),
      ),
    ),
  )

  pub grouped_cases : Cases w form.Grouped
  grouped_cases next = (λ a isa close isc ok bracket isb. primary_grouped w bracket (judged a) (judged close) isb isa.1, tt)

  pub subscript_cases : Cases w form.Subscript
  subscript_cases next = (
    λ ok name isn. record { value = primary_name w (judged name) (name_is name isn); aim = target_scalar w (judged name) },
    (λ sign iss raws h ok name isn. h name sign isn iss, tt),
  )

  pub subscripted_cases : Cases w form.Subscripted
  subscripted_cases next = (
    λ a isa close isc ok name sign isn iss. record {
      value = primary_element w (judged name) (judged sign) (judged a) (judged close) (name_open name isn) (index_text sign iss) isa.1;
      aim = target_element w (judged name) (judged sign) (judged a) (judged close ∷ []) isa.1;
    },
    tt,
  )

  pub passed_cases : Cases w form.Passed
  passed_cases next = (λ raws h close isc ok e. h close e, tt)

  pub arguments_cases : Cases w form.Arguments
  arguments_cases next = (λ ok close e. tt, (λ a isa raws h ok close e. h (judged a) isa.1 close e, tt))

  pub more_arguments_cases : Cases w form.MoreArguments
  more_arguments_cases next = (λ ok x isx close e. (isx, tt), (λ comma isc a isa raws h ok x isx close e. (isx, h (judged a) isa.1 close e), tt))

  pub type_name_cases : Cases w form.TypeName
  type_name_cases = all_cases w form.TypeName (λ parts. a_node rules.TypeName parts)

  -- ---- actions

  acted : (parts : List Raw) → IsAction w (action.act_by (map judged parts)) → IsActed w (Node rules.Action parts)
  acted parts h = record { node = a_node rules.Action parts; act = on_node (λ (j : Judged). IsAction w j.act) rules.Action parts h }

  pub target_cases : Cases w form.Target
  target_cases next = (λ name isn raws h ok. (a_node rules.Target (name ∷ raws), on_node (λ (j : Judged). IsAim w j.target) rules.Target (name ∷ raws) (h name isn).aim), tt)

  pub action_cases : Cases w form.Action
  action_cases next = (
    λ t ist s iss a isa ok. acted (t ∷ s ∷ a ∷ []) (act_assign w (judged t) (judged s) (judged a) ist.1 isa.1),
    (
      λ t ist s iss ok. acted (t ∷ s ∷ []) (act_behind w (judged t) (judged s) (node_is rules.Target t ist.0) ist.1),
      (
        λ s iss t ist ok. acted (s ∷ t ∷ []) (act_before w (judged s) (judged t) (leaf_is class.Increment s iss) ist.1),
        (λ a isa ok. acted (a ∷ []) (act_value w (judged a) isa.1), tt),
      ),
    ),
  )
