-- What is accepted of a tree that was read from a text is sound, and its names are in scope: an induction over the grammar.
use Rattle.std.proofs.Common.{◌≡◌, refl, sym, ap, subst, ℕ, true, ◌+◌, ◌<◌, ◌^◌, Option, None, List, [], ◌∷◌, ◌++◌}
use Rattle.std.specs.Prelude.{All}
use Rattle.std.proofs.lemmas.List.Elements.{All-nil, All-cons, All-head, All-tail}
use Rattle.c_tree.specs.declared.tree.Program.{Program}
use Rattle.c_parse.specs.declared.class.Class.{Class}
use Rattle.c_parse.specs.declared.raw.Raw.{Raw}
use Rattle.c_parse.specs.declared.form.Form.TheVariants as form
use Rattle.c_parse.specs.declared.form.Form.{Form}
use Rattle.c_parse.specs.declared.form.Symbol.{Symbol}
use Rattle.c_parse.specs.declared.form.Symbol.TheVariants.{Sub as sub}
use Rattle.c_parse.specs.Grammar.{alternatives, allows, make, weight, Nested, word_at, ahead, Derives, leaf, node, DeriveAll, none, more}
use Rattle.c_typing.specs.Programs.{found, Accepts}
use Rattle.sound_programs.specs.SoundPrograms.{IsSound}
use Rattle.sound_programs.specs.Scoped.{IsScoped}
use Rattle.accepted_programs.specs.Texts.{IsWord, IsRead}
use Rattle.accepted_programs.proofs.Walk.{World}
use Rattle.accepted_programs.proofs.Final.{accepted_sound}
use Rattle.accepted_programs.proofs.Forms.{means, Holds, Takes, Given, given, pick, Case, Cases}
use Rattle.accepted_programs.proofs.EachExpression as expression
use Rattle.accepted_programs.proofs.EachStatement as statement
use Rattle.accepted_programs.proofs.EachExternal as external

abbrev IsNested : Nested → Type 0
IsNested n = IsWord (word_at n)

real_front : (front rest : List Nested) → All IsNested (front ++ rest) → All IsNested front
real_front [] rest real = All-nil IsNested
real_front (n ∷ front) rest real = All-cons IsNested n front (All-head IsNested n (front ++ rest) real) (real_front front rest (All-tail IsNested n (front ++ rest) real))

real_rest : (front rest : List Nested) → All IsNested (front ++ rest) → All IsNested rest
real_rest [] rest real = real
real_rest (n ∷ front) rest real = real_rest front rest (All-tail IsNested n (front ++ rest) real)

module _ (w : World) where
  cases : (f : Form) → Cases w f
  cases form.Program = external.program_cases w
  cases form.Externals = external.externals_cases w
  cases form.External = external.external_cases w
  cases form.Unstatic = external.unstatic_cases w
  cases form.Titled = external.titled_cases w
  cases form.Signature = external.signature_cases w
  cases (form.Ending named) = external.ending_cases w named
  cases (form.Params named) = expression.all_cases w (form.Params named) (λ parts. tt)
  cases form.ParamList = expression.all_cases w form.ParamList (λ parts. tt)
  cases form.MoreParams = expression.all_cases w form.MoreParams (λ parts. tt)
  cases form.Param = expression.all_cases w form.Param (λ parts. tt)
  cases form.ParamName = expression.all_cases w form.ParamName (λ parts. tt)
  cases form.Declarators = statement.declarators_cases w
  cases form.MoreDeclarators = statement.more_declarators_cases w
  cases form.Declarator = statement.declarator_cases w
  cases form.Initial = statement.initial_cases w
  cases form.ListInitial = statement.list_initial_cases w
  cases form.MoreValues = statement.more_values_cases w
  cases form.NextValue = statement.next_value_cases w
  cases (form.Block within) = statement.block_cases w within
  cases (form.Items within) = statement.items_cases w within
  cases (form.Item within) = statement.item_cases w within
  cases form.Declaration = statement.declaration_cases w
  cases (form.Statement within) = statement.statement_cases w within
  cases (form.ElsePart within) = statement.else_part_cases w within
  cases form.Returned = statement.returned_cases w
  cases form.ForFirst = statement.for_first_cases w
  cases form.Tested = statement.tested_cases w
  cases form.Stepped = statement.stepped_cases w
  cases (form.Groups within ended) = statement.groups_cases w within ended
  cases (form.Group within ended) = statement.group_cases w within ended
  cases (form.Labelled within) = statement.labelled_cases w within
  cases form.Label = statement.label_cases w
  cases form.Action = expression.action_cases w
  cases form.Target = expression.target_cases w
  cases form.Subscript = expression.subscript_cases w
  cases form.Subscripted = expression.subscripted_cases w
  cases form.Assign = expression.all_cases w form.Assign (λ parts. tt)
  cases form.Expr = expression.expr_cases w
  cases form.Choice = expression.choice_cases w
  cases form.Chosen = expression.chosen_cases w
  cases form.Binary = expression.binary_cases w
  cases form.Operations = expression.operations_cases w
  cases form.Unary = expression.unary_cases w
  cases form.Operand = expression.operand_cases w
  cases form.CastType = expression.cast_type_cases w
  cases form.Primary = expression.primary_cases w
  cases form.Grouped = expression.grouped_cases w
  cases form.Passed = expression.passed_cases w
  cases form.Arguments = expression.arguments_cases w
  cases form.MoreArguments = expression.more_arguments_cases w
  cases form.TypeName = expression.type_name_cases w
  cases form.AfterChar = expression.all_cases w form.AfterChar (λ parts. tt)
  cases form.AfterSign = expression.all_cases w form.AfterSign (λ parts. tt)
  cases form.AfterShort = expression.all_cases w form.AfterShort (λ parts. tt)
  cases form.AfterInt = expression.all_cases w form.AfterInt (λ parts. tt)
  cases form.AfterSignShort = expression.all_cases w form.AfterSignShort (λ parts. tt)
  cases form.AfterSignInt = expression.all_cases w form.AfterSignInt (λ parts. tt)
  cases form.AfterShortInt = expression.all_cases w form.AfterShortInt (λ parts. tt)

-- ---- the induction

-- each of these symbols with its trees, one behind the other
abbrev AllGiven : World → List Symbol → List Raw → Type 0
AllGiven w [] all = all ≡ []
AllGiven w (symbol ∷ symbols) all = (raws : List Raw) × (parts : List Raw) × Given w symbol raws × AllGiven w symbols parts × (all ≡ raws ++ parts)

all_taken : (w : World) (symbols : List Symbol) (all : List Raw) → AllGiven w symbols all → (K : List Raw → Type 0) → Takes w symbols K → K all
all_taken w [] all h K t = subst K (sym h) t
all_taken w (symbol ∷ symbols) all h K t = subst K (sym h.4) (all_taken w symbols h.1 h.3 (λ ps. K (h.0 ++ ps)) (given w symbol h.0 h.2 symbols K t))

mutual
  derived : (w : World) (depth : ℕ) (symbol : Symbol) (raws : List Raw) (words : List Nested) (next : Option Class) → Derives depth symbol raws words next → All IsNested words → Given w symbol raws
  derived w _ _ _ _ _ (leaf depth class word next is lies) real = record { word = word_at word; is = All-head IsNested word [] real; leaf = refl; class = is }
  derived w _ _ _ _ _ (node depth f symbols parts raws words next at ok made all) real =
      subst (Holds (means w f)) (sym made)
      (all_taken w symbols parts (derived_all w (depth + weight f) symbols parts words next all real) (λ ps. allows f symbols ps next ≡ true → Holds (means w f) (make f ps)) (pick (Case w f next) symbols (alternatives f) at (cases w f next)) ok)

  derived_all : (w : World) (depth : ℕ) (symbols : List Symbol) (raws : List Raw) (words : List Nested) (next : Option Class) → DeriveAll depth symbols raws words next → All IsNested words → AllGiven w symbols raws
  derived_all w _ _ _ _ _ (none depth next) real = refl
  derived_all w _ _ _ _ _ (more depth symbol symbols raws parts all front rest words next first others e1 e2) real =
      let both : All IsNested (front ++ rest) = subst (All IsNested) e2 real in
      (raws, parts, derived w depth symbol raws front (ahead rest next) first (real_front front rest both), derived_all w depth symbols parts rest next others (real_rest front rest both), e1)

-- An accepted program of a tree that was read is sound, and its names are in scope, where it has few nodes.
pub accepted : (raw : Raw) (p : Program) → IsRead raw → (found raw).nodes < 2 ^ 29 → Accepts raw p → IsSound p × IsScoped p
accepted raw p read few accepts =
    accepted_sound raw p (λ w. derived w 0 (sub form.Program) (raw ∷ []) read.text None read.derives read.words) accepts
    (subst (λ n. n < 2 ^ 29) (sym (ap (λ (q : Program). q.nodes) accepts.is)) few)
