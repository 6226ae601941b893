-- What is known of the trees of each form of the grammar, and what is asked of the parts of an alternative.
use Rattle.std.proofs.Common.{◌≡◌, refl, sym, subst, append-nil, ℕ, zero, suc, Bool, true, false, Option, List, [], ◌∷◌, ◌++◌, map}
use Rattle.std.specs.Prelude.{codes}
use Rattle.c_parse.specs.declared.class.Class.{Class}
use Rattle.c_parse.specs.declared.class.Class.TheVariants as class
use Rattle.c_parse.specs.declared.raw.RawRule.TheVariants as rules
use Rattle.c_parse.specs.declared.raw.Raw.{Raw, out-Raw}
use Rattle.c_parse.specs.Endings.{block_ends, statement_ends, item_ends, last_ends, ends_through}
use Rattle.c_parse.specs.declared.form.Form.TheVariants as form
use Rattle.c_parse.specs.declared.form.Form.{Form}
use Rattle.c_parse.specs.declared.form.Within.{Within}
use Rattle.c_parse.specs.declared.form.Symbol.{Symbol}
use Rattle.c_parse.specs.declared.form.Within.TheVariants.{Body as in_body, Switch as in_switch, Loop as in_loop}
use Rattle.c_parse.specs.declared.form.Symbol.TheVariants.{Token as token, Sub as sub}
use Rattle.c_parse.specs.Grammar.{alternatives, OneOf, here, there, allows, make}
use Rattle.c_typing.specs.Judged.{Judged, spells, is_token}
use Rattle.c_typing.specs.Functions as function
use Rattle.c_typing.specs.Declarations as declaration
use Rattle.c_typing.specs.Statements as statement
use Rattle.c_typing.specs.Expressions as expression
use Rattle.c_typing.specs.Actions as action
use Rattle.c_typing.specs.Programs.{judged}
use Rattle.sound_programs.specs.Scoped as scoped
use Rattle.sound_programs.specs.Scoped.{Stand}
use Rattle.accepted_programs.proofs.Walk.{World, Env}
use Rattle.accepted_programs.proofs.Values.{IsExpr}
use Rattle.accepted_programs.proofs.Expressing.{IsValue}
use Rattle.accepted_programs.proofs.Calling.{ArePairs}
use Rattle.accepted_programs.proofs.Acting.{IsAim, IsAction}
use Rattle.accepted_programs.proofs.Doing.{Has}
use Rattle.accepted_programs.proofs.Declaring.{AreValues, AreListed, IsDeclare, AreDeclarators, IsDeclaration}
use Rattle.accepted_programs.proofs.Stating.{IsStmt, IsKind}
use Rattle.accepted_programs.proofs.Looping.{GoodItems, IsItem}
use Rattle.accepted_programs.proofs.Fors.{IsStep, IsTest, IsFor}
use Rattle.accepted_programs.proofs.Switching.{IsLabel, IsGroup, AreLabelled}
use Rattle.accepted_programs.proofs.SwitchKinds.{AreGroups}
use Rattle.accepted_programs.proofs.Filing.{IsFiled, IsGlobal, AreGlobals}
use Rattle.accepted_programs.proofs.Externals.{AreExternals}
use Rattle.accepted_programs.proofs.Grouping.{AreOperands}
use Rattle.accepted_programs.proofs.Leaves.{IsLeaf, IsNode}

-- ---- where statements stand, and whether they end a group

abbrev pub stand : Within → Stand
stand in_body = scoped.in_body
stand in_switch = scoped.in_switch scoped.in_body
stand in_loop = scoped.in_loop

-- whether the items of a block end a group, through this many blocks at most
abbrev pub ender : ℕ → List Raw → Bool
ender zero inner = false
ender (suc n) inner = ends_through n inner

pub through_is : (n : ℕ) (parts : List Raw) → ends_through n parts ≡ last_ends (ender n) parts
through_is zero parts = refl
through_is (suc n) parts = refl

abbrev pub HasItems : World → Stand → Bool → Judged → Type 0
HasItems w at b j = Has w (λ e. Unit {0}) j.items (GoodItems w at b)

pub record IsStated (w : World) (at : Stand) (raw : Raw) : Type 0 where
  pub node : IsNode rules.Statement raw
  pub plain : IsStmt w at false (judged raw).stmt
  pub ends : (n : ℕ) → statement_ends (ender n) (out-Raw raw) ≡ true → IsStmt w at true (judged raw).stmt

pub record IsBlocked (w : World) (at : Stand) (raw : Raw) : Type 0 where
  pub node : IsNode rules.Block raw
  pub plain : HasItems w at false (judged raw)
  pub ends : (n : ℕ) → block_ends (ender n) (out-Raw raw) ≡ true → HasItems w at true (judged raw)

pub record IsItemed (w : World) (at : Stand) (raw : Raw) : Type 0 where
  pub node : IsNode rules.Item raw
  pub plain : IsItem w at false (judged raw).item
  pub ends : (n : ℕ) → item_ends (ender n) (out-Raw raw) ≡ true → IsItem w at true (judged raw).item

abbrev pub AreItemed : World → Stand → List Raw → Type 0
AreItemed w at [] = Unit {0}
AreItemed w at (raw ∷ raws) = IsItemed w at raw × AreItemed w at raws

pub record IsLabelled (w : World) (at : Stand) (raws : List Raw) : Type 0 where
  pub plain : AreLabelled w at false (map judged raws)
  pub ends : (n : ℕ) → last_ends (ender n) raws ≡ true → AreLabelled w at true (map judged raws)

-- ---- expressions and actions

-- behind a unary operator, and behind a type in brackets
pub record IsOperand (w : World) (js : List Judged) : Type 0 where
  pub unary : (operator : Judged) → IsValue w (expression.unary_by (operator ∷ js))
  pub cast : (bracket type close : Judged) → IsValue w (expression.unary_by (bracket ∷ type ∷ close ∷ js))

-- behind a name: nothing, or an index
pub record IsPlaced (w : World) (name : Judged) (js : List Judged) : Type 0 where
  pub value : IsValue w (expression.primary_by (name ∷ js))
  pub aim : IsAim w (action.target_by (name ∷ js))

pub record IsActed (w : World) (raw : Raw) : Type 0 where
  pub node : IsNode rules.Action raw
  pub act : IsAction w (judged raw).act

-- ---- declarations

pub record AreListedObjects (w : World) (js : List Judged) : Type 0 where
  pub declared : AreDeclarators w js
  pub globals : AreGlobals w js
  pub no_function : (type : Judged) → function.is_function (type ∷ js) ≡ false
  pub defines : (type : Judged) → function.defined_by_function (type ∷ js) ≡ []

pub record IsDeclarator (w : World) (j : Judged) : Type 0 where
  pub noded : is_token j ≡ false
  pub local : IsDeclare w j.declare
  pub global : IsGlobal w j.declare_global

abbrev pub IsFiledAs : World → List Judged → Type 0
IsFiledAs w js = IsFiled w (function.defined_by_function js) (function.declared_by js)

pub record IsUnstatic (w : World) (js : List Judged) : Type 0 where
  pub filed : IsFiledAs w js
  pub alone : IsFiled w (function.defines_by js) (function.external_by js)

-- ---- by forms

pub data Known : Type 1 where
  one : (Raw → Type 0) → Known
  many : (List Raw → Type 0) → Known

abbrev pub nothing_known : Known
nothing_known = many (λ raws. Unit {0})

abbrev pub means : World → Form → Known
means w form.Program = one (λ raw. IsFiled w (judged raw).defines (judged raw).external)
means w form.Externals = many (λ raws. AreExternals w (map judged raws))
means w form.External = one (λ raw. IsFiled w (judged raw).defines (judged raw).external)
means w form.Unstatic = many (λ raws. IsUnstatic w (map judged raws))
means w form.Titled = many (λ raws. (type : Judged) → spells (codes "const") type ≡ false → IsFiledAs w (type ∷ map judged raws))
means w form.Signature = many (λ raws. (type name bracket : Judged) → spells (codes "const") type ≡ false → is_token name ≡ true → spells (codes "(") bracket ≡ true → IsFiledAs w (type ∷ name ∷ bracket ∷ map judged raws))
means w (form.Ending named) = many (λ raws. (type name bracket params close : Judged) → spells (codes "const") type ≡ false → is_token name ≡ true → spells (codes "(") bracket ≡ true → IsFiledAs w (type ∷ name ∷ bracket ∷ params ∷ close ∷ map judged raws))
means w (form.Params named) = one (λ raw. Unit {0})
means w form.Param = one (λ raw. Unit {0})
means w form.Declarators = many (λ raws. (sign : Raw) → AreListedObjects w (map judged (raws ++ sign ∷ [])))
means w form.MoreDeclarators = many (λ raws. (d : Judged) → IsDeclarator w d → (sign : Raw) → AreListedObjects w (d ∷ map judged (raws ++ sign ∷ [])))
means w form.Declarator = one (λ raw. IsDeclarator w (judged raw))
means w form.Initial = many (λ raws. (name : Judged) → IsDeclare w (declaration.declare_by (name ∷ map judged raws)) × IsGlobal w (declaration.declare_global_by (name ∷ map judged raws)))
means w form.ListInitial = many (λ raws. AreListed w (map judged raws))
means w form.MoreValues = many (λ raws. (x : Judged) → IsExpr w x → (close : Raw) → (e : Env) → AreValues w e (x ∷ map judged (raws ++ close ∷ [])))
means w form.NextValue = many (λ raws. (close : Raw) → (e : Env) → AreValues w e (map judged (raws ++ close ∷ [])))
means w (form.Block within) = one (IsBlocked w (stand within))
means w (form.Items within) = many (AreItemed w (stand within))
means w (form.Item within) = one (IsItemed w (stand within))
means w form.Declaration = one (λ raw. IsNode rules.Declaration raw × IsDeclaration w (judged raw).declaration)
means w (form.Statement within) = one (IsStated w (stand within))
means w (form.ElsePart within) = many (λ raws. (bracket test close part : Judged) → IsExpr w test → IsStmt w (stand within) false part.stmt → IsKind w (stand within) false (statement.if_by (bracket ∷ test ∷ close ∷ part ∷ map judged raws)))
means w form.Returned = many (λ raws. (at : Stand) (first : Judged) (sign : Raw) → IsKind w at true (statement.return_by first.place (map judged (raws ++ sign ∷ []))))
means w form.ForFirst = many (λ raws. (rest : List Raw) → IsTest w false (map judged rest) → IsFor w false (map judged (raws ++ rest)))
means w form.Tested = many (λ raws. (sign : Raw) → IsLeaf class.Semicolon sign → (rest : List Raw) → IsStep w false (map judged rest) → IsTest w false (map judged (raws ++ sign ∷ rest)))
means w form.Stepped = many (λ raws. (close part : Raw) → IsLeaf class.Close close → IsStmt w scoped.in_loop false (judged part).stmt → IsStep w false (map judged (raws ++ close ∷ part ∷ [])))
means w (form.Groups within ended) = many (λ raws. (close : Raw) → IsLeaf class.CloseBrace close → AreGroups w (stand within) ended (map judged (raws ++ close ∷ [])))
means w (form.Group within ended) = one (λ raw. IsNode rules.Group raw × IsGroup w (stand within) ended (judged raw).group)
means w (form.Labelled within) = many (IsLabelled w (stand within))
means w form.Label = one (λ raw. IsNode rules.Label raw × IsLabel w (judged raw).label)
means w form.Action = one (IsActed w)
means w form.Target = one (λ raw. IsNode rules.Target raw × IsAim w (judged raw).target)
means w form.Subscript = many (λ raws. (name : Raw) → IsLeaf class.Name name → IsPlaced w (judged name) (map judged raws))
means w form.Subscripted = many (λ raws. (name sign : Raw) → IsLeaf class.Name name → IsLeaf class.OpenIndex sign → IsPlaced w (judged name) (judged sign ∷ map judged raws))
means w form.Assign = one (λ raw. Unit {0})
means w form.Expr = one (λ raw. IsNode rules.Expr raw × IsExpr w (judged raw))
means w form.Choice = many (λ raws. (test : Judged) → IsExpr w test → IsValue w (expression.choice_by (test ∷ map judged raws)))
means w form.Chosen = many (λ raws. (test question : Judged) → IsExpr w test → IsValue w (expression.choice_by (test ∷ question ∷ map judged raws)))
means w form.Binary = one (λ raw. IsExpr w (judged raw))
means w form.Operations = many (AreOperands w)
means w form.Unary = one (λ raw. IsExpr w (judged raw))
means w form.Operand = many (λ raws. IsOperand w (map judged raws))
means w form.CastType = many (λ raws. (bracket : Judged) (rest : List Raw) → IsOperand w (map judged rest) → IsValue w (expression.unary_by (bracket ∷ map judged (raws ++ rest))))
means w form.Primary = one (λ raw. IsExpr w (judged raw))
means w form.Grouped = many (λ raws. (bracket : Judged) → spells (codes "(") bracket ≡ true → IsValue w (expression.primary_by (bracket ∷ map judged raws)))
means w form.Passed = many (λ raws. (e : Env) → ArePairs w e (map judged raws))
means w form.Arguments = many (λ raws. (close : Raw) (e : Env) → ArePairs w e (map judged (raws ++ close ∷ [])))
means w form.MoreArguments = many (λ raws. (x : Judged) → IsExpr w x → (close : Raw) (e : Env) → ArePairs w e (x ∷ map judged (raws ++ close ∷ [])))
means w form.TypeName = one (IsNode rules.TypeName)
means w _ = nothing_known

abbrev pub Holds : Known → List Raw → Type 0
Holds (one P) (raw ∷ []) = P raw
Holds (one P) _ = ⊥
Holds (many P) raws = P raws

-- ---- what is asked of an alternative: something of its parts, where each part is as its form or token is

abbrev pub TakesPart : Known → (List Raw → Type 0) → ((List Raw → Type 0) → Type 0) → Type 0
TakesPart (one P) K others = (raw : Raw) → P raw → others (λ rest. K (raw ∷ rest))
TakesPart (many P) K others = (raws : List Raw) → P raws → others (λ rest. K (raws ++ rest))

abbrev pub TakesLast : Known → (List Raw → Type 0) → Type 0
TakesLast (one P) K = (raw : Raw) → P raw → K (raw ∷ [])
TakesLast (many P) K = (raws : List Raw) → P raws → K raws

abbrev pub TakesSub : Known → (List Raw → Type 0) → List Symbol → ((List Raw → Type 0) → Type 0) → Type 0
TakesSub k K [] others = TakesLast k K
TakesSub k K (symbol ∷ symbols) others = TakesPart k K others

abbrev pub Takes : World → List Symbol → (List Raw → Type 0) → Type 0
Takes w [] K = K []
Takes w (token c ∷ symbols) K = (raw : Raw) → IsLeaf c raw → Takes w symbols (λ rest. K (raw ∷ rest))
Takes w (sub f ∷ symbols) K = TakesSub (means w f) K symbols (λ L. Takes w symbols L)

abbrev pub Given : World → Symbol → List Raw → Type 0
Given w (token c) raws = Holds (one (IsLeaf c)) raws
Given w (sub f) raws = Holds (means w f) raws

last_given : (k : Known) (raws : List Raw) → Holds k raws → (K : List Raw → Type 0) → TakesLast k K → K (raws ++ [])
last_given (one P) [] h K t = absurd h
last_given (one P) (raw ∷ []) h K t = t raw h
last_given (one P) (raw ∷ other ∷ raws) h K t = absurd h
last_given (many P) raws h K t = subst K (sym (append-nil raws)) (t raws h)

part_given : (k : Known) (raws : List Raw) → Holds k raws → (K : List Raw → Type 0) (others : (List Raw → Type 0) → Type 0) → TakesPart k K others → others (λ rest. K (raws ++ rest))
part_given (one P) [] h K others t = absurd h
part_given (one P) (raw ∷ []) h K others t = t raw h
part_given (one P) (raw ∷ other ∷ raws) h K others t = absurd h
part_given (many P) raws h K others t = t raws h

pub given : (w : World) (symbol : Symbol) (raws : List Raw) → Given w symbol raws → (symbols : List Symbol) (K : List Raw → Type 0) → Takes w (symbol ∷ symbols) K → Takes w symbols (λ rest. K (raws ++ rest))
given w (token c) [] h symbols K t = absurd h
given w (token c) (raw ∷ []) h symbols K t = t raw h
given w (token c) (raw ∷ other ∷ raws) h symbols K t = absurd h
given w (sub f) raws h [] K t = last_given (means w f) raws h K t
given w (sub f) raws h (symbol ∷ symbols) K t = part_given (means w f) raws h K (λ L. Takes w (symbol ∷ symbols) L) t

-- ---- alternatives

abbrev pub Each : (List Symbol → Type 0) → List (List Symbol) → Type 0
Each P [] = Unit {0}
Each P (symbols ∷ others) = P symbols × Each P others

pub pick : (P : List Symbol → Type 0) (symbols : List Symbol) (list : List (List Symbol)) → OneOf symbols list → Each P list → P symbols
pick P symbols [] at e = elim at [ ]
pick P _ (_ ∷ others) (here _) e = e.0
pick P symbols (_ ∷ others) (there _ _ at) e = pick P symbols others at e.1

-- the alternatives of a form give what is known of its trees
abbrev pub Case : World → Form → Option Class → List Symbol → Type 0
Case w f next symbols = Takes w symbols (λ parts. allows f symbols parts next ≡ true → Holds (means w f) (make f parts))

abbrev pub Cases : World → Form → Type 0
Cases w f = (next : Option Class) → Each (Case w f next) (alternatives f)
