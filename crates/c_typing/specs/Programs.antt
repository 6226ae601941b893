-- The typed program of a text, and all of its type faults.
use Rattle.std.specs.Prelude.{◌≡◌, ℕ, ◌∷◌, [], ◌++◌, ◌+◌, List, Bool, Option, Some, None, codes, slice_get, if◌then◌else◌, ◌&&◌, ◌⊎◌}
use Rattle.std.specs.Option.{option_map}
use Rattle.std.specs.Str.{bytes_eq}
use Rattle.base_io.specs.declared.place.Place.{Place}
use Rattle.c_lex.specs.declared.token.TokenKind.TheVariants.{Sign}
use Rattle.c_parse.specs.declared.raw.RawRule.{RawRule}
use Rattle.c_parse.specs.declared.raw.RawRule.TheVariants as rule
use Rattle.c_parse.specs.declared.raw.Raw.{Raw}
use Rattle.c_parse.specs.declared.raw.Raw.TheOpen.{Raw-F}
use Rattle.c_parse.specs.declared.raw.Raw.TheFolds.{fold-Raw}
use Rattle.c_values.specs.declared.ops.Ty.{Ty}
use Rattle.c_values.specs.declared.ops.Ty.TheVariants.{I16, U16}
use Rattle.c_tree.specs.declared.tree.Function.{Function}
use Rattle.c_tree.specs.declared.tree.Program.{Program}
use Rattle.c_typing.specs.declared.meaning.Meaning.TheVariants as meaning
use Rattle.c_typing.specs.declared.state.State.{State}
use Rattle.c_typing.specs.declared.call_site.CallSite.{CallSite}
use Rattle.c_typing.specs.declared.state.Signature.{Signature}
use Rattle.c_typing.specs.declared.state.Role.TheVariants as role
use Rattle.c_typing.specs.Scopes.{Scope}
use Rattle.c_typing.specs.declared.type_fault.TypeFault.{TypeFault}
use Rattle.c_typing.specs.declared.type_fault.TypeFault.TheVariants as faults
use Rattle.c_typing.specs.FirstFaults.{first_of}
use Rattle.c_typing.specs.Parts.{Part, Got, Gives, ◌>>◌, skip}
use Rattle.c_typing.specs.Texts.{is_empty, type_of_words}
use Rattle.c_typing.specs.Judged.{Judged, nothing, no_place}
use Rattle.c_typing.specs.Expressions.{primary_by, unary_by, binary_by, choice_by}
use Rattle.c_typing.specs.Actions.{target_by, act_by}
use Rattle.c_typing.specs.Declarations.{declare_by, declare_global_by, declaration_by}
use Rattle.c_typing.specs.Statements.{items_by, item_by, stmt_by, label_by, group_by}
use Rattle.c_typing.specs.Functions.{parameter_by, params_by, external_by, defines_by, same_result}
use Rattle.c_typing.specs.Cycles.{IsFirstOnCycle}

-- ---- the tree, rule by rule

abbrev pub texts : List Judged → List (List ℕ)
texts [] = []
texts (part ∷ rest) = part.text ∷ texts rest

abbrev pub externals : List Judged → Part (Unit {0})
externals [] = skip
externals (part ∷ rest) = part.external >> externals rest

abbrev pub all_defined : List Judged → List (List ℕ)
all_defined [] = []
all_defined (part ∷ rest) = part.defines ++ all_defined rest

abbrev pub first_place : List Judged → Place
first_place [] = no_place
first_place (part ∷ _) = part.place

abbrev pub last_place : List Judged → Place
last_place [] = no_place
last_place (part ∷ []) = part.end
last_place (first ∷ second ∷ rest) = last_place (second ∷ rest)

abbrev pub first_text : List Judged → List ℕ
first_text [] = []
first_text (part ∷ _) = part.text

-- an assignment's sign is as the token that it is
abbrev pub node_text : RawRule → List Judged → List ℕ
node_text rule.Assign parts = first_text parts
node_text _ parts = []

-- what is judged of a node by its rule, where it stands at this place
abbrev pub node_by : RawRule → Place → List Judged → Judged
node_by rule.Program place parts = record nothing { defines = all_defined parts; external = externals parts }
node_by rule.External place parts = record nothing { defines = defines_by parts; external = external_by parts }
node_by rule.Params place parts = record nothing { params = params_by parts }
node_by rule.Param place parts = record nothing { params = parameter_by place parts }
node_by rule.Declarator place parts = record nothing { declare = declare_by parts; declare_global = declare_global_by parts }
node_by rule.Block place parts = record nothing { items = items_by parts }
node_by rule.Item place parts = record nothing { item = item_by parts }
node_by rule.Declaration place parts = record nothing { declaration = declaration_by parts }
node_by rule.Statement place parts = record nothing { stmt = stmt_by place parts }
node_by rule.Group place parts = record nothing { group = group_by parts }
node_by rule.Label place parts = record nothing { label = label_by parts }
node_by rule.Action place parts = record nothing { act = act_by parts }
node_by rule.Target place parts = record nothing { target = target_by parts }
node_by rule.Assign place parts = nothing
node_by rule.Expr place parts = record nothing { expr = choice_by parts }
node_by rule.Binary place parts = record nothing { expr = binary_by parts }
node_by rule.Unary place parts = record nothing { expr = unary_by parts }
node_by rule.Primary place parts = record nothing { expr = primary_by parts }
node_by rule.TypeName place parts = record nothing { ty = type_of_words (texts parts) }

abbrev pub judged_by : Raw-F Judged → Judged
judged_by (Raw-F.Leaf kind text place) = record nothing { kind = kind; text = text; place = place; end = place }
judged_by (Raw-F.Node r parts) = record (node_by r (first_place parts) parts) { rule = Some r; kind = Sign; text = node_text r parts; place = first_place parts; end = last_place parts }

-- each tree, by what is judged of its parts
unfoldable pub judged : Raw → Judged
judged raw = fold-Raw Judged judged_by raw

-- ---- the whole text

-- `in` and `out` are declared before the text
abbrev pub predeclared : Scope
predeclared = (codes "in", meaning.Function 0) ∷ (codes "out", meaning.Function 1) ∷ []

abbrev pub first_signatures : List Signature
first_signatures = record { params = []; result = Some U16; role = role.Input } ∷ record { params = U16 ∷ []; result = None; role = role.Output } ∷ []

abbrev pub start : List (List ℕ) → State
start defined = record { scopes = predeclared ∷ []; signatures = first_signatures; variables = []; functions = []; calls = []; nodes = 0; faults = []; defined = defined; unready = []; result = None }

abbrev pub state_of : Got (Unit {0}) → State
state_of (Gives _ s) = s

-- all that is found of a text
abbrev pub found : Raw → State
found raw = state_of ((judged raw).external (start (judged raw).defines))

-- `int main(void)` (C11 5.1.2.2.1)
abbrev pub is_main : Function → Bool
is_main f = bytes_eq f.name (codes "main") && (is_empty f.params && same_result f.result (Some I16))

abbrev pub main_in : ℕ → List Function → Option ℕ
main_in k [] = None
main_in k (f ∷ fs) = if is_main f then Some k else main_in (k + 1) fs

abbrev pub program : State → ℕ → Program
program s main = record { variables = s.variables; functions = s.functions; main = main; nodes = s.nodes }

-- the fault of the i-th call
abbrev pub recursion_at : List CallSite → ℕ → Option TypeFault
recursion_at calls i = option_map (λ call. faults.Recursion call.place) (slice_get calls i)

-- no fault but those of calls and of `main` is there, and no call lies on a cycle
pub record IsSound (s : State) : Type 0 where
  pub faultless : first_of s.faults ≡ None
  pub acyclic : IsFirstOnCycle s.calls None

-- the first call that lies on a cycle is at fault, where there is no fault but those of calls and of `main`
pub record IsRecursive (s : State) (fault : TypeFault) : Type 0 where
  pub faultless : first_of s.faults ≡ None
  pub at : ℕ
  pub first : IsFirstOnCycle s.calls (Some at)
  pub is : recursion_at s.calls at ≡ Some fault

-- there is no other fault, and no `main`
pub record LacksMain (s : State) (fault : TypeFault) : Type 0 where
  pub sound : IsSound s
  pub none : main_in 0 s.functions ≡ None
  pub is : fault ≡ faults.NoMain (record { line = 1; column = 1 })

pub record IsTyped (s : State) (p : Program) : Type 0 where
  pub sound : IsSound s
  pub main : main_in 0 s.functions ≡ Some p.main
  pub is : p ≡ program s p.main

-- what was found has this type fault, and it is the one to be answered
abbrev pub IsFaulty : State → TypeFault → Type 0
IsFaulty s fault = (first_of s.faults ≡ Some fault) ⊎ (IsRecursive s fault ⊎ LacksMain s fault)

-- the fault of the first call that lies on a cycle, or none where none does
abbrev pub IsFirstCycle : List CallSite → Option TypeFault → Type 0
IsFirstCycle calls None = IsFirstOnCycle calls None
IsFirstCycle calls (Some fault) = (at : ℕ) × (IsFirstOnCycle calls (Some at) × (recursion_at calls at ≡ Some fault))

-- The text of this tree is this typed program.
abbrev pub Accepts : Raw → Program → Type 0
Accepts raw p = IsTyped (found raw) p

-- The text of this tree has this type fault, and it is the one to be answered: that which stands first, of two at one place the earlier
-- variant; only where there is no other, that of the first call on a cycle; and only where there is none at all, that of `main`.
abbrev pub Refuses : Raw → TypeFault → Type 0
Refuses raw fault = IsFaulty (found raw) fault
