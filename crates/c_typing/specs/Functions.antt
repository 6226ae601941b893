-- Functions of the file (C11 6.7.6.3, 6.9.1).
use Rattle.std.specs.Prelude.{ℕ, ◌∷◌, [], ◌++◌, ◌+◌, List, Bool, true, false, not, Option, Some, None, codes, length, nat_le, slice_get, slice_set, map, if◌then◌else◌, ◌==◌, ◌||◌, ◌&&◌}
use Rattle.base_io.specs.declared.place.Place.{Place}
use Rattle.c_values.specs.declared.ops.Ty.{Ty}
use Rattle.c_values.specs.declared.ops.Ty.TheVariants.{I16, U16}
use Rattle.c_tree.specs.Nodes.{same_type}
use Rattle.c_tree.specs.declared.tree.BlockItem.{BlockItem, out-BlockItem}
use Rattle.c_tree.specs.declared.tree.BlockItem.TheOpen.{StmtKind-F, BlockItem-F}
use Rattle.c_tree.specs.Layer.{StmtLayer, ItemLayer}
use Rattle.c_tree.specs.declared.tree.Stmt.{Stmt}
use Rattle.c_tree.specs.declared.tree.StmtKind.{out-StmtKind}
use Rattle.c_tree.specs.declared.tree.StmtKind.TheVariants as stmt
use Rattle.c_tree.specs.declared.tree.Function.{Function}
use Rattle.c_typing.specs.declared.meaning.Meaning.{Meaning}
use Rattle.c_typing.specs.declared.meaning.Meaning.TheVariants as meaning
use Rattle.c_typing.specs.declared.state.State.{State}
use Rattle.c_typing.specs.declared.state.Signature.{Signature}
use Rattle.c_typing.specs.declared.state.Role.{Role}
use Rattle.c_typing.specs.declared.state.Role.TheVariants as role
use Rattle.c_typing.specs.declared.type_fault.TypeFault.{TypeFault}
use Rattle.c_typing.specs.declared.type_fault.TypeFault.TheVariants as fault
use Rattle.c_typing.specs.Parts.{Part, Gives, ◌>>=◌, ◌>>◌, pure, skip, either, looked, note, note_if, count}
use Rattle.c_typing.specs.Scopes.{find_here}
use Rattle.c_typing.specs.Texts.{is_empty}
use Rattle.c_typing.specs.declared.value.Parameter.{Parameter}
use Rattle.c_typing.specs.Judged.{Judged, no_place, spells, is_token}
use Rattle.c_typing.specs.Expressions.{signature_at}
use Rattle.c_typing.specs.Declarations.{declare_name, add_name, add_object, local, based, declare_each_global}
use Rattle.c_typing.specs.Statements.{scoped}

abbrev pub most_functions : ℕ
most_functions = 256

abbrev pub most_parameters : ℕ
most_parameters = 8

-- ---- parameters

-- a parameter may have no name
abbrev pub parameter : Bool → Place → List Judged → Parameter
parameter constant place (type ∷ name ∷ _) = record { ty = type.ty; constant = constant; name = name.text; name_place = name.place; place = place }
parameter constant place (type ∷ []) = record { ty = type.ty; constant = constant; name = []; name_place = place; place = place }
parameter constant place [] = record { ty = I16; constant = constant; name = []; name_place = place; place = place }

abbrev pub parameter_by : Place → List Judged → List Parameter
parameter_by place (first ∷ rest) = (if spells (codes "const") first then parameter true place rest else parameter false place (first ∷ rest)) ∷ []
parameter_by place [] = []

-- `void` and the commas between parameters are none
abbrev pub params_by : List Judged → List Parameter
params_by [] = []
params_by (part ∷ rest) = part.params ++ params_by rest

abbrev pub types_of : List Parameter → List Ty
types_of ps = map (λ p. p.ty) ps

-- ---- agreement (C11 6.7.6.3): types are compared, `const` isn't

abbrev pub same_types : List Ty → List Ty → Bool
same_types [] [] = true
same_types (a ∷ as') (b ∷ bs) = same_type a b && same_types as' bs
same_types _ _ = false

abbrev pub same_result : Option Ty → Option Ty → Bool
same_result None None = true
same_result (Some a) (Some b) = same_type a b
same_result _ _ = false

-- a function that is only declared so far may be defined
abbrev pub may_define : Role → Bool
may_define role.Declared = true
may_define _ = false

-- a function is declared again: the same type, and no second definition. `in` and `out` are defined before the text
abbrev pub may_follow : Bool → List Ty → Option Ty → Signature → Bool
may_follow defines params result old = same_types params old.params && (same_result result old.result && (not defines || may_define old.role))

abbrev pub set_signature : ℕ → Signature → Part (Unit {0})
set_signature f new s = Gives tt (record s { signatures = slice_set s.signatures f new })

abbrev pub defined_now : Bool → ℕ → Signature → Part (Unit {0})
defined_now defines f old = either (defines && may_define old.role) (set_signature f (record old { role = role.Defined })) skip

abbrev pub name_again : Bool → List Ty → Option Ty → Place → ℕ → Option Signature → Part (Unit {0})
name_again defines params result place f None = skip
name_again defines params result place f (Some old) = note_if (not (may_follow defines params result old)) (fault.Redeclared place) >> defined_now defines f old

abbrev pub role_of : Bool → Role
role_of true = role.Defined
role_of false = role.Declared

abbrev pub add_signature : Signature → Part ℕ
add_signature new s = Gives (length s.signatures) (record s { signatures = s.signatures ++ new ∷ [] })

abbrev pub name_first : Bool → List Ty → Option Ty → List ℕ → Part (Unit {0})
name_first defines params result name = add_signature (record { params = params; result = result; role = role_of defines }) >>= (λ f. add_name name (meaning.Function f))

abbrev pub name_from : Bool → List Ty → Option Ty → Judged → Option Meaning → Part (Unit {0})
name_from defines params result name None = name_first defines params result name.text
name_from defines params result name (Some (meaning.Function f)) = looked (signature_at f) (name_again defines params result name.place f)
name_from defines params result name (Some (meaning.Variable number ty n constant)) = note (fault.Redeclared name.place)

abbrev pub meaning_in_file : List ℕ → State → Option Meaning
meaning_in_file name s = find_here name s.scopes

-- a declaration of a function, which may be a definition
abbrev pub name_function : Bool → List Ty → Option Ty → Judged → Part (Unit {0})
name_function defines params result name = looked (meaning_in_file name.text) (name_from defines params result name)

abbrev pub note_ninth : Option Parameter → Part (Unit {0})
note_ninth None = skip
note_ninth (Some p) = note (fault.TooMany p.place)

-- the first parameter above the limit
abbrev pub note_many : List Parameter → Part (Unit {0})
note_many ps = note_ninth (slice_get ps most_parameters)

-- ---- prototypes: their parameters have a scope of their own (C11 6.2.1)

-- no expression sees it
abbrev pub parameter_meaning : Parameter → Meaning
parameter_meaning p = meaning.Variable 0 p.ty None p.constant

abbrev pub name_parameter : Parameter → Part (Unit {0})
name_parameter p = either (is_empty p.name) skip (declare_name p.name p.name_place (parameter_meaning p))

abbrev pub name_parameters : List Parameter → Part (Unit {0})
name_parameters [] = skip
name_parameters (p ∷ ps) = name_parameter p >> name_parameters ps

abbrev pub prototype : Option Ty → Judged → List Parameter → Part (Unit {0})
prototype result name ps = name_function false (types_of ps) result name >> note_many ps >> scoped (name_parameters ps)

-- ---- definitions: parameters stand in the scope of the body (C11 6.2.1)

abbrev pub add_parameter : Parameter → Part ℕ
add_parameter p = add_object p.name p.name_place p.constant (local p.ty None)

abbrev pub add_parameters : List ℕ → List Parameter → Part (List ℕ)
add_parameters done [] = pure done
add_parameters done (p ∷ ps) = add_parameter p >>= (λ number. add_parameters (done ++ number ∷ []) ps)

abbrev pub is_return_stmt : StmtLayer → Bool
is_return_stmt (StmtKind-F.Return e) = true
is_return_stmt _ = false

abbrev pub is_return_item : ItemLayer → Bool
is_return_item (BlockItem-F.«BlockItem::Act» s) = is_return_stmt (out-StmtKind s.kind)
is_return_item _ = false

abbrev pub ends_in_return : List BlockItem → Bool
ends_in_return [] = false
ends_in_return (last ∷ []) = is_return_item (out-BlockItem last)
ends_in_return (first ∷ second ∷ rest) = ends_in_return (second ∷ rest)

-- the body is a node, and so is a return that is implied
abbrev pub body_nodes : List BlockItem → ℕ
body_nodes items = if ends_in_return items then 1 else 2

abbrev pub add_function : Function → Part (Unit {0})
add_function f s = Gives tt (record s { functions = s.functions ++ f ∷ [] })

abbrev pub function : Option Ty → Judged → Judged → List ℕ → List BlockItem → Function
function result name block params items =
    record { name = name.text; params = params; result = result; body = record { place = block.place; kind = stmt.Block items }; end = block.end }

abbrev pub body_by : Option Ty → Judged → Judged → List ℕ → Part Function
body_by result name block params = block.items >>= (λ items. count (body_nodes items) >> pure (function result name block params items))

abbrev pub set_result : Option Ty → Part (Unit {0})
set_result result s = Gives tt (record s { result = result })

abbrev pub is_last : State → Bool
is_last s = nat_le most_functions (length s.functions)

-- what is declared before the body
abbrev pub definition_head : Option Ty → Judged → List Parameter → Part (Unit {0})
definition_head result name ps =
    looked is_last (λ full. note_if full (fault.TooMany name.place)) >> name_function true (types_of ps) result name >> note_many ps

abbrev pub parameters_and_body : Option Ty → Judged → List Parameter → Judged → Part Function
parameters_and_body result name ps block = add_parameters [] ps >>= body_by result name block

abbrev pub definition : Option Ty → Judged → List Parameter → Judged → Part (Unit {0})
definition result name ps block =
    definition_head result name ps >> set_result result >> (scoped (parameters_and_body result name ps block) >>= add_function)

-- ---- externals

-- the type of a result: none for `void`, which is a token
abbrev pub result_of : Judged → Option Ty
result_of part = if is_token part then None else Some part.ty

-- a function's declaration: type, name, (, parameters, ), and a body or a semicolon
abbrev pub is_function : List Judged → Bool
is_function (type ∷ name ∷ bracket ∷ params ∷ _) = is_token name && spells (codes "(") bracket
is_function _ = false

abbrev pub function_made : Judged → Judged → Judged → Judged → Part (Unit {0})
function_made type name params ending =
    either (is_token ending) (prototype (result_of type) name params.params) (definition (result_of type) name params.params ending)

abbrev pub function_by : List Judged → Part (Unit {0})
function_by (type ∷ name ∷ bracket ∷ params ∷ close ∷ ending ∷ _) = function_made type name params ending
function_by _ = skip

abbrev pub objects_by : Bool → List Judged → Part (Unit {0})
objects_by constant (type ∷ rest) = declare_each_global (based constant type) rest
objects_by constant [] = skip

abbrev pub declared_by : List Judged → Part (Unit {0})
declared_by (first ∷ rest) =
    either (spells (codes "const") first) (objects_by true rest) (either (is_function (first ∷ rest)) (function_by (first ∷ rest)) (objects_by false (first ∷ rest)))
declared_by [] = skip

-- behind a `static`, which means nothing here
abbrev pub unstatic : List Judged → List Judged
unstatic (first ∷ rest) = if spells (codes "static") first then rest else first ∷ rest
unstatic [] = []

abbrev pub external_by : List Judged → Part (Unit {0})
external_by parts = declared_by (unstatic parts)

-- ---- the names of the functions that are defined

abbrev pub defined_name : Judged → Judged → Judged → List (List ℕ)
defined_name name bracket ending = if is_token name && not (is_token ending) && spells (codes "(") bracket then name.text ∷ [] else []

abbrev pub defined_by_function : List Judged → List (List ℕ)
defined_by_function (type ∷ name ∷ bracket ∷ params ∷ close ∷ ending ∷ _) = defined_name name bracket ending
defined_by_function _ = []

abbrev pub defines_by : List Judged → List (List ℕ)
defines_by parts = defined_by_function (unstatic parts)
