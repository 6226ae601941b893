-- Declarations of objects (C11 6.7): a name is in scope behind its declarator's end, but in its own initialiser it stands for nothing.
use Rattle.std.specs.Prelude.{ℕ, ℤ, pos, negsuc, ◌∷◌, [], ◌++◌, ◌+◌, List, Bool, true, false, Option, Some, None, codes, length, nat_le, is_some, if◌then◌else◌, ◌==◌, ◌&&◌}
use Rattle.base_io.specs.declared.place.Place.{Place}
use Rattle.c_values.specs.declared.ops.Ty.{Ty}
use Rattle.c_values.specs.Values.{value}
use Rattle.c_tree.specs.declared.tree.Expr.{Expr}
use Rattle.c_tree.specs.declared.tree.Declared.{Declared}
use Rattle.c_tree.specs.declared.tree.Variable.{Variable}
use Rattle.c_typing.specs.declared.meaning.Meaning.{Meaning}
use Rattle.c_typing.specs.declared.meaning.Meaning.TheVariants as meaning
use Rattle.c_typing.specs.declared.state.State.{State}
use Rattle.c_typing.specs.declared.type_fault.TypeFault.{TypeFault}
use Rattle.c_typing.specs.declared.type_fault.TypeFault.TheVariants as fault
use Rattle.c_typing.specs.Parts.{Part, Gives, ◌>>=◌, ◌>>◌, pure, skip, either, looked, note, note_if, count, uncounted}
use Rattle.c_typing.specs.Scopes.{find_here, declared}
use Rattle.c_typing.specs.Constants.{constant_of}
use Rattle.c_typing.specs.declared.value.Base.{Base}
use Rattle.c_typing.specs.Judged.{Judged, no_place, spells, is_token}
use Rattle.c_typing.specs.Expressions.{converted, value_of}

-- ---- limits

abbrev pub most_objects : ℕ
most_objects = 1024

abbrev pub most_elements : ℕ
most_elements = 1024

-- ---- names

abbrev pub is_full : State → Bool
is_full s = nat_le most_objects (length s.variables)

abbrev pub is_taken : List ℕ → State → Bool
is_taken name s = is_some (find_here name s.scopes)

abbrev pub add_name : List ℕ → Meaning → Part (Unit {0})
add_name name m s = Gives tt (record s { scopes = declared name m s.scopes })

-- a name has one meaning in a scope (C11 6.7); the first stays
abbrev pub declare_name : List ℕ → Place → Meaning → Part (Unit {0})
declare_name name place m = looked (is_taken name) (λ taken. note_if taken (fault.Redeclared place)) >> add_name name m

abbrev pub add_variable : Variable → Part ℕ
add_variable v s = Gives (length s.variables) (record s { variables = s.variables ++ v ∷ []; unready = [] })

-- the name of an object of this number
abbrev pub name_object : List ℕ → Place → Meaning → ℕ → Part ℕ
name_object name place m number = declare_name name place m >> pure number

-- an object and its name; its number
abbrev pub named_object : List ℕ → Place → Bool → Variable → Part ℕ
named_object name place constant v = add_variable v >>= (λ number. name_object name place (meaning.Variable number v.ty v.length constant) number)

-- An object comes into scope, behind its initialiser; its number.
abbrev pub add_object : List ℕ → Place → Bool → Variable → Part ℕ
add_object name place constant v = looked is_full (λ full. note_if full (fault.TooMany place)) >> named_object name place constant v

-- from here on an initialiser of this name
abbrev pub begin_initialiser : List ℕ → Part (Unit {0})
begin_initialiser name s = Gives tt (record s { unready = name })

-- ---- lengths

abbrev pub is_length : ℕ → Bool
is_length n = nat_le 1 n && nat_le n most_elements

abbrev pub bad_length : TypeFault → Part ℕ
bad_length fault = note fault >> pure most_elements

abbrev pub length_within : Place → ℤ → Part ℕ
length_within place (pos n) = either (is_length n) (pure n) (bad_length (fault.BadArray place))
length_within place (negsuc n) = bad_length (fault.BadArray place)

abbrev pub length_from : Expr → Option ℕ → Part ℕ
length_from e None = bad_length (fault.NotConst e.place)
length_from e (Some w) = length_within e.place (value e.ty w)

abbrev pub length_value : Judged → Part ℕ
length_value part = value_of part >>= (λ e. length_from e (constant_of e))

-- The length is a constant from 1 to 1,024 (C11 6.7.6.2). A name in it is looked up before the array's is in scope.
abbrev pub length_of : Judged → Part ℕ
length_of part = uncounted (length_value part)

-- ---- initialisers

-- an initialiser is converted as by an assignment (C11 6.7.9)
abbrev pub initial_value : Ty → Judged → Part Expr
initial_value ty part = value_of part >>= converted ty

-- the first value too many of a list
abbrev pub note_excess : ℕ → List Expr → Expr → Part (Unit {0})
note_excess most done e = note_if (length done == most) (fault.BadArray e.place)

abbrev pub next_value : Ty → ℕ → List Expr → Judged → Part Expr
next_value ty most done part = initial_value ty part >>= (λ e. note_excess most done e >> pure e)

-- the values of a list, each with a sign behind it, after those that are there
abbrev pub listed : Ty → ℕ → List Expr → List Judged → Part (List Expr)
listed ty most done (part ∷ sign ∷ rest) = next_value ty most done part >>= (λ e. listed ty most (done ++ e ∷ []) rest)
listed ty most done _ = pure done

abbrev pub scalar_value : Ty → Judged → Part (List Expr)
scalar_value ty part = initial_value ty part >>= (λ e. pure (e ∷ []))

abbrev pub scalar_values : Ty → List Judged → Part (List Expr)
scalar_values ty (equals ∷ part ∷ []) = scalar_value ty part
scalar_values ty _ = pure []

abbrev pub list_values : Ty → ℕ → List Judged → Part (List Expr)
list_values ty most (equals ∷ bracket ∷ rest) = listed ty most [] rest
list_values ty most _ = pure []

-- ---- objects of a function

abbrev pub local : Ty → Option ℕ → Variable
local ty size = record { ty = ty; length = size; first = []; global = false }

abbrev pub local_object : Base → Judged → Option ℕ → List Expr → Part Declared
local_object base name size es =
    add_object name.text name.place base.constant (local base.ty size) >>= (λ number. pure (record { place = name.place; variable = number; values = es }))

-- a declarator is a node; so is an array of a function, besides
abbrev pub made_local : Base → Judged → Option ℕ → ℕ → List Expr → Part Declared
made_local base name size nodes es = count nodes >> local_object base name size es

abbrev pub declare_scalar : Base → Judged → List Judged → Part Declared
declare_scalar base name rest = begin_initialiser name.text >> (scalar_values base.ty rest >>= made_local base name None 1)

abbrev pub declare_array : Base → Judged → List Judged → ℕ → Part Declared
declare_array base name rest n = begin_initialiser name.text >> (list_values base.ty n rest >>= made_local base name (Some n) 2)

abbrev pub declare_by : List Judged → Base → Part Declared
declare_by (name ∷ bracket ∷ part ∷ close ∷ rest) base = length_of part >>= declare_array base name rest
declare_by (name ∷ rest) base = declare_scalar base name rest
declare_by [] base = pure (record { place = no_place; variable = 0; values = [] })

-- ---- objects of the file

-- the initialiser of an object of the file is a constant (C11 6.7.9)
abbrev pub word_from : Expr → Option ℕ → Part ℕ
word_from e None = note (fault.NotConst e.place) >> pure 0
word_from e (Some w) = pure w

-- the words of constants, after those that are there
abbrev pub words_onto : List ℕ → List Expr → Part (List ℕ)
words_onto done [] = pure done
words_onto done (e ∷ es) = word_from e (constant_of e) >>= (λ w. words_onto (done ++ w ∷ []) es)

abbrev pub words_from : Part (List Expr) → Part (List ℕ)
words_from values = uncounted values >>= words_onto []

abbrev pub made_global : Base → Judged → Option ℕ → List ℕ → Part (Unit {0})
made_global base name size ws =
    add_object name.text name.place base.constant (record { ty = base.ty; length = size; first = ws; global = true }) >> skip

abbrev pub declare_global_scalar : Base → Judged → List Judged → Part (Unit {0})
declare_global_scalar base name rest = begin_initialiser name.text >> (words_from (scalar_values base.ty rest) >>= made_global base name None)

abbrev pub declare_global_array : Base → Judged → List Judged → ℕ → Part (Unit {0})
declare_global_array base name rest n = begin_initialiser name.text >> (words_from (list_values base.ty n rest) >>= made_global base name (Some n))

abbrev pub declare_global_by : List Judged → Base → Part (Unit {0})
declare_global_by (name ∷ bracket ∷ part ∷ close ∷ rest) base = length_of part >>= declare_global_array base name rest
declare_global_by (name ∷ rest) base = declare_global_scalar base name rest
declare_global_by [] base = skip

-- ---- lists of declarators

-- the objects of declarators, each with a sign behind it, after those that are there
abbrev pub declare_each : Base → List Declared → List Judged → Part (List Declared)
declare_each base done (part ∷ sign ∷ rest) = part.declare base >>= (λ d. declare_each base (done ++ d ∷ []) rest)
declare_each base done _ = pure done

abbrev pub declare_each_global : Base → List Judged → Part (Unit {0})
declare_each_global base (part ∷ sign ∷ rest) = part.declare_global base >> declare_each_global base rest
declare_each_global base _ = skip

abbrev pub based : Bool → Judged → Base
based constant type = record { ty = type.ty; constant = constant }

abbrev pub typed_declaration : Bool → List Judged → Part (List Declared)
typed_declaration constant (type ∷ rest) = declare_each (based constant type) [] rest
typed_declaration constant [] = pure []

-- `const` may stand in front of the type
abbrev pub declaration_by : List Judged → Part (List Declared)
declaration_by (first ∷ rest) = either (spells (codes "const") first) (typed_declaration true rest) (typed_declaration false (first ∷ rest))
declaration_by [] = pure []
