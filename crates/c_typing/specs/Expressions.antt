-- Expressions (C11 6.5). Every fault counts where it stands, also inside an expression that has another.
use Rattle.std.specs.Prelude.{ℕ, ◌∷◌, [], ◌++◌, ◌+◌, List, Bool, true, false, not, Option, Some, None, codes, length, slice_get, is_some, ◌==◌, if◌then◌else◌, ◌&&◌}
use Rattle.std.specs.Str.{bytes_eq}
use Rattle.std.specs.Option.{option_map}
use Rattle.base_io.specs.declared.place.Place.{Place}
use Rattle.c_lex.specs.declared.token.TokenKind.{TokenKind}
use Rattle.c_lex.specs.declared.token.TokenKind.TheVariants as token
use Rattle.c_values.specs.declared.ops.Ty.{Ty}
use Rattle.c_values.specs.declared.ops.Ty.TheVariants.{I8, U8, I16, U16}
use Rattle.c_values.specs.declared.ops.UnaryOp.{UnaryOp}
use Rattle.c_values.specs.declared.ops.UnaryOp.TheVariants as unary
use Rattle.c_values.specs.declared.ops.BinaryOp.{BinaryOp}
use Rattle.c_values.specs.declared.ops.BinaryOp.TheVariants as binary
use Rattle.c_tree.specs.Nodes.{same_type}
use Rattle.c_tree.specs.declared.tree.Expr.{Expr}
use Rattle.c_tree.specs.declared.tree.ExprKind.{ExprKind}
use Rattle.c_tree.specs.declared.tree.ExprKind.TheVariants as kind
use Rattle.c_typing.specs.declared.meaning.Meaning.{Meaning}
use Rattle.c_typing.specs.declared.meaning.Meaning.TheVariants as meaning
use Rattle.c_typing.specs.declared.state.State.{State}
use Rattle.c_typing.specs.declared.state.Signature.{Signature}
use Rattle.c_typing.specs.declared.state.Callee.{Callee}
use Rattle.c_typing.specs.declared.state.Role.{Role}
use Rattle.c_typing.specs.declared.state.Role.TheVariants as role
use Rattle.c_typing.specs.declared.type_fault.TypeFault.{TypeFault}
use Rattle.c_typing.specs.declared.type_fault.TypeFault.TheVariants as fault
use Rattle.c_typing.specs.declared.value.Value.{Value}
use Rattle.c_typing.specs.Parts.{Part, Gives, ◌>>=◌, ◌>>◌, pure, skip, either, looked, note, note_if, count}
use Rattle.c_typing.specs.Conversions.{common, operand_type, unary_type, left_type, right_type, result_type}
use Rattle.c_typing.specs.Scopes.{find}
use Rattle.c_typing.specs.Texts.{unary_op, binary_op}
use Rattle.c_typing.specs.Judged.{Judged, absent, absent_tree, no_place, spells, is_token}

-- ---- nodes and conversions

-- a node of the tree
abbrev pub node : Place → Ty → ExprKind → Part Expr
node place ty kind = count 1 >> pure (record { place = place; ty = ty; kind = kind })

-- a node whose value can be used
abbrev pub valued : Place → Ty → ExprKind → Part Value
valued place ty kind = node place ty kind >>= (λ e. pure (record { tree = e; is_void = false }))

-- a node of type void
abbrev pub void_node : Place → ExprKind → Part Value
void_node place kind = node place U16 kind >>= (λ e. pure (record { tree = e; is_void = true }))

-- a fault, with something harmless in the expression's place
abbrev pub faulty : TypeFault → Place → Part Value
faulty fault place = note fault >> pure (absent place)

-- the value of an expression is used, so its type isn't void (C11 6.3.2.2)
abbrev pub used : Value → Part Expr
used v = note_if v.is_void (fault.BadAssign v.tree.place) >> pure v.tree

-- the value of a part
abbrev pub value_of : Judged → Part Expr
value_of part = part.expr >>= used

-- A conversion to another type is a node, with its operand's place (C11 6.3.1.3); one to the same type is none.
abbrev pub converted : Ty → Expr → Part Expr
converted ty e = either (same_type ty e.ty) (pure e) (node e.place ty (kind.Convert e))

-- ---- operators

-- `!` tests its operand as it is and gives an int; the others promote it (C11 6.5.3.3)
abbrev pub unary_node : Place → UnaryOp → Ty → Expr → Part Value
unary_node place op ty a = valued place ty (kind.Unary op a)

abbrev pub unary_made : Place → UnaryOp → Expr → Part Value
unary_made place op a = converted (operand_type op a.ty) a >>= unary_node place op (unary_type op a.ty)

-- a cast to the type that the operand has is no node
abbrev pub cast_made : Place → Ty → Expr → Part Value
cast_made place ty a = either (same_type ty a.ty) (pure (record { tree = a; is_void = false })) (valued place ty (kind.Convert a))

-- Both operands are converted before the operator is applied; what they become and what comes out is the operator's matter.
abbrev pub binary_node : Place → BinaryOp → Ty → Expr → Expr → Part Value
binary_node place op ty a b = valued place ty (kind.Binary op a b)

abbrev pub right_converted : Place → BinaryOp → Ty → Expr → Expr → Part Value
right_converted place op left b a = converted (right_type op left b.ty) b >>= binary_node place op (result_type op left b.ty) a

abbrev pub binary_made : Place → BinaryOp → Expr → Expr → Part Value
binary_made place op a b = converted (left_type op a.ty b.ty) a >>= right_converted place op a.ty b

-- the operands of `?:` become their common type (C11 6.5.15); its test is converted to nothing
abbrev pub choice_node : Place → Ty → Expr → Expr → Expr → Part Value
choice_node place ty test a b = valued place ty (kind.Cond test a b)

abbrev pub no_converted : Place → Expr → Ty → Expr → Expr → Part Value
no_converted place test ty b a = converted ty b >>= choice_node place ty test a

abbrev pub choice_made : Place → Expr → Expr → Expr → Part Value
choice_made place test a b = converted (common a.ty b.ty) a >>= no_converted place test (common a.ty b.ty) b

-- ---- names

-- what a name means here; in its own initialiser it means nothing
abbrev pub meaning_at : List ℕ → State → Option Meaning
meaning_at name s = if bytes_eq name s.unready then None else find name s.scopes

-- a name as a value
abbrev pub name_value : Place → Option Meaning → Part Value
name_value place None = faulty (fault.Unknown place) place
name_value place (Some (meaning.Variable number ty None constant)) = valued place ty (kind.Var number)
name_value place (Some (meaning.Variable number ty (Some n) constant)) = faulty (fault.BadArray place) place
name_value place (Some (meaning.Function f)) = faulty (fault.WrongArgs place) place

-- an element as a value
abbrev pub element_value : Place → Option Meaning → Expr → Part Value
element_value place None index = faulty (fault.Unknown place) place
element_value place (Some (meaning.Variable number ty None constant)) index = faulty (fault.BadArray place) place
element_value place (Some (meaning.Variable number ty (Some n) constant)) index = valued place ty (kind.Element number index)
element_value place (Some (meaning.Function f)) index = faulty (fault.WrongArgs place) place

-- ---- calls (C11 6.5.2.2)

abbrev pub place_in : ℕ → List (List ℕ) → List ℕ → Option ℕ
place_in k [] name = None
place_in k (other ∷ others) name = if bytes_eq name other then Some k else place_in (k + 1) others name

-- the function's place among those that the text defines
abbrev pub definition_of : List ℕ → State → Option ℕ
definition_of name s = place_in 0 s.defined name

abbrev pub is_function : Option Meaning → Bool
is_function (Some (meaning.Function f)) = true
is_function _ = false

abbrev pub remember : Place → ℕ → Part (Unit {0})
remember place to s = Gives tt (record s { calls = s.calls ++ record { caller = length s.functions; callee = to; place = place } ∷ [] })

abbrev pub remember_call : Place → Option ℕ → Part (Unit {0})
remember_call place None = skip
remember_call place (Some to) = remember place to

-- calls are remembered in the order of the text
abbrev pub begin_call : List ℕ → Place → Option Meaning → Part (Unit {0})
begin_call name place m = either (is_function m) (looked (definition_of name) (remember_call place)) skip

abbrev pub parameter_in : ℕ → Option Signature → Option Ty
parameter_in k None = None
parameter_in k (Some f) = slice_get f.params k

-- the type of the parameter of this number, where what is called has one
abbrev pub parameter_type : Option Meaning → ℕ → State → Option Ty
parameter_type (Some (meaning.Function f)) k s = parameter_in k (slice_get s.signatures f)
parameter_type _ k s = None

-- an argument is converted to its parameter's type
abbrev pub passed : Expr → Option Ty → Part Expr
passed e None = pure e
passed e (Some ty) = converted ty e

abbrev pub argument : Option Meaning → ℕ → Judged → Part Expr
argument m k part = value_of part >>= (λ e. looked (parameter_type m k) (passed e))

-- arguments with the signs behind them, after those that are there
abbrev pub arguments : Option Meaning → List Expr → List Judged → Part (List Expr)
arguments m done (part ∷ sign ∷ rest) = argument m (length done) part >>= (λ e. arguments m (done ++ e ∷ []) rest)
arguments m done _ = pure done

abbrev pub call_node : Place → Option Ty → ℕ → List Expr → Part Value
call_node place None f args = void_node place (kind.Call f args)
call_node place (Some ty) f args = valued place ty (kind.Call f args)

-- a function that is called is defined somewhere in the text
abbrev pub call_defined : Place → Option Ty → List Expr → Option ℕ → Part Value
call_defined place result args None = faulty (fault.Unknown place) place
call_defined place result args (Some f) = call_node place result f args

abbrev pub output_node : Place → List Expr → Part Value
output_node place (e ∷ []) = void_node place (kind.Output e)
output_node place _ = pure (absent place)

abbrev pub call_as : List ℕ → Place → Option Ty → List Expr → Role → Part Value
call_as name place result args role.Input = valued place U16 kind.Input
call_as name place result args role.Output = output_node place args
call_as name place result args _ = looked (definition_of name) (call_defined place result args)

-- there are as many arguments as parameters
abbrev pub call_function : List ℕ → Place → List Expr → Option Callee → Part Value
call_function name place args None = pure (absent place)
call_function name place args (Some f) = note_if (not (length args == f.arity)) (fault.WrongArgs place) >> call_as name place f.result args f.role

abbrev pub signature_at : ℕ → State → Option Signature
signature_at f s = slice_get s.signatures f

abbrev pub callee : Signature → Callee
callee f = record { arity = length f.params; result = f.result; role = f.role }

abbrev pub callee_at : ℕ → State → Option Callee
callee_at f s = option_map callee (signature_at f s)

abbrev pub call_made : List ℕ → Place → Option Meaning → List Expr → Part Value
call_made name place None args = faulty (fault.Unknown place) place
call_made name place (Some (meaning.Function f)) args = looked (callee_at f) (call_function name place args)
call_made name place (Some (meaning.Variable number ty n constant)) args = faulty (fault.WrongArgs place) place

-- ---- by rules

abbrev pub number_value : Place → TokenKind → Part Value
number_value place (token.Number w true) = valued place U16 (kind.Number w)
number_value place (token.Number w false) = valued place I16 (kind.Number w)
number_value place _ = pure (absent place)

abbrev pub is_name : TokenKind → Bool
is_name token.Name = true
is_name _ = false

-- a literal (C11 6.4.4) or a name
abbrev pub token_value : Judged → Part Value
token_value part = either (is_name part.kind) (looked (meaning_at part.text) (name_value part.place)) (number_value part.place part.kind)

abbrev pub element_by : Judged → List Judged → Option Meaning → Part Value
element_by name (index ∷ _) m = value_of index >>= element_value name.place m
element_by name [] m = pure (absent name.place)

abbrev pub call_by : Judged → List Judged → Option Meaning → Part Value
call_by name parts m = begin_call name.text name.place m >> (arguments m [] parts >>= call_made name.text name.place m)

-- what is behind the name tells an element from a call
abbrev pub indexed_or_called : Judged → Judged → List Judged → Option Meaning → Part Value
indexed_or_called name sign rest m = either (spells (codes "[") sign) (element_by name rest m) (call_by name rest m)

abbrev pub named_by : Judged → Judged → List Judged → Part Value
named_by name sign rest = looked (meaning_at name.text) (indexed_or_called name sign rest)

abbrev pub primary_by : List Judged → Part Value
primary_by [] = pure (absent no_place)
primary_by (part ∷ []) = token_value part
primary_by (first ∷ second ∷ rest) = either (spells (codes "(") first) second.expr (named_by first second rest)

abbrev pub unary_by : List Judged → Part Value
unary_by (part ∷ []) = part.expr
unary_by (operator ∷ a ∷ []) = value_of a >>= unary_made operator.place (unary_op operator.text)
unary_by (bracket ∷ type ∷ close ∷ a ∷ []) = value_of a >>= cast_made bracket.place type.ty
unary_by _ = pure (absent no_place)

abbrev pub second_operand : Place → BinaryOp → Judged → Expr → Part Value
second_operand place op b x = value_of b >>= binary_made place op x

abbrev pub binary_by : List Judged → Part Value
binary_by (part ∷ []) = part.expr
binary_by (a ∷ operator ∷ b ∷ []) = value_of a >>= second_operand operator.place (binary_op operator.text) b
binary_by _ = pure (absent no_place)

abbrev pub last_arm : Place → Judged → Expr → Expr → Part Value
last_arm place b test x = value_of b >>= choice_made place test x

abbrev pub arms : Place → Judged → Judged → Expr → Part Value
arms place a b test = value_of a >>= last_arm place b test

abbrev pub choice_by : List Judged → Part Value
choice_by (part ∷ []) = part.expr
choice_by (test ∷ question ∷ a ∷ colon ∷ b ∷ []) = value_of test >>= arms question.place a b
choice_by _ = pure (absent no_place)
