-- Assignments, and expressions whose values aren't used (C11 6.5.16, 6.5.2.4, 6.5.3.1).
use Rattle.std.specs.Prelude.{ℕ, ◌∷◌, [], List, Bool, true, false, Option, Some, None, codes, if◌then◌else◌}
use Rattle.base_io.specs.declared.place.Place.{Place}
use Rattle.c_values.specs.declared.ops.Ty.{Ty}
use Rattle.c_values.specs.declared.ops.Ty.TheVariants.{I16}
use Rattle.c_values.specs.declared.ops.BinaryOp.{BinaryOp}
use Rattle.c_tree.specs.Nodes.{same_type}
use Rattle.c_tree.specs.declared.tree.Expr.{Expr}
use Rattle.c_tree.specs.declared.tree.Action.{Action}
use Rattle.c_tree.specs.declared.tree.Action.TheVariants as action
use Rattle.c_typing.specs.declared.meaning.Meaning.{Meaning}
use Rattle.c_typing.specs.declared.meaning.Meaning.TheVariants as meaning
use Rattle.c_typing.specs.declared.type_fault.TypeFault.{TypeFault}
use Rattle.c_typing.specs.declared.type_fault.TypeFault.TheVariants as fault
use Rattle.c_typing.specs.declared.value.Value.{Value}
use Rattle.c_typing.specs.declared.value.Aim.{Aim}
use Rattle.c_typing.specs.Parts.{Part, ◌>>=◌, ◌>>◌, pure, either, looked, note, note_if, count}
use Rattle.c_typing.specs.Conversions.{common, left_type, right_type}
use Rattle.c_typing.specs.Texts.{compound_op, increment_op}
use Rattle.c_typing.specs.Judged.{Judged, absent_tree, no_aim, no_place, spells, is_token}
use Rattle.c_typing.specs.Expressions.{converted, meaning_at, value_of}

-- ---- what is assigned to: no node, but its index is one

abbrev pub no_target : TypeFault → Place → Part Aim
no_target fault place = note fault >> pure (no_aim place)

abbrev pub aimed : Place → ℕ → Ty → Option Expr → Aim
aimed place number ty index = record { to = record { place = place; variable = number; index = index }; ty = ty }

-- only its initialiser gives a `const` object a value (C11 6.7.3)
abbrev pub changed : Place → Bool → ℕ → Ty → Option Expr → Part Aim
changed place constant number ty index = note_if constant (fault.BadAssign place) >> pure (aimed place number ty index)

-- a name without an index
abbrev pub scalar_target : Place → Option Meaning → Part Aim
scalar_target place None = no_target (fault.Unknown place) place
scalar_target place (Some (meaning.Variable number ty None constant)) = changed place constant number ty None
scalar_target place (Some (meaning.Variable number ty (Some n) constant)) = no_target (fault.BadArray place) place
scalar_target place (Some _) = no_target (fault.BadAssign place) place

-- a name with an index
abbrev pub element_target : Place → Option Meaning → Expr → Part Aim
element_target place None index = no_target (fault.Unknown place) place
element_target place (Some (meaning.Variable number ty (Some n) constant)) index = changed place constant number ty (Some index)
element_target place (Some _) index = no_target (fault.BadArray place) place

abbrev pub indexed_target : Place → Judged → Option Meaning → Part Aim
indexed_target place index m = value_of index >>= element_target place m

abbrev pub target_by : List Judged → Part Aim
target_by (name ∷ []) = looked (meaning_at name.text) (scalar_target name.place)
target_by (name ∷ bracket ∷ index ∷ _) = looked (meaning_at name.text) (indexed_target name.place index)
target_by _ = pure (no_aim no_place)

-- ---- assignments

-- the value is converted to the type of what is assigned to (C11 6.5.16.1)
abbrev pub assigned : Aim → Expr → Part Action
assigned aim e = converted aim.ty e >>= (λ x. pure (action.Assign aim.to x))

-- The operator is a node, and so are the conversion of the value read and that of the result.
abbrev pub update_nodes : Ty → Ty → ℕ
update_nodes own ty = if same_type own ty then 1 else 3

abbrev pub update : Aim → Place → BinaryOp → Ty → Option Expr → Part Action
update aim at op ty by = count (update_nodes aim.ty ty) >> pure (action.Update aim.to at op ty by)

-- `a op= b` works out `a op b` (C11 6.5.16.2)
abbrev pub compounded : Aim → Place → BinaryOp → Expr → Part Action
compounded aim at op e = converted (right_type op aim.ty e.ty) e >>= (λ x. update aim at op (left_type op aim.ty e.ty) (Some x))

-- `++` and `--` add and subtract an int 1 (C11 6.5.2.4)
abbrev pub incremented : Judged → Aim → Part Action
incremented sign aim = update aim sign.place (increment_op sign.text) (common aim.ty I16) None

abbrev pub set_by : Judged → Aim → Expr → Part Action
set_by sign aim e = either (spells (codes "=") sign) (assigned aim e) (compounded aim sign.place (compound_op sign.text) e)

abbrev pub assign_by : Judged → Judged → Aim → Part Action
assign_by sign part aim = value_of part >>= set_by sign aim

abbrev pub increment_by : Judged → Judged → Part Action
increment_by sign target = target.target >>= incremented sign

-- an expression for itself may be of type void
abbrev pub act_by : List Judged → Part Action
act_by (part ∷ []) = part.expr >>= (λ v. pure (action.Value v.tree))
act_by (first ∷ second ∷ []) = either (is_token first) (increment_by first second) (increment_by second first)
act_by (target ∷ sign ∷ part ∷ []) = target.target >>= assign_by sign part
act_by _ = pure (action.Value (absent_tree no_place))
