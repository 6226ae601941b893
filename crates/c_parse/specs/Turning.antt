-- What the functions that turn the machine promise each other.
use Rattle.std.specs.Prelude.{List, ◌∷◌, ◌++◌, Option, Some, None, Bool, true, false, cond, slice_get}
use Rattle.c_parse.specs.declared.class.Class.{Class}
use Rattle.c_parse.specs.declared.class.Class.TheVariants.{Name, Open, Case, Default}
use Rattle.c_parse.specs.declared.raw.Raw.{Raw, out-Raw}
use Rattle.c_parse.specs.declared.raw.Raw.TheOpen.{Raw-F}
use Rattle.c_parse.specs.declared.raw.RawRule.{RawRule}
use Rattle.c_parse.specs.declared.raw.RawRule.TheVariants.{Statement, Item}
use Rattle.c_parse.specs.declared.form.Wait.{Wait}
use Rattle.c_parse.specs.Grammar.{Shape, levelled, noded, Form, signature, titled, groups, action, unary, primary, make, Word}
use Rattle.c_parse.specs.Machine.{Delay, opened, called, named, begun, Late, of_params, of_group, late_form, late_rest, verdict, State, at, wants}

abbrev pub as_word : Class → Raw → Word
as_word class leaf = record { class = class; leaf = leaf }

abbrev pub rule_in : Shape → Option RawRule
rule_in (noded rule) = Some rule
rule_in _ = None

abbrev pub is_levelled : Shape → Bool
is_levelled levelled = true
is_levelled _ = false

-- What is told later, where this token begins the form.
abbrev pub delayed_at : Form → Option Class → Option Delay
delayed_at unary (Some Open) = Some opened
delayed_at primary (Some Name) = Some called
delayed_at titled (Some Name) = Some named
delayed_at action (Some Name) = Some begun
delayed_at _ _ = None

-- What is judged when it is read, where this token begins the form.
abbrev pub judged_at : Form → Option Class → Option Late
judged_at signature _ = Some of_params
judged_at (groups within true) (Some Case) = Some (of_group within)
judged_at (groups within true) (Some Default) = Some (of_group within)
judged_at _ _ = None

-- The parts are judged, and their tree joins the list round them.
abbrev pub judged_as : Late → List Wait → List Raw → List Raw → List (List Raw) → Option State
judged_as late c parts round vs = Some (at (wants (late_rest late (verdict late parts)) c) ((round ++ make (late_form late (verdict late parts)) parts) ∷ vs))

-- the first part of a node of this rule
abbrev pub first_in_layer : (RawRule → Bool) → Raw-F Raw → Option Raw
first_in_layer is_rule (Raw-F.Node rule parts) = cond (is_rule rule) (slice_get parts 0) None
first_in_layer is_rule _ = None

abbrev pub is_item : RawRule → Bool
is_item Item = true
is_item _ = false

abbrev pub is_statement : RawRule → Bool
is_statement Statement = true
is_statement _ = false

-- The first part of an item's statement.
abbrev pub first_of_statement : Option Raw → Option Raw
first_of_statement None = None
first_of_statement (Some statement) = first_in_layer is_statement (out-Raw statement)

abbrev pub first_of_item : Raw → Option Raw
first_of_item item = first_of_statement (first_in_layer is_item (out-Raw item))
