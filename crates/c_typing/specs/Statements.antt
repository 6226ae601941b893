-- Statements (C11 6.8). Each is a node, a loop is one more for its turns, and a label is one.
use Rattle.std.specs.Prelude.{ℕ, ◌∷◌, [], ◌++◌, ◌+◌, List, Bool, true, false, not, Option, Some, None, codes, is_none, if◌then◌else◌, ◌==◌, ◌||◌}
use Rattle.std.specs.Str.{bytes_eq}
use Rattle.base_io.specs.declared.place.Place.{Place}
use Rattle.c_parse.specs.declared.raw.RawRule.{RawRule}
use Rattle.c_parse.specs.declared.raw.RawRule.TheVariants as rule
use Rattle.c_values.specs.declared.ops.Ty.{Ty}
use Rattle.c_tree.specs.Nodes.{has_default, has_label}
use Rattle.c_tree.specs.declared.tree.Expr.{Expr}
use Rattle.c_tree.specs.declared.tree.Action.{Action}
use Rattle.c_tree.specs.declared.tree.Declared.{Declared}
use Rattle.c_tree.specs.declared.tree.BlockItem.{BlockItem}
use Rattle.c_tree.specs.declared.tree.BlockItem.TheVariants as item
use Rattle.c_tree.specs.declared.tree.Stmt.{Stmt}
use Rattle.c_tree.specs.declared.tree.StmtKind.{StmtKind}
use Rattle.c_tree.specs.declared.tree.StmtKind.TheVariants as stmt
use Rattle.c_tree.specs.declared.tree.ForFirst.{ForFirst}
use Rattle.c_tree.specs.declared.tree.ForFirst.TheVariants as first
use Rattle.c_tree.specs.declared.tree.Group.{Group}
use Rattle.c_tree.specs.declared.tree.Label.{Label}
use Rattle.c_typing.specs.declared.state.State.{State}
use Rattle.c_typing.specs.declared.type_fault.TypeFault.{TypeFault}
use Rattle.c_typing.specs.declared.type_fault.TypeFault.TheVariants as fault
use Rattle.c_typing.specs.Parts.{Part, Gives, ◌>>=◌, ◌>>◌, pure, skip, either, looked, note, note_if, count, uncounted}
use Rattle.c_typing.specs.Scopes.{closed}
use Rattle.c_typing.specs.Constants.{constant_of}
use Rattle.c_typing.specs.Conversions.{promoted}
use Rattle.c_typing.specs.Judged.{Judged, empty_stmt, no_place, spells, is_token}
use Rattle.c_typing.specs.Expressions.{converted, value_of}

abbrev pub made : Place → StmtKind → Part Stmt
made place kind = count 1 >> pure (record { place = place; kind = kind })

abbrev pub open_scope : Part (Unit {0})
open_scope s = Gives tt (record s { scopes = [] ∷ s.scopes })

abbrev pub close_scope : Part (Unit {0})
close_scope s = Gives tt (record s { scopes = closed s.scopes })

-- what stands in a scope of its own
abbrev pub scoped : {A : Type 0} → Part A → Part A
scoped p = open_scope >> (p >>= (λ a. close_scope >> pure a))

-- ---- items

abbrev pub items_onto : List BlockItem → List Judged → Part (List BlockItem)
items_onto done [] = pure done
items_onto done (part ∷ rest) = either (is_token part) (pure done) (part.item >>= (λ i. items_onto (done ++ i ∷ []) rest))

-- between the braces of a block
abbrev pub items_by : List Judged → Part (List BlockItem)
items_by (bracket ∷ rest) = items_onto [] rest
items_by [] = pure []

abbrev pub is_declaration : Option RawRule → Bool
is_declaration (Some rule.Declaration) = true
is_declaration _ = false

abbrev pub item_by : List Judged → Part BlockItem
item_by (part ∷ _) = either (is_declaration part.rule) (part.declaration >>= (λ ds. pure (item.Declare ds))) (part.stmt >>= (λ s. pure (item.Act s)))
item_by [] = pure (item.Declare [])

-- ---- return (C11 6.8.6.4)

abbrev pub returned_nothing : Place → Option Ty → Part StmtKind
returned_nothing place None = pure (stmt.Return None)
returned_nothing place (Some ty) = note (fault.BadAssign place) >> pure (stmt.Return None)

abbrev pub returned : Place → Expr → Option Ty → Part StmtKind
returned place e None = note (fault.BadAssign place) >> pure (stmt.Return None)
returned place e (Some ty) = converted ty e >>= (λ x. pure (stmt.Return (Some x)))

abbrev pub result_type : State → Option Ty
result_type s = s.result

abbrev pub return_by : Place → List Judged → Part StmtKind
return_by place (part ∷ sign ∷ []) = value_of part >>= (λ e. looked result_type (returned place e))
return_by place _ = looked result_type (returned_nothing place)

-- ---- if, while, do

-- behind the `if`: ( test ) yes, or ( test ) yes else no
abbrev pub if_made : Expr → Stmt → Option Stmt → Part StmtKind
if_made test a b = pure (stmt.If test a b)

abbrev pub else_by : List Judged → Expr → Stmt → Part StmtKind
else_by (word ∷ part ∷ _) test a = part.stmt >>= (λ b. if_made test a (Some b))
else_by _ test a = if_made test a None

abbrev pub yes_by : Judged → List Judged → Expr → Part StmtKind
yes_by part rest test = part.stmt >>= else_by rest test

abbrev pub if_by : List Judged → Part StmtKind
if_by (bracket ∷ test ∷ close ∷ part ∷ rest) = value_of test >>= yes_by part rest
if_by _ = pure stmt.Empty

abbrev pub while_body : Judged → Expr → Part StmtKind
while_body part test = part.stmt >>= (λ s. pure (stmt.While test s))

abbrev pub while_by : List Judged → Part StmtKind
while_by (bracket ∷ test ∷ close ∷ part ∷ _) = count 1 >> (value_of test >>= while_body part)
while_by _ = pure stmt.Empty

abbrev pub do_test : Judged → Stmt → Part StmtKind
do_test test s = value_of test >>= (λ e. pure (stmt.Do s e))

abbrev pub do_by : List Judged → Part StmtKind
do_by (part ∷ word ∷ bracket ∷ test ∷ _) = count 1 >> (part.stmt >>= do_test test)
do_by _ = pure stmt.Empty

-- ---- for: its declaration is known to its end (C11 6.8.5)

abbrev pub but_first : List Judged → List Judged
but_first [] = []
but_first (_ ∷ rest) = rest

abbrev pub for_body : Option ForFirst → Option Expr → List Judged → Option Action → Part StmtKind
for_body f test (part ∷ _) step = part.stmt >>= (λ s. pure (stmt.For f test step s))
for_body f test [] step = pure stmt.Empty

-- behind the second semicolon
abbrev pub step_by : Option ForFirst → List Judged → Option Expr → Part StmtKind
step_by f (part ∷ rest) test = either (is_token part) (for_body f test rest None) (part.act >>= (λ a. for_body f test (but_first rest) (Some a)))
step_by f [] test = pure stmt.Empty

-- behind the first semicolon
abbrev pub test_by : List Judged → Option ForFirst → Part StmtKind
test_by (part ∷ rest) f = either (is_token part) (step_by f rest None) (value_of part >>= (λ e. step_by f (but_first rest) (Some e)))
test_by [] f = pure stmt.Empty

-- a declaration has its semicolon
abbrev pub first_some : Judged → List Judged → Part StmtKind
first_some part rest =
    either (is_declaration part.rule) (part.declaration >>= (λ ds. test_by rest (Some (first.Declare ds)))) (part.act >>= (λ a. test_by (but_first rest) (Some (first.Act a))))

-- behind the bracket
abbrev pub first_by : List Judged → Part StmtKind
first_by (part ∷ rest) = either (is_token part) (test_by rest None) (first_some part rest)
first_by [] = pure stmt.Empty

abbrev pub for_by : List Judged → Part StmtKind
for_by (bracket ∷ rest) = count 1 >> scoped (first_by rest)
for_by [] = pure stmt.Empty

-- ---- switch (C11 6.8.4.2): the value is promoted, and the constants of its labels are converted to that type

abbrev pub label_made : Place → Option ℕ → Part (List Label)
label_made place value = count 1 >> pure (record { place = place; value = value } ∷ [])

abbrev pub case_from : Place → List Label → Expr → Option ℕ → Part (List Label)
case_from place before e None = note (fault.NotConst e.place) >> pure []
case_from place before e (Some w) = note_if (has_label w before) (fault.Redeclared e.place) >> label_made place (Some w)

abbrev pub case_by : Place → Judged → Ty → List Label → Part (List Label)
case_by place part ty before = uncounted (value_of part >>= converted ty) >>= (λ e. case_from place before e (constant_of e))

abbrev pub default_by : Place → List Label → Part (List Label)
default_by place before = note_if (has_default before) (fault.Redeclared place) >> label_made place None

-- a label, behind those of the switch that stand before it
abbrev pub label_by : List Judged → Ty → List Label → Part (List Label)
label_by (word ∷ colon ∷ []) ty before = default_by word.place before
label_by (word ∷ part ∷ _) ty before = case_by word.place part ty before
label_by _ ty before = pure []

abbrev pub is_label : Option RawRule → Bool
is_label (Some rule.Label) = true
is_label _ = false

-- the labels of a group, and behind them its items, to its end
abbrev pub group_onto : Ty → List Label → List Label → List Judged → Part Group
group_onto ty before labels [] = pure (record { labels = labels; items = [] })
group_onto ty before labels (part ∷ rest) =
    either (is_label part.rule)
    (part.label ty (before ++ labels) >>= (λ ls. group_onto ty before (labels ++ ls) rest))
    (items_onto [] (part ∷ rest) >>= (λ items. pure (record { labels = labels; items = items })))

-- a declaration in a group is known to the end of the group
abbrev pub group_by : List Judged → Ty → List Label → Part Group
group_by parts ty before = scoped (group_onto ty before [] parts)

-- groups, with the labels before them, behind those that are there
abbrev pub groups_onto : Ty → List Label → List Group → List Judged → Part (List Group)
groups_onto ty before done [] = pure done
groups_onto ty before done (part ∷ rest) =
    either (is_token part) (pure done) (part.group ty before >>= (λ g. groups_onto ty (before ++ g.labels) (done ++ g ∷ []) rest))

abbrev pub switched : List Judged → Expr → Part StmtKind
switched rest e = groups_onto e.ty [] [] rest >>= (λ groups. pure (stmt.Switch e groups))

abbrev pub switch_value : List Judged → Expr → Part StmtKind
switch_value rest e = converted (promoted e.ty) e >>= switched rest

abbrev pub switch_by : List Judged → Part StmtKind
switch_by (bracket ∷ part ∷ close ∷ brace ∷ rest) = value_of part >>= switch_value rest
switch_by _ = pure stmt.Empty

-- ---- all statements

abbrev pub act_kind : Judged → Part StmtKind
act_kind part = part.act >>= (λ a. pure (stmt.Act a))

abbrev pub loop_kind : List ℕ → List Judged → Part StmtKind
loop_kind word rest =
    either (bytes_eq word (codes "while")) (while_by rest)
    (either (bytes_eq word (codes "do")) (do_by rest)
    (either (bytes_eq word (codes "for")) (for_by rest)
    (either (bytes_eq word (codes "switch")) (switch_by rest) (pure stmt.Empty))))

-- behind its first word
abbrev pub word_kind : Judged → List Judged → Part StmtKind
word_kind word rest =
    either (bytes_eq word.text (codes "break")) (pure stmt.Break)
    (either (bytes_eq word.text (codes "continue")) (pure stmt.Continue)
    (either (bytes_eq word.text (codes "return")) (return_by word.place rest)
    (either (bytes_eq word.text (codes "if")) (if_by rest) (loop_kind word.text rest))))

abbrev pub is_block : Option RawRule → Bool
is_block (Some rule.Block) = true
is_block _ = false

-- a block is a scope
abbrev pub node_kind : Judged → Part StmtKind
node_kind part = either (is_block part.rule) (scoped part.items >>= (λ items. pure (stmt.Block items))) (act_kind part)

abbrev pub stmt_kind : List Judged → Part StmtKind
stmt_kind (part ∷ rest) = either (is_token part) (word_kind part rest) (node_kind part)
stmt_kind [] = pure stmt.Empty

abbrev pub stmt_by : Place → List Judged → Part Stmt
stmt_by place parts = stmt_kind parts >>= made place
