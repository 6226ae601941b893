-- What actions, declarations and statements are lowered to (C11 6.8). The load, copy and store that an assignment itself gives have the place of what is
-- assigned to.
use Rattle.std.specs.Prelude.{ℕ, ◌+◌, ◌++◌, Bool, true, false, not, Option, Some, None, List, [], ◌∷◌, map, slice_get, is_none, ◌==◌, ◌||◌, if◌then◌else◌}
use Rattle.std.specs.Option.{option_map}
use Rattle.base_io.specs.declared.place.Place.{Place}
use Rattle.c_values.specs.declared.ops.Ty.{Ty}
use Rattle.c_values.specs.declared.ops.BinaryOp.{BinaryOp}
use Rattle.c_tree.specs.Nodes.{type_of, has_default}
use Rattle.c_tree.specs.declared.tree.Variable.{Variable}
use Rattle.c_tree.specs.declared.tree.Expr.{Expr}
use Rattle.c_tree.specs.declared.tree.Target.{Target}
use Rattle.c_tree.specs.declared.tree.Action.{Action}
use Rattle.c_tree.specs.declared.tree.Action.TheVariants as action
use Rattle.c_tree.specs.declared.tree.Declared.{Declared}
use Rattle.c_tree.specs.declared.tree.ForFirst.{ForFirst}
use Rattle.c_tree.specs.declared.tree.ForFirst.TheVariants as first
use Rattle.c_tree.specs.declared.tree.Label.{Label}
use Rattle.c_tree.specs.declared.tree.Stmt.{Stmt}
use Rattle.c_tree.specs.declared.tree.Group.{Group}
use Rattle.c_tree.specs.declared.tree.BlockItem.{BlockItem}
use Rattle.c_tree.specs.declared.tree.BlockItem.TheFolds.{fold-Stmt, fold-BlockItem, fold-Group}
use Rattle.c_tree.specs.declared.tree.BlockItem.TheOpen.{StmtKind-F, BlockItem-F, Group-F, Stmt-F}
use Rattle.c_tree.specs.Layer.{StmtLayer, ItemLayer}
use Rattle.flow_graph.specs.declared.graph.Operand.{Operand}
use Rattle.flow_graph.specs.declared.graph.Operand.TheVariants.{Const, Object}
use Rattle.flow_graph.specs.declared.graph.OpKind.TheVariants as kind
use Rattle.flow_graph.specs.declared.graph.ArrayUse.{ArrayUse}
use Rattle.flow_graph.specs.declared.graph.Op.{Op}
use Rattle.flow_graph.specs.declared.graph.LeaveTo.TheVariants.{Break, Continue, Back}
use Rattle.flow_graph.specs.declared.graph.Item.{Item}
use Rattle.flow_graph.specs.declared.graph.Item.TheVariants as item
use Rattle.lowered_graphs.specs.declared.loops.Count.{Count}
use Rattle.lowered_graphs.specs.declared.positions.Position.{Position}
use Rattle.lowered_graphs.specs.declared.positions.Position.TheVariants.{Anywhere, LastOfGroup, Body, LastOfBody}
use Rattle.lowered_graphs.specs.Making.{Emit, ◌>>=◌, ◌>>◌, pure, nothing, give, inside, zero_operand, op_of, numbered, one, temporary, make_of, copy_into, store_into, plain, test_of, go, leave}
use Rattle.lowered_graphs.specs.Operators.{make_binary, make_conversion}
use Rattle.lowered_graphs.specs.Exprs.{Setting, home, result_home, array_use, lowered, full, calls, load, read_scalar}
use Rattle.lowered_graphs.specs.Counted.{count_head, turns}

-- ---- actions

abbrev pub calls_in : Setting → Option Expr → Bool
calls_in s None = false
calls_in s (Some e) = calls (lowered s e)

-- the operand of an index that stands before what calls or doesn't
abbrev pub index_of : Setting → Option Expr → Bool → Emit Operand
index_of s None later = pure zero_operand
index_of s (Some e) later = (lowered s e).emit later

abbrev pub store_to : Setting → Target → Operand → Operand → Emit (Unit {0})
store_to s to i a = if is_none to.index then copy_into (home s to.variable) a to.place else store_into (array_use s to.variable) a i to.place

abbrev pub load_from : Setting → Target → Operand → Bool → Emit Operand
load_from s to i later = if is_none to.index then read_scalar s to.variable to.place later else load s to.variable i to.place

abbrev pub right_side : Setting → Option Expr → Emit Operand
right_side s None = pure (Const 1)
right_side s (Some e) = full s e

-- the index, then the right side
abbrev pub assign : Setting → Target → Expr → Emit (Unit {0})
assign s to e = index_of s to.index (calls (lowered s e)) >>= (λ i. full s e >>= (λ a. store_to s to i a))

-- the operator, and the conversion of its result
abbrev pub finish_update : Setting → Target → Place → BinaryOp → Ty → Operand → Operand → Operand → Emit (Unit {0})
finish_update s to at op ty i x y = make_binary op ty x y at >>= (λ w. make_conversion (type_of s.program to.variable) ty w at >>= (λ v. store_to s to i v))

-- the index, the value read and its conversion, then the right side
abbrev pub update : Setting → Target → Place → BinaryOp → Ty → Option Expr → Emit (Unit {0})
update s to at op ty by = index_of s to.index (calls_in s by)
    >>= (λ i. load_from s to i (calls_in s by)
    >>= (λ w. make_conversion ty (type_of s.program to.variable) w at
    >>= (λ x. right_side s by
    >>= (λ y. finish_update s to at op ty i x y))))

abbrev pub act : Setting → Action → Emit (Unit {0})
act s (action.Value e) = full s e >> nothing
act s (action.Assign to e) = assign s to e
act s (action.Update to at op ty by) = update s to at op ty by

abbrev pub act_opt : Setting → Option Action → Emit (Unit {0})
act_opt s None = nothing
act_opt s (Some a) = act s a

-- ---- declarations

-- t counts through the elements, and each becomes zero
abbrev pub zero_each : ArrayUse → ℕ → Place → Emit (Unit {0})
zero_each array t at = numbered (op_of kind.Below None (Object t) (Const array.length) None at)
    >>= (λ test. inside (store_into array zero_operand (Object t) at)
    >>= (λ post. inside (one (op_of kind.Step (Some t) (Object t) zero_operand None at))
    >>= (λ step. numbered (go at)
    >>= (λ back. give (item.Loop [] test post.items step.items back (Some array.length))))))

abbrev pub zero_array : ArrayUse → Place → Emit (Unit {0})
zero_array array at = temporary >>= (λ t. copy_into t zero_operand at >> zero_each array t at)

-- a value of a list goes into the element k
abbrev pub fill_one : Setting → ArrayUse → ℕ → Expr → Place → Emit (Unit {0})
fill_one s array k e at = full s e >>= (λ a. store_into array a (Const k) at)

-- the values of a list go into the elements from the k-th on
abbrev pub fill : Setting → ArrayUse → ℕ → List Expr → Place → Emit (Unit {0})
fill s array k [] at = nothing
fill s array k (e ∷ es) at = fill_one s array k e at >> fill s array (k + 1) es at

abbrev pub declare_scalar : Setting → ℕ → List Expr → Place → Emit (Unit {0})
declare_scalar s x [] at = copy_into (home s x) zero_operand at
declare_scalar s x (e ∷ es) at = full s e >>= (λ a. copy_into (home s x) a at)

abbrev pub declare_array : Setting → ℕ → List Expr → Place → Emit (Unit {0})
declare_array s x es at = zero_array (array_use s x) at >> fill s (array_use s x) 0 es at

abbrev pub declare_one : Setting → Option Variable → Declared → Emit (Unit {0})
declare_one s None d = nothing
declare_one s (Some v) d = if is_none v.length then declare_scalar s d.variable d.values d.place else declare_array s d.variable d.values d.place

abbrev pub declare : Setting → List Declared → Emit (Unit {0})
declare s [] = nothing
declare s (d ∷ ds) = declare_one s (slice_get s.program.variables d.variable) d >> declare s ds

-- ---- statements

-- the function that is lowered, and whether it is `main`
pub record Within : Type 0 where
  pub setting : Setting
  pub function : ℕ
  pub is_main : Bool

-- What a statement is lowered to; whether it holds a `break` or a `continue` of its own loop, or a `return`; the variables that it assigns to and those
-- that it declares; and the functions that it calls.
pub record LoweredStmt : Type 0 where
  pub emit : Position → Emit (Unit {0})
  pub breaks : Bool
  pub continues : Bool
  pub returns : Bool
  pub assigned : List ℕ
  pub locals : List ℕ
  pub callees : List ℕ

pub record LoweredGroup : Type 0 where
  pub labels : List Label
  pub items : List LoweredStmt

-- one item after another; the last stands where it is said
abbrev pub each_item : Position → List LoweredStmt → Emit (Unit {0})
each_item last [] = nothing
each_item last (x ∷ []) = x.emit last
each_item last (x ∷ y ∷ rest) = x.emit Anywhere >> each_item last (y ∷ rest)

-- where the last item of a block stands
abbrev pub last_position : Position → Position
last_position Anywhere = Anywhere
last_position LastOfGroup = LastOfGroup
last_position Body = LastOfBody
last_position LastOfBody = Anywhere

-- ---- leaves and returns

-- a `break` that ends a group has no operation
abbrev pub break_at : Position → Place → Emit (Unit {0})
break_at LastOfGroup at = nothing
break_at _ at = leave Break (go at)

-- the last `return` of a body is no leave
abbrev pub return_op : Position → (ℕ → Op) → Emit (Unit {0})
return_op LastOfBody f = one f
return_op _ f = leave Back f

abbrev pub return_main : Within → Option Expr → Position → Place → Emit (Unit {0})
return_main w None last at = return_op last (plain kind.Finish zero_operand at)
return_main w (Some e) last at = full w.setting e >>= (λ a. return_op last (plain kind.Finish a at))

abbrev pub return_from : Within → Option Expr → Position → Place → Emit (Unit {0})
return_from w None last at = return_op last (plain kind.Ret zero_operand at)
return_from w (Some e) last at = full w.setting e >>= (λ a. copy_into (result_home w.setting w.function) a at >> return_op last (plain kind.Ret zero_operand at))

abbrev pub return_at : Within → Option Expr → Position → Place → Emit (Unit {0})
return_at w e last at = if w.is_main then return_main w e last at else return_from w e last at

-- ---- branches and loops

abbrev pub test : Setting → Expr → Place → Emit Op
test s e at = full s e >>= (λ a. numbered (test_of a at))

abbrev pub test_opt : Setting → Option Expr → Place → Emit Op
test_opt s None at = numbered (test_of (Const 1) at)
test_opt s (Some e) at = test s e at

-- an arm, and what an arm that isn't there gives
abbrev pub no_arm : Option LoweredStmt → Emit (Unit {0})
no_arm None = nothing
no_arm (Some x) = x.emit Anywhere

abbrev pub yes_arm : LoweredStmt → Option LoweredStmt → Place → Emit (Unit {0})
yes_arm x None at = x.emit Anywhere
yes_arm x (Some y) at = x.emit Anywhere >> one (go at)

abbrev pub if_at : Setting → Expr → LoweredStmt → Option LoweredStmt → Place → Emit (Unit {0})
if_at s c x y at = test s c at >>= (λ t. inside (yes_arm x y at) >>= (λ a. inside (no_arm y) >>= (λ b. give (item.Branch t a.items b.items))))

-- the way back, and the loop
abbrev pub close_loop : List Item → Op → List Item → List Item → Option ℕ → Place → Emit (Unit {0})
close_loop pre op post step count at = numbered (go at) >>= (λ back. give (item.Loop pre op post step back count))

-- the test, the body, the step, and the way back
abbrev pub loop_at : Emit Op → Emit (Unit {0}) → Emit (Unit {0}) → Option ℕ → Place → Emit (Unit {0})
loop_at pre post step count at = inside pre
    >>= (λ t. inside post
    >>= (λ body. inside step
    >>= (λ on. close_loop t.items t.value body.items on.items count at)))

abbrev pub while_at : Setting → Expr → LoweredStmt → Place → Emit (Unit {0})
while_at s c body at = loop_at (test s c at) (body.emit Anywhere) nothing None at

-- where a `do` has a `continue` of its own, its test is its step: it goes on, or breaks
abbrev pub do_step : Setting → Expr → Place → Emit (Unit {0})
do_step s c at = test s c at >>= (λ t. inside (one (go at)) >>= (λ a. inside (leave Break (go at)) >>= (λ b. give (item.Branch t a.items b.items))))

abbrev pub do_by_step : Setting → LoweredStmt → Expr → Place → Emit (Unit {0})
do_by_step s body c at = loop_at (numbered (test_of (Const 1) at)) (body.emit Anywhere) (do_step s c at) None at

abbrev pub do_by_test : Setting → LoweredStmt → Expr → Place → Emit (Unit {0})
do_by_test s body c at = loop_at (body.emit Anywhere >> test s c at) nothing nothing None at

abbrev pub do_at : Setting → LoweredStmt → Expr → Place → Emit (Unit {0})
do_at s body c at = if body.continues then do_by_step s body c at else do_by_test s body c at

-- ---- loops of a known number of turns

abbrev pub holds : ℕ → List ℕ → Bool
holds x [] = false
holds x (y ∷ ys) = (x == y) || holds x ys

abbrev pub is_counted : LoweredStmt → ℕ → Bool
is_counted body x = not (body.breaks || (body.continues || (body.returns || holds x body.assigned)))

abbrev pub if_counted : LoweredStmt → Option Count → Option Count
if_counted body None = None
if_counted body (Some c) = if is_counted body c.variable then Some c else None

abbrev pub count_of : Setting → Option ForFirst → Option Expr → Option Action → LoweredStmt → Option Count
count_of s f c step body = if_counted body (count_head s.program f c step)

abbrev pub counted_turns : Setting → Count → LoweredStmt → Place → Emit (Unit {0})
counted_turns s c body at = loop_at (numbered (op_of kind.Below None (Object (home s c.variable)) (Const c.to) None at)) (body.emit Anywhere)
    (one (op_of kind.Step (Some (home s c.variable)) (Object (home s c.variable)) zero_operand None at)) (Some (turns c)) at

abbrev pub counted_loop : Setting → Count → LoweredStmt → Place → Emit (Unit {0})
counted_loop s c body at = copy_into (home s c.variable) (Const c.from) c.place >> counted_turns s c body at

abbrev pub first_of : Setting → Option ForFirst → Emit (Unit {0})
first_of s None = nothing
first_of s (Some (first.Declare ds)) = declare s ds
first_of s (Some (first.Act a)) = act s a

abbrev pub for_loop : Setting → Option Expr → Option Action → LoweredStmt → Place → Emit (Unit {0})
for_loop s c step body at = loop_at (test_opt s c at) (body.emit Anywhere) (act_opt s step) None at

abbrev pub for_by : Setting → Option ForFirst → Option Expr → Option Action → LoweredStmt → Place → Option Count → Emit (Unit {0})
for_by s f c step body at None = first_of s f >> for_loop s c step body at
for_by s f c step body at (Some count) = counted_loop s count body at

abbrev pub for_at : Setting → Option ForFirst → Option Expr → Option Action → LoweredStmt → Place → Emit (Unit {0})
for_at s f c step body at = for_by s f c step body at (count_of s f c step body)

-- ---- switch

abbrev pub label_word : Option ℕ → ℕ
label_word None = 0
label_word (Some w) = w

abbrev pub equals : Operand → Label → Emit Operand
equals v l = make_of kind.Eq v (Const (label_word l.value)) l.place

-- whether one more label has the word
abbrev pub one_more_label : Operand → Operand → Label → Emit Operand
one_more_label v found l = equals v l >>= (λ t. make_of kind.BitOr found t l.place)

-- whether one of the labels has the word
abbrev pub more_labels : Operand → Operand → List Label → Emit Operand
more_labels v found [] = pure found
more_labels v found (l ∷ ls) = one_more_label v found l >>= (λ found_too. more_labels v found_too ls)

abbrev pub labels : Operand → List Label → Emit Operand
labels v [] = pure zero_operand
labels v (l ∷ ls) = equals v l >>= (λ t. more_labels v t ls)

abbrev pub group_items : LoweredGroup → Emit (Unit {0})
group_items g = each_item LastOfGroup g.items

-- the group with `default`, if there is one
abbrev pub default_items : List LoweredGroup → Emit (Unit {0})
default_items [] = nothing
default_items (g ∷ gs) = if has_default g.labels then group_items g else default_items gs

abbrev pub group_branch : Operand → LoweredGroup → Emit (Unit {0}) → Place → Emit (Unit {0})
group_branch v g others at = labels v g.labels
    >>= (λ a. numbered (test_of a at)
    >>= (λ t. inside (group_items g >> one (go at))
    >>= (λ x. inside others
    >>= (λ y. give (item.Branch t x.items y.items)))))

-- the groups but that with `default`, in order, and then it
abbrev pub groups_from : Operand → List LoweredGroup → Emit (Unit {0}) → Place → Emit (Unit {0})
groups_from v [] others at = others
groups_from v (g ∷ gs) others at = if has_default g.labels then groups_from v gs others at else group_branch v g (groups_from v gs others at) at

abbrev pub all_groups : Operand → List LoweredGroup → Place → Emit (Unit {0})
all_groups v gs at = groups_from v gs (default_items gs) at

abbrev pub give_switch : List Item → Emit (Unit {0})
give_switch [] = nothing
give_switch (x ∷ xs) = give (item.Switch (x ∷ xs))

abbrev pub switch_at : Setting → Expr → List LoweredGroup → Place → Emit (Unit {0})
switch_at s e gs at = full s e
    >>= (λ a. make_of kind.Copy a zero_operand at
    >>= (λ v. inside (all_groups v gs at)
    >>= (λ x. give_switch x.items)))

-- ---- a level of a statement

abbrev pub KindOf : Type 0
KindOf = Place → LoweredStmt

abbrev pub emit_by : Within → StmtKind-F LoweredStmt KindOf LoweredGroup LoweredStmt → Place → Position → Emit (Unit {0})
emit_by w (StmtKind-F.Block items) at last = each_item (last_position last) items
emit_by w StmtKind-F.Empty at last = nothing
emit_by w (StmtKind-F.«StmtKind::Act» a) at last = act w.setting a
emit_by w StmtKind-F.Break at last = break_at last at
emit_by w StmtKind-F.Continue at last = leave Continue (go at)
emit_by w (StmtKind-F.Return e) at last = return_at w e last at
emit_by w (StmtKind-F.If c x y) at last = if_at w.setting c x y at
emit_by w (StmtKind-F.While c body) at last = while_at w.setting c body at
emit_by w (StmtKind-F.Do body c) at last = do_at w.setting body c at
emit_by w (StmtKind-F.For f c step body) at last = for_at w.setting f c step body at
emit_by w (StmtKind-F.Switch e groups) at last = switch_at w.setting e groups at

-- ---- what a statement holds

abbrev pub any_of : (LoweredStmt → Bool) → List LoweredStmt → Bool
any_of f [] = false
any_of f (x ∷ xs) = f x || any_of f xs

abbrev pub all_of : (LoweredStmt → List ℕ) → List LoweredStmt → List ℕ
all_of f [] = []
all_of f (x ∷ xs) = f x ++ all_of f xs

abbrev pub any_in : (LoweredStmt → Bool) → Option LoweredStmt → Bool
any_in f None = false
any_in f (Some x) = f x

abbrev pub all_in : (LoweredStmt → List ℕ) → Option LoweredStmt → List ℕ
all_in f None = []
all_in f (Some x) = f x

abbrev pub any_of_groups : (LoweredStmt → Bool) → List LoweredGroup → Bool
any_of_groups f [] = false
any_of_groups f (g ∷ gs) = any_of f g.items || any_of_groups f gs

abbrev pub all_of_groups : (LoweredStmt → List ℕ) → List LoweredGroup → List ℕ
all_of_groups f [] = []
all_of_groups f (g ∷ gs) = all_of f g.items ++ all_of_groups f gs

-- a `break` of the statement's own loop or switch
abbrev pub breaks_by : StmtKind-F LoweredStmt KindOf LoweredGroup LoweredStmt → Bool
breaks_by StmtKind-F.Break = true
breaks_by (StmtKind-F.Block items) = any_of (λ x. x.breaks) items
breaks_by (StmtKind-F.If c x y) = x.breaks || any_in (λ z. z.breaks) y
breaks_by _ = false

-- a `continue` of the statement's own loop
abbrev pub continues_by : StmtKind-F LoweredStmt KindOf LoweredGroup LoweredStmt → Bool
continues_by StmtKind-F.Continue = true
continues_by (StmtKind-F.Block items) = any_of (λ x. x.continues) items
continues_by (StmtKind-F.If c x y) = x.continues || any_in (λ z. z.continues) y
continues_by (StmtKind-F.Switch e groups) = any_of_groups (λ x. x.continues) groups
continues_by _ = false

abbrev pub returns_by : StmtKind-F LoweredStmt KindOf LoweredGroup LoweredStmt → Bool
returns_by (StmtKind-F.Return e) = true
returns_by (StmtKind-F.Block items) = any_of (λ x. x.returns) items
returns_by (StmtKind-F.If c x y) = x.returns || any_in (λ z. z.returns) y
returns_by (StmtKind-F.While c body) = body.returns
returns_by (StmtKind-F.Do body c) = body.returns
returns_by (StmtKind-F.For f c step body) = body.returns
returns_by (StmtKind-F.Switch e groups) = any_of_groups (λ x. x.returns) groups
returns_by _ = false

abbrev pub action_assigned : Action → List ℕ
action_assigned (action.Value e) = []
action_assigned (action.Assign to e) = to.variable ∷ []
action_assigned (action.Update to at op ty by) = to.variable ∷ []

abbrev pub opt_assigned : Option Action → List ℕ
opt_assigned None = []
opt_assigned (Some a) = action_assigned a

abbrev pub first_assigned : Option ForFirst → List ℕ
first_assigned (Some (first.Act a)) = action_assigned a
first_assigned _ = []

abbrev pub assigned_by : StmtKind-F LoweredStmt KindOf LoweredGroup LoweredStmt → List ℕ
assigned_by (StmtKind-F.Block items) = all_of (λ x. x.assigned) items
assigned_by (StmtKind-F.«StmtKind::Act» a) = action_assigned a
assigned_by (StmtKind-F.If c x y) = x.assigned ++ all_in (λ z. z.assigned) y
assigned_by (StmtKind-F.While c body) = body.assigned
assigned_by (StmtKind-F.Do body c) = body.assigned
assigned_by (StmtKind-F.For f c step body) = first_assigned f ++ (opt_assigned step ++ body.assigned)
assigned_by (StmtKind-F.Switch e groups) = all_of_groups (λ x. x.assigned) groups
assigned_by _ = []

abbrev pub declared_locals : List Declared → List ℕ
declared_locals [] = []
declared_locals (d ∷ ds) = d.variable ∷ declared_locals ds

abbrev pub first_locals : Option ForFirst → List ℕ
first_locals (Some (first.Declare ds)) = declared_locals ds
first_locals _ = []

-- in the order of the text
abbrev pub locals_by : StmtKind-F LoweredStmt KindOf LoweredGroup LoweredStmt → List ℕ
locals_by (StmtKind-F.Block items) = all_of (λ x. x.locals) items
locals_by (StmtKind-F.If c x y) = x.locals ++ all_in (λ z. z.locals) y
locals_by (StmtKind-F.While c body) = body.locals
locals_by (StmtKind-F.Do body c) = body.locals
locals_by (StmtKind-F.For f c step body) = first_locals f ++ body.locals
locals_by (StmtKind-F.Switch e groups) = all_of_groups (λ x. x.locals) groups
locals_by _ = []

abbrev pub expr_callees : Setting → Expr → List ℕ
expr_callees s e = (lowered s e).callees

abbrev pub opt_callees : Setting → Option Expr → List ℕ
opt_callees s None = []
opt_callees s (Some e) = expr_callees s e

abbrev pub exprs_callees : Setting → List Expr → List ℕ
exprs_callees s [] = []
exprs_callees s (e ∷ es) = expr_callees s e ++ exprs_callees s es

abbrev pub action_callees : Setting → Action → List ℕ
action_callees s (action.Value e) = expr_callees s e
action_callees s (action.Assign to e) = opt_callees s to.index ++ expr_callees s e
action_callees s (action.Update to at op ty by) = opt_callees s to.index ++ opt_callees s by

abbrev pub opt_action_callees : Setting → Option Action → List ℕ
opt_action_callees s None = []
opt_action_callees s (Some a) = action_callees s a

abbrev pub declared_callees : Setting → List Declared → List ℕ
declared_callees s [] = []
declared_callees s (d ∷ ds) = exprs_callees s d.values ++ declared_callees s ds

abbrev pub first_callees : Setting → Option ForFirst → List ℕ
first_callees s None = []
first_callees s (Some (first.Declare ds)) = declared_callees s ds
first_callees s (Some (first.Act a)) = action_callees s a

abbrev pub callees_by : Setting → StmtKind-F LoweredStmt KindOf LoweredGroup LoweredStmt → List ℕ
callees_by s (StmtKind-F.Block items) = all_of (λ x. x.callees) items
callees_by s StmtKind-F.Empty = []
callees_by s (StmtKind-F.«StmtKind::Act» a) = action_callees s a
callees_by s StmtKind-F.Break = []
callees_by s StmtKind-F.Continue = []
callees_by s (StmtKind-F.Return e) = opt_callees s e
callees_by s (StmtKind-F.If c x y) = expr_callees s c ++ (x.callees ++ all_in (λ z. z.callees) y)
callees_by s (StmtKind-F.While c body) = expr_callees s c ++ body.callees
callees_by s (StmtKind-F.Do body c) = body.callees ++ expr_callees s c
callees_by s (StmtKind-F.For f c step body) = first_callees s f ++ (opt_callees s c ++ (opt_action_callees s step ++ body.callees))
callees_by s (StmtKind-F.Switch e groups) = expr_callees s e ++ all_of_groups (λ x. x.callees) groups

-- ---- statements

abbrev pub lowered_by : Within → StmtKind-F LoweredStmt KindOf LoweredGroup LoweredStmt → KindOf
lowered_by w k at = record {
  emit = emit_by w k at;
  breaks = breaks_by k;
  continues = continues_by k;
  returns = returns_by k;
  assigned = assigned_by k;
  locals = locals_by k;
  callees = callees_by w.setting k;
}

abbrev pub declares : Within → List Declared → LoweredStmt
declares w ds = record {
  emit = λ last. declare w.setting ds;
  breaks = false;
  continues = false;
  returns = false;
  assigned = [];
  locals = declared_locals ds;
  callees = declared_callees w.setting ds;
}

abbrev pub item_by : Within → BlockItem-F LoweredStmt KindOf LoweredGroup LoweredStmt → LoweredStmt
item_by w (BlockItem-F.Declare ds) = declares w ds
item_by w (BlockItem-F.«BlockItem::Act» s) = s

abbrev pub group_by : Group-F LoweredStmt KindOf LoweredGroup LoweredStmt → LoweredGroup
group_by g = record { labels = g.labels; items = g.items }

abbrev pub own_stmt : Stmt-F LoweredStmt KindOf LoweredGroup LoweredStmt → LoweredStmt
own_stmt s = s.kind s.place

unfoldable pub lowered_stmt : Within → Stmt → LoweredStmt
lowered_stmt w s = fold-Stmt LoweredStmt KindOf LoweredGroup LoweredStmt (item_by w) (lowered_by w) group_by own_stmt s

unfoldable pub lowered_item : Within → BlockItem → LoweredStmt
lowered_item w b = fold-BlockItem LoweredStmt KindOf LoweredGroup LoweredStmt (item_by w) (lowered_by w) group_by own_stmt b

unfoldable pub lowered_group : Within → Group → LoweredGroup
lowered_group w g = fold-Group LoweredStmt KindOf LoweredGroup LoweredStmt (item_by w) (lowered_by w) group_by own_stmt g

-- ---- what the parts of a level are lowered to

abbrev pub stmt_parts : Within → StmtLayer → StmtKind-F LoweredStmt KindOf LoweredGroup LoweredStmt
stmt_parts w (StmtKind-F.Block items) = StmtKind-F.Block (map (lowered_item w) items)
stmt_parts w StmtKind-F.Empty = StmtKind-F.Empty
stmt_parts w (StmtKind-F.«StmtKind::Act» a) = StmtKind-F.«StmtKind::Act» a
stmt_parts w StmtKind-F.Break = StmtKind-F.Break
stmt_parts w StmtKind-F.Continue = StmtKind-F.Continue
stmt_parts w (StmtKind-F.Return e) = StmtKind-F.Return e
stmt_parts w (StmtKind-F.If c x y) = StmtKind-F.If c (lowered_stmt w x) (option_map (lowered_stmt w) y)
stmt_parts w (StmtKind-F.While c body) = StmtKind-F.While c (lowered_stmt w body)
stmt_parts w (StmtKind-F.Do body c) = StmtKind-F.Do (lowered_stmt w body) c
stmt_parts w (StmtKind-F.For f c step body) = StmtKind-F.For f c step (lowered_stmt w body)
stmt_parts w (StmtKind-F.Switch e groups) = StmtKind-F.Switch e (map (lowered_group w) groups)

abbrev pub item_parts : Within → ItemLayer → BlockItem-F LoweredStmt KindOf LoweredGroup LoweredStmt
item_parts w (BlockItem-F.Declare ds) = BlockItem-F.Declare ds
item_parts w (BlockItem-F.«BlockItem::Act» s) = BlockItem-F.«BlockItem::Act» (lowered_stmt w s)

abbrev pub group_parts : Within → Group → LoweredGroup
group_parts w g = record { labels = g.labels; items = map (lowered_item w) g.items }
