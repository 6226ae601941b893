-- What is sought in a statement, by its parts.
use Rattle.std.proofs.Common.{◌≡◌, ℕ, refl, sym, ap, ◌∙◌, Bool, true, false, List, [], ◌∷◌, ◌++◌}
use Rattle.std.specs.Prelude.{◌||◌, ◌==◌, Option, Some, None, map}
use Rattle.base_io.specs.declared.place.Place.{Place}
use Rattle.c_tree.specs.declared.tree.Expr.{Expr}
use Rattle.c_tree.specs.declared.tree.Group.{Group}
use Rattle.c_tree.specs.declared.tree.Stmt.{Stmt}
use Rattle.c_tree.specs.declared.tree.BlockItem.{BlockItem, out-BlockItem}
use Rattle.c_tree.specs.declared.tree.BlockItem.TheOpen.{StmtKind-F, BlockItem-F}
use Rattle.c_tree.specs.declared.tree.Declared.{Declared}
use Rattle.c_tree.specs.declared.tree.Action.{Action}
use Rattle.c_tree.specs.declared.tree.Action.TheVariants as action
use Rattle.c_tree.specs.declared.tree.ForFirst.{ForFirst}
use Rattle.c_tree.specs.declared.tree.ForFirst.TheVariants as first
use Rattle.c_tree.specs.declared.tree.StmtKind.{out-StmtKind}
use Rattle.c_tree.specs.Layer.{StmtLayer, ItemLayer}
use Rattle.lowered_graphs.specs.Exprs.{Setting}
use Rattle.lowered_graphs.specs.Stmts as stmts
use Rattle.lowered_graphs.specs.Stmts.{Within, LoweredStmt, LoweredGroup, holds, lowered_stmt, lowered_item, lowered_group, lowered_by, stmt_parts}
use Rattle.lowered_graphs.proofs.StmtLevels.{stmt_level, item_level, group_level}
use Rattle.c_lower.specs.declared.holding.Sought.{Sought}
use Rattle.c_lower.specs.declared.holding.Sought.TheVariants as sought
use Rattle.c_lower.specs.Holding.{has, is_assigned, expr_has, opt_has, exprs_have, action_has, opt_action_has, declared_have, first_has, stmt_has, items_have, groups_have, layer_has, layer_item}

or_assoc : (a b c : Bool) → ((a || b) || c) ≡ (a || (b || c))
or_assoc true b c = refl
or_assoc false b c = refl

pub or_then : (a b : Bool) → a ≡ true → (a || b) ≡ true
or_then true b h = refl
or_then false b h = cc

pub or_else : (a b : Bool) → a ≡ false → (a || b) ≡ b
or_else true b h = cc
or_else false b h = refl

pub or_false : (a : Bool) → (a || false) ≡ a
or_false true = refl
or_false false = refl

pub holds_append : (x : ℕ) (xs ys : List ℕ) → holds x (xs ++ ys) ≡ (holds x xs || holds x ys)
holds_append x [] ys = refl
holds_append x (z ∷ zs) ys = ap (λ b. (x == z) || b) (holds_append x zs ys) ∙ sym (or_assoc (x == z) (holds x zs) (holds x ys))

or_both : {a b c d : Bool} → a ≡ c → b ≡ d → (a || b) ≡ (c || d)
or_both {a} {b} {c} {d} h i = ap (λ x. x || b) h ∙ ap (λ x. c || x) i

-- ---- lists

any_all : (v : ℕ) (f : LoweredStmt → List ℕ) (xs : List LoweredStmt) → holds v (stmts.all_of f xs) ≡ stmts.any_of (λ x. holds v (f x)) xs
any_all v f [] = refl
any_all v f (x ∷ xs) = holds_append v (f x) (stmts.all_of f xs) ∙ ap (λ b. holds v (f x) || b) (any_all v f xs)

any_all_groups : (v : ℕ) (f : LoweredStmt → List ℕ) (gs : List LoweredGroup) → holds v (stmts.all_of_groups f gs) ≡ stmts.any_of_groups (λ x. holds v (f x)) gs
any_all_groups v f [] = refl
any_all_groups v f (g ∷ gs) = holds_append v (stmts.all_of f g.items) (stmts.all_of_groups f gs) ∙ or_both (any_all v f g.items) (any_all_groups v f gs)

items_any : (w : Within) (k : Sought) (bs : List BlockItem) → stmts.any_of (λ x. has k x) (map (lowered_item w) bs) ≡ items_have w k bs
items_any w k [] = refl
items_any w k (b ∷ bs) = ap (λ c. has k (lowered_item w b) || c) (items_any w k bs)

group_any : (w : Within) (k : Sought) (g : Group) → stmts.any_of (λ x. has k x) (lowered_group w g).items ≡ items_have w k g.items
group_any w k g = ap (λ x. stmts.any_of (λ z. has k z) x.items) (sym (group_level w g)) ∙ items_any w k g.items

groups_any : (w : Within) (k : Sought) (gs : List Group) → stmts.any_of_groups (λ x. has k x) (map (lowered_group w) gs) ≡ groups_have w k gs
groups_any w k [] = refl
groups_any w k (g ∷ gs) = or_both (group_any w k g) (groups_any w k gs)

-- ---- what isn't sought in expressions

opt_quiet : (s : Setting) (k : Sought) (e : Option Expr) → ((x : Expr) → expr_has s k x ≡ false) → opt_has s k e ≡ false
opt_quiet s k None h = refl
opt_quiet s k (Some e) h = h e

exprs_quiet : (s : Setting) (k : Sought) (es : List Expr) → ((x : Expr) → expr_has s k x ≡ false) → exprs_have s k es ≡ false
exprs_quiet s k [] h = refl
exprs_quiet s k (e ∷ es) h = or_both (h e) (exprs_quiet s k es h)

declared_quiet : (s : Setting) (k : Sought) (ds : List Declared) → ((x : Expr) → expr_has s k x ≡ false) → declared_have s k ds ≡ false
declared_quiet s k [] h = refl
declared_quiet s k (d ∷ ds) h = or_both (exprs_quiet s k d.values h) (declared_quiet s k ds h)

-- whether an action assigns to the variable that is sought
abbrev action_sets : Sought → Action → Bool
action_sets k (action.Value e) = false
action_sets k (action.Assign to e) = is_assigned k to.variable || false
action_sets k (action.Update to at op ty by) = is_assigned k to.variable || false

action_quiet : (s : Setting) (k : Sought) (a : Action) → ((x : Expr) → expr_has s k x ≡ false) → action_has s k a ≡ action_sets k a
action_quiet s k (action.Value e) h = h e
action_quiet s k (action.Assign to e) h = ap (λ b. is_assigned k to.variable || b) (or_both (opt_quiet s k to.index h) (h e))
action_quiet s k (action.Update to at op ty by) h = ap (λ b. is_assigned k to.variable || b) (or_both (opt_quiet s k to.index h) (opt_quiet s k by h))

-- where no assignment is sought either
unset : (k : Sought) (a : Action) → ((x : ℕ) → is_assigned k x ≡ false) → action_sets k a ≡ false
unset k (action.Value e) h = refl
unset k (action.Assign to e) h = ap (λ b. b || false) (h to.variable)
unset k (action.Update to at op ty by) h = ap (λ b. b || false) (h to.variable)

action_none : (s : Setting) (k : Sought) (a : Action) → ((x : Expr) → expr_has s k x ≡ false) → ((x : ℕ) → is_assigned k x ≡ false) → action_has s k a ≡ false
action_none s k a h q = action_quiet s k a h ∙ unset k a q

opt_action_none : (s : Setting) (k : Sought) (a : Option Action) → ((x : Expr) → expr_has s k x ≡ false) → ((x : ℕ) → is_assigned k x ≡ false) → opt_action_has s k a ≡ false
opt_action_none s k None h q = refl
opt_action_none s k (Some a) h q = action_none s k a h q

first_none : (s : Setting) (k : Sought) (f : Option ForFirst) → ((x : Expr) → expr_has s k x ≡ false) → ((x : ℕ) → is_assigned k x ≡ false) → first_has s k f ≡ false
first_none s k None h q = refl
first_none s k (Some (first.Declare ds)) h q = declared_quiet s k ds h
first_none s k (Some (first.Act a)) h q = action_none s k a h q

-- ---- assignments

action_assigns : (s : Setting) (v : ℕ) (a : Action) → holds v (stmts.action_assigned a) ≡ action_has s (sought.Assigned v) a
action_assigns s v (action.Value e) = refl
action_assigns s v (action.Assign to e) = sym (action_quiet s (sought.Assigned v) (action.Assign to e) (λ x. refl))
action_assigns s v (action.Update to at op ty by) = sym (action_quiet s (sought.Assigned v) (action.Update to at op ty by) (λ x. refl))

opt_assigns : (s : Setting) (v : ℕ) (a : Option Action) → holds v (stmts.opt_assigned a) ≡ opt_action_has s (sought.Assigned v) a
opt_assigns s v None = refl
opt_assigns s v (Some a) = action_assigns s v a

first_assigns : (s : Setting) (v : ℕ) (f : Option ForFirst) → holds v (stmts.first_assigned f) ≡ first_has s (sought.Assigned v) f
first_assigns s v None = refl
first_assigns s v (Some (first.Declare ds)) = sym (declared_quiet s (sought.Assigned v) ds (λ x. refl))
first_assigns s v (Some (first.Act a)) = action_assigns s v a

-- ---- calls

opt_calls : (s : Setting) (f : ℕ) (e : Option Expr) → holds f (stmts.opt_callees s e) ≡ opt_has s (sought.Call f) e
opt_calls s f None = refl
opt_calls s f (Some e) = refl

exprs_call : (s : Setting) (f : ℕ) (es : List Expr) → holds f (stmts.exprs_callees s es) ≡ exprs_have s (sought.Call f) es
exprs_call s f [] = refl
exprs_call s f (e ∷ es) = holds_append f (stmts.expr_callees s e) (stmts.exprs_callees s es) ∙ ap (λ b. holds f (stmts.expr_callees s e) || b) (exprs_call s f es)

declared_call : (s : Setting) (f : ℕ) (ds : List Declared) → holds f (stmts.declared_callees s ds) ≡ declared_have s (sought.Call f) ds
declared_call s f [] = refl
declared_call s f (d ∷ ds) = holds_append f (stmts.exprs_callees s d.values) (stmts.declared_callees s ds) ∙ or_both (exprs_call s f d.values) (declared_call s f ds)

action_calls : (s : Setting) (f : ℕ) (a : Action) → holds f (stmts.action_callees s a) ≡ action_has s (sought.Call f) a
action_calls s f (action.Value e) = refl
action_calls s f (action.Assign to e) = holds_append f (stmts.opt_callees s to.index) (stmts.expr_callees s e) ∙ ap (λ b. b || holds f (stmts.expr_callees s e)) (opt_calls s f to.index)
action_calls s f (action.Update to at op ty by) = holds_append f (stmts.opt_callees s to.index) (stmts.opt_callees s by) ∙ or_both (opt_calls s f to.index) (opt_calls s f by)

opt_action_calls : (s : Setting) (f : ℕ) (a : Option Action) → holds f (stmts.opt_action_callees s a) ≡ opt_action_has s (sought.Call f) a
opt_action_calls s f None = refl
opt_action_calls s f (Some a) = action_calls s f a

first_calls : (s : Setting) (f : ℕ) (x : Option ForFirst) → holds f (stmts.first_callees s x) ≡ first_has s (sought.Call f) x
first_calls s f None = refl
first_calls s f (Some (first.Declare ds)) = declared_call s f ds
first_calls s f (Some (first.Act a)) = action_calls s f a

-- ---- a level of a statement

has_break : (w : Within) (x : StmtLayer) (at : Place) → has sought.Break (lowered_by w (stmt_parts w x) at) ≡ layer_has w sought.Break x
has_break w (StmtKind-F.Block items) at = items_any w sought.Break items
has_break w StmtKind-F.Empty at = refl
has_break w (StmtKind-F.«StmtKind::Act» a) at = sym (action_none w.setting sought.Break a (λ x. refl) (λ x. refl))
has_break w StmtKind-F.Break at = refl
has_break w StmtKind-F.Continue at = refl
has_break w (StmtKind-F.Return e) at = sym (opt_quiet w.setting sought.Break e (λ x. refl))
has_break w (StmtKind-F.If c x None) at = refl
has_break w (StmtKind-F.If c x (Some y)) at = refl
has_break w (StmtKind-F.While c body) at = refl
has_break w (StmtKind-F.Do body c) at = refl
has_break w (StmtKind-F.For f c step body) at = refl
has_break w (StmtKind-F.Switch e groups) at = refl

has_continue : (w : Within) (x : StmtLayer) (at : Place) → has sought.Continue (lowered_by w (stmt_parts w x) at) ≡ layer_has w sought.Continue x
has_continue w (StmtKind-F.Block items) at = items_any w sought.Continue items
has_continue w StmtKind-F.Empty at = refl
has_continue w (StmtKind-F.«StmtKind::Act» a) at = sym (action_none w.setting sought.Continue a (λ x. refl) (λ x. refl))
has_continue w StmtKind-F.Break at = refl
has_continue w StmtKind-F.Continue at = refl
has_continue w (StmtKind-F.Return e) at = sym (opt_quiet w.setting sought.Continue e (λ x. refl))
has_continue w (StmtKind-F.If c x None) at = refl
has_continue w (StmtKind-F.If c x (Some y)) at = refl
has_continue w (StmtKind-F.While c body) at = refl
has_continue w (StmtKind-F.Do body c) at = refl
has_continue w (StmtKind-F.For f c step body) at = refl
has_continue w (StmtKind-F.Switch e groups) at = groups_any w sought.Continue groups

has_return : (w : Within) (x : StmtLayer) (at : Place) → has sought.Return (lowered_by w (stmt_parts w x) at) ≡ layer_has w sought.Return x
has_return w (StmtKind-F.Block items) at = items_any w sought.Return items
has_return w StmtKind-F.Empty at = refl
has_return w (StmtKind-F.«StmtKind::Act» a) at = sym (action_none w.setting sought.Return a (λ x. refl) (λ x. refl))
has_return w StmtKind-F.Break at = refl
has_return w StmtKind-F.Continue at = refl
has_return w (StmtKind-F.Return e) at = refl
has_return w (StmtKind-F.If c x None) at = refl
has_return w (StmtKind-F.If c x (Some y)) at = refl
has_return w (StmtKind-F.While c body) at = refl
has_return w (StmtKind-F.Do body c) at = sym (or_false (stmt_has w sought.Return body))
has_return w (StmtKind-F.For f c step body) at = sym (or_both (first_none w.setting sought.Return f (λ x. refl) (λ x. refl))
    (or_both (opt_quiet w.setting sought.Return c (λ x. refl)) (ap (λ b. b || stmt_has w sought.Return body) (opt_action_none w.setting sought.Return step (λ x. refl) (λ x. refl)))))
has_return w (StmtKind-F.Switch e groups) at = groups_any w sought.Return groups

has_assigned : (w : Within) (v : ℕ) (x : StmtLayer) (at : Place) → has (sought.Assigned v) (lowered_by w (stmt_parts w x) at) ≡ layer_has w (sought.Assigned v) x
has_assigned w v (StmtKind-F.Block items) at = any_all v (λ x. x.assigned) (map (lowered_item w) items) ∙ items_any w (sought.Assigned v) items
has_assigned w v StmtKind-F.Empty at = refl
has_assigned w v (StmtKind-F.«StmtKind::Act» a) at = action_assigns w.setting v a
has_assigned w v StmtKind-F.Break at = refl
has_assigned w v StmtKind-F.Continue at = refl
has_assigned w v (StmtKind-F.Return e) at = sym (opt_quiet w.setting (sought.Assigned v) e (λ x. refl))
has_assigned w v (StmtKind-F.If c x None) at = holds_append v (lowered_stmt w x).assigned []
has_assigned w v (StmtKind-F.If c x (Some y)) at = holds_append v (lowered_stmt w x).assigned (lowered_stmt w y).assigned
has_assigned w v (StmtKind-F.While c body) at = refl
has_assigned w v (StmtKind-F.Do body c) at = sym (or_false (stmt_has w (sought.Assigned v) body))
has_assigned w v (StmtKind-F.For f c step body) at = holds_append v (stmts.first_assigned f) (stmts.opt_assigned step ++ (lowered_stmt w body).assigned)
    ∙ or_both (first_assigns w.setting v f) (holds_append v (stmts.opt_assigned step) (lowered_stmt w body).assigned
    ∙ (ap (λ b. b || stmt_has w (sought.Assigned v) body) (opt_assigns w.setting v step)
    ∙ sym (ap (λ b. b || (opt_action_has w.setting (sought.Assigned v) step || stmt_has w (sought.Assigned v) body)) (opt_quiet w.setting (sought.Assigned v) c (λ x. refl)))))
has_assigned w v (StmtKind-F.Switch e groups) at = any_all_groups v (λ x. x.assigned) (map (lowered_group w) groups) ∙ groups_any w (sought.Assigned v) groups

has_call : (w : Within) (v : ℕ) (x : StmtLayer) (at : Place) → has (sought.Call v) (lowered_by w (stmt_parts w x) at) ≡ layer_has w (sought.Call v) x
has_call w v (StmtKind-F.Block items) at = any_all v (λ x. x.callees) (map (lowered_item w) items) ∙ items_any w (sought.Call v) items
has_call w v StmtKind-F.Empty at = refl
has_call w v (StmtKind-F.«StmtKind::Act» a) at = action_calls w.setting v a
has_call w v StmtKind-F.Break at = refl
has_call w v StmtKind-F.Continue at = refl
has_call w v (StmtKind-F.Return e) at = opt_calls w.setting v e
has_call w v (StmtKind-F.If c x None) at = holds_append v (stmts.expr_callees w.setting c) ((lowered_stmt w x).callees ++ [])
    ∙ ap (λ b. expr_has w.setting (sought.Call v) c || b) (holds_append v (lowered_stmt w x).callees [])
has_call w v (StmtKind-F.If c x (Some y)) at = holds_append v (stmts.expr_callees w.setting c) ((lowered_stmt w x).callees ++ (lowered_stmt w y).callees)
    ∙ ap (λ b. expr_has w.setting (sought.Call v) c || b) (holds_append v (lowered_stmt w x).callees (lowered_stmt w y).callees)
has_call w v (StmtKind-F.While c body) at = holds_append v (stmts.expr_callees w.setting c) (lowered_stmt w body).callees
has_call w v (StmtKind-F.Do body c) at = holds_append v (lowered_stmt w body).callees (stmts.expr_callees w.setting c)
has_call w v (StmtKind-F.For f c step body) at =
    let rest : List ℕ = stmts.opt_action_callees w.setting step ++ (lowered_stmt w body).callees in
    holds_append v (stmts.first_callees w.setting f) (stmts.opt_callees w.setting c ++ rest)
    ∙ or_both (first_calls w.setting v f) (holds_append v (stmts.opt_callees w.setting c) rest
    ∙ or_both (opt_calls w.setting v c) (holds_append v (stmts.opt_action_callees w.setting step) (lowered_stmt w body).callees
    ∙ ap (λ b. b || stmt_has w (sought.Call v) body) (opt_action_calls w.setting v step)))
has_call w v (StmtKind-F.Switch e groups) at = holds_append v (stmts.expr_callees w.setting e) (stmts.all_of_groups (λ x. x.callees) (map (lowered_group w) groups))
    ∙ ap (λ b. expr_has w.setting (sought.Call v) e || b) (any_all_groups v (λ x. x.callees) (map (lowered_group w) groups) ∙ groups_any w (sought.Call v) groups)

has_level : (w : Within) (k : Sought) (x : StmtLayer) (at : Place) → has k (lowered_by w (stmt_parts w x) at) ≡ layer_has w k x
has_level w sought.Break x at = has_break w x at
has_level w sought.Continue x at = has_continue w x at
has_level w sought.Return x at = has_return w x at
has_level w (sought.Assigned v) x at = has_assigned w v x at
has_level w (sought.Call v) x at = has_call w v x at

pub stmt_has_level : (w : Within) (k : Sought) (s : Stmt) → layer_has w k (out-StmtKind s.kind) ≡ has k (lowered_stmt w s)
stmt_has_level w k s = sym (has_level w k (out-StmtKind s.kind) s.place) ∙ ap (λ x. has k x) (stmt_level w s)

-- an item of a block
item_layer : (w : Within) (k : Sought) (x : ItemLayer) → has k (stmts.item_by w (stmts.item_parts w x)) ≡ layer_item w k x
item_layer w sought.Break (BlockItem-F.Declare ds) = sym (declared_quiet w.setting sought.Break ds (λ x. refl))
item_layer w sought.Continue (BlockItem-F.Declare ds) = sym (declared_quiet w.setting sought.Continue ds (λ x. refl))
item_layer w sought.Return (BlockItem-F.Declare ds) = sym (declared_quiet w.setting sought.Return ds (λ x. refl))
item_layer w (sought.Assigned v) (BlockItem-F.Declare ds) = sym (declared_quiet w.setting (sought.Assigned v) ds (λ x. refl))
item_layer w (sought.Call f) (BlockItem-F.Declare ds) = declared_call w.setting f ds
item_layer w k (BlockItem-F.«BlockItem::Act» s) = refl

pub item_has_level : (w : Within) (k : Sought) (b : BlockItem) → layer_item w k (out-BlockItem b) ≡ has k (lowered_item w b)
item_has_level w k b = sym (item_layer w k (out-BlockItem b)) ∙ ap (λ x. has k x) (item_level w b)
