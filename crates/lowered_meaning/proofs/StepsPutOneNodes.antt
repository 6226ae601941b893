-- Nodes with k steps more: a longer run of a program begins with the shorter one, and what is more begins with a step.
use Rattle.std.proofs.Common.{◌≡◌, ℕ, zero, suc, ◌+◌, ◌≤◌, Bool, false, Option, Some, None, List, [], ◌∷◌, ◌++◌, refl, arith}
use Rattle.std.specs.Prelude.{slice_get, replicate}
use Rattle.c_values.specs.declared.ops.Ty.{Ty}
use Rattle.c_values.specs.declared.ops.BinaryOp.{BinaryOp}
use Rattle.c_values.specs.Values.{converted, from_test, is_set, unary_of, binary_of}
use Rattle.c_tree.specs.declared.tree.Variable.{Variable}
use Rattle.c_tree.specs.declared.tree.Expr.{Expr}
use Rattle.c_tree.specs.declared.tree.ExprKind.{out-ExprKind}
use Rattle.c_tree.specs.declared.tree.ExprKind.TheOpen.{ExprKind-F}
use Rattle.c_tree.specs.declared.tree.Action.{Action}
use Rattle.c_tree.specs.declared.tree.Action.TheVariants as action
use Rattle.c_tree.specs.declared.tree.Declared.{Declared}
use Rattle.c_tree.specs.declared.tree.Stmt.{Stmt}
use Rattle.c_tree.specs.declared.tree.StmtKind.{out-StmtKind}
use Rattle.c_tree.specs.declared.tree.BlockItem.{BlockItem, out-BlockItem}
use Rattle.c_tree.specs.declared.tree.BlockItem.TheOpen.{StmtKind-F, BlockItem-F}
use Rattle.c_tree.specs.declared.tree.ForFirst.{ForFirst}
use Rattle.c_tree.specs.declared.tree.ForFirst.TheVariants as first
use Rattle.c_tree.specs.declared.tree.Group.{Group}
use Rattle.c_tree.specs.declared.tree.Label.{Label}
use Rattle.c_tree.specs.declared.tree.Function.{Function}
use Rattle.c_tree.specs.declared.tree.Program.{Program}
use Rattle.c_tree.specs.declared.leaving.Leaving.{Leaving}
use Rattle.c_tree.specs.declared.leaving.Leaving.TheVariants.{Next, Broke, Continued, Returned}
use Rattle.c_tree.specs.Layer.{ExprLayer, StmtLayer, ItemLayer}
use Rattle.c_tree.specs.Runs.{Event, Begun, State, Part, go_on, ◌>>=◌, ◌>>◌, pure, stop, skip, either, begin, begin_at, begin_each, put, set_words, write, write_place, word_or_trap}
use Rattle.c_tree.specs.Nodes.{Within, ends, is_chosen, open_array, values_onto, decides, value_or, opened, updated_by, body_by, bind, come_back, enter, second_by, choice_by, expr_by, store_by, load_by, same_type, type_of, conversion, begin_update, amount_type, finish_by, update_by, act_by, act_opt, fill, declare_sized, declare_at, declare_each, then_on, item_by, items_by, first_by, no_by, arm_by, begin_labels, has_default, has_label, default_items, chosen, left_switch, switch_by, stmt_by, goes_on, left_loop, again, do_by, stepped_by, turn_by, next_turn, to_depth}
use Rattle.c_tree.specs.Meaning.{events, run_of, start}
use Rattle.c_tree.proofs.Shown.{events_behind}
use Rattle.lowered_meaning.proofs.StepsPutOneParts.{more, Grows, Steady, grows_on, steady_on, steady_then, steady_pure, steady_put, steady_set_words, steady_take, steady_either, steady_begin, steady_begun, steady_begin_each, steady_read, steady_write_place, steady_worked, steady_read_at, steady_write_at}

abbrev pub Alike : ℕ → ℕ → (Expr → Part ℕ) → (Expr → Part ℕ) → Type 0
Alike k d f g = (e : Expr) → Steady k d (f e) (g e)

abbrev pub AlikeStmts : ℕ → ℕ → (Stmt → Part Leaving) → (Stmt → Part Leaving) → Type 0
AlikeStmts k d f g = (x : Stmt) → Steady k d (f x) (g x)

pub record AlikeWithin (k d : ℕ) (a b : Within) : Type 0 where
  pub expr : Alike k d a.expr b.expr
  pub stmt : AlikeStmts k d a.stmt b.stmt
  pub turns : AlikeStmts k d a.turns b.turns

each_alike : (k d : ℕ) (f g : Expr → Part ℕ) → Alike k d f g → (vs : List ℕ) (es : List Expr) → Steady k d (values_onto f vs es) (values_onto g vs es)
each_alike k d f g h vs [] = steady_pure k d vs
each_alike k d f g h vs (e ∷ es) = λ s le. grows_on k d _ _ _ _ _ le (h e s le) (λ v. each_alike k d f g h (vs ++ v ∷ []) es)

steady_write : (k d x w : ℕ) → Steady k d (write x w) (write x w)
steady_write k d x w = steady_write_place k d x 0 w

bind_alike : (k d : ℕ) (xs vs : List ℕ) → Steady k d (bind xs vs) (bind xs vs)
bind_alike k d [] vs = steady_pure k d tt
bind_alike k d (x ∷ xs) [] = steady_pure k d tt
bind_alike k d (x ∷ xs) (v ∷ vs) = steady_then k d (write x v) (write x v) (bind xs vs) (bind xs vs) (steady_write k d x v) (bind_alike k d xs vs)

begin_pure : {A : Type 0} (k d : ℕ) (a : A) → Steady k d (begin >> pure a) (begin >> pure a)
begin_pure k d a = steady_then k d begin begin (pure a) (pure a) (steady_begin k d) (steady_pure k d a)

back_alike : (k d : ℕ) (l : Leaving) → Steady k d (come_back l) (come_back l)
back_alike k d Next = begin_pure k d 0
back_alike k d Broke = begin_pure k d 0
back_alike k d Continued = begin_pure k d 0
back_alike k d (Returned w) = steady_pure k d w

pub enter_alike : (k d : ℕ) (f g : Stmt → Part Leaving) → AlikeStmts k d f g → (o : Option Function) (vs : List ℕ) → Steady k d (enter f o vs) (enter g o vs)
enter_alike k d f g h None vs = steady_pure k d 0
enter_alike k d f g h (Some fn) vs =
    steady_then k d (bind fn.params vs) (bind fn.params vs) (f fn.body >>= come_back) (g fn.body >>= come_back) (bind_alike k d fn.params vs)
    (steady_on k d (f fn.body) (g fn.body) come_back come_back (h fn.body) (back_alike k d))

second_alike : (k d : ℕ) (f g : Expr → Part ℕ) → Alike k d f g → (op : BinaryOp) (a b : Expr) (x : ℕ) → Steady k d (second_by f op a b x) (second_by g op a b x)
second_alike k d f g h op a b x =
    let one : Part ℕ = pure (from_test (is_set x)) in
    let work : ℕ → Part ℕ = λ y. word_or_trap (binary_of a.ty b.ty op x y) in
    steady_either k d (decides op x) one one (f b >>= work) (g b >>= work) (steady_pure k d _)
    (steady_on k d (f b) (g b) work work (h b) (λ y. steady_worked k d (binary_of a.ty b.ty op x y)))

choice_alike : (k d : ℕ) (f g : Expr → Part ℕ) → Alike k d f g → (a b : Expr) (w : ℕ) → Steady k d (choice_by f a b w) (choice_by g a b w)
choice_alike k d f g h a b w = steady_either k d (is_set w) (f a) (g a) (f b) (g b) (h a) (h b)

expr_alike : (k d : ℕ) (p : Program) (a b : Within) → AlikeWithin k d a b → (ty : Ty) (e : ExprLayer) → Steady k d (expr_by p a ty e) (expr_by p b ty e)
expr_alike k d p a b h ty (ExprKind-F.Number w) = steady_pure k d _
expr_alike k d p a b h ty (ExprKind-F.Var x) = steady_read k d x
expr_alike k d p a b h ty (ExprKind-F.Element x i) = λ s le. grows_on k d _ _ _ _ _ le (h.expr i s le) (λ v. steady_read_at k d x i.ty v)
expr_alike k d p a b h ty (ExprKind-F.Convert e) = λ s le. grows_on k d _ _ _ _ _ le (h.expr e s le) (λ v. steady_pure k d (converted ty e.ty v))
expr_alike k d p a b h ty (ExprKind-F.Unary op e) = λ s le. grows_on k d _ _ _ _ _ le (h.expr e s le) (λ v. steady_pure k d (unary_of e.ty op v))
expr_alike k d p a b h ty (ExprKind-F.Binary op x y) = λ s le. grows_on k d _ _ _ _ _ le (h.expr x s le) (second_alike k d a.expr b.expr h.expr op x y)
expr_alike k d p a b h ty (ExprKind-F.Cond c x y) = λ s le. grows_on k d _ _ _ _ _ le (h.expr c s le) (choice_alike k d a.expr b.expr h.expr x y)
expr_alike k d p a b h ty (ExprKind-F.Call f args) = λ s le. grows_on k d _ _ _ _ _ le (each_alike k d a.expr b.expr h.expr [] args s le) (enter_alike k d a.stmt b.stmt h.stmt (slice_get p.functions f))
expr_alike k d p a b h ty ExprKind-F.Input = steady_take k d
expr_alike k d p a b h ty (ExprKind-F.Output e) = λ s le. grows_on k d _ _ _ _ _ le (h.expr e s le) (λ w. steady_then k d (put w) (put w) (pure 0) (pure 0) (steady_put k d w) (steady_pure k d 0))

value_alike : (k d : ℕ) (f g : Expr → Part ℕ) → Alike k d f g → (n : ℕ) (o : Option Expr) → Steady k d (value_or f n o) (value_or g n o)
value_alike k d f g h n None = steady_pure k d n
value_alike k d f g h n (Some e) = h e

steady_store : (k d x : ℕ) (o : Option Expr) (i w : ℕ) → Steady k d (store_by x o i w) (store_by x o i w)
steady_store k d x None i w = steady_write k d x w
steady_store k d x (Some e) i w = steady_write_at k d x e.ty i w

steady_load : (k d x : ℕ) (o : Option Expr) (i : ℕ) → Steady k d (load_by x o i) (load_by x o i)
steady_load k d x None i = steady_read k d x
steady_load k d x (Some e) i = steady_read_at k d x e.ty i

steady_conversion : (k d : ℕ) (a b : Ty) → Steady k d (conversion a b) (conversion a b)
steady_conversion k d a b = steady_either k d (same_type a b) skip skip begin begin (steady_pure k d tt) (steady_begin k d)

steady_begin_update : (k d : ℕ) (a b : Ty) → Steady k d (begin_update a b) (begin_update a b)
steady_begin_update k d a b =
    steady_then k d (conversion a b) (conversion a b) (begin >> conversion b a) (begin >> conversion b a) (steady_conversion k d a b)
    (steady_then k d begin begin (conversion b a) (conversion b a) (steady_begin k d) (steady_conversion k d b a))

steady_finish : (k d : ℕ) (own : Ty) (v : ℕ) (o : Option Expr) (op : BinaryOp) (ty by : Ty) (i x y : ℕ) → Steady k d (finish_by own v o op ty by i x y) (finish_by own v o op ty by i x y)
steady_finish k d own v o op ty by i x y = λ s le. grows_on k d _ _ _ _ _ le (steady_worked k d (binary_of ty by op (converted ty own x) y) s le) (λ w. steady_store k d v o i (converted own ty w))

steady_opened : (k d : ℕ) (own ty : Ty) (v : ℕ) (o : Option Expr) (i : ℕ) → Steady k d (opened own ty v o i) (opened own ty v o i)
steady_opened k d own ty v o i = steady_then k d (begin_update own ty) (begin_update own ty) (load_by v o i) (load_by v o i) (steady_begin_update k d own ty) (steady_load k d v o i)

updated_alike : (k d : ℕ) (own : Ty) (f g : Expr → Part ℕ) → Alike k d f g → (v : ℕ) (o : Option Expr) (op : BinaryOp) (ty : Ty) (by : Option Expr) (i : ℕ)
    → Steady k d (updated_by own f v o op ty by i) (updated_by own g v o op ty by i)
updated_alike k d own f g h v o op ty by i = λ s le.
    grows_on k d _ _ _ _ _ le (steady_opened k d own ty v o i s le) (λ x s1 le1.
    grows_on k d _ _ _ _ _ le1 (value_alike k d f g h 1 by s1 le1) (λ y. steady_finish k d own v o op ty (amount_type ty by) i x y))

update_alike : (k d : ℕ) (own : Ty) (f g : Expr → Part ℕ) → Alike k d f g → (v : ℕ) (o : Option Expr) (op : BinaryOp) (ty : Ty) (by : Option Expr)
    → Steady k d (update_by own f v o op ty by) (update_by own g v o op ty by)
update_alike k d own f g h v o op ty by = λ s le.
    grows_on k d _ _ _ _ _ le (value_alike k d f g h 0 o s le) (updated_alike k d own f g h v o op ty by)

act_alike : (k d : ℕ) (p : Program) (f g : Expr → Part ℕ) → Alike k d f g → (a : Action) → Steady k d (act_by p f a) (act_by p g a)
act_alike k d p f g h (action.Value e) = λ s le. grows_on k d _ _ _ _ _ le (h e s le) (λ _. steady_pure k d tt)
act_alike k d p f g h (action.Assign to e) = λ s le.
    grows_on k d _ _ _ _ _ le (value_alike k d f g h 0 to.index s le) (λ i s1 le1. grows_on k d _ _ _ _ _ le1 (h e s1 le1) (steady_store k d to.variable to.index i))
act_alike k d p f g h (action.Update to place op ty by) = update_alike k d (type_of p to.variable) f g h to.variable to.index op ty by

act_opt_alike : (k d : ℕ) (p : Program) (f g : Expr → Part ℕ) → Alike k d f g → (o : Option Action) → Steady k d (act_opt p f o) (act_opt p g o)
act_opt_alike k d p f g h None = steady_pure k d tt
act_opt_alike k d p f g h (Some a) = act_alike k d p f g h a

fill_alike : (k d : ℕ) (f g : Expr → Part ℕ) → Alike k d f g → (x i : ℕ) (es : List Expr) → Steady k d (fill f x i es) (fill g x i es)
fill_alike k d f g h x i [] = steady_pure k d tt
fill_alike k d f g h x i (e ∷ es) = λ s le.
    grows_on k d _ _ _ _ _ le (h e s le) (λ w. steady_then k d (write_place x i w) (write_place x i w) (fill f x (i + 1) es) (fill g x (i + 1) es) (steady_write_place k d x i w) (fill_alike k d f g h x (i + 1) es))

sized_alike : (k d : ℕ) (f g : Expr → Part ℕ) → Alike k d f g → (x : ℕ) (o : Option ℕ) (es : List Expr) → Steady k d (declare_sized f x o es) (declare_sized g x o es)
sized_alike k d f g h x None [] = steady_write k d x 0
sized_alike k d f g h x None (e ∷ es) = λ s le. grows_on k d _ _ _ _ _ le (h e s le) (λ w. steady_write k d x w)
sized_alike k d f g h x (Some n) es =
    steady_then k d (open_array x n) (open_array x n) (fill f x 0 es) (fill g x 0 es)
    (steady_then k d (set_words x (replicate n 0)) (set_words x (replicate n 0)) (begin_each n) (begin_each n) (steady_set_words k d x (replicate n 0)) (steady_begin_each k d n))
    (fill_alike k d f g h x 0 es)

at_alike : (k d : ℕ) (f g : Expr → Part ℕ) → Alike k d f g → (x : ℕ) (o : Option Variable) (es : List Expr) → Steady k d (declare_at f x o es) (declare_at g x o es)
at_alike k d f g h x None es = steady_pure k d tt
at_alike k d f g h x (Some v) es = sized_alike k d f g h x v.length es

declare_alike : (k d : ℕ) (p : Program) (f g : Expr → Part ℕ) → Alike k d f g → (ds : List Declared) → Steady k d (declare_each p f ds) (declare_each p g ds)
declare_alike k d p f g h [] = steady_pure k d tt
declare_alike k d p f g h (x ∷ ds) = λ s le.
    grows_on k d _ _ _ _ _ le (steady_begin k d s le) (λ _ s1 le1.
    grows_on k d _ _ _ _ _ le1 (at_alike k d f g h x.variable (slice_get p.variables x.variable) x.values s1 le1) (λ _. declare_alike k d p f g h ds))

then_alike : (k d : ℕ) (l : Leaving) (p q : Part Leaving) → Steady k d p q → Steady k d (then_on l p) (then_on l q)
then_alike k d l p q h = steady_either k d (ends l) (pure l) (pure l) p q (steady_pure k d l) h

item_alike : (k d : ℕ) (p : Program) (f g : Expr → Part ℕ) (f' g' : Stmt → Part Leaving) → Alike k d f g → AlikeStmts k d f' g' → (b : ItemLayer) → Steady k d (item_by p f f' b) (item_by p g g' b)
item_alike k d p f g f' g' h h' (BlockItem-F.Declare ds) = λ s le. grows_on k d _ _ _ _ _ le (declare_alike k d p f g h ds s le) (λ _. steady_pure k d Next)
item_alike k d p f g f' g' h h' (BlockItem-F.«BlockItem::Act» x) = h' x

items_alike : (k d : ℕ) (p : Program) (f g : Expr → Part ℕ) (f' g' : Stmt → Part Leaving) → Alike k d f g → AlikeStmts k d f' g' → (bs : List BlockItem) → Steady k d (items_by p f f' bs) (items_by p g g' bs)
items_alike k d p f g f' g' h h' [] = steady_pure k d Next
items_alike k d p f g f' g' h h' (b ∷ bs) = λ s le.
    grows_on k d _ _ _ _ _ le (item_alike k d p f g f' g' h h' (out-BlockItem b) s le) (λ l. then_alike k d l (items_by p f f' bs) (items_by p g g' bs) (items_alike k d p f g f' g' h h' bs))

first_alike : (k d : ℕ) (p : Program) (f g : Expr → Part ℕ) → Alike k d f g → (o : Option ForFirst) → Steady k d (first_by p f o) (first_by p g o)
first_alike k d p f g h None = steady_pure k d tt
first_alike k d p f g h (Some (first.Declare ds)) = declare_alike k d p f g h ds
first_alike k d p f g h (Some (first.Act a)) = act_alike k d p f g h a

no_alike : (k d : ℕ) (f g : Stmt → Part Leaving) → AlikeStmts k d f g → (o : Option Stmt) → Steady k d (no_by f o) (no_by g o)
no_alike k d f g h None = steady_pure k d Next
no_alike k d f g h (Some x) = h x

arm_alike : (k d : ℕ) (f g : Stmt → Part Leaving) → AlikeStmts k d f g → (x : Stmt) (o : Option Stmt) (w : ℕ) → Steady k d (arm_by f x o w) (arm_by g x o w)
arm_alike k d f g h x o w = steady_either k d (is_set w) (f x) (g x) (no_by f o) (no_by g o) (h x) (no_alike k d f g h o)

steady_labels : (k d : ℕ) (ls : List Label) → Steady k d (begin_labels ls) (begin_labels ls)
steady_labels k d [] = steady_pure k d tt
steady_labels k d (l ∷ ls) = steady_then k d begin begin (begin_labels ls) (begin_labels ls) (steady_begin k d) (steady_labels k d ls)

steady_is_chosen : (k d w : ℕ) (ls : List Label) → Steady k d (is_chosen w ls) (is_chosen w ls)
steady_is_chosen k d w ls =
    steady_either k d (has_default ls) (pure false) (pure false) (begin_labels ls >> pure (has_label w ls)) (begin_labels ls >> pure (has_label w ls)) (steady_pure k d false)
    (steady_then k d (begin_labels ls) (begin_labels ls) (pure (has_label w ls)) (pure (has_label w ls)) (steady_labels k d ls) (steady_pure k d (has_label w ls)))

steady_chosen : (k d w : ℕ) (others : List BlockItem) (gs : List Group) → Steady k d (chosen w others gs) (chosen w others gs)
steady_chosen k d w others [] = steady_pure k d others
steady_chosen k d w others (g ∷ gs) =
    let f : Bool → Part (List BlockItem) = λ found. either found (pure g.items) (chosen w others gs) in
    steady_on k d (is_chosen w g.labels) (is_chosen w g.labels) f f (steady_is_chosen k d w g.labels)
    (λ found. steady_either k d found (pure g.items) (pure g.items) (chosen w others gs) (chosen w others gs) (steady_pure k d g.items) (steady_chosen k d w others gs))

switch_alike : (k d : ℕ) (p : Program) (a b : Within) → AlikeWithin k d a b → (gs : List Group) (w : ℕ) → Steady k d (switch_by p a gs w) (switch_by p b gs w)
switch_alike k d p a b h gs w = λ s le.
    grows_on k d _ _ _ _ _ le (steady_chosen k d w (default_items gs) gs s le) (λ items s1 le1.
    grows_on k d _ _ _ _ _ le1 (items_alike k d p a.expr b.expr a.stmt b.stmt h.expr h.stmt items s1 le1) (λ l. steady_pure k d (left_switch l)))

stmt_alike : (k d : ℕ) (p : Program) (a b : Within) → AlikeWithin k d a b → (x : Stmt) (l : StmtLayer) → Steady k d (stmt_by p a x l) (stmt_by p b x l)
stmt_alike k d p a b h x (StmtKind-F.Block items) = items_alike k d p a.expr b.expr a.stmt b.stmt h.expr h.stmt items
stmt_alike k d p a b h x StmtKind-F.Empty = steady_pure k d Next
stmt_alike k d p a b h x (StmtKind-F.«StmtKind::Act» c) = λ s le. grows_on k d _ _ _ _ _ le (act_alike k d p a.expr b.expr h.expr c s le) (λ _. steady_pure k d Next)
stmt_alike k d p a b h x StmtKind-F.Break = steady_pure k d Broke
stmt_alike k d p a b h x StmtKind-F.Continue = steady_pure k d Continued
stmt_alike k d p a b h x (StmtKind-F.Return e) = λ s le. grows_on k d _ _ _ _ _ le (value_alike k d a.expr b.expr h.expr 0 e s le) (λ w. steady_pure k d (Returned w))
stmt_alike k d p a b h x (StmtKind-F.If c y z) = λ s le. grows_on k d _ _ _ _ _ le (h.expr c s le) (arm_alike k d a.stmt b.stmt h.stmt y z)
stmt_alike k d p a b h x (StmtKind-F.While c body) = h.turns x
stmt_alike k d p a b h x (StmtKind-F.Do body c) = h.turns x
stmt_alike k d p a b h x (StmtKind-F.For f c step body) = λ s le. grows_on k d _ _ _ _ _ le (first_alike k d p a.expr b.expr h.expr f s le) (λ _. h.turns x)
stmt_alike k d p a b h x (StmtKind-F.Switch e groups) = λ s le. grows_on k d _ _ _ _ _ le (h.expr e s le) (switch_alike k d p a b h groups)

do_alike : (k d : ℕ) (a b : Within) → AlikeWithin k d a b → (c : Expr) (l : Leaving) → Steady k d (do_by a c l) (do_by b c l)
do_alike k d a b h c l =
    steady_either k d (goes_on l) (a.expr c >>= (λ w. pure (again w))) (b.expr c >>= (λ w. pure (again w))) (pure (Some (left_loop l))) (pure (Some (left_loop l)))
    (λ s le. grows_on k d _ _ _ _ _ le (h.expr c s le) (λ w. steady_pure k d (again w))) (steady_pure k d (Some (left_loop l)))

stepped_alike : (k d : ℕ) (p : Program) (a b : Within) → AlikeWithin k d a b → (step : Option Action) (l : Leaving) → Steady k d (stepped_by p a step l) (stepped_by p b step l)
stepped_alike k d p a b h step l =
    steady_either k d (goes_on l) (act_opt p a.expr step >> pure None) (act_opt p b.expr step >> pure None) (pure (Some (left_loop l))) (pure (Some (left_loop l)))
    (λ s le. grows_on k d _ _ _ _ _ le (act_opt_alike k d p a.expr b.expr h.expr step s le) (λ _. steady_pure k d None)) (steady_pure k d (Some (left_loop l)))

body_alike : (k d : ℕ) (p : Program) (a b : Within) → AlikeWithin k d a b → (body : Stmt) (step : Option Action) (w : ℕ) → Steady k d (body_by p a body step w) (body_by p b body step w)
body_alike k d p a b h body step w =
    steady_either k d (is_set w) (a.stmt body >>= stepped_by p a step) (b.stmt body >>= stepped_by p b step) (pure (Some Next)) (pure (Some Next))
    (λ s le. grows_on k d _ _ _ _ _ le (h.stmt body s le) (stepped_alike k d p a b h step)) (steady_pure k d (Some Next))

turn_alike : (k d : ℕ) (p : Program) (a b : Within) → AlikeWithin k d a b → (l : StmtLayer) → Steady k d (turn_by p a l) (turn_by p b l)
turn_alike k d p a b h (StmtKind-F.While c body) = λ s le. grows_on k d _ _ _ _ _ le (h.expr c s le) (body_alike k d p a b h body None)
turn_alike k d p a b h (StmtKind-F.Do body c) = λ s le. grows_on k d _ _ _ _ _ le (h.stmt body s le) (do_alike k d a b h c)
turn_alike k d p a b h (StmtKind-F.For f c step body) = λ s le. grows_on k d _ _ _ _ _ le (value_alike k d a.expr b.expr h.expr 1 c s le) (body_alike k d p a b h body step)
turn_alike k d p a b h _ = steady_pure k d (Some Next)

next_alike : (k d : ℕ) (p q : Part Leaving) → Steady k d p q → (o : Option Leaving) → Steady k d (next_turn p o) (next_turn q o)
next_alike k d p q h None = h
next_alike k d p q h (Some l) = steady_pure k d l

begins : {A : Type 0} (i : ℕ) (s : State) (q : Part A) → 1 ≤ i → (behind : List Event) × (events (go_on (begin_at i s) (λ _. q)) ≡ Begun ∷ behind)
begins zero s q one = absurd (omega (arith, one))
begins (suc i) s q one = (events (q (record s { left = i })), events_behind (Begun ∷ []) (q (record s { left = i })))

-- without steps nothing is done, and a step more begins one
bottom : {A : Type 0} (k : ℕ) (q : Part A) → 1 ≤ k → Steady k 0 stop (begin >> q)
bottom k q one = λ s le.
    (omega (arith, le), (events (go_on (begin_at (s.left + k) (more k s)) (λ _. q)), refl, λ _. begins (s.left + k) (more k s) q (omega (arith, one))))

still : (A : Type 0) (k : ℕ) → k ≡ 0 → Steady {A = A} k 0 stop stop
still A k e = λ s le. (omega (arith, le), ([], refl, λ one. absurd (omega (arith, e, one))))

nodes_alike : (k : ℕ) (p : Program) (d e : ℕ) → e ≡ d + k → AlikeWithin k d (to_depth p d) (to_depth p e)
unfolding to_depth
nodes_alike k p zero zero eq = let z : k ≡ 0 = omega (arith, eq) in record { expr = λ x. still ℕ k z; stmt = λ x. still Leaving k z; turns = λ x. still Leaving k z }
nodes_alike k p zero (suc e) eq =
    let one : 1 ≤ k = omega (arith, eq) in
    record { expr = λ x. bottom k _ one; stmt = λ x. bottom k _ one; turns = λ x. bottom k _ one }
nodes_alike k p (suc d) zero eq = absurd (omega (arith, eq))
nodes_alike k p (suc d) (suc e) eq =
    let h : AlikeWithin k d (to_depth p d) (to_depth p e) = nodes_alike k p d e (omega (arith, eq)) in
    record {
      expr = λ x. steady_begun k d _ _ (expr_alike k d p (to_depth p d) (to_depth p e) h x.ty (out-ExprKind x.kind));
      stmt = λ x. steady_begun k d _ _ (stmt_alike k d p (to_depth p d) (to_depth p e) h x (out-StmtKind x.kind));
      turns = λ x. steady_begun k d _ _ (λ s le. grows_on k d _ _ _ _ _ le (turn_alike k d p (to_depth p d) (to_depth p e) h (out-StmtKind x.kind) s le)
          (next_alike k d ((to_depth p d).turns x) ((to_depth p e).turns x) (h.turns x)));
    }

pub run_grows : (p : Program) (input : List ℕ) (n k m : ℕ) → m ≡ n + k → Grows k n (run_of p input n) (run_of p input m)
run_grows p input n k m e =
    rw e (enter_alike k n (to_depth p n).stmt (to_depth p (n + k)).stmt (nodes_alike k p n (n + k) refl).stmt (slice_get p.functions p.main) [] (start p input n) (omega arith))
