-- Items that fit where they stand: each operation has what its kind has, the list is one that may stand there, and what it calls, writes and counts is the function's own.
use Rattle.std.proofs.Common.{◌≡◌, ◌≢◌, ℕ, ◌<◌, ◌≤◌, ◌^◌, Bool, true, false, Option, Some, None, List, [], ◌∷◌, ◌++◌, refl, sym, ap, subst, ◌∙◌}
use Rattle.std.specs.Prelude.{⊤, Contains, ◌||◌, slice_get}
use Rattle.std.proofs.lemmas.Bool.{and_parts, false≢true}
use Rattle.c_values.specs.declared.ops.Ty.{Ty}
use Rattle.c_tree.specs.declared.tree.Function.{Function}
use Rattle.c_tree.specs.declared.tree.Variable.{Variable}
use Rattle.flow_graph.specs.declared.graph.Operand.{Operand}
use Rattle.flow_graph.specs.declared.graph.Operand.TheVariants.{Const, Object}
use Rattle.flow_graph.specs.declared.graph.OpKind.TheVariants as kind
use Rattle.flow_graph.specs.declared.graph.ArrayUse.{ArrayUse}
use Rattle.flow_graph.specs.declared.graph.LeaveTo.{LeaveTo}
use Rattle.flow_graph.specs.declared.graph.Op.{Op}
use Rattle.flow_graph.specs.declared.graph.Item.{Item}
use Rattle.flow_graph.specs.declared.graph.Item.TheVariants.{One, Branch, Loop, Switch, CallTo, Leave}
use Rattle.flow_graph.specs.declared.graph.Item.TheOpen.{Item-F}
use Rattle.flow_graph.specs.declared.nodes.Node.{Node}
use Rattle.flow_graph.specs.declared.nodes.Around.{Around}
use Rattle.flow_graph.specs.Nodes.{Laid, at_behind, first_of, nodes_of, in_loop, laid, laid_items, loop_nodes}
use Rattle.flow_graph.specs.Rules.{parts_of, CountFits, Where, Ending, Open, MayGo, Returns, Fitting, Doing, Turn, doing_both, doing_op, turns_of, turn_of, with_turns, fitting, fittings, fitting_by, doing, doings, list_fits, branch_fits, loop_fits, leave_fits, ends_list, ends_in_go, has_none, is_kind, is_go_alone, is_from, is_step, same_dest, same_object, counted_fits, counts_up, counted_by, not_returning, stands_alone, written}
use Rattle.flow_graph.specs.Rules as rules
use Rattle.flow_graph.proofs.LaidLemmas.{laid-One, laid-Branch, laid-Loop, laid-Switch, laid-CallTo, laid-Leave, laid_items-append, nodes_of-append}
use Rattle.lowered_graphs.specs.Exprs.{Setting, home, place_of, result_home}
use Rattle.flow_graph.specs.declared.graph.Item.{out-Item}
use Rattle.lowered_rules.proofs.EachLemmas.{Each, each_append, each_left, each_right, and_both, or_first}
use Rattle.lowered_rules.proofs.ItemLevels.{with_fittings, fitting_level, fitting-One, fitting-Branch, fitting-Loop, fitting-Switch, fitting-CallTo, fitting-Leave, doing-One, doing-Branch, doing-Loop, doing-Switch, doing-CallTo, doing-Leave}

-- What a function's lowering takes for granted: its temporaries lie from `base` up to `top`; which objects are scalars, arrays of so many elements, and of the function alone;
-- which it may write; which variables are in reach and which of them it declares; and which functions it may call.
pub record Ground : Type 1 where
  pub setting : Setting
  pub function : ℕ
  pub is_main : Bool
  pub result : Option Ty
  pub base : ℕ
  pub top : ℕ
  pub scalar : ℕ → Type 0
  pub array : ℕ → ℕ → Type 0
  pub may : ℕ → Type 0
  pub own : ℕ → Type 0
  pub calls : ℕ → Type 0
  pub known : ℕ → Type 0
  pub local : ℕ → Type 0
  pub callee : ℕ → Type 0
  pub temporary : (t : ℕ) → base ≤ t → t < top → scalar t × may t × own t
  pub single : (x : ℕ) (v : Variable) → known x → slice_get setting.program.variables x ≡ Some v → v.length ≡ None → scalar (home setting x)
  pub several : (x n : ℕ) (v : Variable) → known x → slice_get setting.program.variables x ≡ Some v → v.length ≡ Some n → array (home setting x) n
  pub known_may : (x : ℕ) → known x → may (home setting x)
  pub local_own : (x : ℕ) → local x → own (home setting x)
  pub local_known : (x : ℕ) → local x → known x
  pub apart : (x y : ℕ) → local y → known x → x ≢ y → home setting x ≢ home setting y
  pub apart_temporary : (t y : ℕ) → local y → base ≤ t → t < top → t ≢ home setting y
  pub array_temporary : (t o n : ℕ) → base ≤ t → t < top → array o n → o ≢ t
  pub small : (o n : ℕ) → array o n → n < 2 ^ 16
  pub callee_calls : (f : ℕ) → callee f → calls (place_of setting f)
  pub parameter : (f : ℕ) (fn : Function) (x : ℕ) → callee f → slice_get setting.program.functions f ≡ Some fn → Contains fn.params x → scalar (home setting x) × may (home setting x)
  pub apart_parameter : (f : ℕ) (fn : Function) (x y : ℕ) → local y → callee f → slice_get setting.program.functions f ≡ Some fn → Contains fn.params x → home setting x ≢ home setting y
  pub callee_result : (f : ℕ) (fn : Function) (ty : Ty) → callee f → slice_get setting.program.functions f ≡ Some fn → fn.result ≡ Some ty → scalar (result_home setting f)
  pub own_result : (ty : Ty) → is_main ≡ false → result ≡ Some ty → scalar (result_home setting function) × may (result_home setting function)
  pub apart_result : (ty : Ty) (y : ℕ) → local y → is_main ≡ false → result ≡ Some ty → result_home setting function ≢ home setting y

module _ (G : Ground) where
  -- ---- operations

  abbrev pub OperandGood : Bool → Operand → Type 0
  OperandGood true (Const w) = w < 2 ^ 16
  OperandGood true (Object o) = G.scalar o
  OperandGood false a = a ≡ Const 0

  abbrev pub DestGood : Bool → Option ℕ → Type 0
  DestGood true (Some o) = G.scalar o
  DestGood true None = ⊥
  DestGood false dest = dest ≡ None

  abbrev pub ArrayGood : Bool → Option ArrayUse → Type 0
  ArrayGood true (Some u) = G.array u.object u.length
  ArrayGood true None = ⊥
  ArrayGood false array = array ≡ None

  pub record GoodOp (op : Op) : Type 0 where
    pub dest : DestGood (parts_of op.kind).dest op.dest
    pub a : OperandGood (parts_of op.kind).a op.a
    pub b : OperandGood (parts_of op.kind).b op.b
    pub array : ArrayGood (parts_of op.kind).array op.array
    pub count : CountFits op.kind op

  abbrev pub GoodNode : Node → Type 0
  GoodNode x = GoodOp x.op

  -- ---- what is done

  -- a variable that is spared isn't written
  abbrev pub Avoids : Option ℕ → ℕ → Type 0
  Avoids None o = ⊤
  Avoids (Some y) o = o ≢ home G.setting y

  abbrev pub Writes : Option ℕ → ℕ → Type 0
  Writes avoid o = G.may o × Avoids avoid o

  pub record GoodTurn (t : Turn) : Type 0 where
    pub own : G.own t.variable
    pub spared : Each (λ o. o ≢ t.variable) t.writes
    pub calls : Each G.calls t.calls

  pub record Does (avoid : Option ℕ) (d : Doing) : Type 0 where
    pub calls : Each G.calls d.calls
    pub writes : Each (Writes avoid) d.writes
    pub turns : Each GoodTurn d.turns

  pub does_nothing : (avoid : Option ℕ) → Does avoid rules.nothing
  does_nothing avoid = record { calls = tt; writes = tt; turns = tt }

  pub does_both : (avoid : Option ℕ) (a b : Doing) → Does avoid a → Does avoid b → Does avoid (doing_both a b)
  does_both avoid a b h k = record {
    calls = each_append G.calls a.calls b.calls h.calls k.calls;
    writes = each_append (Writes avoid) a.writes b.writes h.writes k.writes;
    turns = each_append GoodTurn a.turns b.turns h.turns k.turns;
  }

  pub does_first : (avoid : Option ℕ) (a b : Doing) → Does avoid (doing_both a b) → Does avoid a
  does_first avoid a b h = record {
    calls = each_left G.calls a.calls b.calls h.calls;
    writes = each_left (Writes avoid) a.writes b.writes h.writes;
    turns = each_left GoodTurn a.turns b.turns h.turns;
  }

  pub does_rest : (avoid : Option ℕ) (a b : Doing) → Does avoid (doing_both a b) → Does avoid b
  does_rest avoid a b h = record {
    calls = each_right G.calls a.calls b.calls h.calls;
    writes = each_right (Writes avoid) a.writes b.writes h.writes;
    turns = each_right GoodTurn a.turns b.turns h.turns;
  }

  does_append : (avoid : Option ℕ) (xs ys : List Item) → Does avoid (doings xs) → Does avoid (doings ys) → Does avoid (doings (xs ++ ys))
  does_append avoid [] ys h k = k
  does_append avoid (x ∷ xs) ys h k = does_both avoid (doing x) (doings (xs ++ ys)) (does_first avoid (doing x) (doings xs) h) (does_append avoid xs ys (does_rest avoid (doing x) (doings xs) h) k)

  pub does_item : (avoid : Option ℕ) (x : Item) (d : Doing) → doing x ≡ d → Does avoid d → Does avoid (doings (x ∷ []))
  does_item avoid x d e h = does_both avoid (doing x) rules.nothing (subst (Does avoid) (sym e) h) (does_nothing avoid)

  pub does_op : (avoid : Option ℕ) (op : Op) → Each (Writes avoid) (written op) → Does avoid (doing_op op)
  does_op avoid op h = record { calls = tt; writes = h; turns = tt }

  -- ---- items that fit

  pub record Fits (avoid : Option ℕ) (w : Where) (e : Ending) (items : List Item) : Type 0 where
    pub ops : (c : Around) → Each GoodNode (nodes_of (laid_items items) c)
    pub list : (before : Option Op) → list_fits w e before (fittings items) ≡ true
    pub does : Does avoid (doings items)

  -- ---- operations of items

  pub ops_append : (xs ys : List Item) → ((c : Around) → Each GoodNode (nodes_of (laid_items xs) c)) → ((c : Around) → Each GoodNode (nodes_of (laid_items ys) c))
      → (c : Around) → Each GoodNode (nodes_of (laid_items (xs ++ ys)) c)
  ops_append xs ys h k c =
      subst (Each GoodNode) (sym (ap (λ l. nodes_of l c) (laid_items-append xs ys) ∙ nodes_of-append (laid_items xs) (laid_items ys) c))
      (each_append GoodNode (nodes_of (laid_items xs) (at_behind c (first_of (laid_items ys) c.behind))) (nodes_of (laid_items ys) c) (h (at_behind c (first_of (laid_items ys) c.behind))) (k c))

  pub ops_item : (x : Item) (l : Laid) → laid x ≡ l → ((c : Around) → Each GoodNode (l.nodes c)) → (c : Around) → Each GoodNode (nodes_of (laid_items (x ∷ [])) c)
  ops_item x l e h c = each_append GoodNode ((laid x).nodes (at_behind c c.behind)) [] (subst (λ (k : Laid). Each GoodNode (k.nodes c)) (sym e) (h c)) tt

  -- ---- one part after another

  may_end : (w : Where) (before : Option Op) (x : Item) → (fitting x).fits w Open before ≡ true → (fitting x).fits w MayGo before ≡ true
  may_end w before x h = subst (λ (t : Fitting). t.fits w MayGo before ≡ true) (sym (fitting_level x)) (by_layer (out-Item x) (subst (λ (t : Fitting). t.fits w Open before ≡ true) (fitting_level x) h))
    where
      by_layer : (y : Item-F Item) → (fitting_by (with_fittings y)).fits w Open before ≡ true → (fitting_by (with_fittings y)).fits w MayGo before ≡ true
      by_layer (Item-F.One op) h = or_first (stands_alone op.kind) (is_kind op.kind kind.Go) h
      by_layer (Item-F.Branch test a b) h = h
      by_layer (Item-F.Loop pre test post step back count) h = h
      by_layer (Item-F.Switch items) h = h
      by_layer (Item-F.CallTo op f) h = h
      by_layer (Item-F.Leave op to) h = h

  list_may_end : (w : Where) (before : Option Op) (xs : List Item) → list_fits w Open before (fittings xs) ≡ true → list_fits w MayGo before (fittings xs) ≡ true
  list_may_end w before [] h = refl
  list_may_end w before (x ∷ []) h = may_end w before x h
  list_may_end w before (x ∷ y ∷ rest) h =
      let p = and_parts ((fitting x).fits w Open before) (list_fits w Open (fitting x).alone (fittings (y ∷ rest))) h in
      and_both ((fitting x).fits w Open before) (list_fits w MayGo (fitting x).alone (fittings (y ∷ rest))) p.0 (list_may_end w (fitting x).alone (y ∷ rest) p.1)

  last_of_all : (w : Where) (e : Ending) (before : Option Op) (x : Item) → (fitting x).fits w Open before ≡ true → not_returning e ≡ true → (fitting x).fits w e before ≡ true
  last_of_all w Open before x h k = h
  last_of_all w MayGo before x h k = may_end w before x h
  last_of_all w Returns before x h k = absurd (false≢true k)

  list_append : (w : Where) (e : Ending) (before : Option Op) (xs ys : List Item) → list_fits w Open before (fittings xs) ≡ true → ((b : Option Op) → list_fits w e b (fittings ys) ≡ true)
      → list_fits w e before (fittings (xs ++ ys)) ≡ true
  list_append w e before [] ys h k = k before
  list_append w e before (x ∷ []) [] h k = last_of_all w e before x h (k None)
  list_append w e before (x ∷ []) (y ∷ ys) h k = and_both ((fitting x).fits w Open before) (list_fits w e (fitting x).alone (fittings (y ∷ ys))) h (k (fitting x).alone)
  list_append w e before (x ∷ z ∷ zs) ys h k =
      let p = and_parts ((fitting x).fits w Open before) (list_fits w Open (fitting x).alone (fittings (z ∷ zs))) h in
      and_both ((fitting x).fits w Open before) (list_fits w e (fitting x).alone (fittings ((z ∷ zs) ++ ys))) p.0 (list_append w e (fitting x).alone (z ∷ zs) ys p.1 k)

  pub fits_none : (avoid : Option ℕ) (w : Where) → Fits avoid w Open []
  fits_none avoid w = record { ops = λ c. tt; list = λ b. refl; does = does_nothing avoid }

  pub fits_append : (avoid : Option ℕ) (w : Where) (e : Ending) (xs ys : List Item) → Fits avoid w Open xs → Fits avoid w e ys → Fits avoid w e (xs ++ ys)
  fits_append avoid w e xs ys h k = record {
    ops = ops_append xs ys h.ops k.ops;
    list = λ b. list_append w e b xs ys (h.list b) k.list;
    does = does_append avoid xs ys h.does k.does;
  }

  pub fits_may_go : (avoid : Option ℕ) (w : Where) (xs : List Item) → Fits avoid w Open xs → Fits avoid w MayGo xs
  fits_may_go avoid w xs h = record { ops = h.ops; list = λ b. list_may_end w b xs (h.list b); does = h.does }

  -- ---- one item

  fits_item : (avoid : Option ℕ) (w : Where) (e : Ending) (x : Item) (l : Laid) (t : Fitting) (d : Doing) → laid x ≡ l → fitting x ≡ t → doing x ≡ d
      → ((c : Around) → Each GoodNode (l.nodes c)) → ((b : Option Op) → t.fits w e b ≡ true) → Does avoid d → Fits avoid w e (x ∷ [])
  fits_item avoid w e x l t d el et ed ops list does = record {
    ops = ops_item x l el ops;
    list = λ b. subst (λ (u : Fitting). u.fits w e b ≡ true) (sym et) (list b);
    does = does_item avoid x d ed does;
  }

  pub fits_one : (avoid : Option ℕ) (w : Where) (e : Ending) (op : Op) → GoodOp op → ends_list w e op.kind ≡ true → Each (Writes avoid) (written op) → Fits avoid w e (One op ∷ [])
  fits_one avoid w e op good ends writes =
      fits_item avoid w e (One op) _ _ _ (laid-One op) (fitting-One op) (doing-One op) (λ c. (good, tt)) (λ b. ends) (does_op avoid op writes)

  pub fits_leave : (avoid : Option ℕ) (w : Where) (op : Op) (to : LeaveTo) → GoodOp op → leave_fits w op to ≡ true → Each (Writes avoid) (written op) → Fits avoid w Open (Leave op to ∷ [])
  fits_leave avoid w op to good fits writes =
      fits_item avoid w Open (Leave op to) _ _ _ (laid-Leave op to) (fitting-Leave op to) (doing-Leave op to) (λ c. (good, tt)) (λ b. fits) (does_op avoid op writes)

  pub fits_call : (avoid : Option ℕ) (w : Where) (op : Op) (f : ℕ) → GoodOp op → is_kind op.kind kind.Call ≡ true → G.calls f → Fits avoid w Open (CallTo op f ∷ [])
  fits_call avoid w op f good is_call calls =
      fits_item avoid w Open (CallTo op f) _ _ _ (laid-CallTo op f) (fitting-CallTo op f) (doing-CallTo op f) (λ c. (good, tt)) (λ b. is_call) (record { calls = (calls, tt); writes = tt; turns = tt })

  pub fits_switch : (avoid : Option ℕ) (w : Where) (xs : List Item) → Fits avoid (rules.in_switch w) Open xs → Fits avoid w Open (Switch xs ∷ [])
  fits_switch avoid w xs h =
      fits_item avoid w Open (Switch xs) _ _ _ (laid-Switch xs) (fitting-Switch xs) (doing-Switch xs) (λ c. h.ops (record c { break_to = c.behind })) (λ b. h.list None) h.does

  pub fits_branch : (avoid : Option ℕ) (w : Where) (test : Op) (xs ys : List Item) → GoodOp test → is_kind test.kind kind.Test ≡ true → (has_none (fittings ys) || ends_in_go (fittings xs)) ≡ true
      → Fits avoid w MayGo xs → Fits avoid w Open ys → Fits avoid w Open (Branch test xs ys ∷ [])
  fits_branch avoid w test xs ys good is_test over h k =
      fits_item avoid w Open (Branch test xs ys) _ _ _ (laid-Branch test xs ys) (fitting-Branch test xs ys) (doing-Branch test xs ys)
      (λ c. (good, each_append GoodNode (nodes_of (laid_items xs) c) (nodes_of (laid_items ys) c) (h.ops c) (k.ops c)))
      (λ b. and_both (is_kind test.kind kind.Test) _ is_test (and_both (has_none (fittings ys) || ends_in_go (fittings xs)) _ over (and_both (list_fits w MayGo None (fittings xs)) (list_fits w Open None (fittings ys)) (h.list None) (k.list None))))
      (does_both avoid (doings xs) (doings ys) h.does k.does)

  -- ---- loops

  pub loop_ops : (pre : List Item) (test : Op) (post step : List Item) (back : Op) → ((c : Around) → Each GoodNode (nodes_of (laid_items pre) c)) → GoodOp test → ((c : Around) → Each GoodNode (nodes_of (laid_items post) c))
      → ((c : Around) → Each GoodNode (nodes_of (laid_items step) c)) → GoodOp back → (c : Around) → Each GoodNode (loop_nodes (laid_items pre) test (laid_items post) (laid_items step) back c)
  loop_ops pre test post step back hp t ho hs b c =
      let again : ℕ = first_of (laid_items step) back.number in
      each_append GoodNode (nodes_of (laid_items pre) (in_loop (laid_items step) back c test.number)) _ (hp (in_loop (laid_items step) back c test.number)) (
        t,
        each_append GoodNode (nodes_of (laid_items post) (in_loop (laid_items step) back c again)) _ (ho (in_loop (laid_items step) back c again))
            (each_append GoodNode (nodes_of (laid_items step) (in_loop (laid_items step) back c back.number)) _ (hs (in_loop (laid_items step) back c back.number)) (b, tt)),
      )

  pub fits_loop : (avoid : Option ℕ) (w : Where) (pre : List Item) (test : Op) (post step : List Item) (back : Op) → GoodOp test → is_kind test.kind kind.Test ≡ true → GoodOp back → is_kind back.kind kind.Go ≡ true
      → Fits avoid (rules.in_loop w None) Open pre → Fits avoid (rules.in_loop w None) Open post → Fits avoid (rules.in_loop w None) Open step → Fits avoid w Open (Loop pre test post step back None ∷ [])
  fits_loop avoid w pre test post step back good is_test goes is_go hp ho hs =
      let v : Where = rules.in_loop w None in
      let d = does_both avoid (doings pre) _ hp.does (does_both avoid (doings post) (doings step) ho.does hs.does) in
      fits_item avoid w Open (Loop pre test post step back None) _ _ _ (laid-Loop pre test post step back None) (fitting-Loop pre test post step back None) (doing-Loop pre test post step back None)
      (loop_ops pre test post step back hp.ops good ho.ops hs.ops goes)
      (λ b. and_both (is_kind back.kind kind.Go) _ is_go (and_both (is_kind test.kind kind.Test) _ is_test (and_both (list_fits v Open None (fittings pre)) _ (hp.list None)
      (and_both (list_fits v Open None (fittings post)) (list_fits v Open None (fittings step)) (ho.list None) (hs.list None)))))
      (record { calls = d.calls; writes = d.writes; turns = d.turns })

  -- ---- arms that end in a Go

  pub go_last : (xs : List Item) (op : Op) → is_kind op.kind kind.Go ≡ true → ends_in_go (fittings (xs ++ One op ∷ [])) ≡ true
  go_last [] op h = subst (λ (t : Fitting). is_go_alone t.alone ≡ true) (sym (fitting-One op)) h
  go_last (x ∷ []) op h = go_last [] op h
  go_last (x ∷ z ∷ zs) op h = go_last (z ∷ zs) op h

  -- whatever stands before an end in a Go
  pub go_behind : (xs ys : List Item) → ends_in_go (fittings ys) ≡ true → ends_in_go (fittings (xs ++ ys)) ≡ true
  go_behind [] ys h = h
  go_behind (x ∷ []) [] h = absurd (false≢true h)
  go_behind (x ∷ []) (y ∷ ys) h = h
  go_behind (x ∷ z ∷ zs) ys h = go_behind (z ∷ zs) ys h

  -- ---- what is spared

  abbrev pub Spared : Option ℕ → Type 0
  Spared None = ⊤
  Spared (Some y) = G.local y

  pub writes_temporary : (avoid : Option ℕ) (t : ℕ) → Spared avoid → G.base ≤ t → t < G.top → Writes avoid t
  writes_temporary None t s lo hi = ((G.temporary t lo hi).1, tt)
  writes_temporary (Some y) t s lo hi = ((G.temporary t lo hi).1, G.apart_temporary t y s lo hi)

  pub writes_parameter : (avoid : Option ℕ) (f : ℕ) (fn : Function) (x : ℕ) → Spared avoid → G.callee f → slice_get G.setting.program.functions f ≡ Some fn → Contains fn.params x → Writes avoid (home G.setting x)
  writes_parameter None f fn x s c e h = ((G.parameter f fn x c e h).1, tt)
  writes_parameter (Some y) f fn x s c e h = ((G.parameter f fn x c e h).1, G.apart_parameter f fn x y s c e h)

  pub writes_result : (avoid : Option ℕ) (ty : Ty) → Spared avoid → G.is_main ≡ false → G.result ≡ Some ty → Writes avoid (result_home G.setting G.function)
  writes_result None ty s m e = ((G.own_result ty m e).1, tt)
  writes_result (Some y) ty s m e = ((G.own_result ty m e).1, G.apart_result ty y s m e)

  -- a variable other than the one that is spared
  abbrev pub Other : Option ℕ → ℕ → Type 0
  Other None x = ⊤
  Other (Some y) x = x ≢ y

  pub writes_variable : (avoid : Option ℕ) (x : ℕ) → Spared avoid → G.known x → Other avoid x → Writes avoid (home G.setting x)
  writes_variable None x s k o = (G.known_may x k, tt)
  writes_variable (Some y) x s k o = (G.known_may x k, G.apart x y s k o)
