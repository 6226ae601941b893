-- The operations of a part that fits where it stands: where each goes on, by its kind.
use Rattle.std.proofs.Common.{◌≡◌, ℕ, zero, suc, Bool, true, false, Option, None, Some, List, [], ◌∷◌, ◌++◌, inl, inr, refl, sym, ap, subst, ◌∙◌, arith}
use Rattle.std.specs.Prelude.{map, ⊤, Contains, ◌&&◌, ◌||◌, slice_get}
use Rattle.std.proofs.lemmas.Bool.{and_parts, or_cases, false≢true}
use Rattle.std.proofs.lemmas.List.Elements.{Contains-append_left, Contains-append_right}
use Rattle.flow_graph.specs.declared.graph.Operand.{Operand}
use Rattle.flow_graph.specs.declared.graph.Operand.TheVariants.{Const, Object}
use Rattle.flow_graph.specs.declared.graph.Op.{Op}
use Rattle.flow_graph.specs.declared.graph.OpKind.{OpKind}
use Rattle.flow_graph.specs.declared.graph.OpKind.TheVariants as kind
use Rattle.flow_graph.specs.declared.graph.LeaveTo.{LeaveTo}
use Rattle.flow_graph.specs.declared.graph.LeaveTo.TheVariants.{Break, Continue, Back}
use Rattle.flow_graph.specs.declared.graph.Item.{Item, roll-Item}
use Rattle.flow_graph.specs.declared.graph.Item.TheOpen.{Item-F}
use Rattle.flow_graph.specs.declared.graph.Item.TheFolds.{map-Item, fold-roll-Item, ind-Item}
use Rattle.flow_graph.specs.declared.nodes.Next.TheVariants as next
use Rattle.flow_graph.specs.declared.nodes.Node.{Node}
use Rattle.flow_graph.specs.declared.nodes.Around.{Around}
use Rattle.flow_graph.specs.Nodes.{Laid, at_behind, call_node, first_of, in_loop, laid, laid_by, laid_items, leave_to, loop_nodes, next_of, node, nodes_of, test_node}
use Rattle.flow_graph.specs.Rules.{Doing, Ending, Fitting, Open, MayGo, Returns, Where, branch_fits, counted_by, counted_fits, counts_up, doing, doing_all, doing_both, doing_by, doing_op, doings, ends_in_go, ends_list, fitting, fitting_by, fittings, has_none, in_loop as where_in_loop, in_switch, is_kind, is_step, leave_fits, list_fits, loop_fits, not_returning, nothing, return_kind, stands_alone, turns_of, with_turns}
use Rattle.flow_graph.specs.Closed.{IsNextOf, Stays, goes_on, is_test}
use Rattle.flow_graph.proofs.ListLemmas.{Stood, stood_first, stood_behind, stood_left, stood_right}

-- ---- kinds

pub is_go : (k : OpKind) → is_kind k kind.Go ≡ true → k ≡ kind.Go
is_go kind.Go e = refl
is_go _ e = absurd (false≢true e)

pub is_return : (k : OpKind) → is_kind k kind.Ret ≡ true → k ≡ kind.Ret
is_return kind.Ret e = refl
is_return _ e = absurd (false≢true e)

pub is_finish : (k : OpKind) → is_kind k kind.Finish ≡ true → k ≡ kind.Finish
is_finish kind.Finish e = refl
is_finish _ e = absurd (false≢true e)

is_call : (k : OpKind) → is_kind k kind.Call ≡ true → k ≡ kind.Call
is_call kind.Call e = refl
is_call _ e = absurd (false≢true e)

tests : (k : OpKind) → is_kind k kind.Test ≡ true → is_test k ≡ true
tests kind.Test e = refl
tests _ e = absurd (false≢true e)

tests_below : (k : OpKind) → is_kind k kind.Below ≡ true → is_test k ≡ true
tests_below kind.Below e = refl
tests_below _ e = absurd (false≢true e)

step_goes_on : (k : OpKind) → is_kind k kind.Step ≡ true → goes_on k ≡ true
step_goes_on kind.Step e = refl
step_goes_on _ e = absurd (false≢true e)

go_goes_on : (k : OpKind) → is_kind k kind.Go ≡ true → goes_on k ≡ true
go_goes_on k e = ap goes_on (is_go k e)

alone_goes_on : (k : OpKind) → stands_alone k ≡ true → goes_on k ≡ true
alone_goes_on kind.Finish e = e
alone_goes_on kind.Test e = e
alone_goes_on kind.Below e = e
alone_goes_on kind.Call e = e
alone_goes_on kind.Ret e = e
alone_goes_on _ e = refl

next_plain : (k : OpKind) (n : ℕ) → goes_on k ≡ true → next_of k n ≡ next.To n
next_plain kind.Ret n e = absurd (false≢true e)
next_plain kind.Finish n e = absurd (false≢true e)
next_plain _ n e = refl

-- ---- the numbers of nodes, and what holds of each

pub record Has (xs : List Node) (n : ℕ) : Type 0 where
  pub found : Node
  pub stood : Stood xs found
  pub number : found.op.number ≡ n

pub has_first : (x : Node) (xs : List Node) → Has (x ∷ xs) x.op.number
has_first x xs = record { found = x; stood = stood_first x xs; number = refl }

has_behind : (x : Node) (xs : List Node) (n : ℕ) → Has xs n → Has (x ∷ xs) n
has_behind x xs n h = record { found = h.found; stood = stood_behind x xs h.found h.stood; number = h.number }

has_left : (xs ys : List Node) (n : ℕ) → Has xs n → Has (xs ++ ys) n
has_left xs ys n h = record { found = h.found; stood = stood_left xs ys h.found h.stood; number = h.number }

has_right : (xs ys : List Node) (n : ℕ) → Has ys n → Has (xs ++ ys) n
has_right xs ys n h = record { found = h.found; stood = stood_right xs ys h.found h.stood; number = h.number }

abbrev pub Each : (Node → Type 0) → List Node → Type 0
Each P [] = ⊤
Each P (x ∷ xs) = P x × Each P xs

each-append : (P : Node → Type 0) (xs ys : List Node) → Each P xs → Each P ys → Each P (xs ++ ys)
each-append P [] ys h k = k
each-append P (x ∷ xs) ys h k = (h.0, each-append P xs ys h.1 k)

each_at : (P : Node → Type 0) (xs : List Node) (k : ℕ) (x : Node) → Each P xs → slice_get xs k ≡ Some x → P x
each_at P [] k x h e = absurd (cc)
each_at P (y ∷ ys) zero x h e = let same : y ≡ x = cc in subst P same h.0
each_at P (y ∷ ys) (suc k) x h e = each_at P ys k x h.1 e

pub each_stood : (P : Node → Type 0) (xs : List Node) (x : Node) → Each P xs → Stood xs x → P x
each_stood P xs x h s = each_at P xs s.place x h s.is_there

-- ---- what a rule says of parts

branch_parts : (w : Where) (test : Op) (a b : List Fitting) → branch_fits w test a b ≡ true → (is_kind test.kind kind.Test ≡ true) × (list_fits w MayGo None a ≡ true) × (list_fits w Open None b ≡ true)
branch_parts w test a b f =
    let p = and_parts (is_kind test.kind kind.Test) ((has_none b || ends_in_go a) && (list_fits w MayGo None a && list_fits w Open None b)) f in
    let q = and_parts (has_none b || ends_in_go a) (list_fits w MayGo None a && list_fits w Open None b) p.1 in
    let r = and_parts (list_fits w MayGo None a) (list_fits w Open None b) q.1 in (p.0, r.0, r.1)

pub plain_parts : (w : Where) (before : Option Op) (pre : List Fitting) (test : Op) (post step : List Fitting) (back : Op) → loop_fits w before pre test post step back None ≡ true
    → (is_kind back.kind kind.Go ≡ true) × (is_kind test.kind kind.Test ≡ true) × (list_fits (where_in_loop w None) Open None pre ≡ true) × (list_fits (where_in_loop w None) Open None post ≡ true) × (list_fits (where_in_loop w None) Open None step ≡ true)
plain_parts w before pre test post step back f =
    let in' = where_in_loop w None in
    let x = list_fits in' Open None pre in
    let y = list_fits in' Open None post in
    let z = list_fits in' Open None step in
    let p = and_parts (is_kind back.kind kind.Go) (is_kind test.kind kind.Test && (x && (y && z))) f in
    let q = and_parts (is_kind test.kind kind.Test) (x && (y && z)) p.1 in
    let r = and_parts x (y && z) q.1 in
    let s = and_parts y z r.1 in (p.0, q.0, r.0, s.0, s.1)

-- the one step of a loop that counts
pub record OneStep (step : List Fitting) : Type 0 where
  pub only : Fitting
  pub op : Op
  pub is_only : step ≡ only ∷ []
  pub is_alone : only.alone ≡ Some op
  pub steps : is_kind op.kind kind.Step ≡ true

pub one_step : (step : List Fitting) (i : ℕ) → counts_up step i ≡ true → OneStep step
one_step [] i f = absurd (false≢true f)
one_step (x ∷ []) i f = by_alone x.alone refl f
  where
    by_alone : (o : Option Op) → x.alone ≡ o → is_step o i ≡ true → OneStep (x ∷ [])
    by_alone None e s = absurd (false≢true s)
    by_alone (Some op) e s = record { only = x; op = op; is_only = refl; is_alone = e; steps = (and_parts (is_kind op.kind kind.Step) _ s).0 }
one_step (x ∷ y ∷ rest) i f = absurd (false≢true f)

by_operands : (step : List Fitting) (before : Option Op) (c : ℕ) (a b : Operand) → counted_by step before c a b ≡ true → OneStep step
by_operands step before c (Object i) (Const b) f = one_step step i (and_parts _ (counts_up step i) f).1
by_operands step before c (Object i) (Object b) f = absurd (false≢true f)
by_operands step before c (Const a) b f = absurd (false≢true f)

pub counted_parts : (w : Where) (before : Option Op) (pre : List Fitting) (test : Op) (post step : List Fitting) (back : Op) (c : ℕ) → loop_fits w before pre test post step back (Some c) ≡ true
    → (is_kind back.kind kind.Go ≡ true) × (is_kind test.kind kind.Below ≡ true) × (has_none pre ≡ true) × OneStep step × (list_fits (where_in_loop w (Some c)) Open None post ≡ true)
counted_parts w before pre test post step back c f =
    let y = list_fits (where_in_loop w (Some c)) Open None post in
    let by = counted_by step before c test.a test.b in
    let p = and_parts (is_kind back.kind kind.Go) (counted_fits test pre step before c && y) f in
    let q = and_parts (counted_fits test pre step before c) y p.1 in
    let r = and_parts (is_kind test.kind kind.Below) (has_none pre && by) q.0 in
    let s = and_parts (has_none pre) by r.1 in (p.0, r.0, s.0, by_operands step before c test.a test.b s.1, q.1)

-- only a return may end a body
abbrev pub NeedsBehind : Ending → Type 0
NeedsBehind Open = ⊤
NeedsBehind MayGo = ⊤
NeedsBehind Returns = ⊥

-- ---- an item by its layer

pub laid_rolled : (x : Item-F Item) → laid (roll-Item x) ≡ laid_by (map-Item Item Laid laid x)
unfolding laid
laid_rolled x = fold-roll-Item Laid laid_by x

pub fitting_rolled : (x : Item-F Item) → fitting (roll-Item x) ≡ fitting_by (map-Item Item Fitting fitting x)
unfolding fitting
fitting_rolled x = fold-roll-Item Fitting fitting_by x

-- ---- parts of a function, whose operations have these numbers and which calls these functions

module _ (In : ℕ → Type 0) (Calls : ℕ → Type 0) where
  abbrev pub Within : List Node → Type 0
  Within xs = (j : ℕ) → Has xs j → In j

  abbrev pub Calling : List ℕ → Type 0
  Calling fs = (f : ℕ) → Contains fs f → Calls f

  pub record Good (in_main : Bool) (x : Node) : Type 0 where
    pub stays : (j : ℕ) → Stays x.next j → In j
    pub by_kind : IsNextOf x.op.kind x.next
    pub returns : x.next ≡ next.Returns → in_main ≡ false
    pub calls : (f n : ℕ) → x.next ≡ next.Into f n → Calls f

  -- what lies around a part is within, where a part that fits may go there
  pub record Held (w : Where) (e : Ending) (c : Around) : Type 0 where
    pub behind : NeedsBehind e → In c.behind
    pub breaks : w.breaks ≡ true → In c.break_to
    pub continues : w.continues ≡ true → In c.continue_to

  pub record GoodItem (l : Laid) (t : Fitting) (d : Doing) : Type 0 where
    pub first : (n : ℕ) (c : Around) → Within (l.nodes c) → In n → In (l.first n)
    pub ends : (w : Where) (before : Option Op) (n : ℕ) (c : Around) → t.fits w Returns before ≡ true → Within (l.nodes c) → In (l.first n)
    pub alone : (op : Op) (c : Around) → t.alone ≡ Some op → l.nodes c ≡ node op c.behind ∷ []
    pub nodes : (w : Where) (e : Ending) (before : Option Op) (c : Around) → t.fits w e before ≡ true → Held w e c → Within (l.nodes c) → Calling d.calls → Each (Good w.in_main) (l.nodes c)

  pub record GoodList (ls : List Laid) (ts : List Fitting) (d : Doing) : Type 0 where
    pub first : (n : ℕ) (c : Around) → Within (nodes_of ls c) → In n → In (first_of ls n)
    pub ends : (w : Where) (before : Option Op) (n : ℕ) (c : Around) → list_fits w Returns before ts ≡ true → Within (nodes_of ls c) → In (first_of ls n)
    pub none : (c : Around) → has_none ts ≡ true → nodes_of ls c ≡ []
    pub alone : (t : Fitting) (op : Op) (c : Around) → ts ≡ t ∷ [] → t.alone ≡ Some op → nodes_of ls c ≡ node op c.behind ∷ []
    pub nodes : (w : Where) (e : Ending) (before : Option Op) (c : Around) → list_fits w e before ts ≡ true → Held w e c → Within (nodes_of ls c) → Calling d.calls → Each (Good w.in_main) (nodes_of ls c)

  -- ---- one part after another

  good_none : GoodList [] [] nothing
  good_none = record {
    first = λ n c h i. i;
    ends = λ w before n c f h. absurd (false≢true f);
    none = λ c e. refl;
    alone = λ t op c e a. absurd (cc);
    nodes = λ w e before c f held h calls. tt;
  }

  good_one : (l : Laid) (t : Fitting) (d : Doing) → GoodItem l t d → GoodList (l ∷ []) (t ∷ []) (doing_both d nothing)
  good_one l t d g = record {
    first = λ n c h i. g.first n c (λ j k. h j (has_left (l.nodes c) [] j k)) i;
    ends = λ w before n c f h. g.ends w before n c f (λ j k. h j (has_left (l.nodes c) [] j k));
    none = λ c e. absurd (false≢true e);
    alone = λ u op c e a. let same : t ≡ u = cc in ap (λ ns. ns ++ []) (g.alone op c (ap (λ x. x.alone) same ∙ a));
    nodes = λ w e before c f held h calls. each-append (Good w.in_main) (l.nodes c) []
        (g.nodes w e before c f held (λ j k. h j (has_left (l.nodes c) [] j k)) (λ x k. calls x (Contains-append_left d.calls [] x k))) tt;
  }

  rest_within : (w : Where) (before : Option Op) (e : Ending) (c : Around) (ls : List Laid) (ts : List Fitting) (d : Doing) → GoodList ls ts d
      → list_fits w e before ts ≡ true → Held w e c → Within (nodes_of ls c) → In (first_of ls c.behind)
  rest_within w before Open c ls ts d g f held h = g.first c.behind c h (held.behind tt)
  rest_within w before MayGo c ls ts d g f held h = g.first c.behind c h (held.behind tt)
  rest_within w before Returns c ls ts d g f held h = g.ends w before c.behind c f h

  module _ (l : Laid) (t : Fitting) (d : Doing) (l2 : Laid) (ls : List Laid) (t2 : Fitting) (ts : List Fitting) (ds : Doing) (g : GoodItem l t d) (r : GoodList (l2 ∷ ls) (t2 ∷ ts) ds) where
    front : Around → Around
    front c = at_behind c (first_of (l2 ∷ ls) c.behind)

    front_within : (c : Around) → Within (nodes_of (l ∷ l2 ∷ ls) c) → Within (l.nodes (front c))
    unfolding front
    front_within c h j k = h j (has_left (l.nodes (front c)) (nodes_of (l2 ∷ ls) c) j k)

    rest_of : (c : Around) → Within (nodes_of (l ∷ l2 ∷ ls) c) → Within (nodes_of (l2 ∷ ls) c)
    rest_of c h j k = h j (has_right (l.nodes (at_behind c (first_of (l2 ∷ ls) c.behind))) (nodes_of (l2 ∷ ls) c) j k)

    more_nodes : (w : Where) (e : Ending) (before : Option Op) (c : Around) → list_fits w e before (t ∷ t2 ∷ ts) ≡ true → Held w e c → Within (nodes_of (l ∷ l2 ∷ ls) c) → Calling (d.calls ++ ds.calls)
        → Each (Good w.in_main) (nodes_of (l ∷ l2 ∷ ls) c)
    unfolding front
    more_nodes w e before c f held h calls =
        let p = and_parts (t.fits w Open before) (list_fits w e t.alone (t2 ∷ ts)) f in
        each-append (Good w.in_main) (l.nodes (front c)) (nodes_of (l2 ∷ ls) c)
        (g.nodes w Open before (front c) p.0 (record { behind = λ _. rest_within w t.alone e c (l2 ∷ ls) (t2 ∷ ts) ds r p.1 held (rest_of c h); breaks = held.breaks; continues = held.continues })
        (front_within c h) (λ x k. calls x (Contains-append_left d.calls ds.calls x k)))
        (r.nodes w e t.alone c p.1 held (rest_of c h) (λ x k. calls x (Contains-append_right d.calls ds.calls x k)))

    good_more : GoodList (l ∷ l2 ∷ ls) (t ∷ t2 ∷ ts) (doing_both d ds)
    unfolding front
    good_more = record {
      first = λ n c h i. g.first (first_of (l2 ∷ ls) n) (front c) (front_within c h) (r.first n c (rest_of c h) i);
      ends = λ w before n c f h.
          let p = and_parts (t.fits w Open before) (list_fits w Returns t.alone (t2 ∷ ts)) f in
          g.first (first_of (l2 ∷ ls) n) (front c) (front_within c h) (r.ends w t.alone n c p.1 (rest_of c h));
      none = λ c e. absurd (false≢true e);
      alone = λ u op c e a. absurd (cc);
      nodes = more_nodes;
    }

  -- ---- nodes

  kept_node : (m : Bool) (op : Op) (n : ℕ) → goes_on op.kind ≡ true → In n → Good m (node op n)
  kept_node m op n g i =
      let p = next_plain op.kind n g in
      record {
        stays = λ j s. subst In (sym (subst (λ x. Stays x j) p s)) i;
        by_kind = subst (IsNextOf op.kind) (sym p) g;
        returns = λ e. let bad : next.To n ≡ next.Returns = sym p ∙ e in absurd (cc);
        calls = λ f k e. let bad : next.To n ≡ next.Into f k = sym p ∙ e in absurd (cc);
      }

  return_node : (m : Bool) (op : Op) (n : ℕ) → is_kind op.kind (return_kind m) ≡ true → Good m (node op n)
  return_node true op n f =
      let k = is_finish op.kind f in
      let p : next_of op.kind n ≡ next.Ends = ap (λ x. next_of x n) k in
      record {
        stays = λ j s. absurd (subst (λ x. Stays x j) p s);
        by_kind = subst (IsNextOf op.kind) (sym p) k;
        returns = λ e. let bad : next.Ends ≡ next.Returns = sym p ∙ e in absurd (cc);
        calls = λ g x e. let bad : next.Ends ≡ next.Into g x = sym p ∙ e in absurd (cc);
      }
  return_node false op n f =
      let k = is_return op.kind f in
      let p : next_of op.kind n ≡ next.Returns = ap (λ x. next_of x n) k in
      record {
        stays = λ j s. absurd (subst (λ x. Stays x j) p s);
        by_kind = subst (IsNextOf op.kind) (sym p) k;
        returns = λ e. refl;
        calls = λ g x e. let bad : next.Returns ≡ next.Into g x = sym p ∙ e in absurd (cc);
      }

  good_test : (m : Bool) (op : Op) (n k : ℕ) → is_test op.kind ≡ true → In n → In k → Good m (test_node op n k)
  good_test m op n k t i l = record {
    stays = λ j s. elim s [
      | inl e ↦ subst In (sym e) i
      | inr e ↦ subst In (sym e) l
    ];
    by_kind = t;
    returns = λ e. absurd (cc);
    calls = λ f x e. absurd (cc);
  }

  good_call : (m : Bool) (op : Op) (f n : ℕ) → op.kind ≡ kind.Call → In n → Calls f → Good m (call_node op f n)
  good_call m op f n k i c = record {
    stays = λ j s. subst In (sym s) i;
    by_kind = k;
    returns = λ e. absurd (cc);
    calls = λ g x e. let same : f ≡ g = cc in subst Calls same c;
  }

  behind_within : (w : Where) (e : Ending) (c : Around) → not_returning e ≡ true → Held w e c → In c.behind
  behind_within w Open c n held = held.behind tt
  behind_within w MayGo c n held = held.behind tt
  behind_within w Returns c n held = absurd (false≢true n)

  -- ---- each kind of item

  one_node : (w : Where) (e : Ending) (op : Op) (c : Around) → ends_list w e op.kind ≡ true → Held w e c → Good w.in_main (node op c.behind)
  one_node w Open op c f held = kept_node w.in_main op c.behind (alone_goes_on op.kind f) (held.behind tt)
  one_node w MayGo op c f held = elim (or_cases (stands_alone op.kind) (is_kind op.kind kind.Go) f) [
    | inl a ↦ kept_node w.in_main op c.behind (alone_goes_on op.kind a) (held.behind tt)
    | inr b ↦ kept_node w.in_main op c.behind (go_goes_on op.kind b) (held.behind tt)
  ]
  one_node w Returns op c f held = return_node w.in_main op c.behind f

  good_op : (op : Op) → GoodItem (laid_by (Item-F.One op)) (fitting_by (Item-F.One op)) (doing_op op)
  good_op op = record {
    first = λ n c h i. h op.number (has_first (node op c.behind) []);
    ends = λ w before n c f h. h op.number (has_first (node op c.behind) []);
    alone = λ o c e. let same : op ≡ o = cc in ap (λ p. node p c.behind ∷ []) same;
    nodes = λ w e before c f held h calls. (one_node w e op c f held, tt);
  }

  good_branch : (test : Op) (la : List Laid) (ta : List Fitting) (da : Doing) (lb : List Laid) (tb : List Fitting) (db : Doing) → GoodList la ta da → GoodList lb tb db
      → GoodItem (laid_by (Item-F.Branch test la lb)) (fitting_by (Item-F.Branch test ta tb)) (doing_both da db)
  good_branch test la ta da lb tb db a b = record {
    first = λ n c h i. h test.number (has_first (test_node test (first_of la c.behind) (first_of lb c.behind)) (nodes_of la c ++ nodes_of lb c));
    ends = λ w before n c f h. absurd (false≢true f);
    alone = λ o c e. absurd (cc);
    nodes = λ w e before c f held h calls.
        let p = and_parts (not_returning e) (branch_fits w test ta tb) f in
        let i = behind_within w e c p.0 held in
        let q = branch_parts w test ta tb p.1 in
        let x = test_node test (first_of la c.behind) (first_of lb c.behind) in
        let ha : Within (nodes_of la c) = λ j k. h j (has_behind x (nodes_of la c ++ nodes_of lb c) j (has_left (nodes_of la c) (nodes_of lb c) j k)) in
        let hb : Within (nodes_of lb c) = λ j k. h j (has_behind x (nodes_of la c ++ nodes_of lb c) j (has_right (nodes_of la c) (nodes_of lb c) j k)) in (
          good_test w.in_main test (first_of la c.behind) (first_of lb c.behind) (tests test.kind q.0) (a.first c.behind c ha i) (b.first c.behind c hb i),
          each-append (Good w.in_main) (nodes_of la c) (nodes_of lb c)
              (a.nodes w MayGo None c q.1 (record { behind = λ _. i; breaks = held.breaks; continues = held.continues }) ha (λ y k. calls y (Contains-append_left da.calls db.calls y k)))
              (b.nodes w Open None c q.2 (record { behind = λ _. i; breaks = held.breaks; continues = held.continues }) hb (λ y k. calls y (Contains-append_right da.calls db.calls y k))),
        );
  }

  good_switch : (ls : List Laid) (ts : List Fitting) (d : Doing) → GoodList ls ts d → GoodItem (laid_by (Item-F.Switch ls)) (fitting_by (Item-F.Switch ts)) d
  good_switch ls ts d g = record {
    first = λ n c h i. g.first n (record c { break_to = c.behind }) h i;
    ends = λ w before n c f h. absurd (false≢true f);
    alone = λ o c e. absurd (cc);
    nodes = λ w e before c f held h calls.
        let p = and_parts (not_returning e) (list_fits (in_switch w) Open None ts) f in
        let i = behind_within w e c p.0 held in
        g.nodes (in_switch w) Open None (record c { break_to = c.behind }) p.1 (record { behind = λ _. i; breaks = λ _. i; continues = held.continues }) h calls;
  }

  good_call_to : (op : Op) (f : ℕ) → GoodItem (laid_by (Item-F.CallTo op f)) (fitting_by (Item-F.CallTo op f)) (doing_by (Item-F.CallTo op f))
  good_call_to op f = record {
    first = λ n c h i. h op.number (has_first (call_node op f c.behind) []);
    ends = λ w before n c x h. absurd (false≢true x);
    alone = λ o c e. absurd (cc);
    nodes = λ w e before c x held h calls.
        let p = and_parts (not_returning e) (is_kind op.kind kind.Call) x in
        (good_call w.in_main op f c.behind (is_call op.kind p.1) (behind_within w e c p.0 held) (calls f (0, omega arith, refl)), tt);
  }

  leave_node : (w : Where) (e : Ending) (op : Op) (to : LeaveTo) (c : Around) → leave_fits w op to ≡ true → Held w e c → Good w.in_main (node op (leave_to to c))
  leave_node w e op Break c f held = let p = and_parts w.breaks (is_kind op.kind kind.Go) f in kept_node w.in_main op c.break_to (go_goes_on op.kind p.1) (held.breaks p.0)
  leave_node w e op Continue c f held = let p = and_parts w.continues (is_kind op.kind kind.Go) f in kept_node w.in_main op c.continue_to (go_goes_on op.kind p.1) (held.continues p.0)
  leave_node w e op Back c f held = let p = and_parts w.returns (is_kind op.kind (return_kind w.in_main)) f in return_node w.in_main op c.behind p.1

  good_leave : (op : Op) (to : LeaveTo) → GoodItem (laid_by (Item-F.Leave op to)) (fitting_by (Item-F.Leave op to)) (doing_op op)
  good_leave op to = record {
    first = λ n c h i. h op.number (has_first (node op (leave_to to c)) []);
    ends = λ w before n c f h. absurd (false≢true f);
    alone = λ o c e. absurd (cc);
    nodes = λ w e before c f held h calls.
        let p = and_parts (not_returning e) (leave_fits w op to) f in (leave_node w e op to c p.1 held, tt);
  }

  -- ---- loops

  module _ (lp : List Laid) (tp : List Fitting) (dp : Doing) (test : Op) (lo : List Laid) (to : List Fitting) (d : Doing) (ls : List Laid) (ts : List Fitting) (ds : Doing) (back : Op)
      (pre : GoodList lp tp dp) (post : GoodList lo to d) (step : GoodList ls ts ds) where
    abbrev again : ℕ
    again = first_of ls back.number

    abbrev P : Around → List Node
    P c = nodes_of lp (in_loop ls back c test.number)

    abbrev T : Around → Node
    T c = test_node test (first_of lo again) c.behind

    abbrev O : Around → List Node
    O c = nodes_of lo (in_loop ls back c again)

    abbrev S : Around → List Node
    S c = nodes_of ls (in_loop ls back c back.number)

    abbrev B : List Node
    B = node back (first_of lp test.number) ∷ []

    abbrev whole : Around → List Node
    whole c = loop_nodes lp test lo ls back c

    in_pre : (c : Around) → Within (whole c) → Within (P c)
    in_pre c h j k = h j (has_left (P c) (T c ∷ (O c ++ (S c ++ B))) j k)

    in_test : (c : Around) → Within (whole c) → In test.number
    in_test c h = h test.number (has_right (P c) (T c ∷ (O c ++ (S c ++ B))) test.number (has_first (T c) (O c ++ (S c ++ B))))

    in_rest : (c : Around) → Within (whole c) → Within (O c ++ (S c ++ B))
    in_rest c h j k = h j (has_right (P c) (T c ∷ (O c ++ (S c ++ B))) j (has_behind (T c) (O c ++ (S c ++ B)) j k))

    in_post : (c : Around) → Within (whole c) → Within (O c)
    in_post c h j k = in_rest c h j (has_left (O c) (S c ++ B) j k)

    in_step : (c : Around) → Within (whole c) → Within (S c)
    in_step c h j k = in_rest c h j (has_right (O c) (S c ++ B) j (has_left (S c) B j k))

    in_back : (c : Around) → Within (whole c) → In back.number
    in_back c h = in_rest c h back.number (has_right (O c) (S c ++ B) back.number (has_right (S c) B back.number (has_first (node back (first_of lp test.number)) [])))

    in_again : (c : Around) → Within (whole c) → In again
    in_again c h = step.first back.number (in_loop ls back c back.number) (in_step c h) (in_back c h)

    in_passed : (c : Around) → Within (whole c) → In (first_of lo again)
    in_passed c h = post.first again (in_loop ls back c again) (in_post c h) (in_again c h)

    in_top : (c : Around) → Within (whole c) → In (first_of lp test.number)
    in_top c h = pre.first test.number (in_loop ls back c test.number) (in_pre c h) (in_test c h)

    -- a part of the loop, of which this is behind
    held_part : (w : Where) (c : Around) (n : ℕ) → Within (whole c) → In c.behind → In n → Held w Open (in_loop ls back c n)
    held_part w c n h i k = record { behind = λ _. k; breaks = λ _. i; continues = λ _. in_again c h }

    loop_parts : (m : Bool) (c : Around) → Within (whole c) → In c.behind → is_test test.kind ≡ true → is_kind back.kind kind.Go ≡ true
        → Each (Good m) (P c) → Each (Good m) (O c) → Each (Good m) (S c) → Each (Good m) (whole c)
    loop_parts m c h i t b x y z =
        each-append (Good m) (P c) (T c ∷ (O c ++ (S c ++ B))) x (
          good_test m test (first_of lo again) c.behind t (in_passed c h) i,
          each-append (Good m) (O c) (S c ++ B) y (each-append (Good m) (S c) B z (kept_node m back (first_of lp test.number) (go_goes_on back.kind b) (in_top c h), tt)),
        )

    loop_whole : (w : Where) (before : Option Op) (c : Around) (count : Option ℕ) → loop_fits w before tp test to ts back count ≡ true → Within (whole c) → In c.behind
        → Calling (dp.calls ++ (d.calls ++ ds.calls)) → Each (Good w.in_main) (whole c)
    loop_whole w before c None f h i calls =
        let q = plain_parts w before tp test to ts back f in
        let v = where_in_loop w None in
        loop_parts w.in_main c h i (tests test.kind q.1) q.0
        (pre.nodes v Open None (in_loop ls back c test.number) q.2 (held_part v c test.number h i (in_test c h)) (in_pre c h)
        (λ x k. calls x (Contains-append_left dp.calls (d.calls ++ ds.calls) x k)))
        (post.nodes v Open None (in_loop ls back c again) q.3 (held_part v c again h i (in_again c h)) (in_post c h)
        (λ x k. calls x (Contains-append_right dp.calls (d.calls ++ ds.calls) x (Contains-append_left d.calls ds.calls x k))))
        (step.nodes v Open None (in_loop ls back c back.number) q.4 (held_part v c back.number h i (in_back c h)) (in_step c h)
        (λ x k. calls x (Contains-append_right dp.calls (d.calls ++ ds.calls) x (Contains-append_right d.calls ds.calls x k))))
    loop_whole w before c (Some n) f h i calls =
        let q = counted_parts w before tp test to ts back n f in
        let v = where_in_loop w (Some n) in
        let one = q.3 in
        let e = step.alone one.only one.op (in_loop ls back c back.number) one.is_only one.is_alone in
        loop_parts w.in_main c h i (tests_below test.kind q.1) q.0
        (subst (Each (Good w.in_main)) (sym (pre.none (in_loop ls back c test.number) q.2)) tt)
        (post.nodes v Open None (in_loop ls back c again) q.4 (held_part v c again h i (in_again c h)) (in_post c h)
        (λ x k. calls x (Contains-append_right dp.calls (d.calls ++ ds.calls) x (Contains-append_left d.calls ds.calls x k))))
        (subst (Each (Good w.in_main)) (sym e) (kept_node w.in_main one.op back.number (step_goes_on one.op.kind one.steps) (in_back c h), tt))

    good_loop : (count : Option ℕ) → GoodItem (laid_by (Item-F.Loop lp test lo ls back count)) (fitting_by (Item-F.Loop tp test to ts back count)) (with_turns (turns_of count test d) (doing_both dp (doing_both d ds)))
    good_loop count = record {
      first = λ n c h i. in_top c h;
      ends = λ w before n c f h. absurd (false≢true f);
      alone = λ o c e. absurd (cc);
      nodes = λ w e before c f held h calls.
          let p = and_parts (not_returning e) (loop_fits w before tp test to ts back count) f in
          loop_whole w before c count p.1 h (behind_within w e c p.0 held) calls;
    }

  -- ---- every item

  abbrev pub IsGood : Item → Type 0
  IsGood x = GoodItem (laid x) (fitting x) (doing x)

  -- an item with what holds of it
  abbrev Known : Type 0
  Known = (x : Item) × IsGood x

  abbrev bare : List Known → List Item
  bare es = map (λ (e : Known). e.0) es

  good_list : (es : List Known) → GoodList (map laid (bare es)) (map fitting (bare es)) (doing_all (map doing (bare es)))
  good_list [] = good_none
  good_list (e ∷ []) = good_one (laid e.0) (fitting e.0) (doing e.0) e.1
  good_list (e ∷ f ∷ es) =
      good_more (laid e.0) (fitting e.0) (doing e.0) (laid f.0) (map laid (bare es)) (fitting f.0) (map fitting (bare es)) (doing_all (map doing (bare (f ∷ es)))) e.1 (good_list (f ∷ es))

  abbrev GoodLayer : Item-F Item → Type 0
  GoodLayer z = GoodItem (laid_by (map-Item Item Laid laid z)) (fitting_by (map-Item Item Fitting fitting z)) (doing_by (map-Item Item Doing doing z))

  good_layer : (y : Item-F Known) → GoodLayer (map-Item Known Item (λ e. e.0) y)
  good_layer (Item-F.One op) = good_op op
  good_layer (Item-F.Branch test a b) =
      good_branch test (map laid (bare a)) (map fitting (bare a)) (doing_all (map doing (bare a))) (map laid (bare b)) (map fitting (bare b)) (doing_all (map doing (bare b))) (good_list a) (good_list b)
  good_layer (Item-F.Loop pre test post step back count) =
      good_loop (map laid (bare pre)) (map fitting (bare pre)) (doing_all (map doing (bare pre))) test (map laid (bare post)) (map fitting (bare post)) (doing_all (map doing (bare post)))
      (map laid (bare step)) (map fitting (bare step)) (doing_all (map doing (bare step))) back (good_list pre) (good_list post) (good_list step) count
  good_layer (Item-F.Switch items) = good_switch (map laid (bare items)) (map fitting (bare items)) (doing_all (map doing (bare items))) (good_list items)
  good_layer (Item-F.CallTo op f) = good_call_to op f
  good_layer (Item-F.Leave op to) = good_leave op to

  doing_rolled : (x : Item-F Item) → doing (roll-Item x) ≡ doing_by (map-Item Item Doing doing x)
  unfolding doing
  doing_rolled x = fold-roll-Item Doing doing_by x

  good_rolled : (x : Item-F Item) → GoodLayer x → IsGood (roll-Item x)
  good_rolled x h =
      subst (λ l. GoodItem l (fitting (roll-Item x)) (doing (roll-Item x))) (sym (laid_rolled x))
      (subst (λ t. GoodItem (laid_by (map-Item Item Laid laid x)) t (doing (roll-Item x))) (sym (fitting_rolled x))
      (subst (λ d. GoodItem (laid_by (map-Item Item Laid laid x)) (fitting_by (map-Item Item Fitting fitting x)) d) (sym (doing_rolled x)) h))

  good : (x : Item) → IsGood x
  good = ind-Item IsGood (λ x y is. good_rolled x (subst GoodLayer is (good_layer y)))

  pub good_items : (xs : List Item) → GoodList (laid_items xs) (fittings xs) (doings xs)
  good_items [] = good_none
  good_items (x ∷ []) = good_one (laid x) (fitting x) (doing x) (good x)
  good_items (x ∷ y ∷ xs) = good_more (laid x) (fitting x) (doing x) (laid y) (laid_items xs) (fitting y) (fittings xs) (doings (y ∷ xs)) (good x) (good_items (y ∷ xs))
