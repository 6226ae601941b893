-- Where control falls on: what stands behind an operation that goes on, is passed or calls is what follows it.
use Rattle.std.proofs.Common.{◌≡◌, ◌+◌, ℕ, length, zero, suc, Bool, true, false, Option, None, Some, List, [], ◌∷◌, ◌++◌, inl, inr, refl, sym, ap, subst, ◌∙◌, arith}
use Rattle.std.specs.Prelude.{map, ⊤, ◌&&◌, ◌||◌, ◌==◌, slice_get}
use Rattle.std.proofs.lemmas.Bool.{and_parts, or_cases, false≢true}
use Rattle.flow_graph.specs.declared.graph.Op.{Op}
use Rattle.flow_graph.specs.declared.graph.OpKind.{OpKind}
use Rattle.flow_graph.specs.declared.graph.OpKind.TheVariants as kind
use Rattle.flow_graph.specs.declared.graph.LeaveTo.{LeaveTo}
use Rattle.flow_graph.specs.declared.graph.LeaveTo.TheVariants.{Break, Continue, Back}
use Rattle.flow_graph.specs.declared.graph.Item.{Item, roll-Item}
use Rattle.flow_graph.specs.declared.graph.Item.TheOpen.{Item-F}
use Rattle.flow_graph.specs.declared.graph.Item.TheFolds.{map-Item, ind-Item}
use Rattle.flow_graph.specs.declared.graph.Func.{Func}
use Rattle.flow_graph.specs.declared.nodes.Node.{Node}
use Rattle.flow_graph.specs.declared.nodes.Around.{Around}
use Rattle.flow_graph.specs.Nodes.{Laid, all_nodes, around_body, at_behind, body_nodes, first_of, graph_nodes, in_loop, laid, laid_by, laid_items, leave_to, loop_nodes, next_of, node, nodes_of, test_node}
use Rattle.flow_graph.specs.Owned.{operations}
use Rattle.flow_graph.specs.Rules.{Ending, Fitting, Open, MayGo, Returns, IsNumbered, Where, bodies_fit, branch_fits, ends_in_go, fitting, fitting_by, fittings, has_none, in_loop as where_in_loop, in_switch, is_go_alone, is_kind, leave_fits, list_fits, loop_fits, not_returning, return_kind}
use Rattle.flow_graph.specs.Closed.{FallsTo}
use Rattle.flow_graph.specs.Laws.{OperationsFallOn}
use Rattle.flow_graph.proofs.PartLemmas.{counted_parts, fitting_rolled, is_finish, is_go, is_return, laid_rolled, plain_parts}
use Rattle.flow_graph.proofs.ClosedLemmas.{node_of, nodes-owned_from}

-- ---- nodes one behind another

abbrev Falls : Node → ℕ → Type 0
Falls x n = FallsTo x.op.kind x.next n

-- the number of the first node, or of what stands behind them
abbrev pub head_number : List Node → ℕ → ℕ
head_number [] n = n
head_number (x ∷ xs) n = x.op.number

abbrev Falling : List Node → ℕ → Type 0
Falling [] n = ⊤
Falling (x ∷ xs) n = Falls x (head_number xs n) × Falling xs n

head-append : (xs ys : List Node) (n : ℕ) → head_number (xs ++ ys) n ≡ head_number xs (head_number ys n)
head-append [] ys n = refl
head-append (x ∷ xs) ys n = refl

falling-append : (xs ys : List Node) (n : ℕ) → Falling xs (head_number ys n) → Falling ys n → Falling (xs ++ ys) n
falling-append [] ys n h k = k
falling-append (x ∷ xs) ys n h k = (subst (Falls x) (sym (head-append xs ys n)) h.0, falling-append xs ys n h.1 k)

-- nodes of which the last goes away, so that it doesn't matter what stands behind them
record GoesAway (xs : List Node) : Type 0 where
  pub falls : (n : ℕ) → Falling xs n
  pub head : (n m : ℕ) → head_number xs n ≡ head_number xs m

away_one : (x : Node) → ((n : ℕ) → Falls x n) → GoesAway (x ∷ [])
away_one x h = record { falls = λ n. (h n, tt); head = λ n m. refl }

-- ---- kinds

node_falls : (k : OpKind) (n : ℕ) → FallsTo k (next_of k n) n
node_falls kind.Ret n = tt
node_falls kind.Finish n = tt
node_falls kind.Go n = tt
node_falls _ n = refl

go_falls : (k : OpKind) (n m : ℕ) → is_kind k kind.Go ≡ true → FallsTo k (next_of k n) m
go_falls k n m e = subst (λ j. FallsTo j (next_of j n) m) (sym (is_go k e)) tt

return_falls : (in_main : Bool) (k : OpKind) (n m : ℕ) → is_kind k (return_kind in_main) ≡ true → FallsTo k (next_of k n) m
return_falls true k n m e = subst (λ j. FallsTo j (next_of j n) m) (sym (is_finish k e)) tt
return_falls false k n m e = subst (λ j. FallsTo j (next_of j n) m) (sym (is_return k e)) tt

-- ---- parts

record FallItem (l : Laid) (t : Fitting) : Type 0 where
  pub first : (n : ℕ) (c : Around) → l.first n ≡ head_number (l.nodes c) n
  pub alone : (op : Op) (c : Around) → t.alone ≡ Some op → l.nodes c ≡ node op c.behind ∷ []
  pub falls : (w : Where) (e : Ending) (before : Option Op) (c : Around) → t.fits w e before ≡ true → Falling (l.nodes c) c.behind
  pub over : (w : Where) (before : Option Op) (c : Around) → t.fits w Returns before ≡ true → GoesAway (l.nodes c)

record FallList (ls : List Laid) (ts : List Fitting) : Type 0 where
  pub first : (n : ℕ) (c : Around) → first_of ls n ≡ head_number (nodes_of ls c) n
  pub none : (c : Around) → has_none ts ≡ true → nodes_of ls c ≡ []
  pub alone : (t : Fitting) (op : Op) (c : Around) → ts ≡ t ∷ [] → t.alone ≡ Some op → nodes_of ls c ≡ node op c.behind ∷ []
  pub falls : (w : Where) (e : Ending) (before : Option Op) (c : Around) → list_fits w e before ts ≡ true → Falling (nodes_of ls c) c.behind
  pub over : (w : Where) (before : Option Op) (c : Around) → list_fits w Returns before ts ≡ true → GoesAway (nodes_of ls c)
  pub gone : (w : Where) (e : Ending) (before : Option Op) (c : Around) → list_fits w e before ts ≡ true → ends_in_go ts ≡ true → GoesAway (nodes_of ls c)

fall_none : FallList [] []
fall_none = record {
  first = λ n c. refl;
  none = λ c e. refl;
  alone = λ t op c e a. absurd (cc);
  falls = λ w e before c f. tt;
  over = λ w before c f. absurd (false≢true f);
  gone = λ w e before c f g. absurd (false≢true g);
}

-- a Go that is alone goes away
go_alone : (l : Laid) (t : Fitting) (c : Around) → FallItem l t → is_go_alone t.alone ≡ true → GoesAway (l.nodes c)
go_alone l t c g e = by_alone t.alone refl e
  where
    by_alone : (o : Option Op) → t.alone ≡ o → is_go_alone o ≡ true → GoesAway (l.nodes c)
    by_alone None same f = absurd (false≢true f)
    by_alone (Some op) same f = subst GoesAway (sym (g.alone op c same)) (away_one (node op c.behind) (λ n. go_falls op.kind c.behind n f))

nodes_end : (xs : List Node) → xs ++ [] ≡ xs
nodes_end [] = refl
nodes_end (x ∷ xs) = ap (λ ys. x ∷ ys) (nodes_end xs)

fall_one : (l : Laid) (t : Fitting) → FallItem l t → FallList (l ∷ []) (t ∷ [])
fall_one l t g = record {
  first = λ n c. g.first n c ∙ ap (λ xs. head_number xs n) (sym (nodes_end (l.nodes c)));
  none = λ c e. absurd (false≢true e);
  alone = λ u op c e a. let same : t ≡ u = cc in nodes_end (l.nodes c) ∙ g.alone op c (ap (λ x. x.alone) same ∙ a);
  falls = λ w e before c f. subst (λ xs. Falling xs c.behind) (sym (nodes_end (l.nodes c))) (g.falls w e before c f);
  over = λ w before c f. subst GoesAway (sym (nodes_end (l.nodes c))) (g.over w before c f);
  gone = λ w e before c f go. subst GoesAway (sym (nodes_end (l.nodes c))) (go_alone l t c g go);
}

-- a part that falls on to what goes away
away_append : (xs ys : List Node) (n : ℕ) → Falling xs (head_number ys n) → GoesAway ys → GoesAway (xs ++ ys)
away_append xs ys n h k = record {
  falls = λ m. falling-append xs ys m (subst (Falling xs) (k.head n m) h) (k.falls m);
  head = λ m j. head-append xs ys m ∙ (ap (head_number xs) (k.head m j) ∙ sym (head-append xs ys j));
}

module _ (l : Laid) (t : Fitting) (l2 : Laid) (ls : List Laid) (t2 : Fitting) (ts : List Fitting) (g : FallItem l t) (r : FallList (l2 ∷ ls) (t2 ∷ ts)) where
  abbrev front : Around → Around
  front c = at_behind c (first_of (l2 ∷ ls) c.behind)

  abbrev rest : Around → List Node
  rest c = nodes_of (l2 ∷ ls) c

  front_falls : (w : Where) (e : Ending) (before : Option Op) (c : Around) → list_fits w e before (t ∷ t2 ∷ ts) ≡ true → Falling (l.nodes (front c)) (head_number (rest c) c.behind)
  front_falls w e before c f =
      let p = and_parts (t.fits w Open before) (list_fits w e t.alone (t2 ∷ ts)) f in
      subst (Falling (l.nodes (front c))) (r.first c.behind c) (g.falls w Open before (front c) p.0)

  rest_fits : (w : Where) (e : Ending) (before : Option Op) → list_fits w e before (t ∷ t2 ∷ ts) ≡ true → list_fits w e t.alone (t2 ∷ ts) ≡ true
  rest_fits w e before f = (and_parts (t.fits w Open before) (list_fits w e t.alone (t2 ∷ ts)) f).1

  fall_more : FallList (l ∷ l2 ∷ ls) (t ∷ t2 ∷ ts)
  fall_more = record {
    first = λ n c.
        g.first (first_of (l2 ∷ ls) n) (front c) ∙ (ap (head_number (l.nodes (front c))) (r.first n c) ∙ sym (head-append (l.nodes (front c)) (rest c) n));
    none = λ c e. absurd (false≢true e);
    alone = λ u op c e a. absurd (cc);
    falls = λ w e before c f. falling-append (l.nodes (front c)) (rest c) c.behind (front_falls w e before c f) (r.falls w e t.alone c (rest_fits w e before f));
    over = λ w before c f. away_append (l.nodes (front c)) (rest c) c.behind (front_falls w Returns before c f) (r.over w t.alone c (rest_fits w Returns before f));
    gone = λ w e before c f go. away_append (l.nodes (front c)) (rest c) c.behind (front_falls w e before c f) (r.gone w e t.alone c (rest_fits w e before f) go);
  }

-- ---- each kind of item

fall_op : (op : Op) → FallItem (laid_by (Item-F.One op)) (fitting_by (Item-F.One op))
fall_op op = record {
  first = λ n c. refl;
  alone = λ o c e. let same : op ≡ o = cc in ap (λ p. node p c.behind ∷ []) same;
  falls = λ w e before c f. (node_falls op.kind c.behind, tt);
  over = λ w before c f. away_one (node op c.behind) (λ n. return_falls w.in_main op.kind c.behind n f);
}

fall_branch : (test : Op) (la : List Laid) (ta : List Fitting) (lb : List Laid) (tb : List Fitting) → FallList la ta → FallList lb tb → FallItem (laid_by (Item-F.Branch test la lb)) (fitting_by (Item-F.Branch test ta tb))
fall_branch test la ta lb tb a b = record {
  first = λ n c. refl;
  alone = λ o c e. absurd (cc);
  falls = λ w e before c f. branch_falls w c (and_parts (not_returning e) (branch_fits w test ta tb) f).1;
  over = λ w before c f. absurd (false≢true f);
}
  where
    branch_falls : (w : Where) (c : Around) → branch_fits w test ta tb ≡ true → Falling (test_node test (first_of la c.behind) (first_of lb c.behind) ∷ (nodes_of la c ++ nodes_of lb c)) c.behind
    branch_falls w c f =
        let p = and_parts (is_kind test.kind kind.Test) ((has_none tb || ends_in_go ta) && (list_fits w MayGo None ta && list_fits w Open None tb)) f in
        let q = and_parts (has_none tb || ends_in_go ta) (list_fits w MayGo None ta && list_fits w Open None tb) p.1 in
        let r = and_parts (list_fits w MayGo None ta) (list_fits w Open None tb) q.1 in
        let to_b : Falling (nodes_of lb c) c.behind = b.falls w Open None c r.1 in
        elim (or_cases (has_none tb) (ends_in_go ta) q.0) [
          | inl none ↦
              let ends : head_number (nodes_of lb c) c.behind ≡ c.behind = ap (λ xs. head_number xs c.behind) (b.none c none) in (
                a.first c.behind c ∙ (ap (head_number (nodes_of la c)) (sym ends) ∙ sym (head-append (nodes_of la c) (nodes_of lb c) c.behind)),
                falling-append (nodes_of la c) (nodes_of lb c) c.behind (subst (Falling (nodes_of la c)) (sym ends) (a.falls w MayGo None c r.0)) to_b,
              )
          | inr go ↦
              let away = a.gone w MayGo None c r.0 go in (
                a.first c.behind c ∙ (away.head c.behind (head_number (nodes_of lb c) c.behind) ∙ sym (head-append (nodes_of la c) (nodes_of lb c) c.behind)),
                falling-append (nodes_of la c) (nodes_of lb c) c.behind (away.falls (head_number (nodes_of lb c) c.behind)) to_b,
              )
        ]

fall_switch : (ls : List Laid) (ts : List Fitting) → FallList ls ts → FallItem (laid_by (Item-F.Switch ls)) (fitting_by (Item-F.Switch ts))
fall_switch ls ts g = record {
  first = λ n c. g.first n (record c { break_to = c.behind });
  alone = λ o c e. absurd (cc);
  falls = λ w e before c f. g.falls (in_switch w) Open None (record c { break_to = c.behind }) (and_parts (not_returning e) (list_fits (in_switch w) Open None ts) f).1;
  over = λ w before c f. absurd (false≢true f);
}

fall_call_to : (op : Op) (f : ℕ) → FallItem (laid_by (Item-F.CallTo op f)) (fitting_by (Item-F.CallTo op f))
fall_call_to op f = record {
  first = λ n c. refl;
  alone = λ o c e. absurd (cc);
  falls = λ w e before c x. (refl, tt);
  over = λ w before c x. absurd (false≢true x);
}

leave_falls : (w : Where) (op : Op) (to : LeaveTo) (c : Around) (n : ℕ) → leave_fits w op to ≡ true → Falls (node op (leave_to to c)) n
leave_falls w op Break c n f = go_falls op.kind c.break_to n (and_parts w.breaks (is_kind op.kind kind.Go) f).1
leave_falls w op Continue c n f = go_falls op.kind c.continue_to n (and_parts w.continues (is_kind op.kind kind.Go) f).1
leave_falls w op Back c n f = return_falls w.in_main op.kind c.behind n (and_parts w.returns (is_kind op.kind (return_kind w.in_main)) f).1

fall_leave : (op : Op) (to : LeaveTo) → FallItem (laid_by (Item-F.Leave op to)) (fitting_by (Item-F.Leave op to))
fall_leave op to = record {
  first = λ n c. refl;
  alone = λ o c e. absurd (cc);
  falls = λ w e before c f. (leave_falls w op to c c.behind (and_parts (not_returning e) (leave_fits w op to) f).1, tt);
  over = λ w before c f. absurd (false≢true f);
}

-- ---- loops

module _ (lp : List Laid) (tp : List Fitting) (test : Op) (lo : List Laid) (to : List Fitting) (ls : List Laid) (ts : List Fitting) (back : Op)
    (pre : FallList lp tp) (post : FallList lo to) (step : FallList ls ts) where
  abbrev again : ℕ
  again = first_of ls back.number

  abbrev top : ℕ
  top = first_of lp test.number

  abbrev P : Around → List Node
  P c = nodes_of lp (in_loop ls back c test.number)

  abbrev T : Around → Node
  T c = test_node test (first_of lo again) c.behind

  abbrev O : Around → List Node
  O c = nodes_of lo (in_loop ls back c again)

  abbrev S : Around → List Node
  S c = nodes_of ls (in_loop ls back c back.number)

  abbrev B : List Node
  B = node back top ∷ []

  to_again : (c : Around) → again ≡ head_number (S c ++ B) c.behind
  to_again c = step.first back.number (in_loop ls back c back.number) ∙ sym (head-append (S c) B c.behind)

  passed_on : (c : Around) → first_of lo again ≡ head_number (O c ++ (S c ++ B)) c.behind
  passed_on c = post.first again (in_loop ls back c again) ∙ (ap (head_number (O c)) (to_again c) ∙ sym (head-append (O c) (S c ++ B) c.behind))

  loop_falls : (c : Around) → is_kind back.kind kind.Go ≡ true → Falling (P c) test.number → Falling (O c) again → Falling (S c) back.number → Falling (loop_nodes lp test lo ls back c) c.behind
  loop_falls c go p o s =
      falling-append (P c) (T c ∷ (O c ++ (S c ++ B))) c.behind p (
        passed_on c,
        falling-append (O c) (S c ++ B) c.behind (subst (Falling (O c)) (to_again c) o)
            (falling-append (S c) B c.behind s (go_falls back.kind top c.behind go, tt)),
      )

  by_count : (w : Where) (before : Option Op) (c : Around) (count : Option ℕ) → loop_fits w before tp test to ts back count ≡ true → Falling (loop_nodes lp test lo ls back c) c.behind
  by_count w before c None f =
      let q = plain_parts w before tp test to ts back f in
      let v = where_in_loop w None in
      loop_falls c q.0 (pre.falls v Open None (in_loop ls back c test.number) q.2) (post.falls v Open None (in_loop ls back c again) q.3) (step.falls v Open None (in_loop ls back c back.number) q.4)
  by_count w before c (Some n) f =
      let q = counted_parts w before tp test to ts back n f in
      let one = q.3 in
      loop_falls c q.0 (subst (λ xs. Falling xs test.number) (sym (pre.none (in_loop ls back c test.number) q.2)) tt)
      (post.falls (where_in_loop w (Some n)) Open None (in_loop ls back c again) q.4)
      (subst (λ xs. Falling xs back.number) (sym (step.alone one.only one.op (in_loop ls back c back.number) one.is_only one.is_alone)) (node_falls one.op.kind back.number, tt))

  fall_loop : (count : Option ℕ) → FallItem (laid_by (Item-F.Loop lp test lo ls back count)) (fitting_by (Item-F.Loop tp test to ts back count))
  fall_loop count = record {
    first = λ n c. pre.first test.number (in_loop ls back c test.number) ∙ sym (head-append (P c) (T c ∷ (O c ++ (S c ++ B))) n);
    alone = λ o c e. absurd (cc);
    falls = λ w e before c f. by_count w before c count (and_parts (not_returning e) (loop_fits w before tp test to ts back count) f).1;
    over = λ w before c f. absurd (false≢true f);
  }

-- ---- every item

abbrev IsFalling : Item → Type 0
IsFalling x = FallItem (laid x) (fitting x)

-- an item with what holds of it
abbrev Known : Type 0
Known = (x : Item) × IsFalling x

abbrev bare : List Known → List Item
bare es = map (λ (e : Known). e.0) es

fall_list : (es : List Known) → FallList (map laid (bare es)) (map fitting (bare es))
fall_list [] = fall_none
fall_list (e ∷ []) = fall_one (laid e.0) (fitting e.0) e.1
fall_list (e ∷ f ∷ es) = fall_more (laid e.0) (fitting e.0) (laid f.0) (map laid (bare es)) (fitting f.0) (map fitting (bare es)) e.1 (fall_list (f ∷ es))

abbrev FallLayer : Item-F Item → Type 0
FallLayer z = FallItem (laid_by (map-Item Item Laid laid z)) (fitting_by (map-Item Item Fitting fitting z))

fall_layer : (y : Item-F Known) → FallLayer (map-Item Known Item (λ e. e.0) y)
fall_layer (Item-F.One op) = fall_op op
fall_layer (Item-F.Branch test a b) = fall_branch test (map laid (bare a)) (map fitting (bare a)) (map laid (bare b)) (map fitting (bare b)) (fall_list a) (fall_list b)
fall_layer (Item-F.Loop pre test post step back count) =
    fall_loop (map laid (bare pre)) (map fitting (bare pre)) test (map laid (bare post)) (map fitting (bare post)) (map laid (bare step)) (map fitting (bare step)) back
    (fall_list pre) (fall_list post) (fall_list step) count
fall_layer (Item-F.Switch items) = fall_switch (map laid (bare items)) (map fitting (bare items)) (fall_list items)
fall_layer (Item-F.CallTo op f) = fall_call_to op f
fall_layer (Item-F.Leave op to) = fall_leave op to

fall_rolled : (x : Item-F Item) → FallLayer x → IsFalling (roll-Item x)
fall_rolled x h =
    subst (λ l. FallItem l (fitting (roll-Item x))) (sym (laid_rolled x))
    (subst (λ t. FallItem (laid_by (map-Item Item Laid laid x)) t) (sym (fitting_rolled x)) h)

fall : (x : Item) → IsFalling x
fall = ind-Item IsFalling (λ x y is. fall_rolled x (subst FallLayer is (fall_layer y)))

fall_items : (xs : List Item) → FallList (laid_items xs) (fittings xs)
fall_items [] = fall_none
fall_items (x ∷ []) = fall_one (laid x) (fitting x) (fall x)
fall_items (x ∷ y ∷ xs) = fall_more (laid x) (fitting x) (laid y) (laid_items xs) (fitting y) (fittings xs) (fall x) (fall_items (y ∷ xs))

-- a body begins with its first operation
pub first_of_body : (f : Func) → first_of (laid_items f.body) 0 ≡ head_number (body_nodes f) 0
first_of_body f = (fall_items f.body).first 0 around_body

-- ---- the operations of a graph

bodies_fall : (main n : ℕ) (fs : List Func) → bodies_fit main n fs ≡ true → (m : ℕ) → Falling (all_nodes fs) m
bodies_fall main n [] h m = tt
bodies_fall main n (f ∷ fs) h m =
    let p = and_parts (list_fits (record { in_main = n == main; breaks = false; continues = false; returns = true }) Returns None (fittings f.body)) (bodies_fit main (n + 1) fs) h in
    falling-append (body_nodes f) (all_nodes fs) m
    (((fall_items f.body).over (record { in_main = n == main; breaks = false; continues = false; returns = true }) None around_body p.0).falls (head_number (all_nodes fs) m))
    (bodies_fall main (n + 1) fs p.1 m)

-- numbered one behind another, each falls on to the next number
falls_at : (xs : List Node) (base i : ℕ) (x : Node) → IsNumbered base xs → Falling xs (base + length xs) → slice_get xs i ≡ Some x → Falls x (base + i + 1)
falls_at [] base i x numbers h e = absurd (cc)
falls_at (y ∷ []) base zero x numbers h e =
    let same : y ≡ x = cc in
    let end : base + length (y ∷ []) ≡ base + 0 + 1 = omega arith in
    subst (Falls x) end (subst (λ z. Falls z (base + length (y ∷ []))) same h.0)
falls_at (y ∷ z ∷ ys) base zero x numbers h e =
    let same : y ≡ x = cc in
    let next : z.op.number ≡ base + 0 + 1 = (let n = numbers.1.0 in omega (arith, n)) in
    subst (Falls x) next (subst (λ z'. Falls z' z.op.number) same h.0)
falls_at (y ∷ ys) base (suc i) x numbers h e =
    let there : base + length (y ∷ ys) ≡ (base + 1) + length ys = omega arith in
    let here : (base + 1) + i + 1 ≡ base + suc i + 1 = omega arith in
    subst (Falls x) here (falls_at ys (base + 1) i x numbers.1 (subst (Falling ys) there h.1) e)

pub operations_fall_on : OperationsFallOn
operations_fall_on g rules i x at =
    let there : slice_get (graph_nodes g) i ≡ Some x.node = subst (λ ns. slice_get ns i ≡ Some x.node) (nodes-owned_from 0 g.functions) (node_of (operations g) i x at) in
    let next : 0 + i + 1 ≡ i + 1 = omega arith in
    subst (Falls x.node) next (falls_at (graph_nodes g) 0 i x.node rules.numbered (bodies_fall g.main 0 g.functions rules.bodies (0 + length (graph_nodes g))) there)
