-- A run through items costs at most what they weigh, item by item: what lies behind costs so much more.
use Rattle.std.proofs.Common.{◌≡◌, ℕ, zero, suc, ◌+◌, ◌-◌, ◌*◌, ◌%◌, ◌^◌, ◌<◌, ◌≤◌, Bool, true, false, Option, None, Some, List, [], ◌∷◌, ◌++◌, length, inl, inr, refl, sym, ap, subst, ◌∙◌, arith, mul-le-mul_right}
use Rattle.std.specs.Prelude.{map, max, nat_lt, if◌then◌else◌, ⊤, Contains, slice_get}
use Rattle.std.proofs.lemmas.Bool.{and_parts, or_cases, false≢true}
use Rattle.std.proofs.lemmas.List.Elements.{Contains-append_left, Contains-append_right}
use Rattle.flow_graph.specs.declared.graph.Operand.TheVariants.{Const, Object}
use Rattle.flow_graph.specs.declared.graph.Op.{Op}
use Rattle.flow_graph.specs.declared.graph.OpKind.TheVariants as kind
use Rattle.flow_graph.specs.declared.graph.LeaveTo.{LeaveTo}
use Rattle.flow_graph.specs.declared.graph.Item.{Item, roll-Item}
use Rattle.flow_graph.specs.declared.graph.Item.TheOpen.{Item-F}
use Rattle.flow_graph.specs.declared.graph.Item.TheFolds.{map-Item, fold-roll-Item, ind-Item}
use Rattle.flow_graph.specs.declared.graph.Graph.{Graph}
use Rattle.flow_graph.specs.declared.nodes.Next.TheVariants as next
use Rattle.flow_graph.specs.declared.nodes.Node.{Node}
use Rattle.flow_graph.specs.declared.nodes.Around.{Around}
use Rattle.flow_graph.specs.Nodes.{Laid, at_behind, call_node, entry, first_of, graph_nodes, in_loop, laid, laid_by, laid_items, next_of, node, node_in, nodes_of, test_node}
use Rattle.flow_graph.specs.Operations.{Words, operand_word, passes, word_at}
use Rattle.flow_graph.specs.Flow.{Spot, Did, Went, Ended, Trapped, Lost, effect, execute_at, follow, followed, operate, return_to}
use Rattle.flow_graph.specs.Rules.{CountFits, Doing, Ending, Fitting, IsStep, Open, MayGo, OpFits, OperandFits, Returns, Spares, Turn, Where, branch_fits, doing, doing_all, doing_both, doing_by, doing_in, doing_op, doings, ends_list, fitting, fitting_by, fittings, calls_it, has_none, on_from, in_loop as where_in_loop, in_switch, is_kind, list_fits, loop_fits, not_returning, nothing, parts_of, return_kind, stands_alone, turn_of, turns_of, with_turns, written as writes_of}
use Rattle.flow_graph.specs.Closed.{AreSized}
use Rattle.flow_graph.proofs.ListLemmas.{Stood, stood_first, stood_behind, stood_left, stood_right}
use Rattle.item_weights.specs.Weights.{Weight, all_of, call, greater, item_weight, item_weights, joined, no_weight, plus, times, turns, weight_by, with_base}
use Rattle.item_weights.specs.Costs.{cost_of}
use Rattle.weighed_runs.specs.Spending.{Force, is_over, price_of, prices_at, spent, spent_on}
use Rattle.weighed_runs.proofs.Costing.{IsCost, costs}
use Rattle.weighed_runs.proofs.Effecting.{below_still, call_still, copied, finish_ends, go_still, is_call_kind, is_finish_kind, is_go_kind, is_return_kind, leaves, return_still, stepped, test_still}
use Rattle.weighed_runs.proofs.Parts.{CountedParts, alone_under, branch_parts, counted_parts, joined_parts, plain_next, under, went}

-- ---- runs under given homes

module _ (g : Graph) (f : Force) (flats : List (Option ℕ)) (behind depth : ℕ) where
  -- what a weight costs where so many calls go on
  abbrev pub C : List ℕ → Weight → ℕ
  C cs w = cost_of (prices_at f (nat_lt depth (length cs))) f.objects w

  is_cost : (cs : List ℕ) → IsCost (C cs)
  is_cost cs = costs (prices_at f (nat_lt depth (length cs))) f.objects

  -- each run from a spot costs at most so much
  abbrev pub Cost : Spot → ℕ → Type 0
  Cost s k = (m : ℕ) → spent f g behind depth m s ≤ k

  more : (s : Spot) (j k : ℕ) → Cost s j → j ≤ k → Cost s k
  more s j k h le m = let p = h m in omega (arith, p, le)

  -- ---- one operation

  abbrev at_price : Spot → ℕ
  at_price s = price_of f depth s.calls (node_in (graph_nodes g) s.at)

  paid : (s : Spot) (x : Node) (k : ℕ) → node_in (graph_nodes g) s.at ≡ Some x → ((ws : List ℕ) (t : Spot) → operate g s ≡ Went ws t → Cost t k) → Cost s (C s.calls (f.own x.op) + k)
  paid s x k at rest zero = omega arith
  paid s x k at rest (suc m) = by_did (is_over behind depth s) (operate g s) refl
    where
      q : at_price s ≡ C s.calls (f.own x.op)
      q = ap (price_of f depth s.calls) at

      by_did : (b : Bool) (d : Did) → operate g s ≡ d → (if b then 0 else at_price s + spent_on (spent f g behind depth m) d) ≤ C s.calls (f.own x.op) + k
      by_did true d e = omega arith
      by_did false (Went ws t) e = under (at_price s) (C s.calls (f.own x.op)) (spent f g behind depth m t) k q (rest ws t e m)
      by_did false (Ended w) e = alone_under (at_price s) (C s.calls (f.own x.op)) k q
      by_did false (Trapped w) e = alone_under (at_price s) (C s.calls (f.own x.op)) k q
      by_did false Lost e = alone_under (at_price s) (C s.calls (f.own x.op)) k q

  abbrev A : Op → Spot → ℕ
  A op s = operand_word s.objects op.a

  abbrev B : Op → Spot → ℕ
  B op s = operand_word s.objects op.b

  done : (s : Spot) (x : Node) (k : ℕ) → node_in (graph_nodes g) s.at ≡ Some x
      → ((ws vs : List ℕ) (u t : Spot) → effect x.op (A x.op s) (B x.op s) s ≡ Went ws u → follow g x.next (passes x.op.kind (A x.op s) (B x.op s)) ws u ≡ Went vs t → Cost t k)
      → Cost s (C s.calls (f.own x.op) + k)
  done s x k at rest = paid s x k at (λ vs t e. by_effect vs t (effect x.op (A x.op s) (B x.op s) s) refl (sym (ap (λ n. execute_at g n s) at) ∙ e))
    where
      by_effect : (vs : List ℕ) (t : Spot) (d : Did) → effect x.op (A x.op s) (B x.op s) s ≡ d → followed g x.next (passes x.op.kind (A x.op s) (B x.op s)) d ≡ Went vs t → Cost t k
      by_effect vs t (Went ws u) e h = rest ws vs u t e h
      by_effect vs t (Ended w) e h = absurd (cc)
      by_effect vs t (Trapped w) e h = absurd (cc)
      by_effect vs t Lost e h = absurd (cc)

  goes : (s : Spot) (x : Node) (n k : ℕ) → node_in (graph_nodes g) s.at ≡ Some x → x.next ≡ next.To n
      → ((ws : List ℕ) (u : Spot) → effect x.op (A x.op s) (B x.op s) s ≡ Went ws u → Cost (record u { at = n }) k) → Cost s (C s.calls (f.own x.op) + k)
  goes s x n k at nx rest = done s x k at (λ ws vs u t e h.
      let to : record u { at = n } ≡ t = went ws vs (record u { at = n }) t (ap (λ y. follow g y (passes x.op.kind (A x.op s) (B x.op s)) ws u) (sym nx) ∙ h) in
      subst (λ z. Cost z k) to (rest ws u e))

  tested : (s : Spot) (op : Op) (n m k : ℕ) → node_in (graph_nodes g) s.at ≡ Some (test_node op n m) → effect op (A op s) (B op s) s ≡ Went [] s
      → (passes op.kind (A op s) (B op s) ≡ true → Cost (record s { at = n }) k) → (passes op.kind (A op s) (B op s) ≡ false → Cost (record s { at = m }) k) → Cost s (C s.calls (f.own op) + k)
  tested s op n m k at still passed failed = done s (test_node op n m) k at (λ ws vs u t e h.
      let same : s ≡ u = went [] ws s u (sym still ∙ e) in
      let to : record u { at = if passes op.kind (A op s) (B op s) then n else m } ≡ t = went ws vs (record u { at = if passes op.kind (A op s) (B op s) then n else m }) t h in
      subst (λ z. Cost z k) (ap (λ (z : Spot). record z { at = if passes op.kind (A op s) (B op s) then n else m }) same ∙ to) (by_pass (passes op.kind (A op s) (B op s)) refl))
    where
      by_pass : (b : Bool) → passes op.kind (A op s) (B op s) ≡ b → Cost (record s { at = if b then n else m }) k
      by_pass true e = passed e
      by_pass false e = failed e

  entered : (s : Spot) (op : Op) (h n k : ℕ) → node_in (graph_nodes g) s.at ≡ Some (call_node op h n) → effect op (A op s) (B op s) s ≡ Went [] s
      → Cost (record s { at = entry g h; calls = n ∷ s.calls }) k → Cost s (C s.calls (f.own op) + k)
  entered s op h n k at still rest = done s (call_node op h n) k at (λ ws vs u t e j.
      let same : s ≡ u = went [] ws s u (sym still ∙ e) in
      let to : record u { at = entry g h; calls = n ∷ u.calls } ≡ t = went ws vs (record u { at = entry g h; calls = n ∷ u.calls }) t j in
      subst (λ z. Cost z k) (ap (λ (z : Spot). record z { at = entry g h; calls = n ∷ z.calls }) same ∙ to) rest)

  returned : (s : Spot) (op : Op) (b k : ℕ) → node_in (graph_nodes g) s.at ≡ Some (node op b) → op.kind ≡ kind.Ret → effect op (A op s) (B op s) s ≡ Went [] s
      → ((n : ℕ) (ns : List ℕ) → s.calls ≡ n ∷ ns → Cost (record s { at = n; calls = ns }) k) → Cost s (C s.calls (f.own op) + k)
  returned s op b k at ret still rest = done s (node op b) k at (λ ws vs u t e h.
      let same : u ≡ s = sym (went [] ws s u (sym still ∙ e)) in
      let there : return_to u.calls ws u ≡ Went vs t = ap (λ y. follow g (next_of y b) (passes op.kind (A op s) (B op s)) ws u) (sym ret) ∙ h in
      by_calls s.calls refl ws vs t (subst (λ (z : Spot). return_to z.calls ws z ≡ Went vs t) same there))
    where
      by_calls : (cs : List ℕ) → s.calls ≡ cs → (ws vs : List ℕ) (t : Spot) → return_to cs ws s ≡ Went vs t → Cost t k
      by_calls [] e ws vs t h = absurd (cc)
      by_calls (n ∷ ns) e ws vs t h = subst (λ z. Cost z k) (went ws vs (record s { at = n; calls = ns }) t h) (rest n ns e)

  finished : (s : Spot) (op : Op) (b k : ℕ) → node_in (graph_nodes g) s.at ≡ Some (node op b) → op.kind ≡ kind.Finish → Cost s (C s.calls (f.own op) + k)
  finished s op b k at fin = done s (node op b) k at (λ ws vs u t e h. let bad = sym (finish_ends op (A op s) (B op s) s fin) ∙ e in absurd (cc))

  -- ---- parts

  -- the operations are the graph's
  abbrev pub Among : List Node → Type 0
  Among xs = (x : Node) → Stood xs x → (node_in (graph_nodes g) x.op.number ≡ Some x) × OpFits g x.op

  found : (xs : List Node) (x : Node) (s : Spot) → Among xs → Stood xs x → s.at ≡ x.op.number → node_in (graph_nodes g) s.at ≡ Some x
  found xs x s among stood at = ap (node_in (graph_nodes g)) at ∙ (among x stood).0

  abbrev turn : ℕ → Doing → Turn
  turn i d = record { variable = i; calls = d.calls; writes = d.writes }

  -- the variables that are spared stay
  abbrev pub Same : Doing → Words → Words → Type 0
  Same d a b = (i : ℕ) → Spares g (turn i d) → word_at b i 0 ≡ word_at a i 0

  spares_left : (i : ℕ) (a b : Doing) → Spares g (turn i (doing_both a b)) → Spares g (turn i a)
  spares_left i a b h = record {
    itself = λ c. h.itself (Contains-append_left a.writes b.writes i c);
    called = λ x c. h.called x (Contains-append_left a.calls b.calls x c);
    reached = λ x y c. h.reached x y (Contains-append_left a.calls b.calls x c);
  }

  spares_right : (i : ℕ) (a b : Doing) → Spares g (turn i (doing_both a b)) → Spares g (turn i b)
  spares_right i a b h = record {
    itself = λ c. h.itself (Contains-append_right a.writes b.writes i c);
    called = λ x c. h.called x (Contains-append_right a.calls b.calls x c);
    reached = λ x y c. h.reached x y (Contains-append_right a.calls b.calls x c);
  }

  -- behind a copy of a constant its variable holds it
  abbrev pub Knows : Option Op → Words → Type 0
  Knows None words = ⊤
  Knows (Some op) words = (i a : ℕ) → op.kind ≡ kind.Copy → op.dest ≡ Some i → op.a ≡ Const a → word_at words i 0 ≡ a

  -- where control stands behind a part
  abbrev pub Exits : Ending → Around → List ℕ → Spot → Type 0
  Exits Open c cs t = (t.at ≡ c.behind) × (t.calls ≡ cs)
  Exits MayGo c cs t = (t.at ≡ c.behind) × (t.calls ≡ cs)
  Exits Returns c cs t = cs ≡ t.at ∷ t.calls

  plain_exit : (e : Ending) (c : Around) (cs : List ℕ) (t : Spot) → not_returning e ≡ true → t.at ≡ c.behind → t.calls ≡ cs → Exits e c cs t
  plain_exit Open c cs t n a b = (a, b)
  plain_exit MayGo c cs t n a b = (a, b)
  plain_exit Returns c cs t n a b = absurd (false≢true n)

  -- a call of a function with a number costs at most that
  abbrev pub IsCallee : ℕ → Type 0
  IsCallee h = (s : Spot) (number n : ℕ) (ns : List ℕ) (k : ℕ) → slice_get flats h ≡ Some (Some number) → s.at ≡ entry g h → s.calls ≡ n ∷ ns → depth ≤ length ns → AreSized g s.objects
      → ((t : Spot) → t.at ≡ n → t.calls ≡ ns → AreSized g t.objects → Same (doing_in (slice_get g.functions h)) s.objects t.objects → Cost t k) → Cost s (number + k)

  pub record Begun (nodes : Around → List Node) (first : ℕ → ℕ) (d : Doing) (before : Option Op) (c : Around) (s : Spot) : Type 0 where
    pub among : Among (nodes c)
    pub turns : (t : Turn) → Stood d.turns t → Spares g t
    pub calls : (h : ℕ) → Contains d.calls h → IsCallee h
    pub knows : Knows before s.objects
    pub sized : AreSized g s.objects
    pub at : s.at ≡ first c.behind
    pub deep : depth ≤ length s.calls

  pub record RunsItem (l : Laid) (t : Fitting) (d : Doing) (v : Option Weight) : Type 0 where
    pub alone : (op : Op) → t.alone ≡ Some op → (l ≡ laid_by (Item-F.One op)) × (v ≡ Some (f.own op)) × (d ≡ doing_op op)
    pub runs : (w : Where) (e : Ending) (before : Option Op) (c : Around) (q : Weight) (s : Spot) (k : ℕ) → t.fits w e before ≡ true → v ≡ Some q → Begun l.nodes l.first d before c s
        → ((u : Spot) → Exits e c s.calls u → AreSized g u.objects → Same d s.objects u.objects → Knows t.alone u.objects → Cost u k) → Cost s (C s.calls q + k)

  pub record RunsList (ls : List Laid) (ts : List Fitting) (d : Doing) (vs : List (Option Weight)) : Type 0 where
    pub none : has_none ts ≡ true → (ls ≡ []) × (vs ≡ [])
    pub single : (t : Fitting) (op : Op) → ts ≡ t ∷ [] → t.alone ≡ Some op → (ls ≡ laid_by (Item-F.One op) ∷ []) × (vs ≡ Some (f.own op) ∷ []) × (d ≡ doing_both (doing_op op) nothing)
    pub runs : (w : Where) (e : Ending) (before : Option Op) (c : Around) (q : Weight) (s : Spot) (k : ℕ) → list_fits w e before ts ≡ true → all_of vs ≡ Some q
        → Begun (nodes_of ls) (first_of ls) d before c s
        → ((u : Spot) → Exits e c s.calls u → AreSized g u.objects → Same d s.objects u.objects → Cost u k) → Cost s (C s.calls q + k)

  -- ---- one part after another

  nil_runs : (e : Ending) (c : Around) (q : Weight) (s : Spot) (k : ℕ) → not_returning e ≡ true → s.at ≡ c.behind → AreSized g s.objects
      → ((u : Spot) → Exits e c s.calls u → AreSized g u.objects → Same nothing s.objects u.objects → Cost u k) → Cost s (C s.calls q + k)
  nil_runs e c q s k n at sized rest = more s k (C s.calls q + k) (rest s (plain_exit e c s.calls s n at refl) sized (λ i sp. refl)) (omega arith)

  runs_none : RunsList [] [] nothing []
  runs_none = record {
    none = λ e. (refl, refl);
    single = λ t op e a. absurd (cc);
    runs = λ w e before c q s k fits ve go rest. nil_runs e c q s k fits go.at go.sized rest;
  }

  runs_one : (l : Laid) (t : Fitting) (d : Doing) (v : Option Weight) → RunsItem l t d v → RunsList (l ∷ []) (t ∷ []) (doing_both d nothing) (v ∷ [])
  runs_one l t d v x = record {
    none = λ e. absurd (false≢true e);
    single = λ u op e a.
        let same : t ≡ u = cc in
        let r = x.alone op (ap (λ (y : Fitting). y.alone) same ∙ a) in
        (ap (λ y. y ∷ []) r.0, ap (λ y. y ∷ []) r.1, ap (λ y. doing_both y nothing) r.2);
    runs = λ w e before c q s k fits ve go rest.
        let j = joined_parts plus v (Some no_weight) q ve in
        let sum = (is_cost s.calls).sum j.0 j.1 in
        let is = ap (C s.calls) j.4 in
        more s (C s.calls j.0 + k) (C s.calls q + k)
        (x.runs w e before c j.0 s k fits j.2 (record {
          among = λ y st. go.among y (stood_left (l.nodes c) [] y st);
          turns = λ y st. go.turns y (stood_left d.turns [] y st);
          calls = λ h ct. go.calls h (Contains-append_left d.calls [] h ct);
          knows = go.knows;
          sized = go.sized;
          at = go.at;
          deep = go.deep;
        }) (λ u ex sz same kn. rest u ex sz (λ i sp. same i (spares_left i d nothing sp))))
        (omega (arith, sum, is));
  }

  module _ (l : Laid) (t : Fitting) (d : Doing) (v : Option Weight) (l2 : Laid) (ls : List Laid) (t2 : Fitting) (ts : List Fitting) (ds : Doing) (v2 : Option Weight) (vs : List (Option Weight))
      (x : RunsItem l t d v) (r : RunsList (l2 ∷ ls) (t2 ∷ ts) ds (v2 ∷ vs)) where
    abbrev front : Around → Around
    front c = at_behind c (first_of (l2 ∷ ls) c.behind)

    begun_rest : (before : Option Op) (c : Around) (s u : Spot) → Begun (nodes_of (l ∷ l2 ∷ ls)) (first_of (l ∷ l2 ∷ ls)) (doing_both d ds) before c s
        → u.at ≡ first_of (l2 ∷ ls) c.behind → u.calls ≡ s.calls → AreSized g u.objects → Knows t.alone u.objects → Begun (nodes_of (l2 ∷ ls)) (first_of (l2 ∷ ls)) ds t.alone c u
    begun_rest before c s u go at cs sized knows = record {
      among = λ y st. go.among y (stood_right (l.nodes (front c)) (nodes_of (l2 ∷ ls) c) y st);
      turns = λ y st. go.turns y (stood_right d.turns ds.turns y st);
      calls = λ h ct. go.calls h (Contains-append_right d.calls ds.calls h ct);
      knows = knows;
      sized = sized;
      at = at;
      deep = subst (λ z. depth ≤ length z) (sym cs) go.deep;
    }

    more_runs : (w : Where) (e : Ending) (before : Option Op) (c : Around) (q : Weight) (s : Spot) (k : ℕ) → list_fits w e before (t ∷ t2 ∷ ts) ≡ true → all_of (v ∷ v2 ∷ vs) ≡ Some q
        → Begun (nodes_of (l ∷ l2 ∷ ls)) (first_of (l ∷ l2 ∷ ls)) (doing_both d ds) before c s
        → ((u : Spot) → Exits e c s.calls u → AreSized g u.objects → Same (doing_both d ds) s.objects u.objects → Cost u k) → Cost s (C s.calls q + k)
    more_runs w e before c q s k fits ve go rest =
        let p = and_parts (t.fits w Open before) (list_fits w e t.alone (t2 ∷ ts)) fits in
        let j = joined_parts plus v (all_of (v2 ∷ vs)) q ve in
        let sum = (is_cost s.calls).sum j.0 j.1 in
        let is = ap (C s.calls) j.4 in
        more s (C s.calls j.0 + (C s.calls j.1 + k)) (C s.calls q + k)
        (x.runs w Open before (front c) j.0 s (C s.calls j.1 + k) p.0 j.2 (record {
          among = λ y st. go.among y (stood_left (l.nodes (front c)) (nodes_of (l2 ∷ ls) c) y st);
          turns = λ y st. go.turns y (stood_left d.turns ds.turns y st);
          calls = λ h ct. go.calls h (Contains-append_left d.calls ds.calls h ct);
          knows = go.knows;
          sized = go.sized;
          at = go.at;
          deep = go.deep;
        }) (λ u ex sz same kn. subst (λ z. Cost u (C z j.1 + k)) ex.1
        (r.runs w e t.alone c j.1 u k p.1 j.3 (begun_rest before c s u go ex.0 ex.1 sz kn)
        (λ z ez sz' same'. rest z (subst (λ cs. Exits e c cs z) ex.1 ez) sz' (λ i sp. same' i (spares_right i d ds sp) ∙ same i (spares_left i d ds sp))))))
        (omega (arith, sum, is))

    runs_more : RunsList (l ∷ l2 ∷ ls) (t ∷ t2 ∷ ts) (doing_both d ds) (v ∷ v2 ∷ vs)
    runs_more = record {
      none = λ e. absurd (false≢true e);
      single = λ u op e a. absurd (cc);
      runs = more_runs;
    }

  -- ---- an operation

  module _ (op : Op) where
    abbrev Behind : Ending → Around → Spot → ℕ → Type 0
    Behind e c s k = (u : Spot) → Exits e c s.calls u → AreSized g u.objects → Same (doing_op op) s.objects u.objects → Knows (Some op) u.objects → Cost u k

    one_goes : (c : Around) (s : Spot) (k : ℕ) → node_in (graph_nodes g) s.at ≡ Some (node op c.behind) → OpFits g op → AreSized g s.objects → next_of op.kind c.behind ≡ next.To c.behind
        → Behind Open c s k → Cost s (C s.calls (f.own op) + k)
    one_goes c s k at fits sized to rest = goes s (node op c.behind) c.behind k at to (λ ws u e.
        let left = leaves g op (A op s) (B op s) s u ws sized e in
        rest (record u { at = c.behind }) (refl, left.calls) left.sized (λ i sp. left.untouched i sp.itself)
        (λ i a copies into from. copied g op (A op s) (B op s) s u i ws fits copies into sized e ∙ ap (operand_word s.objects) from))

    one_returns : (main : Bool) (c : Around) (s : Spot) (k : ℕ) → node_in (graph_nodes g) s.at ≡ Some (node op c.behind) → OpFits g op → AreSized g s.objects → is_kind op.kind (return_kind main) ≡ true
        → Behind Returns c s k → Cost s (C s.calls (f.own op) + k)
    one_returns true c s k at fits sized h rest = finished s op c.behind k at (is_finish_kind op.kind h)
    one_returns false c s k at fits sized h rest =
        let ret = is_return_kind op.kind h in
        returned s op c.behind k at ret (return_still g op (A op s) (B op s) s fits ret) (λ n ns e.
        rest (record s { at = n; calls = ns }) e sized (λ i sp. refl) (λ i a copies into from. let bad = sym ret ∙ copies in absurd (cc)))

    one_by : (w : Where) (e : Ending) (c : Around) (s : Spot) (k : ℕ) → ends_list w e op.kind ≡ true → node_in (graph_nodes g) s.at ≡ Some (node op c.behind) → OpFits g op → AreSized g s.objects
        → Behind e c s k → Cost s (C s.calls (f.own op) + k)
    one_by w Open c s k h at fits sized rest = one_goes c s k at fits sized (plain_next op.kind c.behind h) rest
    one_by w MayGo c s k h at fits sized rest = elim (or_cases (stands_alone op.kind) (is_kind op.kind kind.Go) h) [
      | inl a ↦ one_goes c s k at fits sized (plain_next op.kind c.behind a) rest
      | inr b ↦ one_goes c s k at fits sized (ap (λ y. next_of y c.behind) (is_go_kind op.kind b)) rest
    ]
    one_by w Returns c s k h at fits sized rest = one_returns w.in_main c s k at fits sized h rest

    runs_op : RunsItem (laid_by (Item-F.One op)) (fitting_by (Item-F.One op)) (doing_op op) (Some (f.own op))
    runs_op = record {
      alone = λ o e. let same : op ≡ o = cc in (ap (λ p. laid_by (Item-F.One p)) same, ap (λ p. Some (f.own p)) same, ap doing_op same);
      runs = λ w e before c q s k fits ve go rest.
          let same : f.own op ≡ q = cc in
          let stood = stood_first (node op c.behind) [] in
          subst (λ z. Cost s (C s.calls z + k)) same
          (one_by w e c s k fits (found (node op c.behind ∷ []) (node op c.behind) s go.among stood go.at) (go.among (node op c.behind) stood).1 go.sized rest);
    }

  -- ---- branches, switches, calls

  runs_branch : (test : Op) (la : List Laid) (ta : List Fitting) (da : Doing) (va : List (Option Weight)) (lb : List Laid) (tb : List Fitting) (db : Doing) (vb : List (Option Weight)) → RunsList la ta da va → RunsList lb tb db vb
      → RunsItem (laid_by (Item-F.Branch test la lb)) (fitting_by (Item-F.Branch test ta tb)) (doing_both da db) (joined plus (Some (f.own test)) (joined greater (all_of va) (all_of vb)))
  runs_branch test la ta da va lb tb db vb a b = record {
    alone = λ o e. absurd (cc);
    runs = λ w e before c q s k fits ve go rest.
        let p = and_parts (not_returning e) (branch_fits w test ta tb) fits in
        let r = branch_parts w test ta tb p.1 in
        let j = joined_parts plus (Some (f.own test)) (joined greater (all_of va) (all_of vb)) q ve in
        let own : f.own test ≡ j.0 = let h = j.2 in cc in
        let i = joined_parts greater (all_of va) (all_of vb) j.1 j.3 in
        let x = test_node test (first_of la c.behind) (first_of lb c.behind) in
        let stood = stood_first x (nodes_of la c ++ nodes_of lb c) in
        let at = found (x ∷ (nodes_of la c ++ nodes_of lb c)) x s go.among stood go.at in
        let left = (is_cost s.calls).left i.0 i.1 in
        let right = (is_cost s.calls).right i.0 i.1 in
        let arm = ap (C s.calls) i.4 in
        let sum = (is_cost s.calls).sum j.0 j.1 in
        let first = ap (C s.calls) own in
        let is = ap (C s.calls) j.4 in
        more s (C s.calls (f.own test) + (C s.calls j.1 + k)) (C s.calls q + k)
        (tested s test (first_of la c.behind) (first_of lb c.behind) (C s.calls j.1 + k) at (test_still g test (A test s) (B test s) s (go.among x stood).1 r.0)
        (λ _. more (record s { at = first_of la c.behind }) (C s.calls i.0 + k) (C s.calls j.1 + k)
        (a.runs w MayGo None c i.0 (record s { at = first_of la c.behind }) k r.1 i.2 (record {
          among = λ y st. go.among y (stood_behind x (nodes_of la c ++ nodes_of lb c) y (stood_left (nodes_of la c) (nodes_of lb c) y st));
          turns = λ y st. go.turns y (stood_left da.turns db.turns y st);
          calls = λ h ct. go.calls h (Contains-append_left da.calls db.calls h ct);
          knows = tt;
          sized = go.sized;
          at = refl;
          deep = go.deep;
        }) (λ u ex sz same. rest u (plain_exit e c s.calls u p.0 ex.0 ex.1) sz (λ y sp. same y (spares_left y da db sp)) tt))
        (omega (arith, left, arm)))
        (λ _. more (record s { at = first_of lb c.behind }) (C s.calls i.1 + k) (C s.calls j.1 + k)
        (b.runs w Open None c i.1 (record s { at = first_of lb c.behind }) k r.2 i.3 (record {
          among = λ y st. go.among y (stood_behind x (nodes_of la c ++ nodes_of lb c) y (stood_right (nodes_of la c) (nodes_of lb c) y st));
          turns = λ y st. go.turns y (stood_right da.turns db.turns y st);
          calls = λ h ct. go.calls h (Contains-append_right da.calls db.calls h ct);
          knows = tt;
          sized = go.sized;
          at = refl;
          deep = go.deep;
        }) (λ u ex sz same. rest u (plain_exit e c s.calls u p.0 ex.0 ex.1) sz (λ y sp. same y (spares_right y da db sp)) tt))
        (omega (arith, right, arm))))
        (omega (arith, sum, first, is));
  }

  runs_switch : (ls : List Laid) (ts : List Fitting) (d : Doing) (vs : List (Option Weight)) → RunsList ls ts d vs → RunsItem (laid_by (Item-F.Switch ls)) (fitting_by (Item-F.Switch ts)) d (all_of vs)
  runs_switch ls ts d vs r = record {
    alone = λ o e. absurd (cc);
    runs = λ w e before c q s k fits ve go rest.
        let p = and_parts (not_returning e) (list_fits (in_switch w) Open None ts) fits in
        r.runs (in_switch w) Open None (record c { break_to = c.behind }) q s k p.1 ve (record {
          among = go.among;
          turns = go.turns;
          calls = go.calls;
          knows = tt;
          sized = go.sized;
          at = go.at;
          deep = go.deep;
        }) (λ u ex sz same. rest u (plain_exit e c s.calls u p.0 ex.0 ex.1) sz same tt);
  }

  called_weight : (w : Weight) (x : Option (Option ℕ)) (q : Weight) → call w x ≡ Some q → (n : ℕ) × (x ≡ Some (Some n)) × (with_base n w ≡ q)
  called_weight w None q e = absurd (cc)
  called_weight w (Some None) q e = absurd (cc)
  called_weight w (Some (Some n)) q e = let same : with_base n w ≡ q = cc in (n, refl, same)

  -- what a called function spares is spared by the call
  spares_called : (i h : ℕ) → Spares g (turn i (record { calls = h ∷ []; writes = []; turns = [] })) → Spares g (turn i (doing_in (slice_get g.functions h)))
  spares_called i h sp = record {
    itself = sp.called h (0, omega arith, refl);
    called = λ x c. sp.reached h x (0, omega arith, refl) (calls_it h x c);
    reached = λ x y c r. sp.reached h y (0, omega arith, refl) (on_from h x y (calls_it h x c) r);
  }

  runs_call : (op : Op) (h : ℕ) → RunsItem (laid_by (Item-F.CallTo op h)) (fitting_by (Item-F.CallTo op h)) (doing_by (Item-F.CallTo op h)) (call (f.own op) (slice_get flats h))
  runs_call op h = record {
    alone = λ o e. absurd (cc);
    runs = λ w e before c q s k fits ve go rest.
        let p = and_parts (not_returning e) (is_kind op.kind kind.Call) fits in
        let n = called_weight (f.own op) (slice_get flats h) q ve in
        let x = call_node op h c.behind in
        let stood = stood_first x [] in
        let base = (is_cost s.calls).base n.0 (f.own op) in
        let is = ap (C s.calls) n.2 in
        let deep = go.deep in
        let callee = go.calls h (0, omega arith, refl) in
        more s (C s.calls (f.own op) + (n.0 + k)) (C s.calls q + k)
        (entered s op h c.behind (n.0 + k) (found (x ∷ []) x s go.among stood go.at) (call_still g op (A op s) (B op s) s (go.among x stood).1 (is_call_kind op.kind p.1))
        (callee (record s { at = entry g h; calls = c.behind ∷ s.calls }) n.0 c.behind s.calls k n.1 refl refl deep go.sized
        (λ u at cs sz same. rest u (plain_exit e c s.calls u p.0 at cs) sz (λ i sp. same i (spares_called i h sp)) tt)))
        (omega (arith, base, is));
  }

  runs_leave : (op : Op) (to : LeaveTo) → RunsItem (laid_by (Item-F.Leave op to)) (fitting_by (Item-F.Leave op to)) (doing_op op) None
  runs_leave op to = record {
    alone = λ o e. absurd (cc);
    runs = λ w e before c q s k fits ve go rest. absurd (cc);
  }

  -- ---- loops that count

  module _ (test st back : Op) (lo : List Laid) (to : List Fitting) (d : Doing) (vo : List (Option Weight)) (post : RunsList lo to d vo) (dp : Doing) (count : ℕ) where
    abbrev Step : List Laid
    Step = laid_by (Item-F.One st) ∷ []

    abbrev ds : Doing
    ds = doing_both (doing_op st) nothing

    abbrev whole : Doing
    whole = with_turns (turns_of (Some count) test d) (doing_both dp (doing_both d ds))

    abbrev loop_laid : Laid
    loop_laid = laid_by (Item-F.Loop [] test lo Step back (Some count))

    abbrev T : Around → Node
    T c = test_node test (first_of lo st.number) c.behind

    abbrev O : Around → List Node
    O c = nodes_of lo (in_loop Step back c st.number)

    abbrev N : Node
    N = node st back.number

    abbrev K : Node
    K = node back test.number

    spares_post : (i : ℕ) → Spares g (turn i whole) → Spares g (turn i d)
    spares_post i h = spares_left i d ds (spares_right i dp (doing_both d ds) h)

    spares_step : (i : ℕ) → Spares g (turn i whole) → Contains (writes_of st) i → ⊥
    spares_step i h = (spares_left i (doing_op st) nothing (spares_right i d ds (spares_right i dp (doing_both d ds) h))).itself

    module _ (w : Where) (c : Around) (i bound : ℕ) (counts : test.kind ≡ kind.Below) (variable : test.a ≡ Object i) (limit : test.b ≡ Const bound) (steps : st.kind ≡ kind.Step) (into : st.dest ≡ Some i)
        (loops : back.kind ≡ kind.Go) (post_fits : list_fits (where_in_loop w (Some count)) Open None to ≡ true) (qo : Weight) (weighs : all_of vo ≡ Some qo)
        (before : Option Op) (s : Spot) (go : Begun loop_laid.nodes loop_laid.first whole before c s) where
      abbrev cs : List ℕ
      cs = s.calls

      -- what a turn costs
      abbrev turn_cost : ℕ
      turn_cost = C cs (f.own test) + (C cs qo + (C cs (f.own st) + C cs (f.own back)))

      test_stood : Stood (loop_laid.nodes c) (T c)
      test_stood = stood_first (T c) (O c ++ (N ∷ K ∷ []))

      step_stood : Stood (loop_laid.nodes c) N
      step_stood = stood_behind (T c) (O c ++ (N ∷ K ∷ [])) N (stood_right (O c) (N ∷ K ∷ []) N (stood_first N (K ∷ [])))

      back_stood : Stood (loop_laid.nodes c) K
      back_stood = stood_behind (T c) (O c ++ (N ∷ K ∷ [])) K (stood_right (O c) (N ∷ K ∷ []) K (stood_behind N (K ∷ []) K (stood_first K [])))

      -- within a turn
      record In (u : Spot) : Type 0 where
        calls : u.calls ≡ cs
        sized : AreSized g u.objects
        same : Same whole s.objects u.objects

      variable_spared : Spares g (turn i d)
      variable_spared = go.turns (turn i d) (stood_left (turns_of (Some count) test d) (dp.turns ++ (d.turns ++ ds.turns)) (turn i d) (subst (λ a. Stood (turn_of a d) (turn i d)) (sym variable) (stood_first (turn i d) [])))

      bound_small : bound < 2 ^ 16
      bound_small =
          let b : OperandFits g true test.b = subst (λ y. OperandFits g (parts_of y).b test.b) counts (go.among (T c) test_stood).1.b in
          subst (OperandFits g true) limit b

      test_words : (u : Spot) (v : ℕ) → word_at u.objects i 0 ≡ v → passes test.kind (A test u) (B test u) ≡ nat_lt v bound
      test_words u v e =
          ap (λ y. passes y (A test u) (B test u)) counts ∙ (ap (λ y. nat_lt y (B test u)) (ap (operand_word u.objects) variable ∙ e) ∙ ap (λ y. nat_lt v y) (ap (operand_word u.objects) limit))

      -- from the step on, where so much lies behind the turn
      from_step : (z : Spot) (v k : ℕ) → In z → z.at ≡ st.number → word_at z.objects i 0 ≡ v → suc v < 2 ^ 16
          → ((y : Spot) → In y → y.at ≡ test.number → word_at y.objects i 0 ≡ suc v → Cost y k) → Cost z (C cs (f.own st) + (C cs (f.own back) + k))
      from_step z v k in' at word small rest =
          let fits = (go.among N step_stood).1 in
          let own : IsStep st = subst (λ y. CountFits y st) steps fits.count in
          let same : Some own.0 ≡ Some i = sym own.2 ∙ into in
          let is : own.0 ≡ i = cc in
          let operand : A st z ≡ v = ap (operand_word z.objects) own.1 ∙ (ap (λ o. word_at z.objects o 0) is ∙ word) in
          subst (λ y. Cost z (C y (f.own st) + (C cs (f.own back) + k))) in'.calls
          (goes z N back.number (C cs (f.own back) + k) (found (loop_laid.nodes c) N z go.among step_stood at) (ap (λ y. next_of y back.number) steps) (λ ws y e.
          let left = leaves g st (A st z) (B st z) z y ws in'.sized e in
          let next_word : word_at y.objects i 0 ≡ suc v = stepped g st (A st z) (B st z) z y i ws fits steps into in'.sized e ∙ (ap (λ a. (a + 1) % 2 ^ 16) operand ∙ omega (arith, small)) in
          from_back (record y { at = back.number }) (suc v) k (record {
            calls = left.calls ∙ in'.calls;
            sized = left.sized;
            same = λ j sp. left.untouched j (spares_step j sp) ∙ in'.same j sp;
          }) refl next_word rest))
        where
          from_back : (y : Spot) (v k : ℕ) → In y → y.at ≡ back.number → word_at y.objects i 0 ≡ v
              → ((x : Spot) → In x → x.at ≡ test.number → word_at x.objects i 0 ≡ v → Cost x k) → Cost y (C cs (f.own back) + k)
          from_back y v k in' at word rest =
              let fits = (go.among K back_stood).1 in
              subst (λ x. Cost y (C x (f.own back) + k)) in'.calls
              (goes y K test.number k (found (loop_laid.nodes c) K y go.among back_stood at) (ap (λ x. next_of x test.number) loops) (λ ws x e.
              let same : y ≡ x = went [] ws y x (sym (go_still g back (A back y) (B back y) y fits loops) ∙ e) in
              subst (λ (a : Spot). Cost (record a { at = test.number }) k) same
              (rest (record y { at = test.number }) (record { calls = in'.calls; sized = in'.sized; same = in'.same }) refl word)))

      lt_true : (v : ℕ) → nat_lt v bound ≡ true → v < bound
      lt_true v e = grind arith

      lt_false : (v : ℕ) → nat_lt v bound ≡ false → bound ≤ v
      lt_false v e = grind arith

      -- from the test on, where so many turns are left
      from_test : (left : ℕ) (u : Spot) (v k : ℕ) → In u → u.at ≡ test.number → word_at u.objects i 0 ≡ v → bound - v ≡ left
          → ((y : Spot) → In y → y.at ≡ c.behind → Cost y k) → Cost u (left * turn_cost + (C cs (f.own test) + k))
      from_test zero u v k in' at word few rest =
          more u (C cs (f.own test) + k) (0 * turn_cost + (C cs (f.own test) + k))
          (subst (λ y. Cost u (C y (f.own test) + k)) in'.calls
          (tested u test (first_of lo st.number) c.behind k (found (loop_laid.nodes c) (T c) u go.among test_stood at) (below_still g test (A test u) (B test u) u (go.among (T c) test_stood).1 counts)
          (λ e. let lt = lt_true v (sym (test_words u v word) ∙ e) in absurd (omega (arith, few, lt)))
          (λ e. rest (record u { at = c.behind }) (record { calls = in'.calls; sized = in'.sized; same = in'.same }) refl)))
          (omega arith)
      from_test (suc left) u v k in' at word few rest =
          let behind_turn = left * turn_cost + (C cs (f.own test) + k) in
          let body = C cs qo + (C cs (f.own st) + (C cs (f.own back) + behind_turn)) in
          more u (C cs (f.own test) + body) (suc left * turn_cost + (C cs (f.own test) + k))
          (subst (λ y. Cost u (C y (f.own test) + body)) in'.calls
          (tested u test (first_of lo st.number) c.behind body (found (loop_laid.nodes c) (T c) u go.among test_stood at) (below_still g test (A test u) (B test u) u (go.among (T c) test_stood).1 counts)
          (λ e. let lt = lt_true v (sym (test_words u v word) ∙ e) in let small = bound_small in
          subst (λ y. Cost (record u { at = first_of lo st.number }) (C y qo + (C cs (f.own st) + (C cs (f.own back) + behind_turn)))) in'.calls
          (post.runs (where_in_loop w (Some count)) Open None (in_loop Step back c st.number) qo (record u { at = first_of lo st.number }) (C cs (f.own st) + (C cs (f.own back) + behind_turn)) post_fits weighs
          (record {
            among = λ y h. go.among y (stood_behind (T c) (O c ++ (N ∷ K ∷ [])) y (stood_left (O c) (N ∷ K ∷ []) y h));
            turns = λ y h. go.turns y (stood_right (turns_of (Some count) test d) (dp.turns ++ (d.turns ++ ds.turns)) y (stood_right dp.turns (d.turns ++ ds.turns) y (stood_left d.turns ds.turns y h)));
            calls = λ h y. go.calls h (Contains-append_right dp.calls (d.calls ++ ds.calls) h (Contains-append_left d.calls ds.calls h y));
            knows = tt;
            sized = in'.sized;
            at = refl;
            deep = subst (λ y. depth ≤ length y) (sym in'.calls) go.deep;
          })
          (λ z ex sz same. from_step z v behind_turn (record { calls = ex.1 ∙ in'.calls; sized = sz; same = λ j sp. same j (spares_post j sp) ∙ in'.same j sp }) ex.0 (same i variable_spared ∙ word) (omega (arith, lt, small))
          (λ y in'' at' word'. from_test left y (suc v) k in'' at' word' (omega (arith, few)) rest))))
          (λ e. let ge = lt_false v (sym (test_words u v word) ∙ e) in absurd (omega (arith, few, ge)))))
          (omega arith)

    -- what the loop weighs
    abbrev loop_weight : Option Weight
    loop_weight = turns (Some count) (f.own test) (joined plus (Some no_weight) (joined plus (Some (f.own test)) (joined plus (all_of vo) (joined plus (joined plus (Some (f.own st)) (Some no_weight)) (Some (f.own back))))))

    abbrev turn_weight : Weight → Weight
    turn_weight qo = plus no_weight (plus (f.own test) (plus qo (plus (plus (f.own st) no_weight) (f.own back))))

    weight_parts : (o : Option Weight) (q : Weight) → turns (Some count) (f.own test) (joined plus (Some no_weight) (joined plus (Some (f.own test)) (joined plus o (joined plus (joined plus (Some (f.own st)) (Some no_weight)) (Some (f.own back)))))) ≡ Some q
        → (qo : Weight) × (o ≡ Some qo) × (plus (times (max count 1) (turn_weight qo)) (f.own test) ≡ q)
    weight_parts None q e = absurd (cc)
    weight_parts (Some qo) q e = let same : plus (times (max count 1) (turn_weight qo)) (f.own test) ≡ q = cc in (qo, refl, same)

    weight_costs : (cs : List ℕ) (qo q : Weight) → plus (times (max count 1) (turn_weight qo)) (f.own test) ≡ q
        → count * (C cs (f.own test) + (C cs qo + (C cs (f.own st) + C cs (f.own back)))) + C cs (f.own test) ≤ C cs q
    weight_costs cs qo q e =
        let cost = is_cost cs in
        let all = cost.sum (times (max count 1) (turn_weight qo)) (f.own test) in
        let is = ap (C cs) e in
        let a = cost.times (max count 1) (turn_weight qo) in
        let b = cost.sum no_weight (plus (f.own test) (plus qo (plus (plus (f.own st) no_weight) (f.own back)))) in
        let c = cost.sum (f.own test) (plus qo (plus (plus (f.own st) no_weight) (f.own back))) in
        let d = cost.sum qo (plus (plus (f.own st) no_weight) (f.own back)) in
        let h = cost.sum (plus (f.own st) no_weight) (f.own back) in
        let j = cost.sum (f.own st) no_weight in
        let z = cost.none in
        let t : C cs (turn_weight qo) ≡ C cs (f.own test) + (C cs qo + (C cs (f.own st) + C cs (f.own back))) = omega (arith, b, c, d, h, j, z) in
        let le = mul-le-mul_right {m = count} {n = max count 1} (C cs (turn_weight qo)) (omega arith) in
        let ct = ap (λ y. count * y) t in
        omega (arith, all, is, a, le, ct)

    counted_runs : (w : Where) (e : Ending) (before : Option Op) (c : Around) (q : Weight) (s : Spot) (k : ℕ) (ts : List Fitting) (tp : List Fitting) → not_returning e ≡ true → CountedParts w test tp to ts back before count
        → ((x : Fitting) (o : Op) → ts ≡ x ∷ [] → x.alone ≡ Some o → o ≡ st)
        → loop_weight ≡ Some q → Begun loop_laid.nodes loop_laid.first whole before c s
        → ((u : Spot) → Exits e c s.calls u → AreSized g u.objects → Same whole s.objects u.objects → Cost u k) → Cost s (C s.calls q + k)
    counted_runs w e before c q s k ts tp n parts only ve go rest =
        let o = weight_parts (all_of vo) q ve in
        let counted = parts.counted in
        let one = counted.step_is in
        let from = counted.from in
        let is : one.op ≡ st = only one.only one.op one.is_only one.is_alone in
        let knows = subst (λ y. Knows y s.objects) from.is_before go.knows in
        let le = weight_costs s.calls o.0 q o.2 in
        more s (count * (C s.calls (f.own test) + (C s.calls o.0 + (C s.calls (f.own st) + C s.calls (f.own back)))) + (C s.calls (f.own test) + k)) (C s.calls q + k)
        (from_test w c counted.i counted.bound parts.tests counted.variable counted.limit (subst (λ (y : Op). y.kind ≡ kind.Step) is one.steps) (subst (λ (y : Op). y.dest ≡ Some counted.i) is one.into) parts.goes_back parts.post_fits o.0 o.1 before s go
        count s from.from k (record { calls = refl; sized = go.sized; same = λ j sp. refl }) go.at (knows counted.i from.from from.copies from.into from.constant) from.turns
        (λ y in' at. rest y (plain_exit e c s.calls y n at in'.calls) in'.sized in'.same))
        (omega (arith, le))

  -- a loop with these parts runs so
  abbrev Loops : (test back : Op) (lo : List Laid) (d : Doing) (vo : List (Option Weight)) (dp : Doing) (n : ℕ) (e : Ending) (before : Option Op) (c : Around) (q : Weight) (s : Spot) (k : ℕ)
      → List Laid → List (Option Weight) → List Laid → List (Option Weight) → Doing → Type 0
  Loops test back lo d vo dp n e before c q s k lp vp ls vs ds =
      turns (Some n) (f.own test) (joined plus (all_of vp) (joined plus (Some (f.own test)) (joined plus (all_of vo) (joined plus (all_of vs) (Some (f.own back)))))) ≡ Some q
      → Begun (laid_by (Item-F.Loop lp test lo ls back (Some n))).nodes (laid_by (Item-F.Loop lp test lo ls back (Some n))).first (with_turns (turns_of (Some n) test d) (doing_both dp (doing_both d ds))) before c s
      → ((u : Spot) → Exits e c s.calls u → AreSized g u.objects → Same (with_turns (turns_of (Some n) test d) (doing_both dp (doing_both d ds))) s.objects u.objects → Cost u k) → Cost s (C s.calls q + k)

  loops : (test st back : Op) (lo : List Laid) (to : List Fitting) (d : Doing) (vo : List (Option Weight)) (post : RunsList lo to d vo) (dp : Doing) (n : ℕ) (w : Where) (e : Ending) (before : Option Op) (c : Around) (q : Weight) (s : Spot) (k : ℕ)
      (ts tp : List Fitting) → not_returning e ≡ true → CountedParts w test tp to ts back before n → ((x : Fitting) (o : Op) → ts ≡ x ∷ [] → x.alone ≡ Some o → o ≡ st)
      → (lp : List Laid) (vp : List (Option Weight)) (ls : List Laid) (vs : List (Option Weight)) (ds : Doing)
      → lp ≡ [] → vp ≡ [] → ls ≡ laid_by (Item-F.One st) ∷ [] → vs ≡ Some (f.own st) ∷ [] → ds ≡ doing_both (doing_op st) nothing → Loops test back lo d vo dp n e before c q s k lp vp ls vs ds
  loops test st back lo to d vo post dp n w e before c q s k ts tp nr parts only lp vp ls vs ds e1 e2 e3 e4 e5 =
      subst (λ x. Loops test back lo d vo dp n e before c q s k x vp ls vs ds) (sym e1)
      (subst (λ x. Loops test back lo d vo dp n e before c q s k [] x ls vs ds) (sym e2)
      (subst (λ x. Loops test back lo d vo dp n e before c q s k [] [] x vs ds) (sym e3)
      (subst (λ x. Loops test back lo d vo dp n e before c q s k [] [] (laid_by (Item-F.One st) ∷ []) x ds) (sym e4)
      (subst (λ x. Loops test back lo d vo dp n e before c q s k [] [] (laid_by (Item-F.One st) ∷ []) (Some (f.own st) ∷ []) x) (sym e5)
      (counted_runs test st back lo to d vo post dp n w e before c q s k ts tp nr parts only)))))

  runs_loop : (lp : List Laid) (tp : List Fitting) (dp : Doing) (vp : List (Option Weight)) (test : Op) (lo : List Laid) (to : List Fitting) (d : Doing) (vo : List (Option Weight)) (ls : List Laid) (ts : List Fitting) (ds : Doing)
      (vs : List (Option Weight)) (back : Op) (count : Option ℕ) → RunsList lp tp dp vp → RunsList lo to d vo → RunsList ls ts ds vs
      → RunsItem (laid_by (Item-F.Loop lp test lo ls back count)) (fitting_by (Item-F.Loop tp test to ts back count)) (with_turns (turns_of count test d) (doing_both dp (doing_both d ds)))
      (turns count (f.own test) (joined plus (all_of vp) (joined plus (Some (f.own test)) (joined plus (all_of vo) (joined plus (all_of vs) (Some (f.own back)))))))
  runs_loop lp tp dp vp test lo to d vo ls ts ds vs back None pre post step = record {
    alone = λ o e. absurd (cc);
    runs = λ w e before c q s k fits ve go rest. absurd (cc);
  }
  runs_loop lp tp dp vp test lo to d vo ls ts ds vs back (Some n) pre post step = record {
    alone = λ o e. absurd (cc);
    runs = λ w e before c q s k fits ve go rest.
        let p = and_parts (not_returning e) (loop_fits w before tp test to ts back (Some n)) fits in
        let parts = counted_parts w before tp test to ts back n p.1 in
        let one = parts.counted.step_is in
        let empty = pre.none parts.no_pre in
        let only = step.single one.only one.op one.is_only one.is_alone in
        let same : (x : Fitting) (o : Op) → ts ≡ x ∷ [] → x.alone ≡ Some o → o ≡ one.op = λ x o ex eo. one_alone ts one.only x one.op o one.is_only ex one.is_alone eo in
        loops test one.op back lo to d vo post dp n w e before c q s k ts tp p.0 parts same lp vp ls vs ds empty.0 empty.1 only.0 only.1 only.2 ve go (λ u ex sz sa. rest u ex sz sa tt);
  }
    where
      one_alone : (ts : List Fitting) (x y : Fitting) (a b : Op) → ts ≡ x ∷ [] → ts ≡ y ∷ [] → x.alone ≡ Some a → y.alone ≡ Some b → b ≡ a
      one_alone ts x y a b ex ey ea eb =
          let xs : y ∷ [] ≡ x ∷ [] = sym ey ∙ ex in
          let is : y ≡ x = cc in
          let both : Some b ≡ Some a = sym eb ∙ (ap (λ (z : Fitting). z.alone) is ∙ ea) in cc

  -- ---- every item

  abbrev pub IsRun : Item → Type 0
  IsRun x = RunsItem (laid x) (fitting x) (doing x) (item_weight f.own flats x)

  -- an item with what holds of it
  abbrev Known : Type 0
  Known = (x : Item) × IsRun x

  abbrev bare : List Known → List Item
  bare es = map (λ (e : Known). e.0) es

  abbrev weigh : Item → Option Weight
  weigh x = item_weight f.own flats x

  run_list : (es : List Known) → RunsList (map laid (bare es)) (map fitting (bare es)) (doing_all (map doing (bare es))) (map weigh (bare es))
  run_list [] = runs_none
  run_list (e ∷ []) = runs_one (laid e.0) (fitting e.0) (doing e.0) (weigh e.0) e.1
  run_list (e ∷ h ∷ es) =
      runs_more (laid e.0) (fitting e.0) (doing e.0) (weigh e.0) (laid h.0) (map laid (bare es)) (fitting h.0) (map fitting (bare es)) (doing_all (map doing (bare (h ∷ es)))) (weigh h.0) (map weigh (bare es)) e.1 (run_list (h ∷ es))

  abbrev RunLayer : Item-F Item → Type 0
  RunLayer z = RunsItem (laid_by (map-Item Item Laid laid z)) (fitting_by (map-Item Item Fitting fitting z)) (doing_by (map-Item Item Doing doing z)) (weight_by f.own flats (map-Item Item (Option Weight) weigh z))

  run_layer : (y : Item-F Known) → RunLayer (map-Item Known Item (λ e. e.0) y)
  run_layer (Item-F.One op) = runs_op op
  run_layer (Item-F.Branch test a b) =
      runs_branch test (map laid (bare a)) (map fitting (bare a)) (doing_all (map doing (bare a))) (map weigh (bare a)) (map laid (bare b)) (map fitting (bare b)) (doing_all (map doing (bare b))) (map weigh (bare b)) (run_list a) (run_list b)
  run_layer (Item-F.Loop pre test post step back count) =
      runs_loop (map laid (bare pre)) (map fitting (bare pre)) (doing_all (map doing (bare pre))) (map weigh (bare pre)) test (map laid (bare post)) (map fitting (bare post)) (doing_all (map doing (bare post))) (map weigh (bare post))
      (map laid (bare step)) (map fitting (bare step)) (doing_all (map doing (bare step))) (map weigh (bare step)) back count (run_list pre) (run_list post) (run_list step)
  run_layer (Item-F.Switch items) = runs_switch (map laid (bare items)) (map fitting (bare items)) (doing_all (map doing (bare items))) (map weigh (bare items)) (run_list items)
  run_layer (Item-F.CallTo op h) = runs_call op h
  run_layer (Item-F.Leave op to) = runs_leave op to

  laid_rolled : (x : Item-F Item) → laid (roll-Item x) ≡ laid_by (map-Item Item Laid laid x)
  unfolding laid
  laid_rolled x = fold-roll-Item Laid laid_by x

  fitting_rolled : (x : Item-F Item) → fitting (roll-Item x) ≡ fitting_by (map-Item Item Fitting fitting x)
  unfolding fitting
  fitting_rolled x = fold-roll-Item Fitting fitting_by x

  doing_rolled : (x : Item-F Item) → doing (roll-Item x) ≡ doing_by (map-Item Item Doing doing x)
  unfolding doing
  doing_rolled x = fold-roll-Item Doing doing_by x

  weight_rolled : (x : Item-F Item) → weigh (roll-Item x) ≡ weight_by f.own flats (map-Item Item (Option Weight) weigh x)
  unfolding item_weight
  weight_rolled x = fold-roll-Item (Option Weight) (weight_by f.own flats) x

  run_rolled : (x : Item-F Item) → RunLayer x → IsRun (roll-Item x)
  run_rolled x h =
      subst (λ l. RunsItem l (fitting (roll-Item x)) (doing (roll-Item x)) (weigh (roll-Item x))) (sym (laid_rolled x))
      (subst (λ t. RunsItem (laid_by (map-Item Item Laid laid x)) t (doing (roll-Item x)) (weigh (roll-Item x))) (sym (fitting_rolled x))
      (subst (λ d. RunsItem (laid_by (map-Item Item Laid laid x)) (fitting_by (map-Item Item Fitting fitting x)) d (weigh (roll-Item x))) (sym (doing_rolled x))
      (subst (λ v. RunsItem (laid_by (map-Item Item Laid laid x)) (fitting_by (map-Item Item Fitting fitting x)) (doing_by (map-Item Item Doing doing x)) v) (sym (weight_rolled x)) h)))

  run_item : (x : Item) → IsRun x
  run_item = ind-Item IsRun (λ x y is. run_rolled x (subst RunLayer is (run_layer y)))

  pub run_items : (xs : List Item) → RunsList (laid_items xs) (fittings xs) (doings xs) (item_weights f.own flats xs)
  run_items [] = runs_none
  run_items (x ∷ []) = runs_one (laid x) (fitting x) (doing x) (weigh x) (run_item x)
  run_items (x ∷ y ∷ xs) =
      runs_more (laid x) (fitting x) (doing x) (weigh x) (laid y) (laid_items xs) (fitting y) (fittings xs) (doings (y ∷ xs)) (weigh y) (item_weights f.own flats xs) (run_item x) (run_items (y ∷ xs))
