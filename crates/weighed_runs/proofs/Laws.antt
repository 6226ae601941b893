-- Runs through the items of a graph.
use Rattle.std.proofs.Common.{◌≡◌, ℕ, zero, suc, ◌+◌, ◌<◌, ◌≤◌, true, false, Option, None, Some, List, [], ◌∷◌, length, refl, sym, ap, subst, ◌∙◌, arith, zero-add}
use Rattle.std.specs.Prelude.{slice_get, nat_lt, ◌==◌, if◌then◌else◌, Contains}
use Rattle.std.proofs.lemmas.Bool.{and_parts}
use Rattle.flow_graph.specs.declared.graph.Func.{Func}
use Rattle.flow_graph.specs.declared.graph.Item.{Item}
use Rattle.flow_graph.specs.declared.graph.Graph.{Graph}
use Rattle.flow_graph.specs.declared.nodes.Node.{Node}
use Rattle.flow_graph.specs.declared.nodes.Around.{Around}
use Rattle.flow_graph.specs.Nodes.{all_nodes, around_body, body_nodes, entry, first_in, first_of, graph_nodes, laid_items, node_in, nodes_of}
use Rattle.flow_graph.specs.Flow.{Spot}
use Rattle.flow_graph.specs.Rules.{Ending, IsGraph, MayGo, Open, Returns, bodies_fit, body_fits, doing_in, height_of}
use Rattle.flow_graph.proofs.ListLemmas.{Stood, stood_left, stood_right}
use Rattle.flow_graph.proofs.NodeLemmas.{Finds, finds_all, numbered_differ}
use Rattle.item_weights.specs.Weights.{Weight}
use Rattle.item_weights.specs.Costs.{cost_of}
use Rattle.weighed_runs.specs.Spending.{AreNumbers, BodiesAreParts, BodiesCostAtMost, Force, IsPart, RunsCostAtMost, StopsAt, is_over, nowhere}
use Rattle.weighed_runs.proofs.Running.{Among, C, Cost, Exits, IsCallee, Same, run_items}

-- ---- each operation is found by its number

finds_at : (table xs : List Node) (k : ℕ) (x : Node) → Finds table xs → slice_get xs k ≡ Some x → node_in table x.op.number ≡ Some x
finds_at table [] k x h e = absurd (cc)
finds_at table (y ∷ ys) zero x h e = let same : y ≡ x = cc in subst (λ (z : Node). node_in table z.op.number ≡ Some z) same h.0
finds_at table (y ∷ ys) (suc k) x h e = finds_at table ys k x h.1 e

found_node : (g : Graph) (n : ℕ) (x : Node) → IsGraph g → slice_get (graph_nodes g) n ≡ Some x → node_in (graph_nodes g) x.op.number ≡ Some x
found_node g n x rules e = finds_at (graph_nodes g) (graph_nodes g) n x (finds_all (graph_nodes g) (numbered_differ 0 (graph_nodes g) rules.numbered)) e

-- ---- bodies are parts

body_at : (main n : ℕ) (fs : List Func) (f : ℕ) (b : Func) → bodies_fit main n fs ≡ true → slice_get fs f ≡ Some b → body_fits (n + f == main) b.body ≡ true
body_at main n [] f b h e = absurd (cc)
body_at main n (x ∷ xs) zero b h e =
    let same : x ≡ b = cc in
    let p = and_parts (body_fits (n == main) x.body) (bodies_fit main (n + 1) xs) h in
    subst (λ (y : Func). body_fits (n + 0 == main) y.body ≡ true) same (subst (λ k. body_fits (k == main) x.body ≡ true) (omega arith) p.0)
body_at main n (x ∷ xs) (suc f) b h e =
    let p = and_parts (body_fits (n == main) x.body) (bodies_fit main (n + 1) xs) h in
    subst (λ k. body_fits (k == main) b.body ≡ true) (omega arith) (body_at main (n + 1) xs f b p.1 e)

body_among : (fs : List Func) (f : ℕ) (b : Func) (x : Node) → slice_get fs f ≡ Some b → Stood (body_nodes b) x → Stood (all_nodes fs) x
body_among [] f b x e s = absurd (cc)
body_among (y ∷ ys) zero b x e s = let same : b ≡ y = cc in stood_left (body_nodes y) (all_nodes ys) x (subst (λ (z : Func). Stood (body_nodes z) x) same s)
body_among (y ∷ ys) (suc f) b x e s = stood_right (body_nodes y) (all_nodes ys) x (body_among ys f b x e s)

pub bodies_are_parts : BodiesAreParts
bodies_are_parts g h func rules e = (
  record {
    nodes = λ k x is. let s = body_among g.functions h func x e (record { place = k; is_there = is }) in (s.place, s.is_there);
    turns = λ k t is. rules.turns h k t (subst (λ y. slice_get (doing_in y).turns k ≡ Some t) (sym e) is);
    calls = λ c is. (rules.calls h c (subst (λ y. Contains (doing_in y).calls c) (sym e) is)).0;
    where' = record { in_main = h == g.main; breaks = false; continues = false; returns = true };
    ending = Returns;
    fits = subst (λ k. body_fits (k == g.main) func.body ≡ true) (zero-add h) (body_at g.main 0 g.functions h func rules.bodies e);
  },
  refl,
)

entry_of : (g : Graph) (h : ℕ) (func : Func) → slice_get g.functions h ≡ Some func → entry g h ≡ first_of (laid_items func.body) 0
entry_of g h func e = ap first_in e

-- ---- calls, by the heights of functions

module _ (g : Graph) (f : Force) (flats : List (Option ℕ)) (rules : IsGraph g) (numbers : AreNumbers g f flats) (behind depth : ℕ) where
  abbrev Callee : ℕ → Type 0
  Callee h = IsCallee g f flats behind depth h

  part_among : (items : List Item) (c : Around) → IsPart g items c → Among g f flats behind depth (nodes_of (laid_items items) c)
  part_among items c part x s =
      let at = part.nodes s.place x s.is_there in (found_node g at.0 x rules at.1, rules.operations at.0 x at.1)

  -- where calls go on beside those of the items, all objects are in FRAM
  called_costs : (n : ℕ) (ns : List ℕ) (w : Weight) → depth ≤ length ns → C g f flats behind depth (n ∷ ns) w ≡ cost_of f.called f.objects w
  called_costs n ns w le = ap (λ b. cost_of (if b then f.called else f.here) f.objects w) (deeper (length ns) le)
    where
      deeper : (k : ℕ) → depth ≤ k → nat_lt depth (suc k) ≡ true
      deeper k le = grind arith

  callees : (top h : ℕ) → height_of rules.heights h < top → Callee h
  unfolding bodies_are_parts
  callees zero h lt = absurd (omega (arith, lt))
  callees (suc top) h lt = λ s number n ns k flat at cs deep sized rest.
      let is = numbers h number flat in
      let func = is.func in
      let part = (bodies_are_parts g h func rules is.is_function).0 in
      let entry_is = entry_of g h func is.is_function in
      let cost = called_costs n ns is.weight deep in
      let enough = is.enough in
      let run = run_items g f flats behind depth func.body in
      let there : Cost g f flats behind depth s (C g f flats behind depth s.calls is.weight + k) = run.runs part.where' Returns None around_body is.weight s k part.fits is.weighs (record {
        among = part_among func.body around_body part;
        turns = λ t st. part.turns st.place t st.is_there;
        calls = λ c ct. callees top c (let less = (rules.calls h c (subst (λ y. Contains (doing_in y).calls c) (sym is.is_function) ct)).1 in omega (arith, less, lt));
        knows = tt;
        sized = sized;
        at = at ∙ entry_is;
        deep = subst (λ y. depth ≤ length y) (sym cs) (omega (arith, deep));
      }) (λ u ex sz same.
      let both : n ∷ ns ≡ u.at ∷ u.calls = sym cs ∙ ex in
      let to : u.at ≡ n = cc in
      let on : u.calls ≡ ns = cc in
      rest u to on sz (subst (λ y. Same g f flats behind depth (doing_in y) s.objects u.objects) (sym is.is_function) same)) in
      let here : C g f flats behind depth s.calls is.weight ≡ cost_of f.called f.objects is.weight = ap (λ y. C g f flats behind depth y is.weight) cs ∙ cost in
      λ m. let p = there m in omega (arith, p, here, enough)

  over_behind : (s : Spot) → s.at ≡ behind → length s.calls ≡ depth → is_over behind depth s ≡ true
  over_behind s a b = grind arith

  over_back : (s : Spot) → length s.calls < depth → is_over behind depth s ≡ true
  over_back s lt = grind arith

  over_costs : (s : Spot) → is_over behind depth s ≡ true → Cost g f flats behind depth s 0
  over_costs s e zero = omega arith
  over_costs s e (suc m) = rw e (omega arith)

pub runs_cost_at_most : RunsCostAtMost
runs_cost_at_most g f flats items c w s stop m rules numbers part stops weighs sized at =
    let depth = length s.calls in
    let run = run_items g f flats stop depth items in
    let there : Cost g f flats stop depth s (C g f flats stop depth s.calls w + 0) = run.runs part.where' part.ending None c w s 0 part.fits weighs (record {
      among = part_among g f flats rules numbers stop depth items c part;
      turns = λ t st. part.turns st.place t st.is_there;
      calls = λ h ct. callees g f flats rules numbers stop depth (suc (height_of rules.heights h)) h (omega arith);
      knows = tt;
      sized = sized;
      at = at;
      deep = omega arith;
    }) (λ u ex sz same. over_costs g f flats rules numbers stop depth u (is_past part.ending u stops ex)) in
    let here : C g f flats stop depth s.calls w ≡ cost_of f.here f.objects w = ap (λ b. cost_of (if b then f.called else f.here) f.objects w) (not_below depth) in
    let p = there m in omega (arith, p, here)
  where
    not_below : (k : ℕ) → nat_lt k k ≡ false
    not_below k = grind arith

    is_past : (e : Ending) (u : Spot) → StopsAt c.behind e stop → Exits g f flats stop (length s.calls) e c s.calls u → is_over stop (length s.calls) u ≡ true
    is_past Open u is ex = over_behind g f flats rules numbers stop (length s.calls) u (ex.0 ∙ sym is) (ap length ex.1)
    is_past MayGo u is ex = over_behind g f flats rules numbers stop (length s.calls) u (ex.0 ∙ sym is) (ap length ex.1)
    is_past Returns u is ex = let n = ap length ex in over_back g f flats rules numbers stop (length s.calls) u (omega (arith, n))

pub bodies_cost_at_most : BodiesCostAtMost
bodies_cost_at_most g f flats h func w s m rules numbers is_function weighs sized at =
    let body = bodies_are_parts g h func rules is_function in
    runs_cost_at_most g f flats func.body around_body w s (nowhere g) m rules numbers body.0 (subst (λ e. StopsAt 0 e (nowhere g)) (sym body.1) tt) weighs sized (at ∙ entry_of g h func is_function)
