-- The graph of a sound program in scope obeys the rules of operations, bodies, calls and counted loops.
use Rattle.std.proofs.Common.{◌≡◌, ◌≢◌, ℕ, zero, suc, ◌+◌, ◌<◌, Bool, true, false, Option, Some, None, List, [], ◌∷◌, ◌++◌, length, inl, inr, refl, sym, ap, subst, ◌∙◌, arith}
use Rattle.std.specs.Prelude.{◌==◌, Contains, slice_get, slice_index_or}
use Rattle.std.proofs.lemmas.Bool.{eq-eqb, eqb-true, cases_eq, false_from_ne_true, false≢true}
use Rattle.std.proofs.lemmas.Option.{slice_get_within}
use Rattle.std.proofs.lemmas.List.Elements.{Contains-append_right}
use Rattle.c_tree.specs.declared.tree.Function.{Function}
use Rattle.c_tree.specs.declared.tree.Program.{Program}
use Rattle.c_tree.specs.declared.tree.Variable.{Variable}
use Rattle.sound_programs.specs.Scoped.{IsScoped, locals}
use Rattle.sound_programs.specs.SoundPrograms.{IsSound}
use Rattle.flow_graph.specs.declared.graph.Func.{Func}
use Rattle.flow_graph.specs.declared.graph.Graph.{Graph}
use Rattle.flow_graph.specs.declared.nodes.Node.{Node}
use Rattle.flow_graph.specs.Nodes.{all_nodes, around_body, body_nodes, graph_nodes}
use Rattle.flow_graph.specs.Rules.{CallsFit, Doing, Reaches, Returns, Spares, Turn, bodies_fit, body_fits, calls_it, doing_in, doings, height_of, nothing, on_from}
use Rattle.lowered_graphs.specs.GraphOf.{graph_of, no_homes, places_from, reached, temporaries, within_of}
use Rattle.lowered_rules.proofs.BodyFit.{body_where}
use Rattle.lowered_rules.proofs.BodyTemps.{locals_anywhere}
use Rattle.lowered_rules.proofs.EachLemmas.{Each, and_both, each_append, each_at, each_contains, each_weaker}
use Rattle.lowered_rules.proofs.FitLemmas.{Fits, GoodNode, GoodTurn, Ground, Writes}
use Rattle.lowered_rules.proofs.FrameLemmas.{Callee, all_rising, below_of, height, heights_of, locals_known, main_is, main_reached}
use Rattle.lowered_rules.proofs.FunctionFit.{AreTemporaries, Calls, IsGlobal, IsThing, MayThing, OwnThing, function_fits, ground}
use Rattle.lowered_rules.proofs.Introduced.{functions_apart, parameter_apart}
use Rattle.lowered_rules.proofs.NodeRules.{NodeFits, good_fits}
use Rattle.lowered_rules.proofs.PlaceLemmas.{BodyAt, found_at, one_place, place, stands_at}
use Rattle.lowered_rules.proofs.StmtCalls.{Inner}
use Rattle.lowered_rules.proofs.ThingLemmas.{Named, Result, Temporary, Thing}

-- ---- the heights of functions by their places

abbrev pub heights_from : List ℕ → ℕ → List Bool → List ℕ
heights_from hs n [] = []
heights_from hs n (true ∷ ms) = slice_index_or hs n 0 ∷ heights_from hs (n + 1) ms
heights_from hs n (false ∷ ms) = heights_from hs (n + 1) ms

record HeightAt (hs : List ℕ) (n k : ℕ) (ms : List Bool) (i : ℕ) : Type 0 where
  pub at : ℕ
  pub place_is : slice_index_or (places_from ms k) i 0 ≡ k + at
  pub is : slice_index_or (heights_from hs n ms) at 0 ≡ slice_index_or hs (n + i) 0

height_from : (hs : List ℕ) (n k : ℕ) (ms : List Bool) (i : ℕ) → slice_index_or ms i false ≡ true → HeightAt hs n k ms i
height_from hs n k [] i h = absurd (false≢true h)
height_from hs n k (true ∷ ms) zero h = let e : n ≡ n + 0 = omega arith in record { at = 0; place_is = omega arith; is = ap (λ m. slice_index_or hs m 0) e }
height_from hs n k (false ∷ ms) zero h = absurd (false≢true h)
height_from hs n k (true ∷ ms) (suc i) h =
    let q = height_from hs (n + 1) (k + 1) ms i h in
    let e : n + 1 + i ≡ n + suc i = omega arith in
    record { at = suc q.at; place_is = omega (arith, q.place_is); is = q.is ∙ ap (λ m. slice_index_or hs m 0) e }
height_from hs n k (false ∷ ms) (suc i) h =
    let q = height_from hs (n + 1) k ms i h in
    let e : n + 1 + i ≡ n + suc i = omega arith in
    record { at = q.at; place_is = q.place_is; is = q.is ∙ ap (λ m. slice_index_or hs m 0) e }

module _ (p : Program) (sound : IsSound p) (in_scope : IsScoped p) where
  abbrev g : Graph
  g = graph_of p

  abbrev own_height : ℕ → ℕ
  own_height n = height p sound in_scope n

  abbrev pub graph_heights : List ℕ
  graph_heights = heights_from (heights_of p sound in_scope) 0 (reached p)

  height_at : (n : ℕ) → slice_index_or (reached p) n false ≡ true → height_of graph_heights (place p n) ≡ own_height n
  height_at n r =
      let q = height_from (heights_of p sound in_scope) 0 0 (reached p) n r in
      let at : place p n ≡ q.at = omega (arith, q.place_is) in
      let here : 0 + n ≡ n = omega arith in
      ap (λ k. slice_index_or graph_heights k 0) at ∙ (q.is ∙ ap own_height here)

  -- ---- a function of the graph

  abbrev GroundOf : (n : ℕ) (f : Function) (e : slice_get p.functions n ≡ Some f) (r : slice_index_or (reached p) n false ≡ true) (base : ℕ) → AreTemporaries p n base (base + temporaries p n f) → Ground
  GroundOf n f e r base are = ground p sound in_scope n f e r base (base + temporaries p n f) are

  -- the function that a reached one became: its items fit
  pub record FuncFits (n : ℕ) (f : Function) (func : Func) : Type 0 where
    pub there : slice_get p.functions n ≡ Some f
    pub is_reached : slice_index_or (reached p) n false ≡ true
    pub base : ℕ
    pub are : AreTemporaries p n base (base + temporaries p n f)
    pub fits : Fits (GroundOf n f there is_reached base are) None (body_where (GroundOf n f there is_reached base are)) Returns func.body

  pub func_fits : (n : ℕ) (f : Function) (func : Func) → slice_get p.functions n ≡ Some f → slice_index_or (reached p) n false ≡ true → BodyAt p n f func → FuncFits n f func
  func_fits n f func e r b = record {
    there = e;
    is_reached = r;
    base = b.base;
    are = b.owns;
    fits = subst (λ (h : Func). Fits (GroundOf n f e r b.base b.owns) None (body_where (GroundOf n f e r b.base b.owns)) Returns h.body) (sym b.same) (function_fits p sound in_scope n f e r b.op b.base b.owns);
  }

  abbrev pub FitNode : Node → Type 0
  FitNode x = NodeFits p sound x.op

  func_nodes : (n : ℕ) (f : Function) (func : Func) → FuncFits n f func → Each FitNode (body_nodes func)
  func_nodes n f func h =
      let G : Ground = GroundOf n f h.there h.is_reached h.base h.are in
      each_weaker (GoodNode G) FitNode (λ x good. good_fits p sound G (λ o s. s) (λ o k a. a) x.op good) (body_nodes func) (h.fits.ops around_body)

  nodes_from : (funcs : List Func) → ((k : ℕ) (h : Func) → slice_get funcs k ≡ Some h → Each FitNode (body_nodes h)) → Each FitNode (all_nodes funcs)
  nodes_from [] h = tt
  nodes_from (x ∷ xs) h = each_append FitNode (body_nodes x) (all_nodes xs) (h 0 x refl) (nodes_from xs (λ k y e. h (suc k) y e))

  pub found_fits : (k : ℕ) (func : Func) → slice_get g.functions k ≡ Some func → (n : ℕ) × (f : Function) × FuncFits n f func × (place p n ≡ k)
  found_fits k func e = let q = found_at p sound k func e in (q.number, q.function, func_fits q.number q.function func q.there q.is_reached q.body, q.place_is)

  -- every operation has what its kind has
  pub all_fit : Each FitNode (graph_nodes g)
  all_fit = nodes_from g.functions (λ k h e. let q = found_fits k h e in func_nodes q.0 q.1 h q.2)

  -- ---- bodies

  main_same : (n : ℕ) → slice_index_or (reached p) n false ≡ true → (n == p.main) ≡ (place p n == g.main)
  main_same n r = elim (cases_eq n p.main) [
    | inl is ↦ eq-eqb n p.main is ∙ sym (eq-eqb (place p n) g.main (ap (place p) is))
    | inr ne ↦
        false_from_ne_true (n == p.main) (λ t. ne (eqb-true n p.main t))
        ∙ sym (false_from_ne_true (place p n == g.main) (λ t. ne (one_place p n p.main r (main_reached p sound in_scope) (eqb-true (place p n) g.main t))))
  ]

  bodies_from : (main n : ℕ) (funcs : List Func) → ((k : ℕ) (h : Func) → slice_get funcs k ≡ Some h → body_fits ((n + k) == main) h.body ≡ true) → bodies_fit main n funcs ≡ true
  bodies_from main n [] h = refl
  bodies_from main n (x ∷ xs) h =
      let here : n + 0 ≡ n = omega arith in
      and_both (body_fits (n == main) x.body) (bodies_fit main (n + 1) xs) (subst (λ m. body_fits (m == main) x.body ≡ true) here (h 0 x refl))
      (bodies_from main (n + 1) xs (λ k y e. let there : n + suc k ≡ n + 1 + k = omega arith in subst (λ m. body_fits (m == main) y.body ≡ true) there (h (suc k) y e)))

  body_one : (k : ℕ) (h : Func) → slice_get g.functions k ≡ Some h → body_fits ((0 + k) == g.main) h.body ≡ true
  body_one k h e =
      let q = found_fits k h e in
      let at : place p q.0 ≡ 0 + k = omega (arith, q.3) in
      subst (λ b. body_fits b h.body ≡ true) (main_same q.0 q.2.is_reached ∙ ap (λ m. m == g.main) at) (q.2.fits.list None)

  pub all_bodies : bodies_fit g.main 0 g.functions ≡ true
  all_bodies = bodies_from g.main 0 g.functions body_one

  pub main_within : g.main < length g.functions
  main_within =
      let m = main_is p sound in_scope in
      let at = stands_at p sound p.main m.function m.there (main_reached p sound in_scope) in
      slice_get_within g.functions g.main at.func at.there

  -- ---- calls

  -- what a function of the graph does, if it has something to do
  record Doer (k : ℕ) (Q : Doing → Type 0) : Type 0 where
    pub func : Func
    pub there : slice_get g.functions k ≡ Some func
    pub does : Q (doings func.body)

  doer : (k : ℕ) (Q : Doing → Type 0) → (Q nothing → ⊥) → Q (doing_in (slice_get g.functions k)) → Doer k Q
  doer k Q never is = by_func (slice_get g.functions k) refl is
    where
      by_func : (o : Option Func) → slice_get g.functions k ≡ o → Q (doing_in o) → Doer k Q
      by_func None e h = absurd (never h)
      by_func (Some func) e h = record { func = func; there = e; does = h }

  -- a reached function and its place
  record Placed (m k : ℕ) : Type 0 where
    pub function : Function
    pub there : slice_get p.functions m ≡ Some function
    pub is_reached : slice_index_or (reached p) m false ≡ true
    pub place_is : place p m ≡ k

  record Lower (n k : ℕ) : Type 0 where
    pub number : ℕ
    pub placed : Placed number k
    pub low : own_height number < own_height n

  placed_fits : (m k : ℕ) (func : Func) → Placed m k → slice_get g.functions k ≡ Some func → (f : Function) × FuncFits m f func
  placed_fits m k func s e =
      let q = found_fits k func e in
      let same : q.0 ≡ m = one_place p q.0 m q.2.is_reached s.is_reached (q.3 ∙ sym s.place_is) in
      (q.1, subst (λ j. FuncFits j q.1 func) same q.2)

  lower_of : (n k : ℕ) → (m : ℕ) × Callee p sound in_scope n m × (k ≡ place p m) → Lower n k
  lower_of n k c = record { number = c.0; placed = record { function = c.1.function; there = c.1.there; is_reached = c.1.is_reached; place_is = sym c.2 }; low = c.1.lower }

  calls_low : (m k h : ℕ) → Placed m k → Contains (doing_in (slice_get g.functions k)).calls h → Lower m h
  calls_low m k h s c =
      let d = doer k (λ x. Contains x.calls h) (λ bad. absurd (omega (arith, bad.1))) c in
      let q = placed_fits m k d.func s d.there in
      lower_of m h (each_contains (Calls p sound in_scope m q.0 q.1.there q.1.is_reached) (doings d.func.body).calls h q.1.fits.does.calls d.does)

  found_placed : (k : ℕ) (func : Func) → slice_get g.functions k ≡ Some func → (m : ℕ) × Placed m k
  found_placed k func e = let q = found_at p sound k func e in (q.number, record { function = q.function; there = q.there; is_reached = q.is_reached; place_is = q.place_is })

  pub all_calls : CallsFit g graph_heights
  all_calls k h c =
      let d = doer k (λ x. Contains x.calls h) (λ bad. absurd (omega (arith, bad.1))) c in
      let s = found_placed k d.func d.there in
      let l = calls_low s.0 k h s.1 c in
      let at = stands_at p sound l.number l.placed.function l.placed.there l.placed.is_reached in
      let hk : height_of graph_heights k ≡ own_height s.0 = ap (height_of graph_heights) (sym s.1.place_is) ∙ height_at s.0 s.1.is_reached in
      let hh : height_of graph_heights h ≡ own_height l.number = ap (height_of graph_heights) (sym l.placed.place_is) ∙ height_at l.number l.placed.is_reached in
      (subst (λ j. j < length g.functions) l.placed.place_is (slice_get_within g.functions (place p l.number) at.func at.there), omega (arith, l.low, hk, hh))

  -- ---- counted loops

  reaches_low : (a b : ℕ) → Reaches g a b → (m : ℕ) → Placed m a → Lower m b
  reaches_low a b (calls_it f h c) m s = calls_low m f h s c
  reaches_low a b (on_from f k h r q) m s =
      let x = reaches_low f k r m s in
      let y = reaches_low k h q x.number x.placed in
      record { number = y.number; placed = y.placed; low = omega (arith, x.low, y.low) }

  local_inner : (n : ℕ) (f : Function) (x : ℕ) → slice_get p.functions n ≡ Some f → Contains (locals f.body) x → IsGlobal p x → ⊥
  local_inner n f x e c is =
      let i = each_contains (Inner (within_of p no_homes n) (below_of (heights_of p sound in_scope) n)) (locals f.body) x (locals_known p sound in_scope no_homes n f e) c in
      let one : Some i.variable ≡ Some is.0 = sym i.there ∙ is.1 in
      let same : i.variable ≡ is.0 = cc in
      let bad : false ≡ true = sym i.own ∙ (ap (λ (v : Variable). v.global) same ∙ is.2) in
      false≢true bad

  -- what is one function's own is written by no other
  own_thing : (n m : ℕ) (f h : Function) → slice_get p.functions n ≡ Some f → slice_get p.functions m ≡ Some h → n ≢ m → (t : Thing) → OwnThing p n f t → MayThing p m h t → ⊥
  own_thing n m f h e d ne (Named x) o (inl (inl is)) = local_inner n f x e o is
  own_thing n m f h e d ne (Named x) o (inl (inr c)) =
      functions_apart p.functions n m f h x x (all_rising p sound in_scope) ne e d (Contains-append_right f.params (locals f.body) x o)
      (subst (λ xs. Contains xs x) (ap (λ xs. h.params ++ xs) (locals_anywhere p no_homes m h)) c) refl
  own_thing n m f h e d ne (Named x) o (inr is) = parameter_apart p.functions is.0 n is.1 f x x (all_rising p sound in_scope) is.2 e is.3 o refl
  own_thing n m f h e d ne (Result k) o may = o
  own_thing n m f h e d ne (Temporary k) o may = ne (sym o ∙ may)

  own_or_may : (n m : ℕ) (f h : Function) (o : ℕ) → slice_get p.functions n ≡ Some f → slice_get p.functions m ≡ Some h → n ≢ m → IsThing p (OwnThing p n f) o → IsThing p (MayThing p m h) o → ⊥
  own_or_may n m f h o e d ne x y =
      let one : Some y.0 ≡ Some x.0 = sym y.1 ∙ x.1 in
      let same : y.0 ≡ x.0 = cc in
      own_thing n m f h e d ne x.0 x.2 (subst (MayThing p m h) same y.2)

  -- a function that is lower writes nothing of the function's own
  writes_apart : (n : ℕ) (f : Function) (o k : ℕ) → slice_get p.functions n ≡ Some f → IsThing p (OwnThing p n f) o → Lower n k → Contains (doing_in (slice_get g.functions k)).writes o → ⊥
  writes_apart n f o k e own l w =
      let d = doer k (λ x. Contains x.writes o) (λ bad. absurd (omega (arith, bad.1))) w in
      let q = placed_fits l.number k d.func l.placed d.there in
      let G : Ground = GroundOf l.number q.0 q.1.there q.1.is_reached q.1.base q.1.are in
      let may = each_contains (Writes G None) (doings d.func.body).writes o q.1.fits.does.writes d.does in
      let ne : n ≢ l.number = λ same. let less : own_height l.number < own_height l.number = subst (λ j. own_height l.number < own_height j) same l.low in omega (arith, less) in
      own_or_may n l.number f q.0 o e q.1.there ne own may.0

  pub all_turns : (k j : ℕ) (t : Turn) → slice_get (doing_in (slice_get g.functions k)).turns j ≡ Some t → Spares g t
  all_turns k j t e =
      let d = doer k (λ x. slice_get x.turns j ≡ Some t) (λ bad. absurd (cc)) e in
      let s = found_fits k d.func d.there in
      let n : ℕ = s.0 in
      let f : Function = s.1 in
      let G : Ground = GroundOf s.0 s.1 s.2.there s.2.is_reached s.2.base s.2.are in
      let good : GoodTurn G t = each_at (GoodTurn G) (doings d.func.body).turns j t s.2.fits.does.turns d.does in
      record {
        itself = λ c. each_contains (λ o. o ≢ t.variable) t.writes t.variable good.spared c refl;
        called = λ b c w. writes_apart n f t.variable b s.2.there good.own (lower_of n b (each_contains G.calls t.calls b good.calls c)) w;
        reached = λ b h c r w.
            let first = lower_of n b (each_contains G.calls t.calls b good.calls c) in
            let last = reaches_low b h r first.number first.placed in
            writes_apart n f t.variable h s.2.there good.own (record { number = last.number; placed = last.placed; low = omega (arith, first.low, last.low) }) w;
      }
