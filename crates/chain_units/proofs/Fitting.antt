-- Where each operation fits one charge each unit of each chain does.
use Rattle.std.specs.Prelude.{Option, None, Some, length, map, if◌then◌else◌}
use Rattle.std.specs.List.{AllByRecursion}
use Rattle.std.proofs.Common.{◌≡◌, ◌==◌, ◌≤◌, ◌+◌, ◌++◌, ◌&&◌, ◌||◌, ℕ, Bool, true, false, List, [], ◌∷◌, refl, sym, ap, ◌∙◌, subst, arith}
use Rattle.flow_graph.specs.declared.graph.Op.{Op}
use Rattle.flow_graph.specs.declared.graph.OpKind.{OpKind}
use Rattle.flow_graph.specs.declared.graph.OpKind.TheVariants as kind
use Rattle.flow_graph.specs.declared.graph.Item.{Item, roll-Item}
use Rattle.flow_graph.specs.declared.graph.Item.TheVariants as item
use Rattle.flow_graph.specs.declared.graph.Item.TheOpen.{Item-F}
use Rattle.flow_graph.specs.declared.graph.Item.TheFolds.{map-Item, fold-roll-Item, ind-Item}
use Rattle.flow_graph.specs.declared.nodes.Node.{Node}
use Rattle.flow_graph.specs.declared.nodes.Around.{Around}
use Rattle.flow_graph.specs.Nodes.{Laid, around_body, at_behind, call_node, first_of, in_loop, laid, laid_by, laid_items, node, nodes_of, test_node}
use Rattle.chain_units.specs.declared.pieces.Piece.{Piece}
use Rattle.chain_units.specs.declared.cutting.Run.{Run}
use Rattle.chain_units.specs.declared.cutting.Run.TheVariants as run
use Rattle.chain_units.specs.Known.{Known, Weighs, or_nothing, weight_in_fram}
use Rattle.chain_units.specs.Chains.{PlacedChain, Plain, Turning, closed, cut}
use Rattle.chain_units.specs.Fits.{BodyFits, NodeFits, need_of}
use Rattle.chain_units.specs.Marks.{Alone, ChainUnit, Closes, Flat, Joins, Mark, Placed, are_flat, ends, fits_in_fram, flat_or, is_conditional, is_counted, items_of, marks_of, one_marks, placed, placed_by, placed_items, some_continues, split_marks, turn_of}
use Rattle.chain_units.specs.Pieces.{ArePieces, FitsAlone}
use Rattle.chain_units.specs.Placements.{AreRuns, RunFits}
use Rattle.chain_units.specs.Planned.{unit_items}
use Rattle.chain_units.proofs.PlacedLemmas.{placed_same}

-- ---- lists

all-append : {A : Type 0} (P : A → Type 0) (xs ys : List A) → AllByRecursion P xs → AllByRecursion P ys → AllByRecursion P (xs ++ ys)
all-append P [] ys all more = more
all-append P (x ∷ xs) ys all more = (all.0, all-append P xs ys all.1 more)

all_left : {A : Type 0} (P : A → Type 0) (xs ys : List A) → AllByRecursion P (xs ++ ys) → AllByRecursion P xs
all_left P [] ys all = tt
all_left P (x ∷ xs) ys all = (all.0, all_left P xs ys all.1)

all_right : {A : Type 0} (P : A → Type 0) (xs ys : List A) → AllByRecursion P (xs ++ ys) → AllByRecursion P ys
all_right P [] ys all = all
all_right P (x ∷ xs) ys all = all_right P xs ys all.1

and_right : (a b : Bool) → (a && b) ≡ true → b ≡ true
and_right true b e = e
and_right false b e = absurd (cc)

module _ (k : Known) where
  abbrev pub UnitFits : ChainUnit → Type 0
  UnitFits u = weight_in_fram k.board (or_nothing (k.weights (unit_items u))) + k.overhead ≤ k.board.budget

  abbrev pub MarkFits : Mark → Type 0
  MarkFits (Joins u) = UnitFits u
  MarkFits Closes = Unit {0}
  MarkFits (Alone x n) = Unit {0}

  abbrev Marks : List Mark → Type 0
  Marks ms = AllByRecursion MarkFits ms

  abbrev Nodes : List Node → Type 0
  Nodes xs = AllByRecursion (NodeFits k) xs

  flat_by : (o : Option Weighs) → fits_in_fram k o ≡ true → weight_in_fram k.board (or_nothing o) + k.overhead ≤ k.board.budget
  flat_by None e = absurd (cc)
  flat_by (Some w) e = grind (arith, e)

  flat_fits : (xs : List Item) → are_flat k xs ≡ true → weight_in_fram k.board (or_nothing (k.weights xs)) + k.overhead ≤ k.board.budget
  flat_fits xs e = flat_by (k.weights xs) e

  -- ---- each kind of item

  abbrev FitItem : Laid → Placed → Type 0
  FitItem l p = (c : Around) → Nodes (l.nodes c) → Marks (p.marks c)

  end_fits : (x : Node) → NodeFits k x → Marks (ends x)
  end_fits x fits = (fits.alone, (tt, tt))

  one_fits : (op : Op) (n : ℕ) → need_of k op ≤ k.board.budget → (kd : OpKind) → Marks (one_marks op kd n)
  one_fits op n fits kind.Go = (fits, (tt, tt))
  one_fits op n fits kind.Ret = (fits, (tt, tt))
  one_fits op n fits kind.Finish = (fits, (tt, tt))
  one_fits op n fits _ = (fits, tt)

  flat_or_fits : (x : Item) (n : ℕ) (ms : List Mark) → Marks ms → Marks (flat_or k x n ms)
  flat_or_fits x n ms all = by (are_flat k (x ∷ [])) refl
    where
      by : (t : Bool) → are_flat k (x ∷ []) ≡ t → Marks (if t then Joins (Flat (x ∷ []) n) ∷ [] else ms)
      by true e = (flat_fits (x ∷ []) e, tt)
      by false e = all

  call_fits : (op : Op) (f : ℕ) (c : Around) → NodeFits k (call_node op f c.behind) → Marks (if k.is_flat f then Joins (Flat (item.CallTo op f ∷ []) c.behind) ∷ [] else ends (call_node op f c.behind))
  call_fits op f c fits = by (k.is_flat f) refl
    where
      by : (t : Bool) → k.is_flat f ≡ t → Marks (if t then Joins (Flat (item.CallTo op f ∷ []) c.behind) ∷ [] else ends (call_node op f c.behind))
      by true e = (flat_fits (item.CallTo op f ∷ []) (fits.called f c.behind refl e), tt)
      by false e = (fits.alone, (tt, tt))

  -- ---- every item

  abbrev IsFit : Item → Type 0
  IsFit x = FitItem (laid x) (placed k x)

  -- an item with what holds of it
  abbrev FitOne : Type 0
  FitOne = (x : Item) × IsFit x

  abbrev bare : List FitOne → List Item
  bare es = map (λ (e : FitOne). e.0) es

  abbrev places : List FitOne → List Placed
  places es = map (placed k) (bare es)

  abbrev lays : List FitOne → List Laid
  lays es = map laid (bare es)

  laid_same : (es : List FitOne) → laid_items (items_of (places es)) ≡ lays es
  laid_same [] = refl
  laid_same (e ∷ es) = ap (λ (x : Item). laid x ∷ laid_items (items_of (places es))) (placed_same k e.0) ∙ ap (λ (ls : List Laid). laid e.0 ∷ ls) (laid_same es)

  module _ (e f : FitOne) (es : List FitOne) (c : Around) where
    abbrev pair : List Item
    pair = (placed k e.0).item ∷ (placed k f.0).item ∷ []

    abbrev after : ℕ
    after = first_of (laid_items (items_of (places es))) c.behind

    abbrev next : ℕ
    next = first_of (laid_items (items_of (places (f ∷ es)))) c.behind

    here : Nodes (nodes_of (lays (e ∷ f ∷ es)) c) → Nodes ((laid e.0).nodes (at_behind c next))
    here all = subst (λ (ls : List Laid). Nodes ((laid e.0).nodes (at_behind c (first_of ls c.behind)))) (sym (laid_same (f ∷ es)))
        (all_left (NodeFits k) ((laid e.0).nodes (at_behind c (first_of (lays (f ∷ es)) c.behind))) (nodes_of (lays (f ∷ es)) c) all)

    by_pair : (t : Bool) → (is_counted (placed k f.0).item && are_flat k pair) ≡ t → Nodes (nodes_of (lays (e ∷ f ∷ es)) c) → Marks (marks_of k (places (f ∷ es)) c) → Marks (marks_of k (places es) c)
        → Marks (if t then Joins (Flat pair after) ∷ marks_of k (places es) c else (placed k e.0).marks (at_behind c next) ++ marks_of k (places (f ∷ es)) c)
    by_pair true t all more rest = (flat_fits pair (and_right (is_counted (placed k f.0).item) (are_flat k pair) t), rest)
    by_pair false t all more rest = all-append MarkFits ((placed k e.0).marks (at_behind c next)) (marks_of k (places (f ∷ es)) c) (e.1 (at_behind c next) (here all)) more

    two_fit : Nodes (nodes_of (lays (e ∷ f ∷ es)) c) → Marks (marks_of k (places (f ∷ es)) c) → Marks (marks_of k (places es) c) → Marks (marks_of k (places (e ∷ f ∷ es)) c)
    two_fit all more rest = by_pair (is_counted (placed k f.0).item && are_flat k pair) refl all more rest

  rest_nodes : (e : FitOne) (es : List FitOne) (c : Around) → Nodes (nodes_of (lays (e ∷ es)) c) → Nodes (nodes_of (lays es) c)
  rest_nodes e es c all = all_right (NodeFits k) ((laid e.0).nodes (at_behind c (first_of (lays es) c.behind))) (nodes_of (lays es) c) all

  fit_list : (es : List FitOne) (c : Around) → Nodes (nodes_of (lays es) c) → Marks (marks_of k (places es) c)
  fit_list [] c all = tt
  fit_list (e ∷ []) c all = e.1 c (all_left (NodeFits k) ((laid e.0).nodes c) [] all)
  fit_list (e ∷ (f ∷ es)) c all =
      two_fit e f es c all (fit_list (f ∷ es) c (rest_nodes e (f ∷ es) c all)) (fit_list es c (rest_nodes f es c (rest_nodes e (f ∷ es) c all)))

  -- ---- branches and loops

  branch_fits : (test : Op) (a b : List FitOne) → FitItem (laid_by (Item-F.Branch test (lays a) (lays b))) (placed_by k (Item-F.Branch test (places a) (places b)))
  branch_fits test a b c all =
      let in_a = all_left (NodeFits k) (nodes_of (lays a) c) (nodes_of (lays b) c) all.1 in
      let in_b = all_right (NodeFits k) (nodes_of (lays a) c) (nodes_of (lays b) c) all.1 in
      let last = all-append MarkFits (marks_of k (places b) c) (Closes ∷ []) (fit_list b c in_b) (tt, tt) in
      let arms = all-append MarkFits (marks_of k (places a) c) (Closes ∷ (marks_of k (places b) c ++ Closes ∷ [])) (fit_list a c in_a) (tt, last) in
      flat_or_fits (item.Branch test (items_of (places a)) (items_of (places b))) c.behind _ (all.0.alone, (tt, arms))

  switch_fits : (items : List FitOne) → FitItem (laid_by (Item-F.Switch (lays items))) (placed_by k (Item-F.Switch (places items)))
  switch_fits items c all =
      let inner = record c { break_to = c.behind } in
      flat_or_fits (item.Switch (items_of (places items))) c.behind _ (all-append MarkFits (marks_of k (places items) inner) (Closes ∷ []) (fit_list items inner all) (tt, tt))

  closing_fits : (t : Bool) → Marks (if t then Closes ∷ [] else [])
  closing_fits true = (tt, tt)
  closing_fits false = tt

  module _ (pre : List FitOne) (test : Op) (post step : List FitOne) (back : Op) (c : Around) where
    -- the nodes of the loop where its step is told so
    abbrev nodes_by : List Laid → List Node
    nodes_by ls =
        nodes_of (lays pre) (in_loop ls back c test.number)
        ++ (test_node test (first_of (lays post) (first_of ls back.number)) c.behind
        ∷ (nodes_of (lays post) (in_loop ls back c (first_of ls back.number))
        ++ (nodes_of (lays step) (in_loop ls back c back.number) ++ (node back (first_of (lays pre) test.number) ∷ []))))

    abbrev told : List Laid
    told = laid_items (items_of (places step))

    split_fits : Nodes (nodes_by told) → Marks (split_marks k (places pre) test (places post) (places step) back c)
    split_fits all =
        let next = first_of told back.number in
        let in_pre = nodes_of (lays pre) (in_loop told back c test.number) in
        let in_post = nodes_of (lays post) (in_loop told back c next) in
        let in_step = nodes_of (lays step) (in_loop told back c back.number) in
        let gone = node back (first_of (lays pre) test.number) ∷ [] in
        let tested = test_node test (first_of (lays post) next) c.behind in
        let a = all_left (NodeFits k) in_pre (tested ∷ (in_post ++ (in_step ++ gone))) all in
        let b = all_right (NodeFits k) in_pre (tested ∷ (in_post ++ (in_step ++ gone))) all in
        let d = all_left (NodeFits k) in_post (in_step ++ gone) b.1 in
        let e = all_right (NodeFits k) in_post (in_step ++ gone) b.1 in
        let f = all_left (NodeFits k) in_step gone e in
        let g = all_right (NodeFits k) in_step gone e in
        let top = first_of (laid_items (items_of (places pre))) test.number in
        let m_pre = marks_of k (places pre) (in_loop told back c test.number) in
        let m_post = marks_of k (places post) (in_loop told back c next) in
        let m_step = marks_of k (places step) (in_loop told back c back.number) in
        let m_close = if (some_continues (items_of (places pre)) || some_continues (items_of (places post))) || some_continues (items_of (places step)) then Closes ∷ [] else [] in
        let m_gone = ends (node back top) in
        let m_test = ends (test_node test (first_of (laid_items (items_of (places post))) next) c.behind) in
        let last = all-append MarkFits m_step m_gone (fit_list step (in_loop told back c back.number) f) (g.0.alone, (tt, tt)) in
        let closes = all-append MarkFits m_close (m_step ++ m_gone) (closing_fits ((some_continues (items_of (places pre)) || some_continues (items_of (places post))) || some_continues (items_of (places step)))) last in
        let posts = all-append MarkFits m_post (m_close ++ (m_step ++ m_gone)) (fit_list post (in_loop told back c next) d) closes in
        all-append MarkFits m_pre (m_test ++ (m_post ++ (m_close ++ (m_step ++ m_gone)))) (fit_list pre (in_loop told back c test.number) a) (b.0.alone, (tt, posts))

    by_turns : (t : Bool) (x : Item) → Nodes (nodes_by told) → Marks (Closes ∷ (if t then Alone x c.behind ∷ [] else split_marks k (places pre) test (places post) (places step) back c))
    by_turns true x all = (tt, (tt, tt))
    by_turns false x all = (tt, split_fits all)

  loop_fits : (pre : List FitOne) (test : Op) (post step : List FitOne) (back : Op) (count : Option ℕ)
      → FitItem (laid_by (Item-F.Loop (lays pre) test (lays post) (lays step) back count)) (placed_by k (Item-F.Loop (places pre) test (places post) (places step) back count))
  loop_fits pre test post step back count c all =
      by_turns pre test post step back c
      (is_conditional k (turn_of (items_of (places pre)) test (items_of (places post)) (items_of (places step))) (first_of (laid_items (items_of (places pre))) test.number) c.behind)
      (item.Loop (items_of (places pre)) test (items_of (places post)) (items_of (places step)) back count)
      (subst (λ (ls : List Laid). Nodes (nodes_by pre test post step back c ls)) (sym (laid_same step)) all)

  abbrev FitLayer : Item-F Item → Type 0
  FitLayer z = FitItem (laid_by (map-Item Item Laid laid z)) (placed_by k (map-Item Item Placed (placed k) z))

  fit_layer : (y : Item-F FitOne) → FitLayer (map-Item FitOne Item (λ e. e.0) y)
  fit_layer (Item-F.One op) = λ c all. one_fits op c.behind all.0.alone op.kind
  fit_layer (Item-F.Branch test a b) = branch_fits test a b
  fit_layer (Item-F.Loop pre test post step back count) = loop_fits pre test post step back count
  fit_layer (Item-F.Switch items) = switch_fits items
  fit_layer (Item-F.CallTo op f) = λ c all. call_fits op f c all.0
  fit_layer (Item-F.Leave op to) = λ c all. (all.0.alone, (tt, tt))

  laid_rolled : (x : Item-F Item) → laid (roll-Item x) ≡ laid_by (map-Item Item Laid laid x)
  unfolding laid
  laid_rolled x = fold-roll-Item Laid laid_by x

  placed_rolled : (x : Item-F Item) → placed k (roll-Item x) ≡ placed_by k (map-Item Item Placed (placed k) x)
  unfolding placed
  placed_rolled x = fold-roll-Item Placed (placed_by k) x

  fit_rolled : (x : Item-F Item) → FitLayer x → IsFit (roll-Item x)
  fit_rolled x h =
      subst (λ (l : Laid). FitItem l (placed k (roll-Item x))) (sym (laid_rolled x)) (subst (λ (p : Placed). FitItem (laid_by (map-Item Item Laid laid x)) p) (sym (placed_rolled x)) h)

  fit : (x : Item) → IsFit x
  fit = ind-Item IsFit (λ x y is. fit_rolled x (subst FitLayer is (fit_layer y)))

  abbrev with_fit : List Item → List FitOne
  with_fit [] = []
  with_fit (x ∷ xs) = (x, fit x) ∷ with_fit xs

  lays_same : (xs : List Item) → laid_items xs ≡ lays (with_fit xs)
  lays_same [] = refl
  lays_same (x ∷ xs) = ap (λ (ls : List Laid). laid x ∷ ls) (lays_same xs)

  places_same : (xs : List Item) → places (with_fit xs) ≡ placed_items k xs
  places_same [] = refl
  places_same (x ∷ xs) = ap (λ (ps : List Placed). placed k x ∷ ps) (places_same xs)

  -- the marks of a body all fit
  body_fits : (body : List Item) → BodyFits k body → Marks (marks_of k (placed_items k body) around_body)
  body_fits body all =
      subst (λ (ps : List Placed). Marks (marks_of k ps around_body)) (places_same body)
      (fit_list (with_fit body) around_body (subst (λ (ls : List Laid). Nodes (nodes_of ls around_body)) (lays_same body) all))

  -- ---- chains

  abbrev ChainFits : PlacedChain → Type 0
  ChainFits (Plain us) = (length us ≤ 32) × AllByRecursion UnitFits us
  ChainFits (Turning x n) = Unit {0}

  closed_fits : (us : List ChainUnit) → length us ≤ 31 → AllByRecursion UnitFits us → AllByRecursion ChainFits (closed us)
  closed_fits [] few all = tt
  closed_fits (u ∷ us) few all = ((omega (arith, few), all), tt)

  length-more : (us : List ChainUnit) (u : ChainUnit) → length (us ++ u ∷ []) ≡ length us + 1
  length-more [] u = refl
  length-more (v ∷ us) u = omega (arith, length-more us u)

  by_count : (us : List ChainUnit) (u : ChainUnit) (ms : List Mark) (t : Bool) → (length us == 31) ≡ t → length us ≤ 31 → AllByRecursion UnitFits (us ++ u ∷ []) → AllByRecursion ChainFits (cut [] ms)
      → (length (us ++ u ∷ []) ≤ 31 → AllByRecursion UnitFits (us ++ u ∷ []) → AllByRecursion ChainFits (cut (us ++ u ∷ []) ms))
      → AllByRecursion ChainFits (if t then Plain (us ++ u ∷ []) ∷ cut [] ms else cut (us ++ u ∷ []) ms)
  by_count us u ms true e few full rest more = ((omega (arith, few, length-more us u), full), rest)
  by_count us u ms false e few full rest more = let less : length us ≤ 30 = grind (arith, e, few) in more (omega (arith, less, length-more us u)) full

  cut_fits : (us : List ChainUnit) (ms : List Mark) → length us ≤ 31 → AllByRecursion UnitFits us → Marks ms → AllByRecursion ChainFits (cut us ms)
  cut_fits us [] few all fits = closed_fits us few all
  cut_fits us (Joins u ∷ ms) few all fits =
      by_count us u ms (length us == 31) refl few (all-append UnitFits us (u ∷ []) all (fits.0, tt)) (cut_fits [] ms (omega arith) tt fits.1) (λ less full. cut_fits (us ++ u ∷ []) ms less full fits.1)
  cut_fits us (Closes ∷ ms) few all fits = all-append ChainFits (closed us) (cut [] ms) (closed_fits us few all) (cut_fits [] ms (omega arith) tt fits.1)
  cut_fits us (Alone x n ∷ ms) few all fits = all-append ChainFits (closed us) (Turning x n ∷ cut [] ms) (closed_fits us few all) (tt, cut_fits [] ms (omega arith) tt fits.1)

  -- ---- as the code holds them

  piece_fits : (us : List ChainUnit) (ps : List Piece) → ArePieces k us ps → AllByRecursion UnitFits us → AllByRecursion (FitsAlone k) ps
  piece_fits [] [] are all = tt
  piece_fits (u ∷ us) (p ∷ ps) are all =
      (subst (λ (w : Weighs). weight_in_fram k.board w + k.overhead ≤ k.board.budget) (sym are.0.weights) all.0, piece_fits us ps are.1 all.1)
  piece_fits [] (p ∷ ps) are all = absurd are
  piece_fits (u ∷ us) [] are all = absurd are

  pieces_count : (us : List ChainUnit) (ps : List Piece) → ArePieces k us ps → length ps ≡ length us
  pieces_count [] [] are = refl
  pieces_count (u ∷ us) (p ∷ ps) are = omega (arith, pieces_count us ps are.1)
  pieces_count [] (p ∷ ps) are = absurd are
  pieces_count (u ∷ us) [] are = absurd are

  runs_fit : (cs : List PlacedChain) (rs : List Run) → AreRuns k cs rs → AllByRecursion ChainFits cs → AllByRecursion (RunFits k) rs
  runs_fit [] [] are all = tt
  runs_fit (Plain us ∷ cs) (run.Plain ps ∷ rs) are all =
      ((omega (arith, all.0.0, pieces_count us ps.items are.0), piece_fits us ps.items are.0 all.0.1), runs_fit cs rs are.1 all.1)
  runs_fit (Turning x n ∷ cs) (run.Alone t ∷ rs) are all = (tt, runs_fit cs rs are.1 all.1)
  runs_fit (Plain us ∷ cs) (run.Alone t ∷ rs) are all = absurd are.0
  runs_fit (Turning x n ∷ cs) (run.Plain ps ∷ rs) are all = absurd are.0
  runs_fit [] (r ∷ rs) are all = absurd are
  runs_fit (c ∷ cs) [] are all = absurd are

  -- every chain of a body whose operations fit has a plan
  pub all_fit : (body : List Item) (rs : List Run) → BodyFits k body → AreRuns k (cut [] (marks_of k (placed_items k body) around_body)) rs → AllByRecursion (RunFits k) rs
  all_fit body rs fits are =
      let ms = marks_of k (placed_items k body) around_body in
      runs_fit (cut [] ms) rs are (cut_fits [] ms (omega arith) tt (body_fits body fits))
