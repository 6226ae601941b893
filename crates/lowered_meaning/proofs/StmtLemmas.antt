-- The shapes of statements: what each does where its parts do what they mean.
use Rattle.std.proofs.Common.{◌≡◌, ℕ, suc, ◌+◌, ◌≤◌, Bool, true, false, Some, None, List, [], ◌∷◌, ◌++◌, refl, ap, ◌∙◌, subst, arith, inl}
use Rattle.std.specs.Prelude.{if◌then◌else◌}
use Rattle.c_values.specs.Values.{is_set}
use Rattle.c_tree.specs.declared.leaving.Leaving.{Leaving}
use Rattle.c_tree.specs.declared.leaving.Leaving.TheVariants.{Next, Broke, Continued, Returned}
use Rattle.c_tree.specs.Runs.{State, Part, pure, either, ◌>>=◌}
use Rattle.c_tree.specs.Nodes.{then_on, ends}
use Rattle.flow_graph.specs.declared.graph.Graph.{Graph}
use Rattle.flow_graph.specs.declared.graph.Op.{Op}
use Rattle.flow_graph.specs.declared.graph.OpKind.TheVariants as kind
use Rattle.flow_graph.specs.declared.graph.Operand.{Operand}
use Rattle.flow_graph.specs.declared.graph.Item.{Item}
use Rattle.flow_graph.specs.declared.graph.Item.TheVariants as item
use Rattle.flow_graph.specs.Operations.{operand_word}
use Rattle.flow_graph.specs.declared.nodes.Around.{Around}
use Rattle.flow_graph.specs.Nodes.{at_behind, node, graph_nodes, node_in, first_of, laid_items, leave_to}
use Rattle.flow_graph.specs.declared.graph.LeaveTo.{LeaveTo}
use Rattle.flow_graph.proofs.LaidLemmas.{laid-Leave}
use Rattle.flow_graph.specs.Flow as flow
use Rattle.flow_graph.specs.Flow.{Spot, operate}
use Rattle.lowered_graphs.specs.Making.{Emit, Counts, Made, made_on}
use Rattle.lowered_graphs.specs.declared.positions.Position.{Position}
use Rattle.lowered_graphs.specs.declared.positions.Position.TheVariants.{Anywhere, LastOfGroup, Body, LastOfBody}
use Rattle.lowered_meaning.specs.Keeps.{Ground, Agrees, Ready, ExprTracks}
use Rattle.lowered_meaning.specs.Leaves.{Callee, LeftAt, BrokeAt, Since, StmtDone, StmtTracks, ItemDone, ItemTracks, Upwards}
use Rattle.lowered_meaning.specs.Runs.{Runs}
use Rattle.lowered_meaning.specs.Tracks.{Has, Stand}
use Rattle.lowered_meaning.proofs.RunLemmas.{runs_on, runs_after, runs_done, runs_op, runs_weaker}
use Rattle.lowered_meaning.proofs.SinceLemmas.{since_start, since_at, since_both, since_expr}
use Rattle.lowered_meaning.proofs.TrackLemmas.{stands_left, stands_right, first_left, BranchStands, branch_stands, tested, goes, one_stands}

-- ---- leaves

broke_anywhere : (last : Position) (k : Around) (z : Spot) → z.at ≡ k.break_to → BrokeAt last k z
broke_anywhere Anywhere k z e = e
broke_anywhere LastOfGroup k z e = inl e
broke_anywhere Body k z e = e
broke_anywhere LastOfBody k z e = e

-- what was left anywhere in a part is left so where the part stands
pub left_within : (g : Graph) (f : Callee) (last : Position) (k : Around) (n : ℕ) (l : Leaving) (z : Spot) → ends l ≡ true → LeftAt g f Anywhere (at_behind k n) l z → LeftAt g f last k l z
left_within g f last k n Next z e h = cc
left_within g f last k n Broke z e h = broke_anywhere last k z h
left_within g f last k n Continued z e h = h
left_within g f last k n (Returned v) z e h = h

-- ---- one item after another

abbrev pub both : Emit (Unit {0}) → Emit (Unit {0}) → Emit (Unit {0})
both e1 e2 c = made_on (e1 c) (λ _. e2)

pub since_less : (w : Ground) (scope scope' : ℕ → Type 0) (s : Spot) (old d : State) (z : Spot) → ((x : ℕ) → scope x → scope' x) → Since w scope' s old d z → Since w scope s old d z
since_less w scope scope' s old d z f h = record {
  calls = h.calls;
  agrees = record { variables = λ x is. h.agrees.variables x (f x is); shape = h.agrees.shape; input = h.agrees.input; fit = h.agrees.fit };
  ready = h.ready;
  kept = h.kept;
  shape = h.shape;
  store = h.store;
}

pub in_order : (g : Graph) (f : Callee) (scope scope' : ℕ → Type 0) (most n m : ℕ) (last : Position) (p q : Part Leaving) (e1 e2 : Emit (Unit {0}))
    → ((x : ℕ) → scope x → scope' x) → Upwards e1 → Upwards e2
    → ItemTracks g f scope scope' most n Anywhere p e1 → StmtTracks g f scope' most m last q e2
    → StmtTracks g f scope most (n + m) last (p >>= (λ l. then_on l q)) (both e1 e2)
in_order g f scope scope' most n m last p q e1 e2 wider up1 up2 h1 h2 c le top k s d a o agrees ready stand at =
    runs_on g most (a + (n + m)) (a + m) a o (suc o) (suc o) (p d) (λ l. then_on l q) s _ _
    (runs_weaker g most (a + m + n) (a + m) o (suc o) (a + (n + m)) (a + m) o (suc o) (p d) s _ _ (omega arith) (omega arith) (omega arith) (omega arith) (λ l e z r. r)
    (h1 c le (omega (arith, top, up2 m1.counts)) (at_behind k second) s d (a + m) o agrees ready (stands_left g k m1.items m2.items stand) (at ∙ first_left m1.items m2.items k.behind)))
    (λ l e z r. by_leaving l e z r)
  where
    m1 : Made (Unit {0})
    m1 = e1 c

    m2 : Made (Unit {0})
    m2 = e2 m1.counts

    second : ℕ
    second = first_of (laid_items m2.items) k.behind

    Goal : Leaving → State → Spot → Type 0
    Goal = StmtDone g f scope last k s d

    left : (l : Leaving) (e : State) (z : Spot) → ends l ≡ true → ItemDone g f scope scope' Anywhere (at_behind k second) s d l e z
        → Runs g most (a + m) a (suc o) (suc o) (pure l e) z Goal
    left l e z t r = runs_weaker g most (a + m) (a + m) (suc o) (suc o) (a + m) a (suc o) (suc o) (pure l e) z Goal Goal (omega arith) (omega arith) (omega arith) (omega arith) (λ l' e' z' r'. r')
        (runs_done g most (a + m) (suc o) l e z Goal (record { left = left_within g f last k second l z t r.left; since = r.since }))

    by_leaving : (l : Leaving) (e : State) (z : Spot) → ItemDone g f scope scope' Anywhere (at_behind k second) s d l e z → Runs g most (a + m) a (suc o) (suc o) (then_on l q e) z Goal
    by_leaving Next e z r =
        let since : Since f.ground scope' s d e z = r.next refl in
        runs_weaker g most (a + m) a (suc o) (suc (suc o)) (a + m) a (suc o) (suc o) (q e) z _ Goal (omega arith) (omega arith) (omega arith) (omega arith)
        (λ l' e' z' r'. record { left = r'.left; since = since_less f.ground scope scope' s d e' z' wider (since_both f.ground scope' scope' s d e e' z z' since r'.since) })
        (h2 m1.counts (omega (arith, le, up1 c)) top k z e a (suc o) since.agrees since.ready (stands_right g k m1.items m2.items stand) r.left)
    by_leaving Broke e z r = left Broke e z refl r
    by_leaving Continued e z r = left Continued e z refl r
    by_leaving (Returned v) e z r = left (Returned v) e z refl r

-- ---- `if` with an `else`: the first arm ends in a Go

abbrev pub if_items : List Item → Op → List Item → Op → List Item → List Item
if_items xs test ys on zs = xs ++ item.Branch test (ys ++ item.One on ∷ []) zs ∷ []

pub if_else : (g : Graph) (f : Callee) (scope : ℕ → Type 0) (most zc zx zy : ℕ) (called : Bool) (last : Position) (pc : Part ℕ) (px py : Part Leaving)
    (ec : Emit Operand) (ex ey : Emit (Unit {0})) (c1 cx cy : Counts) (test on : Op) (k : Around) (s : Spot) (d : State) (a o : ℕ)
    → f.ground.base ≤ c1.temp → (ec c1).counts.temp ≤ f.ground.top → f.ground.base ≤ cx.temp → (ex cx).counts.temp ≤ f.ground.top → f.ground.base ≤ cy.temp → (ey cy).counts.temp ≤ f.ground.top
    → test.kind ≡ kind.Test → test.dest ≡ None → test.a ≡ (ec c1).value → on.kind ≡ kind.Go → on.dest ≡ None
    → ExprTracks g f.ground scope most zc called pc ec → StmtTracks g f scope most zx Anywhere px ex → StmtTracks g f scope most zy Anywhere py ey
    → Agrees f.ground scope d s → Ready f.ground s.objects
    → Stand g k (if_items (ec c1).items test (ex cx).items on (ey cy).items)
    → s.at ≡ first_of (laid_items (if_items (ec c1).items test (ex cx).items on (ey cy).items)) k.behind
    → Runs g most (a + (zc + (zx + zy))) a (6 + o) (suc o) ((pc >>= (λ v. either (is_set v) px py)) d) s (StmtDone g f scope last k s d)
if_else g f scope most zc zx zy called last pc px py ec ex ey c1 cx cy test on k s d a o b1 t1 bx tx by' ty is dest value isgo nodest hc hx hy agrees ready stand at =
    runs_on g most (a + (zc + (zx + zy))) (a + (zx + zy)) a (6 + o) (suc (6 + o)) (suc o) (pc d) (λ v. either (is_set v) px py) s _ Goal
    (runs_weaker g most (a + (zx + zy) + zc) (a + (zx + zy)) (6 + o) (suc (6 + o)) (a + (zc + (zx + zy))) (a + (zx + zy)) (6 + o) (suc (6 + o)) (pc d) s _ _
    (omega arith) (omega arith) (omega arith) (omega arith) (λ v e z r. r)
    (hc c1 b1 t1 (at_behind k (first_of (laid_items branch) k.behind)) s d (a + (zx + zy)) (6 + o) agrees ready
    (stands_left g k (ec c1).items branch stand) (at ∙ first_left (ec c1).items branch k.behind)))
    (λ v e z r. let st : BranchStands g k test ys (ey cy).items z.at = branch_stands g k test ys (ey cy).items z.at (stands_right g k (ec c1).items branch stand) r.0.at in
    by_test v e z (is_set v) refl st (since_expr f.ground scope called c1.temp (ec c1).value s d d e v s z (since_start f.ground scope s d agrees ready) r.0.calls r.1) r.1.value)
  where
    ys : List Item
    ys = (ex cx).items ++ item.One on ∷ []

    branch : List Item
    branch = item.Branch test ys (ey cy).items ∷ []

    Goal : Leaving → State → Spot → Type 0
    Goal = StmtDone g f scope last k s d

    other : (l : Leaving) (e : State) (z : Spot) → LeftAt g f last k l z → Since f.ground scope s d e z → Runs g most a a (suc (suc o)) (suc o) (pure l e) z Goal
    other l e z left since = runs_weaker g most a a (suc (suc o)) (suc (suc o)) a a (suc (suc o)) (suc o) (pure l e) z Goal Goal (omega arith) (omega arith) (omega arith) (omega arith) (λ l' e' z' r'. r')
        (runs_done g most a (suc (suc o)) l e z Goal (record { left = left; since = since }))

    -- an arm that ends at the Go, or elsewhere
    ends_at : (l : Leaving) (e : State) (z : Spot) → Stand g k (item.One on ∷ []) → LeftAt g f Anywhere (at_behind k (first_of (laid_items (item.One on ∷ [])) k.behind)) l z
        → Since f.ground scope s d e z → Runs g most a a (suc (suc o)) (suc o) (pure l e) z Goal
    ends_at Next e z stands left since = runs_weaker g most a (a + most) (suc (suc o)) (suc o) a a (suc (suc o)) (suc o) (pure Next e) z Goal Goal (omega arith) (omega arith) (omega arith) (omega arith) (λ l' e' z' r'. r')
        (runs_op g most a (a + most) (suc o) (suc o) (pure Next e) z (record z { at = k.behind }) Goal (goes g on k.behind z isgo nodest (one_stands g k on z stands left))
        (runs_done g most (a + most) (suc o) Next e (record z { at = k.behind }) Goal (record { left = refl; since = since_at f.ground scope s d e z k.behind since })))
    ends_at Broke e z stands left since = other Broke e z (left_within g f last k (first_of (laid_items (item.One on ∷ [])) k.behind) Broke z refl left) since
    ends_at Continued e z stands left since = other Continued e z left since
    ends_at (Returned v) e z stands left since = other (Returned v) e z left since

    tests : (v : ℕ) (z : Spot) → BranchStands g k test ys (ey cy).items z.at → operand_word z.objects (ec c1).value ≡ v
        → operate g z ≡ flow.Went [] (record z { at = if is_set v then first_of (laid_items ys) k.behind else first_of (laid_items (ey cy).items) k.behind })
    tests v z st w = tested g test (first_of (laid_items ys) k.behind) (first_of (laid_items (ey cy).items) k.behind) z is st.node dest
        ∙ ap (λ x. flow.Went [] (record z { at = if is_set x then first_of (laid_items ys) k.behind else first_of (laid_items (ey cy).items) k.behind })) (ap (operand_word z.objects) value ∙ w)

    by_test : (v : ℕ) (e : State) (z : Spot) (t : Bool) → is_set v ≡ t → BranchStands g k test ys (ey cy).items z.at → Since f.ground scope s d e z → operand_word z.objects (ec c1).value ≡ v
        → Runs g most (a + (zx + zy)) a (suc (6 + o)) (suc o) (either (is_set v) px py e) z Goal
    by_test v e z true q st since w = rw q (runs_op g most (a + (zx + zy)) a (6 + o) (suc o) (px e) z (record z { at = first_of (laid_items ys) k.behind }) Goal
        (tests v z st w ∙ ap (λ b. flow.Went [] (record z { at = if b then first_of (laid_items ys) k.behind else first_of (laid_items (ey cy).items) k.behind })) q)
        (runs_after g most (a + (zx + zy) + most) a a (6 + o) (suc (suc o)) (suc o) (px e) (record z { at = first_of (laid_items ys) k.behind }) _ Goal
        (runs_weaker g most (a + zx) a (suc o) (suc (suc o)) (a + (zx + zy) + most) a (6 + o) (suc (suc o)) (px e) _ _ _ (omega arith) (omega arith) (omega arith) (omega arith) (λ l e' z' r. r)
        (hx cx bx tx (at_behind k (first_of (laid_items (item.One on ∷ [])) k.behind)) (record z { at = first_of (laid_items ys) k.behind }) e a (suc o)
        (since_at f.ground scope s d e z _ since).agrees since.ready
        (stands_left g k (ex cx).items (item.One on ∷ []) st.passed) (first_left (ex cx).items (item.One on ∷ []) k.behind)))
        (λ l e' z' r. ends_at l e' z' (stands_right g k (ex cx).items (item.One on ∷ []) st.passed) r.left
        (since_both f.ground scope scope s d e e' (record z { at = first_of (laid_items ys) k.behind }) z' (since_at f.ground scope s d e z _ since) r.since))))
    by_test v e z false q st since w = rw q (runs_op g most (a + (zx + zy)) a (6 + o) (suc o) (py e) z (record z { at = first_of (laid_items (ey cy).items) k.behind }) Goal
        (tests v z st w ∙ ap (λ b. flow.Went [] (record z { at = if b then first_of (laid_items ys) k.behind else first_of (laid_items (ey cy).items) k.behind })) q)
        (runs_weaker g most (a + zy) a o (suc o) (a + (zx + zy) + most) a (6 + o) (suc o) (py e) _ _ Goal (omega arith) (omega arith) (omega arith) (omega arith)
        (λ l e' z' r. record { left = within l z' r.left; since = since_both f.ground scope scope s d e e' (record z { at = first_of (laid_items (ey cy).items) k.behind }) z' (since_at f.ground scope s d e z _ since) r.since })
        (hy cy by' ty k (record z { at = first_of (laid_items (ey cy).items) k.behind }) e a o (since_at f.ground scope s d e z _ since).agrees since.ready st.failed refl)))
      where
        within : (l : Leaving) (z' : Spot) → LeftAt g f Anywhere k l z' → LeftAt g f last k l z'
        within Next z' h = h
        within Broke z' h = broke_anywhere last k z' h
        within Continued z' h = h
        within (Returned v') z' h = h

-- ---- `break` and `continue`

pub leave_stands : (g : Graph) (k : Around) (op : Op) (to : LeaveTo) (s : Spot) → Stand g k (item.Leave op to ∷ []) → s.at ≡ first_of (laid_items (item.Leave op to ∷ [])) k.behind
    → node_in (graph_nodes g) s.at ≡ Some (node op (leave_to to k))
leave_stands g k op to s stand at =
    let e : Has g (node op (leave_to to k) ∷ []) = subst (λ l. Has g (l.nodes (at_behind k k.behind) ++ [])) (laid-Leave op to) stand in
    let n : s.at ≡ op.number = at ∙ ap (λ l. l.first k.behind) (laid-Leave op to) in
    ap (node_in (graph_nodes g)) n ∙ e.0

-- behind its step a `break` or a `continue` is one operation
pub leaves : (g : Graph) (f : Callee) (scope : ℕ → Type 0) (most a o : ℕ) (last : Position) (l : Leaving) (to : LeaveTo) (op : Op) (k : Around) (s : Spot) (d : State)
    → op.kind ≡ kind.Go → op.dest ≡ None → ((z : Spot) → z.at ≡ leave_to to k → LeftAt g f last k l z)
    → Agrees f.ground scope d s → Ready f.ground s.objects
    → Stand g k (item.Leave op to ∷ []) → s.at ≡ first_of (laid_items (item.Leave op to ∷ [])) k.behind
    → Runs g most a a (6 + o) (suc o) (pure l d) s (StmtDone g f scope last k s d)
leaves g f scope most a o last l to op k s d isgo nodest left agrees ready stand at =
    runs_weaker g most a (a + most) (suc (5 + o)) (5 + o) a a (6 + o) (suc o) (pure l d) s Goal Goal (omega arith) (omega arith) (omega arith) (omega arith) (λ l' e z r. r)
    (runs_op g most a (a + most) (5 + o) (5 + o) (pure l d) s z Goal (goes g op (leave_to to k) s isgo nodest (leave_stands g k op to s stand at))
    (runs_done g most (a + most) (5 + o) l d z Goal (record { left = left z refl; since = since_at f.ground scope s d d s (leave_to to k) (since_start f.ground scope s d agrees ready) })))
  where
    Goal : Leaving → State → Spot → Type 0
    Goal = StmtDone g f scope last k s d

    z : Spot
    z = record s { at = leave_to to k }
