-- Turns of loops.
use Rattle.std.proofs.Common.{◌≡◌, ℕ, suc, ◌+◌, ◌≤◌, Bool, true, false, Option, Some, None, List, [], ◌∷◌, ◌++◌, refl, ap, ◌∙◌, subst, arith}
use Rattle.std.specs.Prelude.{if◌then◌else◌}
use Rattle.c_values.specs.Values.{is_set}
use Rattle.c_tree.specs.declared.leaving.Leaving.{Leaving}
use Rattle.c_tree.specs.declared.leaving.Leaving.TheVariants.{Next, Broke, Continued, Returned}
use Rattle.c_tree.specs.Runs.{State, Part, go_on, begin, begin_at, pure, either, ◌>>=◌, ◌>>◌}
use Rattle.c_tree.specs.Nodes.{next_turn, goes_on, left_loop}
use Rattle.flow_graph.specs.declared.graph.Graph.{Graph}
use Rattle.flow_graph.specs.declared.graph.Op.{Op}
use Rattle.flow_graph.specs.declared.graph.OpKind.TheVariants as kind
use Rattle.flow_graph.specs.declared.graph.Operand.{Operand}
use Rattle.flow_graph.specs.declared.graph.Item.{Item}
use Rattle.flow_graph.specs.declared.graph.Item.TheVariants as item
use Rattle.flow_graph.specs.declared.nodes.Node.{Node}
use Rattle.flow_graph.specs.declared.nodes.Around.{Around}
use Rattle.flow_graph.specs.Nodes.{at_behind, test_node, node, graph_nodes, node_in, first_of, nodes_of, laid_items, in_loop}
use Rattle.flow_graph.specs.Operations.{operand_word}
use Rattle.flow_graph.specs.Flow as flow
use Rattle.flow_graph.specs.Flow.{Spot, operate}
use Rattle.flow_graph.proofs.LaidLemmas.{laid-Loop}
use Rattle.lowered_graphs.specs.Making.{Emit, Counts}
use Rattle.lowered_graphs.specs.declared.positions.Position.{Position}
use Rattle.lowered_graphs.specs.declared.positions.Position.TheVariants.{Anywhere}
use Rattle.lowered_meaning.specs.Keeps.{Ground, ExprTracks}
use Rattle.lowered_meaning.specs.Leaves.{Callee, LeftAt, Since, StmtDone, StmtTracks, ActTracks}
use Rattle.lowered_meaning.specs.Runs.{Runs}
use Rattle.lowered_meaning.specs.Tracks.{Has, Stand}
use Rattle.lowered_meaning.proofs.RunLemmas.{runs_on, runs_begin, runs_done, runs_op, runs_weaker}
use Rattle.lowered_meaning.proofs.SinceLemmas.{since_at, since_both, since_expr, since_left}
use Rattle.lowered_meaning.proofs.TrackLemmas.{has_left, has_right, tested, goes}

-- where a turn ends: at the head of the loop, in the invariant again, or out of the loop
abbrev pub TurnEnds : (State → Spot → Type 0) → (Leaving → State → Spot → Type 0) → Option Leaving → State → Spot → Type 0
TurnEnds inv rel None d z = inv d z
TurnEnds inv rel (Some l) d z = rel l d z

-- A turn of n nodes and the turns behind it. Each turn executes an operation at least, which pays for the next turn.
pub turns_run : (g : Graph) (most n a o i : ℕ) (turn : Part (Option Leaving)) (rest : Part Leaving) (inv : State → Spot → Type 0) (rel : Leaving → State → Spot → Type 0)
    (s : Spot) (d : State) → suc n ≤ most
    → ((j : ℕ) → Runs g most (a + n) (a + most) (6 + o) o (turn (record d { left = j })) s (TurnEnds inv rel))
    → ((e : State) (z : Spot) → inv e z → Runs g most (a + suc n) a o o (rest e) z rel)
    → Runs g most (a + suc n) a o o (go_on (begin_at d.left d) (λ _. turn >>= next_turn rest)) s rel
turns_run g most n a o i turn rest inv rel s d le h next =
    runs_weaker g most (suc (a + n)) a o o (a + suc n) a o o _ s rel rel (omega arith) (omega arith) (omega arith) (omega arith) (λ l e z r. r)
    (runs_begin g most (a + n) a o o d.left d (turn >>= next_turn rest) s rel
    (λ j. runs_on g most (a + n) (a + most) a (6 + o) o o (turn (record d { left = j })) (next_turn rest) s (TurnEnds inv rel) rel (h j) on))
  where
    on : (x : Option Leaving) (e : State) (z : Spot) → TurnEnds inv rel x e z → Runs g most (a + most) a o o (next_turn rest x e) z rel
    on None e z r = runs_weaker g most (a + suc n) a o o (a + most) a o o (rest e) z rel rel (omega (arith, le)) (omega (arith, le)) (omega arith) (omega arith) (λ l e' z' r'. r') (next e z r)
    on (Some l) e z r = runs_weaker g most (a + most) (a + most) o o (a + most) a o o (pure l e) z rel rel (omega arith) (omega arith) (omega arith) (omega arith) (λ l' e' z' r'. r')
        (runs_done g most (a + most) o l e z rel r)

-- the parts of a loop stand in the graph, each with what lies around it
pub record LoopStands (g : Graph) (k : Around) (pre : List Item) (test : Op) (post step : List Item) (back : Op) (n : ℕ) : Type 0 where
  pub head : n ≡ first_of (laid_items pre) test.number
  pub pre_stands : Stand g (in_loop (laid_items step) back k test.number) pre
  pub test_is : node_in (graph_nodes g) test.number ≡ Some (test_node test (first_of (laid_items post) (first_of (laid_items step) back.number)) k.behind)
  pub post_stands : Stand g (in_loop (laid_items step) back k (first_of (laid_items step) back.number)) post
  pub step_stands : Stand g (in_loop (laid_items step) back k back.number) step
  pub back_is : node_in (graph_nodes g) back.number ≡ Some (node back (first_of (laid_items pre) test.number))

pub loop_stands : (g : Graph) (k : Around) (pre : List Item) (test : Op) (post step : List Item) (back : Op) (count : Option ℕ) (n : ℕ)
    → Stand g k (item.Loop pre test post step back count ∷ []) → n ≡ first_of (laid_items (item.Loop pre test post step back count ∷ [])) k.behind
    → LoopStands g k pre test post step back n
loop_stands g k pre test post step back count n stand at =
    let ps : List Node = nodes_of (laid_items pre) (in_loop (laid_items step) back k test.number) in
    let bs : List Node = nodes_of (laid_items post) (in_loop (laid_items step) back k (first_of (laid_items step) back.number)) in
    let ss : List Node = nodes_of (laid_items step) (in_loop (laid_items step) back k back.number) in
    let t : Node = test_node test (first_of (laid_items post) (first_of (laid_items step) back.number)) k.behind in
    let b : Node = node back (first_of (laid_items pre) test.number) in
    let e : Has g ((ps ++ (t ∷ (bs ++ (ss ++ (b ∷ []))))) ++ []) = subst (λ l. Has g (l.nodes (at_behind k k.behind) ++ [])) (laid-Loop pre test post step back count) stand in
    let all : Has g (ps ++ (t ∷ (bs ++ (ss ++ (b ∷ []))))) = has_left g (ps ++ (t ∷ (bs ++ (ss ++ (b ∷ []))))) [] e in
    let rest : Has g (t ∷ (bs ++ (ss ++ (b ∷ [])))) = has_right g ps (t ∷ (bs ++ (ss ++ (b ∷ [])))) all in
    let last : Has g (ss ++ (b ∷ [])) = has_right g bs (ss ++ (b ∷ [])) rest.1 in
    record {
      head = at ∙ ap (λ l. l.first k.behind) (laid-Loop pre test post step back count);
      pre_stands = has_left g ps (t ∷ (bs ++ (ss ++ (b ∷ [])))) all;
      test_is = rest.0;
      post_stands = has_left g bs (ss ++ (b ∷ [])) rest.1;
      step_stands = has_left g ss (b ∷ []) last;
      back_is = (has_right g ss (b ∷ []) last).0;
    }

-- ---- loops with their test first

abbrev pub turn_parts : Part ℕ → Part Leaving → Part (Unit {0}) → Part (Option Leaving)
turn_parts pc pb ps = pc >>= (λ v. either (is_set v) (pb >>= (λ l. either (goes_on l) (ps >> pure None) (pure (Some (left_loop l))))) (pure (Some Next)))

-- the graph stands at the head of the loop again
abbrev pub AtHead : Ground → (ℕ → Type 0) → ℕ → Spot → State → State → Spot → Type 0
AtHead w scope head s old d z = (z.at ≡ head) × Since w scope s old d z

-- out of the loop
abbrev pub OutOf : Graph → Callee → (ℕ → Type 0) → Position → Around → Spot → State → Leaving → State → Spot → Type 0
OutOf g f scope last k s old l d z = StmtDone g f scope last k s old l d z

-- one turn, from the head of the loop
pub test_first : (g : Graph) (f : Callee) (scope : ℕ → Type 0) (most zc zb zs : ℕ) (called : Bool) (last : Position)
    (pc : Part ℕ) (pb : Part Leaving) (ps : Part (Unit {0})) (ec : Emit Operand) (eb es : Emit (Unit {0})) (c1 cb cs : Counts) (test back : Op)
    (k : Around) (n a o : ℕ) (s : Spot) (old d : State) (z : Spot)
    → LoopStands g k (ec c1).items test (eb cb).items (es cs).items back n
    → f.ground.base ≤ c1.temp → (ec c1).counts.temp ≤ f.ground.top → f.ground.base ≤ cb.temp → (eb cb).counts.temp ≤ f.ground.top → f.ground.base ≤ cs.temp → (es cs).counts.temp ≤ f.ground.top
    → test.kind ≡ kind.Test → test.dest ≡ None → test.a ≡ (ec c1).value → back.kind ≡ kind.Go → back.dest ≡ None
    → ExprTracks g f.ground scope most zc called pc ec → StmtTracks g f scope most zb Anywhere pb eb → ActTracks g f.ground scope scope most zs ps es
    → AtHead f.ground scope (first_of (laid_items (ec c1).items) test.number) s old d z
    → Runs g most (a + (zc + (zb + zs))) (a + most) (6 + o) o (turn_parts pc pb ps d) z
    (TurnEnds (AtHead f.ground scope (first_of (laid_items (ec c1).items) test.number) s old) (OutOf g f scope last k s old))
test_first g f scope most zc zb zs called last pc pb ps ec eb es c1 cb cs test back k n a o s old d z stands bc tc bb tb bs ts is dest value go nodest hc hb hs at =
    runs_on g most (a + (zc + (zb + zs))) (a + (zb + zs)) (a + most) (6 + o) (suc (6 + o)) o (pc d) _ z _ ends
    (runs_weaker g most (a + (zb + zs) + zc) (a + (zb + zs)) (6 + o) (suc (6 + o)) (a + (zc + (zb + zs))) (a + (zb + zs)) (6 + o) (suc (6 + o)) (pc d) z _ _
    (omega arith) (omega arith) (omega arith) (omega arith) (λ v e y r. r)
    (hc c1 bc tc (in_loop (laid_items (es cs).items) back k test.number) z d (a + (zb + zs)) (6 + o) at.1.agrees at.1.ready stands.pre_stands at.0))
    (λ v e y r. tested_by v e y (is_set v) refl r.0.at (since_expr f.ground scope called c1.temp (ec c1).value s old d e v z y at.1 r.0.calls r.1) r.1.value)
  where
    head : ℕ
    head = first_of (laid_items (ec c1).items) test.number

    on : ℕ
    on = first_of (laid_items (es cs).items) back.number

    ends : Option Leaving → State → Spot → Type 0
    ends = TurnEnds (AtHead f.ground scope head s old) (OutOf g f scope last k s old)

    tests : (v : ℕ) (y : Spot) → y.at ≡ test.number → operand_word y.objects (ec c1).value ≡ v → operate g y ≡ flow.Went [] (record y { at = if is_set v then first_of (laid_items (eb cb).items) on else k.behind })
    tests v y e w = tested g test (first_of (laid_items (eb cb).items) on) k.behind y is (ap (node_in (graph_nodes g)) e ∙ stands.test_is) dest
        ∙ ap (λ x. flow.Went [] (record y { at = if is_set x then first_of (laid_items (eb cb).items) on else k.behind })) (ap (operand_word y.objects) value ∙ w)

    -- behind the step: the way back
    goes_back : (e : State) (y : Spot) (b : ℕ) → y.at ≡ back.number → Since f.ground scope s old e y → Runs g most (a + most) (a + most) (suc (6 + o)) o (pure {A = Option Leaving} None e) y ends
    goes_back e y b at' since = runs_weaker g most (a + most) (a + most + most) (suc (6 + o)) (6 + o) (a + most) (a + most) (suc (6 + o)) o (pure {A = Option Leaving} None e) y ends ends
        (omega arith) (omega arith) (omega arith) (omega arith) (λ l e' y' r. r)
        (runs_op g most (a + most) (a + most + most) (6 + o) (6 + o) (pure {A = Option Leaving} None e) y (record y { at = head }) ends
        (goes g back head y go nodest (ap (node_in (graph_nodes g)) at' ∙ stands.back_is))
        (runs_done g most (a + most + most) (6 + o) None e (record y { at = head }) ends (refl, since_at f.ground scope s old e y head since)))

    steps : (e : State) (y : Spot) → y.at ≡ on → Since f.ground scope s old e y → Runs g most (a + most + zs) (a + most) (suc (6 + o)) o ((ps >> pure {A = Option Leaving} None) e) y ends
    steps e y at' since = runs_on g most (a + most + zs) (a + most) (a + most) (suc (6 + o)) (suc (6 + o)) o (ps e) (λ u. pure {A = Option Leaving} None) y _ ends
        (hs cs bs ts (in_loop (laid_items (es cs).items) back k back.number) y e (a + most) (suc (6 + o)) since.agrees since.ready stands.step_stands at')
        (λ u e' y' r. goes_back e' y' 0 r.0 (since_both f.ground scope scope s old e e' y y' since r.1))

    leaves : (l : Leaving) (e : State) (y : Spot) → OutOf g f scope last k s old l e y → Runs g most (a + most + zs) (a + most) (suc (6 + o)) o (pure (Some l) e) y ends
    leaves l e y r = runs_weaker g most (a + most + zs) (a + most + zs) (suc (6 + o)) (suc (6 + o)) (a + most + zs) (a + most) (suc (6 + o)) o (pure (Some l) e) y ends ends
        (omega arith) (omega arith) (omega arith) (omega arith) (λ l' e' y' r'. r') (runs_done g most (a + most + zs) (suc (6 + o)) (Some l) e y ends r)

    -- behind the body
    left_by : (l : Leaving) (e : State) (y : Spot) → LeftAt g f Anywhere (in_loop (laid_items (es cs).items) back k on) l y → Since f.ground scope s old e y
        → Runs g most (a + most + zs) (a + most) (suc (6 + o)) o (either (goes_on l) (ps >> pure None) (pure (Some (left_loop l))) e) y ends
    left_by Next e y left since = steps e y left since
    left_by Continued e y left since = steps e y left since
    left_by Broke e y left since = leaves Next e y (record { left = left; since = since })
    left_by (Returned v) e y left since = leaves (Returned v) e y (record { left = left; since = since })

    tested_by : (v : ℕ) (e : State) (y : Spot) (t : Bool) → is_set v ≡ t → y.at ≡ test.number → Since f.ground scope s old e y → operand_word y.objects (ec c1).value ≡ v
        → Runs g most (a + (zb + zs)) (a + most) (suc (6 + o)) o (either (is_set v) (pb >>= (λ l. either (goes_on l) (ps >> pure None) (pure (Some (left_loop l))))) (pure (Some Next)) e) y ends
    tested_by v e y true t at' since w = rw t (runs_op g most (a + (zb + zs)) (a + most) (6 + o) o _ y (record y { at = first_of (laid_items (eb cb).items) on }) ends
        (tests v y at' w ∙ ap (λ b. flow.Went [] (record y { at = if b then first_of (laid_items (eb cb).items) on else k.behind })) t)
        (runs_on g most (a + (zb + zs) + most) (a + most + zs) (a + most) (6 + o) (suc (6 + o)) o (pb e) _ (record y { at = first_of (laid_items (eb cb).items) on }) _ ends
        (runs_weaker g most (a + most + zs + zb) (a + most + zs) (6 + o) (suc (6 + o)) (a + (zb + zs) + most) (a + most + zs) (6 + o) (suc (6 + o)) (pb e) _ _ _
        (omega arith) (omega arith) (omega arith) (omega arith) (λ l e' y' r. r)
        (hb cb bb tb (in_loop (laid_items (es cs).items) back k on) (record y { at = first_of (laid_items (eb cb).items) on }) e (a + most + zs) (6 + o) (since_at f.ground scope s old e y _ since).agrees since.ready stands.post_stands refl))
        (λ l e' y' r. left_by l e' y' r.left (since_both f.ground scope scope s old e e' (record y { at = first_of (laid_items (eb cb).items) on }) y' (since_at f.ground scope s old e y _ since) r.since))))
    tested_by v e y false t at' since w = rw t (runs_op g most (a + (zb + zs)) (a + most) (6 + o) o (pure (Some Next) e) y (record y { at = k.behind }) ends
        (tests v y at' w ∙ ap (λ b. flow.Went [] (record y { at = if b then first_of (laid_items (eb cb).items) on else k.behind })) t)
        (runs_weaker g most (a + (zb + zs) + most) (a + (zb + zs) + most) (6 + o) (6 + o) (a + (zb + zs) + most) (a + most) (6 + o) o (pure (Some Next) e) _ ends ends
        (omega arith) (omega arith) (omega arith) (omega arith) (λ l' e' y' r'. r')
        (runs_done g most (a + (zb + zs) + most) (6 + o) (Some Next) e (record y { at = k.behind }) ends (record { left = refl; since = since_at f.ground scope s old e y k.behind since }))))

-- A turn and those behind it: what the turns at one depth of the meaning do, those at the next depth do.
pub turns_again : (g : Graph) (f : Callee) (scope : ℕ → Type 0) (most zc zb zs : ℕ) (called : Bool) (last : Position)
    (pc : Part ℕ) (pb : Part Leaving) (ps : Part (Unit {0})) (rest : Part Leaving) (ec : Emit Operand) (eb es : Emit (Unit {0})) (c1 cb cs : Counts) (test back : Op)
    (k : Around) (n a o : ℕ) (s : Spot) (old d : State) (z : Spot)
    → suc (zc + (zb + zs)) ≤ most
    → LoopStands g k (ec c1).items test (eb cb).items (es cs).items back n
    → f.ground.base ≤ c1.temp → (ec c1).counts.temp ≤ f.ground.top → f.ground.base ≤ cb.temp → (eb cb).counts.temp ≤ f.ground.top → f.ground.base ≤ cs.temp → (es cs).counts.temp ≤ f.ground.top
    → test.kind ≡ kind.Test → test.dest ≡ None → test.a ≡ (ec c1).value → back.kind ≡ kind.Go → back.dest ≡ None
    → ExprTracks g f.ground scope most zc called pc ec → StmtTracks g f scope most zb Anywhere pb eb → ActTracks g f.ground scope scope most zs ps es
    → ((e : State) (y : Spot) → AtHead f.ground scope (first_of (laid_items (ec c1).items) test.number) s old e y
    → Runs g most (a + suc (zc + (zb + zs))) a o o (rest e) y (OutOf g f scope last k s old))
    → AtHead f.ground scope (first_of (laid_items (ec c1).items) test.number) s old d z
    → Runs g most (a + suc (zc + (zb + zs))) a o o ((begin >> (turn_parts pc pb ps >>= next_turn rest)) d) z (OutOf g f scope last k s old)
turns_again g f scope most zc zb zs called last pc pb ps rest ec eb es c1 cb cs test back k n a o s old d z le stands bc tc bb tb bs ts is dest value go nodest hc hb hs hr at =
    turns_run g most (zc + (zb + zs)) a o 0 (turn_parts pc pb ps) rest (AtHead f.ground scope (first_of (laid_items (ec c1).items) test.number) s old) (OutOf g f scope last k s old) z d le
    (λ j. test_first g f scope most zc zb zs called last pc pb ps ec eb es c1 cb cs test back k n a o s old (record d { left = j }) z
    stands bc tc bb tb bs ts is dest value go nodest hc hb hs (at.0, since_left f.ground scope s old d z j at.1))
    hr
