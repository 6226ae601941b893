-- All loops, as they are lowered: each turn and those behind it, from the turns at the depth below.
use Rattle.std.proofs.Common.{◌≡◌, ℕ, suc, ◌+◌, ◌≤◌, Bool, true, false, Option, Some, None, List, [], ◌∷◌, ◌++◌, refl, sym, ap, ◌∙◌, subst, arith, append-nil}
use Rattle.std.specs.Prelude.{if◌then◌else◌, ⊤}
use Rattle.base_io.specs.declared.place.Place.{Place}
use Rattle.c_values.specs.Values.{is_set}
use Rattle.c_tree.specs.declared.tree.Expr.{Expr}
use Rattle.c_tree.specs.declared.leaving.Leaving.{Leaving}
use Rattle.c_tree.specs.declared.leaving.Leaving.TheVariants.{Next, Broke, Continued, Returned}
use Rattle.c_tree.specs.Runs.{State, Part, begin, pure, either, stop, ◌>>=◌, ◌>>◌}
use Rattle.c_tree.specs.Nodes.{goes_on, left_loop, next_turn}
use Rattle.flow_graph.specs.declared.graph.Graph.{Graph}
use Rattle.flow_graph.specs.declared.graph.Op.{Op}
use Rattle.flow_graph.specs.declared.graph.OpKind.TheVariants as kind
use Rattle.flow_graph.specs.declared.graph.Operand.{Operand}
use Rattle.flow_graph.specs.declared.graph.Operand.TheVariants.{Const}
use Rattle.flow_graph.specs.declared.graph.Item.{Item}
use Rattle.flow_graph.specs.declared.graph.Item.TheVariants as item
use Rattle.flow_graph.specs.declared.graph.LeaveTo.TheVariants.{Break}
use Rattle.flow_graph.specs.Operations.{operand_word}
use Rattle.flow_graph.specs.declared.nodes.Around.{Around}
use Rattle.flow_graph.specs.Nodes.{at_behind, graph_nodes, node_in, first_of, laid_items, in_loop}
use Rattle.flow_graph.specs.Flow as flow
use Rattle.flow_graph.specs.Flow.{Spot, operate}
use Rattle.lowered_graphs.specs.Making.{Emit, Counts, Made, made_on, numbered, test_of, go, nothing}
use Rattle.lowered_graphs.specs.Exprs.{full}
use Rattle.lowered_graphs.specs.Stmts.{loop_at, test, do_step}
use Rattle.lowered_graphs.specs.declared.positions.Position.{Position}
use Rattle.lowered_graphs.specs.declared.positions.Position.TheVariants.{Anywhere}
use Rattle.lowered_meaning.specs.Keeps.{Ground}
use Rattle.lowered_meaning.specs.Leaves.{Callee, LeftAt, Since, StmtDone, StmtTracks, ActTracks, Upwards}
use Rattle.lowered_meaning.specs.Runs.{Runs}
use Rattle.lowered_meaning.specs.Tracks.{Stand}
use Rattle.lowered_meaning.proofs.RunLemmas.{runs_on, runs_begin, runs_done, runs_op, runs_weaker, shows_none, behind_none}
use Rattle.lowered_meaning.proofs.ShapeLemmas.{Tracked}
use Rattle.lowered_meaning.proofs.SinceLemmas.{since_start, since_at, since_both, since_expr, since_left}
use Rattle.lowered_meaning.proofs.StmtLemmas.{both, leave_stands, since_less}
use Rattle.lowered_meaning.proofs.TrackLemmas.{stands_left, stands_right, first_left, tested, goes, one_stands}
use Rattle.lowered_meaning.proofs.LoopLemmas.{LoopStands, loop_stands, TurnEnds, turns_run, turn_parts, AtHead, OutOf, turns_again}
use Rattle.lowered_meaning.proofs.CallsBodies.{OnDone, runs_known}
use Rattle.lowered_meaning.proofs.DoParts.{do_parts, do_turn, do_is}
use Rattle.lowered_meaning.proofs.IfLemmas.{StmtLevel, tests_then, cut, stands_same, first_same}

-- The turns of a loop, from wherever its head is reached: a step begins each.
abbrev pub LoopTracks : Graph → Callee → (ℕ → Type 0) → (most n : ℕ) → Position → Part Leaving → Emit (Unit {0}) → Type 0
LoopTracks g f scope most n last turns emit = (c : Counts) → f.ground.base ≤ c.temp → (emit c).counts.temp ≤ f.ground.top → (k : Around) (s : Spot) (old : State) → Stand g k (emit c).items
    → (a o : ℕ) (e : State) (z : Spot) → z.at ≡ first_of (laid_items (emit c).items) k.behind → Since f.ground scope s old e z
    → Runs g most (a + suc n) a o o (turns e) z (StmtDone g f scope last k s old)

-- a part is not left by `continue`
abbrev pub IsNotContinued : Leaving → Type 0
IsNotContinued Continued = ⊥
IsNotContinued _ = ⊤

module _ (g : Graph) (f : Callee) (scope : ℕ → Type 0) (most : ℕ) where
  abbrev w : Ground
  w = f.ground

  -- ---- loops where they stand

  pub loop_level : (n : ℕ) (last : Position) (turns : Part Leaving) (emit : Emit (Unit {0})) → LoopTracks g f scope most n last turns emit → StmtLevel g f scope most (suc n) last turns emit
  loop_level n last turns emit h c le top k s d a o agrees ready stand at =
      runs_weaker g most (a + suc n) a (suc o) (suc o) (a + suc n) a (6 + o) (suc o) (turns d) s Goal Goal (omega arith) (omega arith) (omega arith) (omega arith) (λ l e z r. r)
      (h c le top k s d stand a (suc o) d s at (since_start w scope s d agrees ready))
    where
      Goal : Leaving → State → Spot → Type 0
      Goal = StmtDone g f scope last k s d

  -- behind the first part of a `for`
  pub for_level : (scope' : ℕ → Type 0) (zf n : ℕ) (last : Position) (pf : Part (Unit {0})) (ef : Emit (Unit {0})) (turns : Part Leaving) (emit : Emit (Unit {0}))
      → ((x : ℕ) → scope x → scope' x) → Upwards ef → Upwards emit → ActTracks g f.ground scope scope' most zf pf ef → LoopTracks g f scope' most n last turns emit
      → StmtLevel g f scope most (suc (zf + n)) last (pf >> turns) (both ef emit)
  for_level scope' zf n last pf ef turns emit wider upf up hf h c le top k s d a o agrees ready stand at =
      runs_on g most (a + suc (zf + n)) (a + suc n) a (6 + o) (suc o) (suc o) (pf d) (λ _. turns) s _ Goal
      (runs_weaker g most (a + suc n + zf) (a + suc n) (suc o) (suc o) (a + suc (zf + n)) (a + suc n) (6 + o) (suc o) (pf d) s _ _ (omega arith) (omega arith) (omega arith) (omega arith) (λ u e z r. r)
      (hf c le (omega (arith, top, up m1.counts)) (at_behind k second) s d (a + suc n) (suc o) agrees ready (stands_left g k m1.items m2.items stand) (at ∙ first_left m1.items m2.items k.behind)))
      (λ u e z r. runs_weaker g most (a + suc n) a (suc o) (suc o) (a + suc n) a (suc o) (suc o) (turns e) z (StmtDone g f scope' last k z e) Goal (omega arith) (omega arith) (omega arith) (omega arith)
      (λ l e' z' r'. record { left = r'.left; since = since_less w scope scope' s d e' z' wider (since_both w scope' scope' s d e e' z z' r.1 r'.since) })
      (h m1.counts (omega (arith, le, upf c)) top k z e (stands_right g k m1.items m2.items stand) a (suc o) e z r.0 (since_start w scope' z e r.1.agrees r.1.ready)))
    where
      m1 : Made (Unit {0})
      m1 = ef c

      m2 : Made (Unit {0})
      m2 = emit m1.counts

      second : ℕ
      second = first_of (laid_items m2.items) k.behind

      Goal : Leaving → State → Spot → Type 0
      Goal = StmtDone g f scope last k s d

  -- no turn at all, for want of steps
  pub no_turns : (n : ℕ) (last : Position) (emit : Emit (Unit {0})) → LoopTracks g f scope most n last stop emit
  no_turns n last emit c le top k s old stand a o e z at since = shows_none g most (a + suc n) o z

  -- ---- loops with their test first

  pub test_turns : (zc zb zs : ℕ) (called : Bool) (last : Position) (c : Expr) (pc : Part ℕ) (pb : Part Leaving) (ps : Part (Unit {0})) (rest : Part Leaving) (eb es : Emit (Unit {0})) (at : Place)
      → suc (zc + (zb + zs)) ≤ most → Tracked g f.ground scope most zc called false pc (full f.ground.setting c) → Upwards eb → Upwards es
      → StmtTracks g f scope most zb Anywhere pb eb → ActTracks g f.ground scope scope most zs ps es
      → LoopTracks g f scope most (zc + (zb + zs)) last rest (loop_at (test f.ground.setting c at) eb es None at)
      → LoopTracks g f scope most (zc + (zb + zs)) last (begin >> (turn_parts pc pb ps >>= next_turn rest)) (loop_at (test f.ground.setting c at) eb es None at)
  test_turns zc zb zs called last c pc pb ps rest eb es at few t upb ups hb hs hr c1 le top k s old stand a o e z first since =
      turns_again g f scope most zc zb zs called last pc pb ps rest (full w.setting c) eb es c1 cb B.counts test' back k n a o s old e z few stands
      le (omega (arith, top, upb cb, ups B.counts)) (omega (arith, le, t.grows c1)) (omega (arith, top, ups B.counts)) (omega (arith, le, t.grows c1, upb cb)) top
      refl refl refl refl refl t.tracks hb hs (λ e' y r. hr c1 le top k s old stand a o e' y (r.0 ∙ sym stands.head) r.1) (first ∙ stands.head, since)
    where
      m : Made Operand
      m = full w.setting c c1

      test' : Op
      test' = test_of m.value at m.counts.op

      cb : Counts
      cb = record { op = m.counts.op + 1; temp = m.counts.temp }

      B : Made (Unit {0})
      B = eb cb

      S : Made (Unit {0})
      S = es B.counts

      back : Op
      back = go at S.counts.op

      n : ℕ
      n = first_of (laid_items (item.Loop (m.items ++ []) test' B.items S.items back None ∷ [])) k.behind

      stands : LoopStands g k m.items test' B.items S.items back n
      stands = subst (λ l. LoopStands g k l test' B.items S.items back n) (append-nil m.items) (loop_stands g k (m.items ++ []) test' B.items S.items back None n stand refl)

  -- ---- the body of a turn, its step and the way back

  body_turn : (zb zs : ℕ) (last : Position) (pb : Part Leaving) (ps : Part (Unit {0})) (eb es : Emit (Unit {0})) (cb cs : Counts) (pre : List Item) (test' back : Op)
      (k : Around) (n a o : ℕ) (s : Spot) (old d : State) (z : Spot) → LoopStands g k pre test' (eb cb).items (es cs).items back n
      → f.ground.base ≤ cb.temp → (eb cb).counts.temp ≤ f.ground.top → f.ground.base ≤ cs.temp → (es cs).counts.temp ≤ f.ground.top → back.kind ≡ kind.Go → back.dest ≡ None
      → StmtTracks g f scope most zb Anywhere pb eb → ActTracks g f.ground scope scope most zs ps es
      → z.at ≡ first_of (laid_items (eb cb).items) (first_of (laid_items (es cs).items) back.number) → Since f.ground scope s old d z
      → Runs g most (a + (zb + zs)) a (suc o) o ((pb >>= (λ l. either (goes_on l) (ps >> pure None) (pure (Some (left_loop l))))) d) z
      (TurnEnds (AtHead f.ground scope (first_of (laid_items pre) test'.number) s old) (OutOf g f scope last k s old))
  body_turn zb zs last pb ps eb es cb cs pre test' back k n a o s old d z stands bb tb bs ts isgo nodest hb hs at since =
      runs_on g most (a + (zb + zs)) (a + zs) a (suc o) (suc (suc o)) o (pb d) _ z _ ends
      (runs_weaker g most (a + zs + zb) (a + zs) (suc o) (suc (suc o)) (a + (zb + zs)) (a + zs) (suc o) (suc (suc o)) (pb d) z _ _ (omega arith) (omega arith) (omega arith) (omega arith) (λ l e y r. r)
      (hb cb bb tb (in_loop (laid_items (es cs).items) back k on) z d (a + zs) (suc o) since.agrees since.ready stands.post_stands at))
      (λ l e y r. left_by l e y r.left (since_both w scope scope s old d e z y since r.since))
    where
      on : ℕ
      on = first_of (laid_items (es cs).items) back.number

      head : ℕ
      head = first_of (laid_items pre) test'.number

      ends : Option Leaving → State → Spot → Type 0
      ends = TurnEnds (AtHead w scope head s old) (OutOf g f scope last k s old)

      goes_back : (e : State) (y : Spot) → y.at ≡ back.number → Since w scope s old e y → Runs g most a a (suc (suc o)) o (pure {A = Option Leaving} None e) y ends
      goes_back e y at' since' = runs_weaker g most a (a + most) (suc (suc o)) (suc o) a a (suc (suc o)) o (pure {A = Option Leaving} None e) y ends ends
          (omega arith) (omega arith) (omega arith) (omega arith) (λ l e' y' r. r)
          (runs_op g most a (a + most) (suc o) (suc o) (pure {A = Option Leaving} None e) y (record y { at = head }) ends
          (goes g back head y isgo nodest (ap (node_in (graph_nodes g)) at' ∙ stands.back_is))
          (runs_done g most (a + most) (suc o) None e (record y { at = head }) ends (refl, since_at w scope s old e y head since')))

      steps : (e : State) (y : Spot) → y.at ≡ on → Since w scope s old e y → Runs g most (a + zs) a (suc (suc o)) o ((ps >> pure {A = Option Leaving} None) e) y ends
      steps e y at' since' = runs_on g most (a + zs) a a (suc (suc o)) (suc (suc o)) o (ps e) (λ u. pure {A = Option Leaving} None) y _ ends
          (hs cs bs ts (in_loop (laid_items (es cs).items) back k back.number) y e a (suc (suc o)) since'.agrees since'.ready stands.step_stands at')
          (λ u e' y' r. goes_back e' y' r.0 (since_both w scope scope s old e e' y y' since' r.1))

      leaves : (l : Leaving) (e : State) (y : Spot) → OutOf g f scope last k s old l e y → Runs g most (a + zs) a (suc (suc o)) o (pure (Some l) e) y ends
      leaves l e y r = runs_weaker g most (a + zs) (a + zs) (suc (suc o)) (suc (suc o)) (a + zs) a (suc (suc o)) o (pure (Some l) e) y ends ends
          (omega arith) (omega arith) (omega arith) (omega arith) (λ l' e' y' r'. r') (runs_done g most (a + zs) (suc (suc o)) (Some l) e y ends r)

      left_by : (l : Leaving) (e : State) (y : Spot) → LeftAt g f Anywhere (in_loop (laid_items (es cs).items) back k on) l y → Since w scope s old e y
          → Runs g most (a + zs) a (suc (suc o)) o (either (goes_on l) (ps >> pure None) (pure (Some (left_loop l))) e) y ends
      left_by Next e y left since' = steps e y left since'
      left_by Continued e y left since' = steps e y left since'
      left_by Broke e y left since' = leaves Next e y (record { left = left; since = since' })
      left_by (Returned v) e y left since' = leaves (Returned v) e y (record { left = left; since = since' })

  -- a loop without a test
  pub endless_turns : (zb zs : ℕ) (last : Position) (pb : Part Leaving) (ps : Part (Unit {0})) (rest : Part Leaving) (eb es : Emit (Unit {0})) (at : Place)
      → suc (zb + zs) ≤ most → Upwards eb → Upwards es → StmtTracks g f scope most zb Anywhere pb eb → ActTracks g f.ground scope scope most zs ps es
      → LoopTracks g f scope most (zb + zs) last rest (loop_at (numbered (test_of (Const 1) at)) eb es None at)
      → LoopTracks g f scope most (zb + zs) last (begin >> (turn_parts (pure 1) pb ps >>= next_turn rest)) (loop_at (numbered (test_of (Const 1) at)) eb es None at)
  endless_turns zb zs last pb ps rest eb es at few upb ups hb hs hr c1 le top k s old stand a o e z first since =
      turns_run g most (zb + zs) a o 0 (turn_parts (pure 1) pb ps) rest (AtHead w scope test'.number s old) (OutOf g f scope last k s old) z e few
      (λ j. turn j) (λ e' y r. hr c1 le top k s old stand a o e' y (r.0 ∙ sym stands.head) r.1)
    where
      test' : Op
      test' = test_of (Const 1) at c1.op

      cb : Counts
      cb = record { op = c1.op + 1; temp = c1.temp }

      B : Made (Unit {0})
      B = eb cb

      S : Made (Unit {0})
      S = es B.counts

      back : Op
      back = go at S.counts.op

      n : ℕ
      n = first_of (laid_items (item.Loop [] test' B.items S.items back None ∷ [])) k.behind

      stands : LoopStands g k [] test' B.items S.items back n
      stands = loop_stands g k [] test' B.items S.items back None n stand refl

      body : ℕ
      body = first_of (laid_items B.items) (first_of (laid_items S.items) back.number)

      ends : Option Leaving → State → Spot → Type 0
      ends = TurnEnds (AtHead w scope test'.number s old) (OutOf g f scope last k s old)

      inner : Part (Option Leaving)
      inner = pb >>= (λ l. either (goes_on l) (ps >> pure None) (pure (Some (left_loop l))))

      turn : (j : ℕ) → Runs g most (a + (zb + zs)) (a + most) (6 + o) o (turn_parts (pure 1) pb ps (record e { left = j })) z ends
      turn j = subst (λ r. Runs g most (a + (zb + zs)) (a + most) (6 + o) o r z ends) (sym (behind_none (inner (record e { left = j }))))
          (runs_weaker g most (a + (zb + zs)) (a + most) (suc (5 + o)) o (a + (zb + zs)) (a + most) (6 + o) o (inner (record e { left = j })) z ends ends (omega arith) (omega arith) (omega arith) (omega arith) (λ l e' y r. r)
          (runs_op g most (a + (zb + zs)) (a + most) (5 + o) o (inner (record e { left = j })) z (record z { at = body }) ends
          (tested g test' body k.behind z refl (ap (node_in (graph_nodes g)) (first ∙ stands.head) ∙ stands.test_is) refl)
          (runs_weaker g most (a + most + (zb + zs)) (a + most) (suc (4 + o)) (4 + o) (a + (zb + zs) + most) (a + most) (5 + o) o (inner (record e { left = j })) (record z { at = body }) ends ends
          (omega arith) (omega arith) (omega arith) (omega arith) (λ l e' y r. r)
          (body_turn zb zs last pb ps eb es cb B.counts [] test' back k n (a + most) (4 + o) s old (record e { left = j }) (record z { at = body }) stands
          le (omega (arith, top, ups B.counts)) (omega (arith, le, upb cb)) top refl refl hb hs refl (since_at w scope s old (record e { left = j }) z body (since_left w scope s old e z j since))))))

  -- ---- `do`

  -- the test behind the body
  pub do_loop : (zb zc : ℕ) (called : Bool) (last : Position) (c : Expr) (pb : Part Leaving) (pc : Part ℕ) (rest : Part Leaving) (eb : Emit (Unit {0})) (at : Place)
      → suc (zb + zc) ≤ most → Tracked g f.ground scope most zc called false pc (full f.ground.setting c) → Upwards eb → StmtTracks g f scope most zb Anywhere pb eb
      → ((d : State) → OnDone IsNotContinued (pb d))
      → LoopTracks g f scope most (zb + zc) last rest (loop_at (λ c'. made_on (eb c') (λ _. test f.ground.setting c at)) nothing nothing None at)
      → LoopTracks g f scope most (zb + zc) last (begin >> (do_turn pb pc >>= next_turn rest)) (loop_at (λ c'. made_on (eb c') (λ _. test f.ground.setting c at)) nothing nothing None at)
  do_loop zb zc called last c pb pc rest eb at few t upb hb stays hr c1 le top k s old stand a o e z first since =
      runs_weaker g most (suc (a + (zb + zc))) a o o (a + suc (zb + zc)) a o o ((begin >> (do_turn pb pc >>= next_turn rest)) e) z Goal Goal (omega arith) (omega arith) (omega arith) (omega arith) (λ l e' z' r. r)
      (runs_begin g most (a + (zb + zc)) a o o e.left e (do_turn pb pc >>= next_turn rest) z Goal
      (λ j. subst (λ r. Runs g most (a + (zb + zc)) a (6 + o) o r z Goal) (sym (do_is pb pc rest (record e { left = j }))) (begun (record e { left = j }) (since_left w scope s old e z j since))))
    where
      B : Made (Unit {0})
      B = eb c1

      m : Made Operand
      m = full w.setting c B.counts

      test' : Op
      test' = test_of m.value at m.counts.op

      back : Op
      back = go at (m.counts.op + 1)

      n : ℕ
      n = first_of (laid_items (item.Loop (B.items ++ (m.items ++ [])) test' [] [] back None ∷ [])) k.behind

      stands : LoopStands g k (B.items ++ m.items) test' [] [] back n
      stands = subst (λ l. LoopStands g k (B.items ++ l) test' [] [] back n) (append-nil m.items) (loop_stands g k (B.items ++ (m.items ++ [])) test' [] [] back None n stand refl)

      around : Around
      around = in_loop [] back k test'.number

      Goal : Leaving → State → Spot → Type 0
      Goal = StmtDone g f scope last k s old

      out : (l : Leaving) (x u : ℕ) (e' : State) (y : Spot) → a ≤ x → o ≤ u → LeftAt g f last k l y → Since w scope s old e' y → Runs g most x a u o (pure l e') y Goal
      out l x u e' y le1 le2 left since' = runs_weaker g most x x u u x a u o (pure l e') y Goal Goal (omega arith) (omega (arith, le1)) (omega arith) (omega (arith, le2)) (λ l' e'' y' r. r)
          (runs_done g most x u l e' y Goal (record { left = left; since = since' }))

      again' : (e' : State) (y : Spot) → y.at ≡ back.number → Since w scope s old e' y → Runs g most (a + most) a (suc (6 + o)) o (rest e') y Goal
      again' e' y at' since' = runs_op g most (a + most) a (6 + o) o (rest e') y (record y { at = first_of (laid_items (B.items ++ m.items)) test'.number }) Goal
          (goes g back (first_of (laid_items (B.items ++ m.items)) test'.number) y refl refl (ap (node_in (graph_nodes g)) at' ∙ stands.back_is))
          (runs_weaker g most (a + suc (zb + zc)) a o o (a + most + most) a (6 + o) o (rest e') _ Goal Goal (omega (arith, few)) (omega (arith, few)) (omega arith) (omega arith) (λ l e'' y' r. r)
          (hr c1 le top k s old stand a o e' (record y { at = first_of (laid_items (B.items ++ m.items)) test'.number }) (sym stands.head) (since_at w scope s old e' y _ since')))

      tests : (v : ℕ) (e' : State) (y : Spot) (b : Bool) → is_set v ≡ b → y.at ≡ test'.number → Since w scope s old e' y → operand_word y.objects m.value ≡ v
          → Runs g most a a (suc (suc (6 + o))) o (either (is_set v) rest (pure Next) e') y Goal
      tests v e' y true q at' since' value = rw q (runs_op g most a a (suc (6 + o)) o (rest e') y (record y { at = back.number }) Goal
          (tested g test' back.number k.behind y refl (ap (node_in (graph_nodes g)) at' ∙ stands.test_is) refl ∙ ap (λ x. flow.Went [] (record y { at = if is_set x then back.number else k.behind })) value
          ∙ ap (λ x. flow.Went [] (record y { at = if x then back.number else k.behind })) q)
          (again' e' (record y { at = back.number }) refl (since_at w scope s old e' y back.number since')))
      tests v e' y false q at' since' value = rw q (runs_op g most a a (suc (6 + o)) o (pure Next e') y (record y { at = k.behind }) Goal
          (tested g test' back.number k.behind y refl (ap (node_in (graph_nodes g)) at' ∙ stands.test_is) refl ∙ ap (λ x. flow.Went [] (record y { at = if is_set x then back.number else k.behind })) value
          ∙ ap (λ x. flow.Went [] (record y { at = if x then back.number else k.behind })) q)
          (out Next (a + most) (suc (6 + o)) e' (record y { at = k.behind }) (omega arith) (omega arith) refl (since_at w scope s old e' y k.behind since')))

      test_part : (e' : State) (y : Spot) → y.at ≡ first_of (laid_items m.items) test'.number → Since w scope s old e' y
          → Runs g most (a + zc) a (suc (6 + o)) o ((pc >>= (λ v. either (is_set v) rest (pure Next))) e') y Goal
      test_part e' y at' since' = runs_on g most (a + zc) a a (suc (6 + o)) (suc (suc (6 + o))) o (pc e') _ y _ Goal
          (t.tracks B.counts (omega (arith, le, upb c1)) top around y e' a (suc (6 + o)) since'.agrees since'.ready (stands_right g around B.items m.items stands.pre_stands) at')
          (λ v e'' y' r. tests v e'' y' (is_set v) refl r.0.at (since_expr w scope called B.counts.temp m.value s old e' e'' v y y' since' r.0.calls r.1) r.1.value)

      by_leaving : (l : Leaving) (e' : State) (y : Spot) → LeftAt g f Anywhere (at_behind around (first_of (laid_items m.items) test'.number)) l y → IsNotContinued l → Since w scope s old e' y
          → Runs g most (a + zc) a (suc (6 + o)) o (either (goes_on l) (pc >>= (λ v. either (is_set v) rest (pure Next))) (pure (left_loop l)) e') y Goal
      by_leaving Next e' y r is since' = test_part e' y r since'
      by_leaving Broke e' y r is since' = out Next (a + zc) (suc (6 + o)) e' y (omega arith) (omega arith) r since'
      by_leaving Continued e' y r is since' = absurd is
      by_leaving (Returned v) e' y r is since' = out (Returned v) (a + zc) (suc (6 + o)) e' y (omega arith) (omega arith) r since'

      begun : (d : State) → Since w scope s old d z → Runs g most (a + (zb + zc)) a (6 + o) o (do_parts pb pc rest d) z Goal
      begun d since' = runs_on g most (a + (zb + zc)) (a + zc) a (6 + o) (suc (6 + o)) o (pb d) _ z _ Goal
          (runs_known g most (a + (zb + zc)) (a + zc) (6 + o) (suc (6 + o)) (pb d) z _ IsNotContinued (stays d)
          (runs_weaker g most (a + zc + zb) (a + zc) (6 + o) (suc (6 + o)) (a + (zb + zc)) (a + zc) (6 + o) (suc (6 + o)) (pb d) z _ _ (omega arith) (omega arith) (omega arith) (omega arith) (λ l e' y r. r)
          (hb c1 le (omega (arith, top, t.grows B.counts)) (at_behind around (first_of (laid_items m.items) test'.number)) z d (a + zc) (6 + o) since'.agrees since'.ready
          (stands_left g around B.items m.items stands.pre_stands) (first ∙ stands.head ∙ first_left B.items m.items test'.number))))
          (λ l e' y r. by_leaving l e' y r.0.left r.1 (since_both w scope scope s old d e' z y since' r.0.since))

  -- the test as the step of an endless loop
  pub do_loop_by_step : (zb zc : ℕ) (called : Bool) (last : Position) (c : Expr) (pb : Part Leaving) (pc : Part ℕ) (rest : Part Leaving) (eb : Emit (Unit {0})) (at : Place)
      → suc (zb + zc) ≤ most → Tracked g f.ground scope most zc called false pc (full f.ground.setting c) → Upwards eb → StmtTracks g f scope most zb Anywhere pb eb
      → LoopTracks g f scope most (zb + zc) last rest (loop_at (numbered (test_of (Const 1) at)) eb (do_step f.ground.setting c at) None at)
      → LoopTracks g f scope most (zb + zc) last (begin >> (do_turn pb pc >>= next_turn rest)) (loop_at (numbered (test_of (Const 1) at)) eb (do_step f.ground.setting c at) None at)
  do_loop_by_step zb zc called last c pb pc rest eb at few t upb hb hr c1 le top k s old stand a o e z first since =
      runs_weaker g most (suc (a + (zb + zc))) a o o (a + suc (zb + zc)) a o o ((begin >> (do_turn pb pc >>= next_turn rest)) e) z Goal Goal (omega arith) (omega arith) (omega arith) (omega arith) (λ l e' z' r. r)
      (runs_begin g most (a + (zb + zc)) a o o e.left e (do_turn pb pc >>= next_turn rest) z Goal
      (λ j. subst (λ r. Runs g most (a + (zb + zc)) a (6 + o) o r z Goal) (sym (do_is pb pc rest (record e { left = j }))) (begun (record e { left = j }) (since_left w scope s old e z j since))))
    where
      test' : Op
      test' = test_of (Const 1) at c1.op

      cb : Counts
      cb = record { op = c1.op + 1; temp = c1.temp }

      B : Made (Unit {0})
      B = eb cb

      m : Made Operand
      m = full w.setting c B.counts

      t2 : Op
      t2 = test_of m.value at m.counts.op

      on : Op
      on = go at (m.counts.op + 1)

      off : Op
      off = go at (m.counts.op + 1 + 1)

      back : Op
      back = go at (m.counts.op + 1 + 1 + 1)

      ys : List Item
      ys = item.One on ∷ []

      zs : List Item
      zs = item.Leave off Break ∷ []

      step : List Item
      step = (m.items ++ []) ++ (item.Branch t2 ys zs ∷ [])

      n : ℕ
      n = first_of (laid_items (item.Loop [] test' B.items step back None ∷ [])) k.behind

      stands : LoopStands g k [] test' B.items step back n
      stands = loop_stands g k [] test' B.items step back None n stand refl

      around : Around
      around = in_loop (laid_items step) back k back.number

      start : ℕ
      start = first_of (laid_items step) back.number

      body : ℕ
      body = first_of (laid_items B.items) start

      Goal : Leaving → State → Spot → Type 0
      Goal = StmtDone g f scope last k s old

      out : (l : Leaving) (x u : ℕ) (e' : State) (y : Spot) → a ≤ x → o ≤ u → LeftAt g f last k l y → Since w scope s old e' y → Runs g most x a u o (pure l e') y Goal
      out l x u e' y le1 le2 left since' = runs_weaker g most x x u u x a u o (pure l e') y Goal Goal (omega arith) (omega (arith, le1)) (omega arith) (omega (arith, le2)) (λ l' e'' y' r. r)
          (runs_done g most x u l e' y Goal (record { left = left; since = since' }))

      again' : (e' : State) (y : Spot) → y.at ≡ back.number → Since w scope s old e' y → Runs g most (a + most) a (suc o) o (rest e') y Goal
      again' e' y at' since' = runs_op g most (a + most) a o o (rest e') y (record y { at = test'.number }) Goal
          (goes g back test'.number y refl refl (ap (node_in (graph_nodes g)) at' ∙ stands.back_is))
          (runs_weaker g most (a + suc (zb + zc)) a o o (a + most + most) a o o (rest e') _ Goal Goal (omega (arith, few)) (omega (arith, few)) (omega arith) (omega arith) (λ l e'' y' r. r)
          (hr c1 le top k s old stand a o e' (record y { at = test'.number }) (sym stands.head) (since_at w scope s old e' y _ since')))

      passed : (e' : State) (y : Spot) → y.at ≡ first_of (laid_items ys) back.number → Stand g around ys → Since w scope s old e' y → Runs g most (a + most + 0 + most) a (6 + o) o (rest e') y Goal
      passed e' y at' stands' since' =
          runs_weaker g most a a (suc (suc o)) o (a + most + 0 + most) a (6 + o) o (rest e') y Goal Goal (omega arith) (omega arith) (omega arith) (omega arith) (λ l e'' y' r. r)
          (runs_op g most a a (suc o) o (rest e') y (record y { at = back.number }) Goal (goes g on back.number y refl refl (one_stands g around on y stands' at'))
          (again' e' (record y { at = back.number }) refl (since_at w scope s old e' y back.number since')))

      failed : (e' : State) (y : Spot) → y.at ≡ first_of (laid_items zs) back.number → Stand g around zs → Since w scope s old e' y → Runs g most (a + most + 0 + most) a (6 + o) o (pure Next e') y Goal
      failed e' y at' stands' since' =
          runs_weaker g most a a (suc o) o (a + most + 0 + most) a (6 + o) o (pure Next e') y Goal Goal (omega arith) (omega arith) (omega arith) (omega arith) (λ l e'' y' r. r)
          (runs_op g most a a o o (pure Next e') y (record y { at = k.behind }) Goal (goes g off k.behind y refl refl (leave_stands g around off Break y stands' at'))
          (out Next (a + most) o e' (record y { at = k.behind }) (omega arith) (omega arith) refl (since_at w scope s old e' y k.behind since')))

      test_part : (e' : State) (y : Spot) → y.at ≡ start → Since w scope s old e' y → Runs g most (a + most + (zc + 0)) a (6 + o) o ((pc >>= (λ v. either (is_set v) rest (pure Next))) e') y Goal
      test_part e' y at' since' = tests_then g f scope most zc 0 called pc rest (pure Next) (full w.setting c) B.counts t2 ys zs around y e' (a + most) a o o Goal
          (omega (arith, le, upb cb)) top refl refl refl t.tracks since'.agrees since'.ready
          (stands_same g around _ _ (cut m.items (item.Branch t2 ys zs ∷ [])) stands.step_stands) (first_same _ _ back.number y.at (cut m.items (item.Branch t2 ys zs ∷ [])) at')
          (λ e'' y' since'' at'' stands''. passed e'' y' at'' stands'' (since_both w scope scope s old e' e'' y y' since' since''))
          (λ e'' y' since'' at'' stands''. failed e'' y' at'' stands'' (since_both w scope scope s old e' e'' y y' since' since''))

      by_leaving : (l : Leaving) (e' : State) (y : Spot) → LeftAt g f Anywhere (in_loop (laid_items step) back k start) l y → Since w scope s old e' y
          → Runs g most (a + most + (zc + 0)) a (6 + o) o (either (goes_on l) (pc >>= (λ v. either (is_set v) rest (pure Next))) (pure (left_loop l)) e') y Goal
      by_leaving Next e' y r since' = test_part e' y r since'
      by_leaving Continued e' y r since' = test_part e' y r since'
      by_leaving Broke e' y r since' = out Next (a + most + (zc + 0)) (6 + o) e' y (omega arith) (omega arith) r since'
      by_leaving (Returned v) e' y r since' = out (Returned v) (a + most + (zc + 0)) (6 + o) e' y (omega arith) (omega arith) r since'

      begun : (d : State) → Since w scope s old d z → Runs g most (a + (zb + zc)) a (6 + o) o (do_parts pb pc rest d) z Goal
      begun d since' =
          runs_weaker g most (a + (zb + zc)) a (suc (5 + o)) o (a + (zb + zc)) a (6 + o) o (do_parts pb pc rest d) z Goal Goal (omega arith) (omega arith) (omega arith) (omega arith) (λ l e' y r. r)
          (runs_op g most (a + (zb + zc)) a (5 + o) o (do_parts pb pc rest d) z (record z { at = body }) Goal
          (tested g test' body k.behind z refl (ap (node_in (graph_nodes g)) (first ∙ stands.head) ∙ stands.test_is) refl)
          (runs_on g most (a + (zb + zc) + most) (a + most + (zc + 0)) a (5 + o) (6 + o) o (pb d) _ (record z { at = body }) _ Goal
          (runs_weaker g most (a + most + (zc + 0) + zb) (a + most + (zc + 0)) (5 + o) (suc (5 + o)) (a + (zb + zc) + most) (a + most + (zc + 0)) (5 + o) (6 + o) (pb d) (record z { at = body }) _ _
          (omega arith) (omega arith) (omega arith) (omega arith) (λ l e' y r. r)
          (hb cb le (omega (arith, top, t.grows B.counts)) (in_loop (laid_items step) back k start) (record z { at = body }) d (a + most + (zc + 0)) (5 + o)
          (since_at w scope s old d z body since').agrees since'.ready stands.post_stands refl))
          (λ l e' y r. by_leaving l e' y r.left (since_both w scope scope s old d e' (record z { at = body }) y (since_at w scope s old d z body since') r.since))))
