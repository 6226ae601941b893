-- Loops of a known number of turns: their test, step and turns against those of the meaning.
use Rattle.std.proofs.Common.{◌≡◌, ℕ, suc, ◌+◌, ◌%◌, ◌^◌, ◌<◌, ◌≤◌, Bool, true, false, Option, Some, None, List, [], ◌∷◌, length, refl, sym, ap, ◌∙◌, subst, arith, ◌⊎◌, inl, inr}
use Rattle.std.proofs.lemmas.List.{get_or-set_same}
use Rattle.std.specs.Prelude.{if◌then◌else◌, ⊤, nat_lt, slice_index_or, slice_set}
use Rattle.base_io.specs.declared.place.Place.{Place}
use Rattle.c_values.specs.Values.{is_set, from_test}
use Rattle.c_tree.specs.declared.leaving.Leaving.{Leaving}
use Rattle.c_tree.specs.declared.leaving.Leaving.TheVariants.{Next, Broke, Continued, Returned}
use Rattle.c_tree.specs.Runs.{State, Got, Done, Trapped, Stopped, Part, begin, pure, either, stop, ◌>>=◌, ◌>>◌}
use Rattle.c_tree.specs.Nodes.{goes_on, left_loop, next_turn}
use Rattle.flow_graph.specs.declared.graph.Graph.{Graph}
use Rattle.flow_graph.specs.declared.graph.Op.{Op}
use Rattle.flow_graph.specs.declared.graph.OpKind.TheVariants as kind
use Rattle.flow_graph.specs.declared.graph.Operand.TheVariants.{Const, Object}
use Rattle.flow_graph.specs.declared.graph.Item.TheVariants as item
use Rattle.flow_graph.specs.Operations.{words_of, with_word, operand_word}
use Rattle.flow_graph.specs.declared.nodes.Around.{Around}
use Rattle.flow_graph.specs.Nodes.{at_behind, graph_nodes, node_in, first_of, laid_items, in_loop}
use Rattle.flow_graph.specs.Flow as flow
use Rattle.flow_graph.specs.Flow.{Spot, operate, execute_at}
use Rattle.lowered_graphs.specs.Making.{Emit, Counts, Made, numbered, one, op_of, zero_operand, copy_into, go}
use Rattle.lowered_graphs.specs.Exprs.{home}
use Rattle.lowered_graphs.specs.Stmts.{loop_at}
use Rattle.lowered_graphs.specs.declared.positions.Position.{Position}
use Rattle.lowered_graphs.specs.declared.positions.Position.TheVariants.{Anywhere}
use Rattle.lowered_meaning.specs.Keeps.{Ground, Agrees, Ready}
use Rattle.lowered_meaning.specs.Leaves.{Callee, LeftAt, Since, StmtDone, StmtTracks, Upwards}
use Rattle.lowered_meaning.specs.Runs.{Runs}
use Rattle.lowered_meaning.specs.Tracks.{Stand}
use Rattle.lowered_meaning.proofs.RunLemmas.{runs_on, runs_done, runs_op, runs_weaker, shows_none}
use Rattle.lowered_meaning.proofs.KeepLemmas.{length_at}
use Rattle.lowered_meaning.proofs.SinceLemmas.{since_at, since_both, since_left}
use Rattle.lowered_meaning.proofs.StmtLemmas.{both, since_less}
use Rattle.lowered_meaning.proofs.TrackLemmas.{one_stands, goes, stands_left, stands_right, first_left}
use Rattle.lowered_meaning.proofs.LoopLemmas.{LoopStands, loop_stands, TurnEnds, turns_run, turn_parts, AtHead}
use Rattle.lowered_meaning.proofs.ElementSteps.{operated}
use Rattle.lowered_meaning.proofs.AssignStores.{Storable, Sets, size_of, with_words, since_set, sets_word, since_word}
use Rattle.lowered_meaning.proofs.CallsParameters.{Enters}
use Rattle.lowered_meaning.proofs.IfLemmas.{StmtLevel}
use Rattle.lowered_meaning.proofs.CountedParts.{Still, Takes, taken}

-- what holds of the answer and the state where a part is done
abbrev pub OnBoth : {A : Type 0} → (A → State → Type 0) → Got A → Type 0
OnBoth P (Done es v d) = P v d
OnBoth P (Trapped es t) = ⊤
OnBoth P (Stopped es) = ⊤

pub runs_both : {A : Type 0} (g : Graph) (most a b o u : ℕ) (got : Got A) (s : Spot) (rel : A → State → Spot → Type 0) (P : A → State → Type 0)
    → OnBoth P got → Runs g most a b o u got s rel → Runs g most a b o u got s (λ v d z. rel v d z × P v d)
runs_both g most a b o u (Done es v d) s rel P on r = record { ops = r.ops; spot = r.spot; does = r.does; related = (r.related, on); pays = r.pays }
runs_both g most a b o u (Trapped es t) s rel P on r = r
runs_both g most a b o u (Stopped es) s rel P on r = r

abbrev pub words_in : ℕ → State → List ℕ
words_in x d = slice_index_or d.store x []

abbrev pub word_in : ℕ → State → ℕ
word_in x d = slice_index_or (words_in x d) 0 0

-- the variable is at most the bound, or as it began
abbrev pub InRange : (x from to : ℕ) → State → Type 0
InRange x from to d = (word_in x d ≤ to) ⊎ (word_in x d ≡ from)

-- the turns of such a loop, from wherever its head is reached with the variable in its range
abbrev pub CountedTracks : Graph → Callee → (ℕ → Type 0) → (most x from to n : ℕ) → Position → Part Leaving → Emit (Unit {0}) → Type 0
CountedTracks g f scope most x from to n last turns emit = (c : Counts) → f.ground.base ≤ c.temp → (emit c).counts.temp ≤ f.ground.top → (k : Around) (s : Spot) (old : State) → Stand g k (emit c).items
    → (a o : ℕ) (e : State) (z : Spot) → InRange x from to e → z.at ≡ first_of (laid_items (emit c).items) k.behind → Since f.ground scope s old e z
    → Runs g most (a + suc n) a o o (turns e) z (StmtDone g f scope last k s old)

module _ (g : Graph) (f : Callee) (scope : ℕ → Type 0) (most x from to : ℕ) (can : Storable f.ground scope x) where
  abbrev w : Ground
  w = f.ground

  abbrev h : ℕ
  h = home w.setting x

  -- the loop as it is lowered
  abbrev pub counted_emit : Emit (Unit {0}) → ℕ → Place → Emit (Unit {0})
  counted_emit eb turns at = loop_at (numbered (op_of kind.Below None (Object h) (Const to) None at)) eb (one (op_of kind.Step (Some h) (Object h) zero_operand None at)) (Some turns) at

  pub no_counted : (n : ℕ) (last : Position) (emit : Emit (Unit {0})) → CountedTracks g f scope most x from to n last stop emit
  no_counted n last emit c le top k s old stand a o e z range at since = shows_none g most (a + suc n) o z

  there : (d : State) (s : Spot) → Agrees w scope d s → x < length d.store
  there d s agrees = length_at d.store x (omega (arith, can.one, agrees.shape x (can.homes x can.is).0))

  one_there : (d : State) (s : Spot) → Agrees w scope d s → 0 < length (words_in x d)
  one_there d s agrees = omega (arith, can.one, agrees.shape x (can.homes x can.is).0)

  -- the word that it took
  took : (d : State) (s : Spot) (v j : ℕ) → Agrees w scope d s → word_in x (taken x v d j) ≡ v
  took d s v j agrees = ap (λ ws. slice_index_or ws 0 0) (get_or-set_same d.store x (slice_set (words_in x d) 0 v) [] (there d s agrees))
      ∙ get_or-set_same (words_in x d) 0 v 0 (one_there d s agrees)

  pub counted_turns : (zc zb zs turns : ℕ) (last : Position) (pc : Part ℕ) (pb : Part Leaving) (ps : Part (Unit {0})) (rest : Part Leaving) (eb : Emit (Unit {0})) (at : Place)
      → suc (zc + (zb + zs)) ≤ most → to < 2 ^ 16 → Upwards eb
      → ((d : State) (z : Spot) → InRange x from to d → Still g most zc (from_test (nat_lt (word_in x d) to)) d z (pc d))
      → ((d : State) (z : Spot) → word_in x d < to → Takes g most zs x (word_in x d + 1) d z (ps d))
      → ((d : State) → OnBoth (λ l e. words_in x e ≡ words_in x d) (pb d))
      → StmtTracks g f scope most zb Anywhere pb eb
      → CountedTracks g f scope most x from to (zc + (zb + zs)) last rest (counted_emit eb turns at)
      → CountedTracks g f scope most x from to (zc + (zb + zs)) last (begin >> (turn_parts pc pb ps >>= next_turn rest)) (counted_emit eb turns at)
  counted_turns zc zb zs turns last pc pb ps rest eb at few small upb tests steps keeps hb hr c1 le top k s old stand a o e0 z range0 first since0 =
      turns_run g most (zc + (zb + zs)) a o 0 (turn_parts pc pb ps) rest (λ e y. AtHead w scope test.number s old e y × InRange x from to e) Goal z e0 few
      (λ j. turn (record e0 { left = j }) range0 (since_left w scope s old e0 z j since0))
      (λ e y r. hr c1 le top k s old stand a o e y r.1 (r.0.0 ∙ sym stands.head) r.0.1)
    where
      test : Op
      test = op_of kind.Below None (Object h) (Const to) None at c1.op

      cb : Counts
      cb = record { op = c1.op + 1; temp = c1.temp }

      B : Made (Unit {0})
      B = eb cb

      step : Op
      step = op_of kind.Step (Some h) (Object h) zero_operand None at B.counts.op

      back : Op
      back = go at (B.counts.op + 1)

      n : ℕ
      n = first_of (laid_items (item.Loop [] test B.items (item.One step ∷ []) back (Some turns) ∷ [])) k.behind

      stands : LoopStands g k [] test B.items (item.One step ∷ []) back n
      stands = loop_stands g k [] test B.items (item.One step ∷ []) back (Some turns) n stand refl

      on : ℕ
      on = first_of (laid_items (item.One step ∷ [])) back.number

      body : ℕ
      body = first_of (laid_items B.items) on

      Goal : Leaving → State → Spot → Type 0
      Goal = StmtDone g f scope last k s old

      ends : Option Leaving → State → Spot → Type 0
      ends = TurnEnds (λ e y. AtHead w scope test.number s old e y × InRange x from to e) Goal

      -- the step, and the way back
      stepped : (d : State) (y : Spot) (m j : ℕ) → word_in x d ≡ m → m < to → y.at ≡ on → Since w scope s old d y
          → Runs g most a (a + most) (suc (suc o)) o (pure {A = Option Leaving} None (taken x (m + 1) d j)) y ends
      stepped d y m j is lt at' since = runs_op g most a (a + most) (suc o) o (pure {A = Option Leaving} None (taken x (m + 1) d j)) y y1 ends
          (operated g around step y (flow.Went [] (record y { objects = with_word y.objects h 0 (m + 1) })) refl (one_stands g around step y stands.step_stands at') effect)
          (runs_weaker g most (a + most) (a + most + most) (suc o) o (a + most) (a + most) (suc o) o (pure {A = Option Leaving} None (taken x (m + 1) d j)) y1 ends ends
          (omega arith) (omega arith) (omega arith) (omega arith) (λ l e y' r. r)
          (runs_op g most (a + most) (a + most + most) o o (pure {A = Option Leaving} None (taken x (m + 1) d j)) y1 y2 ends (goes g back test.number y1 refl refl stands.back_is)
          (runs_done g most (a + most + most) o None (taken x (m + 1) d j) y2 ends (
            (
              refl,
              since_both w scope scope s old d (taken x (m + 1) d j) y y2 since
                  (since_left w scope y d (with_words d x (slice_set (words_in x d) 0 (m + 1))) y2 j (since_word g w scope most x can 0 (m + 1) test.number y d (omega (arith, lt, small)) since.agrees since.ready)),
            ),
            inl (omega (arith, took d y (m + 1) j since.agrees, lt)),
          ))))
        where
          around : Around
          around = in_loop (laid_items (item.One step ∷ [])) back k back.number

          y1 : Spot
          y1 = record y { objects = with_word y.objects h 0 (m + 1); at = back.number }

          y2 : Spot
          y2 = record y { objects = with_word y.objects h 0 (m + 1); at = test.number }

          effect : flow.effect step (operand_word y.objects step.a) (operand_word y.objects step.b) y ≡ flow.Went [] (record y { objects = with_word y.objects h 0 (m + 1) })
          effect = ap (λ v. flow.Went [] (record y { objects = with_word y.objects h 0 ((v + 1) % 2 ^ 16) })) (ap (λ ws. slice_index_or ws 0 0) (since.agrees.variables x can.is) ∙ is)
              ∙ ap (λ v. flow.Went [] (record y { objects = with_word y.objects h 0 v })) (omega (arith, lt, small))

      goes_up : (d : State) (y : Spot) → word_in x d < to → y.at ≡ on → Since w scope s old d y → Runs g most (a + most + zs) (a + most) (suc (suc (4 + o))) o ((ps >> pure {A = Option Leaving} None) d) y ends
      goes_up d y lt at' since = runs_on g most (a + most + zs) (a + most) (a + most) (suc (suc (4 + o))) (suc (suc (4 + o))) o (ps d) (λ u. pure {A = Option Leaving} None) y _ ends
          (steps d y lt (a + most) (suc (suc (4 + o)))) (λ u e y' r. took_it e y' r.0 r.1.0 r.1.1)
        where
          took_it : (e : State) (y' : Spot) → y' ≡ y → (j : ℕ) → e ≡ taken x (word_in x d + 1) d j → Runs g most (a + most) (a + most) (suc (suc (4 + o))) o (pure {A = Option Leaving} None e) y' ends
          took_it e y' ey j ee = rw (ey, ee) (runs_weaker g most a (a + most) (suc (suc o)) o (a + most) (a + most) (suc (suc (4 + o))) o (pure {A = Option Leaving} None (taken x (word_in x d + 1) d j)) y ends ends
              (omega arith) (omega arith) (omega arith) (omega arith) (λ l e' y'' r. r) (stepped d y (word_in x d) j refl lt at' since))

      leaves : (l : Leaving) (d : State) (y : Spot) → Goal l d y → Runs g most (a + most + zs) (a + most) (suc (suc (4 + o))) o (pure (Some l) d) y ends
      leaves l d y r = runs_weaker g most (a + most + zs) (a + most + zs) (suc (suc (4 + o))) (suc (suc (4 + o))) (a + most + zs) (a + most) (suc (suc (4 + o))) o (pure (Some l) d) y ends ends
          (omega arith) (omega arith) (omega arith) (omega arith) (λ l' e' y' r'. r') (runs_done g most (a + most + zs) (suc (suc (4 + o))) (Some l) d y ends r)

      left_by : (l : Leaving) (d : State) (y : Spot) → word_in x d < to → LeftAt g f Anywhere (in_loop (laid_items (item.One step ∷ [])) back k on) l y → Since w scope s old d y
          → Runs g most (a + most + zs) (a + most) (suc (suc (4 + o))) o (either (goes_on l) (ps >> pure None) (pure (Some (left_loop l))) d) y ends
      left_by Next d y lt left since = goes_up d y lt left since
      left_by Continued d y lt left since = goes_up d y lt left since
      left_by Broke d y lt left since = leaves Next d y (record { left = left; since = since })
      left_by (Returned v) d y lt left since = leaves (Returned v) d y (record { left = left; since = since })

      inner : Part (Option Leaving)
      inner = pb >>= (λ l. either (goes_on l) (ps >> pure None) (pure (Some (left_loop l))))

      bodied : (d : State) → word_in x d < to → Since w scope s old d z → Runs g most (a + (zb + zs) + most) (a + most) (5 + o) o (inner d) (record z { at = body }) ends
      bodied d lt since = runs_on g most (a + (zb + zs) + most) (a + most + zs) (a + most) (5 + o) (suc (suc (4 + o))) o (pb d) _ (record z { at = body }) _ ends
          (runs_both g most (a + (zb + zs) + most) (a + most + zs) (5 + o) (suc (suc (4 + o))) (pb d) (record z { at = body }) _ (λ l e. words_in x e ≡ words_in x d) (keeps d)
          (runs_weaker g most (a + most + zs + zb) (a + most + zs) (5 + o) (suc (5 + o)) (a + (zb + zs) + most) (a + most + zs) (5 + o) (suc (suc (4 + o))) (pb d) (record z { at = body }) _ _
          (omega arith) (omega arith) (omega arith) (omega arith) (λ l e y r. r)
          (hb cb le top (in_loop (laid_items (item.One step ∷ [])) back k on) (record z { at = body }) d (a + most + zs) (5 + o) (since_at w scope s old d z body since).agrees since.ready stands.post_stands refl)))
          (λ l e y r. left_by l e y (omega (arith, lt, ap (λ ws. slice_index_or ws 0 0) r.1)) r.0.left
          (since_both w scope scope s old d e (record z { at = body }) y (since_at w scope s old d z body since) r.0.since))

      below : (d : State) (b : Bool) → nat_lt (word_in x d) to ≡ b → Since w scope s old d z → operate g z ≡ flow.Went [] (record z { at = if b then body else k.behind })
      below d b q since = ap (λ y. execute_at g y z) (ap (node_in (graph_nodes g)) (first ∙ stands.head) ∙ stands.test_is)
          ∙ ap (λ v. flow.Went [] (record z { at = if nat_lt v to then body else k.behind })) (ap (λ ws. slice_index_or ws 0 0) (since.agrees.variables x can.is))
          ∙ ap (λ v. flow.Went [] (record z { at = if v then body else k.behind })) q

      by_test : (d : State) (b : Bool) → nat_lt (word_in x d) to ≡ b → Since w scope s old d z
          → Runs g most (a + (zb + zs)) (a + most) (suc (5 + o)) o (either (is_set (from_test b)) inner (pure (Some Next)) d) z ends
      by_test d true q since = runs_op g most (a + (zb + zs)) (a + most) (5 + o) o (inner d) z (record z { at = body }) ends (below d true q since) (bodied d (less (word_in x d) q) since)
        where
          less : (m : ℕ) → nat_lt m to ≡ true → m < to
          less m p = grind arith
      by_test d false q since = runs_op g most (a + (zb + zs)) (a + most) (5 + o) o (pure (Some Next) d) z (record z { at = k.behind }) ends (below d false q since)
          (runs_weaker g most (a + (zb + zs) + most) (a + (zb + zs) + most) (5 + o) (5 + o) (a + (zb + zs) + most) (a + most) (5 + o) o (pure (Some Next) d) (record z { at = k.behind }) ends ends
          (omega arith) (omega arith) (omega arith) (omega arith) (λ l' e' y' r'. r')
          (runs_done g most (a + (zb + zs) + most) (5 + o) (Some Next) d (record z { at = k.behind }) ends (record { left = refl; since = since_at w scope s old d z k.behind since })))

      turn : (d : State) → InRange x from to d → Since w scope s old d z → Runs g most (a + (zc + (zb + zs))) (a + most) (6 + o) o (turn_parts pc pb ps d) z ends
      turn d range since = runs_on g most (a + (zc + (zb + zs))) (a + (zb + zs)) (a + most) (6 + o) (suc (5 + o)) o (pc d) _ z _ ends
          (runs_weaker g most (a + (zb + zs) + zc) (a + (zb + zs)) (6 + o) (6 + o) (a + (zc + (zb + zs))) (a + (zb + zs)) (6 + o) (suc (5 + o)) (pc d) z _ _
          (omega arith) (omega arith) (omega arith) (omega arith) (λ v e y r. r) (tests d z range (a + (zb + zs)) (6 + o)))
          (λ v e y r. on_test v e y r.0 r.1 r.2.0 r.2.1)
        where
          on_test : (v : ℕ) (e : State) (y : Spot) → v ≡ from_test (nat_lt (word_in x d) to) → y ≡ z → (j : ℕ) → e ≡ record d { left = j }
              → Runs g most (a + (zb + zs)) (a + most) (suc (5 + o)) o (either (is_set v) inner (pure (Some Next)) e) y ends
          on_test v e y ev ey j ee = rw (ev, ey, ee) (by_test (record d { left = j }) (nat_lt (word_in x d) to) refl (since_left w scope s old d z j since))

one_word : (ws : List ℕ) (v : ℕ) → length ws ≡ 1 → slice_set ws 0 v ≡ v ∷ []
one_word [] v e = absurd (omega (arith, e))
one_word (u ∷ []) v e = refl
one_word (u ∷ u' ∷ ws) v e = absurd (omega (arith, e))

-- a scalar that comes into scope took a word
since_taken : (w : Ground) (scope scope' : ℕ → Type 0) (x v n : ℕ) (s : Spot) (d : State) → Enters w scope scope' x → size_of w x ≡ 1 → v < 2 ^ 16 → Agrees w scope d s → Ready w s.objects
    → Since w scope' s d (with_words d x (slice_set (words_in x d) 0 v)) (record s { objects = with_word s.objects (home w.setting x) 0 v; at = n })
since_taken w scope scope' x v n s d enters single fits agrees ready =
    subst (λ ws. Since w scope' s d (with_words d x ws) to) (sym (one_word (words_in x d) v (agrees.shape x enters.has ∙ single)))
    (since_set w scope scope' x (v ∷ []) s d to enters.differ enters.homes enters.has enters.home_is enters.less (omega (arith, single)) (sym single) agrees ready
    (subst (λ ws. Sets w x ws s to) (one_word (words_of s.objects (home w.setting x)) v (ready.variables x enters.has ∙ single))
    (sets_word w x 0 v n (words_of s.objects (home w.setting x)) s fits (omega (arith, ready.variables x enters.has, single)) refl agrees.fit)))
  where
    to : Spot
    to = record s { objects = with_word s.objects (home w.setting x) 0 v; at = n }

-- behind a first part that gives the variable its first word
pub counted_level : (g : Graph) (f : Callee) (scope scope' : ℕ → Type 0) (most x from to zf n : ℕ) (last : Position) (pf : Part (Unit {0})) (turns : Part Leaving) (emit : Emit (Unit {0})) (place : Place)
    → Enters f.ground scope scope' x → size_of f.ground x ≡ 1 → from < 2 ^ 16 → ((y : ℕ) → scope y → scope' y) → Upwards emit
    → ((d : State) (z : Spot) → Takes g most zf x from d z (pf d)) → CountedTracks g f scope' most x from to n last turns emit
    → StmtLevel g f scope most (suc (zf + n)) last (pf >> turns) (both (copy_into (home f.ground.setting x) (Const from) place) emit)
counted_level g f scope scope' most x from to zf n last pf turns emit place enters single small wider up takes h c le top k s d a o agrees ready stand at =
    runs_on g most (a + suc (zf + n)) (a + suc n) a (6 + o) (6 + o) (suc o) (pf d) (λ _. turns) s _ Goal
    (runs_weaker g most (a + suc n + zf) (a + suc n) (6 + o) (6 + o) (a + suc (zf + n)) (a + suc n) (6 + o) (6 + o) (pf d) s _ _ (omega arith) (omega arith) (omega arith) (omega arith) (λ u e z r. r) (takes d s (a + suc n) (6 + o)))
    (λ u e z r. copied e z r.0 r.1.0 r.1.1)
  where
    w : Ground
    w = f.ground

    copy : Op
    copy = op_of kind.Copy (Some (home w.setting x)) (Const from) zero_operand None place c.op

    c2 : Counts
    c2 = record { op = c.op + 1; temp = c.temp }

    m : Made (Unit {0})
    m = emit c2

    second : ℕ
    second = first_of (laid_items m.items) k.behind

    Goal : Leaving → State → Spot → Type 0
    Goal = StmtDone g f scope last k s d

    copied : (e : State) (z : Spot) → z ≡ s → (j : ℕ) → e ≡ taken x from d j → Runs g most (a + suc n) a (6 + o) (suc o) (turns e) z Goal
    copied e z ez j ee = rw (ez, ee) (write_then (taken x from d j) j refl)
      where
        write_then : (e' : State) (i : ℕ) → e' ≡ taken x from d i → Runs g most (a + suc n) a (6 + o) (suc o) (turns e') s Goal
        write_then e' i q = runs_weaker g most (a + suc n) a (suc (suc o)) (suc o) (a + suc n) a (6 + o) (suc o) (turns e') s Goal Goal (omega arith) (omega arith) (omega arith) (omega arith) (λ l e'' y r. r)
            (runs_op g most (a + suc n) a (suc o) (suc o) (turns e') s y1 Goal
            (operated g (at_behind k second) copy s (flow.Went [] (record s { objects = with_word s.objects (home w.setting x) 0 from })) refl
            (one_stands g (at_behind k second) copy s (stands_left g k (item.One copy ∷ []) m.items stand) (at ∙ first_left (item.One copy ∷ []) m.items k.behind)) refl)
            (rw q (runs_weaker g most (a + suc n) a (suc o) (suc o) (a + suc n + most) a (suc o) (suc o) (turns (taken x from d i)) y1 (StmtDone g f scope' last k s d) Goal (omega arith) (omega arith) (omega arith) (omega arith)
            (λ l e'' y r. record { left = r.left; since = since_less w scope scope' s d e'' y wider r.since })
            (h c2 le top k s d (stands_right g k (item.One copy ∷ []) m.items stand) a (suc o) (taken x from d i) y1 range refl (since_left w scope' s d (with_words d x (slice_set (words_in x d) 0 from)) y1 i since)))))
          where
            y1 : Spot
            y1 = record s { objects = with_word s.objects (home w.setting x) 0 from; at = second }

            since : Since w scope' s d (with_words d x (slice_set (words_in x d) 0 from)) y1
            since = since_taken w scope scope' x from second s d enters single small agrees ready

            range : InRange x from to (taken x from d i)
            range = inr (ap (λ ws. slice_index_or ws 0 0) (get_or-set_same d.store x (slice_set (words_in x d) 0 from) [] (length_at d.store x (omega (arith, agrees.shape x enters.has, single))))
                ∙ get_or-set_same (words_in x d) 0 from 0 (omega (arith, agrees.shape x enters.has, single)))
