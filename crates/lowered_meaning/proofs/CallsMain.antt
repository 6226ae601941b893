-- The run of `main`: its body, the Finish that is implied, and the whole run of the program.
use Rattle.std.proofs.Common.{◌≡◌, ℕ, suc, ◌+◌, ◌≤◌, true, List, [], ◌∷◌, ◌++◌, refl, sym, ap, ◌∙◌, subst, arith, append-nil, mul-add}
use Rattle.base_io.specs.declared.place.Place.{Place}
use Rattle.plain_meaning.specs.Behaviour.{EndedWith}
use Rattle.c_tree.specs.declared.leaving.Leaving.{Leaving}
use Rattle.c_tree.specs.declared.leaving.Leaving.TheVariants.{Next, Broke, Continued, Returned}
use Rattle.c_tree.specs.Runs.{State, Got, Done, Trapped, Stopped, Part, pure, ◌>>=◌}
use Rattle.c_tree.specs.Meaning.{put_words}
use Rattle.c_tree.specs.Nodes.{come_back, implied_return}
use Rattle.flow_graph.specs.declared.graph.Graph.{Graph}
use Rattle.flow_graph.specs.declared.graph.Op.{Op}
use Rattle.flow_graph.specs.declared.graph.OpKind.TheVariants as kind
use Rattle.flow_graph.specs.declared.graph.Item.{Item}
use Rattle.flow_graph.specs.declared.graph.Item.TheVariants as item
use Rattle.flow_graph.specs.declared.nodes.Around.{Around}
use Rattle.flow_graph.specs.Operations.{operand_word, passes}
use Rattle.flow_graph.specs.Nodes.{first_of, laid_items, around_body, entry, at_behind, node}
use Rattle.flow_graph.specs.Flow as flow
use Rattle.flow_graph.specs.Flow.{Spot, operate, execute_at, effect_by, flow_from, told_over, telling}
use Rattle.flow_graph.proofs.FlowLemmas.{flow_on, flow_end}
use Rattle.lowered_graphs.specs.Making.{Counts, Emit, Made, plain, zero_operand}
use Rattle.lowered_graphs.specs.declared.positions.Position.TheVariants.{Body}
use Rattle.lowered_meaning.specs.Runs.{Runs}
use Rattle.lowered_meaning.specs.Tracks.{Stand}
use Rattle.lowered_meaning.specs.Keeps.{Ground, Agrees, Ready}
use Rattle.lowered_meaning.specs.Leaves.{Callee, EndsWith, Returning, Since, StmtDone, StmtTracks}
use Rattle.lowered_meaning.specs.Behaves.{WholeRun}
use Rattle.lowered_meaning.proofs.RunLemmas.{runs_on, runs_begin, runs_done, runs_weaker}
use Rattle.lowered_meaning.proofs.TrackLemmas.{one_stands, stands_left, stands_right, first_left}
use Rattle.lowered_meaning.proofs.SinceLemmas.{since_left, since_both}
use Rattle.lowered_meaning.proofs.Calls.{BodyRuns}
use Rattle.lowered_meaning.proofs.CallsBodies.{OnDone, runs_known}
use Rattle.lowered_meaning.proofs.CallsFalls.{IsBodyLeft}

module _ (g : Graph) (f : Callee) (scope : ℕ → Type 0) (most : ℕ) (main : f.is_main ≡ true) where
  abbrev w : Ground
  w = f.ground

  -- ---- the Finish that is implied

  module _ (at : Place) where
    abbrev finish : ℕ → Op
    finish n = plain kind.Finish zero_operand at n

    finishing : (n a o : ℕ) (z : Spot) (d : State) → Stand g around_body (item.One (finish n) ∷ []) → z.at ≡ first_of (laid_items (item.One (finish n) ∷ [])) 0 → Agrees w scope d z → Ready w z.objects
        → Runs g most a a (6 + o) (suc o) (Done [] 0 d) z (λ v e y. Returning g f v y × Since w scope z d e y)
    finishing n a o z d stand first agrees ready =
        runs_weaker g most a a (6 + o) (6 + o) a a (6 + o) (suc o) (Done [] 0 d) z goal goal (omega arith) (omega arith) (omega arith) (omega arith) (λ v e y r. r)
        (runs_done g most a (6 + o) 0 d z goal (
          record { node = node (finish n) 0; next = one_stands g around_body (finish n) z stand first; ends = subst (λ b. EndsWith f b 0 (node (finish n) 0) z) (sym main) (refl, refl) },
          record { calls = refl; agrees = agrees; ready = ready; kept = λ i fixed. refl; shape = λ i. refl; store = λ x fixed. refl },
        ))
      where
        goal : ℕ → State → Spot → Type 0
        goal v e y = Returning g f v y × Since w scope z d e y

    -- a body with it: one step more
    pub main_falls : (n place : ℕ) (p : Part Leaving) (emit : Emit (Unit {0})) (c : Counts)
        → StmtTracks g f scope most n Body p emit → ((d : State) → OnDone IsBodyLeft (p d)) → w.base ≤ c.temp → (emit c).counts.temp ≤ w.top
        → Stand g around_body ((emit c).items ++ item.One (finish (emit c).counts.op) ∷ []) → entry g place ≡ first_of (laid_items ((emit c).items ++ item.One (finish (emit c).counts.op) ∷ [])) 0
        → BodyRuns g f scope most (n + 1) place (p >>= come_back)
    main_falls n place p emit c tracks left le top stand first s d a o at' agrees ready =
        runs_on g most (a + (n + 1)) (a + 1) a o (suc o) (suc o) (p d) come_back s (λ l e z. StmtDone g f scope Body around s d l e z × IsBodyLeft l) goal
        (runs_known g most (a + (n + 1)) (a + 1) o (suc o) (p d) s (StmtDone g f scope Body around s d) IsBodyLeft (left d)
        (runs_weaker g most (a + 1 + n) (a + 1) o (suc o) (a + (n + 1)) (a + 1) o (suc o) (p d) s (StmtDone g f scope Body around s d) (StmtDone g f scope Body around s d) (omega arith) (omega arith) (omega arith) (omega arith) (λ l e z r. r)
        (tracks c le top around s d (a + 1) o agrees ready (stands_left g around_body m.items rest stand) (at' ∙ (first ∙ first_left m.items rest 0)))))
        (λ l e z r. by_leaving l e z r.0 r.1)
      where
        m : Made (Unit {0})
        m = emit c

        rest : List Item
        rest = item.One (finish m.counts.op) ∷ []

        around : Around
        around = at_behind around_body (first_of (laid_items rest) 0)

        goal : ℕ → State → Spot → Type 0
        goal v e z = Returning g f v z × Since w scope s d e z

        by_leaving : (l : Leaving) (e : State) (z : Spot) → StmtDone g f scope Body around s d l e z → IsBodyLeft l → Runs g most (a + 1) a (suc o) (suc o) (come_back l e) z goal
        by_leaving Broke e z r is = absurd is
        by_leaving Continued e z r is = absurd is
        by_leaving (Returned v) e z r is = runs_weaker g most (a + 1) (a + 1) (suc o) (suc o) (a + 1) a (suc o) (suc o) (pure v e) z goal goal (omega arith) (omega arith) (omega arith) (omega arith) (λ v' e' z' r'. r')
            (runs_done g most (a + 1) (suc o) v e z goal (r.left, r.since))
        by_leaving Next e z r is = runs_weaker g most (suc a) a (suc o) (suc o) (a + 1) a (suc o) (suc o) (implied_return e) z goal goal (omega arith) (omega arith) (omega arith) (omega arith) (λ v' e' z' r'. r')
            (runs_begin g most a a (suc o) (suc o) e.left e (pure 0) z goal
            (λ j. runs_weaker g most a a (6 + o) (suc o) a a (6 + suc o) (suc o) (Done [] 0 (record e { left = j })) z (λ v' e' y. Returning g f v' y × Since w scope z (record e { left = j }) e' y) goal
            (omega arith) (omega arith) (omega arith) (omega arith)
            (λ v' e' y q. (q.0, since_both w scope scope s d (record e { left = j }) e' z y (since_left w scope s d e z j r.since) q.1))
            (finishing m.counts.op a o z (record e { left = j }) (stands_right g around_body m.items rest stand) r.left
            (record { variables = r.since.agrees.variables; shape = r.since.agrees.shape; input = r.since.agrees.input; fit = r.since.agrees.fit }) r.since.ready)))

  -- ---- the whole run

  ended : (v : ℕ) (z : Spot) → Returning g f v z → operate g z ≡ flow.Ended v
  ended v z r =
      ap (λ m. execute_at g m z) r.next
      ∙ ap (λ k. flow.followed g r.node.next (passes r.node.op.kind a b) (effect_by k r.node.op a b z)) ends.0
      ∙ ap (λ u. flow.Ended u) ends.1
    where
      ends : EndsWith f true v r.node z
      ends = subst (λ k. EndsWith f k v r.node z) main r.ends

      a : ℕ
      a = operand_word z.objects r.node.op.a

      b : ℕ
      b = operand_word z.objects r.node.op.b

  -- from the body's run, where the body of n nodes has no more than `most`
  pub whole_run : (n place : ℕ) (p : Part ℕ) → n ≤ most → BodyRuns g f scope most n place p → (s : Spot) (d : State) → s.at ≡ entry g place → Agrees w scope d s → Ready w s.objects → WholeRun g most (p d) s
  whole_run n place p small runs s d at agrees ready = by_got (p d) (runs s d 0 0 at agrees ready)
    where
      rel : ℕ → State → Spot → Type 0
      rel v e z = Returning g f v z × Since w scope s d e z

      by_got : (got : Got ℕ) → Runs g most (0 + n) 0 0 1 got s rel → WholeRun g most got s
      by_got (Done es v e) r = (
        r.ops + 1,
        flow_on g r.ops 1 (r.ops + 1) s (put_words es) r.spot refl r.does
            ∙ (ap (telling (put_words es)) (flow_end g r.spot v (ended v r.spot r.related.0)) ∙ ap (λ l. told_over l (EndedWith v)) (append-nil (put_words es))),
        record { few = omega (arith, r.pays.few); many = omega (arith, r.pays.many, small, mul-add most r.ops 1) },
      )
      by_got (Trapped es t) r = record { ops = r.ops; does = r.does; pays = record { few = omega (arith, r.pays.few); many = omega (arith, r.pays.many, small) } }
      by_got (Stopped es) r = record { ops = r.ops; spot = r.spot; does = r.does; related = tt; pays = record { few = omega (arith, r.pays.few); many = omega (arith, r.pays.many, small) } }
