-- Bodies that end without a `return`: the return that is implied.
use Rattle.std.proofs.Common.{◌≡◌, ◌≢◌, ℕ, suc, ◌+◌, ◌^◌, ◌<◌, ◌≤◌, true, false, Option, Some, None, List, [], ◌∷◌, ◌++◌, refl, sym, ◌∙◌, subst, arith}
use Rattle.std.specs.Prelude.{⊤}
use Rattle.base_io.specs.declared.place.Place.{Place}
use Rattle.c_values.specs.declared.ops.Ty.{Ty}
use Rattle.c_tree.specs.declared.leaving.Leaving.{Leaving}
use Rattle.c_tree.specs.declared.leaving.Leaving.TheVariants.{Next, Broke, Continued, Returned}
use Rattle.c_tree.specs.Runs.{State, Done, Part, pure, ◌>>=◌}
use Rattle.c_tree.specs.Nodes.{come_back, implied_return}
use Rattle.flow_graph.specs.declared.graph.Graph.{Graph}
use Rattle.flow_graph.specs.declared.graph.Op.{Op}
use Rattle.flow_graph.specs.declared.graph.OpKind.TheVariants as kind
use Rattle.flow_graph.specs.declared.graph.Item.{Item}
use Rattle.flow_graph.specs.declared.graph.Item.TheVariants as item
use Rattle.flow_graph.specs.declared.nodes.Around.{Around}
use Rattle.flow_graph.specs.Operations.{with_word}
use Rattle.flow_graph.specs.Nodes.{first_of, laid_items, around_body, entry, at_behind, node, graph_nodes, node_in}
use Rattle.flow_graph.specs.Flow as flow
use Rattle.flow_graph.specs.Flow.{Spot, operate}
use Rattle.lowered_graphs.specs.Making.{Counts, Emit, Made, op_of, plain, zero_operand, one, ◌>>◌}
use Rattle.lowered_graphs.specs.GraphOf.{return_zero}
use Rattle.lowered_graphs.specs.Exprs.{home, result_home}
use Rattle.lowered_graphs.specs.declared.positions.Position.TheVariants.{Body}
use Rattle.lowered_meaning.specs.Runs.{Runs}
use Rattle.lowered_meaning.specs.Tracks.{Stand}
use Rattle.lowered_meaning.specs.Keeps.{Ground, Fixed, IsHomeBy, Agrees, Ready}
use Rattle.lowered_meaning.specs.Leaves.{Callee, HasResult, EndsWith, Returning, Since, StmtDone, StmtTracks}
use Rattle.lowered_meaning.proofs.RunLemmas.{runs_on, runs_begin, runs_op, runs_done, runs_weaker}
use Rattle.lowered_meaning.proofs.TrackLemmas.{one_stands, stands_left, stands_right, first_left}
use Rattle.lowered_meaning.proofs.KeepLemmas.{words_other, word_same, with_word_shape, fits_write, ready_on}
use Rattle.lowered_meaning.proofs.SinceLemmas.{since_left, since_both}
use Rattle.lowered_meaning.proofs.ElementSteps.{operated}
use Rattle.lowered_meaning.proofs.AssignStores.{not_fixed}
use Rattle.lowered_meaning.proofs.Calls.{BodyRuns}
use Rattle.lowered_meaning.proofs.CallsBodies.{OnDone, runs_known}

-- an object of the function's own, of one word, that is no variable in scope
pub record IsApart (w : Ground) (scope : ℕ → Type 0) (h : ℕ) : Type 0 where
  pub own : w.owner h ≡ Some w.function
  pub before : h < w.base
  pub single : w.is_single h ≡ true
  pub apart : (x : ℕ) → scope x → home w.setting x ≢ h

-- such an object is written
pub since_write : (w : Ground) (scope : ℕ → Type 0) (h v n : ℕ) (s : Spot) (d : State) → IsApart w scope h → v < 2 ^ 16 → Agrees w scope d s → Ready w s.objects
    → Since w scope s d d (record s { at = n; objects = with_word s.objects h 0 v })
since_write w scope h v n s d is fits agrees ready = record {
  calls = refl;
  agrees = record {
    variables = λ x i. words_other s.objects (home w.setting x) h 0 v (is.apart x i) ∙ agrees.variables x i;
    shape = agrees.shape;
    input = agrees.input;
    fit = fits_write s.objects h 0 v fits agrees.fit;
  };
  ready = ready_on w s.objects (with_word s.objects h 0 v) (with_word_shape s.objects h 0 v) ready;
  kept = λ o fixed. words_other s.objects o h 0 v (λ e. not_fixed w h (subst (IsHomeBy w h) (sym is.own) (refl, is.before)) (subst (Fixed w true 0) e fixed));
  shape = with_word_shape s.objects h 0 v;
  store = λ x fixed. refl;
}

-- a body falls off its end, or is left by `return`
abbrev pub IsBodyLeft : Leaving → Type 0
IsBodyLeft Next = ⊤
IsBodyLeft Broke = ⊥
IsBodyLeft Continued = ⊥
IsBodyLeft (Returned v) = ⊤

module _ (g : Graph) (f : Callee) (scope : ℕ → Type 0) (most : ℕ) (at : Place) (main : f.is_main ≡ false) where
  abbrev w : Ground
  w = f.ground

  abbrev h : ℕ
  h = result_home w.setting w.function

  abbrev ret : ℕ → Op
  ret n = plain kind.Ret zero_operand at n

  -- the return that is implied, and the zero that a function with a result gives
  abbrev pub implied_items : Option Ty → ℕ → List Item
  implied_items None n = item.One (ret n) ∷ []
  implied_items (Some ty) n = item.One (op_of kind.Copy (Some h) zero_operand zero_operand None at n) ∷ item.One (ret (n + 1)) ∷ []

  -- as it is lowered
  pub implied_is : (r : Option Ty) (c : Counts) → ((return_zero (record { setting = w.setting; function = w.function; is_main = false }) r at >> one (plain kind.Ret zero_operand at)) c).items ≡ implied_items r c.op
  implied_is None c = refl
  implied_is (Some ty) c = refl

  returning : (n : ℕ) (z : Spot) → node_in (graph_nodes g) z.at ≡ Some (node (ret n) 0) → HasResult f f.result 0 z → Returning g f 0 z
  returning n z is has = record { node = node (ret n) 0; next = is; ends = subst (λ b. EndsWith f b 0 (node (ret n) 0) z) (sym main) (refl, refl, refl, has) }

  runs_implied : (r : Option Ty) (n a o : ℕ) (z : Spot) (d : State) → f.result ≡ r → (r ≢ None → IsApart w scope h) → Stand g around_body (implied_items r n) → z.at ≡ first_of (laid_items (implied_items r n)) 0
      → Agrees w scope d z → Ready w z.objects → Runs g most a a (6 + o) (suc o) (Done [] 0 d) z (λ v e y. Returning g f v y × Since w scope z d e y)
  runs_implied None n a o z d e is stand first agrees ready =
      runs_weaker g most a a (6 + o) (6 + o) a a (6 + o) (suc o) (Done [] 0 d) z goal goal (omega arith) (omega arith) (omega arith) (omega arith) (λ v e' y r. r)
      (runs_done g most a (6 + o) 0 d z goal (returning n z (one_stands g around_body (ret n) z stand first) (subst (λ r. HasResult f r 0 z) (sym e) refl), since))
    where
      goal : ℕ → State → Spot → Type 0
      goal v e' y = Returning g f v y × Since w scope z d e' y

      since : Since w scope z d d z
      since = record { calls = refl; agrees = agrees; ready = ready; kept = λ o' fixed. refl; shape = λ o'. refl; store = λ x fixed. refl }
  runs_implied (Some ty) n a o z d e is stand first agrees ready =
      runs_weaker g most a (a + most) (suc (5 + o)) (5 + o) a a (6 + o) (suc o) (Done [] 0 d) z goal goal (omega arith) (omega arith) (omega arith) (omega arith) (λ v e' y r. r)
      (runs_op g most a (a + most) (5 + o) (5 + o) (Done [] 0 d) z y goal
      (operated g (at_behind around_body next) copy z (flow.Went [] (record z { objects = with_word z.objects h 0 0 })) refl
      (one_stands g (at_behind around_body next) copy z (stands_left g around_body (item.One copy ∷ []) (item.One (ret (n + 1)) ∷ []) stand) (first ∙ first_left (item.One copy ∷ []) (item.One (ret (n + 1)) ∷ []) 0)) refl)
      (runs_done g most (a + most) (5 + o) 0 d y goal (
        returning (n + 1) y (one_stands g around_body (ret (n + 1)) y (stands_right g around_body (item.One copy ∷ []) (item.One (ret (n + 1)) ∷ []) stand) refl)
            (subst (λ r. HasResult f r 0 y) (sym e) (word_same z.objects h 0 (ready.singles h (is some_is).single))),
        since_write w scope h 0 next z d (is some_is) (omega arith) agrees ready,
      )))
    where
      some_is : Some ty ≢ None
      some_is q = cc

      copy : Op
      copy = op_of kind.Copy (Some h) zero_operand zero_operand None at n

      next : ℕ
      next = first_of (laid_items (item.One (ret (n + 1)) ∷ [])) 0

      y : Spot
      y = record z { at = next; objects = with_word z.objects h 0 0 }

      goal : ℕ → State → Spot → Type 0
      goal v e' y' = Returning g f v y' × Since w scope z d e' y'

  -- a body with the return that is implied: one step more
  pub body_falls : (n place : ℕ) (p : Part Leaving) (emit : Emit (Unit {0})) (c : Counts) → (f.result ≢ None → IsApart w scope h)
      → StmtTracks g f scope most n Body p emit → ((d : State) → OnDone IsBodyLeft (p d)) → w.base ≤ c.temp → (emit c).counts.temp ≤ w.top
      → Stand g around_body ((emit c).items ++ implied_items f.result (emit c).counts.op) → entry g place ≡ first_of (laid_items ((emit c).items ++ implied_items f.result (emit c).counts.op)) 0
      → BodyRuns g f scope most (n + 1) place (p >>= come_back)
  body_falls n place p emit c result tracks left le top stand first s d a o at' agrees ready =
      runs_on g most (a + (n + 1)) (a + 1) a o (suc o) (suc o) (p d) come_back s (λ l e z. StmtDone g f scope Body around s d l e z × IsBodyLeft l) goal
      (runs_known g most (a + (n + 1)) (a + 1) o (suc o) (p d) s (StmtDone g f scope Body around s d) IsBodyLeft (left d)
      (runs_weaker g most (a + 1 + n) (a + 1) o (suc o) (a + (n + 1)) (a + 1) o (suc o) (p d) s (StmtDone g f scope Body around s d) (StmtDone g f scope Body around s d) (omega arith) (omega arith) (omega arith) (omega arith) (λ l e z r. r)
      (tracks c le top around s d (a + 1) o agrees ready (stands_left g around_body m.items rest stand) (at' ∙ (first ∙ first_left m.items rest 0)))))
      (λ l e z r. by_leaving l e z r.0 r.1)
    where
      m : Made (Unit {0})
      m = emit c

      rest : List Item
      rest = implied_items f.result m.counts.op

      around : Around
      around = at_behind around_body (first_of (laid_items rest) 0)

      goal : ℕ → State → Spot → Type 0
      goal v e z = Returning g f v z × Since w scope s d e z

      by_leaving : (l : Leaving) (e : State) (z : Spot) → StmtDone g f scope Body around s d l e z → IsBodyLeft l → Runs g most (a + 1) a (suc o) (suc o) (come_back l e) z goal
      by_leaving Broke e z r is = absurd is
      by_leaving Continued e z r is = absurd is
      by_leaving (Returned v) e z r is = runs_weaker g most (a + 1) (a + 1) (suc o) (suc o) (a + 1) a (suc o) (suc o) (pure v e) z goal goal (omega arith) (omega arith) (omega arith) (omega arith) (λ v' e' z' r'. r')
          (runs_done g most (a + 1) (suc o) v e z goal (r.left, r.since))
      by_leaving Next e z r is = runs_weaker g most (suc a) a (suc o) (suc o) (a + 1) a (suc o) (suc o) (implied_return e) z goal goal (omega arith) (omega arith) (omega arith) (omega arith) (λ v' e' z' r'. r')
          (runs_begin g most a a (suc o) (suc o) e.left e (pure 0) z goal
          (λ j. runs_weaker g most a a (6 + o) (suc o) a a (6 + suc o) (suc o) (Done [] 0 (record e { left = j })) z (λ v' e' y. Returning g f v' y × Since w scope z (record e { left = j }) e' y) goal
          (omega arith) (omega arith) (omega arith) (omega arith)
          (λ v' e' y q. (q.0, since_both w scope scope s d (record e { left = j }) e' z y (since_left w scope s d e z j r.since) q.1))
          (runs_implied f.result m.counts.op a o z (record e { left = j }) refl result (stands_right g around_body m.items rest stand) r.left
          (record { variables = r.since.agrees.variables; shape = r.since.agrees.shape; input = r.since.agrees.input; fit = r.since.agrees.fit }) r.since.ready)))
