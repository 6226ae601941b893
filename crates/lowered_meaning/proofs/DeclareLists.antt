-- The values of a list go into the elements of an array.
use Rattle.std.proofs.Common.{◌≡◌, ℕ, suc, ◌+◌, ◌^◌, ◌<◌, ◌≤◌, false, Some, None, List, [], ◌∷◌, length, append_assoc, refl, sym, ap, ◌∙◌, subst, arith}
use Rattle.std.specs.Prelude.{slice_index_or, slice_set}
use Rattle.base_io.specs.declared.place.Place.{Place}
use Rattle.c_tree.specs.declared.tree.Expr.{Expr}
use Rattle.c_tree.specs.Runs.{State, Done, Part, write_place, ◌>>◌}
use Rattle.c_tree.specs.Nodes as meaning
use Rattle.c_tree.specs.Nodes.{open_array}
use Rattle.sound_programs.specs.Counted.{expr_nodes, exprs_nodes}
use Rattle.flow_graph.specs.declared.graph.Graph.{Graph}
use Rattle.flow_graph.specs.declared.graph.Op.{Op}
use Rattle.flow_graph.specs.declared.graph.OpKind.TheVariants as kind
use Rattle.flow_graph.specs.declared.graph.Operand.{Operand}
use Rattle.flow_graph.specs.declared.graph.Operand.TheVariants.{Const}
use Rattle.flow_graph.specs.Operations.{operand_word, with_word}
use Rattle.flow_graph.specs.declared.nodes.Around.{Around}
use Rattle.flow_graph.specs.Nodes.{at_behind, first_of, laid_items}
use Rattle.flow_graph.specs.Flow as flow
use Rattle.flow_graph.specs.Flow.{Spot}
use Rattle.lowered_graphs.specs.Making.{Counts, Made, made_on, store_into, op_of}
use Rattle.lowered_graphs.specs.Exprs.{home, array_use, lowered, calls, full}
use Rattle.lowered_graphs.specs.Stmts as stmts
use Rattle.lowered_graphs.specs.Stmts.{zero_array}
use Rattle.lowered_meaning.specs.Tracks.{Tracks}
use Rattle.lowered_meaning.specs.Keeps.{Ground, Ready, HasHomes, OwnsTemporaries, Agrees}
use Rattle.lowered_meaning.specs.Leaves.{Since}
use Rattle.lowered_meaning.proofs.TrackLemmas.{tracks_append, tracks_weaker, tracks_none}
use Rattle.lowered_meaning.proofs.SinceLemmas.{since_start, since_both, since_expr}
use Rattle.lowered_meaning.proofs.ElementSteps.{tracks_does, expr_then}
use Rattle.lowered_meaning.proofs.AssignStores.{Storable, size_of, with_words, since_word}
use Rattle.lowered_meaning.proofs.CallsArguments.{AllOk}
use Rattle.lowered_meaning.proofs.CallsParameters.{Enters}
use Rattle.lowered_meaning.proofs.DeclareScalars.{DoesOpened}
use Rattle.lowered_meaning.proofs.DeclareZeros.{lt_true}
use Rattle.lowered_meaning.proofs.DeclareArrays.{tracks_opened}

module _ (g : Graph) (w : Ground) (scope : ℕ → Type 0) (most x : ℕ) (can : Storable w scope x) (f : Expr → Part ℕ) where
  -- a word at a place of the array
  tracks_placed : (operand : Operand) (at : Place) (c : Counts) (k : Around) (s : Spot) (d : State) (v j a o : ℕ) → j < size_of w x
      → Agrees w scope d s → Ready w s.objects → operand_word s.objects operand ≡ v → v < 2 ^ 16
      → Tracks g most a (a + most) (suc o) o (write_place x j v d) k (store_into (array_use w.setting x) operand (Const j) at c).items s (λ u e z. Since w scope s d e z)
  tracks_placed operand at c k s d v j a o within agrees ready value fits =
      tracks_does g most a o k op (tt {0}) (with_words d x (slice_set (slice_index_or d.store x []) j v)) s to (λ u e z. Since w scope s d e z) refl
      (ap (λ u. flow.store (Some (array_use w.setting x)) u j s) value ∙ ap (λ b. flow.at_element b (flow.Went [] to)) (lt_true j (size_of w x) within)) refl
      (since_word g w scope most x can j v k.behind s d fits agrees ready)
    where
      op : Op
      op = op_of kind.Store None operand (Const j) (Some (array_use w.setting x)) at c.op

      to : Spot
      to = record s { objects = with_word s.objects (home w.setting x) j v }

  pub fill_grows : (es : List Expr) (j : ℕ) (at : Place) (c : Counts) → AllOk g w scope most f es → c.temp ≤ (stmts.fill w.setting (array_use w.setting x) j es at c).counts.temp
  fill_grows [] j at c ok = omega arith
  fill_grows (e ∷ es) j at c ok = omega (arith, (ok.0 false).grows c, fill_grows es (j + 1) at (store_into (array_use w.setting x) (full w.setting e c).value (Const j) at (full w.setting e c).counts).counts ok.1)

  pub tracks_fill : (es : List Expr) (j : ℕ) (at : Place) (c : Counts) (k : Around) (s : Spot) (d : State) (a o : ℕ) → AllOk g w scope most f es → j + length es ≤ size_of w x
      → w.base ≤ c.temp → (stmts.fill w.setting (array_use w.setting x) j es at c).counts.temp ≤ w.top → Agrees w scope d s → Ready w s.objects
      → Tracks g most (a + exprs_nodes es) a o o (meaning.fill f x j es d) k (stmts.fill w.setting (array_use w.setting x) j es at c).items s (λ u e z. Since w scope s d e z)
  tracks_fill [] j at c k s d a o ok few le top agrees ready =
      tracks_weaker g most a a o o (a + 0) a o o (Done [] (tt {0}) d) k [] s (λ u e z. Since w scope s d e z) (λ u e z. Since w scope s d e z) (omega arith) (omega arith) (omega arith) (omega arith) (λ u e z r. r)
      (tracks_none g most a o (tt {0}) d k s (λ u e z. Since w scope s d e z) (since_start w scope s d agrees ready))
  tracks_fill (e ∷ es) j at c k s d a o ok few le top agrees ready =
      tracks_weaker g most (a + exprs_nodes es + expr_nodes e) a o o (a + exprs_nodes (e ∷ es)) a o o (meaning.fill f x j (e ∷ es) d) k (stmts.fill w.setting (array_use w.setting x) j (e ∷ es) at c).items s goal goal
      (omega arith) (omega arith) (omega arith) (omega arith) (λ u e' z r. r)
      (subst (λ items. Tracks g most (a + exprs_nodes es + expr_nodes e) a o o (meaning.fill f x j (e ∷ es) d) k items s goal) (sym (append_assoc m.items placed.items rest.items))
      (expr_then g w scope most (expr_nodes e) (calls (lowered w.setting e)) false (f e) (full w.setting e) (λ v. write_place x j v >> meaning.fill f x (j + 1) es)
      (λ y c'. made_on (store_into (array_use w.setting x) y (Const j) at c') (λ _. stmts.fill w.setting (array_use w.setting x) (j + 1) es at)) c k s d (a + exprs_nodes es) a o o goal (ok.0 false) le (omega (arith, top, more)) agrees ready
      (λ v e' z cs ready1 fits r. let since : Since w scope s d e' z = since_expr w scope (calls (lowered w.setting e)) c.temp m.value s d d e' v s z (since_start w scope s d agrees ready) cs r in
      tracks_append g most (a + exprs_nodes es) (a + exprs_nodes es) a (suc o) o o (write_place x j v e') (λ _. meaning.fill f x (j + 1) es) k placed.items rest.items z (λ u e2 z2. Since w scope z e' e2 z2) goal
      (tracks_weaker g most (a + exprs_nodes es) (a + exprs_nodes es + most) (suc o) o (a + exprs_nodes es) (a + exprs_nodes es) (suc o) o (write_place x j v e') (at_behind k (first_of (laid_items rest.items) k.behind)) placed.items z
      (λ u e2 z2. Since w scope z e' e2 z2) (λ u e2 z2. Since w scope z e' e2 z2) (omega arith) (omega arith) (omega arith) (omega arith) (λ u e2 z2 q. q)
      (tracks_placed m.value at m.counts (at_behind k (first_of (laid_items rest.items) k.behind)) z e' v j (a + exprs_nodes es) o (omega (arith, few)) r.agrees ready1 r.value (subst (λ u. u < 2 ^ 16) r.value fits)))
      (λ u e2 z2 cs2 q. tracks_weaker g most (a + exprs_nodes es) a o o (a + exprs_nodes es) a o o (meaning.fill f x (j + 1) es e2) k rest.items z2 (λ u' e3 z3. Since w scope z2 e2 e3 z3) goal
      (omega arith) (omega arith) (omega arith) (omega arith) (λ u' e3 z3 p. since_both w scope scope s d e2 e3 z2 z3 (since_both w scope scope s d e' e2 z z2 since q) p)
      (tracks_fill es (j + 1) at placed.counts k z2 e2 a o ok.1 (omega (arith, few)) (omega (arith, le, (ok.0 false).grows c)) top q.agrees q.ready)))))
    where
      m : Made Operand
      m = full w.setting e c

      placed : Made (Unit {0})
      placed = store_into (array_use w.setting x) m.value (Const j) at m.counts

      rest : Made (Unit {0})
      rest = stmts.fill w.setting (array_use w.setting x) (j + 1) es at placed.counts

      more : m.counts.temp ≤ rest.counts.temp
      more = fill_grows es (j + 1) at placed.counts ok.1

      goal : Unit {0} → State → Spot → Type 0
      goal u e' z = Since w scope s d e' z

-- a list of values, behind the zeros
pub declare_list : (g : Graph) (w : Ground) (scope scope' : ℕ → Type 0) (most x : ℕ) (f : Expr → Part ℕ) (es : List Expr) (at : Place) → OwnsTemporaries w → HasHomes w scope → Enters w scope scope' x → Storable w scope' x → 1 ≤ most
    → AllOk g w scope' most f es → length es ≤ size_of w x
    → DoesOpened g w scope scope' most (1 + exprs_nodes es) (open_array x (size_of w x) >> meaning.fill f x 0 es)
    (λ c. made_on (zero_array (array_use w.setting x) at c) (λ _. stmts.fill w.setting (array_use w.setting x) 0 es at))
declare_list g w scope scope' most x f es at owns homes enters can some ok few c le top k s d a o agrees ready =
    tracks_append g most (a + (1 + exprs_nodes es)) (a + exprs_nodes es) a (6 + o) (4 + o) o (open_array x (size_of w x) d) (λ _. meaning.fill f x 0 es) k zeros.items rest.items s (λ u e z. Since w scope' s d e z) (λ u e z. Since w scope' s d e z)
    (tracks_weaker g most (a + exprs_nodes es + 1) (a + exprs_nodes es) (suc (suc (4 + o))) (4 + o) (a + (1 + exprs_nodes es)) (a + exprs_nodes es) (6 + o) (4 + o) (open_array x (size_of w x) d) (at_behind k (first_of (laid_items rest.items) k.behind)) zeros.items s
    (λ u e z. Since w scope' s d e z) (λ u e z. Since w scope' s d e z) (omega arith) (omega arith) (omega arith) (omega arith) (λ u e z r. r)
    (tracks_opened g w scope scope' most x at owns homes enters can.one can.small some c (at_behind k (first_of (laid_items rest.items) k.behind)) s d le (omega (arith, top, fill_grows g w scope' most x can f es 0 at zeros.counts ok)) agrees ready (a + exprs_nodes es) (4 + o)))
    (λ u e z cs r. tracks_weaker g most (a + exprs_nodes es) a (4 + o) (4 + o) (a + exprs_nodes es) a (4 + o) o (meaning.fill f x 0 es e) k rest.items z (λ u' e' z'. Since w scope' z e e' z') (λ u' e' z'. Since w scope' s d e' z')
    (omega arith) (omega arith) (omega arith) (omega arith) (λ u' e' z' q. since_both w scope' scope' s d e e' z z' r q)
    (tracks_fill g w scope' most x can f es 0 at zeros.counts k z e a (4 + o) ok (omega (arith, few)) (omega (arith, le)) top r.agrees r.ready))
  where
    zeros : Made (Unit {0})
    zeros = zero_array (array_use w.setting x) at c

    rest : Made (Unit {0})
    rest = stmts.fill w.setting (array_use w.setting x) 0 es at zeros.counts
