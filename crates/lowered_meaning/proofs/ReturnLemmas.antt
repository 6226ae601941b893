-- Every `return`: of `main` or of another function, with a value or without, last of a body or anywhere in it.
use Rattle.std.proofs.Common.{◌≡◌, ℕ, suc, ◌+◌, ◌^◌, ◌<◌, ◌≤◌, Bool, true, false, Option, Some, None, List, [], ◌∷◌, refl, sym, ap, ◌∙◌, subst, arith}
use Rattle.std.specs.Prelude.{if◌then◌else◌}
use Rattle.base_io.specs.declared.place.Place.{Place}
use Rattle.c_values.specs.declared.ops.Ty.{Ty}
use Rattle.c_tree.specs.declared.tree.Expr.{Expr}
use Rattle.c_tree.specs.declared.leaving.Leaving.{Leaving}
use Rattle.c_tree.specs.declared.leaving.Leaving.TheVariants.{Returned}
use Rattle.c_tree.specs.Runs.{State, Part, pure, ◌>>=◌}
use Rattle.c_tree.specs.Nodes.{value_or}
use Rattle.sound_programs.specs.Counted.{expr_nodes, opt_nodes}
use Rattle.flow_graph.specs.declared.graph.Graph.{Graph}
use Rattle.flow_graph.specs.declared.graph.Op.{Op}
use Rattle.flow_graph.specs.declared.graph.OpKind.TheVariants as kind
use Rattle.flow_graph.specs.declared.graph.Operand.{Operand}
use Rattle.flow_graph.specs.declared.graph.Item.{Item}
use Rattle.flow_graph.specs.declared.graph.Item.TheVariants as item
use Rattle.flow_graph.specs.declared.graph.LeaveTo.TheVariants.{Back}
use Rattle.flow_graph.specs.Operations.{with_word, operand_word}
use Rattle.flow_graph.specs.declared.nodes.Around.{Around}
use Rattle.flow_graph.specs.Nodes.{at_behind, node, graph_nodes, node_in, first_of, laid_items}
use Rattle.flow_graph.specs.Flow as flow
use Rattle.flow_graph.specs.Flow.{Spot}
use Rattle.lowered_graphs.specs.Making.{Counts, Made, op_of, plain, zero_operand}
use Rattle.lowered_graphs.specs.Exprs.{full, lowered, calls, result_home}
use Rattle.lowered_graphs.specs.Stmts.{Within, return_op, return_main, return_from, return_at}
use Rattle.lowered_graphs.specs.declared.positions.Position.{Position}
use Rattle.lowered_graphs.specs.declared.positions.Position.TheVariants.{Anywhere, LastOfGroup, Body, LastOfBody}
use Rattle.lowered_meaning.specs.Keeps.{Ground, Agrees, Ready}
use Rattle.lowered_meaning.specs.Leaves.{Callee, HasResult, EndsWith, Returning, Since, StmtDone}
use Rattle.lowered_meaning.specs.Runs.{Runs}
use Rattle.lowered_meaning.specs.Tracks.{Stand}
use Rattle.lowered_meaning.proofs.RunLemmas.{runs_on, runs_done, runs_op, runs_weaker}
use Rattle.lowered_meaning.proofs.TrackLemmas.{one_stands, stands_left, stands_right, first_left}
use Rattle.lowered_meaning.proofs.KeepLemmas.{word_same, operand_fits, ready_on}
use Rattle.lowered_meaning.proofs.SinceLemmas.{since_start, since_both, since_expr}
use Rattle.lowered_meaning.proofs.ShapeLemmas.{Tracked}
use Rattle.lowered_meaning.proofs.ElementSteps.{operated}
use Rattle.lowered_meaning.proofs.StmtLemmas.{leave_stands}
use Rattle.lowered_meaning.proofs.AssignActions.{OptOk}
use Rattle.lowered_meaning.proofs.CallsFalls.{IsApart, since_write}
use Rattle.lowered_meaning.proofs.IfLemmas.{StmtLevel}

-- the function that is lowered, as the lowering names it
abbrev pub within : Callee → Within
within f = record { setting = f.ground.setting; function = f.ground.function; is_main = f.is_main }

-- what a `return` owes: a function other than `main` that gives a value has a result, whose object is its own; one that gives none has no result
abbrev pub ReturnFits : Callee → (ℕ → Type 0) → Option Expr → Type 0
ReturnFits f scope None = f.is_main ≡ false → f.result ≡ None
ReturnFits f scope (Some e) = f.is_main ≡ false → ((ty : Ty) × (f.result ≡ Some ty)) × IsApart f.ground scope (result_home f.ground.setting f.ground.function)

-- a `return` is one operation, wherever it stands
pub return_stands : (g : Graph) (k : Around) (last : Position) (op : ℕ → Op) (c : Counts) (s : Spot) → Stand g k (return_op last op c).items
    → s.at ≡ first_of (laid_items (return_op last op c).items) k.behind → node_in (graph_nodes g) s.at ≡ Some (node (op c.op) k.behind)
return_stands g k Anywhere op c s stand at = leave_stands g k (op c.op) Back s stand at
return_stands g k LastOfGroup op c s stand at = leave_stands g k (op c.op) Back s stand at
return_stands g k Body op c s stand at = leave_stands g k (op c.op) Back s stand at
return_stands g k LastOfBody op c s stand at = one_stands g k (op c.op) s stand at

return_temp : (last : Position) (op : ℕ → Op) (c : Counts) → (return_op last op c).counts.temp ≡ c.temp
return_temp Anywhere op c = refl
return_temp LastOfGroup op c = refl
return_temp Body op c = refl
return_temp LastOfBody op c = refl

module _ (g : Graph) (f : Callee) (scope : ℕ → Type 0) (most : ℕ) where
  abbrev w : Ground
  w = f.ground

  abbrev h : ℕ
  h = result_home w.setting w.function

  -- the graph stands before the operation
  stands_at : (v : ℕ) (last : Position) (k : Around) (s : Spot) (d e : State) (z : Spot) (a o : ℕ) → Returning g f v z → Since w scope s d e z
      → Runs g most a a (suc o) (suc o) (pure (Returned v) e) z (StmtDone g f scope last k s d)
  stands_at v last k s d e z a o r since = runs_done g most a (suc o) (Returned v) e z (StmtDone g f scope last k s d) (record { left = r; since = since })

  finish_at : (v n m : ℕ) (x : Operand) (op : Op) (z : Spot) → f.is_main ≡ true → op.kind ≡ kind.Finish → op.a ≡ x → node_in (graph_nodes g) z.at ≡ Some (node op n) → operand_word z.objects x ≡ v → Returning g f v z
  finish_at v n m x op z main is ax e value = record { node = node op n; next = e; ends = subst (λ b. EndsWith f b v (node op n) z) (sym main) (is, ap (operand_word z.objects) ax ∙ value) }

  ret_at : (v n m : ℕ) (z : Spot) (at : Place) → f.is_main ≡ false → node_in (graph_nodes g) z.at ≡ Some (node (plain kind.Ret zero_operand at m) n) → HasResult f f.result v z → Returning g f v z
  ret_at v n m z at main e has = record { node = node (plain kind.Ret zero_operand at m) n; next = e; ends = subst (λ b. EndsWith f b v (node (plain kind.Ret zero_operand at m) n) z) (sym main) (refl, refl, refl, has) }

  finish_zero : (last : Position) (at : Place) → f.is_main ≡ true → StmtLevel g f scope most 0 last (pure 0 >>= (λ v. pure (Returned v))) (return_main (within f) None last at)
  finish_zero last at main c le top k s d a o agrees ready stand first =
      runs_weaker g most a a (suc o) (suc o) (a + 0) a (6 + o) (suc o) (pure (Returned 0) d) s Goal Goal (omega arith) (omega arith) (omega arith) (omega arith) (λ l e z r. r)
      (stands_at 0 last k s d d s a o
      (finish_at 0 k.behind c.op zero_operand (plain kind.Finish zero_operand at c.op) s main refl refl (return_stands g k last (plain kind.Finish zero_operand at) c s stand first) refl)
      (since_start w scope s d agrees ready))
    where
      Goal : Leaving → State → Spot → Type 0
      Goal = StmtDone g f scope last k s d

  return_none : (last : Position) (at : Place) → f.is_main ≡ false → f.result ≡ None → StmtLevel g f scope most 0 last (pure 0 >>= (λ v. pure (Returned v))) (return_from (within f) None last at)
  return_none last at main none c le top k s d a o agrees ready stand first =
      runs_weaker g most a a (suc o) (suc o) (a + 0) a (6 + o) (suc o) (pure (Returned 0) d) s Goal Goal (omega arith) (omega arith) (omega arith) (omega arith) (λ l e z r. r)
      (stands_at 0 last k s d d s a o
      (ret_at 0 k.behind c.op s at main (return_stands g k last (plain kind.Ret zero_operand at) c s stand first) (subst (λ r. HasResult f r 0 s) (sym none) refl))
      (since_start w scope s d agrees ready))
    where
      Goal : Leaving → State → Spot → Type 0
      Goal = StmtDone g f scope last k s d

  module _ (zc : ℕ) (called : Bool) (p : Part ℕ) (e : Expr) (t : Tracked g f.ground scope most zc called false p (full f.ground.setting e)) where
    finish_value : (last : Position) (at : Place) → f.is_main ≡ true → StmtLevel g f scope most zc last (p >>= (λ v. pure (Returned v))) (return_main (within f) (Some e) last at)
    finish_value last at main c le top k s d a o agrees ready stand first =
        runs_weaker g most (a + zc) a o (suc o) (a + zc) a (6 + o) (suc o) ((p >>= (λ v. pure (Returned v))) d) s Goal Goal (omega arith) (omega arith) (omega arith) (omega arith) (λ l e' z r. r)
        (runs_on g most (a + zc) a a o (suc o) (suc o) (p d) (λ v. pure (Returned v)) s _ Goal
        (t.tracks c le (subst (λ n. n ≤ w.top) (return_temp last op m.counts) top) (at_behind k next) s d a o agrees ready (stands_left g k m.items R.items stand) (first ∙ first_left m.items R.items k.behind))
        (λ v e' z r. stands_at v last k s d e' z a o
        (finish_at v k.behind m.counts.op m.value (op m.counts.op) z main refl refl (return_stands g k last op m.counts z (stands_right g k m.items R.items stand) r.0.at) r.1.value)
        (since_expr w scope called c.temp m.value s d d e' v s z (since_start w scope s d agrees ready) r.0.calls r.1)))
      where
        m : Made Operand
        m = full w.setting e c

        op : ℕ → Op
        op = plain kind.Finish m.value at

        R : Made (Unit {0})
        R = return_op last op m.counts

        next : ℕ
        next = first_of (laid_items R.items) k.behind

        Goal : Leaving → State → Spot → Type 0
        Goal = StmtDone g f scope last k s d

    return_value : (last : Position) (at : Place) (ty : Ty) → f.is_main ≡ false → f.result ≡ Some ty → IsApart w scope h
        → StmtLevel g f scope most zc last (p >>= (λ v. pure (Returned v))) (return_from (within f) (Some e) last at)
    return_value last at ty main some apart c le top k s d a o agrees ready stand first =
        runs_weaker g most (a + zc) a (suc o) (suc o) (a + zc) a (6 + o) (suc o) ((p >>= (λ v. pure (Returned v))) d) s Goal Goal (omega arith) (omega arith) (omega arith) (omega arith) (λ l e' z r. r)
        (runs_on g most (a + zc) a a (suc o) (suc (suc o)) (suc o) (p d) (λ v. pure (Returned v)) s _ Goal
        (t.tracks c le top1 (at_behind k first_rest) s d a (suc o) agrees ready (stands_left g k m.items rest stand) (first ∙ first_left m.items rest k.behind))
        (λ v e' z r. copied v e' z r.0.at (stands_right g k m.items rest stand) r.1.value r.1.agrees
        (ready_on w s.objects z.objects r.1.shape ready)
        (subst (λ x. x < 2 ^ 16) r.1.value (operand_fits w false m.counts.temp m.value z.objects (t.stays c le top1) r.1.agrees.fit))
        (since_expr w scope called c.temp m.value s d d e' v s z (since_start w scope s d agrees ready) r.0.calls r.1)))
      where
        m : Made Operand
        m = full w.setting e c

        copy : Op
        copy = op_of kind.Copy (Some h) m.value zero_operand None at m.counts.op

        c2 : Counts
        c2 = record { op = m.counts.op + 1; temp = m.counts.temp }

        op : ℕ → Op
        op = plain kind.Ret zero_operand at

        R : Made (Unit {0})
        R = return_op last op c2

        rest : List Item
        rest = item.One copy ∷ R.items

        next : ℕ
        next = first_of (laid_items R.items) k.behind

        first_rest : ℕ
        first_rest = first_of (laid_items rest) k.behind

        top1 : m.counts.temp ≤ w.top
        top1 = subst (λ n. n ≤ w.top) (return_temp last op c2) top

        Goal : Leaving → State → Spot → Type 0
        Goal = StmtDone g f scope last k s d

        copied : (v : ℕ) (e' : State) (z : Spot) → z.at ≡ first_rest → Stand g k rest → operand_word z.objects m.value ≡ v → Agrees w scope e' z → Ready w z.objects → v < 2 ^ 16 → Since w scope s d e' z
            → Runs g most a a (suc (suc o)) (suc o) (pure (Returned v) e') z Goal
        copied v e' z at' stands value agrees' ready' fits since =
            runs_weaker g most a (a + most) (suc (suc o)) (suc o) a a (suc (suc o)) (suc o) (pure (Returned v) e') z Goal Goal (omega arith) (omega arith) (omega arith) (omega arith) (λ l e'' z' r. r)
            (runs_op g most a (a + most) (suc o) (suc o) (pure (Returned v) e') z y Goal
            (operated g (at_behind k next) copy z (flow.Went [] (record z { objects = with_word z.objects h 0 v })) refl
            (one_stands g (at_behind k next) copy z (stands_left g k (item.One copy ∷ []) R.items stands) (at' ∙ first_left (item.One copy ∷ []) R.items k.behind))
            (ap (λ x. flow.Went [] (record z { objects = with_word z.objects h 0 x })) value))
            (stands_at v last k s d e' y (a + most) o
            (ret_at v k.behind c2.op y at main (return_stands g k last op c2 y (stands_right g k (item.One copy ∷ []) R.items stands) refl)
            (subst (λ r. HasResult f r v y) (sym some) (word_same z.objects h v (ready'.singles h apart.single))))
            (since_both w scope scope s d e' e' z y since (since_write w scope h v next z e' apart fits agrees' ready'))))
          where
            y : Spot
            y = record z { at = next; objects = with_word z.objects h 0 v }

  -- a `return` behind its step
  pub return_level : (F : Expr → Part ℕ) (e : Option Expr) (last : Position) (at : Place) → ReturnFits f scope e → OptOk g f.ground scope most F e
      → StmtLevel g f scope most (opt_nodes e) last (value_or F 0 e >>= (λ v. pure (Returned v))) (return_at (within f) e last at)
  return_level F e last at fits ok = by_main f.is_main refl e fits ok
    where
      by_main : (b : Bool) → f.is_main ≡ b → (x : Option Expr) → ReturnFits f scope x → OptOk g w scope most F x
          → StmtLevel g f scope most (opt_nodes x) last (value_or F 0 x >>= (λ v. pure (Returned v))) (if b then return_main (within f) x last at else return_from (within f) x last at)
      by_main true main None fits ok = finish_zero last at main
      by_main false main None fits ok = return_none last at main (fits main)
      by_main true main (Some x) fits ok = finish_value (expr_nodes x) (calls (lowered w.setting x)) (F x) x (ok false) last at main
      by_main false main (Some x) fits ok = return_value (expr_nodes x) (calls (lowered w.setting x)) (F x) x (ok false) last at (fits main).0.0 main (fits main).0.1 (fits main).1
