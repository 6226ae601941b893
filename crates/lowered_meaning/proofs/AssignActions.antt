-- Values and assignments.
use Rattle.std.proofs.Common.{◌≡◌, ℕ, suc, ◌+◌, ◌^◌, ◌<◌, ◌≤◌, Bool, false, Option, Some, None, [], ◌++◌, sym, ◌∙◌, subst, arith}
use Rattle.std.specs.Prelude.{⊤}
use Rattle.base_io.specs.declared.place.Place.{Place}
use Rattle.c_values.specs.declared.ops.Ty.{Ty}
use Rattle.c_tree.specs.declared.tree.Expr.{Expr}
use Rattle.c_tree.specs.declared.tree.Target.{Target}
use Rattle.c_tree.specs.Runs.{State, Done, Part, go_on, write, write_at, skip, ◌>>=◌, ◌>>◌}
use Rattle.c_tree.specs.Nodes.{assign_by}
use Rattle.sound_programs.specs.Counted.{expr_nodes, opt_nodes}
use Rattle.flow_graph.specs.declared.graph.Graph.{Graph}
use Rattle.flow_graph.specs.declared.graph.Operand.{Operand}
use Rattle.flow_graph.specs.Operations.{operand_word}
use Rattle.flow_graph.specs.declared.nodes.Around.{Around}
use Rattle.flow_graph.specs.Flow.{Spot}
use Rattle.lowered_graphs.specs.Making as making
use Rattle.lowered_graphs.specs.Making.{Counts, Emit, Made, made_on, copy_into, store_into}
use Rattle.lowered_graphs.specs.Exprs.{home, array_use, lowered, calls, full}
use Rattle.lowered_graphs.specs.Stmts.{assign}
use Rattle.lowered_meaning.specs.Tracks.{Tracks}
use Rattle.lowered_meaning.specs.Keeps.{Ground, Ready, Agrees}
use Rattle.lowered_meaning.specs.Leaves.{Since, ActTracks}
use Rattle.lowered_meaning.proofs.RunLemmas.{runs_weaker, behind_none}
use Rattle.lowered_meaning.proofs.TrackLemmas.{tracks_weaker, tracks_none}
use Rattle.lowered_meaning.proofs.KeepLemmas.{operand_stays, operand_fits}
use Rattle.lowered_meaning.proofs.SinceLemmas.{since_start, since_both, since_expr}
use Rattle.lowered_meaning.proofs.ShapeLemmas.{Tracked}
use Rattle.lowered_meaning.proofs.ElementSteps.{expr_then}
use Rattle.lowered_meaning.proofs.AssignStores.{Storable, tracks_copied, tracks_stored}

-- an action of n nodes, wherever it stands
abbrev pub DoesAct : Graph → Ground → (scope scope' : ℕ → Type 0) → (most n : ℕ) → Part (Unit {0}) → Emit (Unit {0}) → Type 0
DoesAct g w scope scope' most n p emit = (c : Counts) → w.base ≤ c.temp → (emit c).counts.temp ≤ w.top
    → (k : Around) (s : Spot) (d : State) (a o : ℕ) → Agrees w scope d s → Ready w s.objects
    → Tracks g most (a + n) a o o (p d) k (emit c).items s (λ u e z. Since w scope' s d e z)

pub acted : (g : Graph) (w : Ground) (scope scope' : ℕ → Type 0) (most n : ℕ) (p : Part (Unit {0})) (emit : Emit (Unit {0})) → DoesAct g w scope scope' most n p emit → ActTracks g w scope scope' most n p emit
acted g w scope scope' most n p emit h c le top k s d a o agrees ready stand at =
    runs_weaker g most (a + n) a o o (a + n) a o o (p d) s _ (λ v e z. (z.at ≡ k.behind) × Since w scope' s d e z) (omega arith) (omega arith) (omega arith) (omega arith) (λ v e z r. (r.0.at, r.1))
    (h c le top k s d a o agrees ready stand at)

-- two expressions, and then what stands behind them; the first operand keeps its value
pub two_then : {A B : Type 0} (g : Graph) (w : Ground) (scope : ℕ → Type 0) (most na nb : ℕ) (ca cb later later' : Bool) (p q : Part ℕ) (ea eb : Emit Operand)
    (rest : ℕ → ℕ → Part A) (f : Operand → Operand → Emit B) (c : Counts) (k : Around) (s : Spot) (d : State) (a b o u : ℕ) (rel : A → State → Spot → Type 0)
    → (later' ≡ false → cb ≡ false) → Tracked g w scope most na ca later' p ea → Tracked g w scope most nb cb later q eb
    → w.base ≤ c.temp → (eb (ea c).counts).counts.temp ≤ w.top → Agrees w scope d s → Ready w s.objects
    → ((v v' : ℕ) (e : State) (z : Spot) → Since w scope s d e z → operand_word z.objects (ea c).value ≡ v → v < 2 ^ 16 → operand_word z.objects (eb (ea c).counts).value ≡ v' → v' < 2 ^ 16
    → Tracks g most a b (suc (suc o)) u (rest v v' e) k (f (ea c).value (eb (ea c).counts).value (eb (ea c).counts).counts).items z rel)
    → Tracks g most (a + (na + nb)) b o u (go_on (p d) (λ v. q >>= rest v)) k ((ea c).items ++ ((eb (ea c).counts).items ++ (f (ea c).value (eb (ea c).counts).value (eb (ea c).counts).counts).items)) s rel
two_then {A} {B} g w scope most na nb ca cb later later' p q ea eb rest f c k s d a b o u rel fl ta tb le top agrees ready next =
    tracks_weaker g most (a + nb + na) b o u (a + (na + nb)) b o u (go_on (p d) (λ v. q >>= rest v)) k (m.items ++ (n.items ++ (f m.value n.value n.counts).items)) s rel rel
    (omega arith) (omega arith) (omega arith) (omega arith) (λ v e z r. r)
    (expr_then g w scope most na ca later' p ea (λ v. q >>= rest v) (λ x c'. made_on (eb c') (f x)) c k s d (a + nb) b o u rel ta le (omega (arith, top, tb.grows m.counts)) agrees ready
    (λ v e z cs ready1 fits r. expr_then g w scope most nb cb later q eb (rest v) (f m.value) m.counts k z e a b (suc o) u rel tb (omega (arith, le, ta.grows c)) top r.agrees ready1
    (λ v' e' z' cs' ready2 fits' r'. let stays : operand_word z'.objects m.value ≡ v = operand_stays w later' cb m.counts.temp m.value z.objects z'.objects fl (ta.stays c le (omega (arith, top, tb.grows m.counts))) r'.kept ∙ r.value in
    let since : Since w scope s d e z = since_expr w scope ca c.temp m.value s d d e v s z (since_start w scope s d agrees ready) cs r in
    next v v' e' z' (since_expr w scope cb m.counts.temp n.value s d e e' v' z z' since cs' r') stays
    (subst (λ x. x < 2 ^ 16) stays (operand_fits w later' m.counts.temp m.value z'.objects (ta.stays c le (omega (arith, top, tb.grows m.counts))) r'.agrees.fit))
    r'.value (subst (λ x. x < 2 ^ 16) r'.value fits'))))
  where
    m : Made Operand
    m = ea c

    n : Made Operand
    n = eb m.counts

-- an expression as a statement
pub value_act : (g : Graph) (w : Ground) (scope : ℕ → Type 0) (most n : ℕ) (called later : Bool) (p : Part ℕ) (emit : Emit Operand) → Tracked g w scope most n called later p emit
    → DoesAct g w scope scope most n (p >> skip) (λ c. made_on (emit c) (λ _. making.nothing))
value_act g w scope most n called later p emit t c le top k s d a o agrees ready =
    expr_then g w scope most n called later p emit (λ _. skip) (λ _. making.nothing) c k s d a a o o goal t le top agrees ready
    (λ v e z cs ready1 fits r. tracks_weaker g most a a (suc o) (suc o) a a (suc o) o (Done [] (tt {0}) e) k [] z goal goal (omega arith) (omega arith) (omega arith) (omega arith) (λ u e' z' q. q)
    (tracks_none g most a (suc o) (tt {0}) e k z goal (since_expr w scope called c.temp (emit c).value s d d e v s z (since_start w scope s d agrees ready) cs r)))
  where
    goal : Unit {0} → State → Spot → Type 0
    goal u e z = Since w scope s d e z

-- a scalar takes a value
pub scalar_assign : (g : Graph) (w : Ground) (scope : ℕ → Type 0) (most n x : ℕ) (called later : Bool) (p : Part ℕ) (emit : Emit Operand) (at : Place) → Storable w scope x → Tracked g w scope most n called later p emit
    → DoesAct g w scope scope most n (p >>= write x) (λ c. made_on (emit c) (λ a. copy_into (home w.setting x) a at))
scalar_assign g w scope most n x called later p emit at can t c le top k s d a o agrees ready =
    expr_then g w scope most n called later p emit (write x) (λ y. copy_into (home w.setting x) y at) c k s d a a o o goal t le top agrees ready
    (λ v e z cs ready1 fits r. tracks_weaker g most a (a + most) (suc o) o a a (suc o) o (write x v e) k (copy_into (home w.setting x) m.value at m.counts).items z _ goal
    (omega arith) (omega arith) (omega arith) (omega arith)
    (λ u e' z' q. since_both w scope scope s d e e' z z' (since_expr w scope called c.temp m.value s d d e v s z (since_start w scope s d agrees ready) cs r) q)
    (tracks_copied g w scope most x can m.value at m.counts k z e v a o r.agrees ready1 r.value (subst (λ u. u < 2 ^ 16) r.value fits)))
  where
    m : Made Operand
    m = emit c

    goal : Unit {0} → State → Spot → Type 0
    goal u e z = Since w scope s d e z

-- an element takes a value
pub element_assign : (g : Graph) (w : Ground) (scope : ℕ → Type 0) (most na nb x : ℕ) (ty : Ty) (ca cb later later' : Bool) (p q : Part ℕ) (ea eb : Emit Operand) (at : Place)
    → Storable w scope x → (later' ≡ false → cb ≡ false) → Tracked g w scope most na ca later' p ea → Tracked g w scope most nb cb later q eb
    → DoesAct g w scope scope most (na + nb) (p >>= (λ i. q >>= write_at x ty i)) (λ c. made_on (ea c) (λ i c'. made_on (eb c') (λ a. store_into (array_use w.setting x) a i at)))
element_assign g w scope most na nb x ty ca cb later later' p q ea eb at can fl ta tb c le top k s d a o agrees ready =
    two_then g w scope most na nb ca cb later later' p q ea eb (λ i. write_at x ty i) (λ i y. store_into (array_use w.setting x) y i at) c k s d a a o o goal fl ta tb le top agrees ready
    (λ i v e z since place fiti value fits. tracks_weaker g most a (a + most) (suc (suc o)) (suc o) a a (suc (suc o)) o (write_at x ty i v e) k (store_into (array_use w.setting x) (eb (ea c).counts).value (ea c).value at (eb (ea c).counts).counts).items z _ goal
    (omega arith) (omega arith) (omega arith) (omega arith) (λ u e' z' q'. since_both w scope scope s d e e' z z' since q')
    (tracks_stored g w scope most x can (eb (ea c).counts).value (ea c).value ty at (eb (ea c).counts).counts k z e v i a (suc o) since.agrees since.ready value fits place fiti))
  where
    goal : Unit {0} → State → Spot → Type 0
    goal u e z = Since w scope s d e z

-- ---- assignments as they are lowered

module _ (g : Graph) (w : Ground) (scope : ℕ → Type 0) (most : ℕ) (f : Expr → Part ℕ) where
  -- an expression does what it means, wherever it stands
  abbrev pub ExprOk : Expr → Type 0
  ExprOk e = (later : Bool) → Tracked g w scope most (expr_nodes e) (calls (lowered w.setting e)) later (f e) ((lowered w.setting e).emit later)

  abbrev pub OptOk : Option Expr → Type 0
  OptOk None = ⊤
  OptOk (Some e) = ExprOk e

  pub assign_act : (to : Target) (e : Expr) → Storable w scope to.variable → OptOk to.index → ExprOk e
      → DoesAct g w scope scope most (opt_nodes to.index + expr_nodes e) (assign_by f to.variable to.index e) (assign w.setting to e)
  assign_act to e can index value = by_index to.index index
    where
      by_index : (index : Option Expr) → OptOk index
          → DoesAct g w scope scope most (opt_nodes index + expr_nodes e) (assign_by f to.variable index e) (assign w.setting (record { variable = to.variable; index = index; place = to.place }) e)
      by_index None ok = λ c le top k s d a o agrees ready.
          subst (λ r. Tracks g most (a + (0 + expr_nodes e)) a o o r k (assign w.setting (record { variable = to.variable; index = None; place = to.place }) e c).items s (λ u e' z. Since w scope s d e' z))
          (sym (behind_none ((f e >>= write to.variable) d)))
          (tracks_weaker g most (a + expr_nodes e) a o o (a + (0 + expr_nodes e)) a o o ((f e >>= write to.variable) d) k
          (assign w.setting (record { variable = to.variable; index = None; place = to.place }) e c).items s (λ u e' z. Since w scope s d e' z) (λ u e' z. Since w scope s d e' z)
          (omega arith) (omega arith) (omega arith) (omega arith) (λ u e' z r. r)
          (scalar_assign g w scope most (expr_nodes e) to.variable (calls (lowered w.setting e)) false (f e) (full w.setting e) to.place can (value false) c le top k s d a o agrees ready))
      by_index (Some i) ok =
          element_assign g w scope most (expr_nodes i) (expr_nodes e) to.variable i.ty (calls (lowered w.setting i)) (calls (lowered w.setting e)) false (calls (lowered w.setting e)) (f i) (f e)
          ((lowered w.setting i).emit (calls (lowered w.setting e))) (full w.setting e) to.place can (λ x. x) (ok (calls (lowered w.setting e))) (value false)
