-- Scalars that are declared, and declarators one after another.
use Rattle.std.proofs.Common.{◌≡◌, ℕ, suc, ◌+◌, ◌^◌, ◌<◌, ◌≤◌, Bool, [], ◌++◌, refl, subst, arith}
use Rattle.base_io.specs.declared.place.Place.{Place}
use Rattle.c_tree.specs.Runs.{State, Done, Part, begin, skip, write, ◌>>=◌, ◌>>◌}
use Rattle.flow_graph.specs.declared.graph.Graph.{Graph}
use Rattle.flow_graph.specs.declared.graph.Operand.{Operand}
use Rattle.flow_graph.specs.declared.nodes.Around.{Around}
use Rattle.flow_graph.specs.Operations.{with_word}
use Rattle.flow_graph.specs.Nodes.{at_behind, first_of, laid_items}
use Rattle.flow_graph.specs.Flow.{Spot}
use Rattle.lowered_graphs.specs.Making as making
use Rattle.lowered_graphs.specs.Making.{Counts, Emit, Made, made_on, zero_operand, copy_into}
use Rattle.lowered_graphs.specs.Exprs.{home}
use Rattle.lowered_meaning.specs.Tracks.{Tracks, Behind}
use Rattle.lowered_meaning.specs.Keeps.{Ground, Ready, Agrees}
use Rattle.lowered_meaning.specs.Leaves.{Since}
use Rattle.lowered_meaning.proofs.RunLemmas.{runs_begin, runs_weaker}
use Rattle.lowered_meaning.proofs.TrackLemmas.{tracks_append, tracks_weaker, tracks_none}
use Rattle.lowered_meaning.proofs.SinceLemmas.{since_start, since_both, since_expr}
use Rattle.lowered_meaning.proofs.ShapeLemmas.{Tracked}
use Rattle.lowered_meaning.proofs.ElementSteps.{expr_then}
use Rattle.lowered_meaning.proofs.AssignStores.{size_of}
use Rattle.lowered_meaning.proofs.AssignActions.{DoesAct}
use Rattle.lowered_meaning.proofs.CallsParameters.{Enters, tracks_taken}

-- a declarator behind its step, which pays for 6 operations
abbrev pub DoesOpened : Graph → Ground → (scope scope' : ℕ → Type 0) → (most n : ℕ) → Part (Unit {0}) → Emit (Unit {0}) → Type 0
DoesOpened g w scope scope' most n p emit = (c : Counts) → w.base ≤ c.temp → (emit c).counts.temp ≤ w.top
    → (k : Around) (s : Spot) (d : State) (a o : ℕ) → Agrees w scope d s → Ready w s.objects
    → Tracks g most (a + n) a (6 + o) o (p d) k (emit c).items s (λ u e z. Since w scope' s d e z)

-- a scalar without a value is zero
pub declare_zero : (g : Graph) (w : Ground) (scope scope' : ℕ → Type 0) (most x : ℕ) (at : Place) → Enters w scope scope' x → size_of w x ≡ 1
    → DoesOpened g w scope scope' most 0 (write x 0) (copy_into (home w.setting x) zero_operand at)
declare_zero g w scope scope' most x at enters one c le top k s d a o agrees ready =
    tracks_weaker g most a (a + most) (suc (5 + o)) (5 + o) (a + 0) a (6 + o) o (write x 0 d) k (copy_into (home w.setting x) zero_operand at c).items s
    (λ u e z. Since w scope' s d e z × (z.objects ≡ with_word s.objects (home w.setting x) 0 0)) (λ u e z. Since w scope' s d e z) (omega arith) (omega arith) (omega arith) (omega arith) (λ u e z r. r.0)
    (tracks_taken g w scope scope' most x zero_operand at c k s d 0 a (5 + o) enters one agrees ready refl (omega arith))

-- a scalar takes its value
pub declare_value : (g : Graph) (w : Ground) (scope scope' : ℕ → Type 0) (most n x : ℕ) (called later : Bool) (p : Part ℕ) (emit : Emit Operand) (at : Place) → Enters w scope scope' x → size_of w x ≡ 1
    → Tracked g w scope most n called later p emit
    → DoesOpened g w scope scope' most n (p >>= write x) (λ c. made_on (emit c) (λ a. copy_into (home w.setting x) a at))
declare_value g w scope scope' most n x called later p emit at enters one t c le top k s d a o agrees ready =
    expr_then g w scope most n called later p emit (write x) (λ y. copy_into (home w.setting x) y at) c k s d a a (6 + o) o goal t le top agrees ready
    (λ v e z cs ready1 fits r. tracks_weaker g most a (a + most) (suc (6 + o)) (6 + o) a a (suc (6 + o)) o (write x v e) k (copy_into (home w.setting x) m.value at m.counts).items z
    (λ u e' z'. Since w scope' z e e' z' × (z'.objects ≡ with_word z.objects (home w.setting x) 0 v)) goal
    (omega arith) (omega arith) (omega arith) (omega arith)
    (λ u e' z' q. since_both w scope scope' s d e e' z z' (since_expr w scope called c.temp m.value s d d e v s z (since_start w scope s d agrees ready) cs r) q.0)
    (tracks_taken g w scope scope' most x m.value at m.counts k z e v a (6 + o) enters one r.agrees ready1 r.value (subst (λ u. u < 2 ^ 16) r.value fits)))
  where
    m : Made Operand
    m = emit c

    goal : Unit {0} → State → Spot → Type 0
    goal u e z = Since w scope' s d e z

-- no declarator
pub declare_none : (g : Graph) (w : Ground) (scope : ℕ → Type 0) (most : ℕ) → DoesAct g w scope scope most 0 skip making.nothing
declare_none g w scope most c le top k s d a o agrees ready =
    tracks_weaker g most a a o o (a + 0) a o o (Done [] (tt {0}) d) k [] s (λ u e z. Since w scope s d e z) (λ u e z. Since w scope s d e z) (omega arith) (omega arith) (omega arith) (omega arith) (λ u e z r. r)
    (tracks_none g most a o (tt {0}) d k s (λ u e z. Since w scope s d e z) (since_start w scope s d agrees ready))

-- a declarator, and those behind it
pub declare_more : (g : Graph) (w : Ground) (scope scope' scope'' : ℕ → Type 0) (most n m : ℕ) (p q : Part (Unit {0})) (ep eq : Emit (Unit {0}))
    → ((c : Counts) → c.temp ≤ (ep c).counts.temp) → ((c : Counts) → c.temp ≤ (eq c).counts.temp)
    → DoesOpened g w scope scope' most n p ep → DoesAct g w scope' scope'' most m q eq
    → DoesAct g w scope scope'' most (suc n + m) (begin >> (p >> q)) (λ c. made_on (ep c) (λ _. eq))
declare_more g w scope scope' scope'' most n m p q ep eq gp gq hp hq c le top k s d a o agrees ready = λ stand at.
    runs_weaker g most (suc (a + m + n)) a o o (a + (suc n + m)) a o o ((begin >> (p >> q)) d) s goal goal (omega arith) (omega arith) (omega arith) (omega arith) (λ u e z r. r)
    (runs_begin g most (a + m + n) a o o d.left d (p >> q) s goal (λ j. begun j stand at))
  where
    m1 : Made (Unit {0})
    m1 = ep c

    m2 : Made (Unit {0})
    m2 = eq m1.counts

    goal : Unit {0} → State → Spot → Type 0
    goal u e z = Behind k.behind s.calls z × Since w scope'' s d e z

    begun : (j : ℕ) → Tracks g most (a + m + n) a (6 + o) o ((p >> q) (record d { left = j })) k (m1.items ++ m2.items) s (λ u e z. Since w scope'' s d e z)
    begun j = tracks_append g most (a + m + n) (a + m) a (6 + o) o o (p (record d { left = j })) (λ _. q) k m1.items m2.items s (λ u e z. Since w scope' s (record d { left = j }) e z) (λ u e z. Since w scope'' s d e z)
        (hp c le (omega (arith, top, gq m1.counts)) (at_behind k (first_of (laid_items m2.items) k.behind)) s (record d { left = j }) (a + m) o
        (record { variables = agrees.variables; shape = agrees.shape; input = agrees.input; fit = agrees.fit }) ready)
        (λ u e z cs since. tracks_weaker g most (a + m) a o o (a + m) a o o (q e) k m2.items z (λ u' e' z'. Since w scope'' z e e' z') (λ u' e' z'. Since w scope'' s d e' z')
        (omega arith) (omega arith) (omega arith) (omega arith) (λ u' e' z' r. since_both w scope' scope'' s d e e' z z' (record { calls = since.calls; agrees = since.agrees; ready = since.ready; kept = since.kept; shape = since.shape; store = since.store }) r)
        (hq m1.counts (omega (arith, le, gp c)) top k z e a o since.agrees since.ready))
