-- One operation; and one or two expressions with what stands behind them.
use Rattle.std.proofs.Common.{◌≡◌, ℕ, suc, ◌+◌, ◌^◌, ◌<◌, ◌≤◌, Bool, false, Some, [], ◌∷◌, ◌++◌, refl, ap, ◌∙◌}
use Rattle.c_tree.specs.Runs.{State, Done, Trapped, Put, Part, go_on}
use Rattle.flow_graph.specs.declared.graph.Graph.{Graph}
use Rattle.flow_graph.specs.declared.graph.Op.{Op}
use Rattle.flow_graph.specs.declared.graph.Operand.{Operand}
use Rattle.flow_graph.specs.declared.graph.Item.TheVariants as item
use Rattle.flow_graph.specs.Operations.{operand_word, passes}
use Rattle.flow_graph.specs.declared.nodes.Next.TheVariants.{To}
use Rattle.flow_graph.specs.declared.nodes.Around.{Around}
use Rattle.flow_graph.specs.Nodes.{next_of, first_of, laid_items, at_behind, graph_nodes, node_in, node}
use Rattle.flow_graph.specs.Flow as flow
use Rattle.flow_graph.specs.Flow.{Spot, operate, execute_at}
use Rattle.lowered_graphs.specs.Making.{Counts, Emit}
use Rattle.lowered_meaning.specs.Tracks.{Tracks, Behind}
use Rattle.lowered_meaning.specs.Keeps.{Ground, Ready, Agrees, Evaluated}
use Rattle.lowered_meaning.proofs.RunLemmas.{runs_op, runs_put, runs_done, meets_trap}
use Rattle.lowered_meaning.proofs.TrackLemmas.{tracks_append, one_stands}
use Rattle.lowered_meaning.proofs.KeepLemmas.{kept_both, store_both, shape_both, ready_on, operand_fits}
use Rattle.lowered_meaning.proofs.ShapeLemmas.{Tracked}

-- ---- one operation

-- what an operation does, but for what is executed next
abbrev pub effect_at : Op → Spot → flow.Did
effect_at op s = flow.effect op (operand_word s.objects op.a) (operand_word s.objects op.b) s

-- an operation that goes on to what follows it
pub operated : (g : Graph) (k : Around) (op : Op) (s : Spot) (e : flow.Did) → next_of op.kind k.behind ≡ To k.behind → node_in (graph_nodes g) s.at ≡ Some (node op k.behind) → effect_at op s ≡ e
    → operate g s ≡ flow.followed g (To k.behind) (passes op.kind (operand_word s.objects op.a) (operand_word s.objects op.b)) e
operated g k op s e on is effect =
    ap (λ x. execute_at g x s) is
    ∙ ap (λ x. flow.followed g x (passes op.kind (operand_word s.objects op.a) (operand_word s.objects op.b)) (effect_at op s)) on
    ∙ ap (flow.followed g (To k.behind) (passes op.kind (operand_word s.objects op.a) (operand_word s.objects op.b))) effect

pub tracks_does : {A : Type 0} (g : Graph) (most a o : ℕ) (k : Around) (op : Op) (v : A) (d : State) (s y : Spot) (rel : A → State → Spot → Type 0)
    → next_of op.kind k.behind ≡ To k.behind → effect_at op s ≡ flow.Went [] y → y.calls ≡ s.calls → rel v d (record y { at = k.behind })
    → Tracks g most a (a + most) (suc o) o (Done [] v d) k (item.One op ∷ []) s rel
tracks_does g most a o k op v d s y rel on effect calls r = λ stand at.
    runs_op g most a (a + most) o o (Done [] v d) s (record y { at = k.behind }) (λ v' d' z. Behind k.behind s.calls z × rel v' d' z) (operated g k op s (flow.Went [] y) on (one_stands g k op s stand at) effect)
    (runs_done g most (a + most) o v d (record y { at = k.behind }) (λ v' d' z. Behind k.behind s.calls z × rel v' d' z) (record { at = refl; calls = calls }, r))

pub tracks_puts : {A : Type 0} (g : Graph) (most a o w : ℕ) (k : Around) (op : Op) (v : A) (d : State) (s y : Spot) (rel : A → State → Spot → Type 0)
    → next_of op.kind k.behind ≡ To k.behind → effect_at op s ≡ flow.Went (w ∷ []) y → y.calls ≡ s.calls → rel v d (record y { at = k.behind })
    → Tracks g most a (a + most) (suc o) o (Done (Put w ∷ []) v d) k (item.One op ∷ []) s rel
tracks_puts g most a o w k op v d s y rel on effect calls r = λ stand at.
    runs_put g most a (a + most) o o w (Done [] v d) s (record y { at = k.behind }) (λ v' d' z. Behind k.behind s.calls z × rel v' d' z) (operated g k op s (flow.Went (w ∷ []) y) on (one_stands g k op s stand at) effect)
    (runs_done g most (a + most) o v d (record y { at = k.behind }) (λ v' d' z. Behind k.behind s.calls z × rel v' d' z) (record { at = refl; calls = calls }, r))

pub tracks_traps : {A : Type 0} (g : Graph) (most a b o u t : ℕ) (k : Around) (op : Op) (s : Spot) (rel : A → State → Spot → Type 0)
    → next_of op.kind k.behind ≡ To k.behind → effect_at op s ≡ flow.Trapped t
    → Tracks g most a b (suc o) u (Trapped [] t) k (item.One op ∷ []) s rel
tracks_traps g most a b o u t k op s rel on effect = λ stand at. meets_trap g most a o t s (operated g k op s (flow.Trapped t) on (one_stands g k op s stand at) effect)

-- ---- one evaluation and then another

pub evaluated_both : (w : Ground) (scope : ℕ → Type 0) (called c1 c2 : Bool) (t t1 t2 v u : ℕ) (x y : Operand) (s z z' : Spot) (d e e' : State)
    → (called ≡ false → c1 ≡ false) → (called ≡ false → c2 ≡ false) → t ≤ t1 → t ≤ t2
    → Evaluated w scope c1 t1 x s d v e z → Evaluated w scope c2 t2 y z e u e' z' → Evaluated w scope called t y s d u e' z'
evaluated_both w scope called c1 c2 t t1 t2 v u x y s z z' d e e' f1 f2 le1 le2 p q = record {
  value = q.value;
  agrees = q.agrees;
  kept = kept_both w called c1 c2 t t1 t2 s.objects z.objects z'.objects f1 f2 le1 le2 p.kept q.kept;
  shape = shape_both s.objects z.objects z'.objects p.shape q.shape;
  store = store_both w called c1 c2 t t1 t2 d e e' f1 f2 le1 le2 p.store q.store;
}

-- an expression, and then what stands behind it
pub expr_then : {A B : Type 0} (g : Graph) (w : Ground) (scope : ℕ → Type 0) (most n : ℕ) (called later : Bool) (p : Part ℕ) (emit : Emit Operand)
    (q : ℕ → Part A) (f : Operand → Emit B) (c : Counts) (k : Around) (s : Spot) (d : State) (a b o u : ℕ) (rel : A → State → Spot → Type 0)
    → Tracked g w scope most n called later p emit → w.base ≤ c.temp → (emit c).counts.temp ≤ w.top → Agrees w scope d s → Ready w s.objects
    → ((v : ℕ) (e : State) (z : Spot) → z.calls ≡ s.calls → Ready w z.objects → operand_word z.objects (emit c).value < 2 ^ 16 → Evaluated w scope called c.temp (emit c).value s d v e z
    → Tracks g most a b (suc o) u (q v e) k (f (emit c).value (emit c).counts).items z rel)
    → Tracks g most (a + n) b o u (go_on (p d) q) k ((emit c).items ++ (f (emit c).value (emit c).counts).items) s rel
expr_then g w scope most n called later p emit q f c k s d a b o u rel t le top agrees ready next =
    tracks_append g most (a + n) a b o (suc o) u (p d) q k (emit c).items (f (emit c).value (emit c).counts).items s _ rel
    (t.tracks c le top (at_behind k (first_of (laid_items (f (emit c).value (emit c).counts).items) k.behind)) s d a o agrees ready)
    (λ v e z calls r. next v e z calls (ready_on w s.objects z.objects r.shape ready) (operand_fits w later (emit c).counts.temp (emit c).value z.objects (t.stays c le top) r.agrees.fit) r)
