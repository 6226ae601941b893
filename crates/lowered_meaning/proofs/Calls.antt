-- Calls: arguments, parameters, the body of the function, its return, and the copy of its result.
use Rattle.std.proofs.Common.{◌≡◌, ◌≢◌, ℕ, suc, ◌+◌, ◌^◌, ◌<◌, ◌≤◌, Bool, true, false, Option, Some, None, List, [], ◌∷◌, ◌++◌, length, length-append, refl, sym, ap, ◌∙◌, subst, arith, inr}
use Rattle.std.specs.Prelude.{◌||◌, slice_index_or}
use Rattle.base_io.specs.declared.place.Place.{Place}
use Rattle.c_values.specs.declared.ops.Ty.{Ty}
use Rattle.c_values.specs.Values.{Gives}
use Rattle.c_tree.specs.declared.tree.Expr.{Expr}
use Rattle.c_tree.specs.declared.tree.Function.{Function}
use Rattle.c_tree.specs.Runs as part
use Rattle.c_tree.specs.Runs.{State, Got, Done, Part, go_on, ◌>>=◌, ◌>>◌}
use Rattle.c_tree.specs.Nodes.{values_onto, bind}
use Rattle.sound_programs.specs.Counted.{exprs_nodes}
use Rattle.flow_graph.specs.declared.graph.Graph.{Graph}
use Rattle.flow_graph.specs.declared.graph.Op.{Op}
use Rattle.flow_graph.specs.declared.graph.OpKind.TheVariants as kind
use Rattle.flow_graph.specs.declared.graph.Operand.{Operand}
use Rattle.flow_graph.specs.declared.graph.Operand.TheVariants.{Const, Object}
use Rattle.flow_graph.specs.declared.graph.Item.TheVariants as item
use Rattle.flow_graph.specs.Operations.{words_of, operand_word, passes}
use Rattle.flow_graph.specs.declared.nodes.Next.TheVariants.{Into, Returns}
use Rattle.flow_graph.specs.declared.nodes.Around.{Around}
use Rattle.flow_graph.specs.Nodes.{at_behind, first_of, laid_items, graph_nodes, node_in, call_node, entry}
use Rattle.flow_graph.specs.Flow as flow
use Rattle.flow_graph.specs.Flow.{Spot, operate, execute_at, effect_by, write_worked}
use Rattle.flow_graph.proofs.LaidLemmas.{laid-CallTo}
use Rattle.lowered_graphs.specs.Making.{Counts, Made, made_on, op_of, plain, zero_operand}
use Rattle.lowered_graphs.specs.Exprs.{home, place_of, result_home, lowered, arguments_onto, copy_arguments, take_result, call}
use Rattle.lowered_meaning.specs.Runs.{Runs}
use Rattle.lowered_meaning.specs.Tracks.{Has, Stand, Behind, Tracks}
use Rattle.lowered_meaning.specs.Keeps.{Ground, FixedBy, Fixed, Ready, StaysBy, OwnsTemporaries, IsHomeBy, HasHomes, Agrees, Evaluated, LevelTracks}
use Rattle.lowered_meaning.specs.Leaves.{Callee, HasResult, EndsWith, Returning, Since}
use Rattle.lowered_meaning.proofs.RunLemmas.{runs_op, runs_done, runs_weaker, runs_after, nothing_behind}
use Rattle.lowered_meaning.proofs.TrackLemmas.{tracks_append, tracks_weaker, tracks_none}
use Rattle.lowered_meaning.proofs.KeepLemmas.{kept_both, store_both, shape_both, ready_on}
use Rattle.lowered_meaning.proofs.SinceLemmas.{since_both}
use Rattle.lowered_meaning.proofs.StmtLemmas.{since_less}
use Rattle.lowered_meaning.proofs.ElementSteps.{tracks_does, evaluated_both}
use Rattle.lowered_meaning.proofs.ElementLoads.{wrote_evaluated}
use Rattle.lowered_meaning.proofs.AssignStores.{HomesDiffer}
use Rattle.lowered_meaning.proofs.CallsArguments.{Argued, AreOperands, AllOk, emits, any, grows_arguments, tracks_arguments, WordsAre}
use Rattle.lowered_meaning.proofs.CallsParameters.{Bind, AreParameters, AreElsewhere, tracks_bound, height, function_of, fixed_called}

-- the items of a call stand in the graph
call_stands : (g : Graph) (k : Around) (op : Op) (f n : ℕ) → Stand g k (item.CallTo op f ∷ []) → n ≡ first_of (laid_items (item.CallTo op f ∷ [])) k.behind
    → node_in (graph_nodes g) n ≡ Some (call_node op f k.behind)
call_stands g k op f n stand at =
    let e : Has g (call_node op f k.behind ∷ []) = subst (λ l. Has g (l.nodes (at_behind k k.behind) ++ [])) (laid-CallTo op f) stand in
    ap (node_in (graph_nodes g)) (at ∙ ap (λ l. l.first k.behind) (laid-CallTo op f)) ∙ e.0

-- the body of a function of n nodes, from its first operation on to its return
abbrev pub BodyRuns : Graph → Callee → (ℕ → Type 0) → (most n place : ℕ) → Part ℕ → Type 0
BodyRuns g f scope most n place p = (s : Spot) (d : State) (a o : ℕ) → s.at ≡ entry g place → Agrees f.ground scope d s → Ready f.ground s.objects
    → Runs g most (a + n) a o (suc o) (p d) s (λ v e z. Returning g f v z × Since f.ground scope s d e z)

-- a return goes on behind the call
returns : (g : Graph) (f : Callee) (v n : ℕ) (ns : List ℕ) (z : Spot) → f.is_main ≡ false → Returning g f v z → z.calls ≡ n ∷ ns
    → (operate g z ≡ flow.Went [] (record z { at = n; calls = ns })) × HasResult f f.result v z
returns g f v n ns z e r cs = (by_node, ends.3)
  where
    ends : EndsWith f false v r.node z
    ends = subst (λ b. EndsWith f b v r.node z) e r.ends

    a : ℕ
    a = operand_word z.objects r.node.op.a

    b : ℕ
    b = operand_word z.objects r.node.op.b

    by_node : operate g z ≡ flow.Went [] (record z { at = n; calls = ns })
    by_node = ap (λ x. execute_at g x z) r.next
        ∙ ap (λ x. flow.followed g x (passes r.node.op.kind a b) (flow.effect r.node.op a b z)) ends.2
        ∙ ap (λ x. flow.followed g Returns (passes r.node.op.kind a b) (effect_by x r.node.op a b z)) ends.0
        ∙ ap (λ x. flow.followed g Returns (passes r.node.op.kind a b) (write_worked x (Gives a) z)) ends.1
        ∙ ap (λ x. flow.return_to x [] z) cs

-- the call itself, the body and the return
tracks_called : (g : Graph) (f : Callee) (scope : ℕ → Type 0) (most n place : ℕ) (p : Part ℕ) (op : Op) (k : Around) (s : Spot) (d : State) (a o : ℕ)
    → f.is_main ≡ false → op.kind ≡ kind.Call → op.dest ≡ None → n ≤ most → BodyRuns g f scope most n place p → Agrees f.ground scope d s → Ready f.ground s.objects
    → Tracks g most a a (suc o) o (p d) k (item.CallTo op place ∷ []) s
    (λ v e z. HasResult f f.result v z × Since f.ground scope s d e z)
tracks_called g f scope most n place p op k s d a o main iscall nodest small body agrees ready = λ stand at.
    runs_op g most a a o o (p d) s inside goal (called (call_stands g k op place s.at stand at))
    (runs_after g most (a + most) a a o (suc o) o (p d) inside (λ v e z. Returning g f v z × Since f.ground scope inside d e z) goal
    (runs_weaker g most (a + n) a o (suc o) (a + most) a o (suc o) (p d) inside (λ v e z. Returning g f v z × Since f.ground scope inside d e z) (λ v e z. Returning g f v z × Since f.ground scope inside d e z) (omega (arith, small)) (omega (arith, small)) (omega arith) (omega arith) (λ v e z r. r)
    (body inside d a o refl (record { variables = agrees.variables; shape = agrees.shape; input = agrees.input; fit = agrees.fit }) ready))
    (λ v e z r. back v e z r.0 r.1))
  where
    inside : Spot
    inside = record s { at = entry g place; calls = k.behind ∷ s.calls }

    goal : ℕ → State → Spot → Type 0
    goal v e z = Behind k.behind s.calls z × (HasResult f f.result v z × Since f.ground scope s d e z)

    called : node_in (graph_nodes g) s.at ≡ Some (call_node op place k.behind) → operate g s ≡ flow.Went [] inside
    called is =
        let x : ℕ = operand_word s.objects op.a in
        let y : ℕ = operand_word s.objects op.b in
        ap (λ m. execute_at g m s) is
        ∙ ap (λ m. flow.followed g (Into place k.behind) (passes m x y) (effect_by m op x y s)) iscall
        ∙ ap (λ m. flow.followed g (Into place k.behind) (passes kind.Call x y) (write_worked m (Gives x) s)) nodest

    back : (v : ℕ) (e : State) (z : Spot) → Returning g f v z → Since f.ground scope inside d e z → Runs g most a a (suc o) o (Done [] v e) z goal
    back v e z r since =
        let h = returns g f v k.behind s.calls z main r since.calls in
        runs_weaker g most a (a + most) (suc o) o a a (suc o) o (Done [] v e) z goal goal (omega arith) (omega arith) (omega arith) (omega arith) (λ v' e' z' r'. r')
        (runs_op g most a (a + most) o o (Done [] v e) z (record z { at = k.behind; calls = s.calls }) goal h.0
        (runs_done g most (a + most) o v e (record z { at = k.behind; calls = s.calls }) goal (
          record { at = refl; calls = refl },
          (
            has_result f.result h.1,
            record {
              calls = refl;
              agrees = record { variables = since.agrees.variables; shape = since.agrees.shape; input = since.agrees.input; fit = since.agrees.fit };
              ready = since.ready;
              kept = since.kept;
              shape = since.shape;
              store = since.store;
            },
          ),
        )))
      where
        has_result : (t : Option Ty) → HasResult f t v z → HasResult f t v (record z { at = k.behind; calls = s.calls })
        has_result None h = h
        has_result (Some ty) h = h

-- ---- the whole call

-- the objects of globals that are in scope
abbrev pub Globals : Ground → (ℕ → Type 0) → ℕ → Type 0
Globals w scope x = scope x × (w.owner (home w.setting x) ≡ None)

-- what a function needs to be called from another
pub record Callable (g : Graph) (w : Ground) (scope inner : ℕ → Type 0) (most n f : ℕ) (fn : Function) (body : Part ℕ) : Type 0 where
  pub base : ℕ
  pub top : ℕ
  pub lower : height w f < height w w.function
  pub differ : HomesDiffer w
  pub singles : (o : ℕ) → base ≤ o → o < top → w.is_single o ≡ true
  pub parameters : AreParameters (function_of w f base top) fn.params
  pub binds : (x : ℕ) → inner x → Bind (Globals w scope) fn.params x
  pub globals : (x : ℕ) → Globals w scope x → inner x
  pub small : n ≤ most
  pub runs : BodyRuns g (record { ground = function_of w f base top; is_main = false; result = fn.result }) inner most n (place_of w.setting f) body

module _ (g : Graph) (w : Ground) (scope inner : ℕ → Type 0) (most n f : ℕ) (fn : Function) (body : Part ℕ) (owns : OwnsTemporaries w) (homes : HasHomes w scope) (can : Callable g w scope inner most n f fn body) where
  abbrev inside : Ground
  inside = function_of w f can.base can.top

  abbrev callee : Callee
  callee = record { ground = inside; is_main = false; result = fn.result }

  global_homes : HasHomes inside (Globals w scope)
  global_homes x is = ((homes x is.0).0, subst (IsHomeBy inside (home w.setting x)) (sym is.1) tt)

  ready_inside : (s : Spot) → Ready w s.objects → Ready inside s.objects
  ready_inside s ready = record { temporaries = λ o le lt. ready.singles o (can.singles o le lt); singles = ready.singles; variables = ready.variables }

  elsewhere : (later : Bool) (t : ℕ) (xs : List Operand) → AreOperands w later t xs → AreElsewhere inside xs
  elsewhere later t [] h = tt
  elsewhere later t (Const v ∷ xs) h = (tt, elsewhere later t xs h.1)
  elsewhere later t (Object o ∷ xs) h = (by_owner (w.owner o) h.0, elsewhere later t xs h.1)
    where
      by_owner : (m : Option ℕ) → StaysBy w later t o m → m ≢ Some f
      by_owner None h e = cc
      by_owner (Some m) h e = omega (arith, can.lower, ap (λ x. height w (or_zero x)) e, ap (height w) h.0)
        where
          or_zero : Option ℕ → ℕ
          or_zero None = 0
          or_zero (Some x) = x

  -- back in the caller: its variables are as they were, and globals as the function left them
  back_agrees : (s z : Spot) (d e : State) → Agrees w scope d s → Since inside inner s d e z → Agrees w scope e z
  back_agrees s z d e agrees since = record { variables = λ x is. variable x is (w.owner (home w.setting x)) refl; shape = since.agrees.shape; input = since.agrees.input; fit = since.agrees.fit }
    where
      variable : (x : ℕ) → scope x → (m : Option ℕ) → w.owner (home w.setting x) ≡ m → words_of z.objects (home w.setting x) ≡ slice_index_or e.store x []
      variable x is None q = since.agrees.variables x (can.globals x (is, q))
      variable x is (Some m) q = since.kept (home w.setting x) stays ∙ (agrees.variables x is ∙ sym (since.store x stays))
        where
          own : IsHomeBy w (home w.setting x) (Some m)
          own = subst (IsHomeBy w (home w.setting x)) q (homes x is).1

          stays : Fixed inside true 0 (home w.setting x)
          stays = subst (FixedBy inside true 0 (home w.setting x)) (sym q) (inr ((λ r. omega (arith, can.lower, ap (height w) r, ap (height w) own.0)), inr (omega (arith, can.lower, ap (height w) own.0))))

  -- what the function changed is what the call may change
  back_evaluated : (t v : ℕ) (a : Operand) (s z : Spot) (d e : State) → Agrees w scope d s → Since inside inner s d e z → operand_word z.objects a ≡ v → Evaluated w scope true t a s d v e z
  back_evaluated t v a s z d e agrees since value = record {
    value = value;
    agrees = back_agrees s z d e agrees since;
    kept = λ o fixed. since.kept o (fixed_called w f can.base can.top t o can.lower fixed);
    shape = since.shape;
    store = λ x fixed. since.store x (fixed_called w f can.base can.top t (home w.setting x) can.lower fixed);
  }

  -- the result in a temporary, where there is one
  tracks_result : (result : Option Ty) (at : Place) (v : ℕ) (c : Counts) (k : Around) (s : Spot) (d : State) (a o : ℕ)
      → w.base ≤ c.temp → (take_result w.setting f result at c).counts.temp ≤ w.top → Agrees w scope d s → Ready w s.objects → HasResult callee result v s
      → Tracks g most a a (suc o) o (Done [] v d) k (take_result w.setting f result at c).items s (Evaluated w scope true c.temp (take_result w.setting f result at c).value s d)
  tracks_result None at v c k s d a o le top agrees ready has =
      tracks_weaker g most a a (suc o) (suc o) a a (suc o) o (Done [] v d) k [] s goal goal (omega arith) (omega arith) (omega arith) (omega arith) (λ u e z r. r)
      (tracks_none g most a (suc o) v d k s goal (record { value = sym has; agrees = agrees; kept = λ i fixed. refl; shape = λ i. refl; store = λ i fixed. refl }))
    where
      goal : ℕ → State → Spot → Type 0
      goal = Evaluated w scope true c.temp zero_operand s d
  tracks_result (Some ty) at v c k s d a o le top agrees ready has =
      tracks_weaker g most a (a + most) (suc o) o a a (suc o) o (Done [] v d) k (item.One op ∷ []) s goal goal (omega arith) (omega arith) (omega arith) (omega arith) (λ u e z r. r)
      (tracks_does g most a o k op v d s (flow.written (Some c.temp) v s) goal refl (ap (λ u. flow.Went [] (flow.written (Some c.temp) u s)) has) refl
      (wrote_evaluated w scope true c.temp c.temp v s d d (record (flow.written (Some c.temp) v s) { at = k.behind }) owns homes (omega arith) le (omega (arith, top)) agrees ready
      (subst (λ u. u < 2 ^ 16) has (agrees.fit (result_home w.setting f) 0)) refl agrees.input refl))
    where
      op : Op
      op = op_of kind.Copy (Some c.temp) (Object (result_home w.setting f)) zero_operand None at c.op

      goal : ℕ → State → Spot → Type 0
      goal = Evaluated w scope true c.temp (Object c.temp) s d

  pub copies_temp : (params : List ℕ) (operands : List Operand) (at : Place) (c : Counts) → (copy_arguments w.setting params operands at c).counts.temp ≡ c.temp
  copies_temp [] operands at c = refl
  copies_temp (x ∷ params) [] at c = refl
  copies_temp (x ∷ params) (b ∷ operands) at c = copies_temp params operands at (record { op = c.op + 1; temp = c.temp })

  -- parameters, the call, and the result
  tracks_call : (operands : List Operand) (vs : List ℕ) (later : Bool) (t : ℕ) (at : Place) (c : Counts) (k : Around) (s : Spot) (d : State) (a o : ℕ)
      → length operands ≡ length fn.params → AreOperands w later t operands → WordsAre s.objects operands vs
      → w.base ≤ c.temp → (call w.setting f (Some fn) operands at c).counts.temp ≤ w.top → c.temp ≤ (copy_arguments w.setting fn.params operands at c).counts.temp → Agrees w scope d s → Ready w s.objects
      → Tracks g most a a (suc (suc (length fn.params + o))) o ((bind fn.params vs >> body) d) k (call w.setting f (Some fn) operands at c).items s
      (Evaluated w scope true c.temp (call w.setting f (Some fn) operands at c).value s d)
  tracks_call operands vs later t at c k s d a o same stay words le top up agrees ready =
      tracks_append g most a a a (suc (suc (length fn.params + o))) (suc (suc o)) o (bind fn.params vs d) (λ _. body) k copies.items (item.CallTo op (place_of w.setting f) ∷ last.items) s (λ u e z. Since inside (Bind (Globals w scope) fn.params) s d e z) goal
      (tracks_weaker g most a a (length fn.params + suc (suc o)) (suc (suc o)) a a (suc (suc (length fn.params + o))) (suc (suc o)) (bind fn.params vs d) (at_behind k (first_of (laid_items (item.CallTo op (place_of w.setting f) ∷ last.items)) k.behind)) copies.items s
      (λ u e z. Since inside (Bind (Globals w scope) fn.params) s d e z) (λ u e z. Since inside (Bind (Globals w scope) fn.params) s d e z)
      (omega arith) (omega arith) (omega arith) (omega arith) (λ u e z r. r)
      (tracks_bound g inside most fn.params operands vs (Globals w scope) at c (at_behind k (first_of (laid_items (item.CallTo op (place_of w.setting f) ∷ last.items)) k.behind)) s d a (suc (suc o)) can.differ global_homes can.parameters same (elsewhere later t operands stay) words
      (record { variables = λ x is. agrees.variables x is.0; shape = agrees.shape; input = agrees.input; fit = agrees.fit }) (ready_inside s ready)))
      (λ u e z cs since. let entered : Since inside inner s d e z = since_less inside inner (Bind (Globals w scope) fn.params) s d e z can.binds since in
      subst (λ r. Tracks g most a a (suc (suc o)) o r k (item.CallTo op (place_of w.setting f) ∷ last.items) z goal) (nothing_behind (body e))
      (tracks_append g most a a a (suc (suc o)) (suc o) o (body e) (λ v. part.pure v) k (item.CallTo op (place_of w.setting f) ∷ []) last.items z (λ v e' z'. HasResult callee fn.result v z' × Since inside inner z e e' z') goal
      (tracks_called g callee inner most n (place_of w.setting f) body op (at_behind k (first_of (laid_items last.items) k.behind)) z e a (suc o) refl refl refl can.small can.runs entered.agrees entered.ready)
      (λ v e' z' cs' r. let whole : Since inside inner s d e' z' = since_both inside inner inner s d e e' z z' entered r.1 in
      tracks_weaker g most a a (suc o) o a a (suc o) o (Done [] v e') k last.items z' (Evaluated w scope true copies.counts.temp last.value z' e') goal (omega arith) (omega arith) (omega arith) (omega arith)
      (λ v' e2 z2 q. evaluated_both w scope true true true c.temp c.temp copies.counts.temp 0 v' zero_operand last.value s z' z2 d e' e2 (λ x. x) (λ x. x) (omega arith) up
      (back_evaluated c.temp 0 zero_operand s z' d e' agrees whole refl) q)
      (tracks_result fn.result at v (record { op = copies.counts.op + 1; temp = copies.counts.temp }) k z' e' a o (omega (arith, le, up)) top (back_agrees s z' d e' agrees whole)
      (ready_on w s.objects z'.objects whole.shape ready) r.0))))
    where
      copies : Made (Unit {0})
      copies = copy_arguments w.setting fn.params operands at c

      op : Op
      op = plain kind.Call zero_operand at copies.counts.op

      last : Made Operand
      last = take_result w.setting f fn.result at (record { op = copies.counts.op + 1; temp = copies.counts.temp })

      goal : ℕ → State → Spot → Type 0
      goal = Evaluated w scope true c.temp last.value s d

  module _ (m : Expr → Part ℕ) where
    operands_length : (es : List Expr) (xs : List Operand) (later : Bool) (c : Counts) → length (arguments_onto xs later (emits g w scope most m es) c).value ≡ length xs + length es
    operands_length [] xs later c = omega arith
    operands_length (e ∷ es) xs later c =
        omega (
          arith,
          operands_length es (xs ++ ((lowered w.setting e).emit (later || any g w scope most m es) c).value ∷ []) later ((lowered w.setting e).emit (later || any g w scope most m es) c).counts,
          length-append xs (((lowered w.setting e).emit (later || any g w scope most m es) c).value ∷ []),
        )

    pub result_grows : (result : Option Ty) (at : Place) (c : Counts) → c.temp ≤ (take_result w.setting f result at c).counts.temp
    result_grows None at c = omega arith
    result_grows (Some ty) at c = omega arith

    -- the whole call
    pub call_level : (args : List Expr) (later : Bool) (at : Place) → AllOk g w scope most m args → length args ≡ length fn.params
        → LevelTracks g w scope most (exprs_nodes args) true (values_onto m [] args >>= (λ vs. bind fn.params vs >> body))
        (λ c. made_on (arguments_onto [] later (emits g w scope most m args) c) (λ xs. call w.setting f (Some fn) xs at))
    call_level args later at ok same c le top k s d a o agrees ready =
        tracks_append g most (a + exprs_nodes args) a a (6 + o) (length args + (6 + o)) (suc o) (values_onto m [] args d) (λ vs. bind fn.params vs >> body) k given.items rest.items s
        (Argued w scope true later c.temp given.counts.temp given.value s d) goal
        (tracks_arguments g w scope most m args [] [] true later c (at_behind k (first_of (laid_items rest.items) k.behind)) s d a (6 + o) ok (λ e. cc) le (omega (arith, top, more)) agrees ready tt tt)
        (λ vs e z cs r. tracks_weaker g most a a (suc (suc (length fn.params + (4 + o)))) (4 + o) a a (length args + (6 + o)) (suc o) ((bind fn.params vs >> body) e) k rest.items z
        (Evaluated w scope true given.counts.temp rest.value z e) goal (omega arith) (omega arith) (omega (arith, same)) (omega (arith, same))
        (λ v e' z' q. record {
          value = q.value;
          agrees = q.agrees;
          kept = kept_both w true true true c.temp c.temp given.counts.temp s.objects z.objects z'.objects (λ x. x) (λ x. x) (omega arith) up r.kept q.kept;
          shape = shape_both s.objects z.objects z'.objects r.shape q.shape;
          store = store_both w true true true c.temp c.temp given.counts.temp d e e' (λ x. x) (λ x. x) (omega arith) up r.store q.store;
        })
        (tracks_call given.value vs later given.counts.temp at given.counts k z e a (4 + o) (omega (arith, operands_length args [] later c, same)) r.operands r.words (omega (arith, le, up)) top
        (omega (arith, copies_temp fn.params given.value at given.counts)) r.agrees (ready_on w s.objects z.objects r.shape ready)))
      where
        given : Made (List Operand)
        given = arguments_onto [] later (emits g w scope most m args) c

        rest : Made Operand
        rest = call w.setting f (Some fn) given.value at given.counts

        up : c.temp ≤ given.counts.temp
        up = grows_arguments g w scope most m args [] later c ok

        more : given.counts.temp ≤ rest.counts.temp
        more = omega (arith, copies_temp fn.params given.value at given.counts, result_grows fn.result at (record { op = (copy_arguments w.setting fn.params given.value at given.counts).counts.op + 1; temp = (copy_arguments w.setting fn.params given.value at given.counts).counts.temp }))

        goal : ℕ → State → Spot → Type 0
        goal = Evaluated w scope true c.temp rest.value s d
