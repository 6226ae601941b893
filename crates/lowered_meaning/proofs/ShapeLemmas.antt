-- The shapes of expressions: what each does where its parts do what they mean.
use Rattle.std.proofs.Common.{◌≡◌, ℕ, suc, ◌+◌, ◌^◌, ◌<◌, ◌≤◌, Bool, false, Some, None, List, [], ◌∷◌, ◌++◌, refl, sym, ap, ◌∙◌, subst, arith}
use Rattle.c_values.specs.Values.{Worked, Gives, Traps, is_set}
use Rattle.c_tree.specs.Runs.{State, Got, Part, word_or_trap, go_on, begin, either, ◌>>=◌, ◌>>◌}
use Rattle.c_tree.specs.Runs as part
use Rattle.std.specs.Prelude.{slice_index_or}
use Rattle.base_io.specs.declared.place.Place.{Place}
use Rattle.flow_graph.specs.declared.graph.OpKind.TheVariants as kind
use Rattle.flow_graph.specs.declared.graph.Item.{Item}
use Rattle.flow_graph.specs.declared.graph.Item.TheVariants as item
use Rattle.lowered_graphs.specs.Exprs.{home, arms}
use Rattle.flow_graph.specs.declared.graph.Graph.{Graph}
use Rattle.flow_graph.specs.declared.graph.Op.{Op}
use Rattle.flow_graph.specs.declared.graph.Operand.{Operand}
use Rattle.flow_graph.specs.declared.graph.Operand.TheVariants.{Const, Object}
use Rattle.flow_graph.specs.Operations.{Words, word_at, operand_word, gives}
use Rattle.flow_graph.specs.declared.nodes.Around.{Around}
use Rattle.flow_graph.specs.Flow.{Spot}
use Rattle.lowered_graphs.specs.Making as making
use Rattle.lowered_graphs.specs.Making.{Made, Counts, Emit, made_op, made_on}
use Rattle.lowered_meaning.specs.Tracks.{Tracks, Behind}
use Rattle.lowered_meaning.specs.Keeps.{Ground, Kept, KeptStore, SameShape, Ready, StaysBy, OwnsTemporaries, HasHomes, Agrees, Evaluated, Grows, Stays, ExprTracks, LevelTracks}
use Rattle.lowered_meaning.proofs.RunLemmas.{runs_begin, runs_weaker}
use Rattle.lowered_meaning.proofs.TrackLemmas.{tracks_append, tracks_none, tracks_weaker, tracks_worked, tracks_branch, IsWorked, Wrote}
use Rattle.lowered_meaning.proofs.KeepLemmas.{word_same, with_word_shape, kept_both, store_both, shape_both, ready_on, operand_stays, kept_write, agrees_write, operand_fits}

-- a step begins, and then a level
pub begun : (g : Graph) (w : Ground) (scope : ℕ → Type 0) (most n : ℕ) (called : Bool) (p : Part ℕ) (emit : Emit Operand)
    → LevelTracks g w scope most n called p emit → ExprTracks g w scope most (suc n) called (begin >> p) emit
begun g w scope most n called p emit h c le top k s d a o agrees ready = λ stand at.
    let rel : ℕ → State → Spot → Type 0 = λ v y z. Behind k.behind s.calls z × Evaluated w scope called c.temp (emit c).value s d v y z in
    runs_weaker g most (suc (a + n)) a o (suc o) (a + suc n) a o (suc o) _ s rel rel (omega arith) (omega arith) (omega arith) (omega arith) (λ v z y r. r)
    (runs_begin g most (a + n) a o (suc o) d.left d p s rel (λ j. runs_weaker g most (a + n) a (6 + o) (suc o) (a + n) a (6 + o) (suc o) (p (record d { left = j })) s _ rel
    (omega arith) (omega arith) (omega arith) (omega arith)
    (λ v y z r. (r.0, record { value = r.1.value; agrees = r.1.agrees; kept = r.1.kept; shape = r.1.shape; store = r.1.store }))
    (h c le top k s (record d { left = j }) a o (record { variables = agrees.variables; shape = agrees.shape; input = agrees.input; fit = agrees.fit }) ready stand at)))

-- ---- one operation

pub made_grows : (f : ℕ → ℕ → Op) → Grows (made_op f)
made_grows f c = omega arith

pub made_stays : (w : Ground) (later : Bool) (f : ℕ → ℕ → Op) → OwnsTemporaries w → Stays w later (made_op f)
made_stays w later f owns c le top = subst (StaysBy w later (c.temp + 1) c.temp) (sym (owns c.temp le (omega (arith, top)))) (refl, omega arith)

pub tracks_made : (g : Graph) (w : Ground) (scope : ℕ → Type 0) (most : ℕ) (called : Bool) (f : ℕ → ℕ → Op) (W : Worked) (c : Counts) (k : Around) (s : Spot) (d : State) (a o : ℕ)
    → OwnsTemporaries w → HasHomes w scope → w.base ≤ c.temp → c.temp + 1 ≤ w.top → Agrees w scope d s → Ready w s.objects
    → IsWorked (f c.temp c.op).kind → (f c.temp c.op).dest ≡ Some c.temp
    → gives (f c.temp c.op).kind (operand_word s.objects (f c.temp c.op).a) (operand_word s.objects (f c.temp c.op).b) ≡ W → ((n : ℕ) → W ≡ Gives n → n < 2 ^ 16)
    → Tracks g most a (a + most) (suc o) o (word_or_trap W d) k (made_op f c).items s (Evaluated w scope called c.temp (Object c.temp) s d)
tracks_made g w scope most called f W c k s d a o owns homes le top agrees ready is dest e fits =
    tracks_weaker g most a (a + most) (suc o) o a (a + most) (suc o) o (word_or_trap W d) k (made_op f c).items s (Wrote W c.temp s d) _
    (omega arith) (omega arith) (omega arith) (omega arith) wrote
    (tracks_worked g most a o k (f c.temp c.op) c.temp W s d is dest e)
  where
    wrote : (v : ℕ) (d' : State) (z : Spot) → Wrote W c.temp s d v d' z → Evaluated w scope called c.temp (Object c.temp) s d v d' z
    wrote v d' z r =
        let own = owns c.temp le (omega (arith, top)) in
        record {
          value = ap (λ ws. word_at ws c.temp 0) r.objects ∙ word_same s.objects c.temp v (ready.temporaries c.temp le (omega (arith, top)));
          agrees = subst (λ x. Agrees w scope x z) (sym r.state) (agrees_write w scope d s z c.temp v homes own le (fits v r.gives) r.objects r.input agrees);
          kept = subst (Kept w called c.temp s.objects) (sym r.objects) (kept_write w called c.temp c.temp v s.objects own (omega arith));
          shape = subst (SameShape s.objects) (sym r.objects) (with_word_shape s.objects c.temp 0 v);
          store = subst (KeptStore w called c.temp d) (sym r.state) (λ x fixed. refl);
        }

-- what an expression needs to be lowered where it stands
pub record Tracked (g : Graph) (w : Ground) (scope : ℕ → Type 0) (most n : ℕ) (called later : Bool) (p : Part ℕ) (emit : Emit Operand) : Type 0 where
  pub grows : Grows emit
  pub stays : Stays w later emit
  pub tracks : ExprTracks g w scope most n called p emit

abbrev pub then_made : Emit Operand → (Operand → ℕ → ℕ → Op) → Emit Operand
then_made ea f c = made_on (ea c) (λ x. made_op (f x))

-- an operand and an operation
pub one_operand : (g : Graph) (w : Ground) (scope : ℕ → Type 0) (most n : ℕ) (called later : Bool) (p : Part ℕ) (emit : Emit Operand) (f : Operand → ℕ → ℕ → Op) (W : ℕ → Worked)
    → OwnsTemporaries w → HasHomes w scope → Tracked g w scope most n called later p emit
    → ((x : Operand) (t m : ℕ) → IsWorked (f x t m).kind × ((f x t m).dest ≡ Some t))
    → ((x : Operand) (t m : ℕ) (ws : Words) → operand_word ws x < 2 ^ 16 → gives (f x t m).kind (operand_word ws (f x t m).a) (operand_word ws (f x t m).b) ≡ W (operand_word ws x))
    → ((v n : ℕ) → v < 2 ^ 16 → W v ≡ Gives n → n < 2 ^ 16)
    → LevelTracks g w scope most n called (p >>= (λ v. word_or_trap (W v))) (then_made emit f)
one_operand g w scope most n called later p emit f W owns homes pa is gives' fits c le top k s d a o agrees ready =
    let m : Made Operand = emit c in
    let le' : w.base ≤ m.counts.temp = omega (arith, le, pa.grows c) in
    let top' : m.counts.temp ≤ w.top = omega (arith, top) in
    tracks_append g most (a + n) a a (6 + o) (suc (6 + o)) (suc o) (p d) (λ v. word_or_trap (W v)) k m.items (made_op (f m.value) m.counts).items s _ _
    (tracks_weaker g most (a + n) a (6 + o) (suc (6 + o)) (a + n) a (6 + o) (suc (6 + o)) (p d) _ m.items s _ _ (omega arith) (omega arith) (omega arith) (omega arith) (λ v d' z r. r)
    (pa.tracks c le top' _ s d a (6 + o) agrees ready))
    (λ v d1 z calls r. let ready1 : Ready w z.objects = ready_on w s.objects z.objects r.shape ready in
    let fit : operand_word z.objects m.value < 2 ^ 16 = operand_fits w later m.counts.temp m.value z.objects (pa.stays c le top') r.agrees.fit in
    let h = gives' m.value m.counts.temp m.counts.op z.objects fit ∙ ap W r.value in
    tracks_weaker g most a (a + most) (suc (6 + o)) (6 + o) a a (suc (6 + o)) (suc o) (word_or_trap (W v) d1) k (made_op (f m.value) m.counts).items z _ _ (omega arith) (omega arith) (omega arith) (omega arith)
    (λ u d2 z2 e. record {
      value = e.value;
      agrees = e.agrees;
      kept = kept_both w called called called c.temp c.temp m.counts.temp s.objects z.objects z2.objects (λ x. x) (λ x. x) (omega arith) (pa.grows c) r.kept e.kept;
      shape = shape_both s.objects z.objects z2.objects r.shape e.shape;
      store = store_both w called called called c.temp c.temp m.counts.temp d d1 d2 (λ x. x) (λ x. x) (omega arith) (pa.grows c) r.store e.store;
    })
    (tracks_made g w scope most called (f m.value) (W v) m.counts k z d1 a (6 + o) owns homes le' top r.agrees ready1
    (is m.value m.counts.temp m.counts.op).0 (is m.value m.counts.temp m.counts.op).1 h (λ u. fits v u (subst (λ x. x < 2 ^ 16) r.value fit))))

abbrev pub then_made_both : Emit Operand → Emit Operand → (Operand → Operand → ℕ → ℕ → Op) → Emit Operand
then_made_both ea eb f c = made_on (ea c) (λ x c'. made_on (eb c') (λ y. made_op (f x y)))

-- two operands and an operation
pub two_operands : (g : Graph) (w : Ground) (scope : ℕ → Type 0) (most na nb : ℕ) (called ca cb later later' : Bool) (p q : Part ℕ) (ea eb : Emit Operand)
    (f : Operand → Operand → ℕ → ℕ → Op) (W : ℕ → ℕ → Worked)
    → OwnsTemporaries w → HasHomes w scope → (called ≡ false → ca ≡ false) → (called ≡ false → cb ≡ false) → (later' ≡ false → cb ≡ false)
    → Tracked g w scope most na ca later' p ea → Tracked g w scope most nb cb later q eb
    → ((x y : Operand) (t m : ℕ) → IsWorked (f x y t m).kind × ((f x y t m).dest ≡ Some t))
    → ((x y : Operand) (t m : ℕ) (ws : Words) → operand_word ws x < 2 ^ 16 → operand_word ws y < 2 ^ 16
    → gives (f x y t m).kind (operand_word ws (f x y t m).a) (operand_word ws (f x y t m).b) ≡ W (operand_word ws x) (operand_word ws y))
    → ((v u n : ℕ) → v < 2 ^ 16 → u < 2 ^ 16 → W v u ≡ Gives n → n < 2 ^ 16)
    → LevelTracks g w scope most (na + nb) called (p >>= (λ v. q >>= (λ u. word_or_trap (W v u)))) (then_made_both ea eb f)
two_operands g w scope most na nb called ca cb later later' p q ea eb f W owns homes fa fb fl pa pb is gives' fits c le top k s d a o agrees ready =
    let m : Made Operand = ea c in
    let n : Made Operand = eb m.counts in
    let last : Made Operand = made_op (f m.value n.value) n.counts in
    let le1 : w.base ≤ m.counts.temp = omega (arith, le, pa.grows c) in
    let le2 : w.base ≤ n.counts.temp = omega (arith, le1, pb.grows m.counts) in
    let top2 : n.counts.temp ≤ w.top = omega (arith, top) in
    let top1 : m.counts.temp ≤ w.top = omega (arith, top2, pb.grows m.counts) in
    tracks_append g most (a + (na + nb)) (a + nb) a (6 + o) (suc (6 + o)) (suc o) (p d) (λ v. q >>= (λ u. word_or_trap (W v u))) k m.items (n.items ++ last.items) s _ _
    (tracks_weaker g most (a + nb + na) (a + nb) (6 + o) (suc (6 + o)) (a + (na + nb)) (a + nb) (6 + o) (suc (6 + o)) (p d) _ m.items s _ _
    (omega arith) (omega arith) (omega arith) (omega arith) (λ v d' z r. r)
    (pa.tracks c le top1 _ s d (a + nb) (6 + o) agrees ready))
    (λ v d1 z calls r. let ready1 : Ready w z.objects = ready_on w s.objects z.objects r.shape ready in
    tracks_append g most (a + nb) a a (suc (6 + o)) (suc (suc (6 + o))) (suc o) (q d1) (λ u. word_or_trap (W v u)) k n.items last.items z _ _
    (pb.tracks m.counts le1 top2 _ z d1 a (suc (6 + o)) r.agrees ready1)
    (λ u d2 y calls2 r2. let ready2 : Ready w y.objects = ready_on w z.objects y.objects r2.shape ready1 in
    let same : operand_word y.objects m.value ≡ v = operand_stays w later' cb m.counts.temp m.value z.objects y.objects fl (pa.stays c le top1) r2.kept ∙ r.value in
    let fit1 : operand_word y.objects m.value < 2 ^ 16 = operand_fits w later' m.counts.temp m.value y.objects (pa.stays c le top1) r2.agrees.fit in
    let fit2 : operand_word y.objects n.value < 2 ^ 16 = operand_fits w later n.counts.temp n.value y.objects (pb.stays m.counts le1 top2) r2.agrees.fit in
    let h : _ ≡ W v u = gives' m.value n.value n.counts.temp n.counts.op y.objects fit1 fit2 ∙ ap (λ x. W x (operand_word y.objects n.value)) same ∙ ap (W v) r2.value in
    tracks_weaker g most a (a + most) (suc (suc (6 + o))) (suc (6 + o)) a a (suc (suc (6 + o))) (suc o) (word_or_trap (W v u) d2) k last.items y _ _
    (omega arith) (omega arith) (omega arith) (omega arith)
    (λ x d3 y3 e. record {
      value = e.value;
      agrees = e.agrees;
      kept = kept_both w called ca called c.temp c.temp c.temp s.objects z.objects y3.objects fa (λ x. x) (omega arith) (omega arith) r.kept
          (kept_both w called cb called c.temp m.counts.temp n.counts.temp z.objects y.objects y3.objects fb (λ x. x) (pa.grows c) (omega (arith, pa.grows c, pb.grows m.counts)) r2.kept e.kept);
      shape = shape_both s.objects z.objects y3.objects r.shape (shape_both z.objects y.objects y3.objects r2.shape e.shape);
      store = store_both w called ca called c.temp c.temp c.temp d d1 d3 fa (λ x. x) (omega arith) (omega arith) r.store
          (store_both w called cb called c.temp m.counts.temp n.counts.temp d1 d2 d3 fb (λ x. x) (pa.grows c) (omega (arith, pa.grows c, pb.grows m.counts)) r2.store e.store);
    })
    (tracks_made g w scope most called (f m.value n.value) (W v u) n.counts k y d2 a (suc (6 + o)) owns homes le2 top r2.agrees ready2
    (is m.value n.value n.counts.temp n.counts.op).0 (is m.value n.value n.counts.temp n.counts.op).1 h (λ n'. fits v u n' (subst (λ x. x < 2 ^ 16) same fit1) (subst (λ x. x < 2 ^ 16) r2.value fit2)))))

-- ---- numbers and variables

-- an expression without an operation
pub no_operation : (g : Graph) (w : Ground) (scope : ℕ → Type 0) (most : ℕ) (called : Bool) (v : State → ℕ) (x : Operand)
    → ((s : Spot) (d : State) → Agrees w scope d s → operand_word s.objects x ≡ v d)
    → LevelTracks g w scope most 0 called (λ d. part.Done [] (v d) d) (making.pure x)
no_operation g w scope most called v x value c le top k s d a o agrees ready =
    tracks_weaker g most a a (6 + o) (6 + o) (a + 0) a (6 + o) (suc o) (part.Done [] (v d) d) k [] s (Evaluated w scope called c.temp x s d) _
    (omega arith) (omega arith) (omega arith) (omega arith) (λ u e z r. r)
    (tracks_none g most a (6 + o) (v d) d k s (Evaluated w scope called c.temp x s d)
    (record { value = value s d agrees; agrees = agrees; kept = λ i fixed. refl; shape = λ i. refl; store = λ i fixed. refl }))

pub number : (g : Graph) (w : Ground) (scope : ℕ → Type 0) (most n : ℕ) (called : Bool) → LevelTracks g w scope most 0 called (part.pure n) (making.pure (Const n))
number g w scope most n called = no_operation g w scope most called (λ d. n) (Const n) (λ s d agrees. refl)

pub variable : (g : Graph) (w : Ground) (scope : ℕ → Type 0) (most x : ℕ) (called : Bool) → scope x → LevelTracks g w scope most 0 called (part.read x) (making.pure (Object (home w.setting x)))
variable g w scope most x called is = no_operation g w scope most called (λ d. slice_index_or (slice_index_or d.store x []) 0 0) (Object (home w.setting x))
    (λ s d agrees. ap (λ ws. slice_index_or ws 0 0) (agrees.variables x is))

pub is_copy : IsWorked kind.Copy
is_copy = record { effect = λ op a b s. refl; next = λ n. refl }

-- a global that is copied before a call
pub copied_variable : (g : Graph) (w : Ground) (scope : ℕ → Type 0) (most x : ℕ) (called : Bool) (at : Place) → OwnsTemporaries w → HasHomes w scope → scope x
    → LevelTracks g w scope most 0 called (part.read x) (making.make_of kind.Copy (Object (home w.setting x)) making.zero_operand at)
copied_variable g w scope most x called at owns homes is c le top k s d a o agrees ready =
    let f : ℕ → ℕ → Op = λ t. making.op_of kind.Copy (Some t) (Object (home w.setting x)) making.zero_operand None at in
    let v : ℕ = slice_index_or (slice_index_or d.store x []) 0 0 in
    let same : operand_word s.objects (Object (home w.setting x)) ≡ v = ap (λ ws. slice_index_or ws 0 0) (agrees.variables x is) in
    tracks_weaker g most a (a + most) (suc (5 + o)) (5 + o) (a + 0) a (6 + o) (suc o) (word_or_trap (Gives v) d) k (made_op f c).items s (Evaluated w scope called c.temp (Object c.temp) s d) _
    (omega arith) (omega arith) (omega arith) (omega arith) (λ u e z r. r)
    (tracks_made g w scope most called f (Gives v) c k s d a (5 + o) owns homes le top agrees ready is_copy refl (ap Gives same)
    (λ n e. subst (λ m. m < 2 ^ 16) (same ∙ ap word_of e) (agrees.fit (home w.setting x) 0)))
  where
    word_of : Worked → ℕ
    word_of (Gives n) = n
    word_of (Traps t) = 0

-- ---- `&&`, `||` and `?:`: a test, and two arms that write one temporary

abbrev pub chosen_emit : Emit Operand → Emit ℕ → (ℕ → Emit (Unit {0})) → Place → Emit Operand
chosen_emit ec x y at c = made_on (ec c) (λ v c1. made_on (making.numbered (making.test_of v at) c1) (λ test. arms test x y))

pub chosen : (g : Graph) (w : Ground) (scope : ℕ → Type 0) (most zc zx zy : ℕ) (called cc later : Bool) (pc px py : Part ℕ) (q : ℕ → Part ℕ) (ec : Emit Operand) (x : Emit ℕ) (y : ℕ → Emit (Unit {0})) (at : Place)
    → (called ≡ false → cc ≡ false) → Tracked g w scope most zc cc later pc ec
    → ((c : Counts) → c.temp ≤ (x c).counts.temp) → ((t : ℕ) (c : Counts) → c.temp ≤ (y t c).counts.temp)
    → ((c : Counts) → w.base ≤ c.temp → (x c).counts.temp ≤ w.top → (k : Around) (s : Spot) (d : State) (a o : ℕ) → Agrees w scope d s → Ready w s.objects
    → Tracks g most (a + zx) a (6 + o) (suc o) (px d) k (x c).items s (Evaluated w scope called c.temp (Object (x c).value) s d))
    → ((c c' : Counts) → w.base ≤ c.temp → (x c).counts.temp ≤ w.top → c' ≡ (x c).counts → (y (x c).value c').counts.temp ≤ w.top
    → (k : Around) (s : Spot) (d : State) (a o : ℕ) → Agrees w scope d s → Ready w s.objects
    → Tracks g most (a + zy) a (6 + o) (suc o) (py d) k (y (x c).value c').items s (Evaluated w scope called c.temp (Object (x c).value) s d))
    → ((v : ℕ) → q v ≡ either (is_set v) px py)
    → LevelTracks g w scope most (zc + (zx + zy)) called (pc >>= q) (chosen_emit ec x y at)
chosen g w scope most zc zx zy called cc later pc px py q ec x y at fc pa gx gy hx hy eq c le top k s d a o agrees ready =
    tracks_append g most (a + (zc + (zx + zy))) (a + (zx + zy)) a (6 + o) (suc (6 + o)) (suc o) (pc d) q k m.items branch s _ goal
    (tracks_weaker g most (a + (zx + zy) + zc) (a + (zx + zy)) (6 + o) (suc (6 + o)) (a + (zc + (zx + zy))) (a + (zx + zy)) (6 + o) (suc (6 + o)) (pc d) _ m.items s _ _
    (omega arith) (omega arith) (omega arith) (omega arith) (λ v e z r. r)
    (pa.tracks c le (omega (arith, top, gx c2, gy mx.value mx.counts)) _ s d (a + (zx + zy)) (6 + o) agrees ready))
    (λ v e z calls r. subst (λ b. Tracks g most (a + (zx + zy)) a (suc (6 + o)) (suc o) (b e) k branch z goal) (sym (eq v)) (tracks_branch g most (a + (zx + zy)) a (6 + o) (suc o) px py v k test mx.items my.items z e goal refl refl r.value
    (λ n. arm v e z r n zx px mx.items (omega arith) (hx c2 le2 (omega (arith, top, gy mx.value mx.counts)) k (record z { at = n }) e a o (moved e z n r.agrees) (ready_on w s.objects z.objects r.shape ready)))
    (λ n. arm v e z r n zy py my.items (omega arith) (hy c2 mx.counts le2 (omega (arith, top, gy mx.value mx.counts)) refl top k (record z { at = n }) e a o (moved e z n r.agrees) (ready_on w s.objects z.objects r.shape ready)))))
  where
    m : Made Operand
    m = ec c

    test : Op
    test = making.test_of m.value at m.counts.op

    c2 : Counts
    c2 = record { op = m.counts.op + 1; temp = m.counts.temp }

    le2 : w.base ≤ c2.temp
    le2 = omega (arith, le, pa.grows c)

    mx : Made ℕ
    mx = x c2

    my : Made (Unit {0})
    my = y mx.value mx.counts

    goal : ℕ → State → Spot → Type 0
    goal = Evaluated w scope called c.temp (Object mx.value) s d

    branch : List Item
    branch = item.Branch test mx.items my.items ∷ []

    moved : (e : State) (z : Spot) (n : ℕ) → Agrees w scope e z → Agrees w scope e (record z { at = n })
    moved e z n h = record { variables = h.variables; shape = h.shape; input = h.input; fit = h.fit }

    arm : (v : ℕ) (e : State) (z : Spot) (r : Evaluated w scope cc c.temp m.value s d v e z) (n zz : ℕ) (p : Part ℕ) (items : List Item) → zz ≤ zx + zy
        → Tracks g most (a + zz) a (6 + o) (suc o) (p e) k items (record z { at = n }) (Evaluated w scope called c2.temp (Object mx.value) (record z { at = n }) e)
        → Tracks g most (a + (zx + zy) + most) a (6 + o) (suc o) (p e) k items (record z { at = n }) (Evaluated w scope called c.temp (Object mx.value) s d)
    arm v e z r n zz p items lz h = tracks_weaker g most (a + zz) a (6 + o) (suc o) (a + (zx + zy) + most) a (6 + o) (suc o) (p e) k items (record z { at = n }) _ _
        (omega (arith, lz)) (omega (arith, lz)) (omega arith) (omega arith)
        (λ u e' y' q. record {
          value = q.value;
          agrees = q.agrees;
          kept = kept_both w called cc called c.temp c.temp c2.temp s.objects z.objects y'.objects fc (λ b. b) (omega arith) (pa.grows c) r.kept q.kept;
          shape = shape_both s.objects z.objects y'.objects r.shape q.shape;
          store = store_both w called cc called c.temp c.temp c2.temp d e e' fc (λ b. b) (omega arith) (pa.grows c) r.store q.store;
        }) h
