-- The labels of a group of a `switch`: the meaning begins a step for each, and the graph then compares them, one after another.
use Rattle.std.proofs.Common.{◌≡◌, ℕ, suc, ◌+◌, ◌*◌, ◌^◌, ◌<◌, ◌≤◌, Bool, true, false, Option, Some, None, List, [], ◌∷◌, length, refl, sym, ap, ◌∙◌, subst, arith}
use Rattle.std.specs.Prelude.{◌||◌, ◌==◌, is_none, bit_or}
use Rattle.c_values.specs.Values.{Gives, from_test}
use Rattle.c_tree.specs.declared.tree.Label.{Label}
use Rattle.c_tree.specs.Runs.{State, Got, Done, begin, ◌>>◌}
use Rattle.c_tree.specs.Nodes.{begin_labels, has_default, has_label, is_label}
use Rattle.flow_graph.specs.declared.graph.Graph.{Graph}
use Rattle.flow_graph.specs.declared.graph.Op.{Op}
use Rattle.flow_graph.specs.declared.graph.OpKind.TheVariants as kind
use Rattle.flow_graph.specs.declared.graph.Operand.{Operand}
use Rattle.flow_graph.specs.declared.graph.Operand.TheVariants.{Const, Object}
use Rattle.flow_graph.specs.declared.graph.Item.{Item}
use Rattle.flow_graph.specs.declared.graph.Item.TheVariants as item
use Rattle.flow_graph.specs.Operations.{operand_word, gives}
use Rattle.flow_graph.specs.declared.nodes.Around.{Around}
use Rattle.flow_graph.specs.Nodes.{at_behind, first_of, laid_items}
use Rattle.flow_graph.specs.Flow.{Spot}
use Rattle.lowered_graphs.specs.Making.{Counts, Made, op_of}
use Rattle.lowered_graphs.specs.Stmts.{label_word, more_labels, labels}
use Rattle.lowered_meaning.specs.Runs.{Comes, Runs}
use Rattle.lowered_meaning.specs.Tracks.{Stand, Behind}
use Rattle.lowered_meaning.specs.Keeps.{Ground, Ready, StaysBy, IsOperand, OwnsTemporaries, HasHomes, Agrees, Evaluated}
use Rattle.lowered_meaning.proofs.RunLemmas.{runs_begin, runs_behind, runs_done, runs_weaker, behind_none}
use Rattle.lowered_meaning.proofs.TrackLemmas.{IsWorked, stands_left, stands_right, first_left}
use Rattle.lowered_meaning.proofs.KeepLemmas.{ready_on, operand_stays}
use Rattle.lowered_meaning.proofs.ShapeLemmas.{tracks_made}
use Rattle.lowered_meaning.proofs.ElementSteps.{evaluated_both}
use Rattle.lowered_meaning.proofs.CountedParts.{IsSame}

-- ---- operations of no step

pub comes_then : {A : Type 0} (g : Graph) (most a b c o u w : ℕ) (rest : Got A) (s : Spot) (P : Spot → Type 0) (rel : A → State → Spot → Type 0)
    → Comes g most a b o u [] s P → ((z : Spot) → P z → Runs g most b c u w rest z rel) → Runs g most a c o w rest s rel
comes_then g most a b c o u w rest s P rel r next =
    subst (λ x. Runs g most a c o w x s rel) (behind_none rest) (runs_behind g most a b c o u w r.ops [] rest s r.spot rel r.does r.pays (next r.spot r.related))

abbrev done : State → Got (Unit {0})
done d = Done [] tt d

pub comes_on : (g : Graph) (most a b c o u w : ℕ) (s : Spot) (P Q : Spot → Type 0) → Comes g most a b o u [] s P → ((z : Spot) → P z → Comes g most b c u w [] z Q) → Comes g most a c o w [] s Q
comes_on g most a b c o u w s P Q r next = comes_then g most a b c o u w (done (record { store = []; input = []; left = 0 })) s P (λ x d z. Q z) r next

pub comes_weaker : (g : Graph) (most a b o u a' b' o' u' : ℕ) (s : Spot) (P Q : Spot → Type 0) → a ≤ a' → b' + a ≤ b + a' → o ≤ o' → u' + o ≤ u + o' → ((z : Spot) → P z → Q z)
    → Comes g most a b o u [] s P → Comes g most a' b' o' u' [] s Q
comes_weaker g most a b o u a' b' o' u' s P Q e1 e2 e3 e4 f r = runs_weaker g most a b o u a' b' o' u' (done (record { store = []; input = []; left = 0 })) s (λ x d z. P z) (λ x d z. Q z) e1 e2 e3 e4 (λ x d z. f z) r

-- ---- words of tests

is_equal : IsWorked kind.Eq
is_equal = record { effect = λ op a b s. refl; next = λ n. refl }

is_or : IsWorked kind.BitOr
is_or = record { effect = λ op a b s. refl; next = λ n. refl }

tests_or : (a b : Bool) → bit_or (from_test a) (from_test b) ≡ from_test (a || b)
tests_or true true = refl
tests_or true false = refl
tests_or false true = refl
tests_or false false = refl

or_assoc : (a b c : Bool) → ((a || b) || c) ≡ (a || (b || c))
or_assoc true b c = refl
or_assoc false b c = refl

small_gives : (b : Bool) (n : ℕ) → Gives (from_test b) ≡ Gives n → n < 2 ^ 16
small_gives true n e = grind arith
small_gives false n e = grind arith

or_left : (a b : Bool) → (a || b) ≡ false → a ≡ false
or_left false b e = refl
or_left true b e = cc

or_right : (a b : Bool) → (a || b) ≡ false → b ≡ false
or_right false b e = e
or_right true b e = cc

-- a label that isn't `default` has its word
labelled : (x : ℕ) (l : Option ℕ) → is_none l ≡ false → is_label x l ≡ (x == label_word l)
labelled x None e = cc
labelled x (Some w) e = refl

module _ (g : Graph) (most : ℕ) where
  -- the graph does nothing while the labels' steps begin
  pub labels_begun : (ls : List Label) (d : State) (z : Spot) (a o : ℕ) → Runs g most (a + length ls) a o (6 * length ls + o) (begin_labels ls d) z (λ u e y. (y ≡ z) × IsSame d e)
  labels_begun [] d z a o = runs_weaker g most a a o o (a + 0) a o (6 * 0 + o) (Done [] (tt {0}) d) z goal goal (omega arith) (omega arith) (omega arith) (omega arith) (λ u e y r. r)
      (runs_done g most a o (tt {0}) d z goal (refl, (d.left, refl)))
    where
      goal : Unit {0} → State → Spot → Type 0
      goal u e y = (y ≡ z) × IsSame d e
  labels_begun (l ∷ ls) d z a o = runs_weaker g most (suc (a + length ls)) a o (6 * length ls + (6 + o)) (a + suc (length ls)) a o (6 * suc (length ls) + o) ((begin >> begin_labels ls) d) z goal goal
      (omega arith) (omega arith) (omega arith) (omega arith) (λ u e y r. r)
      (runs_begin g most (a + length ls) a o (6 * length ls + (6 + o)) d.left d (begin_labels ls) z goal (λ j. labels_begun ls (record d { left = j }) z a (6 + o)))
    where
      goal : Unit {0} → State → Spot → Type 0
      goal u e y = (y ≡ z) × IsSame d e

pub more_up : (v found : Operand) (ls : List Label) (c : Counts) → c.temp ≤ (more_labels v found ls c).counts.temp
more_up v found [] c = omega arith
more_up v found (l ∷ ls) c = let h : c.temp + 1 + 1 ≤ (more_labels v (Object (c.temp + 1)) ls (record { op = c.op + 1 + 1; temp = c.temp + 1 + 1 })).counts.temp
    = more_up v (Object (c.temp + 1)) ls (record { op = c.op + 1 + 1; temp = c.temp + 1 + 1 }) in omega (arith, h)

pub labels_up : (v : Operand) (ls : List Label) (c : Counts) → c.temp ≤ (labels v ls c).counts.temp
labels_up v [] c = omega arith
labels_up v (l ∷ ls) c = let h : c.temp + 1 ≤ (more_labels v (Object c.temp) ls (record { op = c.op + 1; temp = c.temp + 1 })).counts.temp
    = more_up v (Object c.temp) ls (record { op = c.op + 1; temp = c.temp + 1 }) in omega (arith, h)

-- an operand that keeps its value over what is behind a temporary does so over what is behind a later one
pub is_later : (w : Ground) (v : Operand) (t t' : ℕ) → IsOperand w true t v → t ≤ t' → IsOperand w true t' v
is_later w (Const n) t t' is le = is
is_later w (Object o) t t' is le = by_owner (w.owner o) is
  where
    by_owner : (m : Option ℕ) → StaysBy w true t o m → StaysBy w true t' o m
    by_owner None e = e
    by_owner (Some m) e = (e.0, omega (arith, e.1, le))

module _ (g : Graph) (w : Ground) (scope : ℕ → Type 0) (most : ℕ) (owns : OwnsTemporaries w) (homes : HasHomes w scope) where
  -- at a spot behind a part that only writes temporaries
  pub record Reached (k : Around) (s : Spot) (d : State) (t : ℕ) (a : Operand) (v : ℕ) (z : Spot) : Type 0 where
    pub at : z.at ≡ k.behind
    pub calls : z.calls ≡ s.calls
    pub value : Evaluated w scope false t a s d v d z

  -- what the operation gives
  abbrev IsGiven : (ℕ → ℕ → Op) → Counts → Spot → Bool → Type 0
  IsGiven f c s b = gives (f c.temp c.op).kind (operand_word s.objects (f c.temp c.op).a) (operand_word s.objects (f c.temp c.op).b) ≡ Gives (from_test b)

  -- a test's word goes into a new temporary
  one_test : (f : ℕ → ℕ → Op) (b : Bool) (c : Counts) (k : Around) (s : Spot) (d : State) (a o : ℕ) → w.base ≤ c.temp → c.temp + 1 ≤ w.top → Agrees w scope d s → Ready w s.objects
      → ((t n : ℕ) → IsWorked (f t n).kind × ((f t n).dest ≡ Some t)) → IsGiven f c s b
      → Stand g k (item.One (f c.temp c.op) ∷ []) → s.at ≡ first_of (laid_items (item.One (f c.temp c.op) ∷ [])) k.behind
      → Comes g most a a (suc o) o [] s (Reached k s d c.temp (Object c.temp) (from_test b))
  one_test f b c k s d a o le top agrees ready is given stand at =
      comes_weaker g most a (a + most) (suc o) o a a (suc o) o s (λ z. Behind k.behind s.calls z × Evaluated w scope false c.temp (Object c.temp) s d (from_test b) d z) _
      (omega arith) (omega arith) (omega arith) (omega arith) (λ z r. record { at = r.0.at; calls = r.0.calls; value = r.1 })
      (tracks_made g w scope most false f (Gives (from_test b)) c k s d a o owns homes le top agrees ready (is c.temp c.op).0 (is c.temp c.op).1 given (λ n e. small_gives b n e) stand at)

  abbrev equal_op : Operand → Label → ℕ → ℕ → Op
  equal_op v l t n = op_of kind.Eq (Some t) v (Const (label_word l.value)) None l.place n

  abbrev or_op : Operand → Operand → Label → ℕ → ℕ → Op
  or_op x y l t n = op_of kind.BitOr (Some t) x y None l.place n

  label_test : (x : ℕ) (v : Operand) (l : Label) (c : Counts) (k : Around) (s : Spot) (d : State) (a o : ℕ) → w.base ≤ c.temp → c.temp + 1 ≤ w.top → Agrees w scope d s → Ready w s.objects
      → operand_word s.objects v ≡ x → is_none l.value ≡ false
      → Stand g k (item.One (equal_op v l c.temp c.op) ∷ []) → s.at ≡ first_of (laid_items (item.One (equal_op v l c.temp c.op) ∷ [])) k.behind
      → Comes g most a a (suc o) o [] s (Reached k s d c.temp (Object c.temp) (from_test (is_label x l.value)))
  label_test x v l c k s d a o le top agrees ready value named stand at =
      one_test (equal_op v l) (is_label x l.value) c k s d a o le top agrees ready (λ t n. (is_equal, refl))
      (ap (λ y. Gives (from_test (y == label_word l.value))) value ∙ ap (λ b. Gives (from_test b)) (sym (labelled x l.value named))) stand at

  -- the labels behind the first
  more_run : (x : ℕ) (v : Operand) (ls : List Label) (b : Bool) (found : Operand) (c : Counts) (k : Around) (s : Spot) (d : State) (a o : ℕ)
      → w.base ≤ c.temp → (more_labels v found ls c).counts.temp ≤ w.top → Agrees w scope d s → Ready w s.objects → IsOperand w true c.temp v → operand_word s.objects v ≡ x
      → IsOperand w true c.temp found → operand_word s.objects found ≡ from_test b → has_default ls ≡ false
      → Stand g k (more_labels v found ls c).items → s.at ≡ first_of (laid_items (more_labels v found ls c).items) k.behind
      → Comes g most a a (2 * length ls + o) o [] s (Reached k s d c.temp (more_labels v found ls c).value (from_test (b || has_label x ls)))
  more_run x v [] b found c k s d a o le top agrees ready isv value isf fvalue none stand at =
      comes_weaker g most a a o o a a (2 * 0 + o) o s (Reached k s d c.temp found (from_test (b || false))) (Reached k s d c.temp found (from_test (b || false))) (omega arith) (omega arith) (omega arith) (omega arith) (λ z r. r)
      (runs_done g most a o (tt {0}) d s (λ u e z. Reached k s d c.temp found (from_test (b || false)) z)
      (record { at = at; calls = refl; value = record { value = fvalue ∙ ap from_test (or_false b); agrees = agrees; kept = λ o' fixed. refl; shape = λ o'. refl; store = λ x' fixed. refl } }))
    where
      or_false : (b' : Bool) → b' ≡ (b' || false)
      or_false true = refl
      or_false false = refl
  more_run x v (l ∷ ls) b found c k s d a o le top agrees ready isv value isf fvalue none stand at =
      comes_weaker g most a a (suc (suc (2 * length ls + o))) o a a (2 * suc (length ls) + o) o s Goal Goal (omega arith) (omega arith) (omega arith) (omega arith) (λ z r. r)
      (comes_on g most a a a (suc (suc (2 * length ls + o))) (suc (2 * length ls + o)) o s _ Goal
      (label_test x v l c (at_behind k behind1) s d a (suc (2 * length ls + o)) le (omega (arith, top, grown)) agrees ready value (or_left (is_none l.value) (has_default ls) none)
      (stands_left g k (item.One e1 ∷ []) rest1 stand) (at ∙ first_left (item.One e1 ∷ []) rest1 k.behind))
      (λ z r. equal z r (λ y ag rd iv va isf' fv no st at'. more_run x v ls (b || is_label x l.value) (Object (c.temp + 1)) (record { op = c.op + 1 + 1; temp = c.temp + 1 + 1 }) k y d a o (omega (arith, le)) top ag rd iv va isf' fv no st at')))
    where
      e1 : Op
      e1 = equal_op v l c.temp c.op

      c2 : Counts
      c2 = record { op = c.op + 1; temp = c.temp + 1 }

      e2 : Op
      e2 = or_op found (Object c.temp) l c2.temp c2.op

      c3 : Counts
      c3 = record { op = c.op + 1 + 1; temp = c.temp + 1 + 1 }

      M : Made Operand
      M = more_labels v (Object (c.temp + 1)) ls c3

      rest2 : List Item
      rest2 = M.items

      rest1 : List Item
      rest1 = item.One e2 ∷ rest2

      behind1 : ℕ
      behind1 = first_of (laid_items rest1) k.behind

      behind2 : ℕ
      behind2 = first_of (laid_items rest2) k.behind

      grown : c.temp + 1 + 1 ≤ (more_labels v (Object (c.temp + 1)) ls c3).counts.temp
      grown = more_up v (Object (c.temp + 1)) ls c3

      Goal : Spot → Type 0
      Goal = Reached k s d c.temp M.value (from_test (b || (is_label x l.value || has_label x ls)))

      own_temp : (t : ℕ) → w.base ≤ t → t < w.top → (t' : ℕ) → t < t' → IsOperand w true t' (Object t)
      own_temp t le' lt t' lt' = subst (λ m. StaysBy w true t' t m) (sym (owns t le' lt)) (refl, lt')

      Rest : Type 0
      Rest = (y : Spot) → Agrees w scope d y → Ready w y.objects → IsOperand w true c3.temp v → operand_word y.objects v ≡ x → IsOperand w true c3.temp (Object c2.temp)
          → operand_word y.objects (Object c2.temp) ≡ from_test (b || is_label x l.value) → has_default ls ≡ false → Stand g k rest2 → y.at ≡ first_of (laid_items rest2) k.behind
          → Comes g most a a (2 * length ls + o) o [] y (Reached k y d c3.temp M.value (from_test ((b || is_label x l.value) || has_label x ls)))

      equal : (z : Spot) → Reached (at_behind k behind1) s d c.temp (Object c.temp) (from_test (is_label x l.value)) z → Rest → Comes g most a a (suc (2 * length ls + o)) o [] z Goal
      equal z r more = comes_on g most a a a (suc (2 * length ls + o)) (2 * length ls + o) o z _ Goal
          (one_test (or_op found (Object c.temp) l) (b || is_label x l.value) c2 (at_behind k behind2) z d a (2 * length ls + o) (omega (arith, le)) (omega (arith, top, grown)) r.value.agrees ready2 (λ t n. (is_or, refl))
          (ap (λ y. Gives (bit_or y (operand_word z.objects (Object c.temp)))) found2 ∙ (ap (λ y. Gives (bit_or (from_test b) y)) r.value.value ∙ ap Gives (tests_or b (is_label x l.value))))
          (stands_left g k (item.One e2 ∷ []) rest2 (stands_right g k (item.One e1 ∷ []) rest1 stand)) (r.at ∙ first_left (item.One e2 ∷ []) rest2 k.behind))
          (λ y q. both_found y q)
        where
          ready2 : Ready w z.objects
          ready2 = ready_on w s.objects z.objects r.value.shape ready

          found2 : operand_word z.objects found ≡ from_test b
          found2 = operand_stays w true false c.temp found s.objects z.objects (λ e. refl) isf r.value.kept ∙ fvalue

          both_found : (y : Spot) → Reached (at_behind k behind2) z d c2.temp (Object c2.temp) (from_test (b || is_label x l.value)) y → Comes g most a a (2 * length ls + o) o [] y Goal
          both_found y q =
              let ev : Evaluated w scope false c.temp (Object c2.temp) s d (from_test (b || is_label x l.value)) d y =
              evaluated_both w scope false false false c.temp c.temp c2.temp (from_test (is_label x l.value)) (from_test (b || is_label x l.value)) (Object c.temp) (Object c2.temp) s z y d d d (λ e. e) (λ e. e) (omega arith) (omega arith) r.value q.value in
              comes_weaker g most a a (2 * length ls + o) o a a (2 * length ls + o) o y _ Goal (omega arith) (omega arith) (omega arith) (omega arith)
              (λ y' t. record {
                at = t.at;
                calls = t.calls ∙ (q.calls ∙ r.calls);
                value = subst (λ m. Evaluated w scope false c.temp M.value s d (from_test m) d y') (or_assoc b (is_label x l.value) (has_label x ls))
                    (evaluated_both w scope false false false c.temp c.temp c3.temp (from_test (b || is_label x l.value)) (from_test ((b || is_label x l.value) || has_label x ls)) (Object c2.temp) M.value s y y' d d d (λ e. e) (λ e. e) (omega arith) (omega arith) ev t.value);
              })
              (more y ev.agrees (ready_on w s.objects y.objects ev.shape ready)
              (is_later w v c.temp c3.temp isv (omega arith)) (operand_stays w true false c.temp v s.objects y.objects (λ e. refl) isv ev.kept ∙ value)
              (own_temp c2.temp (omega (arith, le)) (omega (arith, top, grown)) c3.temp (omega arith)) ev.value (or_right (is_none l.value) (has_default ls) none)
              (stands_right g k (item.One e2 ∷ []) rest2 (stands_right g k (item.One e1 ∷ []) rest1 stand)) q.at)

  -- all labels of a group
  pub labels_run : (x : ℕ) (v : Operand) (ls : List Label) (c : Counts) (k : Around) (s : Spot) (d : State) (a o : ℕ)
      → w.base ≤ c.temp → (labels v ls c).counts.temp ≤ w.top → Agrees w scope d s → Ready w s.objects → IsOperand w true c.temp v → operand_word s.objects v ≡ x
      → has_default ls ≡ false → 1 ≤ length ls
      → Stand g k (labels v ls c).items → s.at ≡ first_of (laid_items (labels v ls c).items) k.behind
      → Comes g most a a (2 * length ls + o) o [] s (Reached k s d c.temp (labels v ls c).value (from_test (has_label x ls)))
  labels_run x v [] c k s d a o le top agrees ready isv value none some stand at = absurd (omega (arith, some))
  labels_run x v (l ∷ ls) c k s d a o le top agrees ready isv value none some stand at =
      comes_weaker g most a a (suc (2 * length ls + o)) o a a (2 * suc (length ls) + o) o s Goal Goal (omega arith) (omega arith) (omega arith) (omega arith) (λ z r. r)
      (comes_on g most a a a (suc (2 * length ls + o)) (2 * length ls + o) o s _ Goal
      (label_test x v l c (at_behind k behind1) s d a (2 * length ls + o) le (omega (arith, top, grown)) agrees ready value (or_left (is_none l.value) (has_default ls) none)
      (stands_left g k (item.One e1 ∷ []) M.items stand) (at ∙ first_left (item.One e1 ∷ []) M.items k.behind))
      (λ z r. comes_weaker g most a a (2 * length ls + o) o a a (2 * length ls + o) o z _ Goal (omega arith) (omega arith) (omega arith) (omega arith)
      (λ y t. record { at = t.at; calls = t.calls ∙ r.calls; value = evaluated_both w scope false false false c.temp c.temp c2.temp (from_test (is_label x l.value)) (from_test (is_label x l.value || has_label x ls)) (Object c.temp) M.value s z y d d d (λ e. e) (λ e. e) (omega arith) (omega arith) r.value t.value })
      (more_run x v ls (is_label x l.value) (Object c.temp) c2 k z d a o (omega (arith, le)) top r.value.agrees (ready_on w s.objects z.objects r.value.shape ready)
      (is_later w v c.temp c2.temp isv (omega arith)) (operand_stays w true false c.temp v s.objects z.objects (λ e. refl) isv r.value.kept ∙ value)
      (subst (λ m. StaysBy w true c2.temp c.temp m) (sym (owns c.temp le (omega (arith, top, grown)))) (refl, omega arith)) r.value.value (or_right (is_none l.value) (has_default ls) none)
      (stands_right g k (item.One e1 ∷ []) M.items stand) r.at)))
    where
      e1 : Op
      e1 = equal_op v l c.temp c.op

      c2 : Counts
      c2 = record { op = c.op + 1; temp = c.temp + 1 }

      M : Made Operand
      M = more_labels v (Object c.temp) ls c2

      behind1 : ℕ
      behind1 = first_of (laid_items M.items) k.behind

      grown : c.temp + 1 ≤ M.counts.temp
      grown = more_up v (Object c.temp) ls c2

      Goal : Spot → Type 0
      Goal = Reached k s d c.temp M.value (from_test (is_label x l.value || has_label x ls))
