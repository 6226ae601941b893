-- Assignments with an operator: the steps begun, the value read and converted, the right side, the operator, the conversion back, the store.
use Rattle.std.proofs.Common.{◌≡◌, ◌≢◌, ℕ, zero, suc, ◌+◌, ◌*◌, ◌^◌, ◌<◌, ◌≤◌, Bool, true, false, Option, Some, None, List, [], ◌++◌, refl, sym, ap, ◌∙◌, subst, arith}
use Rattle.std.specs.Prelude.{if◌then◌else◌}
use Rattle.base_io.specs.declared.place.Place.{Place}
use Rattle.c_values.specs.declared.ops.Ty.{Ty}
use Rattle.c_values.specs.declared.ops.Ty.TheVariants.{I8, U8, I16, U16}
use Rattle.c_values.specs.declared.ops.BinaryOp.{BinaryOp}
use Rattle.c_values.specs.declared.ops.BinaryOp.TheVariants as binary
use Rattle.c_values.specs.Values.{Worked, Gives, Traps, converted, binary_of}
use Rattle.c_tree.specs.Runs.{State, Done, Part, begin, begin_at, skip, either, word_or_trap, ◌>>=◌, ◌>>◌}
use Rattle.c_tree.specs.Nodes.{same_type, conversion, begin_update}
use Rattle.sound_programs.specs.Counted.{update_nodes}
use Rattle.flow_graph.specs.declared.graph.Graph.{Graph}
use Rattle.flow_graph.specs.declared.graph.OpKind.{OpKind}
use Rattle.flow_graph.specs.declared.graph.Operand.{Operand}
use Rattle.flow_graph.specs.declared.graph.Operand.TheVariants.{Object}
use Rattle.flow_graph.specs.declared.graph.Item.{Item}
use Rattle.flow_graph.specs.Operations.{word_at, operand_word, gives}
use Rattle.flow_graph.specs.declared.nodes.Around.{Around}
use Rattle.flow_graph.specs.Nodes.{at_behind, first_of, laid_items}
use Rattle.flow_graph.specs.Flow.{Spot}
use Rattle.lowered_graphs.specs.Making.{Counts, Emit, Made, op_of, zero_operand}
use Rattle.lowered_graphs.specs.Operators.{make_some, make_conversion, conversion_kind, make_binary, make_ordered, is_exchanged, binary_kind}
use Rattle.lowered_meaning.specs.Runs.{Runs}
use Rattle.lowered_meaning.specs.Tracks.{Tracks, Behind}
use Rattle.lowered_meaning.specs.Keeps.{Ground, Kept, KeptStore, SameShape, Ready, IsOperand, OwnsTemporaries, HasHomes, Agrees, Evaluated, Grows, Stays}
use Rattle.lowered_meaning.specs.Leaves.{Since}
use Rattle.lowered_meaning.proofs.RunLemmas.{runs_on, runs_done, runs_weaker, shows_none, behind_none}
use Rattle.lowered_meaning.proofs.TrackLemmas.{tracks_append, tracks_weaker, tracks_none}
use Rattle.lowered_meaning.proofs.KeepLemmas.{operand_stays, operand_fits}
use Rattle.lowered_meaning.proofs.SinceLemmas.{since_start, since_left, since_both, since_expr}
use Rattle.lowered_meaning.proofs.ShapeLemmas.{tracks_made}
use Rattle.lowered_meaning.proofs.ElementLoads.{stays_some}
use Rattle.lowered_meaning.proofs.CallsArguments.{operand_more}
use Rattle.lowered_meaning.proofs.WordsSame.{IsWide, below_of, binary_below, kept_below}
use Rattle.lowered_meaning.proofs.WordsTable.{ConvertsBy, WorksIfAny, is_idle, converts, conversion_works, gives_ordered, operator_gives, operator_works}

-- ---- steps that begin, and nothing done

-- the same spot, in the same state but for the steps that are left
abbrev pub Waits : Spot → State → Unit {0} → State → Spot → Type 0
Waits s d u e z = (z ≡ s) × (e ≡ record d { left = e.left })

runs_begun : (g : Graph) (most a o i : ℕ) (d : State) (s : Spot) → Runs g most (suc a) a o (6 + o) (begin_at i d) s (Waits s d)
runs_begun g most a o zero d s = shows_none g most (suc a) o s
runs_begun g most a o (suc i) d s = record { ops = 0; spot = s; does = refl; related = (refl, refl); pays = record { few = omega arith; many = omega arith } }

abbrev step_of : Bool → ℕ
step_of true = 0
step_of false = 1

runs_either : (g : Graph) (most a o : ℕ) (b : Bool) (d : State) (s : Spot) → Runs g most (a + step_of b) a o (6 * step_of b + o) (either b skip begin d) s (Waits s d)
runs_either g most a o true d s = runs_weaker g most a a o o (a + 0) a o (6 * 0 + o) (Done [] (tt {0}) d) s (Waits s d) (Waits s d) (omega arith) (omega arith) (omega arith) (omega arith) (λ v e z r. r)
    (runs_done g most a o (tt {0}) d s (Waits s d) (refl, refl))
runs_either g most a o false d s = runs_weaker g most (suc a) a o (6 + o) (a + 1) a o (6 * 1 + o) (begin d) s (Waits s d) (Waits s d) (omega arith) (omega arith) (omega arith) (omega arith) (λ v e z r. r)
    (runs_begun g most a o d.left d s)

waits_on : (s : Spot) (d : State) (u v : Unit {0}) (e e' : State) (z z' : Spot) → Waits s d u e z → Waits z e v e' z' → Waits s d v e' z'
waits_on s d u v e e' z z' p q = (q.0 ∙ p.0, q.1 ∙ ap (λ (x : State). record x { left = e'.left }) p.1)

runs_waiting : (g : Graph) (most a b c o u w : ℕ) (p q : Part (Unit {0})) (s : Spot) (d : State)
    → Runs g most a b o u (p d) s (Waits s d) → ((e : State) → Runs g most b c u w (q e) s (Waits s e)) → Runs g most a c o w ((p >> q) d) s (Waits s d)
runs_waiting g most a b c o u w p q s d h i =
    runs_on g most a b c o u w (p d) (λ _. q) s (Waits s d) (Waits s d) h
    (λ v e z r. subst (λ y. Runs g most b c u w (q e) y (Waits s d)) (sym r.0)
    (runs_weaker g most b c u w b c u w (q e) s (Waits s e) (Waits s d) (omega arith) (omega arith) (omega arith) (omega arith)
    (λ v' e' z' r'. waits_on s d v v' e e' s z' (refl, r.1) r') (i e)))

same_back : (a b : Ty) → same_type b a ≡ same_type a b
same_back I8 I8 = refl
same_back I8 U8 = refl
same_back I8 I16 = refl
same_back I8 U16 = refl
same_back U8 I8 = refl
same_back U8 U8 = refl
same_back U8 I16 = refl
same_back U8 U16 = refl
same_back I16 I8 = refl
same_back I16 U8 = refl
same_back I16 I16 = refl
same_back I16 U16 = refl
same_back U16 I8 = refl
same_back U16 U8 = refl
same_back U16 I16 = refl
same_back U16 U16 = refl

steps_are : (b : Bool) → step_of b + suc (step_of b) ≡ (if b then 1 else 3)
steps_are true = omega arith
steps_are false = omega arith

-- the steps of the operator and the conversions, which pay for six operations at least
pub runs_opened : (g : Graph) (most a o : ℕ) (own ty : Ty) (d : State) (s : Spot) → Runs g most (a + update_nodes own ty) a o (6 + o) (begin_update own ty d) s (Waits s d)
runs_opened g most a o own ty d s =
    runs_weaker g most (a + suc (step_of b) + step_of b) a o (6 * step_of b' + (6 + (6 * step_of b + o))) (a + update_nodes own ty) a o (6 + o) (begin_update own ty d) s (Waits s d) (Waits s d)
    (omega (arith, steps_are b)) (omega (arith, steps_are b)) (omega arith) (omega arith) (λ v e z r. r)
    (runs_waiting g most (a + suc (step_of b) + step_of b) (a + suc (step_of b)) a o (6 * step_of b + o) (6 * step_of b' + (6 + (6 * step_of b + o))) (conversion own ty) (begin >> conversion ty own) s d
    (runs_either g most (a + suc (step_of b)) o b d s)
    (λ e. runs_waiting g most (a + suc (step_of b)) (a + step_of b') a (6 * step_of b + o) (6 + (6 * step_of b + o)) (6 * step_of b' + (6 + (6 * step_of b + o))) begin (conversion ty own) s e
    (subst (λ n. Runs g most n (a + step_of b') (6 * step_of b + o) (6 + (6 * step_of b + o)) (begin e) s (Waits s e)) (omega (arith, ap step_of (same_back own ty))) (runs_begun g most (a + step_of b') (6 * step_of b + o) e.left e s))
    (λ e'. runs_either g most a (6 + (6 * step_of b + o)) b' e' s)))
  where
    b : Bool
    b = same_type own ty

    b' : Bool
    b' = same_type ty own

-- ---- operations that are of no step

-- operations that give a value, and then a part that takes it
pub tracks_quiet : {A : Type 0} (g : Graph) (most a b c o u w v : ℕ) (d : State) (f : ℕ → Part A) (k : Around) (xs ys : List Item) (s : Spot) (rel : ℕ → State → Spot → Type 0) (rel' : A → State → Spot → Type 0)
    → Tracks g most a b o u (Done [] v d) (at_behind k (first_of (laid_items ys) k.behind)) xs s rel
    → ((v' : ℕ) (e : State) (z : Spot) → z.calls ≡ s.calls → rel v' e z → Tracks g most b c u w (f v' e) k ys z rel')
    → Tracks g most a c o w (f v d) k (xs ++ ys) s rel'
tracks_quiet g most a b c o u w v d f k xs ys s rel rel' h next =
    subst (λ r. Tracks g most a c o w r k (xs ++ ys) s rel') (behind_none (f v d)) (tracks_append g most a b c o u w (Done [] v d) f k xs ys s rel rel' h next)

module _ (g : Graph) (w : Ground) (scope : ℕ → Type 0) (most : ℕ) (owns : OwnsTemporaries w) (homes : HasHomes w scope) where
  -- a conversion, whose operand has the value already or takes it by an operation
  pub tracks_some : (k : Option OpKind) (x : Operand) (at : Place) (v V : ℕ) (c : Counts) (around : Around) (s : Spot) (d : State) (a o : ℕ)
      → WorksIfAny k → ConvertsBy k v V → V < 2 ^ 16 → w.base ≤ c.temp → (make_some k x at c).counts.temp ≤ w.top → Agrees w scope d s → Ready w s.objects → operand_word s.objects x ≡ v
      → Tracks g most a a (suc o) o (Done [] V d) around (make_some k x at c).items s (Evaluated w scope false c.temp (make_some k x at c).value s d)
  tracks_some None x at v V c around s d a o works same below le top agrees ready value =
      tracks_weaker g most a a (suc o) (suc o) a a (suc o) o (Done [] V d) around [] s (Evaluated w scope false c.temp x s d) (Evaluated w scope false c.temp x s d) (omega arith) (omega arith) (omega arith) (omega arith) (λ u e z r. r)
      (tracks_none g most a (suc o) V d around s (Evaluated w scope false c.temp x s d) (record { value = value ∙ sym same; agrees = agrees; kept = λ i fixed. refl; shape = λ i. refl; store = λ i fixed. refl }))
  tracks_some (Some k) x at v V c around s d a o works same below le top agrees ready value =
      tracks_weaker g most a (a + most) (suc o) o a a (suc o) o (Done [] V d) around (make_some (Some k) x at c).items s (Evaluated w scope false c.temp (Object c.temp) s d) (Evaluated w scope false c.temp (Object c.temp) s d)
      (omega arith) (omega arith) (omega arith) (omega arith) (λ u e z r. r)
      (tracks_made g w scope most false (λ t. op_of k (Some t) x zero_operand None at) (Gives V) c around s d a o owns homes le top agrees ready works refl (ap (λ u. gives k u 0) value ∙ same)
      (λ n e. subst (λ u. u < 2 ^ 16) (ap word_of e) below))
    where
      word_of : Worked → ℕ
      word_of (Gives n) = n
      word_of (Traps t) = 0

  -- an operator of two operands that have their values
  pub tracks_operator : (op : BinaryOp) (ty by : Ty) (x y : Operand) (at : Place) (v u : ℕ) (c : Counts) (around : Around) (s : Spot) (d : State) (a o : ℕ)
      → IsWide ty → IsWide by → op ≢ binary.And → op ≢ binary.Or → v < 2 ^ 16 → u < 2 ^ 16
      → w.base ≤ c.temp → c.temp + 1 ≤ w.top → Agrees w scope d s → Ready w s.objects → operand_word s.objects x ≡ v → operand_word s.objects y ≡ u
      → Tracks g most a a (suc o) o (word_or_trap (binary_of ty by op v u) d) around (make_binary op ty x y at c).items s (Evaluated w scope false c.temp (Object c.temp) s d)
  tracks_operator op ty by x y at v u c around s d a o wt wb ne ne' fv fu le top agrees ready value value' = by_order (is_exchanged op) (operator_gives op ty by v u wt wb fv fu ne ne')
    where
      goal : ℕ → State → Spot → Type 0
      goal = Evaluated w scope false c.temp (Object c.temp) s d

      below : (n : ℕ) → binary_of ty by op v u ≡ Gives n → n < 2 ^ 16
      below n e = below_of (binary_of ty by op v u) n (binary_below ty by op v u fv fu) e

      by_order : (b : Bool) → gives_ordered b (binary_kind op ty) v u ≡ binary_of ty by op v u
          → Tracks g most a a (suc o) o (word_or_trap (binary_of ty by op v u) d) around (make_ordered b (binary_kind op ty) x y at c).items s goal
      by_order true e = tracks_weaker g most a (a + most) (suc o) o a a (suc o) o (word_or_trap (binary_of ty by op v u) d) around (make_ordered true (binary_kind op ty) x y at c).items s goal goal
          (omega arith) (omega arith) (omega arith) (omega arith) (λ n e' z r. r)
          (tracks_made g w scope most false (λ t. op_of (binary_kind op ty) (Some t) y x None at) (binary_of ty by op v u) c around s d a o owns homes le top agrees ready (operator_works op ty) refl
          (ap (λ n. gives (binary_kind op ty) n (operand_word s.objects x)) value' ∙ (ap (gives (binary_kind op ty) u) value ∙ e)) below)
      by_order false e = tracks_weaker g most a (a + most) (suc o) o a a (suc o) o (word_or_trap (binary_of ty by op v u) d) around (make_ordered false (binary_kind op ty) x y at c).items s goal goal
          (omega arith) (omega arith) (omega arith) (omega arith) (λ n e' z r. r)
          (tracks_made g w scope most false (λ t. op_of (binary_kind op ty) (Some t) x y None at) (binary_of ty by op v u) c around s d a o owns homes le top agrees ready (operator_works op ty) refl
          (ap (λ n. gives (binary_kind op ty) n (operand_word s.objects y)) value ∙ (ap (gives (binary_kind op ty) v) value' ∙ e)) below)

  pub binary_temp : (op : BinaryOp) (ty : Ty) (x y : Operand) (at : Place) (c : Counts) → ((make_binary op ty x y at c).counts.temp ≡ c.temp + 1) × ((make_binary op ty x y at c).value ≡ Object c.temp)
  binary_temp op ty x y at c = by_order (is_exchanged op)
    where
      by_order : (b : Bool) → ((make_ordered b (binary_kind op ty) x y at c).counts.temp ≡ c.temp + 1) × ((make_ordered b (binary_kind op ty) x y at c).value ≡ Object c.temp)
      by_order true = (refl, refl)
      by_order false = (refl, refl)

  -- ---- an assignment with an operator

  -- how things stand within it: what holds since its beginning, and the word of the index
  record Now (i : Operand) (iv : ℕ) (s : Spot) (d e : State) (z : Spot) : Type 0 where
    pub since : Since w scope s d e z
    pub index : operand_word z.objects i ≡ iv

  now_on : (i : Operand) (iv : ℕ) (s : Spot) (d e e' : State) (z z' : Spot) (cb called : Bool) (t t' v : ℕ) (b : Operand) → Now i iv s d e z → z'.calls ≡ z.calls → Evaluated w scope called t' b z e v e' z'
      → IsOperand w cb t i → (cb ≡ false → called ≡ false) → t ≤ t' → Now i iv s d e' z'
  now_on i iv s d e e' z z' cb called t t' v b h calls r is f le = record {
    since = since_expr w scope called t' b s d e e' v z z' h.since calls r;
    index = operand_stays w cb called t' i z.objects z'.objects f (operand_more w cb cb t t' i (λ x. x) le is) r.kept ∙ h.index;
  }

  -- the value that is read, where the index has its word
  pub record Loads (cb : Bool) (i : Operand) (iv : ℕ) (p : Part ℕ) (emit : Emit Operand) : Type 0 where
    pub grows : Grows emit
    pub stays : Stays w cb emit
    pub tracks : (c : Counts) (k : Around) (s : Spot) (d : State) (a o : ℕ) → w.base ≤ c.temp → (emit c).counts.temp ≤ w.top → Agrees w scope d s → Ready w s.objects → operand_word s.objects i ≡ iv
        → Tracks g most a a (suc o) o (p d) k (emit c).items s (Evaluated w scope false c.temp (emit c).value s d)

  -- the right side
  pub record IsRight (cb : Bool) (nb : ℕ) (q : Part ℕ) (emit : Emit Operand) : Type 0 where
    pub grows : Grows emit
    pub stays : Stays w false emit
    pub tracks : (c : Counts) (k : Around) (s : Spot) (d : State) (a o : ℕ) → w.base ≤ c.temp → (emit c).counts.temp ≤ w.top → Agrees w scope d s → Ready w s.objects
        → Tracks g most (a + nb) a o o (q d) k (emit c).items s (Evaluated w scope cb c.temp (emit c).value s d)

  -- the store
  pub record StoresIn (i : Operand) (iv : ℕ) (p : ℕ → Part (Unit {0})) (emit : Operand → Emit (Unit {0})) : Type 0 where
    pub same : (b : Operand) (c : Counts) → (emit b c).counts.temp ≡ c.temp
    pub tracks : (b : Operand) (v : ℕ) (c : Counts) (k : Around) (s : Spot) (d : State) (a o : ℕ) → Agrees w scope d s → Ready w s.objects → operand_word s.objects b ≡ v → v < 2 ^ 16 → operand_word s.objects i ≡ iv
        → Tracks g most a a (suc o) o (p v d) k (emit b c).items s (λ u e z. Since w scope s d e z)

  module _ (cb : Bool) (nb : ℕ) (own ty by : Ty) (op : BinaryOp) (at : Place) (i : Operand) (iv : ℕ) (L q : Part ℕ) (S : ℕ → Part (Unit {0})) (load right : Emit Operand) (store : Operand → Emit (Unit {0}))
      (wt : IsWide ty) (wb : IsWide by) (ne : op ≢ binary.And) (ne' : op ≢ binary.Or) (to : is_idle ty own ≡ false) (from : is_idle own ty ≡ false)
      (loads : Loads cb i iv L load) (rights : IsRight cb nb q right) (stores : StoresIn i iv S store) (c : Counts) where
    abbrev m1 : Made Operand
    m1 = load c

    abbrev m2 : Made Operand
    m2 = make_conversion ty own m1.value at m1.counts

    abbrev m3 : Made Operand
    m3 = right m2.counts

    abbrev m4 : Made Operand
    m4 = make_binary op ty m2.value m3.value at m3.counts

    abbrev m5 : Made Operand
    m5 = make_conversion own ty m4.value at m4.counts

    abbrev m6 : Made (Unit {0})
    m6 = store m5.value m5.counts

    -- what comes behind the value read and converted
    abbrev behind_value : ℕ → Part (Unit {0})
    behind_value x = q >>= (λ y. word_or_trap (binary_of ty by op x y) >>= (λ r. S (converted own ty r)))

    some_grows : (k : Option OpKind) (x : Operand) (c' : Counts) → c'.temp ≤ (make_some k x at c').counts.temp
    some_grows None x c' = omega arith
    some_grows (Some k) x c' = omega arith

    up1 : c.temp ≤ m1.counts.temp
    up1 = loads.grows c

    up2 : m1.counts.temp ≤ m2.counts.temp
    up2 = some_grows (conversion_kind ty own) m1.value m1.counts

    up3 : m2.counts.temp ≤ m3.counts.temp
    up3 = rights.grows m2.counts

    temp4 : m4.counts.temp ≡ m3.counts.temp + 1
    temp4 = (binary_temp op ty m2.value m3.value at m3.counts).0

    up5 : m4.counts.temp ≤ m5.counts.temp
    up5 = some_grows (conversion_kind own ty) m4.value m4.counts

    temp6 : m6.counts.temp ≡ m5.counts.temp
    temp6 = stores.same m5.value m5.counts

    some_fits : (k : Option OpKind) (x : Operand) (n : ℕ) (c' : Counts) (z : Spot) → x ≡ Object n → ((o j : ℕ) → word_at z.objects o j < 2 ^ 16) → operand_word z.objects (make_some k x at c').value < 2 ^ 16
    some_fits None x n c' z e fit = subst (λ y. operand_word z.objects y < 2 ^ 16) (sym e) (fit n 0)
    some_fits (Some k) x n c' z e fit = fit c'.temp 0

    module _ (k : Around) (s : Spot) (d : State) (a o : ℕ) (is : IsOperand w cb c.temp i) (le : w.base ≤ c.temp) (top : m6.counts.temp ≤ w.top) (agrees : Agrees w scope d s) (ready : Ready w s.objects) (index : operand_word s.objects i ≡ iv) where
      abbrev o2 : ℕ
      o2 = suc (suc o)

      abbrev o3 : ℕ
      o3 = suc o2

      abbrev o4 : ℕ
      o4 = suc o3

      abbrev o5 : ℕ
      o5 = suc o4

      abbrev r5 : List Item
      r5 = m5.items ++ m6.items

      abbrev r4 : List Item
      r4 = m4.items ++ r5

      abbrev r3 : List Item
      r3 = m3.items ++ r4

      abbrev r1 : List Item
      r1 = m2.items ++ r3

      abbrev goal : Unit {0} → State → Spot → Type 0
      goal u e z = Since w scope s d e z

      abbrev read : ℕ → State → Spot → Type 0
      read x e z = Evaluated w scope false c.temp m1.value s d x e z

      top5 : m5.counts.temp ≤ w.top
      top5 = omega (arith, top, temp6)

      top4 : m4.counts.temp ≤ w.top
      top4 = omega (arith, top5, up5)

      top3 : m3.counts.temp ≤ w.top
      top3 = omega (arith, top4, temp4)

      top2 : m2.counts.temp ≤ w.top
      top2 = omega (arith, top3, up3)

      top1 : m1.counts.temp ≤ w.top
      top1 = omega (arith, top2, up2)

      after_operator : (r : ℕ) (e : State) (z : Spot) → Now i iv s d e z → operand_word z.objects m4.value ≡ r → Tracks g most a a o3 o (S (converted own ty r) e) k r5 z goal
      after_operator r e z now word =
          tracks_quiet g most a a a o3 o2 o (converted own ty r) e S k m5.items m6.items z (Evaluated w scope false m4.counts.temp m5.value z e) goal
          (tracks_some (conversion_kind own ty) m4.value at r (converted own ty r) m4.counts (at_behind k (first_of (laid_items m6.items) k.behind)) z e a o2 (conversion_works own ty)
          (converts own ty r (subst (λ v. v < 2 ^ 16) (sym (ap (operand_word z.objects) (binary_temp op ty m2.value m3.value at m3.counts).1) ∙ word) (now.since.agrees.fit m3.counts.temp 0)) from) (kept_below own _)
          (omega (arith, le, up1, up2, up3, temp4)) top5 now.since.agrees now.since.ready word)
          (λ v e' z' cs q'. let now' : Now i iv s d e' z' = now_on i iv s d e e' z z' cb false c.temp m4.counts.temp v m5.value now cs q' is (λ _. refl) (omega (arith, up1, up2, up3, temp4)) in
          tracks_weaker g most a a o2 (suc o) a a o2 o (S v e') k m6.items z' (λ u e2 z2. Since w scope z' e' e2 z2) goal (omega arith) (omega arith) (omega arith) (omega arith)
          (λ u e2 z2 h. since_both w scope scope s d e' e2 z' z2 now'.since h)
          (stores.tracks m5.value v m5.counts k z' e' a (suc o) now'.since.agrees now'.since.ready q'.value
          (subst (λ x. x < 2 ^ 16) q'.value (some_fits (conversion_kind own ty) m4.value m3.counts.temp m4.counts z' (binary_temp op ty m2.value m3.value at m3.counts).1 now'.since.agrees.fit)) now'.index))

      after_right : (x y : ℕ) (e : State) (z : Spot) → Now i iv s d e z → operand_word z.objects m2.value ≡ x → x < 2 ^ 16 → operand_word z.objects m3.value ≡ y → y < 2 ^ 16
          → Tracks g most a a o4 o ((word_or_trap (binary_of ty by op x y) >>= (λ r. S (converted own ty r))) e) k r4 z goal
      after_right x y e z now vx fx vy fy =
          tracks_append g most a a a o4 o3 o (word_or_trap (binary_of ty by op x y) e) (λ r. S (converted own ty r)) k m4.items r5 z (Evaluated w scope false m3.counts.temp (Object m3.counts.temp) z e) goal
          (tracks_operator op ty by m2.value m3.value at x y m3.counts (at_behind k (first_of (laid_items r5) k.behind)) z e a o3 wt wb ne ne' fx fy (omega (arith, le, up1, up2, up3)) (omega (arith, top4, temp4)) now.since.agrees now.since.ready vx vy)
          (λ r e' z' cs q'. after_operator r e' z' (now_on i iv s d e e' z z' cb false c.temp m3.counts.temp r (Object m3.counts.temp) now cs q' is (λ _. refl) (omega (arith, up1, up2, up3)))
          (ap (operand_word z'.objects) (binary_temp op ty m2.value m3.value at m3.counts).1 ∙ q'.value))

      stays2 : IsOperand w cb m2.counts.temp m2.value
      stays2 = stays_some w cb load (conversion_kind ty own) at owns loads.grows loads.stays c le top2

      after_conversion : (x : ℕ) (e : State) (z : Spot) → Now i iv s d e z → operand_word z.objects m2.value ≡ x → Tracks g most (a + nb) a o4 o (behind_value x e) k r3 z goal
      after_conversion x e z now vx =
          tracks_append g most (a + nb) a a o4 o4 o (q e) (λ y. word_or_trap (binary_of ty by op x y) >>= (λ r. S (converted own ty r))) k m3.items r4 z (Evaluated w scope cb m2.counts.temp m3.value z e) goal
          (rights.tracks m2.counts (at_behind k (first_of (laid_items r4) k.behind)) z e a o4 (omega (arith, le, up1, up2)) top3 now.since.agrees now.since.ready)
          (λ y e' z' cs q'. let same : operand_word z'.objects m2.value ≡ x = operand_stays w cb cb m2.counts.temp m2.value z.objects z'.objects (λ b. b) stays2 q'.kept ∙ vx in
          after_right x y e' z' (now_on i iv s d e e' z z' cb cb c.temp m2.counts.temp y m3.value now cs q' is (λ b. b) (omega (arith, up1, up2))) same
          (subst (λ v. v < 2 ^ 16) same (operand_fits w cb m2.counts.temp m2.value z'.objects stays2 q'.agrees.fit)) q'.value
          (subst (λ v. v < 2 ^ 16) q'.value (operand_fits w false m3.counts.temp m3.value z'.objects (rights.stays m2.counts (omega (arith, le, up1, up2)) top3) q'.agrees.fit)))

      after_read : (x : ℕ) (e : State) (z : Spot) → z.calls ≡ s.calls → read x e z → Tracks g most (a + nb) a o5 o (behind_value (converted ty own x) e) k r1 z goal
      after_read x e z cs r =
          let now : Now i iv s d e z = now_on i iv s d d e s z cb false c.temp c.temp x m1.value (record { since = since_start w scope s d agrees ready; index = index }) cs r is (λ _. refl) (omega arith) in
          tracks_quiet g most (a + nb) (a + nb) a o5 o4 o (converted ty own x) e behind_value k m2.items r3 z (Evaluated w scope false m1.counts.temp m2.value z e) goal
          (tracks_some (conversion_kind ty own) m1.value at x (converted ty own x) m1.counts (at_behind k (first_of (laid_items r3) k.behind)) z e (a + nb) o4 (conversion_works ty own)
          (converts ty own x (subst (λ v. v < 2 ^ 16) r.value (operand_fits w cb m1.counts.temp m1.value z.objects (loads.stays c le top1) r.agrees.fit)) to) (kept_below ty _)
          (omega (arith, le, up1)) top2 now.since.agrees now.since.ready r.value)
          (λ x' e' z' cs' q'. after_conversion x' e' z' (now_on i iv s d e e' z z' cb false c.temp m1.counts.temp x' m2.value now cs' q' is (λ _. refl) up1) q'.value)

      opening : Tracks g most (a + (update_nodes own ty + nb)) (a + nb) o o5 ((begin_update own ty >> L) d) (at_behind k (first_of (laid_items r1) k.behind)) m1.items s read
      opening = tracks_append g most (a + (update_nodes own ty + nb)) (a + nb) (a + nb) o (6 + o) o5 (begin_update own ty d) (λ _. L) (at_behind k (first_of (laid_items r1) k.behind)) [] m1.items s (Waits s d) read
          (λ stand at'. runs_weaker g most (a + nb + update_nodes own ty) (a + nb) o (6 + o) (a + (update_nodes own ty + nb)) (a + nb) o (6 + o) (begin_update own ty d) s (Waits s d)
          (λ u e z. Behind (first_of (laid_items m1.items) (first_of (laid_items r1) k.behind)) s.calls z × Waits s d u e z)
          (omega arith) (omega arith) (omega arith) (omega arith) (λ u e z r. (record { at = ap (λ (y : Spot). y.at) r.0 ∙ at'; calls = ap (λ (y : Spot). y.calls) r.0 }, r)) (runs_opened g most (a + nb) o own ty d s))
          (λ u e z cs r. let since : Since w scope s d e z = subst (λ y. Since w scope s d e y) (sym r.0) (subst (λ x. Since w scope s d x s) (sym r.1) (since_left w scope s d d s e.left (since_start w scope s d agrees ready))) in
          tracks_weaker g most (a + nb) (a + nb) (suc o5) o5 (a + nb) (a + nb) (6 + o) o5 (L e) (at_behind k (first_of (laid_items r1) k.behind)) m1.items z (Evaluated w scope false c.temp m1.value z e) read
          (omega arith) (omega arith) (omega arith) (omega arith)
          (λ x e' z' q'. record {
            value = q'.value;
            agrees = q'.agrees;
            kept = subst (λ (y : Spot). Kept w false c.temp y.objects z'.objects) r.0 q'.kept;
            shape = subst (λ (y : Spot). SameShape y.objects z'.objects) r.0 q'.shape;
            store = subst (λ (y : State). KeptStore w false c.temp y e') r.1 q'.store;
          })
          (loads.tracks c (at_behind k (first_of (laid_items r1) k.behind)) z e (a + nb) o5 le top1 since.agrees since.ready (ap (λ (y : Spot). operand_word y.objects i) r.0 ∙ index)))

      pub update_core : Tracks g most (a + (update_nodes own ty + nb)) a o o (((begin_update own ty >> L) >>= (λ x. behind_value (converted ty own x))) d) k (m1.items ++ r1) s goal
      update_core = tracks_append g most (a + (update_nodes own ty + nb)) (a + nb) a o o5 o ((begin_update own ty >> L) d) (λ x. behind_value (converted ty own x)) k m1.items r1 s read goal opening after_read
