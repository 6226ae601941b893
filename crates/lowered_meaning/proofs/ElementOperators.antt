-- Operators of two operands, the ports, and `&&`, `||` and `?:`.
use Rattle.std.proofs.Common.{◌≡◌, ◌≢◌, ℕ, zero, suc, ◌+◌, ◌^◌, ◌<◌, ◌≤◌, Bool, true, false, Some, None, List, [], ◌∷◌, refl, sym, ap, ◌∙◌, subst, arith}
use Rattle.std.specs.Prelude.{◌%◌}
use Rattle.base_io.specs.declared.place.Place.{Place}
use Rattle.c_values.specs.declared.ops.Ty.{Ty}
use Rattle.c_values.specs.declared.ops.BinaryOp.{BinaryOp}
use Rattle.c_values.specs.declared.ops.BinaryOp.TheVariants as binary
use Rattle.c_values.specs.Values.{Worked, Gives, binary_of, from_test, is_set}
use Rattle.c_tree.specs.Runs as part
use Rattle.c_tree.specs.Runs.{State, Got, Done, Put, Part, go_on, word_or_trap, take_from, take_word, put, either, ◌>>=◌, ◌>>◌}
use Rattle.flow_graph.specs.declared.graph.Graph.{Graph}
use Rattle.flow_graph.specs.declared.graph.Op.{Op}
use Rattle.flow_graph.specs.declared.graph.OpKind.{OpKind}
use Rattle.flow_graph.specs.declared.graph.OpKind.TheVariants as kind
use Rattle.flow_graph.specs.declared.graph.Operand.{Operand}
use Rattle.flow_graph.specs.declared.graph.Operand.TheVariants.{Const, Object}
use Rattle.flow_graph.specs.declared.graph.Item.TheVariants as item
use Rattle.flow_graph.specs.Operations.{Words, operand_word, gives}
use Rattle.flow_graph.specs.declared.nodes.Around.{Around}
use Rattle.flow_graph.specs.Nodes.{at_behind, first_of, laid_items}
use Rattle.flow_graph.specs.Flow as flow
use Rattle.flow_graph.specs.Flow.{Spot}
use Rattle.lowered_graphs.specs.Making as making
use Rattle.lowered_graphs.specs.Making.{Counts, Emit, Made, made_on, made_op, zero_operand, op_of}
use Rattle.lowered_graphs.specs.Operators.{make_binary, make_ordered, is_exchanged, binary_kind}
use Rattle.lowered_graphs.specs.Exprs.{output, set_new, is_set_op, copy_op}
use Rattle.lowered_meaning.specs.Tracks.{Tracks}
use Rattle.lowered_meaning.specs.Keeps.{Ground, Ready, OwnsTemporaries, HasHomes, Agrees, Evaluated, LevelTracks}
use Rattle.lowered_meaning.proofs.TrackLemmas.{tracks_append, tracks_weaker, IsWorked}
use Rattle.lowered_meaning.proofs.ShapeLemmas.{Tracked, two_operands, is_copy, chosen, chosen_emit}
use Rattle.lowered_meaning.proofs.ElementSteps.{tracks_does, tracks_puts, evaluated_both, expr_then}
use Rattle.lowered_meaning.proofs.ElementLoads.{wrote_evaluated}
use Rattle.lowered_meaning.proofs.WordsSame.{IsWide, below_of, binary_below}
use Rattle.lowered_meaning.proofs.WordsTable.{operator_works, gives_ordered, operator_gives, truth_gives}

-- ---- operators of two operands

ordered_level : (g : Graph) (w : Ground) (scope : ℕ → Type 0) (most na nb : ℕ) (called ca cb later later' : Bool) (p q : Part ℕ) (ea eb : Emit Operand) (exchanged : Bool) (k : OpKind) (at : Place) (W : ℕ → ℕ → Worked)
    → OwnsTemporaries w → HasHomes w scope → (called ≡ false → ca ≡ false) → (called ≡ false → cb ≡ false) → (later' ≡ false → cb ≡ false)
    → Tracked g w scope most na ca later' p ea → Tracked g w scope most nb cb later q eb → IsWorked k
    → ((x y : ℕ) → x < 2 ^ 16 → y < 2 ^ 16 → gives_ordered exchanged k x y ≡ W x y) → ((x y n : ℕ) → x < 2 ^ 16 → y < 2 ^ 16 → W x y ≡ Gives n → n < 2 ^ 16)
    → LevelTracks g w scope most (na + nb) called (p >>= (λ v. q >>= (λ u. word_or_trap (W v u)))) (λ c. made_on (ea c) (λ x c'. made_on (eb c') (λ y. make_ordered exchanged k x y at)))
ordered_level g w scope most na nb called ca cb later later' p q ea eb true k at W owns homes fa fb fl pa pb works same below =
    two_operands g w scope most na nb called ca cb later later' p q ea eb (λ x y t. op_of k (Some t) y x None at) W owns homes fa fb fl pa pb
    (λ x y t m. (works, refl)) (λ x y t m ws fx fy. same (operand_word ws x) (operand_word ws y) fx fy) below
ordered_level g w scope most na nb called ca cb later later' p q ea eb false k at W owns homes fa fb fl pa pb works same below =
    two_operands g w scope most na nb called ca cb later later' p q ea eb (λ x y t. op_of k (Some t) x y None at) W owns homes fa fb fl pa pb
    (λ x y t m. (works, refl)) (λ x y t m ws fx fy. same (operand_word ws x) (operand_word ws y) fx fy) below

pub operator : (g : Graph) (w : Ground) (scope : ℕ → Type 0) (most na nb : ℕ) (called ca cb later later' : Bool) (p q : Part ℕ) (ea eb : Emit Operand) (op : BinaryOp) (ty by : Ty) (at : Place)
    → OwnsTemporaries w → HasHomes w scope → (called ≡ false → ca ≡ false) → (called ≡ false → cb ≡ false) → (later' ≡ false → cb ≡ false)
    → IsWide ty → IsWide by → op ≢ binary.And → op ≢ binary.Or
    → Tracked g w scope most na ca later' p ea → Tracked g w scope most nb cb later q eb
    → LevelTracks g w scope most (na + nb) called (p >>= (λ v. q >>= (λ u. word_or_trap (binary_of ty by op v u)))) (λ c. made_on (ea c) (λ x c'. made_on (eb c') (λ y. make_binary op ty x y at)))
operator g w scope most na nb called ca cb later later' p q ea eb op ty by at owns homes fa fb fl wt wb ne ne' pa pb =
    ordered_level g w scope most na nb called ca cb later later' p q ea eb (is_exchanged op) (binary_kind op ty) at (binary_of ty by op) owns homes fa fb fl pa pb (operator_works op ty)
    (λ x y fx fy. operator_gives op ty by x y wt wb fx fy ne ne') (λ x y n fx fy e. below_of (binary_of ty by op x y) n (binary_below ty by op x y fx fy) e)

-- ---- the ports

tracks_input : (g : Graph) (w : Ground) (scope : ℕ → Type 0) (most : ℕ) (called : Bool) (at : Place) (c : Counts) (k : Around) (s : Spot) (d : State) (a o : ℕ)
    → OwnsTemporaries w → HasHomes w scope → w.base ≤ c.temp → c.temp + 1 ≤ w.top → Agrees w scope d s → Ready w s.objects
    → (l : List ℕ) → s.input ≡ l → d.input ≡ l
    → Tracks g most a (a + most) (suc o) o (take_from l d) k (making.make_of kind.Input zero_operand zero_operand at c).items s (Evaluated w scope called c.temp (Object c.temp) s d)
tracks_input g w scope most called at c k s d a o owns homes low top agrees ready [] e e' =
    tracks_does g most a o k (op_of kind.Input (Some c.temp) zero_operand zero_operand None at c.op) 0 d s (flow.written (Some c.temp) 0 (record s { input = [] })) (Evaluated w scope called c.temp (Object c.temp) s d) refl
    (ap (λ l. flow.Went [] (flow.written (Some c.temp) (flow.next_word l) (record s { input = flow.behind_word l }))) e) refl
    (wrote_evaluated w scope called c.temp c.temp 0 s d d (record (flow.written (Some c.temp) 0 (record s { input = [] })) { at = k.behind }) owns homes (omega arith) low (omega (arith, top)) agrees ready (omega arith) refl (sym e') refl)
tracks_input g w scope most called at c k s d a o owns homes low top agrees ready (v ∷ l) e e' =
    tracks_does g most a o k (op_of kind.Input (Some c.temp) zero_operand zero_operand None at c.op) (v % 2 ^ 16) (record d { input = l }) s (flow.written (Some c.temp) (v % 2 ^ 16) (record s { input = l }))
    (Evaluated w scope called c.temp (Object c.temp) s d) refl
    (ap (λ m. flow.Went [] (flow.written (Some c.temp) (flow.next_word m) (record s { input = flow.behind_word m }))) e) refl
    (wrote_evaluated w scope called c.temp c.temp (v % 2 ^ 16) s d (record d { input = l }) (record (flow.written (Some c.temp) (v % 2 ^ 16) (record s { input = l })) { at = k.behind })
    owns homes (omega arith) low (omega (arith, top)) agrees ready (omega arith) refl refl refl)

pub input_level : (g : Graph) (w : Ground) (scope : ℕ → Type 0) (most : ℕ) (called : Bool) (at : Place) → OwnsTemporaries w → HasHomes w scope
    → LevelTracks g w scope most 0 called take_word (making.make_of kind.Input zero_operand zero_operand at)
input_level g w scope most called at owns homes c le top k s d a o agrees ready =
    tracks_weaker g most a (a + most) (suc (5 + o)) (5 + o) (a + 0) a (6 + o) (suc o) (take_word d) k (making.make_of kind.Input zero_operand zero_operand at c).items s _ (Evaluated w scope called c.temp (Object c.temp) s d)
    (omega arith) (omega arith) (omega arith) (omega arith) (λ u e z r. r)
    (tracks_input g w scope most called at c k s d a (5 + o) owns homes le top agrees ready d.input agrees.input refl)

pub output_level : (g : Graph) (w : Ground) (scope : ℕ → Type 0) (most n : ℕ) (called later : Bool) (p : Part ℕ) (emit : Emit Operand) (at : Place) → Tracked g w scope most n called later p emit
    → LevelTracks g w scope most n called (p >>= (λ v. put v >> part.pure 0)) (λ c. made_on (emit c) (λ a. output a at))
output_level g w scope most n called later p emit at t c le top k s d a o agrees ready =
    expr_then g w scope most n called later p emit (λ v. put v >> part.pure 0) (λ x. output x at) c k s d a a (6 + o) (suc o) goal t le top agrees ready
    (λ v e z calls ready1 fits r. tracks_weaker g most a (a + most) (suc (6 + o)) (6 + o) a a (suc (6 + o)) (suc o) (Done (Put v ∷ []) 0 e) k (output m.value at m.counts).items z goal goal
    (omega arith) (omega arith) (omega arith) (omega arith) (λ u e' z' q. q)
    (tracks_puts g most a (6 + o) v k (making.plain kind.Output m.value at m.counts.op) 0 e z z goal refl (ap (λ u. flow.Went (u ∷ []) z) r.value) refl
    (record { value = refl; agrees = record { variables = r.agrees.variables; shape = r.agrees.shape; input = r.agrees.input; fit = r.agrees.fit }; kept = r.kept; shape = r.shape; store = r.store })))
  where
    m : Made Operand
    m = emit c

    goal : ℕ → State → Spot → Type 0
    goal = Evaluated w scope called c.temp zero_operand s d

-- ---- arms that write one temporary

-- an operation that writes a temporary
abbrev pub IsSet : (Operand → ℕ → ℕ → Op) → (ℕ → ℕ) → Type 0
IsSet f V = (x : Operand) (t m : ℕ) → IsWorked (f x t m).kind × ((f x t m).dest ≡ Some t)
    × ((ws : Words) → gives (f x t m).kind (operand_word ws (f x t m).a) (operand_word ws (f x t m).b) ≡ Gives (V (operand_word ws x)))

pub is_set_truth : (at : Place) → IsSet (is_set_op at) (λ v. from_test (is_set v))
is_set_truth at x t m = (record { effect = λ op a b s. refl; next = λ n. refl }, refl, λ ws. truth_gives (operand_word ws x))

pub is_set_copy : (at : Place) → IsSet (copy_op at) (λ v. v)
is_set_copy at x t m = (is_copy, refl, λ ws. refl)

pub tracks_into : (g : Graph) (w : Ground) (scope : ℕ → Type 0) (most a o b : ℕ) (called : Bool) (k : Around) (f : Operand → ℕ → ℕ → Op) (V : ℕ → ℕ) (x : Operand) (t m v : ℕ) (s : Spot) (d : State)
    → OwnsTemporaries w → HasHomes w scope → b ≤ t → w.base ≤ t → t < w.top → Agrees w scope d s → Ready w s.objects → IsSet f V → operand_word s.objects x ≡ v → V v < 2 ^ 16
    → Tracks g most a (a + most) (suc o) o (Done [] (V v) d) k (item.One (f x t m) ∷ []) s (Evaluated w scope called b (Object t) s d)
tracks_into g w scope most a o b called k f V x t m v s d owns homes lb low top agrees ready is value fits =
    tracks_does g most a o k (f x t m) (V v) d s (flow.written (Some t) (V v) s) (Evaluated w scope called b (Object t) s d) ((is x t m).0.next k.behind)
    ((is x t m).0.effect (f x t m) (operand_word s.objects (f x t m).a) (operand_word s.objects (f x t m).b) s ∙ ap (λ r. flow.write_worked (f x t m).dest r s) ((is x t m).2 s.objects ∙ ap (λ u. Gives (V u)) value)
    ∙ ap (λ r. flow.write_worked r (Gives (V v)) s) (is x t m).1) refl
    (wrote_evaluated w scope called t b (V v) s d d (record (flow.written (Some t) (V v) s) { at = k.behind }) owns homes lb low top agrees ready fits refl agrees.input refl)

-- the same, and a way on behind it
pub tracks_set_new : (g : Graph) (w : Ground) (scope : ℕ → Type 0) (most a o b : ℕ) (called : Bool) (k : Around) (f : Operand → ℕ → ℕ → Op) (V : ℕ → ℕ) (x : Operand) (at : Place) (c : Counts) (v : ℕ) (s : Spot) (d : State)
    → OwnsTemporaries w → HasHomes w scope → b ≤ c.temp → w.base ≤ c.temp → c.temp < w.top → Agrees w scope d s → Ready w s.objects → IsSet f V → operand_word s.objects x ≡ v → V v < 2 ^ 16
    → Tracks g most a (a + most) (suc (suc o)) o (Done [] (V v) d) k (set_new f x at c).items s (Evaluated w scope called b (Object c.temp) s d)
tracks_set_new g w scope most a o b called k f V x at c v s d owns homes lb low top agrees ready is value fits =
    tracks_append g most a (a + most) (a + most) (suc (suc o)) (suc o) o (Done [] (V v) d) (λ u. part.pure u) k (item.One (f x c.temp c.op) ∷ []) (item.One on ∷ []) s goal goal
    (tracks_into g w scope most a (suc o) b called (at_behind k (first_of (laid_items (item.One on ∷ [])) k.behind)) f V x c.temp c.op v s d owns homes lb low top agrees ready is value fits)
    (λ u e z calls r. tracks_weaker g most (a + most) (a + most + most) (suc o) o (a + most) (a + most) (suc o) o (Done [] u e) k (item.One on ∷ []) z goal goal
    (omega arith) (omega arith) (omega arith) (omega arith) (λ u' e' z' q. q)
    (tracks_does g most (a + most) o k on u e z z goal refl refl refl
    (record { value = r.value; agrees = record { variables = r.agrees.variables; shape = r.agrees.shape; input = r.agrees.input; fit = r.agrees.fit }; kept = r.kept; shape = r.shape; store = r.store })))
  where
    on : Op
    on = making.go at (c.op + 1)

    goal : ℕ → State → Spot → Type 0
    goal = Evaluated w scope called b (Object c.temp) s d

-- what an arm does that makes the temporary
abbrev pub NewArm : Graph → Ground → (ℕ → Type 0) → (most n : ℕ) → (called : Bool) → Part ℕ → Emit ℕ → Type 0
NewArm g w scope most n called p x = (c : Counts) → w.base ≤ c.temp → (x c).counts.temp ≤ w.top → (k : Around) (s : Spot) (d : State) (a o : ℕ) → Agrees w scope d s → Ready w s.objects
    → Tracks g most (a + n) a (6 + o) (suc o) (p d) k (x c).items s (Evaluated w scope called c.temp (Object (x c).value) s d)

-- and one that writes the temporary t, which is its own
abbrev pub SetArm : Graph → Ground → (ℕ → Type 0) → (most n : ℕ) → (called : Bool) → Part ℕ → (ℕ → Emit (Unit {0})) → Type 0
SetArm g w scope most n called p y = (b t : ℕ) (c : Counts) → b ≤ t → w.base ≤ b → t < c.temp → (y t c).counts.temp ≤ w.top → (k : Around) (s : Spot) (d : State) (a o : ℕ) → Agrees w scope d s → Ready w s.objects
    → Tracks g most (a + n) a (6 + o) (suc o) (p d) k (y t c).items s (Evaluated w scope called b (Object t) s d)

pub new_constant : (g : Graph) (w : Ground) (scope : ℕ → Type 0) (most v : ℕ) (called : Bool) (at : Place) → OwnsTemporaries w → HasHomes w scope → v < 2 ^ 16
    → NewArm g w scope most 0 called (part.pure v) (set_new (copy_op at) (Const v) at)
new_constant g w scope most v called at owns homes fits c le top k s d a o agrees ready =
    tracks_weaker g most a (a + most) (suc (suc (4 + o))) (4 + o) (a + 0) a (6 + o) (suc o) (Done [] v d) k (set_new (copy_op at) (Const v) at c).items s _ (Evaluated w scope called c.temp (Object c.temp) s d)
    (omega arith) (omega arith) (omega arith) (omega arith) (λ u e z r. r)
    (tracks_set_new g w scope most a (4 + o) c.temp called k (copy_op at) (λ v. v) (Const v) at c v s d owns homes (omega arith) le (omega (arith, top)) agrees ready (is_set_copy at) refl fits)

pub set_constant : (g : Graph) (w : Ground) (scope : ℕ → Type 0) (most v : ℕ) (called : Bool) (at : Place) → OwnsTemporaries w → HasHomes w scope → v < 2 ^ 16
    → SetArm g w scope most 0 called (part.pure v) (λ t. making.one (copy_op at (Const v) t))
set_constant g w scope most v called at owns homes fits b t c lb low lt top k s d a o agrees ready =
    tracks_weaker g most a (a + most) (suc (5 + o)) (5 + o) (a + 0) a (6 + o) (suc o) (Done [] v d) k (making.one (copy_op at (Const v) t) c).items s _ (Evaluated w scope called b (Object t) s d)
    (omega arith) (omega arith) (omega arith) (omega arith) (λ u e z r. r)
    (tracks_into g w scope most a (5 + o) b called k (copy_op at) (λ v. v) (Const v) t c.op v s d owns homes lb (omega (arith, lb, low)) (omega (arith, lt, top)) agrees ready (is_set_copy at) refl fits)

pub new_value : (g : Graph) (w : Ground) (scope : ℕ → Type 0) (most n : ℕ) (called ce later : Bool) (p : Part ℕ) (emit : Emit Operand) (f : Operand → ℕ → ℕ → Op) (V : ℕ → ℕ) (at : Place)
    → OwnsTemporaries w → HasHomes w scope → (called ≡ false → ce ≡ false) → Tracked g w scope most n ce later p emit → IsSet f V → ((v : ℕ) → v < 2 ^ 16 → V v < 2 ^ 16)
    → NewArm g w scope most n called (p >>= (λ v. part.pure (V v))) (λ c. made_on (emit c) (λ y. set_new f y at))
new_value g w scope most n called ce later p emit f V at owns homes fc t is below c le top k s d a o agrees ready =
    expr_then g w scope most n ce later p emit (λ v. part.pure (V v)) (λ y. set_new f y at) c k s d a a (6 + o) (suc o) goal t le (omega (arith, top)) agrees ready
    (λ v e z calls ready1 fits r. tracks_weaker g most a (a + most) (suc (suc (5 + o))) (5 + o) a a (suc (6 + o)) (suc o) (Done [] (V v) e) k (set_new f m.value at m.counts).items z _ goal
    (omega arith) (omega arith) (omega arith) (omega arith)
    (λ u e' z' q. evaluated_both w scope called ce called c.temp c.temp m.counts.temp v u m.value (Object m.counts.temp) s z z' d e e' fc (λ x. x) (omega arith) (t.grows c) r q)
    (tracks_set_new g w scope most a (5 + o) m.counts.temp called k f V m.value at m.counts v z e owns homes (omega arith) (omega (arith, le, t.grows c)) (omega (arith, top)) r.agrees ready1 is r.value
    (below v (subst (λ u. u < 2 ^ 16) r.value fits))))
  where
    m : Made Operand
    m = emit c

    goal : ℕ → State → Spot → Type 0
    goal = Evaluated w scope called c.temp (Object m.counts.temp) s d

pub set_value : (g : Graph) (w : Ground) (scope : ℕ → Type 0) (most n : ℕ) (called ce later : Bool) (p : Part ℕ) (emit : Emit Operand) (f : Operand → ℕ → ℕ → Op) (V : ℕ → ℕ)
    → OwnsTemporaries w → HasHomes w scope → (called ≡ false → ce ≡ false) → Tracked g w scope most n ce later p emit → IsSet f V → ((v : ℕ) → v < 2 ^ 16 → V v < 2 ^ 16)
    → SetArm g w scope most n called (p >>= (λ v. part.pure (V v))) (λ t c. made_on (emit c) (λ y. making.one (f y t)))
set_value g w scope most n called ce later p emit f V owns homes fc t is below b x c lb low lt top k s d a o agrees ready =
    expr_then g w scope most n ce later p emit (λ v. part.pure (V v)) (λ y. making.one (f y x)) c k s d a a (6 + o) (suc o) goal t (omega (arith, lb, low, lt)) top agrees ready
    (λ v e z calls ready1 fits r. tracks_weaker g most a (a + most) (suc (6 + o)) (6 + o) a a (suc (6 + o)) (suc o) (Done [] (V v) e) k (item.One (f m.value x m.counts.op) ∷ []) z _ goal
    (omega arith) (omega arith) (omega arith) (omega arith)
    (λ u e' z' q. evaluated_both w scope called ce called b c.temp b v u m.value (Object x) s z z' d e e' fc (λ y. y) (omega (arith, lb, lt)) (omega arith) r q)
    (tracks_into g w scope most a (6 + o) b called k f V m.value x m.counts.op v z e owns homes lb (omega (arith, lb, low)) (omega (arith, lt, top, t.grows c)) r.agrees ready1 is r.value
    (below v (subst (λ u. u < 2 ^ 16) r.value fits))))
  where
    m : Made Operand
    m = emit c

    goal : ℕ → State → Spot → Type 0
    goal = Evaluated w scope called b (Object x) s d

-- ---- a test and its arms

pub arms_level : (g : Graph) (w : Ground) (scope : ℕ → Type 0) (most zc zx zy : ℕ) (called cc later : Bool) (pc px py : Part ℕ) (q : ℕ → Part ℕ) (ec : Emit Operand) (x : Emit ℕ) (y : ℕ → Emit (Unit {0})) (at : Place)
    → (called ≡ false → cc ≡ false) → Tracked g w scope most zc cc later pc ec
    → ((c : Counts) → (c.temp ≤ (x c).value) × ((x c).value < (x c).counts.temp)) → ((t : ℕ) (c : Counts) → c.temp ≤ (y t c).counts.temp)
    → NewArm g w scope most zx called px x → SetArm g w scope most zy called py y → ((v : ℕ) → q v ≡ either (is_set v) px py)
    → LevelTracks g w scope most (zc + (zx + zy)) called (pc >>= q) (chosen_emit ec x y at)
arms_level g w scope most zc zx zy called cc later pc px py q ec x y at fc t gx gy hx hy eq =
    chosen g w scope most zc zx zy called cc later pc px py q ec x y at fc t (λ c. omega (arith, gx c)) gy hx
    (λ c c' low top same top' k s d a o agrees ready. hy c.temp (x c).value c' (gx c).0 low (subst (λ n. (x c).value < n.temp) (sym same) (gx c).1) top' k s d a o agrees ready) eq

test_below : (v : ℕ) → from_test (is_set v) < 2 ^ 16
test_below zero = omega arith
test_below (suc v) = omega arith

-- `&&`: the truth of the second where the first is true, and else 0
pub both_level : (g : Graph) (w : Ground) (scope : ℕ → Type 0) (most na nb : ℕ) (called ca cb later later' : Bool) (p q : Part ℕ) (rest : ℕ → Part ℕ) (ea eb : Emit Operand) (at : Place)
    → OwnsTemporaries w → HasHomes w scope → (called ≡ false → ca ≡ false) → (called ≡ false → cb ≡ false)
    → Tracked g w scope most na ca later' p ea → Tracked g w scope most nb cb later q eb
    → ((v : ℕ) → rest v ≡ either (is_set v) (q >>= (λ u. part.pure (from_test (is_set u)))) (part.pure 0))
    → LevelTracks g w scope most (na + (nb + 0)) called (p >>= rest) (chosen_emit ea (λ c. made_on (eb c) (λ y. set_new (is_set_op at) y at)) (λ t. making.one (copy_op at (Const 0) t)) at)
both_level g w scope most na nb called ca cb later later' p q rest ea eb at owns homes fa fb ta tb eq =
    arms_level g w scope most na nb 0 called ca later' p (q >>= (λ u. part.pure (from_test (is_set u)))) (part.pure 0) rest ea (λ c. made_on (eb c) (λ y. set_new (is_set_op at) y at)) (λ t. making.one (copy_op at (Const 0) t)) at fa ta
    (λ c. omega (arith, tb.grows c)) (λ t c. omega arith)
    (new_value g w scope most nb called cb later q eb (is_set_op at) (λ v. from_test (is_set v)) at owns homes fb tb (is_set_truth at) (λ v h. test_below v))
    (set_constant g w scope most 0 called at owns homes (omega arith)) eq

-- `||`: 1 where the first is true, and else the truth of the second
pub either_level : (g : Graph) (w : Ground) (scope : ℕ → Type 0) (most na nb : ℕ) (called ca cb later later' : Bool) (p q : Part ℕ) (rest : ℕ → Part ℕ) (ea eb : Emit Operand) (at : Place)
    → OwnsTemporaries w → HasHomes w scope → (called ≡ false → ca ≡ false) → (called ≡ false → cb ≡ false)
    → Tracked g w scope most na ca later' p ea → Tracked g w scope most nb cb later q eb
    → ((v : ℕ) → rest v ≡ either (is_set v) (part.pure 1) (q >>= (λ u. part.pure (from_test (is_set u)))))
    → LevelTracks g w scope most (na + (0 + nb)) called (p >>= rest) (chosen_emit ea (set_new (copy_op at) (Const 1) at) (λ t c. made_on (eb c) (λ y. making.one (is_set_op at y t))) at)
either_level g w scope most na nb called ca cb later later' p q rest ea eb at owns homes fa fb ta tb eq =
    arms_level g w scope most na 0 nb called ca later' p (part.pure 1) (q >>= (λ u. part.pure (from_test (is_set u)))) rest ea (set_new (copy_op at) (Const 1) at) (λ t c. made_on (eb c) (λ y. making.one (is_set_op at y t))) at fa ta
    (λ c. omega arith) (λ t c. omega (arith, tb.grows c))
    (new_constant g w scope most 1 called at owns homes (omega arith))
    (set_value g w scope most nb called cb later q eb (is_set_op at) (λ v. from_test (is_set v)) owns homes fb tb (is_set_truth at) (λ v h. test_below v)) eq

-- `?:`: the word of one of two
pub choice_level : (g : Graph) (w : Ground) (scope : ℕ → Type 0) (most nc na nb : ℕ) (called cc ca cb later later' later2 : Bool) (pc p q : Part ℕ) (rest : ℕ → Part ℕ) (ec ea eb : Emit Operand) (at : Place)
    → OwnsTemporaries w → HasHomes w scope → (called ≡ false → cc ≡ false) → (called ≡ false → ca ≡ false) → (called ≡ false → cb ≡ false)
    → Tracked g w scope most nc cc later2 pc ec → Tracked g w scope most na ca later' p ea → Tracked g w scope most nb cb later q eb
    → ((v : ℕ) → rest v ≡ either (is_set v) (p >>= (λ u. part.pure u)) (q >>= (λ u. part.pure u)))
    → LevelTracks g w scope most (nc + (na + nb)) called (pc >>= rest)
    (chosen_emit ec (λ c. made_on (ea c) (λ y. set_new (copy_op at) y at)) (λ t c. made_on (eb c) (λ y. making.one (copy_op at y t))) at)
choice_level g w scope most nc na nb called cc ca cb later later' later2 pc p q rest ec ea eb at owns homes fc fa fb tc ta tb eq =
    arms_level g w scope most nc na nb called cc later2 pc (p >>= (λ u. part.pure u)) (q >>= (λ u. part.pure u)) rest ec (λ c. made_on (ea c) (λ y. set_new (copy_op at) y at)) (λ t c. made_on (eb c) (λ y. making.one (copy_op at y t))) at fc tc
    (λ c. omega (arith, ta.grows c)) (λ t c. omega (arith, tb.grows c))
    (new_value g w scope most na called ca later' p ea (copy_op at) (λ v. v) at owns homes fa ta (is_set_copy at) (λ v h. h))
    (set_value g w scope most nb called cb later q eb (copy_op at) (λ v. v) owns homes fb tb (is_set_copy at) (λ v h. h)) eq
