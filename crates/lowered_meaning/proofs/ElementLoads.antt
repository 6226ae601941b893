-- Elements that are read, and expressions of one operand.
use Rattle.std.proofs.Common.{◌≡◌, ℕ, suc, ◌+◌, ◌^◌, ◌<◌, ◌≤◌, Bool, true, false, Option, Some, None, [], length, refl, sym, ap, ◌∙◌, subst, arith}
use Rattle.std.specs.Prelude.{slice_get, slice_index_or, nat_lt, if◌then◌else◌}
use Rattle.base_io.specs.declared.place.Place.{Place}
use Rattle.c_values.specs.declared.ops.Ty.{Ty}
use Rattle.c_values.specs.Values.{Worked, Gives, Traps, value, within, index_trap}
use Rattle.c_tree.specs.Runs as part
use Rattle.c_tree.specs.Runs.{State, Got, Done, Trapped, Part, behind_events, at_element, read_at, word_or_trap, ◌>>=◌}
use Rattle.flow_graph.specs.declared.graph.Graph.{Graph}
use Rattle.flow_graph.specs.declared.graph.Op.{Op}
use Rattle.flow_graph.specs.declared.graph.OpKind.{OpKind}
use Rattle.flow_graph.specs.declared.graph.OpKind.TheVariants as kind
use Rattle.flow_graph.specs.declared.graph.Operand.{Operand}
use Rattle.flow_graph.specs.declared.graph.Operand.TheVariants.{Object}
use Rattle.flow_graph.specs.Operations.{word_at, with_word, operand_word}
use Rattle.flow_graph.specs.declared.nodes.Around.{Around}
use Rattle.flow_graph.specs.Flow as flow
use Rattle.flow_graph.specs.Flow.{Spot}
use Rattle.lowered_graphs.specs.Making as making
use Rattle.lowered_graphs.specs.Making.{Counts, Emit, Made, made_on, made_op, zero_operand, op_of}
use Rattle.lowered_graphs.specs.Operators.{make_some}
use Rattle.lowered_graphs.specs.Exprs.{home, array_use, length_in, load}
use Rattle.lowered_meaning.specs.Tracks.{Tracks}
use Rattle.lowered_meaning.specs.Keeps.{Ground, Kept, SameShape, Ready, OwnsTemporaries, HasHomes, Agrees, Evaluated, Grows, Stays, LevelTracks}
use Rattle.lowered_meaning.proofs.TrackLemmas.{tracks_weaker, tracks_none}
use Rattle.lowered_meaning.proofs.KeepLemmas.{word_same, with_word_shape, kept_write, agrees_write}
use Rattle.lowered_meaning.proofs.ShapeLemmas.{Tracked, one_operand, made_stays}
use Rattle.lowered_meaning.proofs.ElementSteps.{tracks_does, tracks_traps, effect_at, evaluated_both, expr_then}
use Rattle.lowered_meaning.proofs.WordsSame.{index_of}
use Rattle.lowered_meaning.proofs.WordsTable.{ConvertsBy, WorksIfAny}

-- a word was written to a temporary, and what else changed is the input
pub wrote_evaluated : (w : Ground) (scope : ℕ → Type 0) (called : Bool) (t b v : ℕ) (s : Spot) (d e : State) (z : Spot)
    → OwnsTemporaries w → HasHomes w scope → b ≤ t → w.base ≤ t → t < w.top → Agrees w scope d s → Ready w s.objects → v < 2 ^ 16
    → z.objects ≡ with_word s.objects t 0 v → z.input ≡ e.input → e.store ≡ d.store → Evaluated w scope called b (Object t) s d v e z
wrote_evaluated w scope called t b v s d e z owns homes lb le top agrees ready fits objects input store = record {
  value = ap (λ ws. word_at ws t 0) objects ∙ word_same s.objects t v (ready.temporaries t le top);
  agrees = record {
    variables = λ x is. h.variables x is ∙ ap (λ st. slice_index_or st x []) (sym store);
    shape = λ x is. ap (λ st. length (slice_index_or st x [])) store ∙ agrees.shape x is;
    input = input;
    fit = h.fit;
  };
  kept = subst (Kept w called b s.objects) (sym objects) (kept_write w called b t v s.objects (owns t le top) lb);
  shape = subst (SameShape s.objects) (sym objects) (with_word_shape s.objects t 0 v);
  store = λ x fixed. ap (λ st. slice_index_or st x []) store;
}
  where
    h : Agrees w scope d (record z { input = s.input })
    h = agrees_write w scope d s (record z { input = s.input }) t v homes (owns t le top) le fits objects refl agrees

-- ---- elements

-- what is read of an array, by whether the index is within it
abbrev pub element_of : Bool → ℕ → State → Got ℕ
element_of true w d = Done [] w d
element_of false w d = Trapped [] index_trap

pub read_is : (x n len : ℕ) (ty : Ty) (d : State) → length (slice_index_or d.store x []) ≡ len → len ≤ 1024 → n < 2 ^ 16
    → read_at x ty n d ≡ element_of (nat_lt n len) (slice_index_or (slice_index_or d.store x []) n 0) d
read_is x n len ty d is le fits = ap (λ p. behind_events [] (at_element p f d)) (ap (λ l. within l (value ty n)) is ∙ index_of ty len n le fits) ∙ by_case (nat_lt n len)
  where
    f : ℕ → Part ℕ
    f k = part.pure (slice_index_or (slice_index_or d.store x []) k 0)

    by_case : (b : Bool) → behind_events [] (at_element (if b then Some n else None) f d) ≡ element_of b (slice_index_or (slice_index_or d.store x []) n 0) d
    by_case true = refl
    by_case false = refl

-- the word of an element, where it is within the array
pub tracks_load : (g : Graph) (w : Ground) (scope : ℕ → Type 0) (most x n : ℕ) (ty : Ty) (called : Bool) (i : Operand) (at : Place) (c : Counts) (k : Around) (s : Spot) (d : State) (a o : ℕ)
    → OwnsTemporaries w → HasHomes w scope → scope x → length_in (slice_get w.setting.program.variables x) ≤ 1024
    → w.base ≤ c.temp → c.temp + 1 ≤ w.top → Agrees w scope d s → Ready w s.objects → operand_word s.objects i ≡ n → n < 2 ^ 16
    → Tracks g most a (a + most) (suc o) o (read_at x ty n d) k (load w.setting x i at c).items s (Evaluated w scope called c.temp (Object c.temp) s d)
tracks_load g w scope most x n ty called i at c k s d a o owns homes is le low top agrees ready value fits =
    subst (λ r. Tracks g most a (a + most) (suc o) o r k (load w.setting x i at c).items s goal)
    (sym (read_is x n len ty d (agrees.shape x (homes x is).0) le fits)) (by_case (nat_lt n len) refl)
  where
    len : ℕ
    len = length_in (slice_get w.setting.program.variables x)

    goal : ℕ → State → Spot → Type 0
    goal = Evaluated w scope called c.temp (Object c.temp) s d

    op : Op
    op = op_of kind.Load (Some c.temp) i zero_operand (Some (array_use w.setting x)) at c.op

    word : ℕ
    word = slice_index_or (slice_index_or d.store x []) n 0

    read : word_at s.objects (home w.setting x) n ≡ word
    read = ap (λ ws. slice_index_or ws n 0) (agrees.variables x is)

    effect : effect_at op s ≡ flow.at_element (nat_lt n len) (flow.Went [] (flow.written (Some c.temp) word s))
    effect = ap (λ m. flow.at_element (nat_lt m len) (flow.Went [] (flow.written (Some c.temp) (word_at s.objects (home w.setting x) m) s))) value
        ∙ ap (λ v. flow.at_element (nat_lt n len) (flow.Went [] (flow.written (Some c.temp) v s))) read

    by_case : (b : Bool) → nat_lt n len ≡ b → Tracks g most a (a + most) (suc o) o (element_of b word d) k (load w.setting x i at c).items s goal
    by_case true e = tracks_does g most a o k op word d s (flow.written (Some c.temp) word s) goal refl
        (effect ∙ ap (λ b. flow.at_element b (flow.Went [] (flow.written (Some c.temp) word s))) e) refl
        (wrote_evaluated w scope called c.temp c.temp word s d d (record (flow.written (Some c.temp) word s) { at = k.behind }) owns homes (omega arith) low (omega (arith, top)) agrees ready
        (subst (λ v. v < 2 ^ 16) read (agrees.fit (home w.setting x) n)) refl agrees.input refl)
    by_case false e = tracks_traps g most a (a + most) o o index_trap k op s goal refl (effect ∙ ap (λ b. flow.at_element b (flow.Went [] (flow.written (Some c.temp) word s))) e)

pub element : (g : Graph) (w : Ground) (scope : ℕ → Type 0) (most n x : ℕ) (ty : Ty) (called later : Bool) (p : Part ℕ) (emit : Emit Operand) (at : Place)
    → OwnsTemporaries w → HasHomes w scope → scope x → length_in (slice_get w.setting.program.variables x) ≤ 1024 → Tracked g w scope most n called later p emit
    → LevelTracks g w scope most n called (p >>= (λ k. read_at x ty k)) (λ c. made_on (emit c) (λ a. load w.setting x a at))
element g w scope most n x ty called later p emit at owns homes is small t c le top k s d a o agrees ready =
    expr_then g w scope most n called later p emit (λ i. read_at x ty i) (λ i. load w.setting x i at) c k s d a a (6 + o) (suc o) goal t le (omega (arith, top)) agrees ready
    (λ v e z calls ready1 fits r. tracks_weaker g most a (a + most) (suc (6 + o)) (6 + o) a a (suc (6 + o)) (suc o) (read_at x ty v e) k (load w.setting x m.value at m.counts).items z _ goal
    (omega arith) (omega arith) (omega arith) (omega arith)
    (λ u e' z' q. evaluated_both w scope called called called c.temp c.temp m.counts.temp v u m.value (Object m.counts.temp) s z z' d e e' (λ x. x) (λ x. x) (omega arith) (t.grows c) r q)
    (tracks_load g w scope most x v ty called m.value at m.counts k z e a (6 + o) owns homes is small (omega (arith, le, t.grows c)) (omega (arith, top)) r.agrees ready1 r.value
    (subst (λ u. u < 2 ^ 16) r.value fits)))
  where
    m : Made Operand
    m = emit c

    goal : ℕ → State → Spot → Type 0
    goal = Evaluated w scope called c.temp (Object m.counts.temp) s d

-- ---- operators of one operand, and conversions

-- an operand that has the value already
pub operand_kept : (g : Graph) (w : Ground) (scope : ℕ → Type 0) (most n : ℕ) (called later : Bool) (p : Part ℕ) (emit : Emit Operand) (V : ℕ → ℕ)
    → Tracked g w scope most n called later p emit → ((v : ℕ) → v < 2 ^ 16 → V v ≡ v)
    → LevelTracks g w scope most n called (p >>= (λ v. part.pure (V v))) (λ c. made_on (emit c) (λ a. making.pure a))
operand_kept g w scope most n called later p emit V t same c le top k s d a o agrees ready =
    expr_then g w scope most n called later p emit (λ v. part.pure (V v)) (λ x. making.pure x) c k s d a a (6 + o) (suc o) goal t le top agrees ready
    (λ v e z calls ready1 fits r. tracks_weaker g most a a (suc (6 + o)) (suc (6 + o)) a a (suc (6 + o)) (suc o) (Done [] (V v) e) k [] z goal goal
    (omega arith) (omega arith) (omega arith) (omega arith) (λ u e' z' q. q)
    (tracks_none g most a (suc (6 + o)) (V v) e k z goal
    (record { value = r.value ∙ sym (same v (subst (λ u. u < 2 ^ 16) r.value fits)); agrees = r.agrees; kept = r.kept; shape = r.shape; store = r.store })))
  where
    goal : ℕ → State → Spot → Type 0
    goal = Evaluated w scope called c.temp (emit c).value s d

-- an operation that gives it, or none
pub some_level : (g : Graph) (w : Ground) (scope : ℕ → Type 0) (most n : ℕ) (called later : Bool) (p : Part ℕ) (emit : Emit Operand) (at : Place) (V : ℕ → ℕ) (k : Option OpKind)
    → OwnsTemporaries w → HasHomes w scope → Tracked g w scope most n called later p emit
    → WorksIfAny k → ((v : ℕ) → v < 2 ^ 16 → ConvertsBy k v (V v)) → ((v : ℕ) → v < 2 ^ 16 → V v < 2 ^ 16)
    → LevelTracks g w scope most n called (p >>= (λ v. part.pure (V v))) (λ c. made_on (emit c) (λ a. make_some k a at))
some_level g w scope most n called later p emit at V None owns homes t works same below = operand_kept g w scope most n called later p emit V t same
some_level g w scope most n called later p emit at V (Some k) owns homes t works same below =
    one_operand g w scope most n called later p emit (λ x d. op_of k (Some d) x zero_operand None at) (λ v. Gives (V v)) owns homes t
    (λ x d m. (works, refl)) (λ x d m ws fits. same (operand_word ws x) fits) (λ v u is e. subst (λ y. y < 2 ^ 16) (ap word_of e) (below v is))
  where
    word_of : Worked → ℕ
    word_of (Gives y) = y
    word_of (Traps y) = 0

pub grows_some : (emit : Emit Operand) (k : Option OpKind) (at : Place) → Grows emit → Grows (λ c. made_on (emit c) (λ a. make_some k a at))
grows_some emit None at h c = h c
grows_some emit (Some k) at h c = omega (arith, h c)

pub stays_some : (w : Ground) (later : Bool) (emit : Emit Operand) (k : Option OpKind) (at : Place) → OwnsTemporaries w → Grows emit → Stays w later emit → Stays w later (λ c. made_on (emit c) (λ a. make_some k a at))
stays_some w later emit None at owns g h c le top = h c le top
stays_some w later emit (Some k) at owns g h c le top = made_stays w later (λ t. op_of k (Some t) (emit c).value zero_operand None at) owns (emit c).counts (omega (arith, le, g c)) top
