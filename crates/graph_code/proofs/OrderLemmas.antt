-- In a graph of one function control goes on to the operation behind, or jumps to one of the code.
use Rattle.std.proofs.Common.{◌≡◌, ◌⊎◌, ℕ, suc, zero, ◌+◌, ◌<◌, Bool, true, false, Option, Some, None, List, [], ◌∷◌, length, refl, sym, ap, subst, inl, inr, ◌∙◌, arith, append-nil}
use Rattle.std.specs.Prelude.{nat_lt, slice_get}
use Rattle.std.proofs.lemmas.Option.{slice_get_within}
use Rattle.c_values.specs.Values.{Worked, Gives, Traps as MeetsTrap}
use Rattle.flow_graph.specs.declared.graph.ArrayUse.{ArrayUse}
use Rattle.flow_graph.specs.declared.graph.Op.{Op}
use Rattle.flow_graph.specs.declared.graph.OpKind.{OpKind}
use Rattle.flow_graph.specs.declared.graph.OpKind.TheVariants as kind
use Rattle.flow_graph.specs.declared.graph.Func.{Func}
use Rattle.flow_graph.specs.declared.graph.Graph.{Graph}
use Rattle.flow_graph.specs.declared.nodes.Next.{Next}
use Rattle.flow_graph.specs.declared.nodes.Next.TheVariants as next
use Rattle.flow_graph.specs.declared.nodes.Node.{Node}
use Rattle.flow_graph.specs.declared.owned.Owned.{Owned}
use Rattle.flow_graph.specs.Nodes.{all_nodes, body_nodes, entry, first_in, graph_nodes, node_in}
use Rattle.flow_graph.specs.Operations.{gives, passes}
use Rattle.flow_graph.specs.Owned.{IsAt, IsIn, operations, owned, owned_from}
use Rattle.flow_graph.specs.Rules.{IsGraph, IsNumbered, height_of}
use Rattle.flow_graph.specs.Closed.{FallsTo, IsNextOf, IsOnward, Stays}
use Rattle.flow_graph.proofs.ListLemmas.{item_at}
use Rattle.flow_graph.proofs.ClosedLemmas.{closed, node_at}
use Rattle.flow_graph.proofs.FallLemmas.{first_of_body, head_number, operations_fall_on}
use Rattle.laid_code.specs.Flows.{Memory, Turn, On, Away, Ends, Traps, Effect}
use Rattle.graph_flow.specs.GraphFlow.{Place, at_element, away_at, away_by, changes, effect_at, effect_by, load, on_at, on_by, operand, stops, store, to_turn, turn_by, worked}
use Rattle.graph_code.specs.Order.{IsAlone, IsThere, OperationsStandInOrder, RunsBeginFirst, StandsInOrder}

-- ---- where an effect goes on or away, its operation does

-- the effect's turn is the operation's, or it stops
abbrev pub Turns : Turn → Effect → Type 0
Turns turn e = (e.turn ≡ turn) ⊎ ((e.turn ≡ On → ⊥) × (e.turn ≡ Away → ⊥))

trap_stops : (turn : Turn) (t : ℕ) → Turns turn (stops (Traps t))
trap_stops turn t = inr ((λ e. let bad : Traps t ≡ On = e in absurd (cc)), (λ e. let bad : Traps t ≡ Away = e in absurd (cc)))

end_stops : (turn : Turn) (v : ℕ) → Turns turn (stops (Ends v))
end_stops turn v = inr ((λ e. let bad : Ends v ≡ On = e in absurd (cc)), (λ e. let bad : Ends v ≡ Away = e in absurd (cc)))

worked_turns : (dest : Option ℕ) (x : Worked) (turn : Turn) → Turns turn (worked dest x turn)
worked_turns dest (Gives w) turn = inl refl
worked_turns dest (MeetsTrap t) turn = trap_stops turn t

element_turns : (b : Bool) (e : Effect) (turn : Turn) → e.turn ≡ turn → Turns turn (at_element b e)
element_turns true e turn h = inl h
element_turns false e turn h = trap_stops turn 2

load_turns : (array : Option ArrayUse) (dest : Option ℕ) (i : ℕ) (m : Memory) (turn : Turn) → Turns turn (load array dest i m turn)
load_turns None dest i m turn = end_stops turn 0
load_turns (Some u) dest i m turn = element_turns (nat_lt i u.length) (record { change = changes dest (m u.object i); puts = None; takes = false; turn = turn }) turn refl

store_turns : (array : Option ArrayUse) (w i : ℕ) (turn : Turn) → Turns turn (store array w i turn)
store_turns None w i turn = end_stops turn 0
store_turns (Some u) w i turn = element_turns (nat_lt i u.length) (record { change = Some (record { object = u.object; index = i; value = w }); puts = None; takes = false; turn = turn }) turn refl

pub effect_turns : (k : OpKind) (op : Op) (a b : ℕ) (m : Memory) (w : ℕ) (turn : Turn) → Turns turn (effect_by k op a b m w turn)
effect_turns kind.Load op a b m w turn = load_turns op.array op.dest a m turn
effect_turns kind.Store op a b m w turn = store_turns op.array a b turn
effect_turns kind.Input op a b m w turn = inl refl
effect_turns kind.Output op a b m w turn = inl refl
effect_turns kind.Finish op a b m w turn = end_stops turn a
effect_turns k op a b m w turn = worked_turns op.dest (gives k a b) turn

turned_on : (turn : Turn) (e : Effect) → Turns turn e → e.turn ≡ On → turn ≡ On
turned_on turn e (inl same) on = sym same ∙ on
turned_on turn e (inr stopped) on = absurd (stopped.0 on)

pub turned_away : (turn : Turn) (e : Effect) → Turns turn e → e.turn ≡ Away → turn ≡ Away
turned_away turn e (inl same) away = sym same ∙ away
turned_away turn e (inr stopped) away = absurd (stopped.1 away)

-- an operation that goes on falls on
onward : (k : OpKind) (n m : ℕ) → IsOnward k n m → to_turn k ≡ On → n ≡ m
onward kind.Go n m h e = let bad : Away ≡ On = e in absurd (cc)
onward _ n m h e = h

-- ---- one function

owned_function : (f : ℕ) (xs : List Node) (i : ℕ) (x : Owned) → slice_get (owned f xs) i ≡ Some x → x.function ≡ f
owned_function f [] i x e = absurd (cc)
owned_function f (y ∷ ys) zero x e = let same : record { function = f; node = y } ≡ x = cc in ap (λ (z : Owned). z.function) (sym same)
owned_function f (y ∷ ys) (suc i) x e = owned_function f ys i x e

only_function : (fs : List Func) (i : ℕ) (x : Owned) → length fs ≡ 1 → slice_get (owned_from 0 fs) i ≡ Some x → x.function ≡ 0
only_function [] i x one e = absurd (omega (arith, one))
only_function (b ∷ []) i x one e = owned_function 0 (body_nodes b) i x (subst (λ ys. slice_get ys i ≡ Some x) (append-nil (owned 0 (body_nodes b))) e)
only_function (b ∷ c ∷ fs) i x one e = absurd (omega (arith, one))

module _ (g : Graph) (rules : IsGraph g) (alone : IsAlone g) where
  only_main : g.main ≡ 0
  only_main = let lt = rules.main in omega (arith, lt, alone)

  pub in_main : (i : ℕ) (x : Owned) → IsAt (operations g) i x → x.function ≡ g.main
  in_main i x at = only_function g.functions i x alone at ∙ sym only_main

  there : (j f : ℕ) → IsIn g j f → j < length (operations g)
  there j f h = slice_get_within (operations g) j h.0 h.1

  pub no_call : (i : ℕ) (x : Owned) (f n : ℕ) → IsAt (operations g) i x → x.node.next ≡ next.Into f n → ⊥
  no_call i x f n at e =
      let c = rules.calls x.function f ((closed g rules).calls i x f n at e) in
      let here = in_main i x at in
      let same : f ≡ x.function = (let lt = c.0 in omega (arith, lt, alone, here, only_main)) in
      let lower = c.1 in
      let loops = ap (height_of rules.heights) same in
      omega (arith, lower, loops)

  module _ (i : ℕ) (x : Owned) (at : IsAt (operations g) i x) where
    falls_on : (k : OpKind) (y : Next) (passed : Bool) (q : Place) → x.node.next ≡ y → q.at ≡ i → FallsTo k y (i + 1) → IsNextOf x.node.op.kind y → turn_by k y passed ≡ On
        → (x.node.op.kind ≡ kind.Finish → ⊥) → IsThere g (on_by g y q) × ((on_by g y q).at ≡ q.at + 1)
    falls_on k (next.To n) passed q e here falls by on ends =
        let is : n ≡ i + 1 = onward k n (i + 1) falls on in
        (there n x.function ((closed g rules).stays i x at n (subst (λ y. Stays y n) (sym e) refl)), is ∙ ap (λ j. j + 1) (sym here))
    falls_on k (next.Either n m) passed q e here falls by on ends =
        (there n x.function ((closed g rules).stays i x at n (subst (λ y. Stays y n) (sym e) (inl refl))), falls ∙ ap (λ j. j + 1) (sym here))
    falls_on k (next.Into f n) passed q e here falls by on ends = absurd (no_call i x f n at e)
    falls_on k next.Returns passed q e here falls by on ends = absurd ((closed g rules).returns i x at e (in_main i x at))
    falls_on k next.Ends passed q e here falls by on ends = absurd (ends by)

    jumps : (y : Next) (q : Place) → x.node.next ≡ y → IsThere g q → IsThere g (away_by y q)
    jumps (next.To n) q e is = there n x.function ((closed g rules).stays i x at n (subst (λ y. Stays y n) (sym e) refl))
    jumps (next.Either n m) q e is = there m x.function ((closed g rules).stays i x at m (subst (λ y. Stays y m) (sym e) (inr refl)))
    jumps (next.Into f n) q e is = is
    jumps next.Returns q e is = is
    jumps next.Ends q e is = is

  -- an end stops
  ends_off : (k : OpKind) (op : Op) (a b : ℕ) (m : Memory) (w : ℕ) (turn : Turn) → (effect_by k op a b m w turn).turn ≡ On → k ≡ kind.Finish → ⊥
  ends_off k op a b m w turn on e =
      let same : Ends a ≡ On = ap (λ j. (effect_by j op a b m w turn).turn) (sym e) ∙ on in absurd (cc)

  stands : (q : Place) (m : Memory) (w : ℕ) → IsThere g q → StandsInOrder g q m w
  stands q m w is =
      let found = item_at (operations g) q.at is in
      let node = node_at g q.at found.0 (closed g rules).places found.1 in
      by_node found.0 found.1 node
    where
      by_node : (x : Owned) → IsAt (operations g) q.at x → node_in (graph_nodes g) q.at ≡ Some x.node → StandsInOrder g q m w
      by_node x at node = record {
        on = λ e. subst (λ p. IsThere g p × (p.at ≡ q.at + 1)) (sym (ap (λ n. on_at g n q) node)) (on_here (ap (λ n. (effect_at n m w).turn) (sym node) ∙ e));
        away = λ e. subst (λ p. IsThere g p) (sym (ap (λ n. away_at n q) node)) (jumps q.at x at x.node.next q refl is);
      }
        where
          on_here : (effect_at (Some x.node) m w).turn ≡ On → IsThere g (on_by g x.node.next q) × ((on_by g x.node.next q).at ≡ q.at + 1)
          on_here e =
              falls_on q.at x at x.node.op.kind x.node.next (passes x.node.op.kind (operand m x.node.op.a) (operand m x.node.op.b)) q refl refl
              (operations_fall_on g rules q.at x at) ((closed g rules).kinds q.at x at)
              (turned_on (turn_by x.node.op.kind x.node.next (passes x.node.op.kind (operand m x.node.op.a) (operand m x.node.op.b)))
              (effect_by x.node.op.kind x.node.op (operand m x.node.op.a) (operand m x.node.op.b) m w (turn_by x.node.op.kind x.node.next (passes x.node.op.kind (operand m x.node.op.a) (operand m x.node.op.b))))
              (effect_turns x.node.op.kind x.node.op (operand m x.node.op.a) (operand m x.node.op.b) m w (turn_by x.node.op.kind x.node.next (passes x.node.op.kind (operand m x.node.op.a) (operand m x.node.op.b)))) e)
              (ends_off x.node.op.kind x.node.op (operand m x.node.op.a) (operand m x.node.op.b) m w (turn_by x.node.op.kind x.node.next (passes x.node.op.kind (operand m x.node.op.a) (operand m x.node.op.b))) e)

pub operations_stand_in_order : OperationsStandInOrder
operations_stand_in_order g rules alone q m w is = stands g rules alone q m w is

-- ---- where a run begins

numbered_first : (xs : List Node) → IsNumbered 0 xs → head_number xs 0 ≡ 0
numbered_first [] h = refl
numbered_first (x ∷ xs) h = h.0

first_at : (fs : List Func) (main : ℕ) → length fs ≡ 1 → main ≡ 0 → IsNumbered 0 (all_nodes fs) → first_in (slice_get fs main) ≡ 0
first_at [] main one is h = absurd (omega (arith, one))
first_at (b ∷ []) main one is h =
    ap (λ n. first_in (slice_get (b ∷ []) n)) is ∙ (first_of_body b ∙ numbered_first (body_nodes b) (subst (IsNumbered 0) (append-nil (body_nodes b)) h))
first_at (b ∷ c ∷ fs) main one is h = absurd (omega (arith, one))

pub runs_begin_first : RunsBeginFirst
runs_begin_first g rules alone = (
  first_at g.functions g.main alone (only_main g rules alone) rules.numbered,
  there g rules alone (entry g g.main) g.main (closed g rules).begins,
)
