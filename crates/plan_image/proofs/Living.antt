-- Liveness along the operations of a graph of one function: what is live behind an operation is live before it, or written whole by it; and what an
-- operation reads is live before it.
use Rattle.std.proofs.Common.{◌≡◌, ◌≢◌, ◌⊎◌, ℕ, Bool, true, false, Option, Some, None, [], ◌∷◌, refl, sym, ap, ◌∙◌, subst, inl, inr}
use Rattle.std.specs.Prelude.{◌==◌, ◌||◌, slice_get}
use Rattle.std.proofs.lemmas.Bool.{cases_Bool, eqb-true, eq-eqb}
use Rattle.flow_graph.specs.declared.graph.ArrayUse.{ArrayUse}
use Rattle.flow_graph.specs.declared.graph.Op.{Op}
use Rattle.flow_graph.specs.declared.graph.Operand.TheVariants.{Object}
use Rattle.flow_graph.specs.declared.graph.OpKind.{OpKind}
use Rattle.flow_graph.specs.declared.graph.OpKind.TheVariants as kind
use Rattle.flow_graph.specs.declared.graph.Graph.{Graph}
use Rattle.flow_graph.specs.declared.nodes.Next.{Next}
use Rattle.flow_graph.specs.declared.nodes.Next.TheVariants as next
use Rattle.flow_graph.specs.declared.nodes.Node.{Node}
use Rattle.flow_graph.specs.declared.owned.Owned.{Owned}
use Rattle.flow_graph.specs.Nodes.{graph_nodes, node_in}
use Rattle.flow_graph.specs.Operations.{passes}
use Rattle.flow_graph.specs.Owned.{IsAt, operations}
use Rattle.flow_graph.specs.Closed.{IsNextOf}
use Rattle.flow_graph.specs.Rules.{DestFits, IsGraph, parts_of}
use Rattle.flow_graph.proofs.ClosedLemmas.{closed, node_at}
use Rattle.laid_code.specs.Flows.{Memory, Turn, On, Away, Ends}
use Rattle.graph_flow.specs.GraphFlow.{Place, array_object, away_at, away_by, effect_by, flow_of, on_at, on_by, operand, size_of, sizes, target_at, target_by, turn_by}
use Rattle.graph_flow.specs.GraphFlow as graph
use Rattle.graph_code.specs.Order.{IsAlone}
use Rattle.graph_code.proofs.OrderLemmas.{in_main, no_call}
use Rattle.each_image.proofs.Performing.{no_end}
use Rattle.live_objects.specs.Live.{Follows, IsLiveBefore, Leads, is_array, is_dest, is_object, needs}
use Rattle.plan_image.proofs.Homed.{has_size}

third : (x y : Bool) → (x || y || true) ≡ true
third true y = refl
third false true = refl
third false false = refl

second : (x z : Bool) → (x || true || z) ≡ true
second true z = refl
second false z = refl

-- an end goes nowhere
no_end_on : (k : OpKind) (op : Op) (a b : ℕ) (m : Memory) (w : ℕ) (turn : Turn) → (effect_by k op a b m w turn).turn ≡ On → k ≡ kind.Finish → ⊥
no_end_on k op a b m w turn on e = let bad : Ends a ≡ On = ap (λ j. (effect_by j op a b m w turn).turn) (sym e) ∙ on in absurd (cc)

keeps_dest : (dest : Option ℕ) (o : ℕ) → dest ≢ Some o → is_dest dest o ≡ false
keeps_dest None o ne = refl
keeps_dest (Some p) o ne = elim (cases_Bool (p == o)) [ inl e ↦ absurd (ne (ap (λ y. Some y) (eqb-true p o e))) | inr e ↦ e ]

module _ (g : Graph) where
  keeps_by : (k : OpKind) (op : Op) (o : ℕ) → DestFits g (parts_of k).dest op.dest → target_by k op ≢ Some o → is_dest op.dest o ≡ false
  keeps_by kind.Store op o fits ne = ap (λ d. is_dest d o) fits
  keeps_by kind.Output op o fits ne = ap (λ d. is_dest d o) fits
  keeps_by kind.Finish op o fits ne = ap (λ d. is_dest d o) fits
  keeps_by k op o fits ne = keeps_dest op.dest o ne

  array_needed : (array : Option ArrayUse) (o : ℕ) → array_object array ≡ Some o → is_array array o ≡ true
  array_needed None o e = absurd (cc)
  array_needed (Some u) o e = let same : u.object ≡ o = cc in eq-eqb u.object o same

  scalar_by : (used : Bool) (dest : Option ℕ) (o : ℕ) → DestFits g used dest → dest ≡ Some o → sizes g o ≡ 1
  scalar_by true None o fits e = absurd fits
  scalar_by true (Some p) o fits e = let same : p ≡ o = cc in subst (λ y. sizes g y ≡ 1) same (has_size (slice_get g.objects p) 1 fits)
  scalar_by false dest o fits e = let bad : None ≡ Some o = sym fits ∙ e in absurd (cc)

  -- a scalar is written whole, and an array of which a word is written is needed
  part_by : (k : OpKind) (op : Op) (o : ℕ) → DestFits g (parts_of k).dest op.dest → target_by k op ≡ Some o → (needs op o ≡ true) ⊎ (sizes g o ≡ 1)
  part_by kind.Store op o fits e = inl (ap (λ z. is_object op.a o || is_object op.b o || z) (array_needed op.array o e) ∙ third (is_object op.a o) (is_object op.b o))
  part_by kind.Output op o fits e = let bad : None ≡ Some o = e in absurd (cc)
  part_by kind.Finish op o fits e = let bad : None ≡ Some o = e in absurd (cc)
  part_by k op o fits e = inr (scalar_by (parts_of k).dest op.dest o fits e)

  module _ (rules : IsGraph g) (alone : IsAlone g) (q : Place) (x : Owned) (at : IsAt (operations g) q.at x) where
    found : node_in (graph_nodes g) q.at ≡ Some x.node
    found = node_at g q.at x (closed g rules).places at

    dest_fits : DestFits g (parts_of x.node.op.kind).dest x.node.op.dest
    dest_fits = ((closed g rules).fits q.at x at).dest

    target_is : (flow_of g).target q ≡ target_by x.node.op.kind x.node.op
    target_is = ap (λ (y : Option Node). target_at y) found

    -- ---- What is read

    live_needed : (o : ℕ) → needs x.node.op o ≡ true → IsLiveBefore g q.at o
    live_needed o e = record { path = []; lives = record { op = x; is_op = at; needed = e } }

    pub reads_a : (o : ℕ) → x.node.op.a ≡ Object o → IsLiveBefore g q.at o
    reads_a o e = live_needed o (ap (λ y. y || is_object x.node.op.b o || is_array x.node.op.array o) (ap (λ a. is_object a o) e ∙ eq-eqb o o refl))

    pub reads_b : (o : ℕ) → x.node.op.b ≡ Object o → IsLiveBefore g q.at o
    reads_b o e = live_needed o (ap (λ y. is_object x.node.op.a o || y || is_array x.node.op.array o) (ap (λ b. is_object b o) e ∙ eq-eqb o o refl) ∙ second (is_object x.node.op.a o) (is_array x.node.op.array o))

    pub reads_array : (u : ArrayUse) → x.node.op.array ≡ Some u → IsLiveBefore g q.at u.object
    reads_array u e = live_needed u.object
        (ap (λ y. is_object x.node.op.a u.object || is_object x.node.op.b u.object || y) (ap (λ a. is_array a u.object) e ∙ eq-eqb u.object u.object refl) ∙ third (is_object x.node.op.a u.object) (is_object x.node.op.b u.object))

    -- ---- Where control goes

    calls_not : (f n : ℕ) → x.node.next ≡ next.Into f n → ⊥
    calls_not f n e = no_call g rules alone q.at x f n at e

    returns_not : x.node.next ≡ next.Returns → ⊥
    returns_not e = (closed g rules).returns q.at x at e (in_main g rules alone q.at x at)

    follows_on : (y : Next) → x.node.next ≡ y → (x.node.op.kind ≡ kind.Finish → ⊥) → Follows g x.function y (on_by g y q).at
    follows_on (next.To n) e goes = refl
    follows_on (next.Either n m) e goes = inl refl
    follows_on (next.Into f n) e goes = absurd (calls_not f n e)
    follows_on next.Returns e goes = absurd (returns_not e)
    follows_on next.Ends e goes = goes (subst (λ y. IsNextOf x.node.op.kind y) e ((closed g rules).kinds q.at x at))

    follows_away : (y : Next) → x.node.next ≡ y → (x.node.op.kind ≡ kind.Finish → ⊥) → Follows g x.function y (away_by y q).at
    follows_away (next.To n) e goes = refl
    follows_away (next.Either n m) e goes = inr refl
    follows_away (next.Into f n) e goes = absurd (calls_not f n e)
    follows_away next.Returns e goes = absurd (returns_not e)
    follows_away next.Ends e goes = goes (subst (λ y. IsNextOf x.node.op.kind y) e ((closed g rules).kinds q.at x at))

    abbrev turns : Memory → ℕ → Turn
    turns m w = turn_by x.node.op.kind x.node.next (passes x.node.op.kind (operand m x.node.op.a) (operand m x.node.op.b))

    turn_is : (m : Memory) (w : ℕ) → ((flow_of g).effect q m w).turn ≡ (effect_by x.node.op.kind x.node.op (operand m x.node.op.a) (operand m x.node.op.b) m w (turns m w)).turn
    turn_is m w = ap (λ (y : Option Node). (graph.effect_at y m w).turn) found

    pub leads_on : (m : Memory) (w : ℕ) → ((flow_of g).effect q m w).turn ≡ On → Leads g q.at ((flow_of g).on q).at
    leads_on m w e = record {
      op = x;
      is_op = at;
      follows = subst (λ (p : Place). Follows g x.function x.node.next p.at) (sym (ap (λ (y : Option Node). on_at g y q) found))
          (follows_on x.node.next refl (no_end_on x.node.op.kind x.node.op (operand m x.node.op.a) (operand m x.node.op.b) m w (turns m w) (sym (turn_is m w) ∙ e)));
    }

    pub leads_away : (m : Memory) (w : ℕ) → ((flow_of g).effect q m w).turn ≡ Away → Leads g q.at ((flow_of g).away q).at
    leads_away m w e = record {
      op = x;
      is_op = at;
      follows = subst (λ (p : Place). Follows g x.function x.node.next p.at) (sym (ap (λ (y : Option Node). away_at y q) found))
          (follows_away x.node.next refl (no_end x.node.op.kind x.node.op (operand m x.node.op.a) (operand m x.node.op.b) m w (turns m w) (sym (turn_is m w) ∙ e)));
    }

    -- ---- What is live behind

    pub live_before : (j : ℕ) → Leads g q.at j → (o : ℕ) → IsLiveBefore g j o → (flow_of g).target q ≢ Some o → IsLiveBefore g q.at o
    live_before j leads o lives spared = record {
      path = j ∷ lives.path;
      lives = (
        record { op = x; is_op = at; kept = keeps_by x.node.op.kind x.node.op o dest_fits (λ e. spared (target_is ∙ e)) },
        leads,
        lives.lives,
      );
    }

    pub live_part : (o : ℕ) → (flow_of g).target q ≡ Some o → IsLiveBefore g q.at o ⊎ (sizes g o ≡ 1)
    live_part o e = elim (part_by x.node.op.kind x.node.op o dest_fits (sym target_is ∙ e)) [ inl needed ↦ inl (live_needed o needed) | inr one ↦ inr one ]
