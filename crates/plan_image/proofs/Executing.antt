-- An operation of code in stretches is performed by its template: what it reads is live, and so it is held where operations find it.
use Rattle.std.proofs.Common.{◌≡◌, ℕ, ◌+◌, ◌<◌, ◌≤◌, Bool, Some, List, refl, sym, ap, ◌∙◌, subst, inl}
use Rattle.std.specs.Prelude.{All}
use Rattle.msp430_machine.specs.State.{State}
use Rattle.flow_graph.specs.declared.graph.ArrayUse.{ArrayUse}
use Rattle.flow_graph.specs.declared.graph.Graph.{Graph}
use Rattle.flow_graph.specs.declared.nodes.Node.{Node}
use Rattle.flow_graph.specs.declared.owned.Owned.{Owned}
use Rattle.flow_graph.specs.Owned.{IsAt, operations}
use Rattle.flow_graph.specs.Rules.{IsGraph}
use Rattle.flow_graph.proofs.ClosedLemmas.{closed, node_at}
use Rattle.power_core.proofs.Points.{Setting}
use Rattle.resumed_runs.proofs.Paths.{Stand}
use Rattle.laid_code.specs.Flows.{Memory, On, Away}
use Rattle.laid_code.specs.Obeying.{AreSmall}
use Rattle.laid_code.proofs.Homes.{Home, word_of}
use Rattle.laid_code.proofs.Homing.{place_in}
use Rattle.laid_code.proofs.Laid.{Here, Performed, effect_at}
use Rattle.graph_flow.specs.GraphFlow.{Place, flow_of, sizes}
use Rattle.graph_code.specs.Order.{IsAlone}
use Rattle.op_cost.specs.Templates.{Homes, code_of, template}
use Rattle.op_cost.specs.Weights.{SamePlace, placed, weight}
use Rattle.emit_templates.specs.Layer.{words_of_code}
use Rattle.emit_templates.specs.Placed.{GoesTo}
use Rattle.each_image.proofs.Standing.{Stood}
use Rattle.live_objects.specs.Live.{IsLiveBefore}
use Rattle.stretched_code.proofs.Lined.{Lines, Phase, Position, Saving, holds_in, lined_layout, stretch_at}
use Rattle.plan_image.proofs.Homed.{AreHomes}
use Rattle.plan_image.proofs.Living.{reads_a, reads_array, reads_b}
use Rattle.plan_image.proofs.Operating.{performed}

-- what is live before the operation of a place
abbrev pub live_at : Graph → Place → ℕ → Type 0
live_at g q o = IsLiveBefore g q.at o

module _ (I : Type 0) (g : Graph) (lines : Lines I Place) (st : Setting) (rules : IsGraph g) (alone : IsAlone g) (small : All (λ w. w < 65536) st.input)
    (homes : Homes) (x on away : Position I) (done : ℕ → Bool) (phase : lines.phase x.line ≡ Saving done)
    (are : AreHomes g (place_in (stretch_at I Place (flow_of g) (sizes g) (live_at g) lines x.line)) homes)
    (o : Stood g (lines.spot x.line).at) (y : Owned) (at : IsAt (operations g) (lines.spot x.line).at y) where
  same : y.node ≡ o.node
  same = let both : Some y.node ≡ Some o.node = sym (node_at g (lines.spot x.line).at y (closed g rules).places at) ∙ o.found in cc

  module _ (m : Memory) (s : State) (words : AreSmall (sizes g) m) (here : Here (Position I) Place (flow_of g) (sizes g) (lined_layout I Place (flow_of g) (sizes g) (live_at g) lines) st x m s) where
    held : (p : ℕ) → IsLiveBefore g (lines.spot x.line).at p → (i : ℕ) → i < sizes g p → word_of s (place_in (stretch_at I Place (flow_of g) (sizes g) (live_at g) lines x.line) p) i ≡ m p i
    held p lives i low =
        let h : Home = place_in (stretch_at I Place (flow_of g) (sizes g) (live_at g) lines x.line) p in
        here.held p h (inl (subst (λ (z : Phase). holds_in I Place (flow_of g) (sizes g) (live_at g) lines (stretch_at I Place (flow_of g) (sizes g) (live_at g) lines x.line) z (lines.spot x.line) p h) (sym phase) (inl (lives, inl refl)))) i low

    pub executes : (target kt : ℕ) → GoesTo target kt → Stand st.code (lines.address x.line) (code_of (template homes target o.node.op)) → (sram : List ℕ) → ((p : ℕ) → 1 ≤ sizes g p → SamePlace (homes p) (placed sram p))
        → ((effect_at (Position I) Place (flow_of g) (sizes g) (lined_layout I Place (flow_of g) (sizes g) (live_at g) lines) st x m s.taken).turn ≡ On → lines.address on.line ≡ lines.address x.line + words_of_code (code_of (template homes target o.node.op)))
        → ((effect_at (Position I) Place (flow_of g) (sizes g) (lined_layout I Place (flow_of g) (sizes g) (live_at g) lines) st x m s.taken).turn ≡ Away → lines.address away.line ≡ kt)
        → Performed (Position I) Place (flow_of g) (sizes g) (lined_layout I Place (flow_of g) (sizes g) (live_at g) lines) st x on away (weight st.board sram o.node.op)
        (effect_at (Position I) Place (flow_of g) (sizes g) (lined_layout I Place (flow_of g) (sizes g) (live_at g) lines) st x m s.taken) s
    executes target kt goes stands sram same_place on_at away_at =
        performed g (Position I) (lined_layout I Place (flow_of g) (sizes g) (live_at g) lines) st homes x on away are rules small m s words here o target kt goes stands
        (λ p e. held p (reads_a g rules alone (lines.spot x.line) y at p (ap (λ (n : Node). n.op.a) same ∙ e)))
        (λ p e. held p (reads_b g rules alone (lines.spot x.line) y at p (ap (λ (n : Node). n.op.b) same ∙ e)))
        (λ (u : ArrayUse) e. held u.object (reads_array g rules alone (lines.spot x.line) y at u (ap (λ (n : Node). n.op.array) same ∙ e)))
        sram same_place on_at away_at
