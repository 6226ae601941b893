-- Where one charge pays for each operation, each body fits.
use Rattle.std.specs.Prelude.{Option, Some, slice_get, length}
use Rattle.std.specs.List.{AllByRecursion}
use Rattle.std.proofs.Common.{◌≡◌, ◌≤◌, ◌+◌, ℕ, zero, suc, true, List, [], ◌∷◌, refl, ap, ◌∙◌, subst, arith}
use Rattle.board_table.specs.declared.board.Board.{Board}
use Rattle.flow_graph.specs.declared.graph.Func.{Func}
use Rattle.flow_graph.specs.declared.graph.Graph.{Graph}
use Rattle.flow_graph.specs.declared.graph.Item.{Item}
use Rattle.flow_graph.specs.declared.graph.Item.TheVariants as item
use Rattle.flow_graph.specs.declared.graph.Item.TheOpen.{Item-F}
use Rattle.flow_graph.specs.declared.graph.Op.{Op}
use Rattle.flow_graph.specs.declared.graph.OpKind.{OpKind}
use Rattle.flow_graph.specs.declared.graph.OpKind.TheVariants as kind
use Rattle.flow_graph.specs.declared.nodes.Next.{Next}
use Rattle.flow_graph.specs.declared.owned.Owned.{Owned}
use Rattle.flow_graph.specs.Closed.{IsNextOf}
use Rattle.flow_graph.specs.Owned.{IsAt, operations}
use Rattle.flow_graph.specs.Rules.{IsGraph, OpFits}
use Rattle.flow_graph.proofs.ClosedLemmas.{graphs_are_closed}
use Rattle.item_weights.specs.Weights.{Weight, call, items_weight, with_base}
use Rattle.item_weights.specs.Tallies.{weight_of_parts}
use Rattle.item_weights.specs.Costs.{cost_of, uses_cost}
use Rattle.live_objects.specs.declared.liveness.Liveness.{Liveness}
use Rattle.op_cost.specs.Templates.{template_by, weight_of}
use Rattle.op_cost.specs.Weights.{Fits, overhead, placed, weight}
use Rattle.board_weights.specs.OnBoard.{call_cost, own, prices}
use Rattle.board_weights.proofs.EachKind.{weights_are_costs}
use Rattle.call_summary.specs.declared.telling.Summary.{Summary}
use Rattle.call_summary.specs.Costs.{ArePaid}
use Rattle.call_summary.specs.Summaries.{costs_in}
use Rattle.chain_units.specs.Known.{or_nothing, weight_in_fram}
use Rattle.chain_units.specs.Fits.{BodyFits, NodeFits}
use Rattle.chain_units.specs.Marks.{fits_in_fram}
use Rattle.checkpoint_graph.specs.Knowing.{known, told, told_option}
use Rattle.checkpoint_graph.specs.Placings.{AllFit}
use Rattle.checkpoint_graph.proofs.ItemSums.{item_alone}
use Rattle.checkpoint_graph.proofs.Listing.{all_bodies, all_from_places, flat_cost}
use Rattle.checkpoint_graph.proofs.ToldCosts.{told_cost}

module _ (g : Graph) (live : Liveness) (summaries : List Summary) (b : Board) where
  abbrev n : ℕ
  n = length g.objects

  abbrev costs : List (Option ℕ)
  costs = costs_in summaries

  -- ---- an operation by itself

  one_weight : (op : Op) → items_weight (own b) costs (item.One op ∷ []) ≡ Some (own b op)
  one_weight op = item_alone (own b) costs (item.One op) ∙ ap (λ (l : Item-F Item). weight_of_parts (own b) costs l) (item.outs-One op)

  own_cost : (op : Op) → OpFits g op → weight_in_fram b (told n (own b op)) ≤ weight b [] op
  own_cost op fits = omega (arith, told_cost b (own b op) n, weights_are_costs b [] g op fits)

  one_fits : (op : Op) → OpFits g op → Fits b op → weight_in_fram b (or_nothing (told_option n (items_weight (own b) costs (item.One op ∷ [])))) + overhead b ≤ b.budget
  one_fits op fits paid =
      let e = ap (λ (o : Option Weight). weight_in_fram b (or_nothing (told_option n o))) (one_weight op) in
      omega (arith, e, own_cost op fits, paid)

  -- ---- a call of a flat function

  call_weight : (op : Op) (f cost : ℕ) → slice_get costs f ≡ Some (Some cost) → items_weight (own b) costs (item.CallTo op f ∷ []) ≡ Some (with_base cost (own b op))
  call_weight op f cost e =
      item_alone (own b) costs (item.CallTo op f)
      ∙ (ap (λ (l : Item-F Item). weight_of_parts (own b) costs l) (item.outs-CallTo op f) ∙ ap (λ (o : Option (Option ℕ)). call (own b op) o) e)

  call_costs : (op : Op) → op.kind ≡ kind.Call → weight b [] op ≡ call_cost b
  call_costs op e = let is = ap (λ (k : OpKind). weight_of b (template_by k (placed []) 0 op)) e in omega (arith, is)

  base_more : (w : Weight) (cost m : ℕ) → cost_of (prices b []) m (with_base cost w) ≡ cost_of (prices b []) m w + cost
  base_more w cost m = omega (arith, uses_same w cost m)
    where
      uses_same : (w : Weight) (cost m : ℕ) → uses_cost (prices b []) (with_base cost w) m ≡ uses_cost (prices b []) w m
      uses_same w cost zero = refl
      uses_same w cost (suc m) = omega (arith, uses_same w cost m)

  call_fits : (op : Op) (f cost : ℕ) → OpFits g op → op.kind ≡ kind.Call → slice_get costs f ≡ Some (Some cost) → call_cost b + cost + overhead b ≤ b.budget
      → fits_in_fram (known g live summaries b) (told_option n (items_weight (own b) costs (item.CallTo op f ∷ []))) ≡ true
  call_fits op f cost fits is_call e paid =
      ap (λ (o : Option Weight). fits_in_fram (known g live summaries b) (told_option n o)) (call_weight op f cost e)
      ∙ (let c : weight_in_fram b (told n (with_base cost (own b op))) + overhead b ≤ b.budget =
      omega (arith, told_cost b (with_base cost (own b op)) n, base_more (own b op) cost n, weights_are_costs b [] g op fits, call_costs op is_call, paid) in grind (arith, c))

  -- ---- every operation

  node_fits : IsGraph g → ArePaid b costs → AllFit b (operations g) → (i : ℕ) (x : Owned) → IsAt (operations g) i x → NodeFits (known g live summaries b) x.node
  node_fits rules paid all i x at =
      let closed = graphs_are_closed g rules in
      let fits = closed.fits i x at in
      record {
        alone = one_fits x.node.op fits (all i x at);
        called = λ f m e flat.
            let (cost, has) = flat_cost summaries f flat in
            call_fits x.node.op f cost fits (subst (λ (next : Next). IsNextOf x.node.op.kind next) e (closed.kinds i x at)) has (paid f cost has);
      }

  pub all_bodies_fit : IsGraph g → ArePaid b costs → AllFit b (operations g) → AllByRecursion (λ (f : Func). BodyFits (known g live summaries b) f.body) g.functions
  all_bodies_fit rules paid all =
      all_bodies (NodeFits (known g live summaries b)) 0 g.functions (all_from_places (λ (x : Owned). NodeFits (known g live summaries b) x.node) (operations g) (node_fits rules paid all))
