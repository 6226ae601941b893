use Rattle.std.proofs.Common.{◌≡◌, ap, subst, sym, ◌∙◌, List, Option}
use Rattle.flow_graph.specs.declared.nodes.Node.{Node}
use Rattle.flow_graph.specs.declared.graph.Item.{Item}
use Rattle.flow_graph.specs.Nodes.{all_nodes, around_body, body_nodes, laid_items, node_in, nodes_of}
use Rattle.c_lower.specs.Lowering.{place_at, is_place}
use Rattle.c_lower.proofs.PlaceLemmas.{place_here, place_behind}
use Rattle.c_lower.proofs.programs.place_in.Goals as goal

pub returns-in-Some-place_among : goal.returns-in-Some-place_among
returns-in-Some-place_among c =
    let nodes : c.deref.result.now ≡ body_nodes c.in-Some.f.now = c.deref.ensures.value ∙ (c.in_ok-nodes.ensures ∙ ap (λ (b : List Item). nodes_of (laid_items b) around_body) c.as_slice.ensures) in
    subst (λ (o : Option Node). c.in-Some-place_among.at ≡ place_at o)
    (sym (c.loop-f.invariant ∙ ap (λ l. node_in (all_nodes l) c.args.n) c.in-Some.ensures))
    (place_here (body_nodes c.in-Some.f.now) (all_nodes c.in-Some.rest.now) c.args.n c.in-Some-place_among.at
    (subst (λ (xs : List Node). is_place (node_in xs c.args.n) c.in-Some-place_among.at) nodes c.in-Some-place_among.ensures))

pub loop-f-preserved : goal.loop-f-preserved
loop-f-preserved c =
    let nodes : c.deref.result.now ≡ body_nodes c.in-Some.f.now = c.deref.ensures.value ∙ (c.in_ok-nodes.ensures ∙ ap (λ (b : List Item). nodes_of (laid_items b) around_body) c.as_slice.ensures) in
    c.loop-f.invariant ∙ (ap (λ l. node_in (all_nodes l) c.args.n) c.in-Some.ensures
    ∙ place_behind (body_nodes c.in-Some.f.now) (all_nodes c.in-Some.rest.now) c.args.n (ap (λ (xs : List Node). node_in xs c.args.n) (sym nodes) ∙ c.in-None.ensures))
