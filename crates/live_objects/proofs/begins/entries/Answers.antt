use Rattle.std.proofs.Common.{ℕ, List, [], ◌∷◌, ◌∙◌, ap, sym}
use Rattle.flow_graph.specs.declared.graph.Item.{Item}
use Rattle.flow_graph.specs.Nodes.{first_of, laid_items}
use Rattle.live_objects.specs.GraphArcs.{entries}
use Rattle.flow_graph.proofs.ListLemmas.{append_step}
use Rattle.live_objects.proofs.begins.entries.Goals as goal

pub loop-func-preserved : goal.loop-func-preserved
loop-func-preserved c = append_step c.loop-func.made.items c.put_entry.new.entries.items _ (c.first.result ∷ []) (entries c.in-Some.rest.now) (entries c.loop-func.left.now)
    c.in_ok-put_entry.ensures
    (ap entries c.in-Some.ensures ∙ ap (λ (n : ℕ). n ∷ entries c.in-Some.rest.now) (sym (c.first.ensures ∙ ap (λ (xs : List Item). first_of (laid_items xs) 0) c.as_slice.ensures)))
    c.loop-func.invariant
