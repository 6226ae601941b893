use Rattle.std.proofs.Common.{◌+◌, ◌++◌, ◌∙◌, List, length, ap, sym, arith}
use Rattle.flow_graph.specs.declared.nodes.Node.{Node}
use Rattle.flow_graph.specs.declared.graph.Item.{Item}
use Rattle.flow_graph.specs.Nodes.{around_body, laid_items, nodes_of}
use Rattle.flow_graph.specs.Owned.{owned, owned_from}
use Rattle.flow_graph.proofs.ListLemmas.{append_step}
use Rattle.flow_graph.proofs.owned.owned_operations.Goals as goal

pub loop-func-preserved : goal.loop-func-preserved
loop-func-preserved c = record {
  told = append_step c.loop-func.made.items c.put_owned.new.operations.items _ (owned c.loop-func.function c.deref.result.now) (owned_from (c.loop-func.function + 1) c.in-Some.rest.now) (owned_from c.loop-func.function c.loop-func.left.now)
      c.in_ok-put_owned.ensures
      (ap (owned_from c.loop-func.function) c.in-Some.ensures
      ∙ ap (λ (xs : List Node). owned c.loop-func.function xs ++ owned_from (c.loop-func.function + 1) c.in-Some.rest.now) (sym (c.deref.ensures.value ∙ (c.in_ok-nodes.ensures ∙ ap (λ (xs : List Item). nodes_of (laid_items xs) around_body) c.as_slice.ensures))))
      c.loop-func.invariant.told;
  places = let h = ap length c.in-Some.ensures in let n = c.loop-func.invariant.places in omega (arith, h, n);
}
