use Rattle.flow_graph.proofs.LaidLemmas.{listed_more, rest_smaller}
use Rattle.flow_graph.proofs.nodes.+listing.Goals as goal

pub put_items-loop-item-preserved : goal.put_items-loop-item-preserved
put_items-loop-item-preserved t c = record {
  told = listed_more c.in-Some.item.now c.loop-item.left.now c.in-Some.rest.now c.args.around.now c.at_behind.result c.first-behind.result c.loop-item.nodes.items c.put_item.new.nodes.items _
      c.in-Some.ensures c.first-behind.ensures c.at_behind.ensures c.in_ok-put_item.ensures c.loop-item.invariant.told;
  smaller = rest_smaller c.in-Some.item.now c.loop-item.left.now c.in-Some.rest.now _ c.in-Some.ensures c.loop-item.invariant.smaller;
}
