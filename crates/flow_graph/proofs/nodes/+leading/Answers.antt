use Rattle.std.proofs.Common.{◌∙◌}
use Rattle.flow_graph.proofs.LaidLemmas.{first_more, first_here, rest_smaller}
use Rattle.flow_graph.proofs.nodes.+leading.Goals as goal

pub leading_of-loop-item-preserved : goal.leading_of-loop-item-preserved
leading_of-loop-item-preserved t c = record {
  same = λ n. c.loop-item.invariant.same n ∙ first_more c.in-Some.item.now c.loop-item.left.now c.in-Some.rest.now n c.in-Some.ensures c.in_default-leading.ensures;
  smaller = rest_smaller c.in-Some.item.now c.loop-item.left.now c.in-Some.rest.now _ c.in-Some.ensures c.loop-item.invariant.smaller;
}

pub leading_of-returns-in-Some-leading : goal.leading_of-returns-in-Some-leading
leading_of-returns-in-Some-leading t c = λ n. c.loop-item.invariant.same n
    ∙ first_here c.in-Some.item.now c.loop-item.left.now c.in-Some.rest.now n c.in-Some-leading.number c.in-Some.ensures c.in-Some-leading.ensures
