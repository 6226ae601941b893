use Rattle.std.proofs.Common.{sym, ◌∙◌}
use Rattle.chain_units.proofs.PartsLemmas.{continues_behind, continues_here, rest_smaller}
use Rattle.chain_units.proofs.leaves.+continuing.Goals as goal

pub some_continues-loop-item-preserved : goal.some_continues-loop-item-preserved
some_continues-loop-item-preserved t c = record {
  same = c.loop-item.invariant.same ∙ continues_behind c.in-Some.item.now c.loop-item.left.now c.in-Some.rest.now c.continues.result c.in-Some.ensures c.continues.ensures c.if-continues.false;
  smaller = rest_smaller c.in-Some.item.now c.loop-item.left.now c.in-Some.rest.now _ c.in-Some.ensures c.loop-item.invariant.smaller;
}

pub some_continues-returns-then-continues : goal.some_continues-returns-then-continues
some_continues-returns-then-continues t c =
    sym (c.loop-item.invariant.same ∙ continues_here c.in-Some.item.now c.loop-item.left.now c.in-Some.rest.now c.continues.result c.in-Some.ensures c.continues.ensures c.if-continues.true)
