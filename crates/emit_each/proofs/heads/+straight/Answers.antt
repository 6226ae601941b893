use Rattle.std.proofs.Common.{sym, ◌∙◌}
use Rattle.emit_each.proofs.Straight.{rest_smaller, straight_more, straight_not}
use Rattle.emit_each.proofs.heads.+straight.Goals as goal

pub are_straight-returns-then-not-is_straight : goal.are_straight-returns-then-not-is_straight
are_straight-returns-then-not-is_straight t c =
    sym (c.loop-item.invariant.same ∙ straight_not c.in-Some.item.now c.loop-item.left.now c.in-Some.rest.now c.in-Some.ensures c.if-not-is_straight.ensures)

pub are_straight-loop-item-preserved : goal.are_straight-loop-item-preserved
are_straight-loop-item-preserved t c = record {
  same = c.loop-item.invariant.same ∙ straight_more c.in-Some.item.now c.loop-item.left.now c.in-Some.rest.now c.in-Some.ensures c.if-not-is_straight.ensures;
  smaller = rest_smaller c.in-Some.item.now c.loop-item.left.now c.in-Some.rest.now _ c.in-Some.ensures c.loop-item.invariant.smaller;
}
