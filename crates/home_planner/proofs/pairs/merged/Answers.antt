use Rattle.std.proofs.Common.{lit≤}
use Rattle.home_planner.proofs.Merging.{merging_start, merging_more}
use Rattle.home_planner.proofs.pairs.merged.Goals as goal

pub loop-next-init : goal.loop-next-init
loop-next-init c =
    merging_start c.args.left.now c.args.right.now c.new-kept.result.items 18446744073709551615 c.new-kept.ensures.items c.requires.left c.requires.right c.requires.left_small c.requires.right_small (lit≤ tt)

pub loop-next-preserved : goal.loop-next-preserved
loop-next-preserved c =
    merging_more c.args.left.now c.args.right.now c.loop-next.ahead.now c.loop-next.across.now c.loop-next.kept.items c.in-Some.next.pair
    c.in-Some.next.left.now c.in-Some.next.right.now c.keep_lower.new.kept.items c.loop-next.top c.in_ok-top.top c.loop-next.invariant
    c.in-Some.ensures c.in_ok-top.ensures.0 c.in_ok-top.ensures.1
