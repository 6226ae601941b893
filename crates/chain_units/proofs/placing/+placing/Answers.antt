use Rattle.std.proofs.Common.{arith}
use Rattle.chain_units.specs.Parts.{branch_parts, switch_parts}
use Rattle.chain_units.proofs.Closing.{on_ok}
use Rattle.chain_units.proofs.ConditionalLemmas.{in_none, in_some}
use Rattle.chain_units.proofs.PartsLemmas.{rest_smaller}
use Rattle.chain_units.proofs.Leading.{behind_smaller, leads_more, leads_pair, leads_start}
use Rattle.chain_units.proofs.Loops.{branch_met, loop_alone, loop_split, not_flat_met, split_met, switch_met}
use Rattle.chain_units.proofs.placing.+placing.Goals as goal

pub place_branch-returns : goal.place_branch-returns
place_branch-returns g t c =
    let k = g.K.Knowledge.known c.args.k.now in
    on_ok c.close-2.result
    (λ closed.
    not_flat_met k c.args.item.now c.args.around.behind (branch_parts k c.args.test.now c.args.yes.now c.args.no.now c.args.around) c.alone-one.result.now c.in_ok-flat.flat c.args.placer.now c.close-2.new.placer c.alone-one.ensures
    c.in_ok-flat.ensures c.if-flat.false
    (branch_met k c.args.test.now c.args.yes.now c.args.no.now c.args.around c.args.placer.now c.join_end.new.placer c.place_items.new.placer c.close.new.placer c.place_items-2.new.placer c.close-2.new.placer c.in_ok-join_end.ensures
    c.in_ok-place_items.ensures c.in_ok-close.ensures c.in_ok-place_items-2.ensures closed))
    c.close-2.ensures

pub place_items-loop-item-init : goal.place_items-loop-item-init
place_items-loop-item-init g t c = record { leads = leads_start (g.K.Knowledge.known c.args.k.now) c.args.around c.args.items.now c.args.placer.now; smaller = omega arith }

pub place_items-loop-item-preserved-then-paired : goal.place_items-loop-item-preserved-then-paired
place_items-loop-item-preserved-then-paired g t c =
    let k = g.K.Knowledge.known c.args.k.now in
    record {
      leads = leads_pair k c.args.around c.args.items.now c.loop-item.left.now c.two_of.result.now c.behind_two-rest.result.now c.first_of-after.result c.in_ok-paired.paired c.args.placer.now c.loop-item.placer c.join_flat.new.placer
          c.loop-item.invariant.leads c.in_ok-paired.ensures c.if-paired.true c.two_of.ensures c.behind_two-rest.ensures c.first_of-after.ensures c.in_ok-join_flat.ensures;
      smaller = behind_smaller c.loop-item.left.now c.behind_two-rest.result.now _ c.behind_two-rest.ensures c.loop-item.invariant.smaller;
    }

pub place_items-loop-item-preserved : goal.place_items-loop-item-preserved
place_items-loop-item-preserved g t c =
    let k = g.K.Knowledge.known c.args.k.now in
    record {
      leads = leads_more k c.args.around c.args.items.now c.loop-item.left.now c.in-Some.item.now c.in-Some.behind.now c.at_behind.result c.first_of-next.result c.in_ok-paired.paired c.args.placer.now c.loop-item.placer c.place_item.new.placer
          c.loop-item.invariant.leads c.in-Some.ensures c.in_ok-paired.ensures c.if-paired.false c.first_of-next.ensures c.at_behind.ensures c.in_ok-place_item.ensures;
      smaller = rest_smaller c.in-Some.item.now c.loop-item.left.now c.in-Some.behind.now _ c.in-Some.ensures c.loop-item.invariant.smaller;
    }

pub place_loop-returns-in-Some : goal.place_loop-returns-in-Some
place_loop-returns-in-Some g t c =
    let k = g.K.Knowledge.known c.args.k.now in
    on_ok c.stand_alone.result
    (λ stands.
    loop_alone k c.args.item.now c.args.pre.now c.args.test.now c.args.post.now c.args.step.now c.args.back.now c.args.around c.in-Some.turning c.args.placer.now c.close.new.placer c.stand_alone.new.placer c.requires c.in_ok-close.ensures
    (in_some _ _ c.in_ok-found.found c.in-Some.turning c.in-Some.is c.in_ok-found.ensures) stands)
    c.stand_alone.ensures

pub place_loop-returns-in-None : goal.place_loop-returns-in-None
place_loop-returns-in-None g t c =
    let k = g.K.Knowledge.known c.args.k.now in
    on_ok c.place_split.result
    (loop_split k c.args.item.now c.args.pre.now c.args.test.now c.args.post.now c.args.step.now c.args.back.now c.args.around c.args.placer.now c.close.new.placer c.place_split.new.placer c.in_ok-close.ensures
    (in_none _ _ c.in_ok-found.found c.in-None.is c.in_ok-found.ensures))
    c.place_split.ensures

pub place_split-returns : goal.place_split-returns
place_split-returns g t c =
    let k = g.K.Knowledge.known c.args.k.now in
    on_ok c.join_end-2.result
    (λ gone.
    split_met k c.args.item.now c.args.pre.now c.args.test.now c.args.post.now c.args.step.now c.args.back.now c.args.around c.first_of-again.result c.in_loop.result c.in_loop-2.result c.in_loop-3.result c.turn_continues.result
    c.args.placer.now c.place_items.new.placer c.join_end.new.placer c.place_items-2.new.placer c.close_where.new.placer c.place_items-3.new.placer c.join_end-2.new.placer c.first_of-again.ensures c.in_loop.ensures
    c.in_ok-place_items.ensures c.in_ok-join_end.ensures c.in_loop-2.ensures c.in_ok-place_items-2.ensures c.turn_continues.ensures (c.in_ok-close_where.ensures k) c.in_loop-3.ensures
    c.in_ok-place_items-3.ensures gone)
    c.join_end-2.ensures

pub place_switch-returns : goal.place_switch-returns
place_switch-returns g t c =
    let k = g.K.Knowledge.known c.args.k.now in
    on_ok c.close.result
    (λ closed.
    not_flat_met k c.args.item.now c.args.around.behind (switch_parts k c.args.items.now c.args.around) c.alone-one.result.now c.in_ok-flat.flat c.args.placer.now c.close.new.placer c.alone-one.ensures c.in_ok-flat.ensures c.if-flat.false
    (switch_met k c.args.items.now c.args.around c.in_switch.result c.args.placer.now c.place_items.new.placer c.close.new.placer c.in_switch.ensures c.in_ok-place_items.ensures closed))
    c.close.ensures
