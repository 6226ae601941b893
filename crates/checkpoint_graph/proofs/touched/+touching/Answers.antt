use Rattle.flow_graph.proofs.LaidLemmas.{rest_smaller}
use Rattle.checkpoint_graph.specs.Knowing.{known_of}
use Rattle.checkpoint_graph.proofs.TouchedLevels.{touched_more}
use Rattle.checkpoint_graph.proofs.touched.+touching.Goals as goal

pub put_touched-loop-item-preserved : goal.put_touched-loop-item-preserved
put_touched-loop-item-preserved t c = record {
  so_far = touched_more (known_of c.args.on.now) c.in-Some.item.now c.loop-item.left.now c.in-Some.rest.now c.loop-item.objects.items c.put_touched_in.new.objects.items _ c.in-Some.ensures c.in_ok-put_touched_in.ensures
      c.loop-item.invariant.so_far;
  smaller = rest_smaller c.in-Some.item.now c.loop-item.left.now c.in-Some.rest.now _ c.in-Some.ensures c.loop-item.invariant.smaller;
}
