use Rattle.std.proofs.Common.{[], ◌∷◌, ap}
use Rattle.flow_graph.specs.Owned.{owned}
use Rattle.flow_graph.proofs.ListLemmas.{append_step}
use Rattle.flow_graph.proofs.owned.put_owned.Goals as goal

pub loop-node-preserved : goal.loop-node-preserved
loop-node-preserved c = append_step c.loop-node.operations.items c.put_operation.new.operations.items _ (record { function = c.args.function; node = c.in-Some.node.now } ∷ []) (owned c.args.function c.in-Some.rest.now)
    (owned c.args.function c.loop-node.left.now) c.in_ok-put_operation.ensures (ap (owned c.args.function) c.in-Some.ensures) c.loop-node.invariant
