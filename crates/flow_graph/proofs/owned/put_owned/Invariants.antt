use Rattle.std.proofs.Common.{◌≡◌, ◌++◌, length}
use Rattle.flow_graph.specs.Owned.{owned}
use Rattle.flow_graph.proofs.owned.put_owned.Given as goal

abbrev pub invariant-loop-node : goal.invariant-loop-node
invariant-loop-node l = l.operations.items ++ owned l.function l.left ≡ l.fn.operations.items ++ owned l.function l.fn.nodes

abbrev pub decreases-loop-node : goal.decreases-loop-node
decreases-loop-node l = length l.left
