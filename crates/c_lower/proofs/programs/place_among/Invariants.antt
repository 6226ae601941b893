use Rattle.std.proofs.Common.{◌≡◌, length}
use Rattle.flow_graph.specs.Nodes.{node_in}
use Rattle.c_lower.proofs.programs.place_among.Given as goal

abbrev pub invariant-loop-node : goal.invariant-loop-node
invariant-loop-node l = node_in l.fn.nodes l.n ≡ node_in l.left l.n

abbrev pub decreases-loop-node : goal.decreases-loop-node
decreases-loop-node l = length l.left
