use Rattle.std.proofs.Common.{◌≡◌, length}
use Rattle.flow_graph.specs.Nodes.{node_in, all_nodes}
use Rattle.c_lower.proofs.programs.place_in.Given as goal

abbrev pub invariant-loop-f : goal.invariant-loop-f
invariant-loop-f l = node_in (all_nodes l.fn.functions) l.n ≡ node_in (all_nodes l.left) l.n

abbrev pub decreases-loop-f : goal.decreases-loop-f
decreases-loop-f l = length l.left
