use Rattle.std.proofs.Common.{◌≡◌, ◌+◌, ◌++◌, length}
use Rattle.flow_graph.specs.Owned.{operations, owned_from}
use Rattle.flow_graph.proofs.owned.owned_operations.Given as goal

abbrev pub invariant-loop-func : goal.invariant-loop-func
invariant-loop-func l = record {
  told : l.made.items ++ owned_from l.function l.left ≡ operations l.fn.g;
  places : l.function + length l.left ≡ length l.fn.g.functions;
}

abbrev pub decreases-loop-func : goal.decreases-loop-func
decreases-loop-func l = length l.left
