use Rattle.std.proofs.Common.{length}
use Rattle.flow_graph.specs.declared.graph.Op.{Op}
use Rattle.emit_each.specs.Emitting.{AllFit, IsFirstMisfit}
use Rattle.emit_each.proofs.budget.first_misfit.Given as goal

abbrev pub invariant-loop-node : goal.invariant-loop-node
invariant-loop-node l = record {
  misfit : (op : Op) → IsFirstMisfit l.fn.b l.left op → IsFirstMisfit l.fn.b l.fn.nodes op;
  all : AllFit l.fn.b l.left → AllFit l.fn.b l.fn.nodes;
}

abbrev pub decreases-loop-node : goal.decreases-loop-node
decreases-loop-node l = length l.left
