use Rattle.std.proofs.Common.{◌≡◌, ◌+◌, ◌*◌, ◌≤◌, length}
use Rattle.op_cost.specs.Weights.{overhead}
use Rattle.each_image.specs.Each.{all_weights}
use Rattle.emit_each.proofs.budget.all_fit.Given as goal

abbrev pub invariant-loop-node : goal.invariant-loop-node
invariant-loop-node l = record {
  told : l.spent + all_weights l.fn.b l.left ≡ all_weights l.fn.b l.fn.nodes + overhead l.fn.b;
  small : l.spent + 1421000000 * length l.left ≤ 1421000000 * 4097;
}

abbrev pub decreases-loop-node : goal.decreases-loop-node
decreases-loop-node l = length l.left
