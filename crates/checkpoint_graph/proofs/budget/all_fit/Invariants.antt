use Rattle.std.proofs.Common.{ℕ, ◌<◌}
use Rattle.flow_graph.specs.declared.owned.Owned.{Owned}
use Rattle.flow_graph.specs.Owned.{IsAt}
use Rattle.op_cost.specs.Weights.{Fits}
use Rattle.checkpoint_graph.proofs.budget.all_fit.Given as goal

abbrev pub invariant-loop-at : goal.invariant-loop-at
invariant-loop-at l = (n : ℕ) (x : Owned) → n < l.at → IsAt l.operations n x → Fits l.b x.node.op
