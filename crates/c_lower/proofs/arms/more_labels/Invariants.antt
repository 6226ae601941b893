use Rattle.std.proofs.Common.{length}
use Rattle.c_lower.specs.Emitting.{Leads}
use Rattle.lowered_graphs.specs.Stmts.{more_labels}
use Rattle.c_lower.proofs.arms.more_labels.Given as goal

abbrev pub invariant-loop-label : goal.invariant-loop-label
invariant-loop-label l = Leads (more_labels l.v l.fn.found l.fn.labels) (more_labels l.v l.found l.left) l.fn.to l.to

abbrev pub decreases-loop-label : goal.decreases-loop-label
decreases-loop-label l = length l.left
