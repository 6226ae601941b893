use Rattle.std.proofs.Common.{◌≡◌, length}
use Rattle.lowered_graphs.specs.Exprs.{Setting}
use Rattle.c_lower.specs.Emitting.{Leads}
use Rattle.lowered_graphs.specs.Exprs.{copy_arguments}
use Rattle.c_lower.proofs.exprs.copy_arguments.Given as goal

abbrev pub invariant-loop-x : goal.invariant-loop-x
invariant-loop-x l = (s : Setting) → s.homes ≡ l.homes → Leads (copy_arguments s l.fn.params l.fn.args l.place) (copy_arguments s l.names l.left l.place) l.fn.to l.to

abbrev pub decreases-loop-x : goal.decreases-loop-x
decreases-loop-x l = length l.names
