use Rattle.std.proofs.Common.{length}
use Rattle.lowered_graphs.specs.Exprs.{setting_of}
use Rattle.c_lower.specs.Emitting.{Leads}
use Rattle.lowered_graphs.specs.Stmts.{declare}
use Rattle.c_lower.proofs.declarations.declare.Given as goal

abbrev pub invariant-loop-d : goal.invariant-loop-d
invariant-loop-d l = Leads (declare (setting_of l.p l.homes) l.fn.declared) (declare (setting_of l.p l.homes) l.left) l.fn.to l.to

abbrev pub decreases-loop-d : goal.decreases-loop-d
decreases-loop-d l = length l.left
