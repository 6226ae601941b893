use Rattle.std.proofs.Common.{length}
use Rattle.lowered_graphs.specs.Exprs.{setting_of}
use Rattle.c_lower.specs.Emitting.{Leads}
use Rattle.lowered_graphs.specs.Stmts.{fill}
use Rattle.c_lower.proofs.declarations.fill.Given as goal

abbrev pub invariant-loop-e : goal.invariant-loop-e
invariant-loop-e l = Leads (fill (setting_of l.p l.homes) l.array 0 l.fn.values l.place) (fill (setting_of l.p l.homes) l.array l.k l.left l.place) l.fn.to l.to

abbrev pub decreases-loop-e : goal.decreases-loop-e
decreases-loop-e l = length l.left
