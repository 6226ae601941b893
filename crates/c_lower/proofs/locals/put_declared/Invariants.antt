use Rattle.std.proofs.Common.{◌≡◌, ◌++◌, length}
use Rattle.lowered_graphs.specs.Stmts.{declared_locals}
use Rattle.c_lower.proofs.locals.put_declared.Given as goal

abbrev pub invariant-loop-d : goal.invariant-loop-d
invariant-loop-d l = l.onto ++ declared_locals l.left ≡ l.fn.onto ++ declared_locals l.fn.declared

abbrev pub decreases-loop-d : goal.decreases-loop-d
decreases-loop-d l = length l.left
