use Rattle.std.proofs.Common.{◌≡◌, ◌++◌, length}
use Rattle.c_lower.specs.Calling.{table}
use Rattle.c_lower.proofs.reached.table_of.Given as goal

abbrev pub invariant-loop-rest : goal.invariant-loop-rest
invariant-loop-rest l = l.table ++ table l.p l.f l.left ≡ table l.p 0 l.p.functions

abbrev pub decreases-loop-rest : goal.decreases-loop-rest
decreases-loop-rest l = length l.left
