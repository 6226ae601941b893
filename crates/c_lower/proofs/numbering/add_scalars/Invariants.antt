use Rattle.std.proofs.Common.{◌≡◌, ◌++◌, replicate}
use Rattle.lowered_graphs.specs.GraphOf.{scalar}
use Rattle.c_lower.proofs.numbering.add_scalars.Given as goal

abbrev pub invariant-loop-missing : goal.invariant-loop-missing
invariant-loop-missing l = l.objects ++ replicate l.missing scalar ≡ l.fn.objects ++ replicate l.count scalar

abbrev pub decreases-loop-missing : goal.decreases-loop-missing
decreases-loop-missing l = l.missing
