use Rattle.std.proofs.Common.{◌≡◌, ◌++◌, replicate}
use Rattle.c_lower.proofs.numbering.zeros.Given as goal

abbrev pub invariant-loop-missing : goal.invariant-loop-missing
invariant-loop-missing l = l.made ++ replicate l.missing 0 ≡ replicate l.count 0

abbrev pub decreases-loop-missing : goal.decreases-loop-missing
decreases-loop-missing l = l.missing
