use Rattle.std.proofs.Common.{◌≡◌, ◌++◌}
use Rattle.c_lower.specs.Beginning.{filled}
use Rattle.c_lower.proofs.numbering.filled.Given as goal

abbrev pub invariant-loop-missing : goal.invariant-loop-missing
invariant-loop-missing l = l.made ++ filled l.missing l.left ≡ filled l.length l.fn.words

abbrev pub decreases-loop-missing : goal.decreases-loop-missing
decreases-loop-missing l = l.missing
