use Rattle.std.proofs.Common.{length}
use Rattle.cert_state.proofs.amounts.+taken_off.Given as goal

abbrev pub decreases-taken_off : goal.decreases-taken_off
decreases-taken_off l = length l.terms.now
