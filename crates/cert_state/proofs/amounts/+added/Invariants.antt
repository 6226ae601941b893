use Rattle.std.proofs.Common.{length}
use Rattle.cert_state.proofs.amounts.+added.Given as goal

abbrev pub decreases-added : goal.decreases-added
decreases-added l = length l.terms.now
