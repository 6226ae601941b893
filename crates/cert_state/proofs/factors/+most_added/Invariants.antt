use Rattle.std.proofs.Common.{length}
use Rattle.cert_state.proofs.factors.+most_added.Given as goal

abbrev pub decreases-most_added : goal.decreases-most_added
decreases-most_added l = length l.factors.now
