use Rattle.std.proofs.Common.{length}
use Rattle.cert_state.proofs.factors.+least_taken.Given as goal

abbrev pub decreases-least_taken : goal.decreases-least_taken
decreases-least_taken l = length l.factors.now
