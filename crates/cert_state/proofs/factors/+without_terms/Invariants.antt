use Rattle.std.proofs.Common.{length}
use Rattle.cert_state.proofs.factors.+without_terms.Given as goal

abbrev pub decreases-without_terms : goal.decreases-without_terms
decreases-without_terms l = length l.terms.now
